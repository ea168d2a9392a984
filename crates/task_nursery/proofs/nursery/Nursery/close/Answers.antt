-- The open works were asked to end.
use Rattle.std.proofs.Common.{ap, refl, subst, sym, ◌∙◌}
use Rattle.std.specs.Prelude.{List, ℕ, ◌≡◌}
use Rattle.machine_data.specs.Core.{Core}
use Rattle.task_nursery.proofs.GroupLemmas.{groups_aborted}
use Rattle.task_nursery.proofs.KeptLemmas.{those_are_all}
use Rattle.task_nursery.specs.Numbers.{numbered}
use Rattle.task_nursery.specs.Scope.{AreOf, IsOf, Scope, all_aborted, those_aborted}
use Rattle.task_nursery.specs.declared.children.Kept.{Kept}
use Rattle.core_primitives.specs.StateView.{StateView, on_core}
use Rattle.task_nursery.proofs.nursery.Nursery.close.Goals as goal

pub abort_all-requires-clause-of : goal.abort_all-requires-clause-of
abort_all-requires-clause-of g c = rw c.deref.ensures.value (subst (λ (n : Scope). IsOf n c.args.store.now.state) (sym c.self.view_is) c.requires.of)

pub returns-clause-of : goal.returns-clause-of
returns-clause-of g c = rw c.deref.ensures.value at c.abort_all.ensures.of

pub returns-clause-groups : goal.returns-clause-groups
returns-clause-groups g c =
    let s = c.args.store.now in
    let asked = rw (c.deref.ensures.value, c.deref-2.ensures.value) at c.abort_all.ensures.state in
    λ is. rw asked (is ∙ sym (groups_aborted (numbered c.self.inside.children.items) c.self.inside.running.items s.state.core))

pub returns-clause-state : goal.returns-clause-state
returns-clause-state g c =
    let s = c.args.store.now.state in
    let ks = c.self.inside.children.items in
    let ns = c.self.inside.running.items in
    let core : those_aborted (numbered ks) ns s.core ≡ all_aborted c.args.self.now.children s.core =
    ap (λ (js : List ℕ). those_aborted (numbered ks) js s.core) c.self.invariant.numbers ∙ (those_are_all ks s.core ∙ ap (λ (n : Scope). all_aborted n.children s.core) c.self.view_is) in
    let asked = rw (c.deref.ensures.value, c.deref-2.ensures.value) at c.abort_all.ensures.state in
    asked ∙ ap (λ (u : Core). record c.args.store.now { works = c.abort_all.new.store.works; state = record s { core = u } }) core
