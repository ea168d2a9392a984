-- The child that was found is the least one that has ended, and is ended.
use Rattle.std.proofs.Common.{ap, arith, get_or, length, refl, subst, sym, ◌∙◌, ◌<◌, ◌≤◌}
use Rattle.std.specs.Prelude.{List, Option, Some, slice_get, slice_set, true, false, ℕ, ◌+◌, ◌-◌, ◌≡◌}
use Rattle.machine_data.specs.Core.{Core}
use Rattle.task_nursery.proofs.KeptLemmas.{are_set}
use Rattle.task_nursery.proofs.NumberLemmas.{numbered_is}
use Rattle.task_nursery.proofs.TallyLemmas.{first_has_ended, found_at, is_counted, least_first, one_kept, tallies_less}
use Rattle.task_nursery.specs.Children.{ended, has_ended, is_open_call, left_by}
use Rattle.task_nursery.specs.Numbers.{first_where, numbered}
use Rattle.task_nursery.specs.Scope.{AreOf, IsOf, Scope, ended_at, left_at}
use Rattle.task_nursery.specs.declared.children.Kept.{Kept}
use Rattle.ops_turns.specs.Turn.{CoreInOrder}
use Rattle.core_primitives.specs.Groups.{IsAsked}
use Rattle.core_primitives.specs.StateView.{StateView, on_core}
use Rattle.task_nursery.proofs.nursery.Nursery.turn.Goals as goal

pub first_ended-requires-clause-of : goal.first_ended-requires-clause-of
first_ended-requires-clause-of g c = rw c.deref.ensures.value (subst (λ (n : Scope). IsOf n c.args.store.now.state) (sym c.self.view_is) c.requires.of)

pub first_ended-requires-clause-tallies : goal.first_ended-requires-clause-tallies
first_ended-requires-clause-tallies g c = rw (c.deref.ensures.value, c.deref-2.ensures.value) c.self.invariant

pub returns-in-None-clause-least : goal.returns-in-None-clause-least
returns-in-None-clause-least g c =
    let s = c.args.store.now.state.core in
    let first = rw (c.deref.ensures.value, c.deref-2.ensures.value) at c.in-None.ensures.first in
    sym (sym (ap (λ (n : Scope). first_where (has_ended s) 1 n.children) c.self.view_is) ∙ (sym (least_first s c.self.inside.children.items c.self.inside.running.items c.self.invariant.numbers) ∙ first))

pub overflow_sub-place : goal.overflow_sub-place
overflow_sub-place g c =
    let s = c.args.store.now.state.core in
    let ks = c.self.inside.children.items in
    let ns = c.self.inside.running.items in
    let k = c.remove-number.result in
    let first = rw (c.deref.ensures.value, c.deref-2.ensures.value) at c.in-Some.ensures.first in
    let within = rw c.deref-2.ensures.value at c.in-Some.ensures.there in
    let f = found_at s ks ns c.in-Some.at k c.self.invariant.numbers first within c.remove-number.ensures.value in
    let some = f.some in omega (arith, some)

pub index-requires : goal.index-requires
index-requires g c =
    let s = c.args.store.now.state.core in
    let ks = c.self.inside.children.items in
    let ns = c.self.inside.running.items in
    let k = c.remove-number.result in
    let first = rw (c.deref.ensures.value, c.deref-2.ensures.value) at c.in-Some.ensures.first in
    let within = rw c.deref-2.ensures.value at c.in-Some.ensures.there in
    let f = found_at s ks ns c.in-Some.at k c.self.invariant.numbers first within c.remove-number.ensures.value in
    let some = f.some in let few = f.few in let size = c.deref.ensures.len in let same = ap (λ (q : List Kept). length q) c.deref.ensures.value in omega (arith, some, few, size, same)

pub index_mut-requires : goal.index_mut-requires
index_mut-requires g c =
    let s = c.args.store.now.state.core in
    let ks = c.self.inside.children.items in
    let ns = c.self.inside.running.items in
    let k = c.remove-number.result in
    let first = rw (c.deref.ensures.value, c.deref-2.ensures.value) at c.in-Some.ensures.first in
    let within = rw c.deref-2.ensures.value at c.in-Some.ensures.there in
    let f = found_at s ks ns c.in-Some.at k c.self.invariant.numbers first within c.remove-number.ensures.value in
    let some = f.some in let few = f.few in let size = c.deref.ensures.len in let same = ap (λ (q : List Kept). length q) c.deref.ensures.value in omega (arith, some, few, size, same)

pub fewer-self-inside-requires : goal.fewer-self-inside-requires
fewer-self-inside-requires g c =
    let s = c.args.store.now.state.core in
    let ks = c.self.inside.children.items in
    let ns = c.self.inside.running.items in
    let k = c.remove-number.result in
    let first = rw (c.deref.ensures.value, c.deref-2.ensures.value) at c.in-Some.ensures.first in
    let within = rw c.deref-2.ensures.value at c.in-Some.ensures.there in
    let f = found_at s ks ns c.in-Some.at k c.self.invariant.numbers first within c.remove-number.ensures.value in
    let y = c.index.result.now in
    let seen = numbered_is ks k y f.some f.few c.index.ensures in
    λ kind. let counted = is_counted ks k y s seen kind in let calls = c.self.invariant.calls in omega (arith, counted, calls)

pub end-requires : goal.end-requires
end-requires g c =
    let s = c.args.store.now.state.core in
    let ks = c.self.inside.children.items in
    let ns = c.self.inside.running.items in
    let k = c.remove-number.result in
    let first = rw (c.deref.ensures.value, c.deref-2.ensures.value) at c.in-Some.ensures.first in
    let within = rw c.deref-2.ensures.value at c.in-Some.ensures.there in
    let f = found_at s ks ns c.in-Some.at k c.self.invariant.numbers first within c.remove-number.ensures.value in
    let state = ap (λ store. store.state) c.first_ended.ensures.rest in
    let x = c.index_mut.result.now in
    let here = numbered_is ks k x f.some f.few c.index_mut.ensures.value in
    record { ended = subst (λ (u : StateView). has_ended u.core x ≡ true) (sym state) (first_has_ended s ks ns k x f.found here) }

pub invariant_of-self : goal.invariant_of-self
invariant_of-self g c =
    let s = c.args.store.now.state.core in
    let ks = c.self.inside.children.items in
    let ns = c.self.inside.running.items in
    let k = c.remove-number.result in
    let first = rw (c.deref.ensures.value, c.deref-2.ensures.value) at c.in-Some.ensures.first in
    let within = rw c.deref-2.ensures.value at c.in-Some.ensures.there in
    let f = found_at s ks ns c.in-Some.at k c.self.invariant.numbers first within c.remove-number.ensures.value in
    let state = ap (λ store. store.state) c.first_ended.ensures.rest in
    let x = c.index_mut.result.now in
    let here = numbered_is ks k x f.some f.few c.index_mut.ensures.value in
    let y = c.index.result.now in
    let seen = numbered_is ks k y f.some f.few c.index.ensures in
    let same = one_kept ks k y x seen here in
    rw (c.end.ensures.kept, state, c.remove-number.ensures.items)
    (tallies_less s ks ns c.self.inside.calls c.in-Some.at k x c.fewer-self-inside.result c.self.invariant f.place here
    (λ kind. c.fewer-self-inside.ensures.call (subst (λ (q : Kept). is_open_call q ≡ true) (sym same) kind))
    (λ kind. c.fewer-self-inside.ensures.other (subst (λ (q : Kept). is_open_call q ≡ false) (sym same) kind)))

pub returns-in-Some-clause-least : goal.returns-in-Some-clause-least
returns-in-Some-clause-least g c =
    let s = c.args.store.now.state.core in
    let ks = c.self.inside.children.items in
    let ns = c.self.inside.running.items in
    let k = c.remove-number.result in
    let first = rw (c.deref.ensures.value, c.deref-2.ensures.value) at c.in-Some.ensures.first in
    let within = rw c.deref-2.ensures.value at c.in-Some.ensures.there in
    let f = found_at s ks ns c.in-Some.at k c.self.invariant.numbers first within c.remove-number.ensures.value in
    sym (sym (ap (λ (n : Scope). first_where (has_ended s) 1 n.children) c.self.view_is) ∙ (sym (least_first s ks ns c.self.invariant.numbers) ∙ f.found))

pub returns-in-Some-clause-ended : goal.returns-in-Some-clause-ended
returns-in-Some-clause-ended g c =
    let s = c.args.store.now.state.core in
    let ks = c.self.inside.children.items in
    let ns = c.self.inside.running.items in
    let k = c.remove-number.result in
    let first = rw (c.deref.ensures.value, c.deref-2.ensures.value) at c.in-Some.ensures.first in
    let within = rw c.deref-2.ensures.value at c.in-Some.ensures.there in
    let f = found_at s ks ns c.in-Some.at k c.self.invariant.numbers first within c.remove-number.ensures.value in
    let state = ap (λ store. store.state) c.first_ended.ensures.rest in
    let x = c.index_mut.result.now in
    let here = numbered_is ks k x f.some f.few c.index_mut.ensures.value in
    let kept = c.end.ensures.kept ∙ ap (λ (u : StateView). ended u.core x) state in
    let children : slice_set ks (k - 1) c.end.new.self ≡ ended_at s k ks (numbered ks k) = ap (λ (q : Kept). slice_set ks (k - 1) q) kept ∙ sym (ap (λ (o : Option Kept). ended_at s k ks o) here) in
    let with : List Kept → Scope = λ q. record { limit = c.self.inside.limit; closed = c.self.inside.closed; children = q } in
    let left = c.end.ensures.state ∙ (ap (λ (u : StateView). on_core (left_by x) u) state ∙ sym (ap (λ (o : Option Kept). on_core (left_at o) c.args.store.now.state) here)) in
    rw (sym c.self.view_is) (ap with children, left)

pub returns-in-Some-clause-of : goal.returns-in-Some-clause-of
returns-in-Some-clause-of g c =
    let s = c.args.store.now.state.core in
    let ks = c.self.inside.children.items in
    let ns = c.self.inside.running.items in
    let k = c.remove-number.result in
    let first = rw (c.deref.ensures.value, c.deref-2.ensures.value) at c.in-Some.ensures.first in
    let within = rw c.deref-2.ensures.value at c.in-Some.ensures.there in
    let f = found_at s ks ns c.in-Some.at k c.self.invariant.numbers first within c.remove-number.ensures.value in
    let state = ap (λ store. store.state) c.first_ended.ensures.rest in
    let x = c.index_mut.result.now in
    let here = numbered_is ks k x f.some f.few c.index_mut.ensures.value in
    let are = subst (λ (u : StateView). AreOf ks u) (sym state) (subst (λ (n : Scope). IsOf n c.args.store.now.state) (sym c.self.view_is) c.requires.of) in
    rw c.end.ensures.kept (are_set ks (k - 1) x c.first_ended.new.store.state c.end.new.store.state c.end.ensures.state are)

pub returns-in-Some-clause-keeps : goal.returns-in-Some-clause-keeps
returns-in-Some-clause-keeps g c =
    let same = sym (ap (λ store. store.state) c.first_ended.ensures.rest) in
    record {
      order = λ d p in_turn. c.end.ensures.order d p (subst (λ (u : StateView). CoreInOrder d p u.core) same in_turn);
      asked = λ is. c.end.ensures.groups (subst (λ (u : StateView). IsAsked u) same is);
      rest = rw (c.end.ensures.rest, c.first_ended.ensures.rest) refl;
    }

pub returns-in-None-clause-keeps : goal.returns-in-None-clause-keeps
returns-in-None-clause-keeps g c =
    let same = sym (ap (λ store. store.state) c.first_ended.ensures.rest) in
    record {
      order = λ d p in_turn. subst (λ (u : StateView). CoreInOrder d p u.core) same in_turn;
      asked = λ is. subst (λ (u : StateView). IsAsked u) same is;
      rest = rw c.first_ended.ensures.rest refl;
    }

pub returns-in-Some-clause-hosts : goal.returns-in-Some-clause-hosts
returns-in-Some-clause-hosts g c = c.end.ensures.hosts g.H.HostWork.course c.first_ended.ensures.hosts
