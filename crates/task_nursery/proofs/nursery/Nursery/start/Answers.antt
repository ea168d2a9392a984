-- The call is a child more, or the store has refused it.
use Rattle.std.proofs.Common.{ap, arith, length, refl, rules, subst, sym, ◌∙◌, ◌+◌, ◌<◌}
use Rattle.std.specs.Prelude.{List, [], false, ℕ, ◌++◌, ◌∷◌, ◌≡◌}
use Rattle.task_group.specs.Listeners.{ToldListeners}
use Rattle.task_loop.proofs.CallStartLemmas.{start_told, stop_starts}
use Rattle.task_loop.proofs.HookLemmas.{knows_trapped}
use Rattle.task_loop.proofs.LackLemmas.{tells_none}
use Rattle.task_loop.specs.LoopCalls.{callee_of}
use Rattle.machine_data.specs.declared.records.NoticeKind.TheVariants as notice
use Rattle.task_nursery.proofs.KeptLemmas.{are_later, are_more}
use Rattle.task_nursery.proofs.ScopeLemmas.{length_last}
use Rattle.task_loop.proofs.LastLemmas.{start_last}
use Rattle.task_nursery.proofs.StartLemmas.{begins_refused, tells_refused}
use Rattle.task_nursery.proofs.TallyLemmas.{tallies_more}
use Rattle.task_nursery.specs.Scope.{AreOf, IsOf, Scope, with_child}
use Rattle.task_nursery.specs.declared.children.Kept.{Kept}
use Rattle.task_nursery.specs.declared.children.Kept.TheVariants as kept
use Rattle.machine_rules.specs.Notices.{told_of}
use Rattle.task_nursery.proofs.nursery.Nursery.start.Goals as goal

pub invariant_of-self-in-Ok : goal.invariant_of-self-in-Ok
invariant_of-self-in-Ok g c =
    let ks = c.self.inside.children.items in
    let few = subst (λ (n : Scope). length n.children < 4294967295) (sym c.self.view_is) c.requires.few in
    let next = c.add.ensures.number ∙ ap (λ (q : List Kept). length q + 1) c.make_room.ensures.children in
    rw (c.add.ensures.children, c.add.ensures.running, c.make_room.ensures.children, c.make_room.ensures.running)
    (tallies_more ks c.self.inside.running.items c.self.inside.calls (kept.Call c.args.func c.in-Ok.call) c.add.result.number (c.self.inside.calls + 1) c.self.invariant few refl next (λ is. refl) (λ is. absurd (cc)))

pub returns-in-Ok-clause-begins : goal.returns-in-Ok-clause-begins
returns-in-Ok-clause-begins g c =
    let s = c.args.store.now in
    let t = c.start_call_concurrent.new.store in
    let are = subst (λ (n : Scope). IsOf n s.state) (sym c.self.view_is) c.requires.of in
    let k = kept.Call c.args.func c.in-Ok.call in
    let had = c.make_room.new.children.items in
    let children : c.add.new.children.items ≡ c.self.inside.children.items ++ k ∷ [] = c.add.ensures.children ∙ ap (λ (ks : List Kept). ks ++ k ∷ []) c.make_room.ensures.children in
    let seen : List Kept → Scope = λ ks. record { limit = c.self.inside.limit; closed = c.self.inside.closed; children = ks } in
    let size = ap length c.add.ensures.children ∙ length_last had k in
    let next = c.add.ensures.number in
    let number : c.add.result.number ≡ length c.add.new.children.items = omega (arith, size, next) in
    record {
      refuses = search rules;
      begins = λ unclosed room. (c.in-Ok.call, ap seen children ∙ ap (λ (n : Scope). with_child k n) c.self.view_is, number, c.in-Ok.ensures.does.starts);
      told = λ holds. (
        subst (λ (k : ℕ). ToldListeners (told_of notice.Start k ∷ []) s.listeners t.listeners) c.in-Ok.ensures.does.group
            (start_told c.args.component.now (callee_of c.args.func) c.args.params.now s c.in-Ok.call t c.in-Ok.ensures.does),
        λ err. let same = c.in-Ok.ensures.does.begun.hook_is_ok in omega (arith, same, err),
      );
      of = rw (c.add.ensures.children, c.make_room.ensures.children)
          (are_more c.self.inside.children.items (kept.Call c.args.func c.in-Ok.call) s.state t.state (start_last _ _ _ _ _ _ _ c.in-Ok.ensures.does.starts) are tt);
    }

pub returns-in-Err-clause-begins : goal.returns-in-Err-clause-begins
returns-in-Err-clause-begins g c =
    let s = c.args.store.now in
    let t = c.start_call_concurrent.new.store in
    let are = subst (λ (n : Scope). IsOf n s.state) (sym c.self.view_is) c.requires.of in
    let ks = c.self.inside.children.items in
    let starts = stop_starts c.args.component.now (callee_of c.args.func) c.args.params.now false s c.in-Err.e t c.in-Err.ensures.does in
    record {
      refuses = search rules;
      begins = λ unclosed room. rw c.refusal.ensures (begins_refused c.args.component.now c.args.func c.args.params.now c.args.self.now _ s t c.in-Err.e (starts, c.in-Err.ensures.does.state));
      told = λ holds. rw c.refusal.ensures (tells_refused s t c.in-Err.e c.in-Err.ensures.does.unhooked);
      of = rw c.make_room.ensures.children
          (knows_trapped AreOf ks ks s.state t.state refl c.in-Err.ensures.does.state (λ u last had. are_later ks s.state u last had) are);
    }

-- there is no room for a child more
pub returns-then-is_err-clause-begins : goal.returns-then-is_err-clause-begins
returns-then-is_err-clause-begins g c =
    record {
      refuses = search rules;
      begins = λ unclosed room. search rules;
      told = λ holds. tells_none _ _ refl;
      of = search rules;
    }
