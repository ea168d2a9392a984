use Rattle.core_removals.proofs.JoinLemmas.{call_apart, call_group_left, call_joined, call_removed}
use Rattle.core_removals.proofs.call_removals.delete_joined.Goals as goal
use Rattle.core_records.proofs.Core.{ap, ap₂, call_group, call_of, false, group_settled, has_thread, Join, join_of, KeepsBut, lost_call, refl, remove_call, seen, StateView, subst, Subtask, sym, ◌∙◌, ◌≡◌}

pub delete_outlined-requires-clause-last : goal.delete_outlined-requires-clause-last
delete_outlined-requires-clause-last c = subst (λ (v : StateView). has_thread (call_of v c.args.call) v.core ≡ false) (sym c.set_join.ensures.new) (call_apart _ _ _ ∙ c.requires.last)

pub delete_outlined-requires-clause-join : goal.delete_outlined-requires-clause-join
delete_outlined-requires-clause-join c = subst (λ (v : StateView). join_of (Subtask.Guest (call_of v c.args.call)) v.core ≡ Join.Nowhere) (sym c.set_join.ensures.new) (call_joined _ _ _ refl)

pub returns-clause-new : goal.returns-clause-new
returns-clause-new c =
    record {
      core =
          c.delete_outlined.ensures.new.core
          ∙ ap₂ group_settled (ap (λ (v : StateView). call_group (call_of v c.args.call) v.core) c.set_join.ensures.new ∙ call_group_left _ _ _) (ap (λ (v : StateView). remove_call (call_of v c.args.call) v.core) c.set_join.ensures.new ∙ call_removed _ _ _);
      current = c.delete_outlined.ensures.new.current ∙ ap (λ (v : StateView). v.current) c.set_join.ensures.new;
      tags = subst (λ (v : StateView). KeepsBut (lost_call (call_of v c.args.call)) v.tags (seen c.delete_outlined.new.parts).tags) c.set_join.ensures.new c.delete_outlined.ensures.new.tags;
    }
