use Rattle.core_removals.proofs.call_removals.delete_outlined.Goals as goal
use Rattle.core_records.proofs.Core.{ap, ap₂, call_of, Core, get, get-remove_same, group_key, group_settled, GroupKey, item_at, item_of, KeepsBut, lost_call, None, number_of, remove_call, seen, StateView, subst, sym, TableId, Tags, ℕ, ◌<◌, ◌∙◌, ◌≡◌}
use Rattle.core_records.specs.declared.{parts.CoreParts.CoreParts}

call_gone : (k : ℕ) (s : Core) → get (remove_call k s).calls k ≡ None
unfolding remove_call
call_gone k s = get-remove_same s.calls k

-- the groups are as they were
group_on : (a b : CoreParts) → b ≡ record a { results = b.results } → (id : TableId GroupKey) → number_of group_key b.groups id.rep id.serial ≡ number_of group_key a.groups id.rep id.serial
group_on a b only id = ap (λ (x : CoreParts). number_of group_key x.groups id.rep id.serial) only

pub leave_room-requires-clause-gone : goal.leave_room-requires-clause-gone
leave_room-requires-clause-gone c =
    ap (λ (s : Core). get s.calls c.call_there-found.result.now.number) c.drop_call.ensures.new.core
    ∙ (ap (get (remove_call (call_of (seen c.args.parts.now) c.args.call) (seen c.args.parts.now).core).calls) c.call_there-found.ensures.number ∙ call_gone _ _)

pub settle_counted-requires-clause-live : goal.settle_counted-requires-clause-live
settle_counted-requires-clause-live c = subst (λ (n : ℕ). 0 < n) (sym (group_on c.drop_call.new.parts c.leave_room.new.parts c.leave_room.ensures.only c.drop_call.result.0 ∙ c.drop_call.ensures.group)) c.drop_call.ensures.positive

pub settle_counted-requires-clause-item : goal.settle_counted-requires-clause-item
settle_counted-requires-clause-item c = c.drop_call.ensures.item ∙ sym (ap (λ (x : CoreParts). item_at item_of x.groups c.drop_call.result.0.rep c.drop_call.result.0.serial) c.leave_room.ensures.only)

pub returns-clause-new : goal.returns-clause-new
returns-clause-new c =
    record {
      core =
          ap (λ (v : StateView). v.core) c.settle_counted.ensures.new
          ∙ ap₂ group_settled (group_on c.drop_call.new.parts c.leave_room.new.parts c.leave_room.ensures.only c.drop_call.result.0 ∙ c.drop_call.ensures.group) (ap (λ (v : StateView). v.core) c.leave_room.ensures.seen ∙ c.drop_call.ensures.new.core);
      current = ap (λ (v : StateView). v.current) c.settle_counted.ensures.new ∙ (ap (λ (v : StateView). v.current) c.leave_room.ensures.seen ∙ c.drop_call.ensures.new.current);
      tags = subst (λ (t : Tags). KeepsBut (lost_call (call_of (seen c.args.parts.now) c.args.call)) (seen c.args.parts.now).tags t) (sym (ap (λ (v : StateView). v.tags) c.settle_counted.ensures.new ∙ ap (λ (v : StateView). v.tags) c.leave_room.ensures.seen)) c.drop_call.ensures.new.tags;
    }
