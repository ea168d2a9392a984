use Rattle.core_primitives.specs.Preferences.{preference}
use Rattle.machine_rules.specs.Finish.{Doer}
use Rattle.machine_rules.specs.Progress.{Progress}
use Rattle.ops_guests.specs.Ended.{ended}
use Rattle.ops_guests.specs.OpResult.{PicksFirst}
use Rattle.ops_guests.specs.Steps.{label_of}
use Rattle.std.proofs.Common.{Some, ap, subst, sym, ◌∙◌}
use Rattle.ops_subtasks.proofs.CancelLemmas.{cancel_kept, found_implements, found_row, named_call, there_live}
use Rattle.ops_subtasks.proofs.SubtaskLemmas.{named_implements, named_row}
use Rattle.ops_subtasks.proofs.cancels.cancel.Goals as goal
use Rattle.ops_subtasks.specs.Refused.{mode_of}
use Rattle.machine_data.specs.Read.{is_joined, join_of}
use Rattle.machine_data.specs.declared.records.Subtask.TheVariants as subtask
use Rattle.ops_guests.proofs.DoesLemmas.{same_rest}
use Rattle.machine_rules.specs.Cancels.{cancel_found_by}
use Rattle.core_primitives.specs.Names.{subtask_in}
use Rattle.core_primitives.specs.StateView.{call_of, thread_of, work_of}
use Rattle.core_primitives.specs.declared.names.SubtaskId.{SubtaskId}

pub cancel_guest-requires-clause-there : goal.cancel_guest-requires-clause-there
cancel_guest-requires-clause-there g c =
    let s = g.W.View.view c.args.w.now in
    named_call c.instance_of-instance.result c.args.handle (call_of s c.in-Guest.call) (subtask_in s.tags c.in-Some.subtask) s.core c.requires.calls (ap (subtask_in s.tags) c.in-Guest.is) c.in-Some.ensures.is

pub cancel_guest-requires-clause-named : goal.cancel_guest-requires-clause-named
cancel_guest-requires-clause-named g c =
    let s = g.W.View.view c.args.w.now in
    there_live (call_of s c.in-Guest.call) s.core c.none_is_zero.ensures.calls (named_call c.instance_of-instance.result c.args.handle (call_of s c.in-Guest.call) (subtask_in s.tags c.in-Some.subtask) s.core c.requires.calls (ap (subtask_in s.tags) c.in-Guest.is) c.in-Some.ensures.is)

pub returns-in-Guest-clause-does : goal.returns-in-Guest-clause-does
returns-in-Guest-clause-does g c =
    let s = g.W.View.view c.args.w.now in
    let n = thread_of s c.args.thread in
    let m = mode_of c.args.sync in
    let q = subtask.Guest (call_of s c.in-Guest.call) in
    let done = c.cancel_guest.ensures.does in
    let meets = λ (d : Doer). named_implements n _ c.args.handle q (cancel_found_by d m n s.core) s.core _ _ c.instance_of-instance.ensures (ap (λ (x : SubtaskId). Some (subtask_in s.tags x)) (sym c.in-Guest.is) ∙ c.in-Some.ensures.is)
    (cancel_kept m n d c.instance_of-instance.result c.args.handle s.core c.none_is_zero.ensures.works c.requires.calls)
    (found_implements m n d q s.core _ _ (ap (λ (x : SubtaskId). is_joined (join_of (subtask_in s.tags x) s.core)) (sym c.in-Guest.is) ∙ (sym c.is_joined.ensures ∙ c.if-is_joined.false)) (done.implements d)) in
    record {
      implements = meets;
      picks = λ d. subst (λ (row : Progress). PicksFirst (preference s) row (label_of n c.cancel_guest.result) s.core c.cancel_guest.result (ended d n c.cancel_guest.result (g.W.View.view c.cancel_guest.new.w).core))
          (sym (named_row n _ c.args.handle q (cancel_found_by d m n s.core) s.core c.instance_of-instance.ensures (ap (λ (x : SubtaskId). Some (subtask_in s.tags x)) (sym c.in-Guest.is) ∙ c.in-Some.ensures.is)
          (cancel_kept m n d c.instance_of-instance.result c.args.handle s.core c.none_is_zero.ensures.works c.requires.calls)
          ∙ found_row m n d q s.core (ap (λ (x : SubtaskId). is_joined (join_of (subtask_in s.tags x) s.core)) (sym c.in-Guest.is) ∙ (sym c.is_joined.ensures ∙ c.if-is_joined.false)))) (done.picks d);
      stays = done.stays;
      kept = done.kept;
    }

pub returns-in-Host-clause-does : goal.returns-in-Host-clause-does
returns-in-Host-clause-does g c =
    let s = g.W.View.view c.args.w.now in
    let n = thread_of s c.args.thread in
    let m = mode_of c.args.sync in
    let q = subtask.Host (work_of s c.in-Host.work) in
    let done = c.cancel_host.ensures.does in
    let meets = λ (d : Doer). named_implements n _ c.args.handle q (cancel_found_by d m n s.core) s.core _ _ c.instance_of-instance.ensures (ap (λ (x : SubtaskId). Some (subtask_in s.tags x)) (sym c.in-Host.is) ∙ c.in-Some.ensures.is)
    (cancel_kept m n d c.instance_of-instance.result c.args.handle s.core c.none_is_zero.ensures.works c.requires.calls)
    (found_implements m n d q s.core _ _ (ap (λ (x : SubtaskId). is_joined (join_of (subtask_in s.tags x) s.core)) (sym c.in-Host.is) ∙ (sym c.is_joined.ensures ∙ c.if-is_joined.false)) (done.implements d)) in
    record {
      implements = meets;
      picks = λ d. subst (λ (row : Progress). PicksFirst (preference s) row (label_of n c.cancel_host.result) s.core c.cancel_host.result (ended d n c.cancel_host.result (g.W.View.view c.cancel_host.new.w).core))
          (sym (named_row n _ c.args.handle q (cancel_found_by d m n s.core) s.core c.instance_of-instance.ensures (ap (λ (x : SubtaskId). Some (subtask_in s.tags x)) (sym c.in-Host.is) ∙ c.in-Some.ensures.is)
          (cancel_kept m n d c.instance_of-instance.result c.args.handle s.core c.none_is_zero.ensures.works c.requires.calls)
          ∙ found_row m n d q s.core (ap (λ (x : SubtaskId). is_joined (join_of (subtask_in s.tags x) s.core)) (sym c.in-Host.is) ∙ (sym c.is_joined.ensures ∙ c.if-is_joined.false)))) (done.picks d);
      stays = done.stays;
      kept = same_rest s (g.W.View.view c.cancel_host.new.w) done.kept;
    }
