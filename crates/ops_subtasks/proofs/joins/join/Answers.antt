use Rattle.std.proofs.Common.{ap, subst, sym, ◌∙◌, ℕ}
use Rattle.core_primitives.specs.Preferences.{preference}
use Rattle.machine_rules.specs.Finish.{Doer}
use Rattle.ops_guests.proofs.CalmLemmas.{loose_picks}
use Rattle.ops_subtasks.proofs.JoinLemmas.{join_none, to_kept, to_set, to_zero}
use Rattle.ops_subtasks.proofs.SubtaskLemmas.{named_implements}
use Rattle.ops_subtasks.proofs.joins.join.Goals as goal
use Rattle.machine_data.specs.Labels.{choice_of}
use Rattle.machine_data.specs.Read.{set_at}
use Rattle.ops_guests.specs.OpResult.{Implements}
use Rattle.ops_guests.specs.Ended.{ended}
use Rattle.ops_guests.specs.Steps.{label_of}
use Rattle.machine_rules.specs.Progress.{Progress}
use Rattle.machine_rules.specs.Sets.{join_to_by}
use Rattle.core_primitives.specs.Names.{subtask_in}
use Rattle.core_primitives.specs.StateView.{set_of, thread_of}

pub returns-then-set-eq0 : goal.returns-then-set-eq0
returns-then-set-eq0 g c =
    let v = g.W.View.view in
    let s = v c.args.w.now in
    let n = thread_of s c.args.thread in
    let q = subtask_in s.tags c.in-Some.subtask in
    let r = c.join_set.result in
    let t = (v c.join_set.new.w).core in
    let w = (choice_of (label_of n r)).woken in
    let done = c.join_set.ensures.does in
    let meets = λ (d : Doer). named_implements n _ c.args.handle q (join_to_by d n c.args.set w s.core) s.core _ _ c.instance_of-instance.ensures c.in-Some.ensures.is (λ sub at. to_kept d n c.args.set w s.core c.none_is_zero.ensures.calls c.none_is_zero.ensures.works sub)
    (subst (λ (p : Progress). Implements p s.core r (ended d n r t)) (sym (to_zero d n c.args.set w s.core q c.if-set-eq0.true)) (done.implements d)) in
    record {
      does = record {
        implements = meets;
        picks = λ d. loose_picks (preference s) _ (label_of n r) s.core r (ended d n r t) (join_none d n s.core c.args.handle c.args.set w) (done.picks d).shows (meets d);
        stays = done.stays;
        kept = done.kept;
      };
    }

pub returns : goal.returns
returns g c =
    let v = g.W.View.view in
    let s = v c.args.w.now in
    let n = thread_of s c.args.thread in
    let q = subtask_in s.tags c.in-Some.subtask in
    let r = c.join_set-2.result in
    let t = (v c.join_set-2.new.w).core in
    let w = (choice_of (label_of n r)).woken in
    let at = c.in-Some-set_named.ensures.is ∙ ap (λ (i : ℕ). set_at i c.args.set s.core) c.instance_of-instance.ensures in
    let done = c.join_set-2.ensures.does in
    let meets = λ (d : Doer). named_implements n _ c.args.handle q (join_to_by d n c.args.set w s.core) s.core _ _ c.instance_of-instance.ensures c.in-Some.ensures.is (λ sub at. to_kept d n c.args.set w s.core c.none_is_zero.ensures.calls c.none_is_zero.ensures.works sub)
    (subst (λ (p : Progress). Implements p s.core r (ended d n r t)) (sym (to_set d n c.args.set (set_of s c.in-Some-set_named.set) w s.core q c.if-set-eq0.false at)) (done.implements d)) in
    record {
      does = record {
        implements = meets;
        picks = λ d. loose_picks (preference s) _ (label_of n r) s.core r (ended d n r t) (join_none d n s.core c.args.handle c.args.set w) (done.picks d).shows (meets d);
        stays = done.stays;
        kept = done.kept;
      };
    }
