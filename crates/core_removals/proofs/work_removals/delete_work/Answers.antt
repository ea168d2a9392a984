use Rattle.core_removals.proofs.JoinLemmas.{deleted_none, deleted_one, named_none, named_one, work_ended, work_group_left, work_high, work_joined, work_removed}
use Rattle.core_removals.proofs.work_removals.delete_work.Goals as goal
use Rattle.core_records.proofs.Core.{ap, ap₂, group_settled, Join, join_of, KeepsBut, lost_work, on_core, remove_work, seen, set_stage, Stage, stage_of, StateView, subst, Subtask, sym, work_entries, work_group, work_of, ◌∙◌, ◌≡◌}

pub drop_work-requires-clause-unqueued : goal.drop_work-requires-clause-unqueued
drop_work-requires-clause-unqueued c =
    let both = c.end_stage.ensures.new ∙ ap (λ (v : StateView). on_core (set_stage (work_of v c.args.work) Stage.Ended) v) c.set_join.ensures.new in
    subst (λ (v : StateView). work_entries (work_of v c.args.work) v.core.queues.high ≡ 0) (sym both) (ap (work_entries _) (work_high _ _) ∙ c.requires.unqueued)

pub drop_work-requires-clause-join : goal.drop_work-requires-clause-join
drop_work-requires-clause-join c =
    let both = c.end_stage.ensures.new ∙ ap (λ (v : StateView). on_core (set_stage (work_of v c.args.work) Stage.Ended) v) c.set_join.ensures.new in
    subst (λ (v : StateView). join_of (Subtask.Host (work_of v c.args.work)) v.core ≡ Join.Nowhere) (sym both) (work_joined _ _)

pub drop_work-requires-clause-stage : goal.drop_work-requires-clause-stage
drop_work-requires-clause-stage c =
    let both = c.end_stage.ensures.new ∙ ap (λ (v : StateView). on_core (set_stage (work_of v c.args.work) Stage.Ended) v) c.set_join.ensures.new in
    subst (λ (v : StateView). stage_of (work_of v c.args.work) v.core ≡ Stage.Ended) (sym both) (work_ended _ _)

pub returns-in-Some-clause-new : goal.returns-in-Some-clause-new
returns-in-Some-clause-new c =
    let both = c.end_stage.ensures.new ∙ ap (λ (v : StateView). on_core (set_stage (work_of v c.args.work) Stage.Ended) v) c.set_join.ensures.new in
    record {
      core =
          let one = named_one _ _ c.in-Some.group c.in-Some.ensures.group in
          ap (λ (v : StateView). v.core) c.settle_group.ensures.new
          ∙ (ap₂ group_settled one.1.1.0 (c.drop_work.ensures.new.core ∙ (ap (λ (v : StateView). remove_work (work_of v c.args.work) v.core) both ∙ work_removed _ _))
          ∙ deleted_one _ one.0 _ (sym (work_group_left _ _) ∙ (sym (ap (λ (v : StateView). work_group (work_of v c.args.work) v.core) both) ∙ one.1.0)));
      current = ap (λ (v : StateView). v.current) c.settle_group.ensures.new ∙ (c.drop_work.ensures.new.current ∙ ap (λ (v : StateView). v.current) both);
      tags =
          subst (λ (v : StateView). KeepsBut (lost_work (work_of (seen c.args.parts.now) c.args.work)) (seen c.args.parts.now).tags v.tags) (sym c.settle_group.ensures.new)
          (subst (λ (v : StateView). KeepsBut (lost_work (work_of v c.args.work)) v.tags (seen c.drop_work.new.parts).tags) both c.drop_work.ensures.new.tags);
    }

pub returns-in_default-clause-new : goal.returns-in_default-clause-new
returns-in_default-clause-new c =
    let both = c.end_stage.ensures.new ∙ ap (λ (v : StateView). on_core (set_stage (work_of v c.args.work) Stage.Ended) v) c.set_join.ensures.new in
    record {
      core =
          c.drop_work.ensures.new.core
          ∙ ((ap (λ (v : StateView). remove_work (work_of v c.args.work) v.core) both ∙ work_removed _ _)
          ∙ deleted_none _ _ (sym (work_group_left _ _) ∙ (sym (ap (λ (v : StateView). work_group (work_of v c.args.work) v.core) both) ∙ named_none _ _ c.in_default.ensures.group)));
      current = c.drop_work.ensures.new.current ∙ ap (λ (v : StateView). v.current) both;
      tags = subst (λ (v : StateView). KeepsBut (lost_work (work_of v c.args.work)) v.tags (seen c.drop_work.new.parts).tags) both c.drop_work.ensures.new.tags;
    }
