use Rattle.machine_rules.proofs.CalmLemmas.{awaiting_calm}
use Rattle.std.proofs.Common.{ap, refl, ◌∙◌}
use Rattle.ops_subtasks.proofs.ResumeLemmas.{awaits_implements, awaits_trap}
use Rattle.ops_subtasks.proofs.resumes.go_on_awaiting.Goals as goal
use Rattle.ops_subtasks.specs.Refused.{mode_of}
use Rattle.ops_guests.proofs.DoesLemmas.{calm_same}
use Rattle.core_primitives.specs.Names.{subtask_in}
use Rattle.core_primitives.specs.StateView.{StateView, thread_of}

pub returns-in_default : goal.returns-in_default
returns-in_default g c =
    let s = g.W.View.view c.args.w.now in
    record {
      does = calm_same _ c.args.thread s s _ (λ d. awaiting_calm d (mode_of c.args.sync) (thread_of s c.args.thread) 0 s.core (subtask_in s.tags c.args.subtask))
          (λ d. awaits_trap (mode_of c.args.sync) (thread_of s c.args.thread) d (subtask_in s.tags c.args.subtask) s.core c.in_default.ensures) refl refl;
    }

pub returns : goal.returns
returns g c =
    let v = g.W.View.view in
    let s = v c.args.w.now in
    record {
      does = calm_same _ c.args.thread s (v c.answer_end.new.w) _
          (λ d. awaiting_calm d (mode_of c.args.sync) (thread_of s c.args.thread) 0 s.core (subtask_in s.tags c.args.subtask))
          (λ d. awaits_implements (mode_of c.args.sync) c.args.thread d c.args.subtask _ s (v c.set_join.new.self) _ _ c.in-Some.ensures c.set_join.ensures c.answer_end.ensures.is c.answer_end.ensures.new)
          (ap (λ (y : StateView). y.tags) c.answer_end.ensures.new ∙ ap (λ (y : StateView). y.tags) c.set_join.ensures) (ap (λ (y : StateView). y.current) c.answer_end.ensures.new ∙ ap (λ (y : StateView). y.current) c.set_join.ensures);
    }
