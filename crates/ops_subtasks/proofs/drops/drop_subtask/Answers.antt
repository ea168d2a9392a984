use Rattle.core_primitives.specs.Preferences.{preference}
use Rattle.machine_rules.specs.Finish.{Doer}
use Rattle.ops_guests.proofs.CalmLemmas.{calm_picks}
use Rattle.machine_rules.proofs.CalmLemmas.{drop_calm, or_trap_calm}
use Rattle.std.proofs.Common.{Option, ap, is_some, sym, ◌∙◌}
use Rattle.ops_subtasks.proofs.DropLemmas.{drop_kept, drop_implements, dropped_names}
use Rattle.ops_subtasks.proofs.SubtaskLemmas.{named_implements}
use Rattle.ops_subtasks.proofs.drops.drop_subtask.Goals as goal
use Rattle.machine_data.specs.declared.statuses.Status.{Status}
use Rattle.machine_rules.specs.Cancels.{drop_by}
use Rattle.core_primitives.specs.Names.{subtask_in}
use Rattle.core_primitives.specs.StateView.{thread_of}

pub returns-clause-does : goal.returns-clause-does
returns-clause-does g c =
    let v = g.W.View.view in
    let s = v c.args.w.now in
    let n = thread_of s c.args.thread in
    let q = subtask_in s.tags c.in-Some.subtask in
    let meets = λ (d : Doer). named_implements n _ c.args.handle q (drop_by d n c.args.handle s.core) s.core _ _ c.instance_of-instance.ensures c.in-Some.ensures.is (λ sub at. drop_kept d n c.args.handle s.core c.none_is_zero.ensures.calls c.none_is_zero.ensures.works sub)
    (drop_implements d n c.args.handle _ q s.core _ c.number-number.ensures (sym c.is_watched.ensures ∙ c.if-is_watched.false) (sym c.has_ended.ensures ∙ c.if-not-has_ended.false) (ap (λ (e : Option Status). is_some e) (sym c.event.ensures) ∙ (sym c.is_some.ensures ∙ c.if-is_some.false)) c.part.ensures.core) in
    record {
      implements = meets;
      picks = λ d. calm_picks (preference s) (thread_of s c.args.thread) _ s.core _ _ (or_trap_calm _ _ _ (drop_calm d n c.args.handle s.core)) (meets d);
      stays = tt;
      kept = (dropped_names n c.args.handle q s (v c.part.new.w) c.part.ensures.core c.part.ensures.tags, c.part.ensures.tags.same);
    }
