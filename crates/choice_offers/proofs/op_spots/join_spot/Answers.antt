use Rattle.choice_offers.proofs.NamedLemmas.{join_named, join_unread}
use Rattle.choice_offers.proofs.op_spots.join_spot.Goals as goal
use Rattle.core_primitives.specs.Live.{live_subtask}
use Rattle.core_primitives.specs.Names.{subtask_in}
use Rattle.core_primitives.specs.StateView.{thread_of}
use Rattle.core_primitives.specs.declared.names.SubtaskId.{SubtaskId}
use Rattle.machine_data.specs.Read.{subtask_at}
use Rattle.std.proofs.Common.{ap, sym, ◌∙◌}
use Rattle.std.specs.Prelude.{None, Option, Some, option_map, ℕ, ◌≡◌}

pub returns-in-Some : goal.returns-in-Some
returns-in-Some c =
    let s = c.args.core.now in
    let n = thread_of s c.args.thread in
    let q = subtask_in s.tags c.in-Some.subtask in
    let found : Some q ≡ option_map (λ sub. live_subtask sub s.core) (subtask_at _ c.args.waitable s.core) = c.in-Some.ensures.is ∙ ap (λ (i : ℕ). option_map (λ sub. live_subtask sub s.core) (subtask_at i c.args.waitable s.core)) c.instance_of.ensures in
    (c.join_to_spot.ensures.0, c.join_to_spot.ensures.1 ∙ sym (join_named n c.args.waitable c.args.set q s.core c.none_is_zero.ensures.calls c.none_is_zero.ensures.works found))

pub returns-in-None : goal.returns-in-None
returns-in-None c =
    let s = c.args.core.now in
    let n = thread_of s c.args.thread in
    let found : None ≡ option_map (λ sub. live_subtask sub s.core) (subtask_at _ c.args.waitable s.core) =
    ap (λ (o : Option SubtaskId). option_map (subtask_in s.tags) o) (sym c.in-None.is) ∙ (c.subtask_at.ensures.is ∙ ap (λ (i : ℕ). option_map (λ sub. live_subtask sub s.core) (subtask_at i c.args.waitable s.core)) c.instance_of.ensures) in
    ((c.no_spot.ensures n).0, (c.no_spot.ensures n).1 ∙ join_unread n c.args.waitable c.args.set s.core found)
