use Rattle.choice_offers.proofs.BlockedLemmas.{passes_by}
use Rattle.choice_offers.proofs.op_spots.passes_after_return.Goals as goal
use Rattle.core_primitives.specs.StateView.{thread_of}
use Rattle.machine_data.specs.Moves.{passes_check}
use Rattle.machine_data.specs.Read.{is_nil}
use Rattle.machine_rules.specs.Ends.{held_by_flag, may_tell}
use Rattle.ops_guests.specs.OpWakes.{wakes_in}
use Rattle.std.proofs.Common.{ap₂, subst, sym, ◌∙◌}
use Rattle.std.specs.Prelude.{Bool, not, true, ℕ, ◌||◌, ◌≡◌}

pub returns : goal.returns
returns c =
    let s = c.args.core.now in
    let n = thread_of s c.args.thread in
    let w = c.wakes_in_instance-told.ensures.0 in
    let may = subst (λ (k : ℕ). may_tell k w s.core ≡ true) c.task_of-call.ensures.is c.wakes_in_instance-told.ensures.1.0 in
    ap₂ (λ (a b : Bool). a || b) c.passes_check-passes.ensures (ap₂ (λ (a b : Bool). a || b) c.some_held_by_flag-held.ensures c.wakes_in_instance-told.ensures.1.1)
    ∙ (ap₂ (λ (i k : ℕ). passes_check i s.core || (not (is_nil (held_by_flag i s.core)) || wakes_in i k w s.core)) c.instance_of-instance.ensures c.task_of-call.ensures.is
    ∙ sym (passes_by n w s.core c.requires.together may))
