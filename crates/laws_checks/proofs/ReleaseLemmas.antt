-- Runs by release are runs of the machine.
use Rattle.laws_checks.specs.Release.{ReleaseIsRun, RunByRelease}
use Rattle.laws_choices.proofs.RunLemmas.{is_step}
use Rattle.laws_picks.specs.Arrival.{held_after}
use Rattle.laws_places.proofs.OrderLemmas.{step_in_order}
use Rattle.laws_states.specs.Order.{InOrder}
use Rattle.machine_data.specs.Core.{State}
use Rattle.machine_data.specs.declared.label.Label.{Label}
use Rattle.machine_rules.specs.Run.{Run}
use Rattle.machine_rules.specs.Scripts.{HasOpen}
use Rattle.machine_rules.specs.Stalled.{Setting}
use Rattle.std.specs.Prelude.{List, [], ℕ, ◌∷◌}

comes : (x : Setting) (order : List ℕ) (s : State) → (HasOpen x.component → ⊥) → InOrder x.component s → (ls : List Label) (t : State) → RunByRelease x order s ls t → Run x s ls t
comes x order s hosts in_turn [] t h = h
comes x order s hosts in_turn (l ∷ ls) t h =
    let c = h.0 in let m = h.1.0 in
    let step = is_step x s hosts in_turn c h.1.1.0.fits l m h.1.1.1.0 in
    (m, (step, comes x (held_after l order) m hosts (step_in_order x s l m in_turn step) ls t h.1.1.1.1))

pub release_is_run : ReleaseIsRun
unfolding ReleaseIsRun
release_is_run = comes
