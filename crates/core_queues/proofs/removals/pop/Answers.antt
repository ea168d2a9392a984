use Rattle.core_records.proofs.Core.{ap, Mark, None, on_core, popped, refl, seen, sym, ◌∙◌, ◌≡◌}
use Rattle.core_records.specs.declared.{parts.CoreParts.CoreParts}
use Rattle.core_queues.proofs.SwitchLemmas.{switch_after, switch_seen, switch_sound}
use Rattle.core_queues.proofs.removals.pop.Goals as goal

pub returns-in-Switch-clause-sound : goal.returns-in-Switch-clause-sound
returns-in-Switch-clause-sound c = switch_sound c.args.parts.now None c.requires tt

switch_popped : (a : CoreParts) → seen (switch_after a None) ≡ on_core (popped Mark.Switch) (seen a)
unfolding popped
switch_popped a = switch_seen a None None refl

pub returns-in-Switch-clause-new : goal.returns-in-Switch-clause-new
returns-in-Switch-clause-new c = switch_popped c.args.parts.now ∙ ap (λ m. on_core (popped m) (seen c.args.parts.now)) (sym c.in-Switch.is)
