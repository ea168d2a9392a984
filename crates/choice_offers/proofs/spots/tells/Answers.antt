use Rattle.choice_offers.proofs.spots.tells.Goals as goal
use Rattle.core_primitives.specs.StateView.{call_of}
use Rattle.laws_choices.specs.Offers.{nothing, wakes_in}
use Rattle.machine_data.specs.Read.{join_of}
use Rattle.machine_data.specs.declared.records.Subtask.TheVariants as subtask
use Rattle.machine_rules.specs.Ends.{is_told}
use Rattle.std.proofs.Common.{ap, sym, ◌∙◌}
use Rattle.std.specs.Prelude.{Bool, false, if◌then◌else◌, true, ◌≡◌}

pub returns-then-is_told : goal.returns-then-is_told
returns-then-is_told c =
    let s = c.args.core.now in
    let k = call_of s c.args.call in
    let told : is_told k s.core ≡ true = sym c.is_told.ensures ∙ c.if-is_told.true in
    λ n. ((c.wakes_in.ensures n).0, (c.wakes_in.ensures n).1 ∙ sym (ap (λ (b : Bool). if b then wakes_in (join_of (subtask.Guest k) s.core) s.core else nothing) told))

pub returns-else-is_told : goal.returns-else-is_told
returns-else-is_told c =
    let s = c.args.core.now in
    let k = call_of s c.args.call in
    let told : is_told k s.core ≡ false = sym c.is_told.ensures ∙ c.if-is_told.false in
    λ n. ((c.no_spot.ensures n).0, (c.no_spot.ensures n).1 ∙ sym (ap (λ (b : Bool). if b then wakes_in (join_of (subtask.Guest k) s.core) s.core else nothing) told))
