use Rattle.core_removals.proofs.group_removals.group_unchecked.Goals as goal
use Rattle.core_records.proofs.Core.{ap, ap₂, group_key, IsSome, item_of, number_of, option_and_then, place_at, subst, sym, ℕ, ◌<◌, ◌∙◌}
use Rattle.core_records.specs.declared.{call_records.TaskGroup.TaskGroup}
use Rattle.core_records.proofs.KindLemmas.{item_number, live_item, live_there}
use Rattle.core_records.proofs.StandLemmas.{number_here, number_placed}

pub serial_unchecked-requires : goal.serial_unchecked-requires
serial_unchecked-requires c = number_placed (λ (r : TaskGroup). r.number) (λ (r : TaskGroup). r.calls) c.args.groups.now c.args.place c.requires

pub there-requires : goal.there-requires
there-requires c =
    let number = ap₂ (number_of group_key c.args.groups.now) c.new-id.ensures.rep c.new-id.ensures.serial ∙ number_here (λ (r : TaskGroup). r.number) (λ (r : TaskGroup). r.calls) c.args.groups.now c.args.place c.serial_unchecked.result c.serial_unchecked.ensures in
    subst (λ (r : ℕ). IsSome (option_and_then (λ p. item_of p.entry) (place_at c.args.groups.now r))) c.new-id.ensures.rep
    (live_there (λ (r : TaskGroup). r.number) (λ (r : TaskGroup). r.calls) c.args.groups.now c.new-id.result.rep c.new-id.result.serial (subst (λ (n : ℕ). 0 < n) (sym number) c.requires))

pub returns-clause-item : goal.returns-clause-item
returns-clause-item c =
    let number = ap₂ (number_of group_key c.args.groups.now) c.new-id.ensures.rep c.new-id.ensures.serial ∙ number_here (λ (r : TaskGroup). r.number) (λ (r : TaskGroup). r.calls) c.args.groups.now c.args.place c.serial_unchecked.result c.serial_unchecked.ensures in
    live_item (λ (r : TaskGroup). r.number) (λ (r : TaskGroup). r.calls) c.args.groups.now c.new-id.result.rep c.new-id.result.serial (subst (λ (n : ℕ). 0 < n) (sym number) c.requires) c.there.result.now
    (c.there.ensures ∙ ap (λ (r : ℕ). option_and_then (λ p. item_of p.entry) (place_at c.args.groups.now r)) (sym c.new-id.ensures.rep))

pub returns-clause-number : goal.returns-clause-number
returns-clause-number c =
    let number = ap₂ (number_of group_key c.args.groups.now) c.new-id.ensures.rep c.new-id.ensures.serial ∙ number_here (λ (r : TaskGroup). r.number) (λ (r : TaskGroup). r.calls) c.args.groups.now c.args.place c.serial_unchecked.result c.serial_unchecked.ensures in
    sym (item_number (λ (r : TaskGroup). r.number) (λ (r : TaskGroup). r.calls) c.args.groups.now c.new-id.result.rep c.new-id.result.serial c.there.result.now (returns-clause-item c)) ∙ number
