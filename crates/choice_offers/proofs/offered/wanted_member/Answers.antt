use Rattle.choice_offers.proofs.WantedLemmas.{member_found}
use Rattle.choice_offers.proofs.offered.wanted_member.Goals as goal
use Rattle.choice_offers.specs.Listings.{handles_in}
use Rattle.core_primitives.specs.Names.{subtask_in}
use Rattle.core_primitives.specs.declared.names.SubtaskId.{SubtaskId}
use Rattle.laws_choices.specs.Offer.{is_one_of}
use Rattle.machine_data.specs.Read.{subtask_at}
use Rattle.std.proofs.Common.{ap, subst, sym, ◌∙◌}
use Rattle.std.specs.Option.{option_and_then}
use Rattle.std.specs.Prelude.{Option, option_map, true, ℕ, ◌≡◌}

pub returns-in-Some : goal.returns-in-Some
returns-in-Some c = λ s i named.
    ap (λ (o : Option SubtaskId). option_map (λ sub. subtask_in s.tags sub) o) c.find_member.ensures
    ∙ (member_found s i c.args.list.now c.in-Some.handle named (subst (λ (o : Option ℕ). is_one_of (handles_in c.args.list.now) o ≡ true) c.in-Some.is c.requires)
    ∙ ap (λ (o : Option ℕ). option_and_then (λ h. subtask_at i h s.core) o) (sym c.in-Some.is))
