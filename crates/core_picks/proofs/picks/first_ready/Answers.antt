use Rattle.core_places.proofs.WantedLemmas.{unwanted_member_first, wanted_member_first}
use Rattle.core_picks.proofs.picks.first_ready.Goals as goal
use Rattle.core_places.specs.Picks.{IsLeastMember}
use Rattle.core_primitives.specs.Names.{subtask_in}
use Rattle.core_primitives.specs.Preferences.{preference}
use Rattle.core_primitives.specs.StateView.{set_of}
use Rattle.core_primitives.specs.declared.names.SubtaskId.{SubtaskId}
use Rattle.core_records.proofs.Core.{IfSome, None, Option, seen, Some, true, ◌≡◌}
use Rattle.machine_data.specs.Read.{is_ready_member}
use Rattle.machine_rules.specs.Picks.{IsFirstMember}

pub returns-in-Some-clause-some : goal.returns-in-Some-clause-some
returns-in-Some-clause-some c = c.in-Some.ensures.1

pub returns-in-Some-clause-first : goal.returns-in-Some-clause-first
returns-in-Some-clause-first c = wanted_member_first c.args.parts.now c.requires.sound _ _ c.in-Some.ensures.0

pub returns-in-None-clause-first : goal.returns-in-None-clause-first
returns-in-None-clause-first c = first_of c.least_ready.result c.least_ready.ensures.some c.least_ready.ensures.least
  where
    first_of : (r : Option SubtaskId) → IfSome r (λ d. is_ready_member (set_of (seen c.args.parts.now) c.args.set) (subtask_in (seen c.args.parts.now).tags d) (seen c.args.parts.now).core ≡ true)
        → IfSome r (λ d. IsLeastMember c.args.parts.now (set_of (seen c.args.parts.now) c.args.set) d)
        → IfSome r (λ d. IsFirstMember (preference (seen c.args.parts.now)) (set_of (seen c.args.parts.now) c.args.set) (seen c.args.parts.now).core (subtask_in (seen c.args.parts.now).tags d))
    first_of None some least = tt
    first_of (Some d) some least = unwanted_member_first c.args.parts.now c.requires.sound _ d c.in-None.ensures some least
