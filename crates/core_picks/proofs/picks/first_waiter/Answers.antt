use Rattle.core_places.proofs.WantedLemmas.{unwanted_first, wanted_first, waiter_live}
use Rattle.core_picks.proofs.picks.first_waiter.Goals as goal
use Rattle.core_places.specs.Picks.{IsLeastWaiter}
use Rattle.core_primitives.specs.Preferences.{preference}
use Rattle.core_primitives.specs.StateView.{set_of}
use Rattle.core_records.proofs.Core.{IfSome, is_waiter, None, Option, seen, Some, TableId, thread_of, ThreadKey, true, ◌<◌, ◌≡◌}
use Rattle.machine_rules.specs.Picks.{IsFirstWaiter}

pub returns-in-Some-clause-live : goal.returns-in-Some-clause-live
returns-in-Some-clause-live c = waiter_live c.args.parts.now c.requires.sound _ _ c.in-Some.ensures.1

pub returns-in-Some-clause-some : goal.returns-in-Some-clause-some
returns-in-Some-clause-some c = c.in-Some.ensures.1

pub returns-in-Some-clause-first : goal.returns-in-Some-clause-first
returns-in-Some-clause-first c = wanted_first c.args.parts.now c.requires.sound _ _ c.in-Some.ensures.0

pub returns-in-None-clause-first : goal.returns-in-None-clause-first
returns-in-None-clause-first c = first_of c.least_waiter.result c.least_waiter.ensures.some c.least_waiter.ensures.live c.least_waiter.ensures.least
  where
    first_of : (r : Option (TableId ThreadKey)) → IfSome r (λ id. is_waiter (set_of (seen c.args.parts.now) c.args.set) (thread_of (seen c.args.parts.now) id) (seen c.args.parts.now).core ≡ true)
        → IfSome r (λ id. 0 < thread_of (seen c.args.parts.now) id) → IfSome r (λ id. IsLeastWaiter c.args.parts.now (set_of (seen c.args.parts.now) c.args.set) id)
        → IfSome r (λ id. IsFirstWaiter (preference (seen c.args.parts.now)) (set_of (seen c.args.parts.now) c.args.set) (seen c.args.parts.now).core (thread_of (seen c.args.parts.now) id))
    first_of None some live least = tt
    first_of (Some id) some live least = unwanted_first c.args.parts.now c.requires.sound _ id c.in-None.ensures some live least
