-- The order in which threads began to wait or to be held, and what is picked by it: runs in that order.
use Rattle.std.specs.Prelude.{Bool, List, None, [], false, filter, if◌then◌else◌, not, true, ℕ, ◌&&◌, ◌++◌, ◌==◌, ◌∷◌}
use Rattle.machine_data.specs.Core.{Core}
use Rattle.machine_data.specs.Maps.{numbers}
use Rattle.machine_data.specs.Read.{is_at}
use Rattle.machine_data.specs.declared.records.Place.TheVariants as place
use Rattle.machine_data.specs.declared.records.Place.{Place}
use Rattle.machine_data.specs.declared.scenario.Version.TheVariants as version
use Rattle.machine_data.specs.declared.scenario.Version.{Version}
use Rattle.machine_rules.specs.History.{Moment}
use Rattle.machine_rules.specs.Notices.{is_in}
use Rattle.machine_rules.specs.Picks.{Preference, Seats, thread_before}

abbrev pub is_kept_back : Place → Bool
is_kept_back (place.Waiting x by_callback) = true
is_kept_back (place.Held w) = true
is_kept_back _ = false

-- the thread waits or is held
abbrev pub stays_back : Core → ℕ → Bool
stays_back s n = is_at n s is_kept_back

-- Of the threads that have come since some state those that are still there, in order, after a step from s to t: one that now waits or is
-- held, and didn't before, is the last.
abbrev pub came_after : Core → Core → List ℕ → List ℕ
came_after s t came = filter (stays_back t) came ++ filter (λ n. stays_back t n && not (stays_back s n)) (numbers t.threads)

abbrev pub came_by : Moment → List ℕ → List ℕ
came_by k came = came_after k.before.core k.after.core came

-- m is in the list, and n is behind it there
abbrev pub precedes : List ℕ → ℕ → ℕ → Bool
precedes [] m n = false
precedes (k ∷ ks) m n = if k == m then is_in ks n else precedes ks m n

-- m has come before n: one that was there in that state comes before each that has come since, and of two such none comes before the other
abbrev pub is_older : List ℕ → ℕ → ℕ → Bool
is_older came m n = if is_in came m then precedes came m n else is_in came n

-- in version 1 by their places, in version 2 as they came
abbrev pub earlier_of : Version → (came : List ℕ) → Seats → ℕ → ℕ → Bool
earlier_of version.One came p m n = thread_before p m n
earlier_of version.Two came p m n = is_older came m n

-- nothing is wanted
abbrev pub preferred : Version → (came : List ℕ) → Seats → Preference
preferred v came p = record { waiter = None; member = None; held = []; earlier = earlier_of v came p; seats = p }
