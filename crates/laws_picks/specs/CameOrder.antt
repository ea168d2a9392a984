-- The order of arrival, as the records of a core have it and as a run has shown it; and what is picked by it.
use Rattle.laws_states.specs.Settings.{CodesInCallbacks}
use Rattle.machine_data.specs.Core.{Core, Main, State}
use Rattle.machine_data.specs.declared.label.Label.{Label}
use Rattle.machine_data.specs.declared.scenario.Version.{Version}
use Rattle.machine_rules.specs.Arrivals.{came_by, earlier_of, stays_back}
use Rattle.machine_rules.specs.History.{Moment, history}
use Rattle.machine_rules.specs.Picks.{Picks, Preference, Seats, earlier_in}
use Rattle.machine_rules.specs.Run.{Run, opening}
use Rattle.machine_rules.specs.Stalled.{Setting}
use Rattle.machine_rules.specs.TablePlaces.{PicksAll, TablePlaces, reseated}
use Rattle.std.specs.Prelude.{List, None, [], true, ℕ, ◌<◌, ◌∷◌, ◌≡◌}

-- of two threads that wait or are held the records have the same one first as the list of those who came
abbrev pub SaysOrder : (came : List ℕ) → Core → Type 0
SaysOrder came s = (p : Seats) (m n : ℕ) → stays_back s m ≡ true → stays_back s n ≡ true →
    earlier_in s p m n ≡ earlier_of s.version came p m n

-- before each of these steps, where those in the list came before the first one
abbrev pub AllSayOrder : (came : List ℕ) → List Moment → Type 0
AllSayOrder came [] = Unit {0}
AllSayOrder came (k ∷ ks) = SaysOrder came k.before.core × AllSayOrder (came_by k came) ks

-- In each run from an opening state, of a component whose codes are in callbacks, the records say who came first, as long as the core can
-- count the arrivals.
unfoldable pub RunsSayOrder : Type 0
RunsSayOrder = (x : Setting) → CodesInCallbacks x.component →
    (v : Version) (instances handle_limit capacity : ℕ) (main : Main) (ls : List Label) (t : State) →
    (run : Run x (opening v instances handle_limit capacity main) ls t) → t.core.arrivals < 18446744073709551615 →
    AllSayOrder [] (history x (opening v instances handle_limit capacity main) ls t run)

-- what a core picks by, where nothing is wanted: the places, and what its records say
abbrev pub by_records : Core → Seats → Preference
by_records s p = record { waiter = None; member = None; held = []; earlier = earlier_in s p; seats = p }

-- each step picks by the places that there are before it, and by the records before it
abbrev pub RecordsPick : Setting → TablePlaces → List Moment → Type 0
RecordsPick x p [] = Unit {0}
RecordsPick x p (k ∷ ks) = Picks (by_records k.before.core p.seats) x k.before k.label k.after × RecordsPick x (reseated k p) ks

-- Then the run picks by who has come in it.
unfoldable pub RecordsPickAll : Type 0
RecordsPickAll = (x : Setting) → CodesInCallbacks x.component →
    (v : Version) (instances handle_limit capacity : ℕ) (main : Main) (ls : List Label) (t : State) →
    (run : Run x (opening v instances handle_limit capacity main) ls t) → t.core.arrivals < 18446744073709551615 → (p : TablePlaces) →
    RecordsPick x p (history x (opening v instances handle_limit capacity main) ls t run) →
    PicksAll x p [] (history x (opening v instances handle_limit capacity main) ls t run)
