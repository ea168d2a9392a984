-- The places of the resource table as steps take them and give them back, and runs that pick by them.
use Rattle.std.specs.Prelude.{Bool, List, None, Option, Some, [], drop, filter, is_none, not, false, unwrap_or, ℕ, ◌+◌, ◌≡◌, ◌∷◌}
use Rattle.machine_data.specs.Core.{Core}
use Rattle.machine_data.specs.Maps.{Records, empty, get, insert, numbers, remove}
use Rattle.machine_data.specs.Read.{is_host_call, strand_of, task_of}
use Rattle.machine_data.specs.declared.label.CallLabel.TheVariants as call_label
use Rattle.machine_data.specs.declared.label.CallLabel.{CallLabel}
use Rattle.machine_data.specs.declared.label.Label.TheVariants as label
use Rattle.machine_data.specs.declared.label.Label.{Label}
use Rattle.machine_data.specs.declared.label.LoopLabel.TheVariants as loop_label
use Rattle.machine_data.specs.declared.label.LoopLabel.{LoopLabel}
use Rattle.machine_data.specs.declared.records.Work.{Work}
use Rattle.machine_rules.specs.History.{Moment}
use Rattle.machine_rules.specs.Notices.{is_in}
use Rattle.machine_rules.specs.Picks.{Picks, Seats, call_seat, thread_seat, work_seat}
use Rattle.machine_rules.specs.Arrivals.{came_by, preferred}
use Rattle.machine_rules.specs.Stalled.{Setting}

-- Who has which place: threads with their calls, calls, host works; the sync-call sets of threads; sets that guests made; groups. Which
-- places are free, the one freed last first, and how many were ever given.
pub record TablePlaces : Type 0 where
  pub seats : Seats
  pub own_sets : Records ℕ
  pub sets : Records ℕ
  pub groups : Records ℕ
  pub free : List ℕ
  pub made : ℕ

-- nothing has a place
abbrev pub no_places : TablePlaces
no_places = record {
  seats = record { threads = empty; calls = empty; works = empty };
  own_sets = empty;
  sets = empty;
  groups = empty;
  free = [];
  made = 0;
}

-- ---- One place is taken: the one freed last, else one more than were ever given

abbrev pub next_of : List ℕ → ℕ → ℕ
next_of [] made = made
next_of (place ∷ _) made = place

abbrev pub made_of : List ℕ → ℕ → ℕ
made_of [] made = made + 1
made_of (_ ∷ _) made = made

abbrev pub next_place : TablePlaces → ℕ
next_place p = next_of p.free p.made

abbrev pub taken : TablePlaces → TablePlaces
taken p = record p { free = drop 1 p.free; made = made_of p.free p.made }

abbrev pub take_group : ℕ → TablePlaces → TablePlaces
take_group g p = record (taken p) { groups = insert p.groups g (next_place p) }

abbrev pub take_call : ℕ → TablePlaces → TablePlaces
take_call k p = record (taken p) { seats = record p.seats { calls = insert p.seats.calls k (next_place p) } }

abbrev pub take_work : ℕ → TablePlaces → TablePlaces
take_work i p = record (taken p) { seats = record p.seats { works = insert p.seats.works i (next_place p) } }

abbrev pub take_set : ℕ → TablePlaces → TablePlaces
take_set x p = record (taken p) { sets = insert p.sets x (next_place p) }

-- a thread of a call takes one for its sync-call set first
abbrev pub take_own_set : ℕ → TablePlaces → TablePlaces
take_own_set n p = record (taken p) { own_sets = insert p.own_sets n (next_place p) }

abbrev pub take_own : (call thread : ℕ) → TablePlaces → TablePlaces
take_own k n p = record (taken p) {
  seats = record p.seats { threads = insert p.seats.threads n (record { task = call_seat p.seats k; own = next_place p }) };
}

abbrev pub take_thread : (call thread : ℕ) → TablePlaces → TablePlaces
take_thread k n p = take_own k n (take_own_set n p)

-- ---- Places are given back

abbrev pub given : ℕ → TablePlaces → TablePlaces
given place p = record p { free = place ∷ p.free }

abbrev pub place_in : Records ℕ → ℕ → ℕ
place_in m n = unwrap_or (get m n) 0

-- a thread gives back its own, then that of its sync-call set
abbrev pub give_thread : ℕ → TablePlaces → TablePlaces
give_thread n p =
    given (place_in p.own_sets n) (given (thread_seat p.seats n).own
    (record p { own_sets = remove p.own_sets n; seats = record p.seats { threads = remove p.seats.threads n } }))

abbrev pub give_call : ℕ → TablePlaces → TablePlaces
give_call k p = given (call_seat p.seats k) (record p { seats = record p.seats { calls = remove p.seats.calls k } })

abbrev pub give_work : ℕ → TablePlaces → TablePlaces
give_work i p = given (work_seat p.seats i) (record p { seats = record p.seats { works = remove p.seats.works i } })

abbrev pub give_set : ℕ → TablePlaces → TablePlaces
give_set x p = given (place_in p.sets x) (record p { sets = remove p.sets x })

abbrev pub give_group : ℕ → TablePlaces → TablePlaces
give_group g p = given (place_in p.groups g) (record p { groups = remove p.groups g })

-- ---- A step

abbrev pub each : (ℕ → TablePlaces → TablePlaces) → List ℕ → TablePlaces → TablePlaces
each f [] p = p
each f (n ∷ ns) p = each f ns (f n p)

-- those of the one that aren't in the other, in order of number
abbrev pub but_in : {X : Type 0} → Records X → Records X → List ℕ
but_in s t = filter (λ n. is_none (get t n)) (numbers s)

-- a spawned work has no place
abbrev pub is_seated : Option Work → Bool
is_seated None = false
is_seated (Some w) = is_host_call w

abbrev pub works_but_in : Records Work → Records Work → List ℕ
works_but_in s t = filter (λ i. is_seated (get s i)) (but_in s t)

-- those of a step that traps or fails from the top of the strand down
abbrev pub down_from : Label → Core → List ℕ
down_from (label.Loop (loop_label.Trap t n)) s = strand_of n s
down_from (label.Call (call_label.Fails n i)) s = strand_of n s
down_from _ s = numbers s.threads

-- threads first, in this order, then calls, host works and sets, and groups in the end
abbrev pub given_back : List ℕ → Core → Core → TablePlaces → TablePlaces
given_back threads s t p =
    each give_group (filter (λ g. not (is_in t.groups g)) s.groups)
    (each give_set (but_in s.sets t.sets)
    (each give_work (works_but_in s.works t.works)
    (each give_call (but_in s.calls t.calls)
    (each give_thread (filter (λ n. is_none (get t.threads n)) threads) p))))

-- the group first, then the call, then threads; host works and sets take one each
abbrev pub given_out : Core → Core → TablePlaces → TablePlaces
given_out s t p =
    each take_set (but_in t.sets s.sets)
    (each take_work (works_but_in t.works s.works)
    (each (λ n. take_thread (task_of n t) n) (but_in t.threads s.threads)
    (each take_call (but_in t.calls s.calls)
    (each take_group (filter (λ g. not (is_in s.groups g)) t.groups) p))))

-- from one core to another one
abbrev pub moved_places : List ℕ → Core → Core → TablePlaces → TablePlaces
moved_places threads s t p = given_out s t (given_back threads s t p)

abbrev pub reseated : Moment → TablePlaces → TablePlaces
reseated k p = moved_places (down_from k.label k.before.core) k.before.core k.after.core p

-- ---- A run

-- Each step picks by the places that there are before it, and in version 2 by who has come before it.
abbrev pub PicksAll : Setting → TablePlaces → (came : List ℕ) → List Moment → Type 0
PicksAll x p came [] = Unit {0}
PicksAll x p came (k ∷ ks) =
    Picks (preferred k.before.core.version came p.seats) x k.before k.label k.after × PicksAll x (reseated k p) (came_by k came) ks
