-- Threads that get an entry beside the one that runs, whosever turn it is, leave order.
use Rattle.laws_order.proofs.StayLemmas.{IsIdle, idle_turned}
use Rattle.laws_order.proofs.PieceLemmas.{piece_keeps, placing_counted, same_main, setting_for, silent, walk_instances}
use Rattle.laws_order.specs.Pieces.{KeepsOrder, InOrderForAnyMain, WalkedInOrder, state_in}
use Rattle.laws_order.proofs.WalkedLemmas.{walked_in_order}
use Rattle.std.proofs.Common.{ap, arith, refl, sym, ◌∙◌}
use Rattle.std.proofs.lemmas.Bool.Decides.{nat_tests}
use Rattle.std.specs.Option.{option_map_or}
use Rattle.std.specs.Prelude.{Bool, Option, Some, false, true, ℕ, ◌==◌, ◌≡◌}
use Rattle.laws_states.proofs.WakeCounts.{woken_place}
use Rattle.laws_states.specs.Order.{is_open}
use Rattle.laws_states.specs.WakeLaw.{WakesCounted}
use Rattle.machine_data.proofs.CommuteLemmas.{get-change}
use Rattle.machine_data.specs.Core.{Core, Main, Unscripted}
use Rattle.machine_data.specs.Moves.{put_high, put_low}
use Rattle.machine_data.specs.Read.{op_progress_of, is_waiting_on, place_of}
use Rattle.machine_data.specs.Write.{on_thread, push_high, push_low, set_place}
use Rattle.machine_data.specs.declared.component.Component.{Component}
use Rattle.machine_data.specs.declared.records.OpProgress.{OpProgress}
use Rattle.machine_data.specs.declared.records.Place.{Place}
use Rattle.machine_data.specs.declared.records.Turn.{Turn}
use Rattle.machine_data.specs.declared.records.Why.{Why}
use Rattle.machine_data.specs.declared.statuses.Mark.{Mark}
use Rattle.machine_rules.proofs.ChainLemmas.{keeps_stays, shift_keeps, stay_walk, weaken}
use Rattle.machine_rules.proofs.LawLemmas.{walk_steady}
use Rattle.machine_rules.proofs.MuteLemmas.{mute_primitives, none_said}
use Rattle.machine_rules.proofs.PlacingLemmas.{placed, placing_shifted}
use Rattle.machine_rules.proofs.StandLemmas.{by_number}
use Rattle.machine_rules.specs.Allowed.{Cancels, MayPut, Releases, Resumes, Starts, Unblocks, Wakes}
use Rattle.machine_rules.specs.Cancels.{is_waiting}
use Rattle.machine_rules.specs.Chains.{LastPrimitives, NoPrimitive, Remains, Shifts, Stay}
use Rattle.machine_rules.specs.Scenes.{Scene, scene_of}
use Rattle.machine_rules.specs.Primitives.{Put, put_at}

-- ---- Beside no thread that runs

-- the scene of main's turn, whose label says nothing
abbrev quiet : Component → Main → Core → Scene
quiet c m s = scene_of (setting_for c) (state_in m Turn.Main s) (silent 0) Turn.Main

pub quiet_ends : (c : Component) (m : Main) (s t : Core) → LastPrimitives (quiet c m s) t
quiet_ends c m s t = record {
  laid = λ n none take. none_said refl none;
  runs = λ n to. absurd (cc);
  outcome = λ o out. none_said refl out;
  gone = λ n none exit. none_said refl none;
  says = mute_primitives (quiet c m s) t refl refl;
  shut = λ i begun. none_said refl begun;
}

-- what is done in main's turn
quiet_keeps : (c : Component) (s t : Core) → ((m : Main) → Stay (quiet c m s) s t) → WakesCounted t → KeepsOrder c Turn.Main s Turn.Main t
unfolding WalkedInOrder
quiet_keeps c s t stays counted h = (
  λ m. walked_in_order (setting_for c) (state_in m Turn.Main s) (silent 0) (state_in m Turn.Main t) refl (h m)
      (record {
        next = Turn.Main;
        turn = refl;
        main = same_main m t;
        walk = stay_walk (stays m);
        trip = Remains t (stays m) (λ n to. absurd (cc)) (λ n none. none_said refl none);
        ends = quiet_ends c m s t;
      })
      (walk_steady (stay_walk (stays m))) (λ on. counted),
  walk_instances (stay_walk (stays Unscripted)),
)

-- in any turn in which no thread runs
pub idle_keeps : (c : Component) (p : Turn) (s t : Core) → is_open p ≡ true → IsIdle p → ((m : Main) → Stay (quiet c m s) s t) → WakesCounted t → KeepsOrder c p s p t
idle_keeps c p s t going idle stays counted h =
    let r = quiet_keeps c s t stays counted (λ m. idle_turned c s m p Turn.Main going idle refl (λ n e. absurd (cc)) (h m)) in
    (λ m. idle_turned c t m Turn.Main p refl (λ n e. absurd (cc)) going idle (r.0 m), r.1)

-- ---- Changes of where other threads are

shift_stay : {s t : Core} (a : Scene) → Shifts s t → Stay a s t
shift_stay a d = weaken (λ w u ok. keeps_stays a w u (shift_keeps a w u ok)) d

pub shifts_keep : (c : Component) (p : Turn) (s t : Core) → is_open p ≡ true → Shifts s t → WakesCounted t → KeepsOrder c p s p t
shifts_keep c (Turn.Run n) s t going d counted h = piece_keeps c n s t (λ m. shift_stay _ d) counted h
shifts_keep c Turn.Main s t going d counted h = idle_keeps c Turn.Main s t refl (λ n e. absurd (cc)) (λ m. shift_stay _ d) counted h
shifts_keep c (Turn.Take b) s t going d counted h = idle_keeps c (Turn.Take b) s t refl (λ n e. absurd (cc)) (λ m. shift_stay _ d) counted h
shifts_keep c (Turn.Futures i) s t going d counted h = idle_keeps c (Turn.Futures i) s t refl (λ n e. absurd (cc)) (λ m. shift_stay _ d) counted h
shifts_keep c Turn.Over s t going d counted h = absurd (cc)

-- ---- A thread gets an entry

pub put_place : (m : Mark) (n : ℕ) (w : Why) (s : Core) → (m ≡ Mark.Switch → ⊥) → (p : Place) → place_of n s ≡ Some p → place_of n (put_at m n w s) ≡ Some (Place.Ready m w)
unfolding put_high put_low push_high push_low set_place on_thread
put_place Mark.High n w s low p at = grind (arith, nat_tests, get-change, at)
put_place Mark.Low n w s low p at = grind (arith, nat_tests, get-change, at)
put_place Mark.Switch n w s low p at = absurd (low refl)

pub put_others : (m : Mark) (n : ℕ) (w : Why) (s : Core) → (m ≡ Mark.Switch → ⊥) → (j : ℕ) → (j == n) ≡ false → place_of j (put_at m n w s) ≡ place_of j s
unfolding put_high put_low push_high push_low set_place on_thread
put_others Mark.High n w s low j apart = grind (arith, nat_tests, get-change, apart)
put_others Mark.Low n w s low j apart = grind (arith, nat_tests, get-change, apart)
put_others Mark.Switch n w s low j apart = absurd (low refl)

waiter_place : (x : ℕ) (o : Option Place) → option_map_or (is_waiting_on x) o false ≡ true → (q : ℕ × Bool) × (o ≡ Some (Place.Waiting q.0 q.1))
waiter_place x (Some (Place.Waiting y b)) on = ((y, b), refl)
waiter_place x o on = absurd (grind (arith, on))

callback_place : (o : Option Place) → option_map_or is_waiting o false ≡ true → (p : Place) × ((o ≡ Some p) × ((y : ℕ) (far : OpProgress) → woken_place y (Some p) far ≡ false))
callback_place (Some (Place.Waiting y b)) on = (Place.Waiting y b, (refl, λ z far. refl))
callback_place o on = absurd (grind (arith, on))

pub counted_of : (c : Component) (p : Turn) (s : Core) → is_open p ≡ true → InOrderForAnyMain c p s → WakesCounted s
counted_of c p s going h = ((h Unscripted).awake going).counted

-- where a thread is that gets an entry it isn't running, and where it is woken for a set the entry is for that
pub put_from : (n : ℕ) (w : Why) (s : Core) → MayPut n w s → (p : Place) × ((place_of n s ≡ Some p) × ((y : ℕ) (m : Mark) → woken_place y (Some p) (op_progress_of n s) ≡ true → woken_place y (Some (Place.Ready m w)) (op_progress_of n s) ≡ true))
put_from n w s (Starts at own queued is) = (Place.New, (at, λ y m on. absurd (grind (arith, on))))
put_from n w s (Resumes may) = by (place_of n s) refl
  where
    by : (o : Option Place) → place_of n s ≡ o → (p : Place) × ((place_of n s ≡ Some p) × ((y : ℕ) (m : Mark) → woken_place y (Some p) (op_progress_of n s) ≡ true → woken_place y (Some (Place.Ready m w)) (op_progress_of n s) ≡ true))
    by (Some Place.New) at = (Place.New, (at, λ y m on. absurd (grind (arith, on))))
    by (Some Place.Suspended) at = (Place.Suspended, (at, λ y m on. absurd (grind (arith, on))))
    by o at = absurd (grind (arith, may, at))
put_from n w s (Wakes x waits is) =
    let p = waiter_place x (place_of n s) waits in (Place.Waiting p.0.0 p.0.1, (p.1, λ y m on. absurd (grind (arith, on))))
put_from n w s (Unblocks sub at done is) = (Place.Blocked sub, (at, λ y m on. absurd (grind (arith, on))))
put_from n w s (Releases at) = (Place.Held w, (at, λ y m on. grind (arith, on)))
put_from n w s (Cancels at is) = let p = callback_place (place_of n s) at in (p.0, (p.1.0, λ y m on. absurd (let none = p.1.1 y (op_progress_of n s) in grind (arith, on, none))))

put_counted : (m : Mark) (n : ℕ) (w : Why) (s : Core) → (m ≡ Mark.Switch → ⊥) → MayPut n w s → WakesCounted s → WakesCounted (put_at m n w s)
put_counted m n w s low may counted =
    let from = put_from n w s may in
    let to = put_place m n w s low from.0 from.1.0 in
    placing_counted s (put_at m n w s) (placing_shifted (Put m n w) s)
    (λ y j on. by_number j n _ (λ is. absurd (grind (arith, to, on, is))) (λ apart. ap (λ (o : Option Place). option_map_or (is_waiting_on y) o false) (sym (put_others m n w s low j apart)) ∙ on))
    (λ y j on. by_number j n _
    (λ is. let at = from.1.0 in let goes = from.1.1 y m in grind (arith, to, at, goes, on, is))
    (λ apart. ap (λ (o : Option Place). woken_place y o (op_progress_of j s)) (put_others m n w s low j apart) ∙ on)) counted

-- a thread that doesn't run gets an entry at high or low
pub put_keeps : (c : Component) (p : Turn) (m : Mark) (n : ℕ) (w : Why) (s : Core) → is_open p ≡ true → (m ≡ Mark.Switch → ⊥) → MayPut n w s → KeepsOrder c p s p (put_at m n w s)
put_keeps c p Mark.High n w s going low may h = shifts_keep c p s (put_high n w s) going (placed (Put Mark.High n w) may NoPrimitive) (put_counted Mark.High n w s low may (counted_of c p s going h)) h
put_keeps c p Mark.Low n w s going low may h = shifts_keep c p s (put_low n w s) going (placed (Put Mark.Low n w) may NoPrimitive) (put_counted Mark.Low n w s low may (counted_of c p s going h)) h
put_keeps c p Mark.Switch n w s going low may h = absurd (low refl)
