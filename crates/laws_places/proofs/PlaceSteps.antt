-- Where each thread is after a step.
use Rattle.laws_places.proofs.Laws.{ap, arith, base_at, base_without, Bool, by_number, Core, Entry, false, get, HasSubtask, InPlace, inr, is_behind_of, is_idle, is_so, is_take, IsRunner, Label, LastPrimitives, left_placed, Loose, Mark, nat_tests, next_entry, no_time, None, Op, Option, option_map, Place, place_of, Placed, placing_works, Pop, popped, refl, runner_at, SameWorks, says, Scene, scene_as, set_high, set_low, set_switch, Setting, settled_turn, Some, stand_of, start_of, State, subst, Subtask, sym, Thread, thread_of_entry, Trip, true, Turn, WalkedAs, was_started, zero_one, ℕ, ◌+◌, ◌∙◌, ◌≡◌}
use Rattle.laws_places.proofs.{Entries.Cleared, Entries.next_first, Entries.popped_cleared, PlaceLaw.Arrives, PlaceLaw.Frame, PlaceLaw.ReadyAt, PlaceLaw.entry_ready, PlaceLaw.is_run, PlaceLaw.so_self, PlaceLaw.trip_arrives, PlaceLaw.waits, PlaceLaw.watch}

-- a start that the running thread may withdraw is awaited, or its thread is gone
abbrev pub Withdrawable : Scene → Type 0
Withdrawable a = (m k : ℕ) → IsRunner a m → HasSubtask a m (Subtask.Guest k) → was_started k a.base ≡ false → waits a k ≡ true

-- ---- No thread runs or is taken

nobody_frame : (a : Scene) (b : Core) → a.runner ≡ None → ((m : ℕ) → a.turn ≡ Turn.Run m → ⊥) →
    ((k : ℕ) → place_of k b ≡ place_of k a.base) →
    b.made.threads ≡ a.base.made.threads → Placed b → Frame a b (b.made.threads + 2) None
nobody_frame a b none idle home made all = record {
  follows = record {
    busy = refl;
    runs = λ m e. absurd (idle m e);
    apart = grind (arith, nat_tests, made);
    withdraws = λ m k is has unstarted. absurd (cc);
    start = stand_of {P = watch a} (b.made.threads + 2) None b gone refl
        (λ k w. ap (is_so (watch a k)) (home k) ∙ so_self (place_of k a.base)) all;
  };
  home = home;
  one = λ m is. absurd (cc);
  there = λ m is. absurd (cc);
  own = λ p e. absurd (cc);
  running = λ m e. absurd (idle m e);
  rests = λ t w i. i (ap is_idle (sym (home (b.made.threads + 2)) ∙ gone));
}
  where
    -- the number wasn't given
    gone : place_of (b.made.threads + 2) b ≡ None
    gone = let given = (all (b.made.threads + 2)).number in grind arith

-- ---- A thread runs

running_frame : (a : Scene) (n : ℕ) → a.runner ≡ Some n → a.turn ≡ Turn.Run n → place_of n a.base ≡ Some Place.Running → Withdrawable a →
    Placed a.base → Frame a a.base n (Some Place.Running)
running_frame a n is runs at may all = record {
  follows = record {
    busy = refl;
    runs = λ m e. (refl, refl);
    apart = let given = (all n).number in grind (arith, nat_tests);
    withdraws = may;
    start = stand_of {P = watch a} n (Some Place.Running) a.base at refl (λ k w. so_self (place_of k a.base)) all;
  };
  home = λ k. refl;
  one = λ m e. grind arith;
  there = λ m e. (Place.Running, (refl, refl));
  own = λ p e. is;
  running = λ m e. (grind arith, refl);
  rests = λ t w i. i (ap is_idle at);
}

-- ---- A thread is taken

-- the same is read of threads and works
abbrev pub Reads : Core → Core → Type 0
Reads s b = (b.threads ≡ s.threads) × ((b.works ≡ s.works) × (b.made ≡ s.made))

popped_reads : (x : Mark) (s : Core) → Reads s (popped x s)
unfolding popped set_switch set_high set_low
popped_reads x s = grind arith

taken_frame : (a : Scene) (n : ℕ) (s : Core) → a.runner ≡ Some n → ((m : ℕ) → a.turn ≡ Turn.Run m → ⊥) → is_take a.turn ≡ true →
    Cleared n s a.base → ReadyAt (place_of n s) → a.base.made ≡ s.made → Withdrawable a → Placed s → (p : Place) × Frame a a.base n (Some p)
taken_frame a n s is idle take c r made may all = (
  Place.Ready r.0 r.1.0,
  record {
    follows = record {
      busy = refl;
      runs = λ m e. absurd (idle m e);
      apart = let given = (all n).number in let at = r.1.1 in grind (arith, nat_tests);
      withdraws = may;
      start = record {
        here = c.places n ∙ r.1.1;
        once = λ k. grind arith;
        loose = λ k h. by_number k n _ (λ e. subst (λ (j : ℕ). Loose j a.base) (sym e) (c.own (λ f. ap (says (is_behind_of f)) r.1.1)))
            (λ e. zero_one (no_time k n e) h);
        there = λ k h. zero_one refl h;
        placed = λ k h. left_placed k s a.base (c.left k (grind arith)) (c.places k) (all k);
        kept = λ k w. (refl, so_self (place_of k a.base));
      };
    };
    home = λ k. refl;
    one = λ m e. grind arith;
    there = λ m e. (Place.Ready r.0 r.1.0, (refl, refl));
    own = λ p e. is;
    running = λ m e. absurd (idle m e);
    rests = λ t w i. w.laid n is take;
  },
)

-- ---- A step

-- what holds of each trip with such a frame
abbrev pub OfTrips : Core → (Scene → Core → Type 0) → Type 0
OfTrips s C = (a : Scene) (b : Core) (n : ℕ) (q : Option Place) (t : Core) → Reads s a.base → Reads s b → SameWorks s b → Frame a b n q →
    Trip a b t → LastPrimitives a t → C a t

-- holds of the step
module _ (ops : ℕ → Op) (x : Setting) (s : State) (l : Label) (next : Turn) (h : InPlace s) (C : Scene → Core → Type 0) (goes : OfTrips s.core C) where
  abbrev at : Turn → Core → Option ℕ → Scene
  at u base o = record { setting = x; main = s.main; turn = u; base = base; runner = o; label = l; next = next; ops = ops }

  abbrev OfStep : Scene → Type 0
  OfStep a = (t : Core) → Withdrawable a → Trip a (start_of a s.core) t → LastPrimitives a t → C a t

  same : Reads s.core s.core
  same = (refl, (refl, refl))

  nobody : (u : Turn) (base : Core) → is_run u ≡ false → Reads s.core base → OfStep (at u base None)
  nobody u base idle reads t may c w =
      let home = λ (k : ℕ). ap (λ m. option_map (λ (r : Thread). r.place) (get m k)) (sym reads.0) in
      goes (at u base None) s.core _ _ t reads same (record { high = refl; low = refl })
      (nobody_frame (at u base None) s.core refl (λ m e. absurd (grind arith)) home (grind arith) h.placed) c w

  by_entry : (ended : Bool) (o : Option (Mark × Entry)) → next_entry s.core ≡ o →
      OfStep (at (Turn.Take ended) (base_without o s.core) (thread_of_entry o))
  by_entry ended None e t may c w = nobody (Turn.Take ended) s.core refl same t may c w
  by_entry ended (Some (y, Entry.Thread n)) e t may c w =
      let a = at (Turn.Take ended) (popped y s.core) (Some n) in
      let took = popped_cleared y n s.core (next_first s.core y (Entry.Thread n) e) (h.placed n) in
      let reads = popped_reads y s.core in
      goes a (popped y s.core) _ _ t reads reads (placing_works (at (Turn.Take ended) s.core (Some n)) (Pop y) s.core (inr (n, (refl, e))))
      (taken_frame a n s.core refl (λ m e. absurd (cc)) refl took.0 (entry_ready n s.core (h.placed n) took.1) reads.1.1 may h.placed).1 c w
  by_entry ended (Some (y, d)) e t may c w = nobody (Turn.Take ended) (popped y s.core) refl (popped_reads y s.core) t may c w

  by_turn : (u : Turn) → s.turn ≡ u → OfStep (at u (base_at u s.core) (runner_at u s.core))
  by_turn (Turn.Run n) e t may c w =
      let a = at (Turn.Run n) s.core (Some n) in
      goes a s.core _ _ t same same (record { high = refl; low = refl }) (running_frame a n refl refl (h.runs n e) may h.placed) c w
  by_turn (Turn.Take ended) e t may c w = by_entry ended (next_entry s.core) refl t may c w
  by_turn u e t may c w = nobody u s.core refl same t may c w

pub step_by : {ops : ℕ → Op} (x : Setting) (s : State) (l : Label) (t : State) (w : WalkedAs ops x s l t) → InPlace s → Withdrawable (scene_as ops x s l w.next) →
    (C : Scene → Core → Type 0) → OfTrips s.core C → C (scene_as ops x s l w.next) t.core
step_by {ops = ops} x s l t w h may C goes = by_turn ops x s l w.next h C goes s.turn refl t.core may w.trip w.ends

pub step_arrives : {ops : ℕ → Op} (x : Setting) (s : State) (l : Label) (t : State) (w : WalkedAs ops x s l t) → InPlace s →
    Withdrawable (scene_as ops x s l w.next) → Arrives (scene_as ops x s l w.next) t.core
step_arrives x s l t w h may = step_by x s l t w h may Arrives (λ a b n q u base first same f c ends. trip_arrives f c ends)

-- ---- The turn

pub settled_run : (s : Core) (u : Turn) (m : ℕ) → settled_turn s u ≡ Turn.Run m → u ≡ Turn.Run m
settled_run s u m e = grind arith
