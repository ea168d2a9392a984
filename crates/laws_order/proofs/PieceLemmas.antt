-- Pieces of rules, after which the running thread goes on, keep order.
use Rattle.machine_rules.proofs.LawLemmas.{walk_steady}
use Rattle.laws_order.proofs.WalkedLemmas.{walked_in_order}
use Rattle.laws_order.specs.Pieces.{KeepsOrder, InOrderForAnyMain, PromoteKeeps, ResumeKeeps, SameInstances, WalkedInOrder, state_in}
use Rattle.laws_states.proofs.OneHolder.{instance_stays, table_stays}
use Rattle.laws_states.proofs.WakeCounts.{woken_at, woken_place}
use Rattle.machine_data.specs.Moves.{promoted_unless}
use Rattle.machine_data.specs.Read.{is_ready_to_resume, is_yielded}
use Rattle.machine_data.specs.declared.label.DataLabel.{DataLabel}
use Rattle.machine_data.specs.declared.scenario.IdleLine.{IdleLine}
use Rattle.laws_places.proofs.CountedSteps.{counted_stay}
use Rattle.laws_places.proofs.Laws.{Component, Core, OpProgress, Label, LastPrimitives, Main, Mark, None, Option, Place, Placed, Promote, Put, SameMain, Scene, Scripted, Setting, Some, Stay, Trip, Turn, Unscripted, WakesCounted, Walk, Why, [], along, and_parts, ap, arith, by_number, displaced, false, get, get-change, op_progress_of, if◌then◌else◌, inl, inr, is_at, is_at_switch, is_some, is_waiter, is_waiting_on, member_same, nat_tests, on_thread, option_map_or, place_of, placing_shifted, promoted, push_high_first, put_switch, refl, set_high, set_low, set_place, set_switch, settled_turn, shifted_calls, shifted_far, shifted_works, subst, sym, true, unqueued, ℕ, ◌==◌, ◌∙◌, ◌≡◌, ◌⊎◌}
use Rattle.machine_rules.proofs.ChainLemmas.{trip_walk}
use Rattle.machine_rules.proofs.PlacingLemmas.{Shifted, placed}
use Rattle.machine_rules.proofs.WalkTask.{goes_on, seen}
use Rattle.machine_rules.specs.Allowed.{Resumes}
use Rattle.machine_rules.specs.Chains.{NoPrimitive}
use Rattle.machine_rules.specs.Scripts.{ops_of}
use Rattle.machine_rules.specs.Threads.{has_yielded, resume_why}

-- ---- A piece of the running thread's

-- a label that says nothing
abbrev pub silent : ℕ → Label
silent n = Label.Data (DataLabel.SkipEq n)

abbrev pub setting_for : Component → Setting
setting_for c = record { component = c; script = []; idle = IdleLine.Trap }

-- the scene of a piece of the thread n, that goes on
abbrev pub piece : Component → Main → Core → ℕ → Scene
piece c m s n = seen (ops_of c s) (setting_for c) m (Turn.Run n) s n (silent n) (Turn.Run n)

pub same_main : (m : Main) (t : Core) → SameMain m t m
same_main (Scripted p) t = λ k. inl (k, refl)
same_main Unscripted t = tt

-- the primitives of a walk make no instance, and take none away
pub walk_instances : {a : Scene} {s t : Core} → Walk a s t → SameInstances s t
walk_instances {s = s} c = record {
  instances = λ i. along (λ u. is_some (get u.instances i) ≡ is_some (get s.instances i)) (λ w u ok same. instance_stays w u i ∙ same) refl c;
  handles = λ i. along (λ u. is_some (get u.handles i) ≡ is_some (get s.handles i)) (λ w u ok same. table_stays w u i ∙ same) refl c;
}

-- what a rule of the running thread leads to is in order
pub lead_keeps : (c : Component) (n : ℕ) (l : Label) (p : Turn) (s t : Core) →
    ((m : Main) → Trip (seen (ops_of c s) (setting_for c) m (Turn.Run n) s n l p) s t × LastPrimitives (seen (ops_of c s) (setting_for c) m (Turn.Run n) s n l p) t) →
    p ≡ settled_turn t p → WakesCounted t → KeepsOrder c (Turn.Run n) s p t
unfolding WalkedInOrder
lead_keeps c n l p s t leads settled counted h = (
  λ m.
      let r = leads m in
      walked_in_order (setting_for c) (state_in m (Turn.Run n) s) l (state_in m p t) refl (h m)
      (record { next = p; turn = settled; main = same_main m t; walk = trip_walk r.0; trip = r.0; ends = r.1 })
      (walk_steady (trip_walk r.0)) (λ on. counted),
  walk_instances (trip_walk (leads Unscripted).0),
)

-- what the running thread does while it stays where it is keeps order
pub piece_keeps : (c : Component) (n : ℕ) (s t : Core) → ((m : Main) → Stay (piece c m s n) s t) → WakesCounted t → KeepsOrder c (Turn.Run n) s (Turn.Run n) t
piece_keeps c n s t stays counted h = lead_keeps c n (silent n) (Turn.Run n) s t
    (λ m. goes_on (ops_of c s) (setting_for c) m s n (silent n) (Turn.Run n) (silent n) t refl (λ to. stays m) refl refl) refl counted h

-- ---- Changes of places

-- who waits on a set waited before, and who is woken stays so
pub placing_counted : (s t : Core) → Shifted s t → ((y j : ℕ) → is_waiter y j t ≡ true → is_waiter y j s ≡ true) →
    ((y j : ℕ) → woken_place y (place_of j s) (op_progress_of j s) ≡ true → woken_place y (place_of j t) (op_progress_of j s) ≡ true) →
    WakesCounted s → WakesCounted t
placing_counted s t h waits woken counted = counted_stay waits
    (λ y sub on. sym (member_same y s t (shifted_calls h) (shifted_works h) sub) ∙ on)
    (λ y j on. woken_at y j t ∙ (ap (woken_place y (place_of j t)) (shifted_far h j) ∙ woken y j (sym (woken_at y j s) ∙ on))) counted

-- ---- The switch entry

-- where a thread is that has an entry, once it is elsewhere
abbrev pub Moved : Option Place → Option Place → Type 0
Moved o p = (p ≡ o) ⊎ ((a : Mark) × ((b : Mark) × ((v : Why) × ((o ≡ Some (Place.Ready a v)) × (p ≡ Some (Place.Ready b v))))))

pub moved_waits : (y : ℕ) (o p : Option Place) → Moved o p → option_map_or (is_waiting_on y) p false ≡ true → option_map_or (is_waiting_on y) o false ≡ true
moved_waits y o p (inl e) on = ap (λ (q : Option Place). option_map_or (is_waiting_on y) q false) (sym e) ∙ on
moved_waits y o p (inr q) on = absurd (let to = q.1.1.1.1 in grind (arith, to, on))

pub moved_woken : (y : ℕ) (far : OpProgress) (o p : Option Place) → Moved o p → woken_place y o far ≡ true → woken_place y p far ≡ true
moved_woken y far o p (inl e) on = ap (λ (q : Option Place). woken_place y q far) e ∙ on
moved_woken y far o p (inr q) on = let from = q.1.1.1.0 in let to = q.1.1.1.1 in grind (arith, from, to, on)

-- what is at switch has left it
pub displaced_there : (o : Option ℕ) (s : Core) (j : ℕ) → is_some (place_of j (displaced o s)) ≡ is_some (place_of j s)
unfolding push_high_first set_place on_thread
displaced_there None s j = refl
displaced_there (Some d) s j = grind (arith, nat_tests, get-change)

pub displaced_moved : (o : Option ℕ) (s : Core) → ((d : ℕ) → o ≡ Some d → is_at d s is_at_switch ≡ true) → (j : ℕ) → Moved (place_of j s) (place_of j (displaced o s))
unfolding push_high_first set_place on_thread
displaced_moved None s at j = inl refl
displaced_moved (Some d) s at j = by_number j d _ (λ is. own is (place_of d s) refl (at d refl)) (λ apart. inl (grind (arith, nat_tests, get-change, apart)))
  where
    own : j ≡ d → (o : Option Place) → place_of d s ≡ o → is_at d s is_at_switch ≡ true → Moved (place_of j s) (place_of j (displaced (Some d) s))
    own is (Some (Place.Ready m v)) here on = inr (m, (Mark.High, (v, (grind (arith, is, here), grind (arith, nat_tests, get-change, is, here)))))
    own is o here on = absurd (grind (arith, here, on))

module _ (k : ℕ) (w : Why) (s : Core) (placed : Placed s) (may : resume_why k s ≡ Some w) where
  abbrev t : Core
  t = put_switch k w s

  standing : (d : ℕ) → s.queues.switch ≡ Some d → is_at d s is_at_switch ≡ true
  standing d is = let at = (placed d).switch in grind (arith, nat_tests, at, is)

  -- every other thread is where it was, or its entry is at another mark
  others : (j : ℕ) → (j == k) ≡ false → Moved (place_of j s) (place_of j t)
  unfolding put_switch set_switch set_place on_thread
  others j apart = subst (λ (p : Option Place). Moved (place_of j s) p)
      (sym (grind (arith, nat_tests, get-change, apart))) (displaced_moved s.queues.switch s standing j)

  own : place_of k t ≡ Some (Place.Ready Mark.Switch w)
  unfolding put_switch set_switch set_place on_thread
  own = let there = displaced_there s.queues.switch s k in grind (arith, nat_tests, get-change, may, there)

  resumed_counted : WakesCounted s → WakesCounted t
  resumed_counted counted = placing_counted s t (placing_shifted (Put Mark.Switch k w) s)
      (λ y j on. by_number j k _ (λ is. absurd (let to = own in grind (arith, to, on, is))) (λ apart. moved_waits y (place_of j s) (place_of j t) (others j apart) on))
      (λ y j on. by_number j k _ (λ is. absurd (grind (arith, may, on, is))) (λ apart. moved_woken y (op_progress_of j s) (place_of j s) (place_of j t) (others j apart) on)) counted

pub resume_keeps : ResumeKeeps
unfolding ResumeKeeps
resume_keeps c n k w s may h = piece_keeps c n s (put_switch k w s)
    (λ m. placed (Put Mark.Switch k w) (inr (Resumes may, ((n, refl), λ j f at. at))) NoPrimitive)
    (resumed_counted k w s (h Unscripted).in_place.placed may ((h Unscripted).awake refl).counted) h

-- ---- A promotion

-- the entry of a thread that has one is at switch
pub promoted_moved : (k : ℕ) (s : Core) (m : Mark) (w : Why) → place_of k s ≡ Some (Place.Ready m w) → (j : ℕ) → Moved (place_of j s) (place_of j (promoted k s))
unfolding promoted unqueued set_high set_low set_switch set_place on_thread
promoted_moved k s m w at j = by_number j k _
    (λ is. inr (m, (Mark.Switch, (w, (grind (arith, is, at), grind (arith, nat_tests, get-change, is, at))))))
    (λ apart. inl (grind (arith, nat_tests, get-change, apart)))

ready_place : (o : Option Place) → option_map_or is_ready_to_resume o false ≡ true → (m : Mark) × ((w : Why) × (o ≡ Some (Place.Ready m w)))
ready_place (Some (Place.Ready m w)) e = (m, (w, refl))
ready_place None e = absurd (grind arith)
ready_place (Some p) e = absurd (grind arith)

pub promote_keeps : PromoteKeeps
unfolding PromoteKeeps promoted_unless has_yielded
promote_keeps c n k s may h = by s.queues.switch refl
  where
    ready : (m : Mark) × ((w : Why) × (place_of k s ≡ Some (Place.Ready m w)))
    ready = ready_place (place_of k s) (and_parts (option_map_or is_ready_to_resume (place_of k s) false) (is_yielded (op_progress_of k s)) may).0

    moves : s.queues.switch ≡ None → InOrderForAnyMain c (Turn.Run n) (promoted k s) × SameInstances s (promoted k s)
    moves free = piece_keeps c n s (promoted k s)
        (λ m. placed (Promote k) (inr (free, (n, (refl, ready)))) NoPrimitive)
        (placing_counted s (promoted k s) (placing_shifted (Promote k) s)
        (λ y j on. moved_waits y (place_of j s) (place_of j (promoted k s)) (promoted_moved k s ready.0 ready.1.0 ready.1.1 j) on)
        (λ y j on. moved_woken y (op_progress_of j s) (place_of j s) (place_of j (promoted k s)) (promoted_moved k s ready.0 ready.1.0 ready.1.1 j) on)
        ((h Unscripted).awake refl).counted) h

    by : (o : Option ℕ) → s.queues.switch ≡ o → let t = if is_some o then s else promoted k s in InOrderForAnyMain c (Turn.Run n) t × SameInstances s t
    by None is = moves is
    by (Some d) is = (h, record { instances = λ i. refl; handles = λ i. refl })
