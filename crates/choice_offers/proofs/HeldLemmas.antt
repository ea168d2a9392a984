-- Who is held after a step was held before it, or its label says so.
use Rattle.choice_offers.specs.Held.{HeldIsKnown}
use Rattle.laws_picks.specs.Arrival.{held_after, held_last, is_in}
use Rattle.laws_states.proofs.CameLemmas.{Came, Comes, Shifts, Turned, Turns, came_primitive, read_same}
use Rattle.laws_states.proofs.Primitives.{MayStand, Moved}
use Rattle.laws_states.specs.Order.{InOrder}
use Rattle.machine_data.specs.Core.{Core, State}
use Rattle.machine_data.specs.Labels.{Choice, choice_of, event_label, held_label, take_label}
use Rattle.machine_data.specs.Moves.{NothingPicked, PickedEvent, PickedMember, PickedTaskEvent, given_for, may_hand_on, picked_event, picked_task_event_only, stopped}
use Rattle.machine_data.specs.Read.{admits, at_handle_limit, foot_of, held_why, is_explicit, next_entry, place_of, task_of}
use Rattle.machine_data.specs.Write.{arrival, arrive}
use Rattle.machine_data.specs.declared.label.Label.TheVariants as label
use Rattle.machine_data.specs.declared.label.Label.{Label}
use Rattle.machine_data.specs.declared.label.TakeLabel.TheVariants as take
use Rattle.machine_data.specs.declared.label.TakeLabel.{TakeLabel}
use Rattle.machine_data.specs.declared.records.Delivery.TheVariants as delivery
use Rattle.machine_data.specs.declared.records.Delivery.{Delivery}
use Rattle.machine_data.specs.declared.records.Entry.TheVariants as entry
use Rattle.machine_data.specs.declared.records.Entry.{Entry}
use Rattle.machine_data.specs.declared.records.Place.TheVariants as place
use Rattle.machine_data.specs.declared.records.Place.{Place}
use Rattle.machine_data.specs.declared.records.Turn.TheVariants as turn
use Rattle.machine_data.specs.declared.records.Turn.{Turn}
use Rattle.machine_data.specs.declared.records.Why.TheVariants as why
use Rattle.machine_data.specs.declared.records.Why.{Why}
use Rattle.machine_data.specs.declared.statuses.Mark.{Mark}
use Rattle.machine_data.specs.declared.trap.Trap.TheVariants as trap
use Rattle.machine_data.specs.declared.trap.Trap.{Trap}
use Rattle.machine_rules.proofs.ChainLemmas.{along}
use Rattle.machine_rules.proofs.PlacingLemmas.{placing_shifted}
use Rattle.machine_rules.proofs.StandLemmas.{set_place_is}
use Rattle.machine_rules.proofs.WalkSteps.{step_walks}
use Rattle.machine_rules.specs.Allowed.{AwaitsEvent, Blocks, Holds, IsLaid, MayMove, Runs, Suspends, Uncovers, Waits, WaitsAgain, WasReady}
use Rattle.machine_rules.specs.Chains.{Walk}
use Rattle.machine_rules.specs.Primitives.{Stop, after_primitive}
use Rattle.machine_rules.specs.Progress.{Continues, Progress, Stops, may, or_never, trap_if}
use Rattle.machine_rules.specs.Scenes.{Scene, base_at, base_without, runner_at, scene_of, thread_of_entry}
use Rattle.machine_rules.specs.Stalled.{Setting}
use Rattle.machine_rules.specs.Step.{Progresses, Step, TakeStep, TurnStep}
use Rattle.machine_rules.specs.Ends.{may_tell}
use Rattle.machine_rules.specs.Sets.{chosen, handed_out}
use Rattle.machine_rules.specs.Takes.{activated, activated_woken, delivered, delivery_rule, may_tell_starting, own_delivered, popped, running, set_delivered, start_admitted, start_begins, start_holds, start_rule, take_holds, thread_taken, thread_taken_for, wait_again}
use Rattle.machine_rules.specs.Turns.{at_turn, goes_to, settled_turn}
use Rattle.std.proofs.Common.{ap, arith, inl, inr, refl, subst, sym, ◌∙◌}
use Rattle.std.proofs.lemmas.Bool.Decides.{nat_tests}
use Rattle.std.specs.Option.{option_and_then}
use Rattle.std.specs.Prelude.{Bool, List, None, Option, Some, [], false, filter, is_some, not, true, ℕ, ◌++◌, ◌==◌, ◌∷◌, ◌≡◌, ◌⊎◌}

-- ---- Along the primitives of a step

moved_held : (can : Why → Type 0) (o p : Option Place) (v : Why) → Moved can o p → p ≡ Some (place.Held v) → o ≡ Some (place.Held v)
moved_held can o p v came is = grind arith

turned_held : (a : Scene) (s t : Core) (n : ℕ) (o p : Option Place) (v : Why) → Turned a s t n o p → p ≡ Some (place.Held v) → ⊥
turned_held a s t n o p v came is = grind arith

-- the thread was taken with this, and doesn't run then
abbrev IsLaidWith : Scene → ℕ → Why → Type 0
IsLaidWith a n v = IsLaid a n × WasReady a n v

laid_by : (a : Scene) (n : ℕ) (p : Place) (s : Core) (v : Why) → MayMove a n p s → p ≡ place.Held v → IsLaidWith a n v
laid_by a n p s v (Holds w laid was out is) e = let same : w ≡ v = cc in (laid, subst (λ (y : Why). WasReady a n y) same was)
laid_by a n p s v (Runs runs to begun is) e = absurd (cc)
laid_by a n p s v (WaitsAgain x laid was ready is) e = absurd (cc)
laid_by a n p s v (AwaitsEvent x leaves ends has ready is) e = absurd (cc)
laid_by a n p s v (Waits x leaves has ready is) e = absurd (cc)
laid_by a n p s v (Blocks sub leaves has undone unended is) e = absurd (cc)
laid_by a n p s v (Suspends leaves is) e = absurd (cc)
laid_by a n p s v (Uncovers m runs to under gone is) e = absurd (cc)

-- whoever is held was held with that before, or was taken with it
abbrev WasHeld : Scene → Core → Core → Type 0
WasHeld a b u = (n : ℕ) (v : Why) → place_of n u ≡ Some (place.Held v) → (place_of n b ≡ Some (place.Held v)) ⊎ IsLaidWith a n v

came_held : (a : Scene) (b u t : Core) (n : ℕ) (v : Why) (p : Option Place) → WasHeld a b u → Came a u t n (place_of n u) p → p ≡ Some (place.Held v) →
    (place_of n b ≡ Some (place.Held v)) ⊎ IsLaidWith a n v
came_held a b u t n v p q (Shifts c) is = q n v (moved_held (MayStand a u n) (place_of n u) p v c is)
came_held a b u t n v p q (Comes r ok e there) is = let same : r ≡ place.Held v = cc in inr (laid_by a n r u v ok same)
came_held a b u t n v p q (Turns c) is = absurd (turned_held a u t n (place_of n u) p v c is)

walk_held : (a : Scene) (b t : Core) → Walk a b t → WasHeld a b t
walk_held a b t c = along (WasHeld a b) (λ w u ok q n v at. came_held a b u (after_primitive w u) n v (place_of n (after_primitive w u)) q (came_primitive w u ok n) at) (λ n v at. inl at) c

-- ---- The order after a label

last_in : (n : ℕ) (ns : List ℕ) → is_in n (ns ++ n ∷ []) ≡ true
last_in n [] = grind (arith, nat_tests)
last_in n (j ∷ ns) = let more = last_in n ns in grind (arith, nat_tests)

last_keeps : (k n : ℕ) (ns : List ℕ) → is_in n ns ≡ true → is_in n (held_last k ns) ≡ true
last_keeps k n [] h = absurd (cc)
last_keeps k n (j ∷ ns) h = by (j == n) refl (is_in n ns) refl (last_keeps k n ns)
  where
    by : (b : Bool) → (j == n) ≡ b → (c : Bool) → is_in n ns ≡ c → (is_in n ns ≡ true → is_in n (held_last k ns) ≡ true) → is_in n (held_last k (j ∷ ns)) ≡ true
    by false e true more again = let rest = again more in grind (arith, nat_tests)
    by false e false less again = absurd (cc)
    by true e c more again = let last = last_in n (filter (λ m. not (m == k)) ns) in grind (arith, nat_tests)

taking_keeps : (l : TakeLabel) (n : ℕ) (ns : List ℕ) → is_in n ns ≡ true → is_in n (held_after (label.Take l) ns) ≡ true
taking_keeps (take.Held m k) n ns h = last_keeps k n ns h
taking_keeps (take.HeldWakes m k w) n ns h = last_keeps k n ns h
taking_keeps _ n ns h = h

after_keeps : (l : Label) (n : ℕ) (ns : List ℕ) → is_in n ns ≡ true → is_in n (held_after l ns) ≡ true
after_keeps (label.Take l) n ns h = taking_keeps l n ns h
after_keeps _ n ns h = h

held_said : (m : Mark) (n : ℕ) (w : Option ℕ) (ns : List ℕ) → is_in n (held_after (held_label m n w) ns) ≡ true
held_said m n None ns = last_in n (filter (λ k. not (k == n)) ns)
held_said m n (Some w) ns = last_in n (filter (λ k. not (k == n)) ns)

-- ---- The taken thread

-- to arrive moves nobody
arrived_place : (n k : ℕ) (s : Core) → place_of k (arrive n s) ≡ place_of k s
unfolding arrive
arrived_place n k s = read_same n (λ t. record t { came = arrival s.version s.arrivals t.came }) (λ t. refl) k s

waits_at : (n x : ℕ) (s : Core) → is_some (place_of n s) ≡ true → place_of n (wait_again n x s) ≡ Some (place.Waiting x true)
unfolding wait_again
waits_at n x s there =
    let v = stopped (foot_of n s) s in
    let u = arrive n v in
    let same = (placing_shifted (Stop (foot_of n s)) s).threads n in
    let stays : is_some (place_of n v) ≡ true = grind arith in
    let here : is_some (place_of n u) ≡ true = ap (λ (o : Option Place). is_some o) (arrived_place n n v) ∙ stays in
    grind (arith, nat_tests, set_place_is n n (place.Waiting x true) u)

core_of : (s : State) (u : Core) (p : Turn) (t : State) → t ≡ goes_to s u p → t.core ≡ u
unfolding at_turn
core_of s u p t is = ap (λ (y : State). y.core) is

turn_of : (s : State) (u : Core) (p : Turn) (t : State) → t ≡ goes_to s u p → t.turn ≡ settled_turn u p
unfolding at_turn
turn_of s u p t is = ap (λ (y : State). y.turn) is

-- It is held in t, and main's turn comes: then the label says that it is held.
module _ (s t : State) (l : Label) (order : List ℕ) (b : Core) (m : Mark) (n : ℕ) (v : Why) (next : t.turn ≡ turn.Main)
    (held : place_of n t.core ≡ Some (place.Held v)) (there : is_some (place_of n b) ≡ true) where
  abbrev Said : Type 0
  Said = is_in n (held_after l order) ≡ true

  continues : (k : Label) (u : Core) → Progresses s b n (Continues k u n) l t → Said
  continues k u row = let runs = turn_of s u (turn.Run n) t row.1 in absurd (cc)

  holds : (w : Option ℕ) (u : Core) → Progresses s b n (Stops (held_label m n w) u) l t → Said
  holds w u row = subst (λ (k : Label). is_in n (held_after k order) ≡ true) (sym row.0) (held_said m n w order)

  may_be : (c : Bool) (p : Progress) → (Progresses s b n p l t → Said) → Progresses s b n (may c p) l t → Said
  may_be true p f row = f row
  may_be false p f row = absurd row

  may_trap : (c : Bool) (w : Trap) (p : Progress) → (Progresses s b n p l t → Said) → Progresses s b n (trap_if c w p) l t → Said
  may_trap true w p f row = let over = turn_of s _ turn.Over t row.1 in absurd (cc)
  may_trap false w p f row = f row

  begins : (w : Option ℕ) (c : Bool) → Progresses s b n (start_admitted m n w b c) l t → Said
  begins w true row = continues (take_label m n None) (running n b) row
  begins w false row =
      let begun = Continues (take_label m n w) (start_begins n w b) n in
      let told = may_tell (task_of n b) w b in
      may_trap (at_handle_limit b) trap.HandleLimit (may told begun) (may_be told begun (continues (take_label m n w) (start_begins n w b))) row

  starts : (w : Option ℕ) (c : Bool) → Progresses s b n (start_rule m n w b c) l t → Said
  starts w true row = begins w (is_explicit n b) row
  starts w false row =
      may_be (may_tell_starting (task_of n b) w b) (Stops (held_label m n w) (start_holds n w b)) (holds w (start_holds n w b)) row

  waits_on : (x : ℕ) (k : Label) → Progresses s b n (Stops k (wait_again n x b)) l t → Said
  waits_on x k row =
      let at = ap (λ (u : Core). place_of n u) (core_of s (wait_again n x b) turn.Main t row.1) ∙ waits_at n x b there in
      absurd (cc)

  hands_out : (x : ℕ) (ch : Choice) (g : PickedEvent) →
      Progresses s b n (may (may_hand_on x g ch.woken b) (Continues (event_label m n (handed_out ch b g) ch.woken) (activated_woken n x ch.woken g (handed_out ch b g) b) n)) l t → Said
  hands_out x ch g row =
      let k = event_label m n (handed_out ch b g) ch.woken in
      let u = activated_woken n x ch.woken g (handed_out ch b g) b in
      may_be (may_hand_on x g ch.woken b) (Continues k u n) (continues k u) row

  given : (x : ℕ) (ch : Choice) (g : PickedEvent) → Progresses s b n (set_delivered m n x ch b g) l t → Said
  given x ch NothingPicked row = waits_on x (label.Take (take.Again m n)) row
  given x ch (PickedTaskEvent e) row = hands_out x ch (PickedTaskEvent e) row
  given x ch (PickedMember sub) row = hands_out x ch (PickedMember sub) row

  found : (x : ℕ) (ch : Choice) (o : Option PickedEvent) → Progresses s b n (or_never o (set_delivered m n x ch b)) l t → Said
  found x ch None row = absurd row
  found x ch (Some g) row = given x ch g row

  own : Progresses s b n (own_delivered m n b (picked_task_event_only (task_of n b) b)) l t → Said
  own row =
      let g = picked_task_event_only (task_of n b) b in
      continues (event_label m n (given_for g 0 b) None) (activated n g (given_for g 0 b) b) row

  delivers : (ch : Choice) (d : Delivery) → Progresses s b n (delivered m n ch b d) l t → Said
  delivers ch (delivery.Set x) row = found x ch (picked_event true (task_of n b) x (chosen n ch b) b) row
  delivers ch delivery.Yield row = own row
  delivers ch delivery.Cancel row = own row

  delivery_said : (ch : Choice) (d : Delivery) (c : Bool) → Progresses s b n (delivery_rule m n ch b d c) l t → Said
  delivery_said ch d true row = delivers ch d row
  delivery_said ch d false row = holds None (take_holds n (why.Delivery d) b) row

  taken_for : (ch : Choice) (w : Why) → Progresses s b n (thread_taken_for m n ch b w) l t → Said
  taken_for ch why.Start row = starts ch.woken (admits n b why.Start) row
  taken_for ch (why.Delivery d) row = delivery_said ch d (admits n b (why.Delivery d)) row
  taken_for ch why.Resumption row = continues (take_label m n None) (running n b) row

-- ---- Steps

held_place : (o : Option Place) → is_some (option_and_then held_why o) ≡ true → (v : Why) × (o ≡ Some (place.Held v))
held_place (Some (place.Held v)) h = (v, refl)
held_place _ h = absurd (cc)

module _ (x : Setting) (order : List ℕ) (s : State) (l : Label) (t : State) (ordered : InOrder x.component s) (n : ℕ) (v w : Why) (k : Mark)
    (next : t.turn ≡ turn.Main) (held : place_of n t.core ≡ Some (place.Held v)) where
  entry_said : (o : Option (Mark × Entry)) → thread_of_entry o ≡ Some n → place_of n (base_without o s.core) ≡ Some (place.Ready k w) → TakeStep x s o l t →
      is_in n (held_after l order) ≡ true
  entry_said None runner at step = absurd (cc)
  entry_said (Some (m, entry.Push i)) runner at step = absurd (cc)
  entry_said (Some (m, entry.Host i)) runner at step = absurd (cc)
  entry_said (Some (m, entry.Thread j)) runner at step =
      let same : j ≡ n = cc in
      let b = popped m s.core in
      let mine = subst (λ (i : ℕ). Progresses s b i (thread_taken m i (choice_of l) b (place_of i b)) l t) same step in
      let row = subst (λ (o : Option Place). Progresses s b n (thread_taken m n (choice_of l) b o) l t) at mine in
      taken_for s t l order b m n v next held (ap (λ (o : Option Place). is_some o) at) (choice_of l) w row

  turn_said : (p : Turn) → s.turn ≡ p → runner_at p s.core ≡ Some n → place_of n (base_at p s.core) ≡ Some (place.Ready k w) → TurnStep x s p l t →
      is_in n (held_after l order) ≡ true
  turn_said (turn.Run j) is runner at step =
      let same : j ≡ n = cc in
      let runs = ordered.in_place.runs j is in
      absurd (cc)
  turn_said (turn.Take ended) is runner at step = entry_said (next_entry s.core) runner at step
  turn_said turn.Main is runner at step = absurd (cc)
  turn_said (turn.Futures i) is runner at step = absurd (cc)
  turn_said turn.Over is runner at step = absurd (cc)

pub held_is_known : HeldIsKnown
unfolding HeldIsKnown Step
held_is_known x order s l t ordered knows step n h =
    let p = held_place (place_of n t.core) h in
    let c = step_walks x s l t step in
    by p.0 p.1 c.next c.turn (walk_held (scene_of x s l c.next) s.core t.core c.walk n p.0 p.1)
  where
    by : (v : Why) → place_of n t.core ≡ Some (place.Held v) → (q : Turn) → t.turn ≡ settled_turn t.core q →
        (place_of n s.core ≡ Some (place.Held v)) ⊎ IsLaidWith (scene_of x s l q) n v → is_in n (held_after l order) ≡ true
    by v held q to (inl was) = after_keeps l n order (knows n (ap (λ (o : Option Place). is_some (option_and_then held_why o)) was))
    by v held q to (inr laid) =
        turn_said x order s l t ordered n v v laid.1.0 (to ∙ ap (λ (u : Turn). settled_turn t.core u) laid.0.1) held s.turn refl laid.0.0 laid.1.1 step
