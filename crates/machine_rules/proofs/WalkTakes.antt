-- The takings of entries as chains of primitives.
use Rattle.machine_rules.specs.Primitives.{Arrive}
unfoldable use Rattle.machine_data.specs.Write.{arrive}
use Rattle.machine_rules.proofs.Walks.{activated, activated_woken, admits, and_parts, ap, arith, at_handle_limit, begun_holder, Bool, chain_if, Choice, chosen, cond, Core, delivered, Delivery, delivery_rule, end_for, end_of, EndPrimitives, event_label, ExportKind, false, foot_of, get, get-change, PickedEvent, picked_event, give_thread_handle, Given, given_for, given_out, Continues, Halted, halted_at, Halts, handed_by_event, handed_on, handed_on_shifts, handed_out, hands_by, HandsOut, held_label, holder_at_start, Holds, if◌then◌else◌, inl, inr, instance_of, is_begun, is_exit, is_explicit, is_free, is_holding, is_mute, is_none, is_running, is_some, is_start, is_told, IsLaid, Keep, kind_of, Label, lands, lands_alone, LastPrimitives, leaving, Main, Mark, may, may_hand_on, may_not_enter, may_tell, may_tell_starting, MayDeliver, MayMove, MayTake, PickedMember, Move, moved_to, mute_primitives, NameThread, nat_tests, NothingPicked, None, none_said, not, NoPrimitive, on_call, on_instance, on_thread, Op, Option, option_map_or, outcome_of_label, own_delivered, task_event_of, picked_task_event_of, picked_task_event_only, own_or_nothing, TaskEvent, PickedTaskEvent, Place, place_of, placing_shifted, refl, Restart, running, Runs, Scene, Script, set_delivered, set_do_not_enter, set_do_not_suspend, set_event, set_given, set_op_progress, set_place, set_position, set_register, set_saved_own, set_script, set_started, set_starting_published, set_thread_handle, SetDoNotEnter, SetStarted, SetStartingPublished, Setting, shifted, shifted_admits, shifted_calls, shifted_instance, shifted_ready, shifted_task, shifts_shifted, Some, start_admitted, start_begins, start_holds, start_rule, start_sets_flags, starting_is_published, starting_told, Status, Stop, stopped, stopped_on, Stops, subst, Subtask, sym, T, take_holds, take_label, TakeLabel, taken, taken_walks, taking, task_of, thread_taken, told, told_shifts, told_to, told_walks, ToldTo, Trap, true, Turn, unwrap_or, wait_again, WaitsAgain, was_started, WasReady, Why, with_thread_handle, primitive, ℕ, ◌&&◌, ◌∙◌, ◌≡◌, halted_on}
use Rattle.machine_rules.proofs.{WalkTask.arrived_ready, WalkParts.picked_event_is, WalkParts.picked_event_none, WalkParts.sync_sets_flag_walks, WalkTask.Leads, WalkTask.may_leads, WalkTask.moved_passes, WalkTask.not_main, WalkTask.one_runner, WalkTask.or_never_leads, WalkTask.seen, WalkTask.set_given_walks, WalkTask.trap_if_leads}

-- ---- What is read

-- a label that gives no outcome and is no exit
abbrev is_taking : Label → Bool
is_taking k = is_none (outcome_of_label k) && not (is_exit k)

take_is : (a : Scene) (t : Core) (m : Mark) (n : ℕ) (w : Option ℕ) → (is_taking (take_label m n w) ≡ true) × ((begun_holder a.base (take_label m n w) ≡ holder_at_start n a.base) × (is_mute a t (take_label m n w) ≡ true))
take_is a t m n w = (grind arith, (grind arith, grind arith))

held_is : (a : Scene) (t : Core) (m : Mark) (n : ℕ) (w : Option ℕ) → (is_taking (held_label m n w) ≡ true) × ((begun_holder a.base (held_label m n w) ≡ None) × (is_mute a t (held_label m n w) ≡ true))
held_is a t m n w = (grind arith, (grind arith, grind arith))

event_is : (m : Mark) (n : ℕ) (v : Given) (w : Option ℕ) (s : Core) → (is_taking (event_label m n v w) ≡ true) × (begun_holder s (event_label m n v w) ≡ Some (instance_of n s))
event_is m n v w s = (grind arith, grind arith)

-- the instance is shut, if it is there
shut_here : (i : ℕ) (t : Core) → is_some (get (set_do_not_enter i true t).instances i) ≡ true → may_not_enter i (set_do_not_enter i true t) ≡ true
unfolding set_do_not_enter on_instance
shut_here i t there = grind (arith, nat_tests, get-change)

-- ---- Whose instance it is

told_instance : (k : ℕ) (e : Status) (w : Option ℕ) (n : ℕ) (s : Core) → ToldTo k w s → instance_of n (told k e w s) ≡ instance_of n s
unfolding set_event on_call
told_instance k e w n s to = shifted_instance (shifts_shifted (told_shifts k e w s to)) n ∙ grind (arith, nat_tests, get-change)

-- a call that has begun still has where its status is told
told_begun : (k : ℕ) (e : Status) (w : Option ℕ) (s : Core) → ToldTo k w s → is_begun k s ≡ true → is_begun k (told k e w s) ≡ true
unfolding set_event on_call
told_begun k e w s to begun = let calls = shifted_calls (shifts_shifted (told_shifts k e w s to)) in grind (arith, nat_tests, get-change, calls)

-- ---- A start that is told

begun_at : ℕ → Core → Core
begun_at n s = set_started (task_of n s) (with_thread_handle (instance_of n s) n s)

begun_keeps : (n : ℕ) (s : Core) → (instance_of n (begun_at n s) ≡ instance_of n s) ×
    ((end_of (task_of n s) (begun_at n s) ≡ end_of (task_of n s) s) × (is_told (task_of n s) (begun_at n s) ≡ true → was_started (task_of n s) (begun_at n s) ≡ true))
unfolding begun_at set_started on_call with_thread_handle set_thread_handle on_thread give_thread_handle
begun_keeps n s = (grind (arith, nat_tests, get-change), (grind (arith, nat_tests, get-change), λ told. grind (arith, nat_tests, get-change)))

begun_to : (n : ℕ) (w : Option ℕ) (s : Core) → ToldTo (task_of n s) w s → ToldTo (task_of n s) w (begun_at n s)
unfolding begun_at set_started on_call with_thread_handle set_thread_handle give_thread_handle on_thread
begun_to n w s to told y is m at =
    let chosen = to (grind (arith, nat_tests, get-change, told)) y (grind (arith, nat_tests, get-change, is)) m at in grind (arith, nat_tests, get-change, chosen)

published_to : (k : ℕ) (w : Option ℕ) (s : Core) → ToldTo k w s → ToldTo k w (set_starting_published k s)
unfolding set_starting_published on_call
published_to k w s to told y is = to (grind (arith, nat_tests, get-change, told)) y (grind (arith, nat_tests, get-change, is))

starting_now : (k : ℕ) (s : Core) → is_told k (set_starting_published k s) ≡ true → starting_is_published k (set_starting_published k s) ≡ true
unfolding set_starting_published on_call
starting_now k s told = grind (arith, nat_tests, get-change)

-- ---- The thread that is taken

-- a thread that comes after all that wait or are held is admitted as before
arrived_admits : (n : ℕ) (w : Why) (s : Core) → admits n (arrive n s) w ≡ admits n s w
unfolding arrive on_thread
arrived_admits n w s = grind (arith, nat_tests, get-change)

module _ (ops : ℕ → Op) (x : Setting) (main : Main) (ended : Bool) (s : Core) (n : ℕ) (l : Label) (next : Turn) where
  abbrev pub taking_scene : Scene
  taking_scene = seen ops x main (Turn.Take ended) s n l next

  -- a holding entry that begins to run finds its instance open, and shuts it
  abbrev Shuts : Label → Core → Type 0
  Shuts k t = (i : ℕ) → begun_holder s k ≡ Some i → (may_not_enter i s ≡ false) × (is_some (get t.instances i) ≡ true → may_not_enter i t ≡ true)

  taken_ends : (k : Label) (p : Place) (t : Core) → l ≡ k → is_taking k ≡ true → is_free p ≡ true → ((m : ℕ) → next ≡ Turn.Run m → (m ≡ n) × (p ≡ Place.Running)) → (l ≡ k → EndPrimitives taking_scene (set_place n p t)) → Shuts k (set_place n p t) → LastPrimitives taking_scene (set_place n p t)
  taken_ends k p t is taking free to says shuts = record {
    laid = λ m at take. subst (λ (j : ℕ). option_map_or is_free (place_of j (set_place n p t)) true ≡ true) (ap (λ (o : Option ℕ). unwrap_or o 0) at) (moved_passes is_free p free n t);
    runs = λ m at. let r = to m at in inr (subst (λ (j : ℕ). option_map_or is_running (place_of j (set_place n p t)) true ≡ true) (sym r.0) (subst (λ (q : Place). option_map_or is_running (place_of n (set_place n q t)) true ≡ true) (sym r.1) (moved_passes is_running Place.Running refl n t)));
    outcome = λ o at. absurd (subst T (sym quiet.0 ∙ ap (λ y. is_none y) (ap outcome_of_label (sym is) ∙ at)) tt);
    gone = λ m at exit. absurd (subst T (sym quiet.1 ∙ ap not (ap is_exit (sym is) ∙ exit)) tt);
    says = says is;
    shut = λ i begun. shuts i (ap (λ (y : Label). begun_holder s y) (sym is) ∙ begun);
  }
    where
      quiet : (is_none (outcome_of_label k) ≡ true) × (not (is_exit k) ≡ true)
      quiet = and_parts (is_none (outcome_of_label k)) (not (is_exit k)) taking

  runs_taken : (k : Label) (t : Core) → (is_explicit n s ≡ false → WasReady taking_scene n Why.Start → is_begun (task_of n s) t ≡ true) → is_taking k ≡ true → (l ≡ k → EndPrimitives taking_scene (set_place n Place.Running t)) → Shuts k (set_place n Place.Running t) → (next ≡ Turn.Run n → Keep taking_scene s t) → Leads taking_scene s (Continues k (set_place n Place.Running t) n)
  runs_taken k t begun taking says shuts c is to = (lands (Move n Place.Running) refl (Runs refl to begun refl) tt (c to), taken_ends k Place.Running t is taking refl (λ m at. (one_runner m n (sym at ∙ to), refl)) says shuts)

  lays_taken : (k : Label) (p : Place) (t : Core) → is_taking k ≡ true → is_mute taking_scene (set_place n p t) k ≡ true → is_free p ≡ true → lands_alone (Move n p) ≡ true → ((i : ℕ) → begun_holder s k ≡ Some i → ⊥) → leaving (Move n p) ≡ Some n → (IsLaid taking_scene n → MayMove taking_scene n p t) → (next ≡ Turn.Main → Keep taking_scene s t × Halted taking_scene s n t) → Leads taking_scene s (Stops k (set_place n p t))
  lays_taken k p t taking mute free fit none leaves may c is to = (lands (Move n p) fit (may (refl, to)) (subst (λ (o : Option ℕ). Halts taking_scene s o t) (sym leaves) (c to).1) (c to).0, taken_ends k p t is taking free (λ m at. not_main m (sym to ∙ at)) (λ at. mute_primitives taking_scene _ at mute) (λ i begun. absurd (none i begun)))

  holds_leads : (k : Label) (w : Why) (t : Core) → is_taking k ≡ true → is_mute taking_scene (take_holds n w t) k ≡ true → begun_holder s k ≡ None → WasReady taking_scene n w → admits n t w ≡ false → Keep taking_scene s t → Leads taking_scene s (Stops k (take_holds n w t))
  unfolding take_holds
  holds_leads k w t taking mute none ready out c = lays_taken k (Place.Held w) (arrive n (stopped (foot_of n t) t)) taking mute refl refl (λ i begun. none_said none begun) refl (λ leave. Holds w leave ready (arrived_admits n w (stopped (foot_of n t) t) ∙ shifted_admits (placing_shifted (Stop (foot_of n t)) t) n w ∙ out) refl) (λ to. (primitive (Arrive n) refl (stopped_on (foot_of n t) to c), halted_on (halted_at n c) (primitive (Arrive n) refl NoPrimitive)))

  -- ---- Starts

  abbrev told_start : Option ℕ → Core
  told_start w = told (task_of n s) Status.Started w (begun_at n s)

  holder_is : (m : Mark) (w : Option ℕ) (i : ℕ) → begun_holder s (take_label m n w) ≡ Some i → (is_explicit n s ≡ false) × ((is_holding (kind_of (task_of n s) s) ≡ true) × ((option_map_or is_start (place_of n s) false ≡ true) × (instance_of n s ≡ i)))
  holder_is m w i begun = let b : holder_at_start n s ≡ Some i = sym (take_is taking_scene s m n w).1.0 ∙ begun in (grind (arith, b), (grind (arith, b), (grind (arith, b), grind (arith, b))))

  none_holds : (m : Mark) (w : Option ℕ) (q : ExportKind) → kind_of (task_of n s) s ≡ q → is_holding q ≡ false → (i : ℕ) → begun_holder s (take_label m n w) ≡ Some i → {A : Type 0} → A
  none_holds m w q at no_hold i begun = absurd (subst T (sym (holder_is m w i begun).1.0 ∙ (ap (λ y. is_holding y) at ∙ no_hold)) tt)

  start_begun : (w : Option ℕ) → may_tell (task_of n s) w s ≡ true → is_begun (task_of n s) (told_start w) ≡ true
  unfolding begun_at set_started on_call
  start_begun w may = let k = task_of n s in told_begun k Status.Started w (begun_at n s) (begun_to n w s (told_to k w s may)) (grind (arith, nat_tests, get-change))

  -- a thread that is taken for something else has no start
  not_start : (y : Mark) (v : Why) → place_of n s ≡ Some (Place.Ready y v) → WasReady taking_scene n Why.Start → {A : Type 0} → is_start (Place.Ready y v) ≡ false → A
  not_start y v at ready none = absurd (subst T (ap (λ (o : Option Place). option_map_or is_start o false) (sym ready.1 ∙ at) ∙ none) tt)

  starts_walks : next ≡ Turn.Run n → (w : Option ℕ) → WasReady taking_scene n Why.Start → is_explicit n s ≡ false → may_tell (task_of n s) w s ≡ true → Keep taking_scene s (told_start w)
  unfolding begun_at
  starts_walks runs w ready implicit may =
      let k = task_of n s in
      told_walks k Status.Started w (begun_keeps n s).1.1 (n, (refl, (ready, (implicit, (refl, (begun_keeps n s).1.0))))) (begun_to n w s (told_to k w s may))
      (primitive (SetStarted k) (inl (n, (refl, (ready, (implicit, (refl, runs)))))) (primitive (NameThread (instance_of n s) n) tt NoPrimitive))

  barred_leads : (m : Mark) (w : Option ℕ) → WasReady taking_scene n Why.Start → is_explicit n s ≡ false → admits n s Why.Start ≡ true → may_tell (task_of n s) w s ≡ true → (q : ExportKind) → kind_of (task_of n s) s ≡ q → is_holding q ≡ true → Leads taking_scene s (Continues (take_label m n w) (set_place n Place.Running (set_do_not_enter (instance_of n (told_start w)) true (told_start w))) n)
  unfolding set_place on_thread set_do_not_enter on_instance
  barred_leads m w ready implicit admitted may q at holding =
      let home = told_instance (task_of n s) Status.Started w n (begun_at n s) (begun_to n w s (told_to (task_of n s) w s may)) ∙ (begun_keeps n s).0 in
      let open_at : may_not_enter (instance_of n s) s ≡ false = grind (arith, implicit, at, holding, admitted) in
      runs_taken (take_label m n w) (set_do_not_enter (instance_of n (told_start w)) true (told_start w)) (λ i r. start_begun w may) (take_is taking_scene s m n w).0 (λ at. mute_primitives taking_scene _ at (take_is taking_scene _ m n w).1.1) (λ i begun.
      let same : instance_of n s ≡ i = (holder_is m w i begun).1.1.1 in (
        subst (λ (j : ℕ). may_not_enter j s ≡ false) same open_at,
        subst (λ (j : ℕ). is_some (get (set_place n Place.Running (set_do_not_enter (instance_of n (told_start w)) true (told_start w))).instances j) ≡ true → may_not_enter j (set_place n Place.Running (set_do_not_enter (instance_of n (told_start w)) true (told_start w))) ≡ true) (home ∙ same) (shut_here (instance_of n (told_start w)) (told_start w)),
      ))
      (λ to. primitive (SetDoNotEnter (instance_of n (told_start w)) true) (ap (λ (j : ℕ). may_not_enter j s) home ∙ open_at, tt) (starts_walks to w ready implicit may))

  begins_leads : (m : Mark) (w : Option ℕ) → WasReady taking_scene n Why.Start → is_explicit n s ≡ false → admits n s Why.Start ≡ true → may_tell (task_of n s) w s ≡ true → (q : ExportKind) → kind_of (task_of n s) s ≡ q → Leads taking_scene s (Continues (take_label m n w) (set_place n Place.Running (start_sets_flags n q (told_start w))) n)
  unfolding set_do_not_suspend on_instance set_saved_own on_thread
  begins_leads m w ready implicit admitted may ExportKind.Sync at = runs_taken (take_label m n w) _ (λ i r. start_begun w may) (take_is taking_scene s m n w).0 (λ at. mute_primitives taking_scene _ at (take_is taking_scene _ m n w).1.1) (λ i begun. none_holds m w ExportKind.Sync at refl i begun) (λ to. sync_sets_flag_walks n refl n (instance_of n (told_start w)) ExportKind.Sync (starts_walks to w ready implicit may))
  begins_leads m w ready implicit admitted may ExportKind.Stackful at = runs_taken (take_label m n w) _ (λ i r. start_begun w may) (take_is taking_scene s m n w).0 (λ at. mute_primitives taking_scene _ at (take_is taking_scene _ m n w).1.1) (λ i begun. none_holds m w ExportKind.Stackful at refl i begun) (λ to. starts_walks to w ready implicit may)
  begins_leads m w ready implicit admitted may ExportKind.Blocking at = barred_leads m w ready implicit admitted may ExportKind.Blocking at refl
  begins_leads m w ready implicit admitted may ExportKind.Callback at = barred_leads m w ready implicit admitted may ExportKind.Callback at refl

  -- a thread that was started runs on
  resumes_leads : (m : Mark) → (is_explicit n s ≡ false → WasReady taking_scene n Why.Start → is_begun (task_of n s) s ≡ true) → ((i : ℕ) → begun_holder s (take_label m n None) ≡ Some i → ⊥) → Leads taking_scene s (Continues (take_label m n None) (running n s) n)
  unfolding running
  resumes_leads m begun none = runs_taken (take_label m n None) s begun refl (λ at. mute_primitives taking_scene _ at refl) (λ i begun. absurd (none i begun)) (λ to. NoPrimitive)

  start_admitted_leads : (m : Mark) (w : Option ℕ) (c : Bool) → is_explicit n s ≡ c → WasReady taking_scene n Why.Start → admits n s Why.Start ≡ true → Leads taking_scene s (start_admitted m n w s c)
  unfolding start_begins begun_at
  start_admitted_leads m w true explicit ready admitted = resumes_leads m (λ i r. absurd (subst T (sym explicit ∙ i) tt)) (λ i begun. subst T (sym explicit ∙ (holder_is m None i begun).0) tt)
  start_admitted_leads m w false implicit ready admitted =
      trap_if_leads taking_scene s (at_handle_limit s) Trap.HandleLimit _ (λ e.
      may_leads taking_scene s (may_tell (task_of n s) w s) _ (λ may.
      begins_leads m w ready implicit admitted may (kind_of (task_of n s) s) refl))

  starting_walks : (w : Option ℕ) → WasReady taking_scene n Why.Start → is_explicit n s ≡ false → may_tell_starting (task_of n s) w s ≡ true → Keep taking_scene s (starting_told (task_of n s) w s)
  unfolding starting_told may_tell_starting set_starting_published on_call
  starting_walks w ready implicit may =
      let k = task_of n s in
      chain_if (starting_is_published k s) s (told k Status.Starting w (set_starting_published k s)) (λ e. NoPrimitive) (λ e.
      told_walks k Status.Starting w (λ told. (e, starting_now k s told)) (n, (refl, (ready, (implicit, (refl, grind (arith, nat_tests, get-change)))))) (published_to k w s (told_to k w s (sym (ap (λ c. cond c (is_none w) (may_tell k w s)) e) ∙ may)))
      (primitive (SetStartingPublished k) tt NoPrimitive))

  -- whether Starting was told or not, who is admitted
  starting_admits : (w : Option ℕ) → may_tell_starting (task_of n s) w s ≡ true → admits n (starting_told (task_of n s) w s) Why.Start ≡ admits n s Why.Start
  unfolding starting_told may_tell_starting set_starting_published on_call set_event
  starting_admits w may = by (starting_is_published (task_of n s) s) refl
    where
      k : ℕ
      k = task_of n s

      by : (b : Bool) → starting_is_published k s ≡ b → admits n (if b then s else told k Status.Starting w (set_starting_published k s)) Why.Start ≡ admits n s Why.Start
      by true is = refl
      by false is =
          let to = published_to k w s (told_to k w s (sym (ap (λ c. cond c (is_none w) (may_tell k w s)) is) ∙ may)) in
          shifted_admits (shifts_shifted (told_shifts k Status.Starting w (set_starting_published k s) to)) n Why.Start ∙ grind (arith, nat_tests, get-change)

  start_rule_leads : (m : Mark) (w : Option ℕ) (c : Bool) → admits n s Why.Start ≡ c → WasReady taking_scene n Why.Start → Leads taking_scene s (start_rule m n w s c)
  unfolding start_holds
  start_rule_leads m w true admitted ready = start_admitted_leads m w (is_explicit n s) refl ready admitted
  start_rule_leads m w false admitted ready =
      may_leads taking_scene s (may_tell_starting (task_of n s) w s) _ (λ may.
      holds_leads (held_label m n w) Why.Start (starting_told (task_of n s) w s) (held_is taking_scene s m n w).0 (held_is taking_scene _ m n w).1.1 (held_is taking_scene s m n w).1.0 ready (starting_admits w may ∙ admitted) (starting_walks w ready (grind arith) may))

  -- ---- Deliveries

  -- what a delivery hands out shows only where no wake is handed on
  event_says : (m : Mark) (v : Given) (w : Option ℕ) (t : Core) → (w ≡ None → (sub : Subtask) (e : Status) → handed_by_event n s v ≡ Some (end_for e sub) → HandsOut taking_scene t sub e) → l ≡ event_label m n v w → EndPrimitives taking_scene t
  event_says m v (Some z) t out is = mute_primitives taking_scene t is refl
  event_says m v None t out is = hands_by taking_scene t is refl refl (λ sub e h. out refl sub e h)

  delivered_out : (y : ℕ) (ch : Choice) (g : PickedEvent) (w : Option ℕ) → picked_event true (task_of n s) y (chosen n ch s) s ≡ Some g → w ≡ None → (sub : Subtask) (e : Status) → handed_by_event n s (handed_out ch s g) ≡ Some (end_for e sub) → HandsOut taking_scene (activated n g (handed_out ch s g) (handed_on y g w s)) sub e
  unfolding activated moved_to set_op_progress set_position on_thread set_given set_register set_place set_script set_do_not_enter on_instance
  delivered_out y ch g w h none = let u = handed_on y g w s in given_out true n (task_of n s) y ch g (task_of n u) u h refl refl

  activated_goes : (m : Mark) (d : Delivery) → WasReady taking_scene n (Why.Delivery d) → (g : PickedEvent) (v : Given) (w : Option ℕ) (t : Core) → (l ≡ event_label m n v w → EndPrimitives taking_scene (activated n g v t)) → instance_of n t ≡ instance_of n s → MayTake taking_scene (task_of n t) g → may_not_enter (instance_of n s) s ≡ false → Keep taking_scene s t → Leads taking_scene s (Continues (event_label m n v w) (activated n g v t) n)
  unfolding activated moved_to set_place on_thread set_op_progress set_position set_script
  activated_goes m d ready g v w t says home may open_at c =
      runs_taken (event_label m n v w) (moved_to n 0 (set_script n Script.React (set_do_not_enter (instance_of n t) true (set_given n 0 v (taken g (task_of n t) t))))) (λ i r. not_start ready.0 (Why.Delivery d) ready.1 r refl) (event_is m n v w s).0 says (λ i begun.
      let same : instance_of n s ≡ i = ap (λ (o : Option ℕ). unwrap_or o 0) (sym (event_is m n v w s).1 ∙ begun) in (
        subst (λ (j : ℕ). may_not_enter j s ≡ false) same open_at,
        subst (λ (j : ℕ). is_some (get (activated n g v t).instances j) ≡ true → may_not_enter j (activated n g v t) ≡ true) (home ∙ same) (shut_here (instance_of n t) (set_given n 0 v (taken g (task_of n t) t))),
      ))
      (λ to. primitive (Restart n) (refl, (d, ready)) (primitive (SetDoNotEnter (instance_of n t) true) (ap (λ (j : ℕ). may_not_enter j s) home ∙ open_at, tt) (set_given_walks n refl 0 v (taken_walks g (task_of n t) may c))))

  woken_goes : (m : Mark) (y : ℕ) (ch : Choice) (g : PickedEvent) → WasReady taking_scene n (Why.Delivery (Delivery.Set y)) → picked_event true (task_of n s) y (chosen n ch s) s ≡ Some g → MayTake taking_scene (task_of n s) g → may_not_enter (instance_of n s) s ≡ false → Leads taking_scene s (may (may_hand_on y g ch.woken s) (Continues (event_label m n (handed_out ch s g) ch.woken) (activated_woken n y ch.woken g (handed_out ch s g) s) n))
  unfolding activated_woken
  woken_goes m y ch g ready h0 ok open_at =
      may_leads taking_scene s (may_hand_on y g ch.woken s) _ (λ may.
      let d = handed_on_shifts y g ch.woken s may in
      let h = shifts_shifted d in
      activated_goes m (Delivery.Set y) ready g (handed_out ch s g) ch.woken (handed_on y g ch.woken s) (event_says m (handed_out ch s g) ch.woken _ (delivered_out y ch g ch.woken h0)) (shifted_instance h n) (subst (λ (k : ℕ). MayTake taking_scene k g) (sym (shifted_task h n)) ok) open_at (shifted d NoPrimitive))

  set_delivered_leads : (m : Mark) (y : ℕ) (ch : Choice) (g : PickedEvent) → picked_event true (task_of n s) y (chosen n ch s) s ≡ Some g → WasReady taking_scene n (Why.Delivery (Delivery.Set y)) → MayTake taking_scene (task_of n s) g → may_not_enter (instance_of n s) s ≡ false → Leads taking_scene s (set_delivered m n y ch s g)
  unfolding wait_again arrive on_thread
  set_delivered_leads m y ch NothingPicked h0 ready ok open_at = lays_taken (Label.Take (TakeLabel.Again m n)) (Place.Waiting y true) (arrive n (stopped (foot_of n s) s)) refl refl refl refl (λ i begun. none_said refl begun) refl (λ leave. WaitsAgain y leave ready (arrived_ready y n (stopped (foot_of n s) s) ∙ (shifted_ready (placing_shifted (Stop (foot_of n s)) s) y ∙ picked_event_none true (task_of n s) y (chosen n ch s) s h0)) refl) (λ to. (primitive (Arrive n) refl (stopped_on (foot_of n s) to NoPrimitive), halted_on (halted_at n NoPrimitive) (primitive (Arrive n) refl NoPrimitive)))
  set_delivered_leads m y ch (PickedTaskEvent v) h0 ready ok open_at = woken_goes m y ch (PickedTaskEvent v) ready h0 ok open_at
  set_delivered_leads m y ch (PickedMember sub) h0 ready ok open_at = woken_goes m y ch (PickedMember sub) ready h0 ok open_at

  delivers : (d : Delivery) → WasReady taking_scene n (Why.Delivery d) → task_event_of (task_of n s) s ≡ Some TaskEvent.Cancelled → MayDeliver taking_scene (task_of n s)
  delivers d ready own = (n, (refl, (refl, (inl (d, ready), own))))

  own_taken : (d : Delivery) → WasReady taking_scene n (Why.Delivery d) → (o : Option TaskEvent) → picked_task_event_of true (task_of n s) s ≡ o → MayTake taking_scene (task_of n s) (own_or_nothing o)
  own_taken d ready None at = tt
  own_taken d ready (Some e) at = ((n, (refl, refl)), λ c. delivers d ready (grind arith))

  own_delivered_leads : (m : Mark) (d : Delivery) → WasReady taking_scene n (Why.Delivery d) → may_not_enter (instance_of n s) s ≡ false → Leads taking_scene s (own_delivered m n s (picked_task_event_only (task_of n s) s))
  unfolding picked_task_event_only given_for
  own_delivered_leads m d ready open_at =
      let g = picked_task_event_only (task_of n s) s in
      activated_goes m d ready g (given_for g 0 s) None s (event_says m (given_for g 0 s) None _ (λ none sub e out. absurd (grind (arith, out)))) refl (own_taken d ready (picked_task_event_of true (task_of n s) s) refl) open_at NoPrimitive

  delivered_leads : (m : Mark) (ch : Choice) (d : Delivery) → WasReady taking_scene n (Why.Delivery d) → may_not_enter (instance_of n s) s ≡ false → Leads taking_scene s (delivered m n ch s d)
  delivered_leads m ch (Delivery.Set y) ready open_at =
      or_never_leads taking_scene s (picked_event true (task_of n s) y (chosen n ch s) s) _ (λ g e.
      set_delivered_leads m y ch g e ready (picked_event_is taking_scene n true y ch g refl (λ t own. delivers (Delivery.Set y) ready own) e) open_at)
  delivered_leads m ch Delivery.Yield ready open_at = own_delivered_leads m Delivery.Yield ready open_at
  delivered_leads m ch Delivery.Cancel ready open_at = own_delivered_leads m Delivery.Cancel ready open_at

  delivery_rule_leads : (m : Mark) (ch : Choice) (d : Delivery) (c : Bool) → admits n s (Why.Delivery d) ≡ c → WasReady taking_scene n (Why.Delivery d) → Leads taking_scene s (delivery_rule m n ch s d c)
  delivery_rule_leads m ch d true admitted ready = delivered_leads m ch d ready (grind (arith, admitted))
  delivery_rule_leads m ch d false admitted ready = holds_leads (held_label m n None) (Why.Delivery d) s refl refl refl ready admitted NoPrimitive

  pub thread_taken_leads : (m : Mark) (ch : Choice) (o : Option Place) → place_of n s ≡ o → Leads taking_scene s (thread_taken m n ch s o)
  thread_taken_leads m ch (Some (Place.Ready y Why.Start)) at = start_rule_leads m ch.woken (admits n s Why.Start) refl (y, at)
  thread_taken_leads m ch (Some (Place.Ready y (Why.Delivery d))) at = delivery_rule_leads m ch d (admits n s (Why.Delivery d)) refl (y, at)
  thread_taken_leads m ch (Some (Place.Ready y Why.Resumption)) at = resumes_leads m (λ i r. not_start y Why.Resumption at r refl) (λ i begun. subst T (sym (holder_is m None i begun).1.1.0 ∙ ap (λ o. option_map_or is_start o false) at) tt)
  thread_taken_leads m ch _ at = tt
