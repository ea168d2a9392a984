-- The start of a call that was prepared before keeps order, whatever was done in between.
use Rattle.laws_order.proofs.InsideLemmas.{inside_keeps}
use Rattle.laws_order.proofs.PieceLemmas.{Moved, displaced_moved, displaced_there, lead_keeps, moved_waits, moved_woken, setting_for, silent}
use Rattle.laws_order.proofs.GivenLemmas.{any_op, own}
use Rattle.laws_order.proofs.StayLemmas.{with_ops}
use Rattle.std.specs.Prelude.{Bool, if◌then◌else◌}
use Rattle.laws_order.specs.Given.{StartKeeps, given, start_queued}
use Rattle.laws_order.specs.Pieces.{IsPrepared, KeepsOrder, InOrderForAnyMain, InOrderForAnyMainAs, SameInstances}
use Rattle.laws_states.proofs.WakeCounts.{woken_at, woken_place}
use Rattle.machine_data.specs.Maps.{same_map}
use Rattle.machine_data.specs.Read.{call_instance, may_not_suspend}
use Rattle.laws_places.proofs.CountedSteps.{counted_stay}
use Rattle.laws_places.proofs.Laws.{Call, Component, Core, ExportKind, GoBehind, OpProgress, Mark, None, Op, Option, Place, Put, Records, Scene, Some, Subtask, Thread, Turn, Unscripted, WakesCounted, Why, ap, arith, at_place, behind_one, by_number, false, foot_from, foot_of, get, get-change, goal_of, op_progress_of, inl, inr, is_at, is_at_switch, is_direct, is_explicit, is_some, kind_of, member_same, nat_tests, on_instance, on_thread, op_of, option_map_or, place_of, placing_shifted, put_switch, refl, script_of, set_callers, set_do_not_suspend, set_op_progress, set_place, set_saved_callee, set_switch, shifted_calls, shifted_far, shifted_works, size, subst, suc, sym, task_of, true, under_of, under_place, zero, ℕ, ◌==◌, ◌∙◌, ◌≡◌}
use Rattle.machine_rules.proofs.ChainLemmas.{Keep}
use Rattle.machine_rules.proofs.PlacingLemmas.{placed, shifted_explicit}
use Rattle.machine_rules.proofs.WalkMoves.{keep_still, lands_at, primitive}
use Rattle.machine_rules.proofs.WalkTask.{seen, stops_here}
use Rattle.machine_rules.specs.Allowed.{Starts}
use Rattle.machine_rules.specs.Calls.{call_clears_flag}
use Rattle.machine_rules.specs.Chains.{NoPrimitive}
use Rattle.machine_rules.specs.OpParts.{callee_of_op}
use Rattle.machine_rules.specs.Scripts.{ops_of}
use Rattle.machine_rules.specs.Primitives.{SetDoNotSuspend, SetSavedCallee}

-- ---- Nobody is under it

foot_alone : (k m : ℕ) (s : Core) → under_of m s ≡ None → foot_from k s m ≡ m
foot_alone zero m s none = refl
foot_alone (suc k) m s none = ap (λ (o : Option ℕ). option_map_or (foot_from k s) o m) none

module _ (c : Component) (n m : ℕ) (s : Core) (ready : IsPrepared n m s) (h : InOrderForAnyMain c (Turn.Run n) s) where
  abbrev j : ℕ
  j = call_instance m s

  abbrev x : ExportKind
  x = kind_of m s

  abbrev standing : Core
  standing = put_switch m Why.Start s

  abbrev cleared : Core
  cleared = call_clears_flag n j x standing

  -- n is behind it, as if its op were about to begin
  abbrev parked : Core
  parked = set_op_progress n OpProgress.Fresh (behind_one m n cleared)

  runs : place_of n s ≡ Some Place.Running
  runs = (h Unscripted).in_place.runs n refl

  apart_new : (n == m) ≡ false
  apart_new = by_number n m _ (λ is. absurd (let at = runs in let new = ready.new in grind (arith, at, new, is))) (λ apart. apart)

  flag_same : (y : ExportKind) (u : Core) (i : ℕ) → (place_of i (call_clears_flag n j y u) ≡ place_of i u) × ((op_progress_of i (call_clears_flag n j y u) ≡ op_progress_of i u) ×
      (((call_clears_flag n j y u).calls ≡ u.calls) × (((call_clears_flag n j y u).works ≡ u.works) × ((call_clears_flag n j y u).queues ≡ u.queues))))
  unfolding set_do_not_suspend on_instance set_saved_callee on_thread
  flag_same ExportKind.Sync u i = (refl, (refl, (refl, (refl, refl))))
  flag_same ExportKind.Blocking u i = (grind (arith, nat_tests, get-change), (grind (arith, nat_tests, get-change), (refl, (refl, refl))))
  flag_same ExportKind.Stackful u i = (grind (arith, nat_tests, get-change), (grind (arith, nat_tests, get-change), (refl, (refl, refl))))
  flag_same ExportKind.Callback u i = (grind (arith, nat_tests, get-change), (grind (arith, nat_tests, get-change), (refl, (refl, refl))))

  at_switch : (d : ℕ) → s.queues.switch ≡ Some d → is_at d s is_at_switch ≡ true
  at_switch d is = let at = ((h Unscripted).in_place.placed d).switch in grind (arith, nat_tests, at, is)

  standing_moved : (i : ℕ) → (i == m) ≡ false → Moved (place_of i s) (place_of i standing)
  unfolding put_switch set_switch set_place on_thread
  standing_moved i apart = subst (λ (p : Option Place). Moved (place_of i s) p) (sym (grind (arith, nat_tests, get-change, apart))) (displaced_moved s.queues.switch s at_switch i)

  standing_new : place_of m standing ≡ Some (Place.Ready Mark.Switch Why.Start)
  unfolding put_switch set_switch set_place on_thread
  standing_new = let there = displaced_there s.queues.switch s m in let new = ready.new in grind (arith, nat_tests, get-change, there, new)

  stands : standing.queues.switch ≡ Some m
  unfolding put_switch set_switch
  stands = refl

  -- where others are once the flag is cleared
  cleared_moved : (i : ℕ) → (i == m) ≡ false → Moved (place_of i s) (place_of i cleared)
  cleared_moved i apart = subst (λ (p : Option Place). Moved (place_of i s) p) (sym (flag_same x standing i).0) (standing_moved i apart)

  moved_under : (o p : Option Place) → Moved o p → p ≡ Some (Place.Under m) → o ≡ Some (Place.Under m)
  moved_under o p (inl e) at = sym e ∙ at
  moved_under o p (inr q) at = absurd (let to = q.1.1.1.1 in grind (arith, to, at))

  none_under : under_of m cleared ≡ None
  none_under = by (under_of m cleared) refl
    where
      by : (o : Option ℕ) → under_of m cleared ≡ o → under_of m cleared ≡ None
      by None is = is
      by (Some k) is =
          let at = under_place m k cleared is in
          by_number k m _
          (λ same. absurd (let to = (flag_same x standing m).0 in let new = standing_new in grind (arith, at, to, new, same)))
          (λ apart. absurd (
          let was = moved_under (place_of k s) (place_of k cleared) (cleared_moved k apart) at in
          let free = ((h Unscripted).awake refl).free.under k m was in
          let new = ready.new in grind (arith, free, new)))

  foot : foot_of m cleared ≡ m
  unfolding foot_of size
  foot = foot_alone _ m cleared none_under

  parked_place : (i : ℕ) → (i == n) ≡ false → place_of i parked ≡ place_of i cleared
  unfolding behind_one set_callers set_place set_op_progress on_thread
  parked_place i apart = grind (arith, nat_tests, get-change, apart)

  parked_far : (i : ℕ) → (i == n) ≡ false → op_progress_of i parked ≡ op_progress_of i cleared
  unfolding behind_one set_callers set_place set_op_progress on_thread
  parked_far i apart = grind (arith, nat_tests, get-change, apart)

  parked_own : place_of n parked ≡ Some (Place.Behind m)
  unfolding behind_one set_callers set_place set_op_progress on_thread
  parked_own =
      let apart = apart_new in let at = runs in
      let was = cleared_moved n apart in
      let there : is_some (place_of n cleared) ≡ true = moved_there (place_of n s) (place_of n cleared) was (ap (λ (o : Option Place). is_some o) at) in
      grind (arith, nat_tests, get-change, there)
    where
      moved_there : (o p : Option Place) → Moved o p → is_some o ≡ true → is_some p ≡ true
      moved_there o p (inl e) there = ap (λ (q : Option Place). is_some q) e ∙ there
      moved_there o p (inr q) there = let to = q.1.1.1.1 in grind (arith, to)

  parked_records : (parked.calls ≡ s.calls) × (parked.works ≡ s.works)
  unfolding behind_one set_callers set_place set_op_progress on_thread
  parked_records =
      let f = (flag_same x standing 0).1.1 in
      let d = placing_shifted (Put Mark.Switch m Why.Start) s in
      (f.0 ∙ shifted_calls d, f.1.0 ∙ shifted_works d)

  parked_counted : WakesCounted parked
  parked_counted = counted_stay
      (λ y i on. by_number i n _ (λ is. absurd (let own = parked_own in grind (arith, own, on, is)))
      (λ apart. by_number i m _ (λ is. absurd (let p = parked_place i apart in let r = (flag_same x standing i).0 in let new = standing_new in grind (arith, p, r, new, on, is)))
      (λ other. moved_waits y (place_of i s) (place_of i parked) (subst (λ (p : Option Place). Moved (place_of i s) p) (sym (parked_place i apart)) (cleared_moved i other)) on)))
      (λ y sub on. sym (member_same y s parked parked_records.0 parked_records.1 sub) ∙ on)
      (λ y i on. by_number i n _ (λ is. absurd (let was = sym (woken_at y i s) ∙ on in let at = runs in let fresh = ready.fresh in grind (arith, was, at, fresh, is)))
      (λ apart. by_number i m _ (λ is. absurd (let was = sym (woken_at y i s) ∙ on in let new = ready.new in grind (arith, was, new, is)))
      (λ other.
      let far = parked_far i apart ∙ ((flag_same x standing i).1.0 ∙ shifted_far (placing_shifted (Put Mark.Switch m Why.Start) s) i) in
      let to = subst (λ (p : Option Place). Moved (place_of i s) p) (sym (parked_place i apart)) (cleared_moved i other) in
      woken_at y i parked ∙ (ap (woken_place y (place_of i parked)) far ∙ moved_woken y (op_progress_of i s) (place_of i s) (place_of i parked) to (sym (woken_at y i s) ∙ on)))))
      ((h Unscripted).awake refl).counted

  clears_walks : {a : Scene} {b : Core} (y : ExportKind) {t : Core} → Keep a b t → Keep a b (call_clears_flag n j y t)
  clears_walks ExportKind.Sync k = k
  clears_walks ExportKind.Blocking {t = t} k = primitive (SetDoNotSuspend j false) tt (primitive (SetSavedCallee n (Some (may_not_suspend j t))) tt k)
  clears_walks ExportKind.Stackful {t = t} k = primitive (SetDoNotSuspend j false) tt (primitive (SetSavedCallee n (Some (may_not_suspend j t))) tt k)
  clears_walks ExportKind.Callback {t = t} k = primitive (SetDoNotSuspend j false) tt (primitive (SetSavedCallee n (Some (may_not_suspend j t))) tt k)

  parks : KeepsOrder c (Turn.Run n) s Turn.Main parked
  parks = lead_keeps c n (silent n) Turn.Main s parked
      (λ z. stops_here (ops_of c s) (setting_for c) z s n (silent n) Turn.Main (silent n) parked refl
      (λ leave.
      let k : Keep (seen (ops_of c s) (setting_for c) z (Turn.Run n) s n (silent n) Turn.Main) s cleared =
      clears_walks x (placed (Put Mark.Switch m Why.Start) (inr (Starts ready.new ready.implicit ready.queued refl, ((n, refl), λ i f at. at))) NoPrimitive) in
      lands_at (GoBehind m n) n OpProgress.Fresh refl (leave, inr (m, (ap (λ q. q.switch) (flag_same x standing 0).1.1.1.1 ∙ stands, sym foot))) refl (keep_still n refl k) refl tt k) refl refl)
      refl parked_counted

  -- ---- It is inside of the call from then on

  pub own_task : task_of m s ≡ m
  own_task =
      let r = at_place (λ (r : Thread). true) (get s.threads m) (let new = ready.new in grind (arith, new)) in
      let q = (h Unscripted).numbered.threads m r.0 r.1.0 in
      let there = r.1.0 in let first = ready.implicit in
      let own = q.own (grind (arith, there, first)) in grind (arith, there, own)

  made_call : (call : Call) × (get s.calls m ≡ Some call)
  made_call = by (get s.calls m) refl
    where
      by : (o : Option Call) → get s.calls m ≡ o → (call : Call) × (get s.calls m ≡ Some call)
      by None is = absurd (let caller = ready.called.0.0 in grind (arith, caller, is))
      by (Some call) is = (call, is)

  flag_explicit : (y : ExportKind) (u : Core) (i : ℕ) → is_explicit i (call_clears_flag n j y u) ≡ is_explicit i u
  unfolding set_do_not_suspend on_instance set_saved_callee on_thread
  flag_explicit ExportKind.Sync u i = refl
  flag_explicit ExportKind.Blocking u i = grind (arith, nat_tests, get-change)
  flag_explicit ExportKind.Stackful u i = grind (arith, nat_tests, get-change)
  flag_explicit ExportKind.Callback u i = grind (arith, nat_tests, get-change)

  parked_explicit : (i : ℕ) → is_explicit i parked ≡ is_explicit i s
  unfolding behind_one set_callers set_place set_op_progress on_thread
  parked_explicit i =
      let flag = flag_explicit x standing i in
      let d = shifted_explicit (placing_shifted (Put Mark.Switch m Why.Start) s) i in
      grind (arith, nat_tests, get-change, flag, d)

  again : (f : OpProgress) (u : Core) → set_op_progress n f (set_op_progress n OpProgress.Fresh u) ≡ set_op_progress n f u
  unfolding set_op_progress on_thread
  again f u = ap (λ (ts : Records Thread). record u { threads = ts }) (same_map _ _ (λ i. grind (arith, nat_tests, get-change)))

  -- each thread stays at its place
  far_op : (f : OpProgress) (i : ℕ) (u : Core) → op_of c i (set_op_progress n f u) ≡ op_of c i u
  unfolding op_of script_of set_op_progress on_thread
  far_op f i u = grind (arith, nat_tests, get-change)

  -- instances aren't changed by it
  same_instances : (f : OpProgress) (u : Core) → SameInstances s u → SameInstances s (set_op_progress n f u)
  unfolding set_op_progress on_thread
  same_instances f u q = record { instances = q.instances; handles = q.handles }

  far_fresh : (u : Core) → op_progress_of n (set_op_progress n OpProgress.Fresh u) ≡ OpProgress.Fresh
  unfolding set_op_progress on_thread
  far_fresh u = grind (arith, nat_tests, get-change)

  -- it has the op that is given, wherever it is in its script
  same_given : (o : Op) (f : OpProgress) (i : ℕ) (b : Bool) → (if b then o else op_of c i (set_op_progress n f parked)) ≡ (if b then o else op_of c i parked)
  same_given o f i true = refl
  same_given o f i false = far_op f i parked

  pub starts : (o : Op) → is_some (callee_of_op o) ≡ true → InOrderForAnyMainAs (given n o (ops_of c (start_queued n m s))) c Turn.Main (start_queued n m s) × SameInstances s (start_queued n m s)
  starts o op =
      let r = parks h in
      let call = made_call in
      let there = call.1 in
      let caller = ready.called.0.0 in let nameless = ready.called.0.1 in
      let ended = ready.called.1.0 in let unset = ready.called.1.1.0 in let delivered = ready.called.1.1.1 in
      let queued = ap (λ (k : ℕ). is_direct (goal_of k s)) (sym own_task) ∙ ready.queued in
      let ops = given n o (ops_of c parked) in
      let far = OpProgress.Calls (Subtask.Guest m) in
      subst (λ (t : Core). InOrderForAnyMainAs (given n o (ops_of c t)) c Turn.Main t × SameInstances s t) (again far (behind_one m n cleared)) (
        λ z. inside_keeps {ops = ops} {now_ops = given n o (ops_of c (set_op_progress n far parked))} z Turn.Main n m parked
            (with_ops (r.0 z) (any_op c n o (ops_of c parked) parked (Place.Behind m) (far_fresh (behind_one m n cleared)) parked_own refl (r.0 z).fits)) parked_own
            (λ i. same_given o far i (i == n)) (ap (λ (k : Op). is_some (callee_of_op k)) (own n o (ops_of c parked)) ∙ op)
            call.0 (ap (λ (k : Records Call). get k m) parked_records.0 ∙ there)
            (grind (arith, caller, there)) (grind (arith, nameless, there)) (grind (arith, there, ended, unset, delivered)) (grind (arith, there, caller, ended, queued))
            (parked_explicit m ∙ ready.implicit),
        same_instances far parked r.1,
      )

pub start_keeps : StartKeeps
unfolding StartKeeps
start_keeps c o n m s ready op h = starts c n m s ready h o op
