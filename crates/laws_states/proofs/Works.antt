-- What host works come to along the primitives of a step: their ends, and what they have to hand out.
use Rattle.machine_data.specs.declared.scenario.Version.{Version}
use Rattle.laws_states.proofs.Primitives.{after_primitive, Allowed, along, ap, arith, base_at, Bool, Core, course_value, Doing, doing_of, false, fresh, get, get-empty, has_end, host_status, if◌then◌else◌, inl, inr, is_aborted, is_async_work, is_finishing, is_late, is_some, is_stage_ended, is_sync_work, Label, later_after, later_same, LaterBy, le_refl, le_trans, LoopLabel, made_works_primitive, MayAbort, MayBeAborted, None, of_base, Op, Option, option_and_then, refl, Scene, scene_as, Setting, Some, Stage, stand_primitive, State, Status, true, Turn, undelivered_end, WalkedAs, Primitive, Work, work_came, WorkAfter, WorkCame, WorksStand, ℕ, ⊎_elim, ◌&&◌, ◌||◌, ◌≡◌, ◌≤◌, ◌⊎◌}

-- What holds of a work: an end where its stage says so; an event of its own end, once it has ended; and, where S says that none is
-- aborted, a sync one ends with a value.
pub record WorkHolds (S : Type 0) (v : Doing) : Type 0 where
  pub late : has_end v.course ≡ is_late v.stage
  pub told : (e : Status) → undelivered_end v.event ≡ Some e → (is_stage_ended v.stage ≡ true) ×
      ((is_async_work v.caller ≡ true) × (e ≡ host_status (course_value v.course)))
  pub finishing : is_finishing v.stage ≡ true → is_async_work v.caller ≡ true
  pub sync : S → is_sync_work v.caller ≡ true → (is_aborted v.phase ≡ false) ×
      (has_end v.course ≡ true → is_some (course_value v.course) ≡ true)

pub record WorksHold (S : Type 0) (s : Core) : Type 0 where
  pub stand : WorksStand ⊥ s
  pub works : (i : ℕ) (v : Doing) → doing_of i s ≡ Some v → WorkHolds S v

-- it has an end to hand out
abbrev pub is_due : Doing → Bool
is_due v = is_some (undelivered_end v.event) || (is_finishing v.stage || (has_end v.course && is_sync_work v.caller))

-- what that is
abbrev pub due_in : Option Doing → Option Status
due_in o = option_and_then (λ (v : Doing). if is_due v then Some (host_status (course_value v.course)) else None) o

-- The work is called by the same; an end stays, and it has ended once it has.
pub record Lasts (u v : Doing) : Type 0 where
  pub caller : v.caller ≡ u.caller
  pub stays : has_end u.course ≡ true → v.course ≡ u.course
  pub ended : is_stage_ended u.stage ≡ true → is_stage_ended v.stage ≡ true

-- On the way of a step: what is to be handed out was so before the step, or the work comes to its end in it.
pub record WorksGo (S : Type 0) (a : Scene) (s : Core) : Type 0 where
  pub counted : a.base.made.works ≤ s.made.works
  pub holds : WorksHold S s
  pub was : (i : ℕ) → i ≤ a.base.made.works → LaterBy Lasts (doing_of i a.base) (doing_of i s)
  pub due : (i : ℕ) (e : Status) → due_in (doing_of i s) ≡ Some e →
      (due_in (doing_of i a.base) ≡ Some e) ⊎ (a.label ≡ Label.Loop (LoopLabel.FutureEnds i))

pub stage_ended : (x : Stage) → is_stage_ended x ≡ true → is_late x ≡ true
stage_ended x h = grind arith

-- there or not
pub doing_or : (i : ℕ) (s : Core) → (doing_of i s ≡ None) ⊎ ((v : Doing) × (doing_of i s ≡ Some v))
doing_or i s = grind arith

pub doing_there : (i : ℕ) (s : Core) → is_some (get s.works i) ≡ true → (v : Doing) × (doing_of i s ≡ Some v)
doing_there i s h = ⊎_elim (λ none. absurd (grind arith)) (λ v. v) (doing_or i s)

pub number_of : {S : Type 0} {s : Core} → WorksHold S s → (i : ℕ) (v : Doing) → doing_of i s ≡ Some v → i ≤ s.made.works
number_of h i v at = h.stand.number i (ap (λ o. is_some o) at)

module _ {S M : Type 0} {a : Scene} {s : Core} {b i : ℕ} {h g : ℕ × ℕ} {o p : Option Doing} (came : WorkCame ⊥ M a s b i h g o p)
    (q : (u : Doing) → o ≡ Some u → WorkHolds S u) where
  holds_came : (S → (u : Doing) → o ≡ Some u → is_sync_work u.caller ≡ true → M → ⊥) → (v : Doing) → p ≡ Some v → WorkHolds S v
  holds_came unsync v at = record {
    late = grind (arith, q);
    told = λ e tells. let f = λ (u : Doing) (is : o ≡ Some u). (q u is).told e in grind (arith, f, q);
    finishing = λ e. grind (arith, q);
    sync = λ y e. let f = λ (u : Doing) (is : o ≡ Some u). (q u is).sync y in let n = unsync y in
        (grind (arith, f, n), λ has. grind (arith, f, q));
  }

  lasts_came : i ≤ s.made.works → LaterBy Lasts o p
  lasts_came below = grind (arith, q)

  due_came : (e : Status) → due_in p ≡ Some e → (due_in o ≡ Some e) ⊎ (a.label ≡ Label.Loop (LoopLabel.FutureEnds i))
  due_came e due = grind (arith, q)

lasts_after : (t u v : Doing) → Lasts t u → Lasts u v → Lasts t v
lasts_after t u v p q = grind arith

pub works_primitive : {S : Type 0} {a : Scene} → (S → (i : ℕ) → MayAbort a i → MayBeAborted a.base i) → (w : Primitive) (s : Core) → Allowed a w s →
    WorksGo S a s → WorksGo S a (after_primitive w s)
works_primitive {S = S} {a = a} unsync w s ok q = record {
  counted = le_trans q.counted (made_works_primitive a w s);
  holds = record {
    stand = stand_primitive a s q.holds.stand (λ i no. absurd no) w ok;
    works = λ i. holds_came (came i) (q.holds.works i) (λ y u e sync may. never i y u e sync may);
  };
  was = λ i below. later_after Lasts lasts_after _ _ _ (q.was i below) (lasts_came (came i) (q.holds.works i) (le_trans below q.counted));
  due = λ i e due. ⊎_elim (q.due i e) (λ now. inr now) (due_came (came i) (q.holds.works i) e due);
}
  where
    came : (i : ℕ) → WorkAfter a s q.holds.stand (λ i no. absurd no) w i
    came = work_came a s q.holds.stand (λ i no. absurd no) w ok

    never : (i : ℕ) → S → (u : Doing) → doing_of i s ≡ Some u → is_sync_work u.caller ≡ true → MayAbort a i → ⊥
    never i y u e sync may = let n = unsync y i may in let other = n.other in let was = q.was i n.made in grind arith

pub opening_works : {S : Type 0} (rules : Version) (instances handle_limit capacity : ℕ) → WorksHold S (fresh rules instances handle_limit capacity)
unfolding fresh
opening_works rules instances handle_limit capacity = record {
  stand = record {
    low = λ i. refl;
    number = λ i there. let e = get-empty {X = Work} i in absurd (cc);
    high = λ i why. let e = get-empty {X = Work} i in grind arith;
  };
  works = λ i v at. let e = get-empty {X = Work} i in absurd (cc);
}

pub first_works : {S : Type 0} {ops : ℕ → Op} (x : Setting) (s : State) (l : Label) (next : Turn) → WorksHold S s.core → WorksGo S
    (scene_as ops x s l next) s.core
first_works {S = S} {ops = ops} x s l next h = of_base (λ c. WorksGo S (record (scene_as ops x s l next) { base = c }) s.core) s.turn s.core (record {
  counted = le_refl _;
  holds = h;
  was = λ i below. later_same Lasts (λ v. record { caller = refl; stays = λ h. refl; ended = λ h. h }) (doing_of i s.core);
  due = λ i e due. inl due;
})

pub works_go : {S : Type 0} {ops : ℕ → Op} (x : Setting) (s : State) (l : Label) (t : State) (w : WalkedAs ops x s l t) →
    (S → (i : ℕ) → MayAbort (scene_as ops x s l w.next) i → MayBeAborted (base_at s.turn s.core) i) → WorksHold S s.core → WorksGo S (scene_as ops x s l w.next) t.core
works_go {S = S} {ops = ops} x s l t w unsync h = along (WorksGo S (scene_as ops x s l w.next)) (λ v u ok q. works_primitive unsync v u ok q)
    (first_works x s l w.next h) w.walk
