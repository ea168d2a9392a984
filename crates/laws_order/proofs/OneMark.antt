-- One mark of one call or work is another: order stays.
use Rattle.laws_order.proofs.StayLemmas.{MarksFit, change_same, marks_awake, marks_in_order, unmarked_call, unmarked_work}
use Rattle.laws_order.specs.Pieces.{InOrderForAnyMain, state_in}
use Rattle.std.proofs.Common.{ap, arith, refl, subst, sym, inl, inr, ⊎_elim, ◌∙◌}
use Rattle.std.proofs.lemmas.Bool.Decides.{nat_tests}
use Rattle.std.specs.Option.{option_map_or}
use Rattle.std.specs.Prelude.{Bool, None, Option, Some, cond, false, is_some, option_and_then, option_map, true, ℕ, ◌==◌, ◌≡◌, ◌⊎◌}
use Rattle.laws_states.specs.Order.{InOrder, InOrderIf, JoinNamed, WorkTold, cancelled_by, is_awaited, is_open, is_uncancelled}
use Rattle.machine_data.proofs.CommuteLemmas.{get-change}
use Rattle.machine_data.specs.Core.{Core, State, Unscripted}
use Rattle.machine_data.specs.Maps.{Records, change, get}
use Rattle.machine_data.specs.Read.{course_value, has_ended, op_progress_of, is_async_lifted, is_stage_ended, is_watched, join_of, subtask_handle, undelivered_end}
use Rattle.machine_data.specs.Write.{on_call, on_work}
use Rattle.machine_data.specs.declared.component.Component.{Component}
use Rattle.machine_data.specs.declared.records.Call.{Call}
use Rattle.machine_data.specs.declared.records.Caller.{Caller}
use Rattle.machine_data.specs.declared.records.OpProgress.{OpProgress}
use Rattle.machine_data.specs.declared.records.Join.{Join}
use Rattle.machine_data.specs.declared.records.Subtask.{Subtask}
use Rattle.machine_data.specs.declared.records.Turn.{Turn}
use Rattle.machine_data.specs.declared.records.Work.{Work}
use Rattle.machine_data.specs.declared.statuses.TaskEvent.{TaskEvent}
use Rattle.machine_data.specs.declared.statuses.Status.{Status}
use Rattle.machine_rules.proofs.StandLemmas.{by_number}
use Rattle.machine_rules.specs.Allowed.{is_async_work, is_watched_by, watches}
use Rattle.machine_rules.specs.Takes.{host_status}
use Rattle.laws_order.specs.WakesKept.{NoWakeLost}

-- ---- A change of one record

module _ {X : Type 0} (k : ℕ) (f : X → X) (m : Records X) where
  others : (j : ℕ) → (j == k) ≡ false → get (change k f m) j ≡ get m j
  others j apart = get-change k f m j ∙ ap (λ (b : Bool). cond b (option_map f (get m j)) (get m j)) apart

  -- a record after the change is one as before, or the changed one
  each : (P : ℕ → X → Type 0) → ((j : ℕ) (z : X) → get m j ≡ Some z → P j z) → ((z : X) → get m k ≡ Some z → P k (f z)) → (j : ℕ) (y : X) → get (change k f m) j ≡ Some y → P j y
  each P old own j y at = by_number j k _ (λ is. here is (get m j) refl) (λ apart. old j y (sym (others j apart) ∙ at))
    where
      here : j ≡ k → (q : Option X) → get m j ≡ q → P j y
      here is None was = absurd (let e = get-change k f m j in grind (arith, nat_tests, e, at, was))
      here is (Some z) was =
          let e = get-change k f m j in
          let one : f z ≡ y = grind (arith, nat_tests, e, at, was, is) in
          subst (P j) one (subst (λ (i : ℕ). P i (f z)) (sym is) (own z (subst (λ (i : ℕ). get m i ≡ Some z) is was)))

  -- a test that the changed one still passes
  passes : (p : X → Bool) (d : Bool) (j : ℕ) → (j ≡ k → (z : X) → get m k ≡ Some z → p z ≡ true → p (f z) ≡ true) → option_map_or p (get m j) d ≡ true → option_map_or p (get (change k f m) j) d ≡ true
  passes p d j own on = by_number j k _ (λ is. here is (get m j) refl on) (λ apart. ap (λ (q : Option X). option_map_or p q d) (others j apart) ∙ on)
    where
      here : j ≡ k → (q : Option X) → get m j ≡ q → option_map_or p (get m j) d ≡ true → option_map_or p (get (change k f m) j) d ≡ true
      here is None was on =
          let e = get-change k f m j in
          let none : get (change k f m) j ≡ None = grind (arith, nat_tests, e, was) in
          ap (λ (q : Option X). option_map_or p q d) none ∙ (sym (ap (λ (q : Option X). option_map_or p q d) was) ∙ on)
      here is (Some z) was on =
          let e = get-change k f m j in
          let now : get (change k f m) j ≡ Some (f z) = grind (arith, nat_tests, e, was, is) in
          ap (λ (q : Option X). option_map_or p q d) now ∙ own is z (subst (λ (i : ℕ). get m i ≡ Some z) is was) (sym (ap (λ (q : Option X). option_map_or p q d) was) ∙ on)

-- ---- Of any mark

-- What is shown of the one call, whose record was z and is y.
pub record CallFits (u : Core) (k : ℕ) (z y : Call) : Type 0 where
  pub uncancelled : is_uncancelled z ≡ true → is_uncancelled y ≡ true
  pub awaited : (n : ℕ) → op_progress_of n u ≡ OpProgress.Calls (Subtask.Guest k) → is_awaited z ≡ true → is_awaited y ≡ true
  pub delivered : is_async_lifted z.kind ≡ false → z.cancel_delivered ≡ false → y.cancel_delivered ≡ false
  pub joins : (x : ℕ) → y.join ≡ Join.Set x → (z.join ≡ Join.Set x) ⊎ JoinNamed (Subtask.Guest k) x u
  pub watched : (n : ℕ) → cancelled_by (op_progress_of n u) ≡ Some (Subtask.Guest k) → is_watched_by n z.join ≡ true → is_watched_by n y.join ≡ true
  pub told : ((d : Status) → undelivered_end z.event ≡ Some d → is_some z.«end» ≡ true) → (d : Status) → undelivered_end y.event ≡ Some d → is_some y.«end» ≡ true

-- What is shown of the one work.
pub record WorkFits (u : Core) (i : ℕ) (z y : Work) : Type 0 where
  pub joins : (x : ℕ) → y.join ≡ Join.Set x → (z.join ≡ Join.Set x) ⊎ JoinNamed (Subtask.Host i) x u
  pub watched : (n : ℕ) → cancelled_by (op_progress_of n u) ≡ Some (Subtask.Host i) → is_watched_by n z.join ≡ true → is_watched_by n y.join ≡ true
  pub told : WorkTold z → WorkTold y

module _ {c : Component} {x : State} {g : Bool} (o : InOrderIf g c x) (k : ℕ) (f : Call → Call) (same : (z : Call) → unmarked_call (f z) ≡ unmarked_call z)
    (fits : (z : Call) → get x.core.calls k ≡ Some z → CallFits x.core k z (f z)) where
  abbrev one_call : Core
  one_call = record x.core { calls = change k f x.core.calls }

  pub call_fits : MarksFit c x.core one_call
  call_fits = record {
    called = λ n j far y at. each k f x.core.calls
        (λ (i : ℕ) (q : Call). op_progress_of n x.core ≡ OpProgress.Calls (Subtask.Guest i) → (q.caller ≡ Caller.Thread n) × ((q.handle ≡ None) × (is_uncancelled q ≡ true)))
        (λ i z was far. o.names.called n i far z was)
        (λ z was far. let q = o.names.called n k far z was in
        (ap (λ (w : Call). w.caller) (same z) ∙ q.0, (ap (λ (w : Call). w.handle) (same z) ∙ q.1.0, (fits z was).uncancelled q.1.1))) j y at far;
    inside = λ n j far. ⊎_elim inl (λ on. inr (passes k f x.core.calls is_awaited false j
        (λ is z was. (fits z was).awaited n (subst (λ (i : ℕ). op_progress_of n x.core ≡ OpProgress.Calls (Subtask.Guest i)) is far)) on)) (o.calls.inside n j far);
    joins = joins;
    uncancelled = each k f x.core.calls (λ (i : ℕ) (q : Call). is_async_lifted q.kind ≡ false → q.cancel_delivered ≡ false) (λ i z was. (o.kinds i z was).uncancelled)
        (λ z was kind. let sync : is_async_lifted z.kind ≡ false = ap (λ (w : Call). is_async_lifted w.kind) (sym (same z)) ∙ kind in
        (fits z was).delivered sync ((o.kinds k z was).uncancelled sync));
    watched = watched;
    works_told = o.works_told;
    calls_told = λ j d at. told j d (get one_call.calls j) refl at;
  }
    where
      named : (sub : Subtask) (y : ℕ) → JoinNamed sub y x.core → JoinNamed sub y one_call
      named sub y q = record { instance = q.instance; handle = q.handle; home = q.home; named = q.named }

      join_in : (j y : ℕ) (z : Call) → get x.core.calls j ≡ Some z → z.join ≡ Join.Set y → JoinNamed (Subtask.Guest j) y one_call
      join_in j y z was at = named (Subtask.Guest j) y (o.joins_named.joins (Subtask.Guest j) y (ap (λ (q : Option Call). option_map_or (λ (w : Call). w.join) q Join.Nowhere) was ∙ at))

      joined : (j y : ℕ) (q : Option Call) → get one_call.calls j ≡ q → option_map_or (λ (w : Call). w.join) q Join.Nowhere ≡ Join.Set y → JoinNamed (Subtask.Guest j) y one_call
      joined j y None now at = absurd (cc)
      joined j y (Some w) now at = each k f x.core.calls (λ (i : ℕ) (q : Call). q.join ≡ Join.Set y → JoinNamed (Subtask.Guest i) y one_call) (λ i z was at. join_in i y z was at)
          (λ z was at. ⊎_elim (λ before. join_in k y z was before) (λ q. named (Subtask.Guest k) y q) ((fits z was).joins y at)) j w now at

      joins : (sub : Subtask) (y : ℕ) → join_of sub one_call ≡ Join.Set y → JoinNamed sub y one_call
      joins (Subtask.Guest j) y at = joined j y (get one_call.calls j) refl at
      joins (Subtask.Host i) y at = named (Subtask.Host i) y (o.joins_named.joins (Subtask.Host i) y at)

      watched : (n : ℕ) (sub : Subtask) → cancelled_by (op_progress_of n x.core) ≡ Some sub → watches n sub one_call ≡ true
      watched n (Subtask.Guest j) far = passes k f x.core.calls (λ (z : Call). is_watched_by n z.join) true j
          (λ is z was. (fits z was).watched n (subst (λ (i : ℕ). cancelled_by (op_progress_of n x.core) ≡ Some (Subtask.Guest i)) is far)) (o.watched n (Subtask.Guest j) far)
      watched n (Subtask.Host i) far = o.watched n (Subtask.Host i) far

      -- what a call that was there has told, it has told as it has ended
      ended : (j : ℕ) (z : Call) → get x.core.calls j ≡ Some z → (d : Status) → undelivered_end z.event ≡ Some d → is_some z.«end» ≡ true
      ended j z was d said = sym (ap (λ (q : Option Call). is_some (option_and_then (λ (w : Call). w.«end») q)) was)
          ∙ o.calls_told j d (ap (λ (q : Option Call). undelivered_end (option_and_then (λ (w : Call). w.event) q)) was ∙ said)

      told : (j : ℕ) (d : Status) (q : Option Call) → get one_call.calls j ≡ q → undelivered_end (option_and_then (λ (w : Call). w.event) q) ≡ Some d → has_ended j one_call ≡ true
      told j d None now at = absurd (cc)
      told j d (Some w) now at = ap (λ (q : Option Call). is_some (option_and_then (λ (w : Call). w.«end») q)) now
          ∙ each k f x.core.calls (λ (i : ℕ) (q : Call). undelivered_end q.event ≡ Some d → is_some q.«end» ≡ true) (λ i z was. ended i z was d)
          (λ z was. (fits z was).told (ended k z was) d) j w now at

module _ {c : Component} {x : State} {g : Bool} (o : InOrderIf g c x) (k : ℕ) (f : Work → Work) (fits : (z : Work) → get x.core.works k ≡ Some z → WorkFits x.core k z (f z)) where
  abbrev one_work : Core
  one_work = record x.core { works = change k f x.core.works }

  work_fits : MarksFit c x.core one_work
  work_fits = record {
    called = o.names.called;
    inside = o.calls.inside;
    joins = joins;
    uncancelled = λ j y at. (o.kinds j y at).uncancelled;
    watched = watched;
    works_told = each k f x.core.works (λ (i : ℕ) (q : Work). WorkTold q) (λ i z was. o.works_told i z was) (λ z was. (fits z was).told (o.works_told k z was));
    calls_told = o.calls_told;
  }
    where
      named : (sub : Subtask) (y : ℕ) → JoinNamed sub y x.core → JoinNamed sub y one_work
      named sub y q = record { instance = q.instance; handle = q.handle; home = q.home; named = q.named }

      join_in : (j y : ℕ) (z : Work) → get x.core.works j ≡ Some z → z.join ≡ Join.Set y → JoinNamed (Subtask.Host j) y one_work
      join_in j y z was at = named (Subtask.Host j) y (o.joins_named.joins (Subtask.Host j) y (ap (λ (q : Option Work). option_map_or (λ (w : Work). w.join) q Join.Nowhere) was ∙ at))

      joined : (j y : ℕ) (q : Option Work) → get one_work.works j ≡ q → option_map_or (λ (w : Work). w.join) q Join.Nowhere ≡ Join.Set y → JoinNamed (Subtask.Host j) y one_work
      joined j y None now at = absurd (cc)
      joined j y (Some w) now at = each k f x.core.works (λ (i : ℕ) (q : Work). q.join ≡ Join.Set y → JoinNamed (Subtask.Host i) y one_work) (λ i z was at. join_in i y z was at)
          (λ z was at. ⊎_elim (λ before. join_in k y z was before) (λ q. named (Subtask.Host k) y q) ((fits z was).joins y at)) j w now at

      joins : (sub : Subtask) (y : ℕ) → join_of sub one_work ≡ Join.Set y → JoinNamed sub y one_work
      joins (Subtask.Guest j) y at = named (Subtask.Guest j) y (o.joins_named.joins (Subtask.Guest j) y at)
      joins (Subtask.Host j) y at = joined j y (get one_work.works j) refl at

      watched : (n : ℕ) (sub : Subtask) → cancelled_by (op_progress_of n x.core) ≡ Some sub → watches n sub one_work ≡ true
      watched n (Subtask.Guest j) far = o.watched n (Subtask.Guest j) far
      watched n (Subtask.Host j) far = passes k f x.core.works (λ (z : Work). is_watched_by n z.join) true j
          (λ is z was. (fits z was).watched n (subst (λ (i : ℕ). cancelled_by (op_progress_of n x.core) ≡ Some (Subtask.Host i)) is far)) (o.watched n (Subtask.Host j) far)

module _ (c : Component) (p : Turn) (going : is_open p ≡ true) (u : Core) (h : InOrderForAnyMain c p u) where
  o : InOrder c (state_in Unscripted p u)
  o = h Unscripted

  pub call_marked : (k : ℕ) (f : Call → Call) → ((z : Call) → unmarked_call (f z) ≡ unmarked_call z) → ((z : Call) → get u.calls k ≡ Some z → CallFits u k z (f z)) →
      NoWakeLost (on_call k f u) → InOrderForAnyMain c p (on_call k f u)
  unfolding on_call
  call_marked k f same fits lost m =
      let calls = change_same unmarked_call k f u.calls same in
      marks_in_order c (state_in m p u) (is_open p) (h m) (change k f u.calls) u.works calls (λ i. refl) (call_fits (h m) k f same fits) m p ((h m).in_place.runs) (is_open p)
      (λ e. marks_awake c (state_in m p u) (is_open p) (h m) (change k f u.calls) u.works calls (λ i. refl) p lost.blocked lost.counted ((h m).awake e))

  pub work_marked : (i : ℕ) (f : Work → Work) → ((z : Work) → unmarked_work (f z) ≡ unmarked_work z) → ((z : Work) → get u.works i ≡ Some z → WorkFits u i z (f z)) →
      NoWakeLost (on_work i f u) → InOrderForAnyMain c p (on_work i f u)
  unfolding on_work
  work_marked i f same fits lost m =
      let works = change_same unmarked_work i f u.works same in
      marks_in_order c (state_in m p u) (is_open p) (h m) u.calls (change i f u.works) (λ k. refl) works (work_fits (h m) i f fits) m p ((h m).in_place.runs) (is_open p)
      (λ e. marks_awake c (state_in m p u) (is_open p) (h m) u.calls (change i f u.works) (λ k. refl) works p lost.blocked lost.counted ((h m).awake e))

  -- ---- The event of a call, and of a work

  pub call_event_fits : (k : ℕ) (v : Option Status) → ((z : Call) → get u.calls k ≡ Some z → (d : Status) → undelivered_end v ≡ Some d → is_some z.«end» ≡ true) →
      ((n : ℕ) (z : Call) → op_progress_of n u ≡ OpProgress.Calls (Subtask.Guest k) → get u.calls k ≡ Some z → is_awaited z ≡ true → is_awaited (record z { event = v }) ≡ true) →
      (z : Call) → get u.calls k ≡ Some z → CallFits u k z (record z { event = v })
  call_event_fits k v told awaits z was = record {
    uncancelled = λ on. on;
    awaited = λ n far on. awaits n z far was on;
    delivered = λ sync off. off;
    joins = λ y at. inl at;
    watched = λ n far on. on;
    told = λ before d said. told z was d said;
  }

  pub work_event_fits : (i : ℕ) (v : Option Status) → ((z : Work) → get u.works i ≡ Some z → (d : Status) → undelivered_end v ≡ Some d →
      (is_stage_ended z.stage ≡ true) × ((is_async_work z.caller ≡ true) × (d ≡ host_status (course_value z.course)))) → (z : Work) → get u.works i ≡ Some z → WorkFits u i z (record z { event = v })
  work_event_fits i v told z was = record {
    joins = λ y at. inl at;
    watched = λ n far on. on;
    told = λ w. record { late = w.late; told = λ d said. told z was d said; finishing = w.finishing };
  }

  -- ---- The set that a subtask is in

  -- who cancels a subtask has it in its own set
  uncancelled_of : (n : ℕ) (sub : Subtask) → cancelled_by (op_progress_of n u) ≡ Some sub → is_watched (join_of sub u) ≡ false → ⊥
  uncancelled_of n (Subtask.Guest k) far apart =
      let there = o.cancelled n (Subtask.Guest k) far in
      let on = o.watched n (Subtask.Guest k) far in
      go (get u.calls k) refl there on apart
    where
      go : (q : Option Call) → get u.calls k ≡ q → is_some (subtask_handle (Subtask.Guest k) u) ≡ true → watches n (Subtask.Guest k) u ≡ true → is_watched (join_of (Subtask.Guest k) u) ≡ false → ⊥
      go None at there on apart = grind (arith, at, there)
      go (Some z) at there on apart = grind (arith, at, on, apart)
  uncancelled_of n (Subtask.Host i) far apart =
      let there = o.cancelled n (Subtask.Host i) far in
      let on = o.watched n (Subtask.Host i) far in
      go (get u.works i) refl there on apart
    where
      go : (q : Option Work) → get u.works i ≡ q → is_some (subtask_handle (Subtask.Host i) u) ≡ true → watches n (Subtask.Host i) u ≡ true → is_watched (join_of (Subtask.Host i) u) ≡ false → ⊥
      go None at there on apart = grind (arith, at, there)
      go (Some z) at there on apart = grind (arith, at, on, apart)

  pub call_join_fits : (k : ℕ) (j : Join) → is_watched (join_of (Subtask.Guest k) u) ≡ false → ((y : ℕ) → j ≡ Join.Set y → JoinNamed (Subtask.Guest k) y u) →
      (z : Call) → get u.calls k ≡ Some z → CallFits u k z (record z { join = j })
  call_join_fits k j apart named z was = record {
    uncancelled = λ on. on;
    awaited = λ n far on. on;
    delivered = λ sync off. off;
    joins = λ y at. inr (named y at);
    watched = λ n far on. absurd (uncancelled_of n (Subtask.Guest k) far apart);
    told = λ before. before;
  }

  pub work_join_fits : (i : ℕ) (j : Join) → is_watched (join_of (Subtask.Host i) u) ≡ false → ((y : ℕ) → j ≡ Join.Set y → JoinNamed (Subtask.Host i) y u) →
      (z : Work) → get u.works i ≡ Some z → WorkFits u i z (record z { join = j })
  work_join_fits i j apart named z was = record {
    joins = λ y at. inr (named y at);
    watched = λ n far on. absurd (uncancelled_of n (Subtask.Host i) far apart);
    told = λ w. record { late = w.late; told = w.told; finishing = w.finishing };
  }

  -- ---- A task event

  pub task_event_fits : (k : ℕ) (d : Bool) → (d ≡ true → (z : Call) → get u.calls k ≡ Some z → (z.task_event ≡ Some TaskEvent.Cancelled) × (is_async_lifted z.kind ≡ true)) →
      (z : Call) → get u.calls k ≡ Some z → CallFits u k z (record z { task_event = None; cancel_delivered = cond d true z.cancel_delivered })
  task_event_fits k d told z was = record {
    uncancelled = λ on. untouched d refl on;
    awaited = λ n far on. on;
    delivered = λ sync off. delivered d refl sync off;
    joins = λ y at. inl at;
    watched = λ n far on. on;
    told = λ before. before;
  }
    where
      untouched : (b : Bool) → d ≡ b → is_uncancelled z ≡ true → is_uncancelled (record z { task_event = None; cancel_delivered = cond d true z.cancel_delivered }) ≡ true
      untouched true is q = absurd (let t = (told is z was).0 in grind (arith, t, q))
      untouched false is q = grind (arith, is, q)

      delivered : (b : Bool) → d ≡ b → is_async_lifted z.kind ≡ false → z.cancel_delivered ≡ false → cond d true z.cancel_delivered ≡ false
      delivered true is sync off = absurd (let t = (told is z was).1 in grind (arith, t, sync))
      delivered false is sync off = ap (λ (b : Bool). cond b true z.cancel_delivered) is ∙ off
