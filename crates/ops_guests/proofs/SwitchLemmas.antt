-- Threads that are let run first, and threads made.
use Rattle.std.proofs.Common.{T, ap, ap₂, arith, refl, subst, sym, ◌∙◌}
use Rattle.std.specs.Option.{option_map_or}
use Rattle.std.specs.Prelude.{Bool, Err, None, Ok, Option, Result, Some, [], false, if◌then◌else◌, is_some, not, option_and_then, option_map, true, ℕ, ◌&&◌, ◌+◌, ◌<◌, ◌==◌, ◌∷◌, ◌≡◌}
use Rattle.task_table.specs.declared.id.TableId.{TableId}
use Rattle.task_wait.specs.declared.keys.ThreadKey.{ThreadKey}
use Rattle.machine_data.specs.Core.{Core}
use Rattle.machine_data.specs.Write.{add_thread}
use Rattle.machine_data.specs.Maps.{get}
use Rattle.machine_data.specs.Moves.{promoted_unless, put_switch}
use Rattle.machine_data.specs.Read.{at_handle_limit, call_instance, fits, op_progress_of, instance_of, is_explicit, is_ready_to_resume, is_yielded, new_thread_handle, place_of, task_of, thread_at}
use Rattle.machine_data.specs.declared.seq.Seq.{Seq}
use Rattle.machine_data.specs.declared.component.Slot.{Slot}
use Rattle.machine_data.specs.declared.component.Slot.TheVariants as slot
use Rattle.machine_data.specs.declared.label.Label.{Label}
use Rattle.machine_data.specs.declared.label.Label.TheVariants as label
use Rattle.machine_data.specs.declared.label.ThreadLabel.TheVariants as thread_label
use Rattle.machine_data.specs.declared.op.Op.{Op}
use Rattle.machine_data.specs.declared.records.Script.TheVariants as script
use Rattle.machine_data.specs.declared.records.Place.{Place}
use Rattle.machine_data.specs.declared.records.Place.TheVariants as place
use Rattle.machine_data.specs.declared.records.Thread.{Thread}
use Rattle.machine_data.specs.declared.records.Why.{Why}
use Rattle.machine_data.specs.declared.trap.Trap.{Trap}
use Rattle.machine_data.specs.declared.trap.Trap.TheVariants as trap
use Rattle.machine_data.specs.declared.statuses.Mark.{Mark}
use Rattle.ops_guests.specs.OpResult.{Implements}
use Rattle.ops_guests.specs.Ended.{ended}
use Rattle.ops_guests.specs.Halting.{ComesFirst, First, GoesFirst, Refused, StaysBehind, halts_then, or_refused, promoted_first, promoted_found, promoted_if, refused_if, resumed_first, resumed_found}
use Rattle.ops_guests.specs.Running.{IsRunning}
use Rattle.ops_guests.specs.declared.op_result.OpResult.{OpResult}
use Rattle.ops_guests.specs.declared.op_result.OpResult.TheVariants as op_result
use Rattle.machine_rules.specs.Calls.{new_thread, next_thread, with_thread_handle}
use Rattle.machine_rules.specs.Finish.{Doer, OneNumber, SomeHost, finish}
use Rattle.machine_rules.specs.Scripts.{registers_for}
use Rattle.ops_guests.proofs.BesideLemmas.{promoted_unless_stand, put_switch_good}
use Rattle.machine_rules.proofs.MoveLemmas.{is_parked}
use Rattle.machine_rules.proofs.StandLemmas.{by_number}
use Rattle.machine_rules.specs.Cancels.{pauses}
use Rattle.machine_rules.specs.Progress.{Continues, Progress, Stops, or_trap, trap_if}
use Rattle.machine_rules.specs.Threads.{Halt, halt_rule, halted, halted_promoting, halted_resuming, has_yielded, resume_at, resume_why, then_promote_by, then_promote_found_by, then_promote_rule, then_resume_found, then_resume_rule, thread_added, thread_new_label, thread_new_rule}
use Rattle.core_primitives.specs.Live.{kept_in, live_thread}
use Rattle.core_primitives.specs.StateView.{StateView, on_core, thread_of}
use Rattle.ops_guests.specs.Shown.{goes_as}

none_is_some : {A : Type 0} {w : Why} → None ≡ Some w → A
none_is_some e = absurd (no_both e)
  where
    no_both : {w : Why} → None ≡ Some w → ⊥
    no_both e = cc

-- ---- A thread that may be resumed is parked

resumable : (b : Bool) (p : Place) (w : Why) → resume_at b p ≡ Some w → is_parked p ≡ true
resumable b p w e = grind arith

resumable_at : (b : Bool) (o : Option Place) (w : Why) → option_and_then (resume_at b) o ≡ Some w → (p : Place) × ((o ≡ Some p) × (is_parked p ≡ true))
resumable_at b None w e = none_is_some e
resumable_at b (Some p) w e = (p, (refl, resumable b p w e))

-- ---- A thread that has yielded has its entry

yielded_ready : (b : Bool) (o : Option Place) → (option_map_or is_ready_to_resume o false && b) ≡ true → (x : Mark) × ((w : Why) × (o ≡ Some (place.Ready x w)))
yielded_ready b None e = absurd (subst T (sym e) tt)
yielded_ready b (Some (place.Ready x w)) e = (x, (w, refl))
yielded_ready b (Some place.New) e = absurd (subst T (sym e) tt)
yielded_ready b (Some place.Suspended) e = absurd (subst T (sym e) tt)
yielded_ready b (Some place.Running) e = absurd (subst T (sym e) tt)
yielded_ready b (Some (place.Under m)) e = absurd (subst T (sym e) tt)
yielded_ready b (Some (place.Behind m)) e = absurd (subst T (sym e) tt)
yielded_ready b (Some (place.Waiting y c)) e = absurd (subst T (sym e) tt)
yielded_ready b (Some (place.Blocked y)) e = absurd (subst T (sym e) tt)
yielded_ready b (Some (place.Held v)) e = absurd (subst T (sym e) tt)

promoted_stands : (n m : ℕ) (s : Core) → IsRunning n s → has_yielded m s ≡ true → IsRunning n (promoted_unless m s)
unfolding has_yielded
promoted_stands n m s st e =
    let r = yielded_ready (is_yielded (op_progress_of m s)) (place_of m s) e in
    let apart = by_number m n ((m == n) ≡ false) (λ same. absurd (both (sym st.here ∙ (ap (λ (k : ℕ). place_of k s) (sym same) ∙ r.1.1)))) (λ d. d) in
    promoted_unless_stand n place.Running m s apart r st
  where
    both : {x : Mark} {w : Why} → Some place.Running ≡ Some (place.Ready x w) → ⊥
    both e = cc

-- ---- Which thread a handle names, where that may be gone

gone_yields : (m : ℕ) (s : Core) → get s.threads m ≡ None → has_yielded m s ≡ false
unfolding has_yielded
gone_yields m s e = ap (λ (o : Option Thread). option_map_or is_ready_to_resume (option_map (λ (t : Thread). t.place) o) false && is_yielded (op_progress_of m s)) e

pub yielded_live : (m : ℕ) (s : Core) → get s.threads 0 ≡ None → has_yielded m s ≡ true → 0 < m
yielded_live m s zero e = by_number m 0 (0 < m) (λ same. absurd (both (sym e ∙ (ap (λ (k : ℕ). has_yielded k s) same ∙ gone_yields 0 s zero)))) (λ d. positive m d)
  where
    both : true ≡ false → ⊥
    both e = cc

    positive : (k : ℕ) → (k == 0) ≡ false → 0 < k
    positive k d = by_cases k d
      where
        by_cases : (k : ℕ) → (k == 0) ≡ false → 0 < k
        by_cases k d = grind (arith, d)

found_is : (n m k : ℕ) (s : Core) → get s.threads 0 ≡ None → (r : Thread) → get s.threads n ≡ Some r → k ≡ kept_in s.threads m → (k ≡ n → ⊥) → promoted_found n s m ≡ promoted_if (has_yielded k s) k s
found_is n m k s zero r at kept other = go (get s.threads m) refl
  where
    apart : (j : ℕ) → (j ≡ n → ⊥) → (j == n) ≡ false
    apart j h = by_number j n ((j == n) ≡ false) (λ e. absurd (h e)) (λ e. e)

    not_gone : m ≡ n → get s.threads m ≡ None → ⊥
    not_gone e gone = no_both (sym gone ∙ (ap (get s.threads) e ∙ at))
      where
        no_both : None ≡ Some r → ⊥
        no_both e = cc

    passes : (m == n) ≡ false → has_yielded m s ≡ has_yielded k s → (has_yielded k s ≡ true → m ≡ k) → promoted_found n s m ≡ promoted_if (has_yielded k s) k s
    passes d same number = ap (λ b. refused_if b trap.CannotResumeThread (promoted_if (has_yielded m s) m s)) d ∙ (ap (λ b. promoted_if b m s) same ∙ by_yield (has_yielded k s) number)
      where
        by_yield : (b : Bool) → (b ≡ true → m ≡ k) → promoted_if b m s ≡ promoted_if b k s
        by_yield true h = ap (λ (j : ℕ). promoted_if true j s) (h refl)
        by_yield false h = refl

    go : (o : Option Thread) → get s.threads m ≡ o → promoted_found n s m ≡ promoted_if (has_yielded k s) k s
    go None gone =
        let nought : k ≡ 0 = kept ∙ ap (λ (o : Option Thread). if is_some o then m else 0) gone in
        let none : has_yielded k s ≡ false = ap (λ (j : ℕ). has_yielded j s) nought ∙ gone_yields 0 s zero in
        passes (apart m (λ e. not_gone e gone)) (gone_yields m s gone ∙ sym none) (λ e. absurd (both (sym none ∙ e)))
      where
        both : false ≡ true → ⊥
        both e = cc
    go (Some t) there =
        let same : k ≡ m = kept ∙ ap (λ (o : Option Thread). if is_some o then m else 0) there in
        passes (apart m (λ e. other (same ∙ e))) (ap (λ (j : ℕ). has_yielded j s) (sym same)) (λ e. sym same)

at_thread : (n : ℕ) (p : Place) (s : Core) → place_of n s ≡ Some p → (r : Thread) × (get s.threads n ≡ Some r)
at_thread n p s e = go (get s.threads n) refl e
  where
    go : (o : Option Thread) → get s.threads n ≡ o → option_map (λ (t : Thread). t.place) o ≡ Some p → (r : Thread) × (get s.threads n ≡ Some r)
    go None at h = absurd (no_both h)
      where
        no_both : None ≡ Some p → ⊥
        no_both e = cc
    go (Some r) at h = (r, at)

first_is : (n i h k : ℕ) (s : Core) → get s.threads 0 ≡ None → IsRunning n s → i ≡ instance_of n s → Some k ≡ option_map (λ m. live_thread m s) (thread_at i h s) → (k ≡ n → ⊥) → promoted_first n h s ≡ promoted_if (has_yielded k s) k s
first_is n i h k s zero st at named other = go (thread_at (instance_of n s) h s) refl (named ∙ ap (λ (j : ℕ). option_map (λ m. live_thread m s) (thread_at j h s)) at)
  where
    go : (o : Option ℕ) → thread_at (instance_of n s) h s ≡ o → Some k ≡ option_map (λ m. live_thread m s) o → or_refused o trap.BadHandle (promoted_found n s) ≡ promoted_if (has_yielded k s) k s
    go None e d = absurd (no_both d)
      where
        no_both : Some k ≡ None → ⊥
        no_both e = cc
    go (Some m) e d = let r = at_thread n place.Running s st.here in found_is n m k s zero r.0 r.1 (same_some k (live_thread m s) d) other
      where
        same_some : (a b : ℕ) → Some a ≡ Some b → a ≡ b
        same_some a b e = cc

-- what becomes of a thread by its id is so of the one that the handle names
pub comes_by_id : (n i h k : ℕ) (b : Bool) (s t : StateView) (r : Result Bool Trap) → get s.core.threads 0 ≡ None → IsRunning n s.core → i ≡ instance_of n s.core → Some k ≡ option_map (λ m. live_thread m s.core) (thread_at i h s.core) → (k ≡ n → ⊥) → b ≡ has_yielded k s.core → ComesFirst (promoted_if b k s.core) s r t → ComesFirst (promoted_first n h s.core) s r t
comes_by_id n i h k b s t r zero st at named other is comes =
    subst (λ (f : First). ComesFirst f s r t) (sym (first_is n i h k s.core zero st at named other)) (subst (λ (c : Bool). ComesFirst (promoted_if c k s.core) s r t) is comes)

-- ---- The strand stops then

-- a thread that lets another one go first runs still
resumed_still : (n h : ℕ) (s : Core) → IsRunning n s → (new : Core) → resumed_first n h s ≡ GoesFirst new → IsRunning n new
resumed_still n h s st new is = at (thread_at (instance_of n s) h s) is
  where
    why : (m : ℕ) (o : Option Why) → resume_why m s ≡ o → or_refused o trap.CannotResumeThread (λ w. GoesFirst (put_switch m w s)) ≡ GoesFirst new → IsRunning n new
    why m None is e = absurd (cc)
    why m (Some w) is e =
        let r = resumable_at (is_explicit m s) (place_of m s) w is in
        let at : put_switch m w s ≡ new = cc in
        subst (IsRunning n) at (put_switch_good n place.Running refl m w r.0 s r.1.0 r.1.1 st)

    own : (m : ℕ) (b : Bool) → refused_if b trap.CannotResumeThread (or_refused (resume_why m s) trap.CannotResumeThread (λ w. GoesFirst (put_switch m w s))) ≡ GoesFirst new → IsRunning n new
    own m true e = absurd (cc)
    own m false e = why m (resume_why m s) refl e

    at : (o : Option ℕ) → or_refused o trap.BadHandle (resumed_found n s) ≡ GoesFirst new → IsRunning n new
    at None e = absurd (cc)
    at (Some m) e = own m (m == n) e

promoted_still : (n h : ℕ) (s : Core) → IsRunning n s → (new : Core) → promoted_first n h s ≡ GoesFirst new → IsRunning n new
promoted_still n h s st new is = at (thread_at (instance_of n s) h s) is
  where
    by : (m : ℕ) (b : Bool) → has_yielded m s ≡ b → promoted_if b m s ≡ GoesFirst new → IsRunning n new
    by m true yields e = let at : promoted_unless m s ≡ new = cc in subst (IsRunning n) at (promoted_stands n m s st yields)
    by m false yields e = absurd (cc)

    own : (m : ℕ) (b : Bool) → refused_if b trap.CannotResumeThread (promoted_if (has_yielded m s) m s) ≡ GoesFirst new → IsRunning n new
    own m true e = absurd (cc)
    own m false e = by m (has_yielded m s) refl e

    at : (o : Option ℕ) → or_refused o trap.BadHandle (promoted_found n s) ≡ GoesFirst new → IsRunning n new
    at None e = absurd (cc)
    at (Some m) e = own m (m == n) e

comes_still : (id : TableId ThreadKey) (f : First) (s t : StateView) (r : Result Bool Trap) → ((new : Core) → f ≡ GoesFirst new → IsRunning (thread_of s id) new) → IsRunning (thread_of s id) s.core → ComesFirst f s r t → IsRunning (thread_of t id) t.core
comes_still id (GoesFirst new) s t r still st h = subst (λ (v : StateView). IsRunning (thread_of v id) v.core) (sym h.1) (still new refl)
comes_still id StaysBehind s t r still st h = subst (λ (v : StateView). IsRunning (thread_of v id) v.core) (sym h.1) st
comes_still id (Refused why) s t r still st h = subst (λ (v : StateView). IsRunning (thread_of v id) v.core) (sym h.1) st

pub resumed_runs : (id : TableId ThreadKey) (h : ℕ) (s t : StateView) (r : Result Bool Trap) → IsRunning (thread_of s id) s.core → ComesFirst (resumed_first (thread_of s id) h s.core) s r t → IsRunning (thread_of t id) t.core
resumed_runs id h s t r st comes = comes_still id (resumed_first (thread_of s id) h s.core) s t r (resumed_still (thread_of s id) h s.core st) st comes

pub promoted_runs : (id : TableId ThreadKey) (h : ℕ) (s t : StateView) (r : Result Bool Trap) → IsRunning (thread_of s id) s.core → ComesFirst (promoted_first (thread_of s id) h s.core) s r t → IsRunning (thread_of t id) t.core
promoted_runs id h s t r st comes = comes_still id (promoted_first (thread_of s id) h s.core) s t r (promoted_still (thread_of s id) h s.core st) st comes

-- the ids name what they named, and the same thread is current
pub comes_same : (f : First) (s t : StateView) (r : Result Bool Trap) → ComesFirst f s r t → (t.tags ≡ s.tags) × (t.current ≡ s.current)
comes_same (GoesFirst new) s t r h = (ap (λ (v : StateView). v.tags) h.1, ap (λ (v : StateView). v.current) h.1)
comes_same StaysBehind s t r h = (ap (λ (v : StateView). v.tags) h.1, ap (λ (v : StateView). v.current) h.1)
comes_same (Refused why) s t r h = (ap (λ (v : StateView). v.tags) h.1, ap (λ (v : StateView). v.current) h.1)

-- the rules of the ops that let another thread go first
resume_halts : (x : Halt) (n h : ℕ) (l : Label) (s : Core) → then_resume_rule x n h s ≡ halts_then SomeHost x n l s (resumed_first n h s)
unfolding halted_resuming
resume_halts x n h l s = at (thread_at (instance_of n s) h s)
  where
    why : (m : ℕ) (o : Option Why) → or_trap o trap.CannotResumeThread (λ w. Stops (pauses n) (halted_resuming x n m w s)) ≡ halts_then SomeHost x n l s (or_refused o trap.CannotResumeThread (λ w. GoesFirst (put_switch m w s)))
    why m None = refl
    why m (Some w) = refl

    own : (m : ℕ) (b : Bool) → trap_if b trap.CannotResumeThread (or_trap (resume_why m s) trap.CannotResumeThread (λ w. Stops (pauses n) (halted_resuming x n m w s))) ≡ halts_then SomeHost x n l s (refused_if b trap.CannotResumeThread (or_refused (resume_why m s) trap.CannotResumeThread (λ w. GoesFirst (put_switch m w s))))
    own m true = refl
    own m false = why m (resume_why m s)

    at : (o : Option ℕ) → or_trap o trap.BadHandle (then_resume_found x n s) ≡ halts_then SomeHost x n l s (or_refused o trap.BadHandle (resumed_found n s))
    at None = refl
    at (Some m) = own m (m == n)

promote_halts : (d : Doer) (x : Halt) (n h : ℕ) (l : Label) (s : Core) → then_promote_rule d x n h l s ≡ halts_then d x n l s (promoted_first n h s)
unfolding halted_promoting
promote_halts d x n h l s = at (thread_at (instance_of n s) h s)
  where
    by : (m : ℕ) (b : Bool) → then_promote_by d x n l s m b ≡ halts_then d x n l s (promoted_if b m s)
    by m true = refl
    by m false = refl

    own : (m : ℕ) (b : Bool) → trap_if b trap.CannotResumeThread (then_promote_by d x n l s m (has_yielded m s)) ≡ halts_then d x n l s (refused_if b trap.CannotResumeThread (promoted_if (has_yielded m s) m s))
    own m true = refl
    own m false = by m (has_yielded m s)

    at : (o : Option ℕ) → or_trap o trap.BadHandle (then_promote_found_by d x n l s) ≡ halts_then d x n l s (or_refused o trap.BadHandle (promoted_found n s))
    at None = refl
    at (Some m) = own m (m == n)

-- an op that lets another thread go first, by what became of that
module _ (d : Doer) (x : Halt) (l : Label) (id : TableId ThreadKey) (f : First) (s t u : StateView) where
  refused_is : (why : Trap) → ComesFirst f s (Err why) t → Implements (halts_then d x (thread_of s id) l s.core f) s.core (op_result.Traps why) t.core
  refused_is why h = by f h
    where
      by : (f : First) → ComesFirst f s (Err why) t → Implements (halts_then d x (thread_of s id) l s.core f) s.core (op_result.Traps why) t.core
      by (GoesFirst new) h = absurd (let e = h.0 in cc)
      by StaysBehind h = absurd (let e = h.0 in cc)
      by (Refused t) h = let e = h.0 in (cc, ap (λ (v : StateView). v.core) h.1)

  stops_is : (k : ℕ) → k ≡ thread_of s id → ComesFirst f s (Ok true) t → u ≡ on_core (halted x (thread_of t id)) t → Implements (halts_then d x (thread_of s id) l s.core f) s.core (op_result.Stops (label.Thread (thread_label.Pauses k))) u.core
  stops_is k number h e = by f h
    where
      by : (f : First) → ComesFirst f s (Ok true) t → Implements (halts_then d x (thread_of s id) l s.core f) s.core (op_result.Stops (label.Thread (thread_label.Pauses k))) u.core
      by (GoesFirst new) h = (
        ap (λ (j : ℕ). op_result.Stops (label.Thread (thread_label.Pauses j))) number,
        ap (λ (v : StateView). v.core) e ∙ ap (λ (v : StateView). halted x (thread_of v id) v.core) h.1,
      )
      by StaysBehind h = absurd (let e = h.0 in cc)
      by (Refused t) h = absurd (let e = h.0 in cc)

  plain_is : (r : OpResult) → ComesFirst f s (Ok false) t → Implements (halt_rule d x (thread_of t id) l t.core) t.core r (ended d (thread_of t id) r u.core) → Implements (halts_then d x (thread_of s id) l s.core f) s.core r (ended d (thread_of s id) r u.core)
  plain_is r h m = by f h
    where
      by : (f : First) → ComesFirst f s (Ok false) t → Implements (halts_then d x (thread_of s id) l s.core f) s.core r (ended d (thread_of s id) r u.core)
      by (GoesFirst new) h = absurd (let e = h.0 in cc)
      by StaysBehind h = subst (λ (v : StateView). Implements (halt_rule d x (thread_of v id) l v.core) v.core r (ended d (thread_of v id) r u.core)) h.1 m
      by (Refused t) h = absurd (let e = h.0 in cc)

-- one that is resumed goes first, or that is refused
resumed_is : (n h : ℕ) (s t : StateView) (b : Bool) → ComesFirst (resumed_first n h s.core) s (Ok b) t → b ≡ true
resumed_is n h s t b comes = at (thread_at (instance_of n s.core) h s.core) comes
  where
    why : (m : ℕ) (o : Option Why) → ComesFirst (or_refused o trap.CannotResumeThread (λ w. GoesFirst (put_switch m w s.core))) s (Ok b) t → b ≡ true
    why m None h = absurd (let e = h.0 in cc)
    why m (Some w) h = let e = h.0 in cc

    own : (m : ℕ) (a : Bool) → ComesFirst (refused_if a trap.CannotResumeThread (or_refused (resume_why m s.core) trap.CannotResumeThread (λ w. GoesFirst (put_switch m w s.core)))) s (Ok b) t → b ≡ true
    own m true h = absurd (let e = h.0 in cc)
    own m false h = why m (resume_why m s.core) h

    at : (o : Option ℕ) → ComesFirst (or_refused o trap.BadHandle (resumed_found n s.core)) s (Ok b) t → b ≡ true
    at None h = absurd (let e = h.0 in cc)
    at (Some m) h = own m (m == n) h

module _ (x : Halt) (l : Label) (id : TableId ThreadKey) (h : ℕ) (s t u : StateView) where
  pub resume_refused : (why : Trap) → ComesFirst (resumed_first (thread_of s id) h s.core) s (Err why) t → Implements (then_resume_rule x (thread_of s id) h s.core) s.core (op_result.Traps why) t.core
  resume_refused why comes =
      let n = thread_of s id in
      subst (λ (p : Progress). Implements p s.core (op_result.Traps why) t.core) (sym (resume_halts x n h l s.core)) (refused_is SomeHost x l id (resumed_first n h s.core) s t u why comes)

  pub resume_stops : (k : ℕ) (b : Bool) → k ≡ thread_of s id → ComesFirst (resumed_first (thread_of s id) h s.core) s (Ok b) t → u ≡ on_core (halted x (thread_of t id)) t → Implements (then_resume_rule x (thread_of s id) h s.core) s.core (op_result.Stops (label.Thread (thread_label.Pauses k))) u.core
  resume_stops k b number comes e =
      let n = thread_of s id in
      let f = resumed_first n h s.core in
      let goes = subst (λ (a : Bool). ComesFirst f s (Ok a) t) (resumed_is n h s t b comes) comes in
      subst (λ (p : Progress). Implements p s.core (op_result.Stops (label.Thread (thread_label.Pauses k))) u.core) (sym (resume_halts x n h l s.core)) (stops_is SomeHost x l id f s t u k number goes e)

module _ (d : Doer) (x : Halt) (l : Label) (id : TableId ThreadKey) (h : ℕ) (s t u : StateView) where
  pub promote_refused : (why : Trap) → ComesFirst (promoted_first (thread_of s id) h s.core) s (Err why) t → Implements (then_promote_rule d x (thread_of s id) h l s.core) s.core (op_result.Traps why) t.core
  promote_refused why comes =
      let n = thread_of s id in
      subst (λ (p : Progress). Implements p s.core (op_result.Traps why) t.core) (sym (promote_halts d x n h l s.core)) (refused_is d x l id (promoted_first n h s.core) s t u why comes)

  pub promote_stops : (k : ℕ) → k ≡ thread_of s id → ComesFirst (promoted_first (thread_of s id) h s.core) s (Ok true) t → u ≡ on_core (halted x (thread_of t id)) t → Implements (then_promote_rule d x (thread_of s id) h l s.core) s.core (op_result.Stops (label.Thread (thread_label.Pauses k))) u.core
  promote_stops k number comes e =
      let n = thread_of s id in
      subst (λ (p : Progress). Implements p s.core (op_result.Stops (label.Thread (thread_label.Pauses k))) u.core) (sym (promote_halts d x n h l s.core)) (stops_is d x l id (promoted_first n h s.core) s t u k number comes e)

  pub promote_plain : (r : OpResult) → ComesFirst (promoted_first (thread_of s id) h s.core) s (Ok false) t → Implements (halt_rule d x (thread_of t id) l t.core) t.core r (ended d (thread_of t id) r u.core) → Implements (then_promote_rule d x (thread_of s id) h l s.core) s.core r (ended d (thread_of s id) r u.core)
  promote_plain r comes m =
      let n = thread_of s id in
      subst (λ (p : Progress). Implements p s.core r (ended d n r u.core)) (sym (promote_halts d x n h l s.core)) (plain_is d x l id (promoted_first n h s.core) s t u r comes m)

-- ---- A thread more

abbrev with_thread : ℕ → ℕ → ℕ → ℕ → Core → Core
with_thread i k x v s = with_thread_handle i (next_thread s) (add_thread (new_thread k true (script.Slot x) (registers_for (v ∷ [])) None) s)

-- its handle is answered
abbrev thread_made : Doer → ℕ → ℕ → ℕ → Core → Core
thread_made d n x v s = finish d n (OneNumber (new_thread_handle (instance_of n s) s)) (thread_added n x v s)

new_rule_is : (d : Doer) (n x v : ℕ) (ops : Seq Op) (s : Core) → fits 2 s ≡ true → at_handle_limit s ≡ false → thread_new_rule d n x v s (slot.Script ops) ≡ Continues (thread_new_label n s) (thread_made d n x v s) n
new_rule_is d n x v ops s room limit =
    ap (λ b. trap_if (not b) trap.TableFull (trap_if (at_handle_limit s) trap.HandleLimit (Continues (thread_new_label n s) (thread_made d n x v s) n))) room
    ∙ ap (λ b. trap_if b trap.HandleLimit (Continues (thread_new_label n s) (thread_made d n x v s) n)) limit

pub thread_new_implements : (n : TableId ThreadKey) (r : Doer) (x v k h m o : ℕ) (line : Slot) (ops : Seq Op) (s t : StateView) → line ≡ slot.Script ops → fits 2 s.core ≡ true → at_handle_limit s.core ≡ false → k ≡ task_of (thread_of s n) s.core → h ≡ new_thread_handle (instance_of (thread_of s n) s.core) s.core → m ≡ thread_of s n → o ≡ next_thread s.core → t.core ≡ with_thread (call_instance k s.core) k x v s.core → Implements (thread_new_rule r (thread_of s n) x v s.core line) s.core (goes_as (label.Thread (thread_label.New h m o)) m) (finish r (thread_of s n) (OneNumber h) t.core)
unfolding thread_added
thread_new_implements n r x v k h m o line ops s t is room limit task handle number other e =
    let N = thread_of s n in
    let I = instance_of N s.core in
    let core = ap (λ (c : Core). finish r N (OneNumber h) c) e ∙ ap₂ (λ (j g : ℕ). finish r N (OneNumber g) (with_thread (call_instance j s.core) j x v s.core)) task handle in
    let came_is = ap₂ (λ (g j : ℕ). goes_as (label.Thread (thread_label.New g j o)) j) handle number ∙ ap (λ (j : ℕ). goes_as (label.Thread (thread_label.New (new_thread_handle I s.core) N j)) N) other in
    subst (λ (p : Progress). Implements p s.core (goes_as (label.Thread (thread_label.New h m o)) m) (finish r N (OneNumber h) t.core)) (sym (ap (thread_new_rule r N x v s.core) is ∙ new_rule_is r N x v ops s.core room limit)) (came_is, core)
