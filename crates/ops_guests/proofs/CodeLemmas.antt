-- Activations that end with a code, step by step.
use Rattle.std.proofs.Common.{ap, ap₂, arith, refl, subst, sym, ◌∙◌}
use Rattle.std.proofs.lemmas.Bool.Decides.{nat_tests}
use Rattle.std.specs.Prelude.{Bool, List, None, Option, Some, [], false, nat_lt, not, suc, true, unwrap_or, zero, ℕ, ◌%◌, ◌/◌, ◌≡◌, ◌≤◌}
use Rattle.task_table.specs.declared.id.TableId.{TableId}
use Rattle.task_wait.specs.declared.keys.GuestTaskKey.{GuestTaskKey}
use Rattle.task_wait.specs.declared.keys.SetKey.{SetKey}
use Rattle.task_wait.specs.declared.keys.ThreadKey.{ThreadKey}
use Rattle.machine_data.specs.Core.{Core}
use Rattle.machine_data.specs.Moves.{checked, ended, put_high, put_low}
use Rattle.machine_data.specs.Read.{foot_of, instance_of, task_event_of, set_at, task_of}
use Rattle.machine_data.specs.Write.{arrive, set_place, set_task_event}
use Rattle.machine_data.specs.declared.label.Label.{Label}
use Rattle.machine_data.specs.declared.records.Delivery.TheVariants as delivery
use Rattle.machine_data.specs.declared.records.Place.TheVariants as place
use Rattle.machine_data.specs.declared.records.Why.TheVariants as why
use Rattle.machine_data.specs.declared.trap.Trap.TheVariants as trap
use Rattle.machine_data.specs.declared.statuses.TaskEvent.{TaskEvent}
use Rattle.machine_data.specs.declared.statuses.TaskEvent.TheVariants as task_event
use Rattle.core_primitives.specs.Preferences.{preference}
use Rattle.machine_rules.specs.Picks.{Preference, Silent}
use Rattle.ops_guests.proofs.CalmLemmas.{ordered_picks, silent_shows}
use Rattle.ops_guests.specs.OpResult.{PicksFirst}
use Rattle.ops_guests.specs.Reopens.{InOrder}
use Rattle.ops_guests.specs.Running.{IsRunning}
use Rattle.ops_guests.specs.declared.op_result.OpResult.{OpResult}
use Rattle.ops_guests.specs.declared.op_result.OpResult.TheVariants as op_result
use Rattle.ops_guests.proofs.ExitLemmas.{reopened_stand}
use Rattle.ops_guests.proofs.RunLemmas.{own_apart, own_unqueued, stands_on}
use Rattle.ops_moves.proofs.UntouchedLemmas.{set_task_event_untouched}
use Rattle.ops_guests.proofs.BesideLemmas.{checked_stand, quiet_stand, stopped_stand}
use Rattle.machine_rules.specs.Ends.{code_exits, code_finds, code_kind_rule, code_rule, code_stops, code_wait_rule, code_waits, code_yields, has_event_for, held_by_flag, leaves_no_result, own_or_none, passes_after_stop}
use Rattle.machine_rules.specs.Progress.{Ordered, Progress, Stops, or_trap, trap_if}
use Rattle.core_primitives.specs.Apart.{IsApart, IsUnqueued}
use Rattle.core_primitives.specs.StateView.{StateView, call_of, on_core, set_of, thread_of}

pub some_or_none : (o : Option TaskEvent) → Some (unwrap_or o task_event.None) ≡ own_or_none o
some_or_none None = refl
some_or_none (Some e) = refl

-- the thread's instance lets entries in, and its strand stops
abbrev pub Reopened : TableId ThreadKey → StateView → StateView → Type 0
Reopened n s t = InOrder (instance_of (thread_of s n) s.core) (code_stops (thread_of s n)) s t

module _ (n : TableId ThreadKey) where
  pub reopened_stands : (s t : StateView) → IsRunning (thread_of s n) s.core → Reopened n s t → IsRunning (thread_of t n) t.core
  unfolding code_stops
  reopened_stands s t st o =
      let N = thread_of s n in
      stands_on n place.Running (code_stops N o.0) s t o.1.1.1 (stopped_stand N place.Running (foot_of N s.core) _ (reopened_stand n (instance_of N s.core) o.0 s st))

  pub reopened_unqueued : (s t : StateView) → IsRunning (thread_of s n) s.core → Reopened n s t → IsUnqueued (thread_of t n) t.core
  reopened_unqueued s t st o = own_unqueued (thread_of t n) place.Running t.core (reopened_stands s t st o)

  -- ---- Code 0

  pub checked_apart : (i : ℕ) (s r t u : StateView) → r ≡ s → IsRunning (thread_of s n) s.core → Reopened n r t → u ≡ on_core (checked i) t → IsApart (thread_of u n) u.core
  checked_apart i s r t u same st o e =
      let run = reopened_stands r t (subst (λ (v : StateView). IsRunning (thread_of v n) v.core) (sym same) st) o in
      own_apart (thread_of u n) place.Running u.core (stands_on n place.Running (checked i) t u e (checked_stand (thread_of t n) place.Running i t.core run))

  exit_rule_is : (l : Label) (m rest : ℕ) (held : List ℕ) (c : Core) → passes_after_stop (instance_of m c) (foot_of m c) held c ≡ true → leaves_no_result m c ≡ false → code_kind_rule l m held c zero rest ≡ Ordered held (λ order. Stops l (code_exits m order c))
  exit_rule_is l m rest held c passes leaves =
      ap (λ b. trap_if (not b) trap.CannotBlockSyncTask (trap_if (leaves_no_result m c) trap.NoAsyncResult (Ordered held (λ order. Stops l (code_exits m order c))))) passes
      ∙ ap (λ b. trap_if b trap.NoAsyncResult (Ordered held (λ order. Stops l (code_exits m order c)))) leaves

  pub code_exits_picks : (f i : ℕ) (l : Label) (b d : Bool) (s r t u x : StateView) → r ≡ s → i ≡ instance_of (thread_of s n) s.core → f ≡ foot_of (thread_of s n) s.core → b ≡ passes_after_stop i f (held_by_flag i s.core) s.core → b ≡ true → d ≡ leaves_no_result (thread_of r n) r.core → d ≡ false → Reopened n r t → u ≡ on_core (checked i) t → x.core ≡ ended (thread_of u n) u.core → Silent l → (rest : ℕ) → PicksFirst (preference s) (code_kind_rule l (thread_of s n) (held_by_flag (instance_of (thread_of s n) s.core) s.core) s.core zero rest) l s.core (op_result.Stops l) x.core
  unfolding code_exits
  code_exits_picks f i l b d s r t u x same at foot passes passed leaves left was e out silent rest =
      let N = thread_of s n in
      let I = instance_of N s.core in
      let o = subst (λ (v : StateView). Reopened n v t) same was in
      let passes_is = sym (ap₂ (λ (j g : ℕ). passes_after_stop j g (held_by_flag j s.core) s.core) at foot) ∙ (sym passes ∙ passed) in
      let leaves_is = ap (λ (v : StateView). leaves_no_result (thread_of v n) v.core) (sym same) ∙ (sym leaves ∙ left) in
      let core = out ∙ (ap (λ (v : StateView). ended (thread_of v n) v.core) e ∙ (ap (λ (v : StateView). ended (thread_of v n) (checked i v.core)) o.1.1.1 ∙ ap (λ (j : ℕ). ended N (checked j (code_stops N o.0 s.core))) at)) in
      ordered_picks (preference s) _ l (held_by_flag I s.core) o.0 (λ order. code_exits N order s.core) s.core x.core (silent_shows (preference s) s.core l silent) (exit_rule_is l N rest (held_by_flag I s.core) s.core passes_is leaves_is) o.1.0 o.1.1.0 core

  -- ---- Code 1

  pub owned_unqueued : (k : ℕ) (e : Option TaskEvent) (s t u : StateView) → IsRunning (thread_of s n) s.core → Reopened n s t → u ≡ on_core (set_task_event k e) t → IsUnqueued (thread_of u n) u.core
  owned_unqueued k e s t u st o d =
      own_unqueued (thread_of u n) place.Running u.core (stands_on n place.Running (set_task_event k e) t u d (quiet_stand (thread_of t n) place.Running [] t.core _ (set_task_event_untouched k e t.core) (reopened_stands s t st o)))

  pub code_yields_picks : (k : TableId GuestTaskKey) (event : Option TaskEvent) (l : Label) (s t u x : StateView) → call_of s k ≡ task_of (thread_of s n) s.core → event ≡ own_or_none (task_event_of (call_of s k) s.core) → Reopened n s t → u ≡ on_core (set_task_event (call_of t k) event) t → x ≡ on_core (put_low (thread_of u n) (why.Delivery delivery.Yield)) u → Silent l → (rest : ℕ) → PicksFirst (preference s) (code_kind_rule l (thread_of s n) (held_by_flag (instance_of (thread_of s n) s.core) s.core) s.core (suc zero) rest) l s.core (op_result.Stops l) x.core
  unfolding code_yields
  code_yields_picks k event l s t u x task own o e d silent rest =
      let N = thread_of s n in
      let w = why.Delivery delivery.Yield in
      let core = ap (λ (v : StateView). v.core) d ∙ (ap (λ (v : StateView). put_low (thread_of v n) w v.core) e ∙ (ap (λ (v : StateView). put_low (thread_of v n) w (set_task_event (call_of v k) event v.core)) o.1.1.1
      ∙ (ap (λ (y : Option TaskEvent). put_low N w (set_task_event (call_of s k) y (code_stops N o.0 s.core))) own ∙ ap (λ (j : ℕ). put_low N w (set_task_event j (own_or_none (task_event_of j s.core)) (code_stops N o.0 s.core))) task))) in
      ordered_picks (preference s) _ l (held_by_flag (instance_of N s.core) s.core) o.0 (λ order. code_yields N order s.core) s.core x.core (silent_shows (preference s) s.core l silent) refl o.1.0 o.1.1.0 core

  -- ---- Code 2

  pub code_waits_picks : (k : TableId GuestTaskKey) (id : TableId SetKey) (i h : ℕ) (b finds : Bool) (l : Label) (new : ℕ → List ℕ → Core → Core) (s t x : StateView) → i ≡ instance_of (thread_of s n) s.core → Some (set_of s id) ≡ set_at i h s.core → call_of s k ≡ task_of (thread_of s n) s.core → b ≡ has_event_for (call_of s k) (set_of s id) s.core → b ≡ finds → ((y : ℕ) (held : List ℕ) (c : Core) → code_wait_rule l (thread_of s n) y held c finds ≡ Ordered held (λ order. Stops l (new y order c))) → ((o : Reopened n s t) → x.core ≡ new (set_of s id) o.0 s.core) → Reopened n s t → Silent l → PicksFirst (preference s) (code_kind_rule l (thread_of s n) (held_by_flag (instance_of (thread_of s n) s.core) s.core) s.core (suc (suc zero)) h) l s.core (op_result.Stops l) x.core
  code_waits_picks k id i h b finds l new s t x at names task event found row core o silent =
      let N = thread_of s n in
      let I = instance_of N s.core in
      let X = set_of s id in
      let held = held_by_flag I s.core in
      let set = sym (ap (λ (j : ℕ). set_at j h s.core) at) ∙ sym names in
      let finds_is = sym (ap (λ (j : ℕ). has_event_for j X s.core) task) ∙ (sym event ∙ found) in
      let row_is = ap (λ (y : Option ℕ). or_trap y trap.BadHandle (λ z. code_wait_rule l N z held s.core (has_event_for (task_of N s.core) z s.core))) set
      ∙ (ap (λ (c : Bool). code_wait_rule l N X held s.core c) finds_is ∙ row X held s.core) in
      ordered_picks (preference s) _ l held o.0 (λ order. new X order s.core) s.core x.core (silent_shows (preference s) s.core l silent) row_is o.1.0 o.1.1.0 (core o)

  pub finds_core : (id : TableId SetKey) (s t x : StateView) → x ≡ on_core (put_high (thread_of t n) (why.Delivery (delivery.Set (set_of t id)))) t → (o : Reopened n s t) → x.core ≡ code_finds (thread_of s n) (set_of s id) o.0 s.core
  unfolding code_finds
  finds_core id s t x e o = ap (λ (v : StateView). v.core) e ∙ ap (λ (v : StateView). put_high (thread_of v n) (why.Delivery (delivery.Set (set_of v id))) v.core) o.1.1.1

  pub waits_core : (id : TableId SetKey) (s t a x : StateView) → a ≡ on_core (arrive (thread_of t n)) t → x ≡ on_core (set_place (thread_of a n) (place.Waiting (set_of a id) true)) a
      → (o : Reopened n s t) → x.core ≡ code_waits (thread_of s n) (set_of s id) o.0 s.core
  unfolding code_waits
  waits_core id s t a x came e o =
      ap (λ (v : StateView). v.core) e ∙ (ap (λ (v : StateView). set_place (thread_of v n) (place.Waiting (set_of v id) true) v.core) came
      ∙ ap (λ (v : StateView). set_place (thread_of v n) (place.Waiting (set_of v id) true) (arrive (thread_of v n) v.core)) o.1.1.1)

below_bound : (code : ℕ) → code ≤ 4294967295 → nat_lt 4294967295 code ≡ false
below_bound code small = grind (arith, nat_tests)

pub by_code : (p : Preference) (l shown : Label) (n code k : ℕ) (s t : Core) (r : OpResult) → code ≤ 4294967295 → code % 16 ≡ k → PicksFirst p (code_kind_rule l n (held_by_flag (instance_of n s) s) s k (code / 16)) shown s r t → PicksFirst p (code_rule l n s code) shown s r t
by_code p l shown n code k s t r small low h =
    let row_is = ap (λ b. trap_if b trap.UnsupportedCallbackCode (code_kind_rule l n (held_by_flag (instance_of n s) s) s (code % 16) (code / 16))) (below_bound code small)
    ∙ ap (λ j. code_kind_rule l n (held_by_flag (instance_of n s) s) s j (code / 16)) low in
    subst (λ (q : Progress). PicksFirst p q shown s r t) (sym row_is) h
