-- What the halves of a direct call need of the running thread, and what they result in.
use Rattle.std.proofs.Common.{ap, arith, refl, subst, sym, ◌∙◌}
use Rattle.std.proofs.lemmas.Bool.Decides.{nat_tests}
use Rattle.std.specs.Option.{option_map, option_map_or}
use Rattle.std.specs.Prelude.{Bool, IfSome, IsSome, List, None, Ok, Option, Some, [], false, is_some, not, slice_index, slice_set, true, ℕ, ◌<◌, ◌∷◌, ◌≡◌}
use Rattle.machine_data.specs.declared.component.Callee.{Callee}
use Rattle.machine_data.specs.declared.component.ExportKind.{ExportKind}
use Rattle.machine_data.specs.declared.label.CallLabel.TheVariants as call_label
use Rattle.machine_data.specs.declared.label.Label.TheVariants as label
use Rattle.machine_data.specs.declared.trap.Trap.TheVariants as trap
use Rattle.core_primitives.specs.Preferences.{preference}
use Rattle.machine_data.specs.Labels.{choice_of}
use Rattle.machine_data.specs.Moves.{passes_check}
use Rattle.machine_data.specs.declared.component.ExportKind.TheVariants as kind
use Rattle.machine_rules.proofs.CalmLemmas.{enter_calm, trap_if_calm}
use Rattle.machine_rules.specs.Picks.{LeavesNoChoice}
use Rattle.ops_guests.proofs.CalmLemmas.{calm_picks, picks_implements}
use Rattle.ops_guests.specs.Rules.{exits_direct}
use Rattle.ops_guests.specs.Works.{KeepsTold}
use Rattle.machine_rules.specs.Calls.{enter_rule, enter_runs, next_thread}
use Rattle.machine_rules.specs.Finish.{Doer, SomeHost}
use Rattle.machine_rules.specs.Scripts.{export_kind}
use Rattle.ops_calls.proofs.HostOpLemmas.{current_runs, did_rule, not_stopped}
use Rattle.ops_calls.proofs.AtOnceLemmas.{IsFree, goes_on}
use Rattle.ops_calls.specs.HostOps.{Did}
use Rattle.ops_calls.specs.OpAnswers.{answered, has_stopped}
use Rattle.ops_calls.specs.declared.answer_calls.Step.TheVariants as step
use Rattle.ops_dispatch.proofs.OpLemmas.{tags_told, told_names}
use Rattle.ops_guests.specs.Does.{DoesRule, KeepsTags, PicksRule}
use Rattle.ops_guests.specs.Ended.{ended}
use Rattle.ops_guests.specs.Shown.{goes_as}
use Rattle.ops_guests.specs.declared.op_result.OpResult.{OpResult}
use Rattle.ops_subtasks.specs.Rules.{enters_call}
use Rattle.ops_turns.proofs.OrderLemmas.{number_at}
use Rattle.ops_calls.specs.Directs.{IsDirect, enters_rule, exits_rule, thread_entered}
use Rattle.machine_data.proofs.CommuteLemmas.{change-change_same, insert-present}
use Rattle.machine_data.specs.Core.{Core, Unscripted}
use Rattle.machine_data.specs.Maps.{change, changed, get, insert}
use Rattle.machine_data.specs.Read.{at_handle_limit, fits, instance_of, is_under, kind_of, place_of, register_of, task_of, under_of}
use Rattle.machine_data.specs.Write.{on_thread, set_register}
use Rattle.machine_data.specs.declared.component.Component.{Component}
use Rattle.machine_data.specs.declared.label.Label.{Label}
use Rattle.machine_data.specs.declared.records.Place.TheVariants as place
use Rattle.machine_data.specs.declared.records.Thread.{Thread}
use Rattle.machine_data.specs.declared.records.Turn.TheVariants as turn
use Rattle.machine_data.specs.declared.trap.Trap.{Trap}
use Rattle.ops_moves.proofs.UntouchedLemmas.{set_register_untouched}
use Rattle.ops_guests.proofs.BesideLemmas.{quiet_stand}
use Rattle.ops_guests.proofs.BlockLemmas.{first_found}
use Rattle.ops_guests.proofs.RunLemmas.{stands_on}
use Rattle.ops_guests.specs.OpResult.{Implements, IsCurrent}
use Rattle.ops_guests.specs.Running.{IsRunning}
use Rattle.ops_guests.specs.declared.op_result.OpResult.TheVariants as op_result
use Rattle.machine_rules.specs.Ends.{direct_exit_rule, direct_exit_to}
use Rattle.machine_rules.specs.Progress.{Asks, Continues, Fails, Never, OneOf, Ordered, Progress, Stops, Traps, trap_if}
use Rattle.task_table.specs.declared.id.TableId.{TableId}
use Rattle.ops_turns.specs.Turn.{CoreInOrder, running_of}
use Rattle.task_wait.specs.declared.keys.ThreadKey.{ThreadKey}
use Rattle.core_primitives.specs.StateView.{StateView, on_core, thread_of, with_core}
use Rattle.ops_guests.specs.declared.op_result.OpAnswer.{OpAnswer}

-- ---- A register written and put back

registers_back : (v : ℕ) (rs : List ℕ) → slice_set (slice_set rs 0 v) 0 (slice_index rs 0) ≡ rs
registers_back v [] = refl
registers_back v (r ∷ rs) = refl

pub written_back : (n v : ℕ) (s : Core) → set_register n 0 (register_of n 0 s) (set_register n 0 v s) ≡ s
unfolding set_register on_thread change
written_back n v s = ap (λ ts. record s { threads = ts }) (change-change_same s.threads n put write ∙ back (get s.threads n) refl)
  where
    put : Thread → Thread
    put t = record t { registers = slice_set t.registers 0 (register_of n 0 s) }

    write : Thread → Thread
    write t = record t { registers = slice_set t.registers 0 v }

    same : (t : Thread) → get s.threads n ≡ Some t → put (write t) ≡ t
    same t at =
        let own : register_of n 0 s ≡ slice_index t.registers 0 = ap (λ (o : Option Thread). slice_index (option_map_or (λ (u : Thread). u.registers) o []) 0) at in
        ap (λ rs. record t { registers = rs }) (ap (slice_set (slice_set t.registers 0 v) 0) own ∙ registers_back v t.registers)

    back : (o : Option Thread) → get s.threads n ≡ o → change n (λ t. put (write t)) s.threads ≡ s.threads
    back None at = ap (changed s.threads n (λ t. put (write t))) at
    back (Some t) at = ap (changed s.threads n (λ t. put (write t))) at ∙ (ap (insert s.threads n) (same t at) ∙ insert-present s.threads n t at)

-- ---- The thread that runs, with a register written

module _ (id : TableId ThreadKey) (v : ℕ) (s t : StateView) (is : t ≡ on_core (set_register (thread_of s id) 0 v) s) where
  pub written_runs : IsRunning (thread_of s id) s.core → IsRunning (thread_of t id) t.core
  written_runs st = stands_on id place.Running (set_register (thread_of s id) 0 v) s t is (quiet_stand (thread_of s id) place.Running [] s.core _ (set_register_untouched (thread_of s id) 0 v s.core) st)

  found : (n m : ℕ) (c : Core) → place_of m c ≡ Some (place.Under n) → IsSome (under_of n c)
  unfolding under_of
  found n m c at = first_found (is_under n) m c (grind (arith, nat_tests, at))

  written_under : (m : ℕ) → place_of m s.core ≡ Some (place.Under (thread_of s id)) → IsSome (under_of (thread_of t id) t.core)
  written_under m at = subst (λ (u : StateView). IsSome (under_of (thread_of u id) u.core)) (sym is) (found (thread_of s id) m (set_register (thread_of s id) 0 v s.core) ((set_register_untouched (thread_of s id) 0 v s.core).places m ∙ at))

  pub direct_under : (c : Component) (n : ℕ) → CoreInOrder c (turn.Run n) s.core → running_of s ≡ Some n → thread_of s id ≡ n → IfSome (running_of s) (λ n. IsDirect n s.core) → IsSome (under_of (thread_of t id) t.core)
  direct_under c n in_turn runs named direct =
      let d = subst (λ (o : Option ℕ). IfSome o (λ k. IsDirect k s.core)) runs direct in
      let order = in_turn.order Unscripted in
      let here = ap is_some (order.in_place.runs n refl) in
      let below = order.directs n here d.implicit d.direct in
      written_under below.0 (below.1 ∙ ap (λ k. Some (place.Under k)) (sym named))

-- ---- The half that enters, of which nothing is to be ended

-- a direct call, once its two traps are told apart
abbrev entering : (full limit : Bool) → (n m : ℕ) → Core → Progress
entering full limit n m x = trap_if full trap.TableFull (trap_if limit trap.HandleLimit (Continues (label.Call (call_label.Enters n m)) x m))

entering_free : (a b : Bool) (n m : ℕ) (x : Core) → IsFree (entering a b n m x)
entering_free true b n m x = tt
entering_free false true n m x = tt
entering_free false false n m x = tt

-- whoever has it done
entering_met : (a b : Bool) (n m : ℕ) (x s : Core) (d : Doer) (k : ℕ) (r : OpResult) (t : Core) → Implements (entering a b n m x) s r (ended d k r t) → Implements (entering a b n m x) s r t
entering_met true b n m x s d k r t h = (h.0, subst (λ (q : OpResult). ended d k q t ≡ s) h.0 h.1)
entering_met false true n m x s d k r t h = (h.0, subst (λ (q : OpResult). ended d k q t ≡ s) h.0 h.1)
entering_met false false n m x s d k r t h = (h.0, subst (λ (q : OpResult). ended d k q t ≡ x) h.0 h.1)

-- one that wasn't refused has entered this thread
entering_went : (a b : Bool) (n m : ℕ) (x s : Core) (r : OpResult) (t : Core) (said : OpAnswer) → Implements (entering a b n m x) s r t → Ok (step.Done said) ≡ answered (λ a. a) r → r ≡ goes_as (label.Call (call_label.Enters n m)) m
entering_went true b n m x s r t said h ok = let went = subst (λ (q : OpResult). Ok (step.Done said) ≡ answered (λ a. a) q) h.0 ok in absurd (cc)
entering_went false true n m x s r t said h ok = let went = subst (λ (q : OpResult). Ok (step.Done said) ≡ answered (λ a. a) q) h.0 ok in absurd (cc)
entering_went false false n m x s r t said h ok = h.0

module _ (c : Component) (e : Callee) (words : List ℕ) (x : ExportKind) (kind : x ≡ export_kind c e) (id : TableId ThreadKey) (n : ℕ) (s : StateView) (runs : running_of s ≡ Some n) (number : thread_of s id ≡ n) (r : OpResult) (t : StateView) (does : DoesRule KeepsTags (enters_call x e words) id s r t) (current : IsCurrent r t) where
  abbrev full : Bool
  full = not (fits 3 s.core)

  abbrev limit : Bool
  limit = at_handle_limit s.core

  abbrev runs_then : Core
  runs_then = enter_runs (thread_of s id) e x words s.core

  pub enters_on : has_stopped r ≡ false
  enters_on = goes_on (enter_rule (thread_of s id) e x words s.core) s.core r (ended SomeHost (thread_of s id) r t.core)
      (entering_free full limit (thread_of s id) (next_thread s.core) runs_then) (does.implements SomeHost)

  enters_met : Implements (enter_rule (thread_of s id) e x words s.core) s.core r t.core
  enters_met = entering_met full limit (thread_of s id) (next_thread s.core) runs_then s.core SomeHost (thread_of s id) r t.core (does.implements SomeHost)

  pub enters_did : Did (enters_rule c e words s.core) s r t
  enters_did =
      subst (Did (enters_rule c e words s.core) s r) (not_stopped r t enters_on)
      (did_rule c n r s t runs (current_runs r t current) does.stays (enters_rule c e words s.core) (told_names s t (tags_told s t does.kept))
      (calm_picks (preference s) n (enter_rule n e (export_kind c e) words s.core) s.core r t.core (enter_calm SomeHost n s.core e (export_kind c e) words)
      (subst (λ (y : ExportKind). Implements (enter_rule n e y words s.core) s.core r t.core) kind
      (subst (λ (k : ℕ). Implements (enter_rule k e x words s.core) s.core r t.core) number enters_met))))

  module _ (said : OpAnswer) (ok : Ok (step.Done said) ≡ answered (λ a. a) r) (to : TableId ThreadKey) (here : t.current ≡ Some to) where
    entered_as : r ≡ goes_as (label.Call (call_label.Enters (thread_of s id) (next_thread s.core))) (next_thread s.core)
    entered_as = entering_went full limit (thread_of s id) (next_thread s.core) runs_then s.core r t.core said enters_met ok

    entered_number : thread_of t to ≡ next_thread s.core
    entered_number =
        let there = subst (λ (q : OpResult). IsCurrent q t) entered_as current in
        number_at (next_thread s.core) t (ap (option_map (λ i. thread_of t i)) there.1.0 ∙ ap (λ (k : ℕ). Some k) there.1.1) to here

    pub entered_answer : Ok (step.Done (thread_of t to)) ≡ answered thread_entered r
    entered_answer = ap (λ (k : ℕ). Ok (step.Done k)) entered_number ∙ sym (ap (answered thread_entered) entered_as)

    pub entered_live : 0 < thread_of t to
    entered_live = grind (arith, entered_number)

-- ---- The rule of the exit, with the register written before

-- one that goes on hangs on no core before
pub goes_base : (p : Progress) (s u t : Core) (l : Label) (m : ℕ) (said : OpAnswer) → Implements p u (op_result.Continues l m said) t → Implements p s (op_result.Continues l m said) t
goes_base (Continues k new n) s u t l m said h = h
goes_base (Stops k new) s u t l m said h = h
goes_base (Traps why) s u t l m said h = let e = h.0 in absurd (cc)
goes_base (Fails i) s u t l m said h = let e = h.0 in absurd (cc)
goes_base Never s u t l m said h = h
goes_base (Ordered ns next) s u t l m said h = (h.0, (h.1.0, goes_base (next h.0) s u t l m said h.1.1))
goes_base (OneOf ns next) s u t l m said h = (h.0, (h.1.0, goes_base (next h.0) s u t l m said h.1.1))
goes_base (Asks next) s u t l m said h = (h.0, goes_base (next h.0) s u t l m said h.1)

-- a trap leaves the core before
pub traps_base : (p : Progress) (s u t : Core) (why : Trap) → Implements p u (op_result.Traps why) t → Implements p s (op_result.Traps why) s
traps_base (Continues k new n) s u t why h = let e = h.0 in absurd (cc)
traps_base (Stops k new) s u t why h = let e = h.0 in absurd (cc)
traps_base (Traps w) s u t why h = (h.0, refl)
traps_base (Fails i) s u t why h = let e = h.0 in absurd (cc)
traps_base Never s u t why h = h
traps_base (Ordered ns next) s u t why h = (h.0, (h.1.0, traps_base (next h.0) s u t why h.1.1))
traps_base (OneOf ns next) s u t why h = (h.0, (h.1.0, traps_base (next h.0) s u t why h.1.1))
traps_base (Asks next) s u t why h = (h.0, traps_base (next h.0) s u t why h.1)

module _ (id : TableId ThreadKey) (v : ℕ) (s u : StateView) (is : u ≡ on_core (set_register (thread_of s id) 0 v) s) (t : Core) where
  pub exits_met : (l : Label) (m : ℕ) (said : OpAnswer) → Implements (direct_exit_rule (thread_of u id) u.core) u.core (op_result.Continues l m said) t → Implements (direct_exit_rule (thread_of s id) (set_register (thread_of s id) 0 v s.core)) s.core (op_result.Continues l m said) t
  exits_met l m said h =
      let n = thread_of s id in
      goes_base (direct_exit_rule n (set_register n 0 v s.core)) s.core (set_register n 0 v s.core) t l m said
      (subst (λ (w : StateView). Implements (direct_exit_rule (thread_of w id) w.core) w.core (op_result.Continues l m said) t) is h)

  pub exits_trapped : (why : Trap) → Implements (direct_exit_rule (thread_of u id) u.core) u.core (op_result.Traps why) t → Implements (direct_exit_rule (thread_of s id) (set_register (thread_of s id) 0 v s.core)) s.core (op_result.Traps why) s.core
  exits_trapped why h =
      let n = thread_of s id in
      traps_base (direct_exit_rule n (set_register n 0 v s.core)) s.core (set_register n 0 v s.core) t why
      (subst (λ (w : StateView). Implements (direct_exit_rule (thread_of w id) w.core) w.core (op_result.Traps why) t) is h)

-- the exit of a direct call leaves no choice
exits_calm : (n : ℕ) (x : ExportKind) (s : Core) (m : Option ℕ) → LeavesNoChoice (direct_exit_to n x s m)
exits_calm n x s None = tt
exits_calm n kind.Sync s (Some m) = (refl, refl)
exits_calm n kind.Blocking s (Some m) = trap_if_calm (not (passes_check (instance_of n s) s)) _ _ (refl, refl)
exits_calm n kind.Stackful s (Some m) = trap_if_calm (not (passes_check (instance_of n s) s)) _ _ (refl, refl)
exits_calm n kind.Callback s (Some m) = trap_if_calm (not (passes_check (instance_of n s) s)) _ _ (refl, refl)

-- the half that exits did its rule
module _ (c : Component) (id : TableId ThreadKey) (v n : ℕ) (s u t : StateView) (is : u ≡ on_core (set_register (thread_of s id) 0 v) s) (runs : running_of s ≡ Some n) (number : thread_of s id ≡ n) where
  pub exits_did : (l : Label) (m : ℕ) (said : OpAnswer) → PicksRule exits_direct id u (op_result.Continues l m said) t → IsCurrent (op_result.Continues l m said) t → KeepsTold u t
      → Did (exits_rule v s.core) s (op_result.Continues l m said) t
  exits_did l m said picks current works =
      let r = op_result.Continues l m said in
      let x = set_register n 0 v s.core in
      did_rule c n r s t runs (current_runs r t current) tt (exits_rule v s.core) (told_names s t (subst (λ (w : StateView). KeepsTold w t) is works))
      (calm_picks (preference s) n (exits_rule v s.core n (choice_of l)) s.core r t.core (exits_calm n (kind_of (task_of n x) x) x (under_of n x))
      (subst (λ (k : ℕ). Implements (direct_exit_rule k (set_register k 0 v s.core)) s.core r t.core) number (exits_met id v s u is t.core l m said (picks_implements picks))))

-- the register is put back
pub all_back : (id : TableId ThreadKey) (v before : ℕ) (s u t w : StateView) → u ≡ on_core (set_register (thread_of s id) 0 v) s → before ≡ register_of (thread_of s id) 0 s.core → t ≡ u → w ≡ on_core (set_register (thread_of t id) 0 before) t → w ≡ s
all_back id v before s u t w write own stays put =
    put
    ∙ (ap (λ (x : StateView). on_core (set_register (thread_of x id) 0 before) x) (stays ∙ write)
    ∙ (ap (λ k. on_core (set_register (thread_of s id) 0 k) (on_core (set_register (thread_of s id) 0 v) s)) own
    ∙ ap (λ (c : Core). with_core c s) (written_back (thread_of s id) v s.core)))
