-- What main and the polls do to states that differ in whom a cancel took: the same.
use Rattle.laws_checks.proofs.ThreadLemmas.{alike_change, alike_insert, same_blocked, same_size}
use Rattle.laws_checks.specs.Twins.{AreAlike, AreTwinCores, AreTwins, runs_thread, with_threads}
use Rattle.machine_data.specs.Core.{Began, Core, Main, Refused, Started, State}
use Rattle.machine_data.specs.Maps.{Records, get, size}
use Rattle.machine_data.specs.Moves.{put_high, unblocked}
use Rattle.machine_data.specs.Read.{blocked_on, fits, is_host_call, next_entry, or_high, phase_of, table_use, work_caller_of}
use Rattle.machine_data.specs.Write.{add_call, add_group, add_thread, add_work, count_work, on_thread, on_work, push_high, set_course, set_phase, set_place, set_stage, set_trapped, take_result}
use Rattle.machine_data.specs.declared.component.Callee.{Callee}
use Rattle.machine_data.specs.declared.component.Component.{Component}
use Rattle.machine_data.specs.declared.component.HostDef.{HostDef}
use Rattle.machine_data.specs.declared.label.MainLabel.TheVariants as main_label
use Rattle.machine_data.specs.declared.label.MainLabel.{MainLabel}
use Rattle.machine_data.specs.declared.records.Stage.TheVariants as stage
use Rattle.machine_data.specs.declared.records.Subtask.TheVariants as subtask
use Rattle.machine_data.specs.declared.records.Turn.TheVariants as turn
use Rattle.machine_data.specs.declared.records.Turn.{Turn}
use Rattle.machine_data.specs.declared.records.WorkCaller.TheVariants as work_caller
use Rattle.machine_data.specs.declared.records.WorkCaller.{WorkCaller}
use Rattle.machine_data.specs.declared.statuses.Phase.TheVariants as phase
use Rattle.machine_data.specs.declared.records.Thread.{Thread}
use Rattle.machine_data.specs.declared.trap.Trap.{Trap}
use Rattle.machine_rules.specs.Calls.{call_made, work_queued}
use Rattle.machine_rules.specs.MainOps.{Abort, Answer, Answers, Await, Does, Finish, MainAct, MainProgress, Pends, Quiet, Ready, Spawn, SpawnOpen, Start, finish_result, has_interesting, is_complete, is_ready_for_call, main_aborted, main_rule, main_spawned, main_started, open_spawned, refusal, start_act, start_refusal, unless_pending}
use Rattle.machine_rules.specs.Turns.{at_turn, queues_are_empty, settled_futures, settled_take, settled_turn}
use Rattle.machine_rules.specs.Works.{course_for, followed, next_polled, poll_ends, poll_pends}
use Rattle.std.proofs.Common.{ap, refl, subst, sym, ◌∙◌}
use Rattle.std.specs.Prelude.{Bool, List, None, Option, Some, count_by, false, is_none, length, nat_le, not, true, ℕ, ◌*◌, ◌+◌, ◌≡◌}

-- ---- Turns

module _ (m n : ℕ) (a b : Core) (twins : AreTwinCores a b) (first : a.queues.switch ≡ Some m) (second : b.queues.switch ≡ Some n) where
  stands : (c : Core) (k : ℕ) → c.queues.switch ≡ Some k → queues_are_empty c ≡ false
  unfolding next_entry
  stands c k at = ap (λ (o : Option ℕ). is_none (or_high o c.queues.high c.queues.low)) at

  both_stand : queues_are_empty a ≡ queues_are_empty b
  both_stand = stands a m first ∙ sym (stands b n second)

  same_next : (k : ℕ) → next_polled k b ≡ next_polled k a
  unfolding next_polled
  same_next k = ap (λ (c : Core). next_polled k c) twins.rest

  same_settled : (x : Turn) → settled_turn a x ≡ settled_turn b x
  same_settled (turn.Futures k) = by (next_polled k a) ∙ ap (λ (o : Option ℕ). settled_futures k b o) (sym (same_next k))
    where
      by : (o : Option ℕ) → settled_futures k a o ≡ settled_futures k b o
      by None = ap (λ (e : Bool). settled_take false e) both_stand
      by (Some i) = refl
  same_settled (turn.Take ended) = ap (λ (e : Bool). settled_take ended e) both_stand
  same_settled turn.Main = refl
  same_settled (turn.Run k) = refl
  same_settled turn.Over = refl

  take_waits : (ended empty : Bool) → runs_thread (settled_take ended empty) ≡ false
  take_waits true true = refl
  take_waits true false = refl
  take_waits false empty = refl

  waits_on : (c : Core) (x : Turn) → runs_thread x ≡ false → runs_thread (settled_turn c x) ≡ false
  waits_on c (turn.Futures k) h = by (next_polled k c)
    where
      by : (o : Option ℕ) → runs_thread (settled_futures k c o) ≡ false
      by None = take_waits false (queues_are_empty c)
      by (Some i) = refl
  waits_on c (turn.Take ended) h = take_waits ended (queues_are_empty c)
  waits_on c turn.Main h = refl
  waits_on c (turn.Run k) h = h
  waits_on c turn.Over h = refl

-- such cores at one turn are twins
pub twins_at : (m n : ℕ) (s t : State) (p q : Main) → p ≡ q → (a b : Core) → AreTwinCores a b → a.queues.switch ≡ Some m → b.queues.switch ≡ Some n → (x : Turn) → runs_thread x ≡ false →
    AreTwins m n (at_turn s a p x) (at_turn t b q x)
unfolding at_turn
twins_at m n s t p q main a b twins first second x waits = record {
  first = record { at = first; waits = waits_on m n a b twins first second a x waits };
  second = record { at = second; waits = waits_on m n a b twins first second b x waits };
  main = main;
  turn = same_settled m n a b twins first second x;
  core = twins;
}

-- ---- Main's acts, and the polls

-- the cores are twins, and what was at switch is
abbrev pub KeepsTwins : Option ℕ → Option ℕ → Core → Core → Type 0
KeepsTwins p q a b = AreTwinCores a b × ((a.queues.switch ≡ p) × (b.queues.switch ≡ q))

abbrev pub MainAlike : Option ℕ → Option ℕ → MainProgress → MainProgress → Type 0
MainAlike p q (Does l a) (Does k b) = (l ≡ k) × KeepsTwins p q a b
MainAlike p q Pends Pends = Unit {0}
MainAlike p q (Answers v) (Answers w) = v ≡ w
MainAlike p q _ _ = ⊥

module _ (s : Core) (ts : Records Thread) (cs : Records (List ℕ)) (q : Option ℕ) (alike : AreAlike s.threads ts) where
  abbrev twin : Core
  twin = with_threads ts cs q s

  abbrev p : Option ℕ
  p = s.queues.switch

  pub are_twins : AreTwinCores s twin
  are_twins = record { rest = refl; threads = alike }

  same_refusal : start_refusal s ≡ start_refusal twin
  unfolding start_refusal fits table_use
  same_refusal =
      ap (λ (z : ℕ). refusal s.trapped (nat_le (length s.groups + size s.calls + 2 * z + count_by (λ e. is_host_call e.1) s.works.list + size s.sets + 4) s.capacity))
      (same_size s.threads ts alike)

  start_alike : (c : Component) (k : ℕ) (e : Callee) (words : List ℕ) (o : Option Trap) → MainAlike p q (start_act c k e words s o) (start_act c k e words twin o)
  unfolding main_started put_high push_high call_made add_thread add_call add_group set_place on_thread set_trapped
  start_alike c k e words None =
      (refl, (record { rest = refl; threads = alike_change _ _ (alike_insert _ _ alike _ _) _ _ _ (λ t u e. refl) }, (refl, refl)))
  start_alike c k e words (Some t) = (refl, (record { rest = refl; threads = alike }, (refl, refl)))

  finish_alike : (k n : ℕ) (o : Option ℕ) → MainAlike p q (finish_result k n s o) (finish_result k n twin o)
  unfolding take_result
  finish_alike k n None = tt
  finish_alike k n (Some v) = (refl, (record { rest = refl; threads = alike }, (refl, refl)))

  unless_alike : (b : Bool) (l : MainLabel) → MainAlike p q (unless_pending b l s) (unless_pending b l twin)
  unless_alike true l = (refl, (are_twins, (refl, refl)))
  unless_alike false l = tt

  pub main_alike : (c : Component) (k : ℕ) (act : MainAct) → MainAlike p q (main_rule c k s act) (main_rule c k twin act)
  unfolding main_spawned open_spawned work_queued push_high add_work count_work main_aborted set_phase on_work has_interesting is_ready_for_call
  main_alike c k (Start e words) =
      subst (λ (o : Option Trap). MainAlike p q (start_act c k e words s (start_refusal s)) (start_act c k e words twin o)) same_refusal (start_alike c k e words (start_refusal s))
  main_alike c k (Finish (Began n)) = finish_alike k n (get s.results n)
  main_alike c k (Finish (Refused t)) = (refl, (are_twins, (refl, refl)))
  main_alike c k (Spawn h) = (refl, (record { rest = refl; threads = alike }, (refl, refl)))
  main_alike c k SpawnOpen = (refl, (record { rest = refl; threads = alike }, (refl, refl)))
  main_alike c k (Abort i) = (refl, (record { rest = refl; threads = alike }, (refl, refl)))
  main_alike c k (Await i) = unless_alike (is_complete (phase_of i s)) (main_label.Await k)
  main_alike c k Quiet = unless_alike (not (has_interesting s)) main_label.Quiet
  main_alike c k (Ready i) = unless_alike (is_ready_for_call i s) main_label.Ready
  main_alike c k (Answer v) = refl

  pub pends_alike : (i : ℕ) (host : HostDef) → KeepsTwins p q (poll_pends i host s) (poll_pends i host twin)
  unfolding poll_pends set_course on_work
  pends_alike i host = (record { rest = refl; threads = alike }, (refl, refl))

  pub fails_alike : KeepsTwins p q (set_trapped s) (set_trapped twin)
  unfolding set_trapped
  fails_alike = (record { rest = refl; threads = alike }, (refl, refl))

  freed_alike : (o : Option ℕ) → KeepsTwins p q (unblocked o s) (unblocked o twin)
  unfolding put_high push_high set_place on_thread
  freed_alike None = (are_twins, (refl, refl))
  freed_alike (Some n) = (record { rest = refl; threads = alike_change _ _ alike _ _ _ (λ t u e. refl) }, (refl, refl))

-- a work's record is written
abbrev written : ℕ → Option ℕ → Core → Core
written i v s = set_phase i phase.Complete (set_course i (course_for v) s)

module _ (s : Core) (ts : Records Thread) (cs : Records (List ℕ)) (q : Option ℕ) (alike : AreAlike s.threads ts) (i : ℕ) (v : Option ℕ) where
  abbrev other : Core
  other = with_threads ts cs q s

  sync_alike : KeepsTwins s.queues.switch q
      (unblocked (blocked_on (subtask.Host i) (written i v s)) (set_stage i stage.Ended (written i v s)))
      (unblocked (blocked_on (subtask.Host i) (written i v other)) (set_stage i stage.Ended (written i v other)))
  unfolding set_stage set_phase set_course on_work
  sync_alike =
      subst
      (λ (o : Option ℕ). KeepsTwins s.queues.switch q (unblocked (blocked_on (subtask.Host i) (written i v s)) (set_stage i stage.Ended (written i v s))) (unblocked o (set_stage i stage.Ended (written i v other))))
      (same_blocked (subtask.Host i) (written i v s) (written i v other) alike)
      (freed_alike (set_stage i stage.Ended (written i v s)) ts cs q alike (blocked_on (subtask.Host i) (written i v s)))

  followed_alike : (w : WorkCaller) → KeepsTwins s.queues.switch q (followed w i (written i v s)) (followed w i (written i v other))
  unfolding set_stage set_phase set_course on_work push_high
  followed_alike work_caller.Spawn = (record { rest = refl; threads = alike }, (refl, refl))
  followed_alike (work_caller.Async n r) = (record { rest = refl; threads = alike }, (refl, refl))
  followed_alike (work_caller.Sync n) = sync_alike

  pub ends_alike : KeepsTwins s.queues.switch q (poll_ends i v s) (poll_ends i v other)
  unfolding poll_ends
  ends_alike = followed_alike (work_caller_of i s)
