-- The steps of a main that is no script, a lemma for each label that it may show: for the proof of a `MainTask` of one's own, too.
use Rattle.futures.specs.declared.task.Poll.{Poll}
use Rattle.futures.specs.declared.task.Poll.TheVariants.{Ready}
use Rattle.ops_state.specs.declared.error.TaskError.TheVariants as task_error
use Rattle.std.proofs.Common.{ap, arith, refl, subst, sym, ◌∙◌}
use Rattle.std.proofs.lemmas.Bool.Decides.{nat_tests}
use Rattle.std.specs.Option.{option_map_or}
use Rattle.std.specs.Prelude.{Bool, Err, IfSome, IsSome, List, None, Ok, Option, Some, [], false, is_some, length, not, slice_get, true, ℕ, ◌==◌, ◌≡◌}
use Rattle.ops_calls.specs.MainCalls.{Finishes, Starts}
use Rattle.task_loop.specs.LoopCalls.{TakesWords, callee_of}
use Rattle.task_loop.specs.declared.call.Func.{Func}
use Rattle.machine_data.specs.Core.{Began, Core, Unscripted}
use Rattle.machine_data.specs.Maps.{get}
use Rattle.machine_data.specs.Read.{phase_of}
use Rattle.machine_data.specs.Write.{take_result}
use Rattle.machine_data.specs.declared.component.Callee.{Callee}
use Rattle.machine_data.specs.declared.component.Component.{Component}
use Rattle.machine_data.specs.declared.component.ExportDef.{ExportDef}
use Rattle.machine_data.specs.declared.component.HostDef.{HostDef}
use Rattle.machine_data.specs.declared.component.HostDef.TheVariants as host_def
use Rattle.machine_data.specs.declared.component.InstanceDef.{InstanceDef}
use Rattle.machine_data.specs.declared.label.Label.TheVariants as label
use Rattle.machine_data.specs.declared.label.MainLabel.TheVariants as main_label
use Rattle.machine_data.specs.declared.records.Turn.TheVariants as turn
use Rattle.machine_data.specs.declared.records.WorkCaller.TheVariants as callers
use Rattle.machine_data.specs.declared.trap.Trap.{Trap}
use Rattle.machine_data.specs.declared.statuses.Phase.{Phase}
use Rattle.machine_data.specs.declared.statuses.Phase.TheVariants as phases
use Rattle.machine_rules.specs.MainOps as row
use Rattle.machine_rules.specs.MainOps.{finish_result, has_interesting, is_complete, is_ready_for_call, is_spawn, main_aborted, main_spawned, open_spawned, start_act, start_refusal, takes_words, unless_pending}
use Rattle.machine_rules.specs.Calls.{next_work, work_queued}
use Rattle.machine_rules.specs.Scripts.{export_at}
use Rattle.machine_rules.specs.Step.{OpenProgresses}
use Rattle.machine_rules.specs.Turns.{at_turn}
use Rattle.task_store.specs.Polls.{ready_if}
use Rattle.task_store.specs.Spawned.{poll_of_phase}
use Rattle.ops_turns.specs.Main.{Answers, Did}
use Rattle.ops_turns.specs.Turn.{running_of, state_at}
use Rattle.core_primitives.specs.StateView.{StateView}

-- ---- A start

takes_in : (n : ℕ) (o : Option ExportDef) → IsSome o → IfSome o (λ d. n ≡ d.params) → option_map_or (λ d. d.params == n) o false ≡ true
takes_in n None some h = absurd (cc)
takes_in n (Some d) some h = grind (arith, nat_tests, h)

pub takes_these : (c : Component) (f : Func) (n : ℕ) → TakesWords c f n → takes_words c (callee_of f) n ≡ true
takes_these c f n h = takes_in n (export_at c (callee_of f)) h.there h.takes

module _ (c : Component) (e : Callee) (words : List ℕ) (s t : StateView) (k : ℕ) where
  started_in : (o : Option Trap) (n : ℕ) → Starts c e words s o (Ok n) t
      → OpenProgresses (state_at s.core Unscripted turn.Main) (start_act c k e words s.core o) (label.Main (main_label.Start k n)) (state_at t.core Unscripted turn.Main)
  unfolding at_turn
  started_in None n h = (ap (λ i. label.Main (main_label.Start k i)) h.0, ap (λ (u : Core). state_at u Unscripted turn.Main) h.1.core)
  started_in (Some why) n h = absurd (let clash = h.0 in cc)

  refused_in : (o : Option Trap) (why : Trap) → Starts c e words s o (Err (task_error.Trap why)) t
      → OpenProgresses (state_at s.core Unscripted turn.Main) (start_act c k e words s.core o) (label.Main (main_label.StartRefused why k)) (state_at t.core Unscripted turn.Main)
  unfolding at_turn
  refused_in None why h = absurd (let clash = h.0 in cc)
  refused_in (Some other) why h =
      let is = h.0 in
      let same : why ≡ other = cc in
      (ap (λ w. label.Main (main_label.StartRefused w k)) same, ap (λ (u : Core). state_at u Unscripted turn.Main) h.1.core)

  pub did_start : takes_words c e (length words) ≡ true → (n : ℕ) → Starts c e words s (start_refusal s.core) (Ok n) t →
      Did c [] Unscripted s.core (label.Main (main_label.Start k n)) Unscripted t.core
  did_start takes n h = record { op = tt; step = (k, (row.Start e words, (takes, started_in (start_refusal s.core) n h))) }

  pub did_refuse : takes_words c e (length words) ≡ true → (why : Trap) → Starts c e words s (start_refusal s.core) (Err (task_error.Trap why)) t →
      Did c [] Unscripted s.core (label.Main (main_label.StartRefused why k)) Unscripted t.core
  did_refuse takes why h = record { op = tt; step = (k, (row.Start e words, (takes, refused_in (start_refusal s.core) why h))) }

-- ---- A finish

module _ (c : Component) (s t : StateView) where
  finished_in : (n k v : ℕ) → get s.core.results n ≡ Some v → Did c [] Unscripted s.core (label.Main (main_label.Finish k v)) Unscripted (take_result n s.core)
  unfolding at_turn
  finished_in n k v there = record {
    op = tt;
    step = (
      k,
      (
        row.Finish (Began n),
        (refl, subst (λ o. OpenProgresses (state_at s.core Unscripted turn.Main) (finish_result k n s.core o) (label.Main (main_label.Finish k v)) (state_at (take_result n s.core) Unscripted turn.Main)) (sym there) (refl, refl)),
      ),
    );
  }

  pub did_finish : (n k v : ℕ) → Finishes n s (Ready v) t → Did c [] Unscripted s.core (label.Main (main_label.Finish k v)) Unscripted t.core
  did_finish n k v h = subst (λ (u : StateView). Did c [] Unscripted s.core (label.Main (main_label.Finish k v)) Unscripted u.core) (sym h.1) (finished_in n k v h.0)

  pub finish_keeps : (n v : ℕ) → Finishes n s (Ready v) t → running_of t ≡ running_of s
  finish_keeps n v h = ap running_of h.1

-- ---- Works that main spawns

module _ (c : Component) (s : Core) where
  host_there : (o : Option HostDef) → IsSome o → is_some o ≡ true
  host_there None h = absurd (cc)
  host_there (Some d) h = refl

  pub did_spawn : (h k : ℕ) → IsSome (slice_get c.hosts h) → Did c [] Unscripted s (label.Main (main_label.Spawn k (next_work s))) Unscripted (main_spawned c h s)
  unfolding at_turn
  did_spawn h k there = record { op = tt; step = (k, (row.Spawn h, (host_there (slice_get c.hosts h) there, (refl, refl)))) }

  -- a work of its own, which is open
  pub did_spawn_open : (k : ℕ) → Did c [] Unscripted s (label.Main (main_label.Spawn k (next_work s))) Unscripted (open_spawned s)
  unfolding at_turn
  did_spawn_open k = record { op = tt; step = (k, (row.SpawnOpen, (refl, (refl, refl)))) }

  -- by what a call of the store says that spawned it
  pub did_spawn_own : (k i : ℕ) (d : HostDef) (t : Core) → d ≡ host_def.Open → i ≡ next_work s → t ≡ work_queued callers.Spawn d None s →
      Did c [] Unscripted s (label.Main (main_label.Spawn k i)) Unscripted t
  unfolding open_spawned
  did_spawn_own k i d t is_open number core =
      let is : t ≡ open_spawned s = core ∙ ap (λ (h : HostDef). work_queued callers.Spawn h None s) is_open in
      subst (λ (j : ℕ). Did c [] Unscripted s (label.Main (main_label.Spawn k j)) Unscripted t) (sym number)
      (subst (λ (u : Core). Did c [] Unscripted s (label.Main (main_label.Spawn k (next_work s))) Unscripted u) (sym is) (did_spawn_open k))

  pub did_abort : (i k : ℕ) → is_spawn i s ≡ true → Did c [] Unscripted s (label.Main (main_label.Abort (phase_of i s) k)) Unscripted (main_aborted i s)
  unfolding at_turn
  did_abort i k spawned = record { op = tt; step = (k, (row.Abort i, (spawned, (refl, refl)))) }

  pub did_await : (i k : ℕ) → is_spawn i s ≡ true → is_complete (phase_of i s) ≡ true → Did c [] Unscripted s (label.Main (main_label.Await k)) Unscripted s
  unfolding at_turn
  did_await i k spawned ended = record {
    op = tt;
    step = (
      k,
      (
        row.Await i,
        (
          spawned,
          subst (λ (b : Bool). OpenProgresses (state_at s Unscripted turn.Main) (unless_pending b (main_label.Await k) s) (label.Main (main_label.Await k)) (state_at s Unscripted turn.Main)) (sym ended) (refl, refl),
        ),
      ),
    );
  }

-- ---- The ops that change nothing

module _ (c : Component) (s : Core) where
  pub did_quiet : has_interesting s ≡ false → Did c [] Unscripted s (label.Main main_label.Quiet) Unscripted s
  unfolding at_turn
  did_quiet none = record {
    op = tt;
    step = (
      0,
      (
        row.Quiet,
        (refl, subst (λ (b : Bool). OpenProgresses (state_at s Unscripted turn.Main) (unless_pending (not b) main_label.Quiet s) (label.Main main_label.Quiet) (state_at s Unscripted turn.Main)) (sym none) (refl, refl)),
      ),
    );
  }

  there_in : (o : Option InstanceDef) → IsSome o → is_some o ≡ true
  there_in None h = absurd (cc)
  there_in (Some d) h = refl

  pub did_ready : (i : ℕ) → IsSome (slice_get c.instances i) → is_ready_for_call i s ≡ true → Did c [] Unscripted s (label.Main main_label.Ready) Unscripted s
  unfolding at_turn
  did_ready i there is = record {
    op = tt;
    step = (
      0,
      (
        row.Ready i,
        (
          there_in (slice_get c.instances i) there,
          subst (λ (b : Bool). OpenProgresses (state_at s Unscripted turn.Main) (unless_pending b main_label.Ready s) (label.Main main_label.Ready) (state_at s Unscripted turn.Main)) (sym is) (refl, refl),
        ),
      ),
    );
  }

  pub answers_now : (v : ℕ) → Answers c [] Unscripted s v Unscripted s
  unfolding at_turn
  answers_now v = record { part = refl; core = refl; step = (0, (row.Answer v, (refl, (refl, refl)))) }

-- ---- Polls that are ready

pub has_ended : (p : Phase) → ◌≡◌ {A = Poll (Unit {0})} (Ready tt) (poll_of_phase p) → is_complete p ≡ true
has_ended phases.Running h = absurd (cc)
has_ended phases.AbortRequested h = absurd (cc)
has_ended phases.Complete h = refl

pub is_ready : (b : Bool) → Ready tt ≡ ready_if b → b ≡ true
is_ready true h = refl
is_ready false h = absurd (cc)

pub is_quiet : (b : Bool) → Ready tt ≡ ready_if (not b) → b ≡ false
is_quiet true h = absurd (cc)
is_quiet false h = refl
