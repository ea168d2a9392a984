-- The last round of a run beside aborters.
use Rattle.laws_beside.specs.Courses.{InRound, Own, polled_label}
use Rattle.laws_beside.specs.Own.{if_same}
use Rattle.laws_beside.specs.Wide.{Made, Wide, is_running_spawn, next_spawn}
use Rattle.beside_main.specs.Calls.{Adds, Follows, finish_if}
use Rattle.beside_main.specs.Cells.{KeepsCells}
use Rattle.beside_main.specs.Course.{Able, course, gated_says, place}
use Rattle.beside_main.specs.declared.run.BesideRun.{BesideRun}
use Rattle.std.specs.Prelude.{Bool, List, None, Some, [], cond, false, true, ℕ, ◌+◌, ◌++◌, ◌∷◌, ◌≡◌}
use Rattle.task_loop.specs.HasRun.{state}
use Rattle.machine_data.specs.declared.component.Component.{Component}
use Rattle.machine_data.specs.declared.records.Turn.TheVariants as turn
use Rattle.machine_rules.specs.MainOps.{spawned_at}
use Rattle.machine_rules.specs.Stalled.{Setting}
use Rattle.machine_rules.specs.Works.{next_polled, poll_ends}
use Rattle.task_abort.specs.declared.log.PhaseCall.TheVariants.{PollFuture}
use Rattle.task_run.specs.Script.{place_of}

-- The work was polled: it pends, or ends without a value, if another thread's abort was found; then main's turn comes next.
pub record Polled {E : Type 0} (c : Component) (i : ℕ) (found : Bool) (a b : BesideRun E) : Type 0 where
  pub able : Able c b
  pub cells : KeepsCells a.cells.list.items b.cells.list.items
  pub main : b.main ≡ a.main
  pub idle : b.run.trap_on_idle ≡ a.run.trap_on_idle
  pub concurrent : b.store.concurrent ≡ a.store.concurrent
  pub left : b.left + 1 ≡ a.left
  pub trace : b.trace ≡ a.trace ++ polled_label found i ∷ []
  pub turn : (place b).turn ≡ cond found turn.Main (place a).turn
  pub core : b.store.state.core ≡ cond found (poll_ends i None a.store.state.core) a.store.state.core
  pub running : found ≡ true → is_running_spawn i a.store.state.core ≡ true
  pub calls : Adds (λ k. if_same i (spawned_at (place_of a.main.script) k) (PollFuture ∷ finish_if found)) 1 a.cells.list.items
      b.cells.list.items

-- so was the live work that is next past those up to `polled`
abbrev pub PolledNext : {E : Type 0} → Component → ℕ → (a b : BesideRun E) → Type 0
PolledNext c polled a b =
    (i : ℕ) × ((found : Bool) × ((next_polled polled a.store.state.core ≡ Some i) × Polled c i found a b))

-- The round is under way, and it is main's turn next if an abort was found.
pub record Going {E : Type 0} (c : Component) (x : Setting) (w : Wide) (n : ℕ) (found : Bool) (steps : ℕ) (own : Own)
    (a : BesideRun E) : Type 0 where
  pub round : InRound x w n found steps a.left own a.trace (state gated_says course c (place a))
  pub turn : (place a).turn ≡ cond found turn.Main (turn.Take false)

-- The round was made, or was cut where no step was left.
pub record RoundMade {E : Type 0} (c : Component) (done : Bool) (a b : BesideRun E) : Type 0 where
  pub able : Able c b
  pub cells : KeepsCells a.cells.list.items b.cells.list.items
  pub main : b.main ≡ a.main
  pub idle : b.run.trap_on_idle ≡ a.run.trap_on_idle
  pub concurrent : b.store.concurrent ≡ a.store.concurrent
  pub cut : done ≡ false → b.left ≡ 0
  pub on : (x : Setting) (w : Wide) (steps : ℕ) (own : Own) → Going c x w 0 false steps own a →
      (n : ℕ) × ((found : Bool) × ((after : Own) × (Going c x w n found steps after b
      × ((done ≡ true → next_spawn n b.store.state.core ≡ None)
      × ((done ≡ false → (i : ℕ) × (next_spawn n b.store.state.core ≡ Some i))
      × Follows Made own after a.cells.list.items b.cells.list.items)))))
