-- A call that is made, and its first thread.
use Rattle.std.specs.Prelude.{◌≡◌, ◌+◌, None, IsSome, slice_get}
use Rattle.machine_data.specs.declared.records.Goal.TheVariants as goal
use Rattle.machine_data.specs.declared.records.OpProgress.TheVariants as op_progress
use Rattle.machine_data.specs.declared.records.Join.TheVariants as join
use Rattle.machine_data.specs.declared.records.Place.TheVariants as place
use Rattle.core_records.specs.Image.{HasRoom, CoreImage}
use Rattle.core_records.specs.Names.{AtPlace, caller_target}
use Rattle.core_records.specs.declared.call_records.GuestTask.{GuestTask}
use Rattle.core_records.specs.declared.thread_records.GuestThread.{GuestThread}
use Rattle.task_table.specs.Changes.{next_place}
use Rattle.core_primitives.specs.Barred.{bars_start}

-- The next number is that of both. The thread is nowhere yet, and its instance is there, as are who called and room for a result
-- that goes to main.
pub record IsCallWithThread (p : CoreImage) (c : GuestTask) (g : GuestThread) : Type 0 where
  pub call_next : c.number ≡ p.made.threads + 1
  pub thread_next : g.number ≡ p.made.threads + 1
  pub first : g.thread.call ≡ c.number
  pub one : c.threads ≡ 1
  pub eventless : c.call.event ≡ None
  pub nowhere : c.call.join ≡ join.Nowhere
  pub unplaced : g.thread.place ≡ place.New
  pub fresh : g.thread.op_progress ≡ op_progress.Fresh
  pub task : g.task ≡ next_place p.calls
  pub first_at : c.first ≡ next_place p.threads
  pub instance : g.instance ≡ c.call.callee.instance
  pub barred : bars_start g.thread.explicit c.call.kind ≡ g.barred
  pub within : IsSome (slice_get p.instances g.instance)
  pub caller : AtPlace p c.maker (caller_target c.call.caller)
  pub room : c.call.goal ≡ goal.Main → HasRoom c.number p.results
