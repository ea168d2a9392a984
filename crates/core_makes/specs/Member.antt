-- A thread that is made for a call that is there.
use Rattle.std.specs.Prelude.{◌≡◌, ◌+◌, ℕ, IsSome, slice_get}
use Rattle.machine_data.specs.declared.records.OpProgress.TheVariants as op_progress
use Rattle.machine_data.specs.declared.records.Place.TheVariants as place
use Rattle.core_records.specs.Image.{CoreImage}
use Rattle.core_records.specs.declared.call_records.GuestTask.{GuestTask}
use Rattle.core_records.specs.declared.thread_records.GuestThread.{GuestThread}
use Rattle.core_primitives.specs.Barred.{bars_start}

-- It has the next number, is nowhere yet, and is of the call at the place, in an instance that is there.
pub record IsMember (p : CoreImage) (c : GuestTask) (rep : ℕ) (g : GuestThread) : Type 0 where
  pub next : g.number ≡ p.made.threads + 1
  pub of_call : g.thread.call ≡ c.number
  pub unplaced : g.thread.place ≡ place.New
  pub fresh : g.thread.op_progress ≡ op_progress.Fresh
  pub task : g.task ≡ rep
  pub instance : g.instance ≡ c.call.callee.instance
  pub barred : bars_start g.thread.explicit c.call.kind ≡ g.barred
  pub within : IsSome (slice_get p.instances g.instance)
