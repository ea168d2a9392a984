-- A thread's context, its place in its script and its registers, and the beginning of an activation.
use Rattle.std.specs.Prelude.{ℕ, List, true}
use Rattle.machine_data.specs.Core.{Core}
use Rattle.machine_data.specs.Write.{on_thread, set_do_not_enter, set_place, set_script}
use Rattle.machine_data.specs.declared.records.OpProgress.TheVariants as op_progress
use Rattle.machine_data.specs.declared.records.Place.TheVariants as place
use Rattle.machine_data.specs.declared.records.Script.TheVariants as script
use Rattle.machine_data.specs.declared.statuses.Given.{Given}
use Rattle.machine_rules.specs.Data.{moved_to}
use Rattle.machine_rules.specs.Sets.{set_given}

-- the thread n is about to begin the op at this place of its script, with these registers
unfoldable pub with_context : ℕ → (position : ℕ) → (registers : List ℕ) → Core → Core
with_context n p rs = on_thread n (λ t. record t { position = p; registers = rs; op_progress = op_progress.Fresh })

-- the thread n of the instance is given v in r0, r1 and r2, and runs the react script from its start
unfoldable pub activating : ℕ → (instance : ℕ) → Given → Core → Core
activating n i v s = set_place n place.Running (moved_to n 0 (set_script n script.React (set_do_not_enter i true (set_given n 0 v s))))
