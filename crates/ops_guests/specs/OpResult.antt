-- What an op resulted in, against its rule.
use Rattle.std.specs.Prelude.{IsPermutation, List, Some, true, ℕ, ◌≡◌}
use Rattle.machine_data.specs.Core.{Core}
use Rattle.machine_data.specs.declared.statuses.HostPoll.{HostPoll}
use Rattle.machine_data.specs.declared.label.Label.{Label}
use Rattle.machine_rules.specs.Picks.{Preference, ShowsFirst, in_order}
use Rattle.machine_rules.specs.Step.{is_among}
use Rattle.machine_rules.specs.Progress.{Asks, Fails, Continues, Never, OneOf, Ordered, Progress, Stops, Traps}
use Rattle.task_table.specs.declared.id.TableId.{TableId}
use Rattle.task_wait.specs.declared.keys.ThreadKey.{ThreadKey}
use Rattle.core_primitives.specs.StateView.{StateView, thread_of}
use Rattle.ops_guests.specs.declared.op_result.OpResult.{OpResult}
use Rattle.ops_guests.specs.declared.op_result.OpResult.TheVariants as op_result
use Rattle.ops_guests.specs.Shown.{goes_as}

-- The op that began in s did what the rule says, and the core is t. A trap has changed nothing.
abbrev pub Implements : Progress → Core → OpResult → Core → Type 0
Implements (Continues l new m) s r t = (r ≡ goes_as l m) × (t ≡ new)
Implements (Stops l new) s r t = (r ≡ op_result.Stops l) × (t ≡ new)
Implements (Traps why) s r t = (r ≡ op_result.Traps why) × (t ≡ s)
Implements (Fails i) s r t = (r ≡ op_result.Fails i) × (t ≡ s)
Implements Never s r t = ⊥
Implements (Ordered ns next) s r t = (order : List ℕ) × (IsPermutation ns order × Implements (next order) s r t)
Implements (OneOf ns next) s r t = (m : ℕ) × ((is_among m ns ≡ true) × Implements (next m) s r t)
Implements (Asks next) s r t = (answer : HostPoll) × Implements (next answer) s r t

-- The op that began in s picked what comes first: its label shows it, and it released threads in that order.
pub record PicksFirst (p : Preference) (row : Progress) (l : Label) (s : Core) (r : OpResult) (t : Core) : Type 0 where
  pub shows : ShowsFirst p s l
  pub order : Implements (in_order p row) s r t

-- The thread that goes on is current.
abbrev pub IsCurrent : OpResult → StateView → Type 0
IsCurrent (op_result.Continues l m said) s = (id : TableId ThreadKey) × ((s.current ≡ Some id) × (thread_of s id ≡ m))
IsCurrent _ s = Unit {0}
