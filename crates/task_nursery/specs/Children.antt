-- What a nursery keeps of its children.
use Rattle.std.specs.Prelude.{Bool, None, Option, Some, false, is_some, true, unwrap_or, ℕ}
use Rattle.machine_data.specs.Core.{Core}
use Rattle.machine_data.specs.Maps.{get}
use Rattle.machine_data.specs.Read.{phase_of}
use Rattle.machine_data.specs.Write.{take_result}
use Rattle.task_nursery.specs.declared.children.Kept.{Kept}
use Rattle.task_nursery.specs.declared.children.Kept.TheVariants as kept
use Rattle.machine_rules.specs.MainOps.{is_complete, main_aborted}
use Rattle.task_store.specs.Spawned.{IsSpawnedIn}
use Rattle.core_primitives.specs.StateView.{StateView}

abbrev pub is_open_call : Kept → Bool
is_open_call (kept.Call f call) = true
is_open_call _ = false

abbrev pub is_open : Kept → Bool
is_open (kept.Call f call) = true
is_open (kept.Work work) = true
is_open _ = false

-- the value of a call that has ended
abbrev pub value_in : Kept → Option ℕ
value_in (kept.Returned v) = Some v
value_in _ = None

-- the thread of a call that is open
abbrev pub thread_in : Kept → Option ℕ
thread_in (kept.Call f call) = Some call.thread
thread_in _ = None

-- it is open, and has ended in the core: a call has a result there, a work is complete
abbrev pub has_ended : Core → Kept → Bool
has_ended s (kept.Call f call) = is_some (get s.results call.thread)
has_ended s (kept.Work work) = is_complete (phase_of work.number s)
has_ended s _ = false

-- how it is kept once it has ended
abbrev pub ended : Core → Kept → Kept
ended s (kept.Call f call) = kept.Returned (unwrap_or (get s.results call.thread) 0)
ended s (kept.Work work) = kept.Ended
ended s k = k

-- what its end leaves in the core: the result of a call is taken
abbrev pub left_by : Kept → Core → Core
left_by (kept.Call f call) s = take_result call.thread s
left_by _ s = s

-- what an abort of it leaves: a work that is open is asked to end
abbrev pub aborted_by : Kept → Core → Core
aborted_by (kept.Work work) s = main_aborted work.number s
aborted_by _ s = s

-- a work that is open was spawned in this state
abbrev pub WasSpawned : Kept → StateView → Type 0
WasSpawned (kept.Work work) s = IsSpawnedIn work s
WasSpawned _ s = Unit {0}
