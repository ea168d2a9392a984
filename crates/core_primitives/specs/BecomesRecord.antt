-- What a primitive that makes or removes something results in.
use Rattle.std.specs.Prelude.{Err, Ok, Result, ℕ, ◌+◌, ◌≡◌}
use Rattle.task_table.specs.declared.id.TableId.{TableId}
use Rattle.task_wait.specs.declared.keys.GuestTaskKey.{GuestTaskKey}
use Rattle.task_wait.specs.declared.keys.HostTaskKey.{HostTaskKey}
use Rattle.task_wait.specs.declared.keys.SetKey.{SetKey}
use Rattle.task_wait.specs.declared.keys.ThreadKey.{ThreadKey}
use Rattle.machine_data.specs.Core.{Core}
use Rattle.core_primitives.specs.StateView.{Keeps, KeepsBut, KeepsWith, Lost, StateView, Tags, call_of, set_of, thread_of, work_of}

-- The core is this, the same thread runs, and the names of before are kept so.
pub record BecomesWith (AreKept : Tags → Tags → Type 0) (c : Core) (s t : StateView) : Type 0 where
  pub core : t.core ≡ c
  pub current : t.current ≡ s.current
  pub tags : AreKept s.tags t.tags

-- The core is this, the same thread runs, each id names what it named, and the same groups are tracked.
abbrev pub BecomesRecord : Core → StateView → StateView → Type 0
BecomesRecord = BecomesWith Keeps

-- The core is this, the same thread runs, each id names what it named, and a group more is tracked.
abbrev pub BecomesGrouped : Core → StateView → StateView → Type 0
BecomesGrouped c s = BecomesWith (KeepsWith (s.core.made.groups + 1)) c s

-- The core is this, the same thread runs, each id but those of what is lost names what it named, and the same groups are tracked.
abbrev pub BecomesBut : Lost → Core → StateView → StateView → Type 0
BecomesBut lost = BecomesWith (KeepsBut lost)

-- Something is made whose ids are named so, and the core is this; or it is out of memory, and all is as before.
abbrev pub MakesTo : {A E : Type 0} → (Tags → Tags → Type 0) → (A → StateView → Type 0) → Core → StateView → Result A E → StateView → Type 0
MakesTo AreKept IsNamed c s (Ok ids) t = IsNamed ids t × BecomesWith AreKept c s t
MakesTo AreKept IsNamed c s (Err _) t = t ≡ s

abbrev pub MakesRecord : {A E : Type 0} → (A → StateView → Type 0) → Core → StateView → Result A E → StateView → Type 0
MakesRecord = MakesTo Keeps

-- a record is made as above, and a group more is tracked
abbrev pub MakesGrouped : {A E : Type 0} → (A → StateView → Type 0) → Core → StateView → Result A E → StateView → Type 0
MakesGrouped IsNamed c s = MakesTo (KeepsWith (s.core.made.groups + 1)) IsNamed c s

-- The ids of a call and of its first thread, which have one number.
abbrev pub names_call : ℕ → TableId ThreadKey × TableId GuestTaskKey → StateView → Type 0
names_call n ids t = (thread_of t ids.0 ≡ n) × (call_of t ids.1 ≡ n)

abbrev pub names_thread : ℕ → TableId ThreadKey → StateView → Type 0
names_thread n id t = thread_of t id ≡ n

abbrev pub names_set : ℕ → TableId SetKey → StateView → Type 0
names_set x id t = set_of t id ≡ x

abbrev pub names_work : ℕ → TableId HostTaskKey → StateView → Type 0
names_work i id t = work_of t id ≡ i
