-- The kinds of what handles are given to.
use Rattle.task_handles.specs.declared.kinds.HandleKind.{HandleKind}
use Rattle.task_handles.specs.declared.kinds.HandleKind.TheVariants as handle
use Rattle.task_handles.specs.declared.kinds.WaitableKind.TheVariants as waitable

-- A subtask or a set.
abbrev pub IsHandleKind : HandleKind → Type 0
IsHandleKind (handle.Waitable waitable.Stream) = ⊥
IsHandleKind (handle.Waitable waitable.Future) = ⊥
IsHandleKind _ = Unit {0}
