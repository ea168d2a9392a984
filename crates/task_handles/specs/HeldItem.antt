-- What the handles of a `HandleTable` represent.
use Rattle.std.specs.Prelude.{Bool, true, false, Option, Some, None, Result, Ok, Err}
use Rattle.task_handles.specs.declared.kinds.Rep.{Rep}
use Rattle.task_handles.specs.declared.kinds.HeldItem.{HeldItem}
use Rattle.task_handles.specs.declared.kinds.HandleKind.{HandleKind}
use Rattle.task_handles.specs.declared.kinds.HandleKind.TheVariants as handle
use Rattle.task_handles.specs.declared.kinds.WaitableKind.{WaitableKind}
use Rattle.task_handles.specs.declared.kinds.WaitableKind.TheVariants as waitable
use Rattle.task_handles.specs.declared.kinds.HandleError.{HandleError}
use Rattle.task_handles.specs.declared.kinds.HandleError.TheVariants.{BadHandle}

-- a guest subtask with this rep
abbrev pub guest_subtask : Rep → HeldItem
guest_subtask rep = record { kind = handle.Waitable waitable.GuestSubtask; rep = rep }

-- a host subtask with this rep
abbrev pub host_subtask : Rep → HeldItem
host_subtask rep = record { kind = handle.Waitable waitable.HostSubtask; rep = rep }

-- a waitable set with this rep
abbrev pub waitable_set : Rep → HeldItem
waitable_set rep = record { kind = handle.Set; rep = rep }

abbrev pub subtask_in : HandleKind → Rep → Result (Rep × Bool) HandleError
subtask_in (handle.Waitable waitable.GuestSubtask) rep = Ok (rep, false)
subtask_in (handle.Waitable waitable.HostSubtask) rep = Ok (rep, true)
subtask_in (handle.Waitable waitable.Stream) rep = Err BadHandle
subtask_in (handle.Waitable waitable.Future) rep = Err BadHandle
subtask_in handle.Set rep = Err BadHandle

-- the subtask that a handle refers to, and whether it is a host's; anything else is a bad handle
abbrev pub subtask_of : Option HeldItem → Result (Rep × Bool) HandleError
subtask_of None = Err BadHandle
subtask_of (Some held) = subtask_in held.kind held.rep

abbrev pub waitable_in : HandleKind → Rep → Result (Rep × WaitableKind) HandleError
waitable_in (handle.Waitable kind) rep = Ok (rep, kind)
waitable_in handle.Set rep = Err BadHandle

-- the waitable that a handle refers to, and its kind; anything else is a bad handle
abbrev pub waitable_of : Option HeldItem → Result (Rep × WaitableKind) HandleError
waitable_of None = Err BadHandle
waitable_of (Some held) = waitable_in held.kind held.rep

abbrev pub set_in : HandleKind → Rep → Result Rep HandleError
set_in (handle.Waitable _) rep = Err BadHandle
set_in handle.Set rep = Ok rep

-- the waitable set that a handle refers to; anything else is a bad handle
abbrev pub set_of : Option HeldItem → Result Rep HandleError
set_of None = Err BadHandle
set_of (Some held) = set_in held.kind held.rep

-- the thread that a handle refers to; a handle that isn't live is a bad one
abbrev pub thread_of : Option Rep → Result Rep HandleError
thread_of None = Err BadHandle
thread_of (Some rep) = Ok rep
