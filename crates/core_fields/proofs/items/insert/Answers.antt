use Rattle.core_fields.proofs.items.insert.Goals as goal
use Rattle.core_fields.proofs.items.insert.Goals.{in-Waitable-GuestSubtask, in-Waitable-HostSubtask, in-Set}
use Rattle.core_records.proofs.Core.{Counter, HandleError, Handles, HeldItem, Result, ap, subst, sym, ℕ, ◌∙◌}
use Rattle.std.specs.Prelude.{IfOk, Ok, ◌≡◌}
use Rattle.task_handles.specs.Counted.{Inserts}
use Rattle.task_handles.specs.declared.kinds.HandleKind.TheVariants as handle
use Rattle.task_handles.specs.declared.kinds.HandleKind.{HandleKind}
use Rattle.task_handles.specs.declared.kinds.WaitableKind.TheVariants as waitable

-- what was given is for this item, since the item is of this kind
given : (a : HeldItem) (k : HandleKind) (old new : Handles HeldItem) (before after : Counter) (r : Result ℕ HandleError) (h : ℕ) → a.kind ≡ k → r ≡ Ok h →
    IfOk r (λ (g : ℕ). Inserts (record { kind = k; rep = a.rep }) old new before after g) → Inserts a old new before after h
given a k old new before after r h is told ok =
    subst (λ (x : HandleKind). Inserts (record { kind = x; rep = a.rep }) old new before after h) (sym is)
    (subst (λ (q : Result ℕ HandleError). IfOk q (λ (g : ℕ). Inserts (record { kind = k; rep = a.rep }) old new before after g)) told ok)

pub returns-in-Ok-clause-ok : goal.returns-in-Ok-clause-ok
returns-in-Ok-clause-ok c =
    elim c.match-item.branch [
      | in-Waitable-GuestSubtask w ↦
          let kind : w.in-Waitable-GuestSubtask.field-0 ≡ waitable.GuestSubtask = rw w.in-Waitable-GuestSubtask.is at w.in-Waitable-GuestSubtask.field-0-is in
          rw (w.handles-is, w.counter-is) (given c.args.item (handle.Waitable waitable.GuestSubtask) c.args.handles.now w.subtask_insert_guest-handle.new.self c.args.counter.now
          w.subtask_insert_guest-handle.new.counter w.subtask_insert_guest-handle.result c.in-Ok.handle (w.in-Waitable-GuestSubtask.is ∙ ap handle.Waitable kind) (sym w.handle-is ∙ c.in-Ok.is) w.subtask_insert_guest-handle.ensures.ok)
      | in-Waitable-HostSubtask w ↦
          let kind : w.in-Waitable-HostSubtask.field-0 ≡ waitable.HostSubtask = rw w.in-Waitable-HostSubtask.is at w.in-Waitable-HostSubtask.field-0-is in
          rw (w.handles-is, w.counter-is) (given c.args.item (handle.Waitable waitable.HostSubtask) c.args.handles.now w.subtask_insert_host-handle.new.self c.args.counter.now
          w.subtask_insert_host-handle.new.counter w.subtask_insert_host-handle.result c.in-Ok.handle (w.in-Waitable-HostSubtask.is ∙ ap handle.Waitable kind) (sym w.handle-is ∙ c.in-Ok.is) w.subtask_insert_host-handle.ensures.ok)
      | in-Set w ↦
          rw (w.handles-is, w.counter-is) (given c.args.item handle.Set c.args.handles.now w.waitable_set_insert-handle.new.self c.args.counter.now
          w.waitable_set_insert-handle.new.counter w.waitable_set_insert-handle.result c.in-Ok.handle w.in-Set.is (sym w.handle-is ∙ c.in-Ok.is) w.waitable_set_insert-handle.ensures.ok)
    ]
