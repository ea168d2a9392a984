use Rattle.std.proofs.Common.{ap, arith, refl, subst, sym, ◌∙◌}
use Rattle.std.specs.Prelude.{None, Option, Some, is_none, option_map, ◌<◌, ◌≡◌}
use Rattle.machine_data.specs.declared.records.Entry.{Entry}
use Rattle.machine_data.specs.declared.records.Subtask.TheVariants as subtask
use Rattle.machine_data.specs.declared.records.Why.TheVariants as why
use Rattle.machine_data.specs.declared.statuses.Mark.{Mark}
use Rattle.ops_moves.specs.Idle.{IsJoinThere}
use Rattle.machine_rules.specs.Places.{Placed}
use Rattle.ops_turns.proofs.WorkedLemmas.{worked_is}
use Rattle.ops_turns.specs.Worked.{tracked_entry_group}
use Rattle.ops_turns.proofs.SteppedLemmas.{host_makes, left_is, left_preference, left_why, made_room, next_is, of_full, of_made, push_makes, take_added}
use Rattle.ops_turns.proofs.TakenLemmas.{finds, host_joined, host_live, host_placed, taken}
use Rattle.ops_turns.proofs.takes.step_take.Goals as goal
use Rattle.machine_data.specs.Labels.{choice_of}
use Rattle.machine_data.specs.Read.{next_entry, place_of}
use Rattle.ops_guests.specs.Steps.{label_of}
use Rattle.ops_guests.specs.declared.op_result.OpResult.{OpResult}
use Rattle.machine_rules.specs.Progress.{Progress}
use Rattle.machine_rules.specs.Takes.{thread_taken}
use Rattle.machine_rules.specs.Picks.{Preference}
use Rattle.ops_guests.specs.OpResult.{PicksFirst}
use Rattle.ops_turns.specs.StepResult.{Added, is_made}
use Rattle.ops_turns.specs.Taken.{FindsSet, Taken}
use Rattle.ops_turns.specs.Turn.{Took}
use Rattle.core_primitives.specs.Names.{entry_in}
use Rattle.core_primitives.specs.StateView.{StateView, thread_of, with_current, work_of}
use Rattle.core_primitives.specs.declared.names.EntryId.{EntryId}
use Rattle.core_primitives.specs.declared.names.EntryId.TheVariants as entries

-- ---- A thread

pub step_thread-requires-clause-taken : goal.step_thread-requires-clause-taken
step_thread-requires-clause-taken g c =
    let v = g.W.View.view in
    let s = v c.args.w.now in
    let u = v c.take_next.new.self in
    let q = c.in-Some-default-Thread in
    let at = q.is ∙ ap (λ (e : EntryId). Some (q.mark, e)) q.field-0-1-is in
    let next = next_is s c.take_next.result q.mark (entries.Thread q.thread) c.take_next.ensures.next at in
    subst (λ (x : StateView). Taken q.mark (thread_of x q.thread) x.core) (sym (left_is s u c.take_next.result q.mark (entries.Thread q.thread) c.take_next.ensures.taken at))
    (taken c.args.component.now c.args.ended s.core c.requires.order c.none_is_zero.ensures.threads q.mark (thread_of s q.thread) next)

pub step_thread-requires-clause-finds : goal.step_thread-requires-clause-finds
step_thread-requires-clause-finds g c =
    let v = g.W.View.view in
    let s = v c.args.w.now in
    let u = v c.take_next.new.self in
    let q = c.in-Some-default-Thread in
    let at = q.is ∙ ap (λ (e : EntryId). Some (q.mark, e)) q.field-0-1-is in
    subst (λ (x : StateView). FindsSet (thread_of x q.thread) x.core) (sym (left_is s u c.take_next.result q.mark (entries.Thread q.thread) c.take_next.ensures.taken at))
    (finds c.args.component.now c.args.ended s.core c.requires.order q.mark (thread_of s q.thread))

pub returns-in-Some-default-Thread-clause-took : goal.returns-in-Some-default-Thread-clause-took
returns-in-Some-default-Thread-clause-took g c =
    let v = g.W.View.view in
    let s = v c.args.w.now in
    let u = v c.take_next.new.self in
    let q = c.in-Some-default-Thread in
    let at = q.is ∙ ap (λ (e : EntryId). Some (q.mark, e)) q.field-0-1-is in
    let next = next_is s c.take_next.result q.mark (entries.Thread q.thread) c.take_next.ensures.next at in
    let left = left_is s u c.take_next.result q.mark (entries.Thread q.thread) c.take_next.ensures.taken at in
    let t = v c.step_thread.new.w in
    let before = c.args.trace.now.labels in
    let after = c.step_thread.new.trace.labels in
    let row : OpResult → Progress = λ r. thread_taken q.mark (thread_of u q.thread) (choice_of (label_of (thread_of u q.thread) r)) u.core (place_of (thread_of u q.thread) u.core) in
    of_full c.step_thread.result (λ made. let h = c.step_thread.ensures.shown made in
    take_added c.args.component.now c.args.ended q.mark q.thread (thread_of s q.thread) s (with_current (Some q.thread) u) h.left t h.op_result c.step_thread.result before after
    (ap (λ (x : StateView). thread_of x q.thread) left) (ap (λ (x : StateView). x.core) left) next h.implements (subst (λ (f : Preference). PicksFirst f (row h.op_result) (label_of (thread_of u q.thread) h.op_result) u.core h.op_result h.left.core) (left_preference q.mark s u left) h.picks) h.stays h.shown) c.step_thread.ensures.full (λ same. same)

-- ---- A push

pub returns-in-Some-default-Push-clause-took : goal.returns-in-Some-default-Push-clause-took
returns-in-Some-default-Push-clause-took g c =
    let v = g.W.View.view in
    let s = v c.args.w.now in
    let u = v c.take_next.new.self in
    let q = c.in-Some-default-Push in
    let at = q.is ∙ ap (λ (e : EntryId). Some (q.mark, e)) q.field-0-1-is in
    let makes = push_makes c.args.component.now c.args.ended q.mark q.work s u (v c.step_push-made.new.w) c.step_push-made.result c.requires.current (left_is s u c.take_next.result q.mark (entries.Push q.work) c.take_next.ensures.taken at)
    (next_is s c.take_next.result q.mark (entries.Push q.work) c.take_next.ensures.next at) c.step_push-made.ensures.made c.step_push-made.ensures.new in
    let t = v c.step_push-made.new.w in
    let before = c.args.trace.now.labels in
    of_made {M = Added (λ step. Took c.args.component.now c.args.ended s (Some step) t) c.put.result before c.put.new.trace.labels} c.put.result c.put.ensures.made (c.step_push-made.result, (c.put.ensures.in_trace, makes))

-- ---- An ended host work

pub step_host-made-requires-clause-live : goal.step_host-made-requires-clause-live
step_host-made-requires-clause-live g c =
    let v = g.W.View.view in
    let s = v c.args.w.now in
    let u = v c.take_next.new.self in
    let q = c.in-Some-default-Host in
    let at = q.is ∙ ap (λ (e : EntryId). Some (q.mark, e)) q.field-0-1-is in
    let next = next_is s c.take_next.result q.mark (entries.Host q.work) c.take_next.ensures.next at in
    subst (λ (x : StateView). 0 < work_of x q.work) (sym (left_is s u c.take_next.result q.mark (entries.Host q.work) c.take_next.ensures.taken at))
    (host_live c.args.component.now c.args.ended s.core c.requires.order c.none_is_zero.ensures.works q.mark (work_of s q.work) next)

pub step_host-made-requires-clause-placed : goal.step_host-made-requires-clause-placed
step_host-made-requires-clause-placed g c =
    let v = g.W.View.view in
    let s = v c.args.w.now in
    let u = v c.take_next.new.self in
    let q = c.in-Some-default-Host in
    let at = q.is ∙ ap (λ (e : EntryId). Some (q.mark, e)) q.field-0-1-is in
    let next = next_is s c.take_next.result q.mark (entries.Host q.work) c.take_next.ensures.next at in
    subst (λ (x : StateView). Placed x.core) (sym (left_is s u c.take_next.result q.mark (entries.Host q.work) c.take_next.ensures.taken at))
    (host_placed c.args.component.now c.args.ended s.core c.requires.order c.none_is_zero.ensures.works q.mark (work_of s q.work) next)

pub step_host-made-requires-clause-there : goal.step_host-made-requires-clause-there
step_host-made-requires-clause-there g c =
    let v = g.W.View.view in
    let s = v c.args.w.now in
    let u = v c.take_next.new.self in
    let q = c.in-Some-default-Host in
    let at = q.is ∙ ap (λ (e : EntryId). Some (q.mark, e)) q.field-0-1-is in
    subst (λ (x : StateView). IsJoinThere (subtask.Host (work_of x q.work)) x.core) (sym (left_is s u c.take_next.result q.mark (entries.Host q.work) c.take_next.ensures.taken at))
    (host_joined c.args.component.now c.args.ended s.core c.requires.order c.none_is_zero.ensures.works q.mark (work_of s q.work))

pub returns-in-Some-default-Host-clause-took : goal.returns-in-Some-default-Host-clause-took
returns-in-Some-default-Host-clause-took g c =
    let v = g.W.View.view in
    let s = v c.args.w.now in
    let u = v c.take_next.new.self in
    let q = c.in-Some-default-Host in
    let at = q.is ∙ ap (λ (e : EntryId). Some (q.mark, e)) q.field-0-1-is in
    let makes = host_makes c.args.component.now c.args.ended q.mark q.work s u (v c.step_host-made.new.w) c.step_host-made.result c.requires.current (left_is s u c.take_next.result q.mark (entries.Host q.work) c.take_next.ensures.taken at)
    (next_is s c.take_next.result q.mark (entries.Host q.work) c.take_next.ensures.next at) c.step_host-made.ensures.picks c.step_host-made.ensures.current c.step_host-made.ensures.turn in
    let t = v c.step_host-made.new.w in
    let before = c.args.trace.now.labels in
    of_made {M = Added (λ step. Took c.args.component.now c.args.ended s (Some step) t) c.put-in-Some-default-Host.result before c.put-in-Some-default-Host.new.trace.labels} c.put-in-Some-default-Host.result c.put-in-Some-default-Host.ensures.made (c.step_host-made.result, (c.put-in-Some-default-Host.ensures.in_trace, makes))

-- ---- Nothing is there

pub returns-in-None-clause-took : goal.returns-in-None-clause-took
returns-in-None-clause-took g c =
    let v = g.W.View.view in
    let s = v c.args.w.now in
    let none : next_entry s.core ≡ None = sym c.take_next.ensures.next ∙ ap (option_map (λ (x : Mark × EntryId). (x.0, entry_in s.tags x.1))) c.in-None.is in
    let kept : v c.take_next.new.self ≡ s = c.take_next.ensures.none (ap is_none c.in-None.is) in
    record { made = λ e. absurd (cc); nothing = λ e. ((none, kept), refl); full = λ e. absurd (cc); failed = λ e. absurd (cc) }

-- ---- The group that is worked on

pub returns-in-None-clause-worked : goal.returns-in-None-clause-worked
returns-in-None-clause-worked g c =
    let s = g.W.View.view c.args.w.now in
    c.requires.unworked ∙ ap (λ (o : Option (Mark × Entry)). tracked_entry_group o s) (sym (ap (option_map (λ (x : Mark × EntryId). (x.0, entry_in s.tags x.1))) c.in-None.is) ∙ c.take_next.ensures.next)

pub returns-in-Some-default-Thread-clause-worked : goal.returns-in-Some-default-Thread-clause-worked
returns-in-Some-default-Thread-clause-worked g c =
    let s = g.W.View.view c.args.w.now in
    let q = c.in-Some-default-Thread in
    let at = q.is ∙ ap (λ (e : EntryId). Some (q.mark, e)) q.field-0-1-is in
    c.requires.unworked ∙ ap (λ (o : Option (Mark × Entry)). tracked_entry_group o s) (sym (next_is s c.take_next.result q.mark (entries.Thread q.thread) c.take_next.ensures.next at))

pub returns-in-Some-default-Push-clause-worked : goal.returns-in-Some-default-Push-clause-worked
returns-in-Some-default-Push-clause-worked g c =
    let s = g.W.View.view c.args.w.now in
    let q = c.in-Some-default-Push in
    let at = q.is ∙ ap (λ (e : EntryId). Some (q.mark, e)) q.field-0-1-is in
    c.requires.unworked ∙ ap (λ (o : Option (Mark × Entry)). tracked_entry_group o s) (sym (next_is s c.take_next.result q.mark (entries.Push q.work) c.take_next.ensures.next at))

pub returns-in-Some-default-Host-clause-worked : goal.returns-in-Some-default-Host-clause-worked
returns-in-Some-default-Host-clause-worked g c =
    let v = g.W.View.view in
    let s = v c.args.w.now in
    let u = v c.take_next.new.self in
    let q = c.in-Some-default-Host in
    let at = q.is ∙ ap (λ (e : EntryId). Some (q.mark, e)) q.field-0-1-is in
    c.work_group.ensures ∙ worked_is s u q.mark q.work (left_is s u c.take_next.result q.mark (entries.Host q.work) c.take_next.ensures.taken at) (next_is s c.take_next.result q.mark (entries.Host q.work) c.take_next.ensures.next at)

-- ---- It is out of memory

pub returns-in-None-clause-full : goal.returns-in-None-clause-full
returns-in-None-clause-full g c lacks = absurd (cc)

pub returns-in-Some-default-Thread-clause-full : goal.returns-in-Some-default-Thread-clause-full
returns-in-Some-default-Thread-clause-full g c lacks =
    let v = g.W.View.view in
    let s = v c.args.w.now in
    let u = v c.take_next.new.self in
    let q = c.in-Some-default-Thread in
    let at = q.is ∙ ap (λ (e : EntryId). Some (q.mark, e)) q.field-0-1-is in
    let next = next_is s c.take_next.result q.mark (entries.Thread q.thread) c.take_next.ensures.next at in
    let left = left_is s u c.take_next.result q.mark (entries.Thread q.thread) c.take_next.ensures.taken at in
    (q.mark, (thread_of s q.thread, (next, sym (left_why q.mark q.thread s u left) ∙ c.step_thread.ensures.wants (ap is_made lacks))))

pub returns-in-Some-default-Push-clause-full : goal.returns-in-Some-default-Push-clause-full
returns-in-Some-default-Push-clause-full g c lacks = absurd (made_room c.put.result c.put.ensures.made lacks)

pub returns-in-Some-default-Host-clause-full : goal.returns-in-Some-default-Host-clause-full
returns-in-Some-default-Host-clause-full g c lacks = absurd (made_room c.put-in-Some-default-Host.result c.put-in-Some-default-Host.ensures.made lacks)

-- ---- The room that is left

pub returns-in-None-clause-spare : goal.returns-in-None-clause-spare
returns-in-None-clause-spare g c = record { most = omega arith; unmade = λ unmade. refl }

pub returns-in-Some-default-Push-clause-spare : goal.returns-in-Some-default-Push-clause-spare
returns-in-Some-default-Push-clause-spare g c = record { most = omega (arith, c.put.ensures.spare); unmade = λ unmade. absurd (let no = sym c.put.ensures.made ∙ unmade in cc) }

pub returns-in-Some-default-Host-clause-spare : goal.returns-in-Some-default-Host-clause-spare
returns-in-Some-default-Host-clause-spare g c = record { most = omega (arith, c.put-in-Some-default-Host.ensures.spare); unmade = λ unmade. absurd (let no = sym c.put-in-Some-default-Host.ensures.made ∙ unmade in cc) }
