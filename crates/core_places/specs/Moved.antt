-- What is written where a thread gets another place, or a subtask another event or set: the record but for these, and what a set counts.
use Rattle.std.specs.Prelude.{◌≡◌, ℕ, Bool, if◌then◌else◌, List, Option, Some, None, Result, Ok, Err, slice_set}
use Rattle.machine_data.specs.Core.{Core}
use Rattle.machine_data.specs.declared.records.Call.{Call}
use Rattle.machine_data.specs.declared.records.Delivery.TheVariants as delivery
use Rattle.machine_data.specs.declared.records.OpProgress.{OpProgress}
use Rattle.machine_data.specs.declared.records.OpProgress.TheVariants as op_progress
use Rattle.machine_data.specs.declared.records.Join.{Join}
use Rattle.machine_data.specs.declared.records.Join.TheVariants as join
use Rattle.machine_data.specs.declared.records.Place.{Place}
use Rattle.machine_data.specs.declared.records.Place.TheVariants as place
use Rattle.machine_data.specs.Moves.{held_why_of}
use Rattle.machine_data.specs.Read.{is_stage_live}
use Rattle.machine_data.specs.Write.{on_thread, set_place}
use Rattle.machine_data.specs.declared.records.Stage.{Stage}
use Rattle.machine_data.specs.declared.records.Stage.TheVariants as stage
use Rattle.machine_data.specs.declared.records.Script.TheVariants as script
use Rattle.machine_data.specs.declared.records.Thread.{Thread}
use Rattle.machine_data.specs.declared.records.Why.{Why}
use Rattle.machine_data.specs.declared.records.Work.{Work}
use Rattle.machine_data.specs.declared.records.Why.TheVariants as why
use Rattle.core_records.specs.Kinds.{entry_of, item_of, on_item}
use Rattle.core_records.specs.RecordPlaces.{where_at}
use Rattle.core_records.specs.declared.call_records.GuestTask.{GuestTask}
use Rattle.core_records.specs.declared.set_records.WaitSet.{WaitSet}
use Rattle.core_records.specs.declared.single.Single.{Single}
use Rattle.core_records.specs.declared.thread_records.GuestThread.{GuestThread}
use Rattle.core_records.specs.declared.work_records.WorkRecord.{WorkRecord}
use Rattle.task_table.specs.TableAnswers.{item_at}
use Rattle.task_table.specs.Changes.{with_entry}
use Rattle.task_table.specs.Mapped.{mapped}
use Rattle.task_table.specs.Table.{Table}
use Rattle.task_table.specs.declared.error.ResourceTableError.{ResourceTableError}
use Rattle.core_primitives.specs.Live.{delivered_set, kept_in}
use Rattle.core_primitives.specs.Names.{op_progress_in}
use Rattle.core_primitives.specs.StateView.{StateView, on_core, thread_of}
use Rattle.core_primitives.specs.declared.names.OpProgressId.{OpProgressId}
use Rattle.core_records.specs.declared.parts.CoreParts.{CoreParts}
use Rattle.table_links.specs.Links.{removed}
use Rattle.task_table.specs.declared.id.TableId.{TableId}
use Rattle.task_wait.specs.declared.keys.ThreadKey.{ThreadKey}

abbrev pub still : Thread → Thread
still t = record t { place = place.New; op_progress = op_progress.Fresh; came = 0 }

-- a thread without where it is, since when, and how far it has come
abbrev pub still_thread : GuestThread → GuestThread
still_thread g = record g { thread = still g.thread; state_target = 0; op_target = 0 }

-- a set without the numbers of its entries and of its members
abbrev pub uncounted : WaitSet → WaitSet
uncounted x = record x { entries = 0; members = 0 }

-- The tables have the same entries at the same places, as far as the function sees.
abbrev pub Alike : {T : Type 0} → (T → T) → Table (Single T) → Table (Single T) → Type 0
Alike f new old = mapped (on_item f) new ≡ mapped (on_item f) old

-- the set for which a thread at this place that has come so far has an entry, or on which it waits
abbrev pub resumed_set : OpProgress → Option ℕ
resumed_set (op_progress.Waits x) = Some x
resumed_set _ = None

abbrev pub queued_set : Why → OpProgress → Option ℕ
queued_set (why.Delivery (delivery.Set x)) h = Some x
queued_set why.Resumption h = resumed_set h
queued_set _ h = None

abbrev pub entry_set : Place → OpProgress → Option ℕ
entry_set (place.Waiting x by_callback) h = Some x
entry_set (place.Ready m w) h = queued_set w h
entry_set (place.Held w) h = delivered_set w
entry_set _ h = None

-- a thread at this place is in no chain, and no set counts it however far it has come
abbrev pub StandsAlone : Place → Type 0
StandsAlone p = ((h : OpProgress) → entry_set p h ≡ None) × ((i : ℕ) (b : Bool) → where_at i b p ≡ None)

abbrev pub rewritten_by : (WaitSet → WaitSet) → ℕ → Result WaitSet ResourceTableError → Table (Single WaitSet) → Table (Single WaitSet)
rewritten_by f rep (Ok x) t = with_entry rep (entry_of (f x)) t
rewritten_by f rep (Err e) t = t

-- the set that the id names, if it names one, is written
abbrev pub rewritten : (WaitSet → WaitSet) → ℕ → ℕ → Table (Single WaitSet) → Table (Single WaitSet)
rewritten f rep serial t = rewritten_by f rep (item_at item_of t rep serial) t

-- it has another number of entries
abbrev pub recounted : (ℕ → ℕ) → ℕ → ℕ → Table (Single WaitSet) → Table (Single WaitSet)
recounted f = rewritten (λ x. record x { entries = f x.entries })

-- it has another number of members
abbrev pub rejoined : (ℕ → ℕ) → ℕ → ℕ → Table (Single WaitSet) → Table (Single WaitSet)
rejoined f = rewritten (λ x. record x { members = f x.members })

-- the number of a set that is there, 0 if there is none
abbrev pub set_named : Option ℕ → Core → ℕ
set_named None s = 0
set_named (Some x) s = kept_in s.sets x

-- the set that something is in
abbrev pub joined_set : Join → Option ℕ
joined_set (join.Set x) = Some x
joined_set _ = None

-- a call without its event and its set
abbrev pub quiet_call : Call → Call
quiet_call c = record c { event = None; join = join.Nowhere }

abbrev pub still_call : GuestTask → GuestTask
still_call g = record g { call = quiet_call g.call; joined = 0 }

-- a host work without its event, its set and its stage
abbrev pub quiet_work : Work → Work
quiet_work w = record w { event = None; join = join.Nowhere; stage = stage.Ended }

abbrev pub still_work : WorkRecord → WorkRecord
still_work w = record w { work = quiet_work w.work; joined = 0 }

-- whether a work of the stage is in the list of the live works
abbrev pub live_key : Stage → Option (Unit {0})
live_key x = if is_stage_live x then Some tt else None

-- a thread at another place, and the index of the record that this place names
abbrev pub placed : GuestThread → Place → ℕ → GuestThread
placed g p state_target = record g { thread = record g.thread { place = p }; state_target = state_target }

-- a thread with another op progress, and the index of the record that this names
abbrev pub arrived : GuestThread → OpProgress → ℕ → GuestThread
arrived g h op_target = record g { thread = record g.thread { op_progress = h }; op_target = op_target }

-- a thread at another place, with another op progress
abbrev pub to_stand : Place → OpProgress → Thread → Thread
to_stand p h t = record t { place = p; op_progress = h }

abbrev pub standing : GuestThread → Place → (state_target : ℕ) → OpProgress → (op_target : ℕ) → GuestThread
standing g p state_target h op_target = record g { thread = to_stand p h g.thread; state_target = state_target; op_target = op_target }

-- a thread with these registers
abbrev pub with_registers : (registers : List ℕ) → Thread → Thread
with_registers rs t = record t { registers = rs }

-- a thread that is about to begin the op at this position
abbrev pub to_op : (position : ℕ) → Thread → Thread
to_op p t = record t { position = p; op_progress = op_progress.Fresh }

abbrev pub at_op : GuestThread → (position : ℕ) → GuestThread
at_op g p = record g { thread = to_op p g.thread; op_target = 0 }

-- a thread that is about to begin the op at this position, with an answer in a register
abbrev pub to_answer : (register : ℕ) → (value : ℕ) → (position : ℕ) → Thread → Thread
to_answer r v p t = record t { registers = slice_set t.registers r v; position = p; op_progress = op_progress.Fresh }

abbrev pub at_answer : GuestThread → (register : ℕ) → (value : ℕ) → (position : ℕ) → GuestThread
at_answer g r v p = record g { thread = to_answer r v p g.thread; op_target = 0 }

-- a thread that begins an activation, with these values in r0, r1 and r2
abbrev pub to_begun : (code : ℕ) → (handle : ℕ) → (status : ℕ) → Thread → Thread
to_begun code handle status t =
    record t {
      registers = slice_set (slice_set (slice_set t.registers 0 code) 1 handle) 2 status;
      script = script.React;
      position = 0;
      op_progress = op_progress.Fresh;
      place = place.Running;
    }

abbrev pub begun : GuestThread → (code : ℕ) → (handle : ℕ) → (status : ℕ) → GuestThread
begun g code handle status = record g { thread = to_begun code handle status g.thread; state_target = 0; op_target = 0 }

-- The record of the thread that the id names, if it names one, is what this makes of it.
abbrev pub WritesThread : (GuestThread → GuestThread) → TableId ThreadKey → (old new : Table (Single GuestThread)) → Type 0
WritesThread change id old new =
    (g : GuestThread) → Ok g ≡ item_at item_of old id.rep id.serial → new ≡ with_entry id.rep (entry_of (change g)) old

-- the thread at this place
abbrev pub placed_at : TableId ThreadKey → Place → StateView → StateView
placed_at id at s = on_core (set_place (thread_of s id) at) s

-- at this place, and its op got this far
abbrev pub stood_at : TableId ThreadKey → Place → OpProgressId → StateView → StateView
stood_at id at progress s = on_core (on_thread (thread_of s id) (to_stand at (op_progress_in s.tags progress))) s

-- A thread that is held becomes this for what it is held for.
abbrev pub RaisesHeld : (ℕ → Why → Core → Core) → (n : ℕ) → (old new : StateView) → Type 0
RaisesHeld change n s t = (w : Why) → held_why_of n s.core ≡ Some w → t ≡ on_core (change n w) s

-- The node of the thread that the id names, if it names one, is in no chain of places any more.
abbrev pub LeavesChain : TableId ThreadKey → (old new : CoreParts) → Type 0
LeavesChain id a b = (g : GuestThread) → Ok g ≡ item_at item_of a.threads id.rep id.serial → b.places ≡ removed g.node.index a.places
