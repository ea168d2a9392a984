-- What holds of the parts of every core: how they represent the machine's records, and no more.
--     SoundTable         the records of one kind
--     bare               the parts without the fields of records on which nothing hangs
--     IsWhole            names, indexes, rows and kept numbers
use Rattle.std.specs.Prelude.{◌≡◌, ◌+◌, ◌<◌, ◌≤◌, ℕ, false, [], Option, None, Some, IfSome, IsSome, map, slice_get}
use Rattle.task_handles.specs.Handles.{no_handles}
use Rattle.table_lists.specs.Counts.{passing}
use Rattle.table_lists.specs.Index.{IsIndex, filings}
use Rattle.table_lists.specs.Rows.{Each, IsRows, part}
use Rattle.machine_data.specs.Core.{untouched}
use Rattle.machine_data.specs.Maps.{get}
use Rattle.machine_data.specs.Read.{live_in}
use Rattle.machine_data.specs.declared.records.Call.{Call}
use Rattle.machine_data.specs.declared.records.Course.TheVariants as course
use Rattle.machine_data.specs.declared.records.Goal.TheVariants as goal
use Rattle.machine_data.specs.declared.records.Script.TheVariants as script
use Rattle.machine_data.specs.declared.records.Thread.{Thread}
use Rattle.machine_data.specs.declared.records.Work.{Work}
use Rattle.machine_data.specs.declared.statuses.Phase.TheVariants as phase
use Rattle.core_records.specs.Groups.{AreEnded}
use Rattle.core_records.specs.Image.{HasRoom, CoreImage, core_of}
use Rattle.core_records.specs.CachedCounts.{AreKept, IsCallKept, IsGroupKept, IsSetKept}
use Rattle.core_records.specs.Keys.{call_key, group_key, set_key, thread_key, work_key}
use Rattle.core_records.specs.Kinds.{on_item}
use Rattle.core_records.specs.Names.{AreHandlesNamed, HasHome, IsCallNamed, IsWorkNamed, OwnsHandle, kinds}
use Rattle.core_records.specs.RecordPlaces.{Rises, live_chain, live_work, place_chain, place_filing, wait_chain, wait_filing, ready_call, ready_call_chain, ready_work, ready_work_chain}
use Rattle.core_records.specs.Rows.{HaveNodes, IsFollower, IsOfThread, IsKeyed, Low, callers_chain, callers_row, is_of_instance, row, row_chain, instance_queue_chain}
use Rattle.core_records.specs.declared.call_records.GuestTask.{GuestTask}
use Rattle.core_records.specs.declared.instance_records.InstanceRecord.{InstanceRecord}
use Rattle.core_records.specs.declared.single.Single.{Single}
use Rattle.core_records.specs.declared.thread_records.GuestThread.{GuestThread}
use Rattle.core_records.specs.declared.work_records.WorkRecord.{WorkRecord}
use Rattle.machine_rules.specs.Works.{is_moving}
use Rattle.core_primitives.specs.StateView.{nothing_wanted}
use Rattle.task_table.specs.Mapped.{mapped}
use Rattle.task_table.specs.Records.{AreApart, found_record}
use Rattle.task_table.specs.Table.{IsTable, Placed, Table, children_of, place_at}

-- The records of one kind: no number is twice, none is 0, and none is above those that were made.
pub record SoundTable {E X : Type 0} (key : E → Option (ℕ × X)) (t : Table E) (made : ℕ) : Type 0 where
  pub table : IsTable t
  pub childless : (rep : ℕ) → children_of t rep ≡ 0
  pub apart : AreApart key t.places
  pub above_zero : found_record key 0 t.places ≡ None
  pub later : (n : ℕ) → made < n → found_record key n t.places ≡ None

pub record AreTables (p : CoreImage) : Type 0 where
  pub threads : SoundTable thread_key p.threads p.made.threads
  pub calls : SoundTable call_key p.calls p.made.threads
  pub works : SoundTable work_key p.works p.made.works
  pub sets : SoundTable set_key p.sets p.made.sets
  pub groups : SoundTable group_key p.groups p.made.groups

-- a record without what nothing hangs on
abbrev pub loose_thread : Thread → Thread
loose_thread t = record t { position = 0; registers = []; script = script.Start; handle = None; saved_own = None; saved_callee = None }

abbrev pub bare_thread : GuestThread → GuestThread
bare_thread g = record g { thread = loose_thread g.thread }

-- of calls and works two fields are only counted
abbrev pub loose_call : Call → Call
loose_call c =
    record c {
      started = false;
      starting_published = false;
      «end» = None;
      task_event = None;
      cancel_asked = false;
      cancel_delivered = false;
      exited = false;
      result = None;
      handle = None;
      borrows = 0;
    }

abbrev pub uninterested : Call → Call
uninterested c = record c { interesting = false }

abbrev pub bare_call : GuestTask → GuestTask
bare_call g = record g { call = uninterested (loose_call g.call) }

abbrev pub loose_work : Work → Work
loose_work w = record w { cancelled = false; handle = None; borrows = 0 }

abbrev pub unmoved : Work → Work
unmoved w = record w { course = course.NoValue; phase = phase.Complete }

abbrev pub bare_work : WorkRecord → WorkRecord
bare_work w = record w { work = unmoved (loose_work w.work) }

abbrev pub bare_instance : InstanceRecord → InstanceRecord
bare_instance i = record i { instance = untouched; handles = no_handles; thread_handles = no_handles }

abbrev pub bare : CoreImage → CoreImage
bare p = record p {
  threads = mapped (on_item bare_thread) p.threads;
  calls = mapped (on_item bare_call) p.calls;
  works = mapped (on_item bare_work) p.works;
  instances = map bare_instance p.instances;
  kept = record p.kept { interesting = 0; moving = 0 };
  counter = record { limit = 0; live = 0 };
  current = None;
  wanted = nothing_wanted;
  ended = [];
  end_room = 0;
  arrivals = 0;
  trapped = false;
}

-- what holds of each entry of a table
abbrev pub EachEntry : {E : Type 0} → (E → Type 0) → Table (Single E) → Type 0
EachEntry {E} P t = (rep : ℕ) (q : Placed (Single E)) → place_at t rep ≡ Some q → P q.entry.item

-- Names: what a record names is where the record says.
pub record AreNamed (p : CoreImage) : Type 0 where
  pub threads : EachEntry (HasHome p) p.threads
  pub calls : EachEntry (IsCallNamed p) p.calls
  pub works : EachEntry (IsWorkNamed p) p.works
  pub switch : IfSome p.switch (IsFollower p)

-- Indexes and rows: each chain has just what the machine finds or keeps.
pub record AreChained (p : CoreImage) : Type 0 where
  pub places : IsIndex (place_chain p) p.places (filings (place_filing p.version) p.threads)
  pub waits : IsIndex (wait_chain p) p.waits (filings wait_filing p.threads)
  pub ready_calls : IsIndex (ready_call_chain p) p.ready_calls (filings ready_call p.calls)
  pub ready_works : IsIndex (ready_work_chain p) p.ready_works (filings ready_work p.works)
  pub polled : IsIndex (live_chain p) p.polled (filings live_work p.works)
  pub rising : Rises p.polled p.live
  pub marks : IsRows (row_chain p) (λ q. q.mark.index) (IsKeyed p) p.marks (row p)
  pub instance_queues : IsRows (instance_queue_chain p) (λ q. q.instance_queue.index) (IsKeyed p) p.instance_queues (part is_of_instance (row p))
  pub low : Each IsOfThread (row p Low)
  pub behind : IsRows (callers_chain p) (λ f. f.node.index) (IsFollower p) p.behind (callers_row p)

-- Nodes: each entry has those by which it may be in a row.
pub record HaveRowNodes (p : CoreImage) : Type 0 where
  pub marks : HaveNodes (λ (g : GuestThread). g.mark.index) p.threads p.marks
  pub instance_queues : HaveNodes (λ (g : GuestThread). g.instance_queue.index) p.threads p.instance_queues
  pub callers : HaveNodes (λ (g : GuestThread). g.caller.index) p.threads p.behind
  pub works : HaveNodes (λ (w : WorkRecord). w.mark.index) p.works p.marks
  pub apart : (r s : ℕ) (q : Placed (Single GuestThread)) (w : Placed (Single WorkRecord)) → place_at p.threads r ≡ Some q →
      place_at p.works s ≡ Some w → q.entry.item.mark.index ≡ w.entry.item.mark.index → ⊥

-- Kept numbers, the groups that the trap finished, the rows of a core that has instances or host works, and room for results.
pub record AreCounted (p : CoreImage) : Type 0 where
  pub kept : AreKept (core_of p) p.kept
  pub calls : EachEntry (IsCallKept (core_of p)) p.calls
  pub sets : EachEntry (IsSetKept (core_of p)) p.sets
  pub groups : EachEntry (IsGroupKept (core_of p)) p.groups
  pub few : p.capacity ≤ 4294967295
  pub finished : p.finished ≤ p.made.groups
  pub high : (p.instances ≡ [] → ⊥) → IsSome p.high
  pub low : (p.instances ≡ [] → ⊥) → IsSome p.low
  pub works : EachEntry (λ (w : WorkRecord). IsSome p.high × IsSome p.live) p.works
  pub results : (k : ℕ) (c : Call) → get (core_of p).calls k ≡ Some c → c.goal ≡ goal.Main → HasRoom k p.results

pub record IsWhole (p : CoreImage) : Type 0 where
  pub named : AreNamed p
  pub chained : AreChained p
  pub nodes : HaveRowNodes p
  pub counted : AreCounted p

pub record Sound (p : CoreImage) : Type 0 where
  pub tables : AreTables p
  pub whole : IsWhole (bare p)
  pub interesting : p.kept.interesting ≡ passing (λ c. c.interesting) (core_of p).calls
  pub moving : p.kept.moving ≡ passing is_moving (core_of p).works
  pub handles : (i : ℕ) (r : InstanceRecord) → slice_get p.instances i ≡ Some r → AreHandlesNamed (kinds (bare p)) r
  pub owned : EachEntry (OwnsHandle p) p.threads
  pub live : p.counter.live ≡ live_in (core_of p).handles + live_in (core_of p).thread_handles
  pub ended : AreEnded p.ended p.end_room (core_of p).groups p.made.groups
