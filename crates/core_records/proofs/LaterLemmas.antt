-- Where more were made, what holds of the parts holds on.
use Rattle.core_records.proofs.Core.{AreHandlesNamed, AreKept, arith, AtPlace, Call, CallOf, core_of, get, Goal, HandleKind, HasHome, HasRoom, IsCallNamed, IsHeldNamed, IsNamedAt, IsWhole, IsWorkNamed, Kinds, kinds, List, MadeCounts, Nothing, CoreImage, Rep, SetOf, Some, table_use, Target, ThreadOf, WaitableKind, WorkOf, ℕ, ◌≡◌, ◌≤◌}
use Rattle.core_records.specs.declared.rooms.ResultRoom.{ResultRoom}
use Rattle.core_records.specs.declared.{call_records.GuestTask.GuestTask, instance_records.InstanceRecord.InstanceRecord, parts.CachedCounts.CachedCounts, thread_records.GuestThread.GuestThread, work_records.WorkRecord.WorkRecord}

-- At least as many were made.
pub record IsLater (m n : MadeCounts) : Type 0 where
  pub threads : m.threads ≤ n.threads
  pub works : m.works ≤ n.works
  pub sets : m.sets ≤ n.sets
  pub groups : m.groups ≤ n.groups

module _ (k : Kinds) (n : MadeCounts) (later : IsLater k.made n) where
  pub named_later : (rep : ℕ) (t : Target) → IsNamedAt k rep t → IsNamedAt (record k { made = n }) rep t
  named_later rep Nothing at = tt
  named_later rep (ThreadOf m) at = (let more = later.threads in let few = at.0 in omega arith, at.1)
  named_later rep (CallOf m) at = (let more = later.threads in let few = at.0 in omega arith, at.1)
  named_later rep (WorkOf m) at = (let more = later.works in let few = at.0 in omega arith, at.1)
  named_later rep (SetOf m) at = (let more = later.sets in let few = at.0 in omega arith, at.1)

  held_later : (h : HandleKind) (r : Rep) → IsHeldNamed k h r → IsHeldNamed (record k { made = n }) h r
  held_later (HandleKind.Waitable WaitableKind.GuestSubtask) r is = named_later r.id (CallOf r.serial) is
  held_later (HandleKind.Waitable WaitableKind.HostSubtask) r is = named_later r.id (WorkOf r.serial) is
  held_later (HandleKind.Waitable WaitableKind.Stream) r is = is
  held_later (HandleKind.Waitable WaitableKind.Future) r is = is
  held_later HandleKind.Set r is = named_later r.id (SetOf r.serial) is

  pub handles_later : (i : InstanceRecord) → AreHandlesNamed k i → AreHandlesNamed (record k { made = n }) i
  handles_later i named = record {
    small = named.small;
    small_threads = named.small_threads;
    handles = λ h x live. held_later x.kind x.rep (named.handles h x live);
    thread_handles = λ h r live. named_later r.id (ThreadOf r.serial) (named.thread_handles h r live);
  }

pub same_made : (m : MadeCounts) → IsLater m m
same_made m = record { threads = omega arith; works = omega arith; sets = omega arith; groups = omega arith }

-- With another number of finished groups, other kept numbers, other results and another capacity too: names, indexes and rows stay.
module _ (p : CoreImage) (n : MadeCounts) (later : IsLater p.made n) (finished : ℕ) (kept : CachedCounts) (results : List (ℕ × ResultRoom)) (capacity : ℕ) where
  abbrev pub state_target : CoreImage
  state_target = record p { made = n; finished = finished; kept = kept; results = results; capacity = capacity }

  at_later : (rep : ℕ) (t : Target) → AtPlace p rep t → AtPlace state_target rep t
  at_later = named_later (kinds p) n later

  home_later : (g : GuestThread) → HasHome p g → HasHome state_target g
  home_later g home = record { call = home.call; there = home.there; instance = home.instance; barred = home.barred; waits = home.waits; within = home.within; place = at_later g.state_target _ home.place; op_progress = at_later g.op_target _ home.op_progress }

  call_later : (g : GuestTask) → IsCallNamed p g → IsCallNamed state_target g
  call_later g named = record { caller = at_later g.maker _ named.caller; first = at_later g.first (ThreadOf g.number) named.first; join = at_later g.joined _ named.join; group = named.group; positive = named.positive; waits = named.waits }

  work_later : (w : WorkRecord) → IsWorkNamed p w → IsWorkNamed state_target w
  work_later w named = record { caller = at_later w.maker _ named.caller; join = at_later w.joined _ named.join; group = named.group }

  pub beside_whole : IsWhole p → AreKept (core_of state_target) kept → ((k : ℕ) (c : Call) → get (core_of p).calls k ≡ Some c → c.goal ≡ Goal.Main → HasRoom k results) → finished ≤ n.groups → capacity ≤ 4294967295 → IsWhole state_target
  beside_whole whole counts rooms within few = record {
    named = record {
      threads = λ rep q at. home_later q.entry.item (whole.named.threads rep q at);
      calls = λ rep q at. call_later q.entry.item (whole.named.calls rep q at);
      works = λ rep q at. work_later q.entry.item (whole.named.works rep q at);
      switch = whole.named.switch;
    };
    chained = record {
      places = whole.chained.places;
      waits = whole.chained.waits;
      ready_calls = whole.chained.ready_calls;
      ready_works = whole.chained.ready_works;
      polled = whole.chained.polled;
      rising = whole.chained.rising;
      marks = whole.chained.marks;
      instance_queues = whole.chained.instance_queues;
      low = whole.chained.low;
      behind = whole.chained.behind;
    };
    nodes = record { marks = whole.nodes.marks; instance_queues = whole.nodes.instance_queues; callers = whole.nodes.callers; works = whole.nodes.works; apart = whole.nodes.apart };
    counted = record {
      kept = counts;
      calls = whole.counted.calls;
      sets = λ rep q at. let one = whole.counted.sets rep q at in record { members = one.members; entries = one.entries };
      groups = whole.counted.groups;
      few = few;
      finished = within;
      high = whole.counted.high;
      low = whole.counted.low;
      works = whole.counted.works;
      results = rooms;
    };
  }

pub whole_later : (p : CoreImage) (n : MadeCounts) → IsLater p.made n → IsWhole p → IsWhole (record p { made = n })
unfolding table_use
whole_later p n later whole =
    beside_whole p n later p.finished p.kept p.results p.capacity whole (let k = whole.counted.kept in record { used = k.used; groups = k.groups; live = k.live }) whole.counted.results
    (let within = whole.counted.finished in let more = later.groups in omega arith) whole.counted.few
