-- The states of the component machine.
use Rattle.std.specs.Prelude.{ℕ, Bool, false, List, [], Option, None, replicate}
use Rattle.machine_data.specs.declared.trap.Trap.{Trap}
use Rattle.machine_data.specs.declared.records.Call.{Call}
use Rattle.machine_data.specs.declared.records.Thread.{Thread}
use Rattle.machine_data.specs.declared.records.Work.{Work}
use Rattle.machine_data.specs.declared.records.Set.{Set}
use Rattle.machine_data.specs.declared.records.Instance.{Instance}
use Rattle.machine_data.specs.declared.records.Named.{Named}
use Rattle.machine_data.specs.declared.records.Entry.{Entry}
use Rattle.machine_data.specs.declared.records.MadeCounts.{MadeCounts}
use Rattle.machine_data.specs.declared.records.Turn.{Turn}
use Rattle.machine_data.specs.declared.scenario.Version.{Version}
use Rattle.machine_data.specs.Maps.{Records, empty, insert}

-- The handles of one instance: what each live one names, and the freed ones, the last first.
pub record NameTable (X : Type 0) : Type 0 where
  pub live : Records X
  pub freed : List ℕ

-- What is to be taken. At switch only a thread is; at low only threads are.
pub record Queues : Type 0 where
  pub switch : Option ℕ
  pub high : List Entry
  pub low : List Entry

-- The part of a state that a store holds.
pub record Core : Type 0 where
  -- by which rules it runs
  pub version : Version
  -- named by their first threads
  pub calls : Records Call
  pub threads : Records Thread
  -- of each thread, the threads behind it, oldest first
  pub callers : Records (List ℕ)
  pub works : Records Work
  pub sets : Records Set
  -- by their places, from 0, as the two maps after them
  pub instances : Records Instance
  pub handles : Records (NameTable Named)
  pub thread_handles : Records (NameTable ℕ)
  pub queues : Queues
  -- the results for main that it has not finished, by the calls
  pub results : Records ℕ
  -- the live groups, in order of number
  pub groups : List ℕ
  pub trapped : Bool
  -- how many handles may be live at once
  pub handle_limit : ℕ
  -- how many entries the table has room for
  pub capacity : ℕ
  pub made : MadeCounts
  -- in version 2, how often a thread has begun to wait or to be held
  pub arrivals : ℕ

-- What a start of main resulted in.
pub data Started : Type 0 where
  Began : (call : ℕ) → Started
  Refused : (trap : Trap) → Started

-- Main's part of a state: where main is in its script, its registers, what its starts resulted in and the works of its spawns, in order.
pub record MainPlace : Type 0 where
  pub position : ℕ
  pub registers : List ℕ
  pub starts : List Started
  pub spawns : List ℕ

-- Main is a script, or some other program, of which nothing is told.
pub data Main : Type 0 where
  Scripted : (place : MainPlace) → Main
  Unscripted : Main

pub record State : Type 0 where
  pub core : Core
  pub main : Main
  pub turn : Turn

-- ---- The first states

abbrev pub no_handles : {X : Type 0} → NameTable X
no_handles = record { live = empty; freed = [] }

abbrev pub no_entries : Queues
no_entries = record { switch = None; high = []; low = [] }

abbrev pub nothing_made : MadeCounts
nothing_made = record { threads = 0; works = 0; sets = 0; groups = 0 }

abbrev pub untouched : Instance
untouched = record { backpressure = 0; do_not_enter = false; do_not_suspend = false; memory_cells = replicate 16 0 }

-- the map that has x at each of the first n numbers
abbrev pub filled : {X : Type 0} → X → ℕ → Records X
filled x ℕ.zero = empty
filled x (ℕ.suc n) = insert (filled x n) n x

-- the core of this many instances, in which nothing was made
unfoldable pub fresh : Version → (instances handle_limit capacity : ℕ) → Core
fresh v instances handle_limit capacity = record {
  version = v;
  calls = empty;
  threads = empty;
  callers = empty;
  works = empty;
  sets = empty;
  instances = filled untouched instances;
  handles = filled no_handles instances;
  thread_handles = filled no_handles instances;
  queues = no_entries;
  results = empty;
  groups = [];
  trapped = false;
  handle_limit = handle_limit;
  capacity = capacity;
  made = nothing_made;
  arrivals = 0;
}
