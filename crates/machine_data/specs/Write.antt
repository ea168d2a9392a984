-- The primitives that change a core: each one field of one record, one record made or taken away, or one handle given or taken
-- back.
use Rattle.std.specs.Prelude.{ℕ, ◌+◌, Bool, true, false, List, [], ◌∷◌, ◌++◌, Option, Some, filter, if◌then◌else◌, nat_lt, not, ◌==◌, slice_set}
use Rattle.machine_data.specs.declared.statuses.TaskEvent.{TaskEvent}
use Rattle.machine_data.specs.declared.statuses.Phase.{Phase}
use Rattle.machine_data.specs.declared.statuses.Status.{Status}
use Rattle.machine_data.specs.declared.records.Call.{Call}
use Rattle.machine_data.specs.declared.records.CallEnd.{CallEnd}
use Rattle.machine_data.specs.declared.records.Course.{Course}
use Rattle.machine_data.specs.declared.records.Entry.{Entry}
use Rattle.machine_data.specs.declared.records.OpProgress.{OpProgress}
use Rattle.machine_data.specs.declared.records.Instance.{Instance}
use Rattle.machine_data.specs.declared.records.Join.{Join}
use Rattle.machine_data.specs.declared.records.MadeCounts.{MadeCounts}
use Rattle.machine_data.specs.declared.records.Named.{Named}
use Rattle.machine_data.specs.declared.records.Place.{Place}
use Rattle.machine_data.specs.declared.records.Script.{Script}
use Rattle.machine_data.specs.declared.records.Set.{Set}
use Rattle.machine_data.specs.declared.records.Stage.{Stage}
use Rattle.machine_data.specs.declared.records.Subtask.{Subtask}
use Rattle.machine_data.specs.declared.records.Subtask.TheVariants as subtask
use Rattle.machine_data.specs.declared.records.Thread.{Thread}
use Rattle.machine_data.specs.declared.records.Work.{Work}
use Rattle.machine_data.specs.declared.scenario.Version.TheVariants as version
use Rattle.machine_data.specs.declared.scenario.Version.{Version}
use Rattle.machine_data.specs.Maps.{insert, remove, change}
use Rattle.machine_data.specs.Core.{Core, Queues, NameTable}
use Rattle.machine_data.specs.Read.{next_handle}

-- ---- Threads

-- the record of a thread is changed, if there is one
unfoldable pub on_thread : ℕ → (Thread → Thread) → Core → Core
on_thread n f s = record s { threads = change n f s.threads }

unfoldable pub set_register : ℕ → ℕ → ℕ → Core → Core
set_register n r v = on_thread n (λ t. record t { registers = slice_set t.registers r v })

unfoldable pub set_position : ℕ → ℕ → Core → Core
set_position n p = on_thread n (λ t. record t { position = p })

unfoldable pub set_op_progress : ℕ → OpProgress → Core → Core
set_op_progress n h = on_thread n (λ t. record t { op_progress = h })

unfoldable pub set_script : ℕ → Script → Core → Core
set_script n x = on_thread n (λ t. record t { script = x })

unfoldable pub set_thread_handle : ℕ → Option ℕ → Core → Core
set_thread_handle n h = on_thread n (λ t. record t { handle = h })

unfoldable pub set_saved_own : ℕ → Option Bool → Core → Core
set_saved_own n b = on_thread n (λ t. record t { saved_own = b })

unfoldable pub set_saved_callee : ℕ → Option Bool → Core → Core
set_saved_callee n b = on_thread n (λ t. record t { saved_callee = b })

unfoldable pub set_place : ℕ → Place → Core → Core
set_place n p = on_thread n (λ t. record t { place = p })

-- when a thread arrives that comes by these rules, by how many have come and when it came last
abbrev pub arrival : Version → (arrivals last : ℕ) → ℕ
arrival version.One arrivals last = last
arrival version.Two arrivals last = arrivals

-- one more has come; a count stays at the end of its type
abbrev pub counted_arrival : Version → ℕ → ℕ
counted_arrival version.One arrivals = arrivals
counted_arrival version.Two arrivals = if nat_lt arrivals 18446744073709551615 then arrivals + 1 else arrivals

-- the thread, which is about to wait or to be held, comes after all that wait or are held: in version 1 nothing is kept of that
unfoldable pub arrive : ℕ → Core → Core
arrive n s =
    record (on_thread n (λ t. record t { came = arrival s.version s.arrivals t.came }) s) {
      arrivals = counted_arrival s.version s.arrivals;
    }

-- each of these threads is put at the place
abbrev pub set_places : List ℕ → Place → Core → Core
set_places [] p s = s
set_places (n ∷ ns) p s = set_places ns p (set_place n p s)

unfoldable pub set_callers : ℕ → List ℕ → Core → Core
set_callers n ns s = record s { callers = insert s.callers n ns }

abbrev pub with_threads_made : ℕ → MadeCounts → MadeCounts
with_threads_made n m = record m { threads = n }

-- a thread more, with the next number, and nobody behind it
unfoldable pub add_thread : Thread → Core → Core
add_thread t s =
    let n = s.made.threads + 1 in
    record s { threads = insert s.threads n t; callers = insert s.callers n []; made = with_threads_made n s.made }

unfoldable pub remove_thread : ℕ → Core → Core
remove_thread n s = record s { threads = remove s.threads n; callers = remove s.callers n }

abbrev pub remove_threads : List ℕ → Core → Core
remove_threads [] s = s
remove_threads (n ∷ ns) s = remove_threads ns (remove_thread n s)

-- ---- Calls

unfoldable pub on_call : ℕ → (Call → Call) → Core → Core
on_call k f s = record s { calls = change k f s.calls }

unfoldable pub add_call : ℕ → Call → Core → Core
add_call k c s = record s { calls = insert s.calls k c }

unfoldable pub remove_call : ℕ → Core → Core
remove_call k s = record s { calls = remove s.calls k }

unfoldable pub set_started : ℕ → Core → Core
set_started k = on_call k (λ c. record c { started = true })

unfoldable pub set_starting_published : ℕ → Core → Core
set_starting_published k = on_call k (λ c. record c { starting_published = true })

unfoldable pub set_end : ℕ → CallEnd → Core → Core
set_end k e = on_call k (λ c. record c { «end» = Some e })

unfoldable pub set_task_event : ℕ → Option TaskEvent → Core → Core
set_task_event k e = on_call k (λ c. record c { task_event = e })

unfoldable pub set_cancel_asked : ℕ → Core → Core
set_cancel_asked k = on_call k (λ c. record c { cancel_asked = true })

unfoldable pub set_cancel_delivered : ℕ → Core → Core
set_cancel_delivered k = on_call k (λ c. record c { cancel_delivered = true })

unfoldable pub set_exited : ℕ → Core → Core
set_exited k = on_call k (λ c. record c { exited = true })

unfoldable pub set_uninteresting : ℕ → Core → Core
set_uninteresting k = on_call k (λ c. record c { interesting = false })

unfoldable pub set_result : ℕ → Option ℕ → Core → Core
set_result k v = on_call k (λ c. record c { result = v })

-- ---- Works

unfoldable pub on_work : ℕ → (Work → Work) → Core → Core
on_work i f s = record s { works = change i f s.works }

abbrev pub with_works_made : ℕ → MadeCounts → MadeCounts
with_works_made n m = record m { works = n }

-- a host work has its number
unfoldable pub count_work : Core → Core
count_work s = record s { made = with_works_made (s.made.works + 1) s.made }

unfoldable pub add_work : ℕ → Work → Core → Core
add_work i w s = record s { works = insert s.works i w }

unfoldable pub remove_work : ℕ → Core → Core
remove_work i s = record s { works = remove s.works i }

unfoldable pub set_course : ℕ → Course → Core → Core
set_course i c = on_work i (λ w. record w { course = c })

unfoldable pub set_phase : ℕ → Phase → Core → Core
set_phase i p = on_work i (λ w. record w { phase = p })

unfoldable pub set_stage : ℕ → Stage → Core → Core
set_stage i x = on_work i (λ w. record w { stage = x })

unfoldable pub set_cancelled : ℕ → Core → Core
set_cancelled i = on_work i (λ w. record w { cancelled = true })

-- ---- Subtasks

unfoldable pub set_event : Subtask → Option Status → Core → Core
set_event (subtask.Guest k) e s = on_call k (λ c. record c { event = e }) s
set_event (subtask.Host i) e s = on_work i (λ w. record w { event = e }) s

unfoldable pub set_join : Subtask → Join → Core → Core
set_join (subtask.Guest k) j s = on_call k (λ c. record c { join = j }) s
set_join (subtask.Host i) j s = on_work i (λ w. record w { join = j }) s

unfoldable pub set_subtask_handle : Subtask → Option ℕ → Core → Core
set_subtask_handle (subtask.Guest k) h s = on_call k (λ c. record c { handle = h }) s
set_subtask_handle (subtask.Host i) h s = on_work i (λ w. record w { handle = h }) s

-- ---- Sets

abbrev pub with_sets_made : ℕ → MadeCounts → MadeCounts
with_sets_made n m = record m { sets = n }

unfoldable pub add_set : Set → Core → Core
add_set x s = record s { sets = insert s.sets (s.made.sets + 1) x; made = with_sets_made (s.made.sets + 1) s.made }

unfoldable pub remove_set : ℕ → Core → Core
remove_set x s = record s { sets = remove s.sets x }

-- ---- Instances

unfoldable pub on_instance : ℕ → (Instance → Instance) → Core → Core
on_instance i f s = record s { instances = change i f s.instances }

unfoldable pub set_backpressure : ℕ → ℕ → Core → Core
set_backpressure i n = on_instance i (λ r. record r { backpressure = n })

unfoldable pub set_do_not_enter : ℕ → Bool → Core → Core
set_do_not_enter i b = on_instance i (λ r. record r { do_not_enter = b })

unfoldable pub set_do_not_suspend : ℕ → Bool → Core → Core
set_do_not_suspend i b = on_instance i (λ r. record r { do_not_suspend = b })

unfoldable pub set_memory_cell : ℕ → ℕ → ℕ → Core → Core
set_memory_cell i w v = on_instance i (λ r. record r { memory_cells = slice_set r.memory_cells w v })

-- ---- Handles

-- the freed handles less the one that is given
abbrev pub less_one : List ℕ → List ℕ
less_one [] = []
less_one (h ∷ hs) = hs

-- the table with its next handle given for x
abbrev pub giving : {X : Type 0} → X → NameTable X → NameTable X
giving x t = record { live = insert t.live (next_handle t t.freed) x; freed = less_one t.freed }

-- the table with the handle taken back
abbrev pub taking : {X : Type 0} → ℕ → NameTable X → NameTable X
taking h t = record { live = remove t.live h; freed = h ∷ t.freed }

-- the instance's next handle names this
unfoldable pub give_handle : ℕ → Named → Core → Core
give_handle i x s = record s { handles = change i (giving x) s.handles }

unfoldable pub free_handle : ℕ → ℕ → Core → Core
free_handle i h s = record s { handles = change i (taking h) s.handles }

unfoldable pub give_thread_handle : ℕ → ℕ → Core → Core
give_thread_handle i n s = record s { thread_handles = change i (giving n) s.thread_handles }

unfoldable pub free_thread_handle : ℕ → ℕ → Core → Core
free_thread_handle i h s = record s { thread_handles = change i (taking h) s.thread_handles }

-- ---- Marks

abbrev pub with_switch : Option ℕ → Queues → Queues
with_switch n q = record q { switch = n }

abbrev pub with_high : List Entry → Queues → Queues
with_high es q = record q { high = es }

abbrev pub with_low : List Entry → Queues → Queues
with_low es q = record q { low = es }

unfoldable pub set_switch : Option ℕ → Core → Core
set_switch n s = record s { queues = with_switch n s.queues }

unfoldable pub push_high : Entry → Core → Core
push_high e s = record s { queues = with_high (s.queues.high ++ e ∷ []) s.queues }

-- at the front of high, as a displaced entry
unfoldable pub push_high_first : Entry → Core → Core
push_high_first e s = record s { queues = with_high (e ∷ s.queues.high) s.queues }

unfoldable pub push_low : Entry → Core → Core
push_low e s = record s { queues = with_low (s.queues.low ++ e ∷ []) s.queues }

unfoldable pub set_high : List Entry → Core → Core
set_high es s = record s { queues = with_high es s.queues }

unfoldable pub set_low : List Entry → Core → Core
set_low es s = record s { queues = with_low es s.queues }

-- ---- Results, groups and the trap

unfoldable pub give_result : ℕ → ℕ → Core → Core
give_result k v s = record s { results = insert s.results k v }

unfoldable pub take_result : ℕ → Core → Core
take_result k s = record s { results = remove s.results k }

abbrev pub with_groups_made : ℕ → MadeCounts → MadeCounts
with_groups_made n m = record m { groups = n }

-- a group more, with the next number
unfoldable pub add_group : Core → Core
add_group s = record s { groups = s.groups ++ (s.made.groups + 1) ∷ []; made = with_groups_made (s.made.groups + 1) s.made }

unfoldable pub remove_group : ℕ → Core → Core
remove_group g s = record s { groups = filter (λ h. not (g == h)) s.groups }

-- the store is trapped, and all groups are finished
unfoldable pub set_trapped : Core → Core
set_trapped s = record s { trapped = true; groups = [] }
