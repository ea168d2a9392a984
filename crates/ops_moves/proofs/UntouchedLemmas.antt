-- Writes that leave places, entries and callers alone.
use Rattle.std.proofs.Common.{arith, le_refl, refl}
use Rattle.std.proofs.lemmas.Bool.Decides.{nat_tests}
use Rattle.std.specs.Prelude.{Option, ℕ}
use Rattle.machine_data.proofs.CommuteLemmas.{get-change}
use Rattle.machine_data.specs.Core.{Core}
use Rattle.machine_data.specs.Write.{give_result, give_thread_handle, on_call, on_instance, on_thread, on_work, set_end, set_event, set_task_event, set_register, set_result, set_started, set_starting_published, set_thread_handle}
use Rattle.machine_data.specs.declared.records.CallEnd.{CallEnd}
use Rattle.machine_data.specs.declared.records.Instance.{Instance}
use Rattle.machine_data.specs.declared.records.Subtask.{Subtask}
use Rattle.machine_data.specs.declared.records.Subtask.TheVariants as subtask
use Rattle.machine_data.specs.declared.statuses.TaskEvent.{TaskEvent}
use Rattle.machine_data.specs.declared.statuses.Status.{Status}
use Rattle.machine_rules.proofs.StopLemmas.{Untouched}
use Rattle.machine_rules.specs.Calls.{with_thread_handle}

pub same_untouched : (s : Core) → Untouched s s
same_untouched s = record { places = λ k. refl; switch = λ k. refl; high = λ k. refl; low = λ k. refl; callers = refl; made = le_refl _ }

pub set_register_untouched : (n r v : ℕ) (s : Core) → Untouched s (set_register n r v s)
unfolding set_register on_thread
set_register_untouched n r v s = record { places = λ k. grind (arith, nat_tests, get-change); switch = λ k. refl; high = λ k. refl; low = λ k. refl; callers = refl; made = le_refl _ }

pub with_thread_handle_untouched : (i n : ℕ) (s : Core) → Untouched s (with_thread_handle i n s)
unfolding with_thread_handle set_thread_handle give_thread_handle on_thread
with_thread_handle_untouched i n s = record { places = λ k. grind (arith, nat_tests, get-change); switch = λ k. refl; high = λ k. refl; low = λ k. refl; callers = refl; made = le_refl _ }

pub give_result_untouched : (k v : ℕ) (s : Core) → Untouched s (give_result k v s)
unfolding give_result
give_result_untouched k v s = record { places = λ k. refl; switch = λ k. refl; high = λ k. refl; low = λ k. refl; callers = refl; made = le_refl _ }

pub set_result_untouched : (k : ℕ) (v : Option ℕ) (s : Core) → Untouched s (set_result k v s)
unfolding set_result on_call
set_result_untouched k v s = record { places = λ k. refl; switch = λ k. refl; high = λ k. refl; low = λ k. refl; callers = refl; made = le_refl _ }

pub set_end_untouched : (k : ℕ) (e : CallEnd) (s : Core) → Untouched s (set_end k e s)
unfolding set_end on_call
set_end_untouched k e s = record { places = λ k. refl; switch = λ k. refl; high = λ k. refl; low = λ k. refl; callers = refl; made = le_refl _ }

pub set_task_event_untouched : (k : ℕ) (e : Option TaskEvent) (s : Core) → Untouched s (set_task_event k e s)
unfolding set_task_event on_call
set_task_event_untouched k e s = record { places = λ k. refl; switch = λ k. refl; high = λ k. refl; low = λ k. refl; callers = refl; made = le_refl _ }

pub set_started_untouched : (k : ℕ) (s : Core) → Untouched s (set_started k s)
unfolding set_started on_call
set_started_untouched k s = record { places = λ k. refl; switch = λ k. refl; high = λ k. refl; low = λ k. refl; callers = refl; made = le_refl _ }

pub set_starting_published_untouched : (k : ℕ) (s : Core) → Untouched s (set_starting_published k s)
unfolding set_starting_published on_call
set_starting_published_untouched k s = record { places = λ k. refl; switch = λ k. refl; high = λ k. refl; low = λ k. refl; callers = refl; made = le_refl _ }

pub set_event_untouched : (sub : Subtask) (e : Option Status) (s : Core) → Untouched s (set_event sub e s)
unfolding set_event on_call on_work
set_event_untouched (subtask.Guest k) e s = record { places = λ k. refl; switch = λ k. refl; high = λ k. refl; low = λ k. refl; callers = refl; made = le_refl _ }
set_event_untouched (subtask.Host i) e s = record { places = λ k. refl; switch = λ k. refl; high = λ k. refl; low = λ k. refl; callers = refl; made = le_refl _ }

pub on_instance_untouched : (i : ℕ) (f : Instance → Instance) (s : Core) → Untouched s (on_instance i f s)
unfolding on_instance
on_instance_untouched i f s = record { places = λ k. refl; switch = λ k. refl; high = λ k. refl; low = λ k. refl; callers = refl; made = le_refl _ }
