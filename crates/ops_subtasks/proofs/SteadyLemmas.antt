-- Writes that leave places, entries, flags and ends of subtasks as they are, and who is in which instance.
use Rattle.std.proofs.Common.{ap, ap₂, cond, le_refl, le_trans, refl, sym, ◌∙◌}
use Rattle.std.specs.Option.{option_map_or}
use Rattle.std.specs.Prelude.{Bool, List, None, Option, Some, [], false, find, is_some, not, option_and_then, option_map, true, ℕ, ◌+◌, ◌<◌, ◌==◌, ◌||◌, ◌∷◌, ◌≡◌}
use Rattle.task_table.specs.declared.id.TableId.{TableId}
use Rattle.task_wait.specs.declared.keys.ThreadKey.{ThreadKey}
use Rattle.machine_data.proofs.MapLemmas.{change-field}
use Rattle.machine_data.specs.Core.{Core, Queues}
use Rattle.machine_data.specs.Maps.{Records, get}
use Rattle.machine_data.specs.Moves.{first_entry, first_low, passes_check}
use Rattle.machine_data.specs.Read.{call_instance, entry_thread, event_of, first_in, instance_of, is_entry_in, is_stage_ended, no_callee, subtask_ended, task_of}
use Rattle.machine_data.specs.Write.{set_cancel_asked, on_call, on_thread, on_work, set_cancelled, set_join, set_task_event, set_phase, set_saved_callee}
use Rattle.machine_data.specs.declared.component.Callee.{Callee}
use Rattle.machine_data.specs.declared.records.Call.{Call}
use Rattle.machine_data.specs.declared.records.Entry.{Entry}
use Rattle.machine_data.specs.declared.records.Entry.TheVariants as entry
use Rattle.machine_data.specs.declared.records.Instance.{Instance}
use Rattle.machine_data.specs.declared.records.Join.{Join}
use Rattle.machine_data.specs.declared.records.Place.TheVariants as place
use Rattle.machine_data.specs.declared.records.Stage.TheVariants as stage
use Rattle.machine_data.specs.declared.records.Subtask.{Subtask}
use Rattle.machine_data.specs.declared.records.Subtask.TheVariants as subtask
use Rattle.machine_data.specs.declared.records.Thread.{Thread}
use Rattle.machine_data.specs.declared.records.Work.{Work}
use Rattle.machine_data.specs.declared.statuses.TaskEvent.{TaskEvent}
use Rattle.machine_data.specs.declared.statuses.Phase.{Phase}
use Rattle.ops_moves.proofs.TellLemmas.{map_or_is}
use Rattle.ops_guests.proofs.BesideLemmas.{quiet_stand}
use Rattle.ops_guests.proofs.RunLemmas.{stands_on}
use Rattle.ops_guests.specs.Running.{IsRunning}
use Rattle.machine_rules.proofs.StopLemmas.{Untouched}
use Rattle.core_primitives.specs.StateView.{StateView, on_core, thread_of}

-- From s to t nothing of this has changed.
pub record Steady (s t : Core) : Type 0 where
  pub untouched : Untouched s t
  pub queues : t.queues ≡ s.queues
  pub instances : t.instances ≡ s.instances
  pub homes : (n : ℕ) → instance_of n t ≡ instance_of n s
  pub ended : (sub : Subtask) → subtask_ended sub t ≡ subtask_ended sub s
  pub events : (sub : Subtask) → event_of sub t ≡ event_of sub s

pub steady_after : (s m t : Core) → Steady s m → Steady m t → Steady s t
steady_after s m t a b = record {
  untouched = record {
    places = λ k. b.untouched.places k ∙ a.untouched.places k;
    switch = λ k. b.untouched.switch k ∙ a.untouched.switch k;
    high = λ k. b.untouched.high k ∙ a.untouched.high k;
    low = λ k. b.untouched.low k ∙ a.untouched.low k;
    callers = b.untouched.callers ∙ a.untouched.callers;
    made = le_trans a.untouched.made b.untouched.made;
  };
  queues = b.queues ∙ a.queues;
  instances = b.instances ∙ a.instances;
  homes = λ n. b.homes n ∙ a.homes n;
  ended = λ sub. b.ended sub ∙ a.ended sub;
  events = λ sub. b.events sub ∙ a.events sub;
}

and_then_is : {X Y : Type 0} (g : X → Option Y) (o p : Option X) → option_map g o ≡ option_map g p → option_and_then g o ≡ option_and_then g p
and_then_is {X = X} {Y = Y} g o p e = sym (at o) ∙ (ap (λ (r : Option (Option Y)). option_and_then (λ (y : Option Y). y) r) e ∙ at p)
  where
    at : (r : Option X) → option_and_then (λ (y : Option Y). y) (option_map g r) ≡ option_and_then g r
    at None = refl
    at (Some x) = refl

-- a call whose export, end and event stay
call_steady : (k : ℕ) (f : Call → Call) (s : Core) → ((c : Call) → (f c).callee ≡ c.callee) → ((c : Call) → (f c).«end» ≡ c.«end») → ((c : Call) → (f c).event ≡ c.event) → Steady s (on_call k f s)
unfolding on_call
call_steady k f s callee over event = record {
  untouched = record { places = λ q. refl; switch = λ q. refl; high = λ q. refl; low = λ q. refl; callers = refl; made = le_refl _ };
  queues = refl;
  instances = refl;
  homes = λ n. ap (λ (e : Callee). e.instance) (map_or_is (λ (c : Call). c.callee) no_callee _ _ (change-field (λ (c : Call). c.callee) k f callee s.calls (task_of n s)));
  ended = λ sub. ends sub;
  events = λ sub. told sub;
}
  where
    ends : (sub : Subtask) → subtask_ended sub (on_call k f s) ≡ subtask_ended sub s
    ends (subtask.Guest q) = ap (λ o. is_some o) (and_then_is (λ (c : Call). c.«end») _ _ (change-field (λ (c : Call). c.«end») k f over s.calls q))
    ends (subtask.Host i) = refl

    told : (sub : Subtask) → event_of sub (on_call k f s) ≡ event_of sub s
    told (subtask.Guest q) = and_then_is (λ (c : Call). c.event) _ _ (change-field (λ (c : Call). c.event) k f event s.calls q)
    told (subtask.Host i) = refl

-- a work whose stage and event stay
work_steady : (i : ℕ) (f : Work → Work) (s : Core) → ((w : Work) → (f w).stage ≡ w.stage) → ((w : Work) → (f w).event ≡ w.event) → Steady s (on_work i f s)
unfolding on_work
work_steady i f s stays event = record {
  untouched = record { places = λ q. refl; switch = λ q. refl; high = λ q. refl; low = λ q. refl; callers = refl; made = le_refl _ };
  queues = refl;
  instances = refl;
  homes = λ n. refl;
  ended = λ sub. ends sub;
  events = λ sub. told sub;
}
  where
    ends : (sub : Subtask) → subtask_ended sub (on_work i f s) ≡ subtask_ended sub s
    ends (subtask.Guest q) = refl
    ends (subtask.Host j) = ap (λ x. is_stage_ended x) (map_or_is (λ (w : Work). w.stage) stage.Ended _ _ (change-field (λ (w : Work). w.stage) i f stays s.works j))

    told : (sub : Subtask) → event_of sub (on_work i f s) ≡ event_of sub s
    told (subtask.Guest q) = refl
    told (subtask.Host j) = and_then_is (λ (w : Work). w.event) _ _ (change-field (λ (w : Work). w.event) i f event s.works j)

-- a thread whose call and place stay
thread_steady : (n : ℕ) (f : Thread → Thread) (s : Core) → ((t : Thread) → (f t).call ≡ t.call) → ((t : Thread) → (f t).place ≡ t.place) → Steady s (on_thread n f s)
unfolding on_thread
thread_steady n f s call at = record {
  untouched = record { places = λ q. change-field (λ (t : Thread). t.place) n f at s.threads q; switch = λ q. refl; high = λ q. refl; low = λ q. refl; callers = refl; made = le_refl _ };
  queues = refl;
  instances = refl;
  homes = λ q. ap (λ k. call_instance k s) (map_or_is (λ (t : Thread). t.call) 0 _ _ (change-field (λ (t : Thread). t.call) n f call s.threads q));
  ended = λ sub. ends sub;
  events = λ sub. told sub;
}
  where
    ends : (sub : Subtask) → subtask_ended sub (on_thread n f s) ≡ subtask_ended sub s
    ends (subtask.Guest q) = refl
    ends (subtask.Host j) = refl

    told : (sub : Subtask) → event_of sub (on_thread n f s) ≡ event_of sub s
    told (subtask.Guest q) = refl
    told (subtask.Host j) = refl

pub join_steady : (sub : Subtask) (j : Join) (s : Core) → Steady s (set_join sub j s)
unfolding set_join
join_steady (subtask.Guest k) j s = call_steady k (λ c. record c { join = j }) s (λ c. refl) (λ c. refl) (λ c. refl)
join_steady (subtask.Host i) j s = work_steady i (λ w. record w { join = j }) s (λ w. refl) (λ w. refl)

pub saved_steady : (n : ℕ) (b : Option Bool) (s : Core) → Steady s (set_saved_callee n b s)
unfolding set_saved_callee
saved_steady n b s = thread_steady n (λ t. record t { saved_callee = b }) s (λ t. refl) (λ t. refl)

pub asked_steady : (k : ℕ) (e : Option TaskEvent) (s : Core) → Steady s (set_task_event k e s)
unfolding set_task_event
asked_steady k e s = call_steady k (λ c. record c { task_event = e }) s (λ c. refl) (λ c. refl) (λ c. refl)

pub marked_steady : (k : ℕ) (s : Core) → Steady s (set_cancel_asked k s)
unfolding set_cancel_asked
marked_steady k s = call_steady k (λ c. record c { cancel_asked = true }) s (λ c. refl) (λ c. refl) (λ c. refl)

pub phase_steady : (i : ℕ) (p : Phase) (s : Core) → Steady s (set_phase i p s)
unfolding set_phase
phase_steady i p s = work_steady i (λ w. record w { phase = p }) s (λ w. refl) (λ w. refl)

pub cancelled_steady : (i : ℕ) (s : Core) → Steady s (set_cancelled i s)
unfolding set_cancelled
cancelled_steady i s = work_steady i (λ w. record w { cancelled = true }) s (λ w. refl) (λ w. refl)

-- ---- A check passes as before

find_alike : (p q : Entry → Bool) → ((e : Entry) → p e ≡ q e) → (es : List Entry) → find p es ≡ find q es
find_alike p q same [] = refl
find_alike p q same (e ∷ es) = ap₂ (λ (b : Bool) (o : Option Entry). cond b (Some e) o) (same e) (find_alike p q same es)

first_same : (i : ℕ) (s t : Core) → Steady s t → (es : List Entry) → first_in i t es ≡ first_in i s es
first_same i s t a es = ap (λ (o : Option Entry). option_and_then entry_thread o) (find_alike (is_entry_in i t) (is_entry_in i s) (λ e. in_same e) es)
  where
    in_same : (e : Entry) → is_entry_in i t e ≡ is_entry_in i s e
    in_same (entry.Thread n) = ap (λ j. j == i) (a.homes n)
    in_same (entry.Push j) = refl
    in_same (entry.Host j) = refl

entry_same : (i : ℕ) (s t : Core) → Steady s t → first_entry i t ≡ first_entry i s
unfolding first_entry
entry_same i s t a = by_high (first_in i t t.queues.high) ∙ ap (λ (o : Option ℕ). first_low i s o) (first_same i s t a t.queues.high ∙ ap (λ (q : Queues). first_in i s q.high) a.queues)
  where
    by_high : (o : Option ℕ) → first_low i t o ≡ first_low i s o
    by_high None = first_same i s t a t.queues.low ∙ ap (λ (q : Queues). first_in i s q.low) a.queues
    by_high (Some n) = refl

pub steady_check : (i : ℕ) (s t : Core) → Steady s t → passes_check i t ≡ passes_check i s
unfolding passes_check
steady_check i s t a =
    ap₂ (λ (b c : Bool). not b || c) (ap (λ (m : Records Instance). option_map_or (λ (r : Instance). r.do_not_suspend) (get m i) false) a.instances)
    (ap₂ (λ (b c : Bool). b || c) (ap (λ (q : Queues). is_some q.switch) a.queues) (ap (λ (o : Option ℕ). is_some o) (entry_same i s t a)))

-- ---- As contracts see it

module _ (n : TableId ThreadKey) (f : Core → Core) (s t : StateView) (e : t ≡ on_core f s) (a : Steady s.core (f s.core)) where
  pub still_runs : IsRunning (thread_of s n) s.core → IsRunning (thread_of t n) t.core
  still_runs st = stands_on n place.Running f s t e (quiet_stand (thread_of s n) place.Running [] s.core (f s.core) a.untouched st)
