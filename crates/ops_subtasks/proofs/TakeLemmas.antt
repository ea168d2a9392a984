-- The taking of a host call's entry, written.
use Rattle.std.proofs.Common.{T, ap, arith, refl, subst, sym, ◌∙◌}
use Rattle.std.specs.Prelude.{Bool, None, Option, Some, false, if◌then◌else◌, is_some, option_map, true, ℕ, ◌≡◌}
use Rattle.task_table.specs.declared.id.TableId.{TableId}
use Rattle.task_wait.specs.declared.keys.HostTaskKey.{HostTaskKey}
use Rattle.task_wait.specs.declared.keys.ThreadKey.{ThreadKey}
use Rattle.machine_data.proofs.MapLemmas.{change-absent, change-field}
use Rattle.machine_data.specs.Core.{Core}
use Rattle.machine_data.specs.Maps.{get}
use Rattle.machine_data.specs.Moves.{is_callback_waiter, published, put_high, unblocked, wake, wake_joined, waken_by}
use Rattle.machine_data.specs.Read.{blocked_on, course_of, course_value, join_of, place_of, work_caller_of}
use Rattle.machine_data.specs.Write.{on_call, on_thread, on_work, push_high, set_event, set_register, set_stage}
use Rattle.machine_data.specs.declared.records.Delivery.TheVariants as delivery
use Rattle.machine_data.specs.declared.records.Join.{Join}
use Rattle.machine_data.specs.declared.records.Join.TheVariants as join
use Rattle.machine_data.specs.declared.records.Place.{Place}
use Rattle.machine_data.specs.declared.records.Place.TheVariants as place
use Rattle.machine_data.specs.declared.records.Stage.{Stage}
use Rattle.machine_data.specs.declared.records.Stage.TheVariants as stage
use Rattle.machine_data.specs.declared.records.Subtask.{Subtask}
use Rattle.machine_data.specs.declared.records.Subtask.TheVariants as subtask
use Rattle.machine_data.specs.declared.records.Thread.{Thread}
use Rattle.machine_data.specs.declared.records.Why.{Why}
use Rattle.machine_data.specs.declared.records.Why.TheVariants as why
use Rattle.machine_data.specs.declared.records.Work.{Work}
use Rattle.machine_data.specs.declared.records.WorkCaller.{WorkCaller}
use Rattle.machine_data.specs.declared.records.WorkCaller.TheVariants as work_caller
use Rattle.machine_data.specs.declared.statuses.Mark.TheVariants as mark
use Rattle.machine_data.specs.declared.statuses.Status.{Status}
use Rattle.ops_moves.proofs.TellLemmas.{Quiet, can_still, map_or_is}
use Rattle.ops_moves.specs.Idle.{AreIdleUnqueued, CanPublish}
use Rattle.std.proofs.Common.{le_refl}
use Rattle.machine_rules.proofs.StandLemmas.{set_place_there}
use Rattle.machine_rules.specs.Places.{HasPlace, Placed, is_at_high, is_at_low, is_there, says}
use Rattle.machine_rules.specs.Takes.{host_done, host_result, host_status}
use Rattle.core_primitives.specs.Apart.{IsUnqueued}
use Rattle.core_primitives.specs.Live.{kept_in, live_work_caller}
use Rattle.core_primitives.specs.Names.{work_caller_in}
use Rattle.core_primitives.specs.StateView.{StateView, on_core, thread_of, with_core, work_of}
use Rattle.core_primitives.specs.declared.names.WorkCallerId.{WorkCallerId}

-- ---- Who is there stays

abbrev KeepsThere : Core → Core → Type 0
KeepsThere s t = (k : ℕ) → is_there k t ≡ is_there k s

high_there : (m : ℕ) (w : Why) (s : Core) → KeepsThere s (put_high m w s)
unfolding put_high push_high
high_there m w s k = set_place_there k m (place.Ready mark.High w) s

unblocked_there : (o : Option ℕ) (s : Core) → KeepsThere s (unblocked o s)
unblocked_there None s k = refl
unblocked_there (Some m) s k = high_there m why.Resumption s k

waken_there : (b : Bool) (x m : ℕ) (s : Core) → KeepsThere s (waken_by b x m s)
waken_there true x m s k = high_there m (why.Delivery (delivery.Set x)) s k
waken_there false x m s k = high_there m why.Resumption s k

wake_there : (x : ℕ) (w : Option ℕ) (s : Core) → KeepsThere s (wake x w s)
unfolding wake
wake_there x None s k = refl
wake_there x (Some m) s k = waken_there (is_callback_waiter m s) x m s k

joined_there : (j : Join) (w : Option ℕ) (s : Core) → KeepsThere s (wake_joined j w s)
joined_there (join.Set x) w s k = wake_there x w s k
joined_there join.Nowhere w s k = refl
joined_there (join.Watched m) w s k = refl

event_there : (sub : Subtask) (e : Option Status) (s : Core) → KeepsThere s (set_event sub e s)
unfolding set_event on_call on_work
event_there (subtask.Guest q) e s k = refl
event_there (subtask.Host i) e s k = refl

published_there : (sub : Subtask) (e : Status) (w : Option ℕ) (s : Core) → KeepsThere s (published sub e w s)
unfolding published
published_there sub e w s k =
    joined_there (join_of sub s) w _ k ∙ (unblocked_there (blocked_on sub s) (set_event sub (Some e) s) k ∙ event_there sub (Some e) s k)

staged_there : (i : ℕ) (x : Stage) (s : Core) → KeepsThere s (set_stage i x s)
unfolding set_stage on_work
staged_there i x s k = refl

-- ---- Who waits, or is blocked, has no entry

pub placed_idle : (s : Core) → Placed s → AreIdleUnqueued s
placed_idle s placed = record {
  waiters = λ x n h. idle_unqueued n (place_of n s) (grind arith) (placed n) refl;
  blocked = λ sub n h. idle_unqueued n (place_of n s) (grind arith) (placed n) refl;
}
  where
    idle_unqueued : (n : ℕ) (o : Option Place) → (says is_at_high o ≡ 0) × (says is_at_low o ≡ 0) → HasPlace n s → place_of n s ≡ o → IsUnqueued n s
    idle_unqueued n o none h at = record { high = h.high ∙ (ap (says is_at_high) at ∙ none.0); low = h.low ∙ (ap (says is_at_low) at ∙ none.1) }

-- ---- A calling thread that is gone is given nothing

gone_still : (k : ℕ) (s t : Core) → KeepsThere s t → get s.threads k ≡ None → get t.threads k ≡ None
gone_still k s t same e = go (get t.threads k) (same k ∙ ap (λ (o : Option Thread). is_some (option_map (λ (r : Thread). r.place) o)) e)
  where
    go : (o : Option Thread) → is_some (option_map (λ (r : Thread). r.place) o) ≡ false → o ≡ None
    go None h = refl
    go (Some r) h = absurd (subst T h tt)

register_absent : (n r v : ℕ) (s : Core) → get s.threads n ≡ None → set_register n r v s ≡ s
unfolding set_register on_thread
register_absent n r v s gone = ap (λ m. record s { threads = m }) (change-absent s.threads n _ gone)

register_live : (n r v : ℕ) (s t : Core) → get s.threads 0 ≡ None → KeepsThere s t → set_register (kept_in s.threads n) r v t ≡ set_register n r v t
register_live n r v s t zero same = go (get s.threads n) refl
  where
    go : (o : Option Thread) → get s.threads n ≡ o → set_register (if is_some o then n else 0) r v t ≡ set_register n r v t
    go None e = register_absent 0 r v t (gone_still 0 s t same zero) ∙ sym (register_absent n r v t (gone_still n s t same e))
    go (Some x) e = refl

caller_live : (f : WorkCaller) (v : Option ℕ) (s t : Core) → get s.threads 0 ≡ None → KeepsThere s t → host_result (live_work_caller f s) v t ≡ host_result f v t
caller_live (work_caller.Async n r) (Some v) s t zero same = register_live n r v s t zero same
caller_live (work_caller.Async n r) None s t zero same = refl
caller_live work_caller.Spawn v s t zero same = refl
caller_live (work_caller.Sync n) v s t zero same = refl

-- ---- As contracts see it

staged_quiet : (i : ℕ) (x : Stage) (s : Core) → Quiet s (set_stage i x s)
unfolding set_stage on_work
staged_quiet i x s = record {
  untouched = record { places = λ k. refl; switch = λ k. refl; high = λ k. refl; low = λ k. refl; callers = refl; made = le_refl _ };
  joins = λ sub. go sub;
  sets = refl;
}
  where
    go : (sub : Subtask) → join_of sub (set_stage i x s) ≡ join_of sub s
    go (subtask.Guest k) = refl
    go (subtask.Host j) = map_or_is (λ (w : Work). w.join) join.Nowhere _ _ (change-field (λ (w : Work). w.join) i (λ (w : Work). record w { stage = x }) (λ w. refl) s.works j)

module _ (id : TableId HostTaskKey) (waiter : Option (TableId ThreadKey)) where
  pub can_after_stage : (x : Stage) (s t : StateView) → CanPublish (subtask.Host (work_of s id)) waiter s → t ≡ on_core (set_stage (work_of s id) x) s → CanPublish (subtask.Host (work_of t id)) waiter t
  can_after_stage x s t can e = can_still (λ v. subtask.Host (work_of v id)) waiter (set_stage (work_of s id) x) s t refl e (staged_quiet (work_of s id) x s.core) can

  pub host_done_is : (f : WorkCallerId) (v : Option ℕ) (e : Status) (s t u x : StateView) → get s.core.threads 0 ≡ None → v ≡ course_value (course_of (work_of s id) s.core) → work_caller_in s.tags f ≡ live_work_caller (work_caller_of (work_of s id) s.core) s.core → e ≡ host_status v → t ≡ on_core (set_stage (work_of s id) stage.Ended) s → u ≡ on_core (published (subtask.Host (work_of t id)) e (option_map (λ id. thread_of t id) waiter)) t → x ≡ on_core (host_result (work_caller_in u.tags f) v) u → x ≡ on_core (host_done (work_of s id) (option_map (λ id. thread_of s id) waiter)) s
  unfolding host_done
  host_done_is f v e s t u x zero value caller told a b d =
      let I = work_of s id in
      let W = option_map (λ id. thread_of s id) waiter in
      let over = set_stage I stage.Ended s.core in
      let out = λ (k : ℕ). published_there (subtask.Host I) (host_status v) W over k ∙ staged_there I stage.Ended s.core k in
      d
      ∙ (ap (λ (y : StateView). on_core (host_result (work_caller_in y.tags f) v) y) b
      ∙ (ap (λ (y : StateView). on_core (λ c. host_result (work_caller_in y.tags f) v (published (subtask.Host (work_of y id)) e (option_map (λ id. thread_of y id) waiter) c)) y) a
      ∙ (ap (λ (z : Status). with_core (host_result (work_caller_in s.tags f) v (published (subtask.Host I) z W over)) s) told
      ∙ (ap (λ (h : WorkCaller). with_core (host_result h v (published (subtask.Host I) (host_status v) W over)) s) caller
      ∙ (ap (λ (c : Core). with_core c s) (caller_live (work_caller_of I s.core) v s.core (published (subtask.Host I) (host_status v) W over) zero out)
      ∙ ap (λ (o : Option ℕ). with_core (host_result (work_caller_of I s.core) o (published (subtask.Host I) (host_status o) W over)) s) value)))))
