-- After a return and after the exit of a direct call wakes are counted.
use Rattle.laws_order.proofs.PieceLemmas.{Moved, moved_waits, moved_woken, promoted_moved}
use Rattle.laws_states.proofs.WakeCounts.{woken_at, woken_place}
use Rattle.machine_data.specs.Maps.{remove}
use Rattle.machine_data.specs.Moves.{call_settled, checked, ended, exited_if, first_entry, freed_thread_handle, group_settled, interest_settled, is_deletable, is_finished, is_group_done, promoted_first}
use Rattle.machine_data.specs.Read.{call_group, may_not_suspend, thread_handle_of}
use Rattle.machine_data.specs.declared.records.CallEnd.{CallEnd}
use Rattle.laws_places.proofs.CountedSteps.{counted_stay}
use Rattle.laws_places.proofs.Laws.{Bool, Call, Core, OpProgress, None, Option, Place, Placed, Records, Some, Subtask, Thread, WakesCounted, ap, arith, by_number, false, free_thread_handle, get, get-change, get-remove, op_progress_of, if◌then◌else◌, inl, instance_of, is_explicit, is_ready_member, is_some, is_waiter, is_woken_at, member_same, nat_tests, not, on_call, on_instance, on_thread, option_map_or, place_of, refl, remove_call, remove_group, remove_thread, set_end, set_exited, set_op_progress, set_place, set_uninteresting, sym, task_of, true, ℕ, ◌==◌, ◌||◌, ◌∙◌, ◌≡◌}
use Rattle.laws_places.proofs.PlaceLaw.{entry_ready, listed}
use Rattle.machine_rules.proofs.PromotionLemmas.{first_has_entry}
use Rattle.machine_rules.specs.Ends.{direct_exits}

-- ---- A check

pub checked_moved : (i : ℕ) (s : Core) → Placed s → (j : ℕ) → Moved (place_of j s) (place_of j (checked i s))
unfolding checked
checked_moved i s all j = by (not (may_not_suspend i s) || is_some s.queues.switch)
  where
    first : (o : Option ℕ) → first_entry i s ≡ o → Moved (place_of j s) (place_of j (promoted_first o s))
    first None is = inl refl
    first (Some k) is = let r = entry_ready k s (all k) (listed k s (first_has_entry i s k is)) in promoted_moved k s r.0 r.1.0 r.1.1 j

    by : (b : Bool) → Moved (place_of j s) (place_of j (if b then s else promoted_first (first_entry i s) s))
    by true = inl refl
    by false = first (first_entry i s) refl

-- ---- The end of a thread

-- with the same threads, and no more ready members
abbrev Fewer : Core → Core → Type 0
Fewer e z = (z.threads ≡ e.threads) × ((y : ℕ) (sub : Subtask) → is_ready_member y sub z ≡ true → is_ready_member y sub e ≡ true)

fewer_same : (e : Core) → Fewer e e
fewer_same e = (refl, λ y sub on. on)

fewer_after : (e d z : Core) → Fewer e d → Fewer d z → Fewer e z
fewer_after e d z h q = (q.0 ∙ h.0, λ y sub on. h.1 y sub (q.1 y sub on))

fewer_beside : (e z : Core) → z.threads ≡ e.threads → z.calls ≡ e.calls → z.works ≡ e.works → Fewer e z
fewer_beside e z threads calls works = (threads, λ y sub on. sym (member_same y e z calls works sub) ∙ on)

removed_fewer : (k : ℕ) (e : Core) → Fewer e (remove_call k e)
unfolding remove_call
removed_fewer k e = (refl, ready)
  where
    ready : (y : ℕ) (sub : Subtask) → is_ready_member y sub (remove_call k e) ≡ true → is_ready_member y sub e ≡ true
    ready y (Subtask.Guest q) on = grind (arith, nat_tests, get-remove, on)
    ready y (Subtask.Host i) on = on

called_fewer : (k : ℕ) (f : Call → Call) (e : Core) → ((c : Call) → ((f c).join ≡ c.join) × ((f c).event ≡ c.event)) → Fewer e (on_call k f e)
unfolding on_call
called_fewer k f e same = (refl, ready)
  where
    ready : (y : ℕ) (sub : Subtask) → is_ready_member y sub (on_call k f e) ≡ true → is_ready_member y sub e ≡ true
    ready y (Subtask.Guest q) on = grind (arith, nat_tests, get-change, on, same)
    ready y (Subtask.Host i) on = on

group_fewer : (g : ℕ) (e d : Core) → Fewer e d → Fewer e (group_settled g d)
unfolding group_settled remove_group
group_fewer g e d h = by (is_group_done g d)
  where
    by : (b : Bool) → Fewer e (if b then remove_group g d else d)
    by true = fewer_after e d (remove_group g d) h (fewer_beside d (remove_group g d) refl refl refl)
    by false = h

settled_fewer : (k : ℕ) (e : Core) → Fewer e (call_settled k e)
unfolding call_settled
settled_fewer k e = by (is_deletable k e)
  where
    by : (b : Bool) → Fewer e (if b then group_settled (call_group k e) (remove_call k e) else e)
    by true = group_fewer (call_group k e) e (remove_call k e) (removed_fewer k e)
    by false = fewer_same e

interest_fewer : (k : ℕ) (e : Core) → Fewer e (interest_settled k e)
unfolding interest_settled set_uninteresting
interest_fewer k e = by (option_map_or is_finished (get e.calls k) false)
  where
    by : (b : Bool) → Fewer e (if b then set_uninteresting k e else e)
    by true = called_fewer k (λ c. record c { interesting = false }) e (λ c. (refl, refl))
    by false = fewer_same e

exited_fewer : (b : Bool) (k : ℕ) (e : Core) → Fewer e (exited_if b k e)
unfolding set_exited
exited_fewer true k e = fewer_same e
exited_fewer false k e = called_fewer k (λ c. record c { exited = true }) e (λ c. (refl, refl))

freed_fewer : (i : ℕ) (o : Option ℕ) (e : Core) → Fewer e (freed_thread_handle i o e)
unfolding free_thread_handle on_instance
freed_fewer i None e = fewer_same e
freed_fewer i (Some h) e = fewer_beside e (free_thread_handle i h e) refl refl refl

-- the thread is gone, and all others are as they were
ended_fewer : (n : ℕ) (e : Core) → ((ended n e).threads ≡ remove e.threads n) × ((y : ℕ) (sub : Subtask) → is_ready_member y sub (ended n e) ≡ true → is_ready_member y sub e ≡ true)
unfolding ended remove_thread
ended_fewer n e =
    let over = exited_if (is_explicit n e) (task_of n e) e in
    let f = freed_thread_handle (instance_of n e) (thread_handle_of n e) over in
    let r = remove_thread n f in
    let a = fewer_after e over f (exited_fewer (is_explicit n e) (task_of n e) e) (freed_fewer (instance_of n e) (thread_handle_of n e) over) in
    let b = fewer_after r (interest_settled (task_of n e) r) (ended n e) (interest_fewer (task_of n e) r) (settled_fewer (task_of n e) (interest_settled (task_of n e) r)) in
    (b.0 ∙ ap (λ (m : Records Thread). remove m n) a.0, λ y sub on. a.1 y sub (sym (member_same y f r refl refl sub) ∙ b.1 y sub on))

-- ---- The exit of a direct call

-- From s a thread that runs outside of ops has ended as a direct callee, and the one under it goes on; u is the core once the flag is back or the
-- check was made.
module _ (n m v : ℕ) (s u : Core) (runs : place_of n s ≡ Some Place.Running) (fresh : op_progress_of n s ≡ OpProgress.Fresh) (under : place_of m s ≡ Some (Place.Under n))
    (moved : (j : ℕ) → Moved (place_of j s) (place_of j u)) (far : (j : ℕ) → op_progress_of j u ≡ op_progress_of j s) (calls : u.calls ≡ s.calls) (works : u.works ≡ s.works) where
  abbrev over : Core
  over = set_end (task_of n u) CallEnd.Returned u

  abbrev last : Core
  last = direct_exits n m v u

  over_fewer : Fewer u over
  unfolding set_end
  over_fewer = called_fewer (task_of n u) (λ c. record c { «end» = Some CallEnd.Returned }) u (λ c. (refl, refl))

  gone : (j : ℕ) → get (ended n over).threads j ≡ (if j == n then None else get u.threads j)
  gone j = ap (λ (r : Records Thread). get r j) ((ended_fewer n over).0 ∙ ap (λ (r : Records Thread). remove r n) over_fewer.0) ∙ get-remove u.threads n j

  waits : (y j : ℕ) → is_waiter y j last ≡ true → is_waiter y j s ≡ true
  unfolding direct_exits set_op_progress set_place on_thread
  waits y j on = moved_waits y (place_of j s) (place_of j u) (moved j) (let at = gone j in by_number j m _
      (λ is. absurd (grind (arith, nat_tests, get-change, on, is)))
      (λ apart. grind (arith, nat_tests, get-change, at, on, apart)))

  ready : (y : ℕ) (sub : Subtask) → is_ready_member y sub last ≡ true → is_ready_member y sub s ≡ true
  unfolding direct_exits set_op_progress set_place on_thread
  ready y sub on = sym (member_same y s u calls works sub) ∙ over_fewer.1 y sub ((ended_fewer n over).1 y sub (sym (member_same y (ended n over) last refl refl sub) ∙ on))

  stays_woken : (y j : ℕ) → is_woken_at y j s ≡ true → is_woken_at y j last ≡ true
  unfolding direct_exits set_op_progress set_place on_thread
  stays_woken y j on = by_number j n _
      (λ is. absurd (let was = sym (woken_at y j s) ∙ on in grind (arith, was, is, runs, fresh)))
      (λ apart. by_number j m _
      (λ is. absurd (let was = sym (woken_at y j s) ∙ on in grind (arith, was, is, under)))
      (λ other. let was = moved_woken y (op_progress_of j s) (place_of j s) (place_of j u) (moved j) (sym (woken_at y j s) ∙ on) in
      let at = gone j in
      let place : place_of j last ≡ place_of j u = grind (arith, nat_tests, get-change, at, apart, other) in
      let same : op_progress_of j last ≡ op_progress_of j u = grind (arith, nat_tests, get-change, at, apart, other) in
      woken_at y j last ∙ (ap (λ (o : Option Place). woken_place y o (op_progress_of j last)) place ∙ (ap (woken_place y (place_of j u)) (same ∙ far j) ∙ was))))

  pub exit_counted : WakesCounted s → WakesCounted last
  exit_counted counted = counted_stay waits ready stays_woken counted
