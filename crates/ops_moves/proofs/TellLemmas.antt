-- The end of a task, written: what it leaves as it was.
use Rattle.std.proofs.Common.{ap, ap₂, refl, subst, sym, ◌∙◌}
use Rattle.std.specs.Option.{option_map_or}
use Rattle.std.specs.Prelude.{Bool, IfSome, None, Option, Some, false, if◌then◌else◌, is_some, option_map, true, unwrap_or, ℕ, ◌<◌, ◌≡◌}
use Rattle.task_table.specs.declared.id.TableId.{TableId}
use Rattle.task_wait.specs.declared.keys.GuestTaskKey.{GuestTaskKey}
use Rattle.task_wait.specs.declared.keys.ThreadKey.{ThreadKey}
use Rattle.machine_data.proofs.MapLemmas.{change-absent, change-field}
use Rattle.machine_data.specs.Core.{Core}
use Rattle.machine_data.specs.Maps.{Records, get}
use Rattle.machine_data.specs.Read.{caller_of, goal_of, is_at, is_blocked_on, is_waiting_on, join_of}
use Rattle.machine_data.specs.Write.{give_result, on_call, on_thread, set_end, set_register, set_result}
use Rattle.machine_data.specs.declared.records.Call.{Call}
use Rattle.machine_data.specs.declared.records.CallEnd.{CallEnd}
use Rattle.machine_data.specs.declared.records.CallEnd.TheVariants as call_end
use Rattle.machine_data.specs.declared.records.Caller.{Caller}
use Rattle.machine_data.specs.declared.records.Caller.TheVariants as caller
use Rattle.machine_data.specs.declared.records.Goal.{Goal}
use Rattle.machine_data.specs.declared.records.Goal.TheVariants as goal
use Rattle.machine_data.specs.declared.records.Join.TheVariants as join
use Rattle.machine_data.specs.declared.records.Place.{Place}
use Rattle.machine_data.specs.declared.records.Set.{Set}
use Rattle.machine_data.specs.declared.records.Subtask.{Subtask}
use Rattle.machine_data.specs.declared.records.Subtask.TheVariants as subtask
use Rattle.machine_data.specs.declared.records.Thread.{Thread}
use Rattle.machine_data.specs.declared.statuses.Status.TheVariants as status
use Rattle.ops_moves.specs.Idle.{AreIdleUnqueued, CanPublish, IsJoinThere, IsWaiting, number_of}
use Rattle.machine_rules.proofs.StopLemmas.{Untouched}
use Rattle.ops_moves.proofs.UntouchedLemmas.{give_result_untouched, same_untouched, set_end_untouched, set_register_untouched, set_result_untouched}
use Rattle.machine_rules.specs.Ends.{result_given, returned, told}
use Rattle.core_primitives.specs.Apart.{IsUnqueued}
use Rattle.core_primitives.specs.Live.{kept_in, live_caller}
use Rattle.core_primitives.specs.Names.{caller_in}
use Rattle.core_primitives.specs.StateView.{StateView, call_of, on_core, thread_of, with_core}
use Rattle.core_primitives.specs.declared.names.CallerId.{CallerId}

-- From s to t no place, entry, join or set changes.
pub record Quiet (s t : Core) : Type 0 where
  pub untouched : Untouched s t
  pub joins : (sub : Subtask) → join_of sub t ≡ join_of sub s
  pub sets : t.sets ≡ s.sets

quiet_unqueued : (n : ℕ) (s t : Core) → Untouched s t → IsUnqueued n s → IsUnqueued n t
quiet_unqueued n s t u h = record { high = u.high n ∙ h.high; low = u.low n ∙ h.low }

at_before : (test : Place → Bool) (n : ℕ) (s t : Core) → Untouched s t → is_at n t test ≡ true → is_at n s test ≡ true
at_before test n s t u h = sym (ap (λ (o : Option Place). option_map_or test o false) (u.places n)) ∙ h

pub quiet_idle : (s t : Core) → Untouched s t → AreIdleUnqueued s → AreIdleUnqueued t
quiet_idle s t u idle = record {
  waiters = λ x n h. quiet_unqueued n s t u (idle.waiters x n (at_before (is_waiting_on x) n s t u h));
  blocked = λ sub n h. quiet_unqueued n s t u (idle.blocked sub n (at_before (is_blocked_on sub) n s t u h));
}

pub quiet_there : (sub : Subtask) (s t : Core) → Quiet s t → IsJoinThere sub s → IsJoinThere sub t
quiet_there sub s t q there x e = ap (λ (m : Records Set). is_some (get m x)) q.sets ∙ there x (sym (q.joins sub) ∙ e)

pub quiet_waiting : (n : ℕ) (s t : Core) → Untouched s t → IsWaiting n s → IsWaiting n t
quiet_waiting n s t u waits = (waits.0, ap (λ (o : Option Place). option_map_or (is_waiting_on waits.0) o false) (u.places n) ∙ waits.1)

-- ---- Fields of calls

pub map_or_is : {X Y : Type 0} (g : X → Y) (d : Y) (o p : Option X) → option_map g o ≡ option_map g p → option_map_or g o d ≡ option_map_or g p d
map_or_is {X = X} {Y = Y} g d o p e = sym (at o) ∙ (ap (λ (r : Option Y). unwrap_or r d) e ∙ at p)
  where
    at : (r : Option X) → unwrap_or (option_map g r) d ≡ option_map_or g r d
    at None = refl
    at (Some x) = refl

pub call_quiet : (k : ℕ) (f : Call → Call) (s : Core) → ((c : Call) → (f c).join ≡ c.join) → Untouched s (on_call k f s) → Quiet s (on_call k f s)
unfolding on_call
call_quiet k f s keeps u = record { untouched = u; joins = λ sub. go sub; sets = refl }
  where
    go : (sub : Subtask) → join_of sub (on_call k f s) ≡ join_of sub s
    go (subtask.Guest q) = map_or_is (λ (c : Call). c.join) join.Nowhere _ _ (change-field (λ (c : Call). c.join) k f keeps s.calls q)
    go (subtask.Host i) = refl

pub end_quiet : (k : ℕ) (e : CallEnd) (s : Core) → Quiet s (set_end k e s)
unfolding set_end
end_quiet k e s = call_quiet k (λ c. record c { «end» = Some e }) s (λ c. refl) (set_end_untouched k e s)

pub goal_ended : (k q : ℕ) (e : CallEnd) (s : Core) → goal_of q (set_end k e s) ≡ goal_of q s
unfolding set_end on_call
goal_ended k q e s = map_or_is (λ (c : Call). c.goal) goal.Nowhere _ _ (change-field (λ (c : Call). c.goal) k (λ c. record c { «end» = Some e }) (λ c. refl) s.calls q)

-- ---- The result

register_quiet : (n r v : ℕ) (s : Core) → Quiet s (set_register n r v s)
unfolding set_register on_thread
register_quiet n r v s = record { untouched = set_register_untouched n r v s; joins = λ sub. go sub; sets = refl }
  where
    go : (sub : Subtask) → join_of sub (set_register n r v s) ≡ join_of sub s
    go (subtask.Guest q) = refl
    go (subtask.Host i) = refl

give_quiet : (k v : ℕ) (s : Core) → Quiet s (give_result k v s)
unfolding give_result
give_quiet k v s = record { untouched = give_result_untouched k v s; joins = λ sub. go sub; sets = refl }
  where
    go : (sub : Subtask) → join_of sub (give_result k v s) ≡ join_of sub s
    go (subtask.Guest q) = refl
    go (subtask.Host i) = refl

answer_quiet : (k : ℕ) (v : Option ℕ) (s : Core) → Quiet s (set_result k v s)
unfolding set_result
answer_quiet k v s = call_quiet k (λ c. record c { result = v }) s (λ c. refl) (set_result_untouched k v s)

pub same_quiet : (s : Core) → Quiet s s
same_quiet s = record { untouched = same_untouched s; joins = λ sub. refl; sets = refl }

pub result_quiet : (g : Goal) (f : Caller) (k v : ℕ) (s : Core) → Quiet s (result_given g f k v s)
result_quiet goal.Main f k v s = give_quiet k v s
result_quiet (goal.Register r) (caller.Thread n) k v s = register_quiet n r v s
result_quiet (goal.Register r) caller.Main k v s = same_quiet s
result_quiet goal.Answer f k v s = answer_quiet k (Some v) s
result_quiet goal.Nowhere f k v s = same_quiet s
result_quiet goal.Direct f k v s = same_quiet s

register_absent : (n r v : ℕ) (s : Core) → get s.threads n ≡ None → set_register n r v s ≡ s
unfolding set_register on_thread
register_absent n r v s gone = ap (λ m. record s { threads = m }) (change-absent s.threads n _ gone)

register_live : (n r v : ℕ) (s t : Core) → get s.threads 0 ≡ None → t.threads ≡ s.threads → set_register (kept_in s.threads n) r v t ≡ set_register n r v t
register_live n r v s t zero same = go (get s.threads n) refl
  where
    go : (o : Option Thread) → get s.threads n ≡ o → set_register (if is_some o then n else 0) r v t ≡ set_register n r v t
    go None e = register_absent 0 r v t (ap (λ m. get m 0) same ∙ zero) ∙ sym (register_absent n r v t (ap (λ m. get m n) same ∙ e))
    go (Some x) e = refl

-- a caller that is gone is given nothing
result_live : (g : Goal) (f : Caller) (k v : ℕ) (s t : Core) → get s.threads 0 ≡ None → t.threads ≡ s.threads → result_given g (live_caller f s) k v t ≡ result_given g f k v t
result_live (goal.Register r) (caller.Thread n) k v s t zero same = register_live n r v s t zero same
result_live (goal.Register r) caller.Main k v s t zero same = refl
result_live goal.Main f k v s t zero same = refl
result_live goal.Answer f k v s t zero same = refl
result_live goal.Nowhere f k v s t zero same = refl
result_live goal.Direct f k v s t zero same = refl

-- ---- As contracts see it

still_waiting : (waiter : Option (TableId ThreadKey)) (f : Core → Core) (s : StateView) → Untouched s.core (f s.core) → IfSome waiter (λ id. IsWaiting (thread_of s id) s.core) → IfSome waiter (λ id. IsWaiting (thread_of s id) (f s.core))
still_waiting None f s u waits = tt
still_waiting (Some id) f s u waits = quiet_waiting (thread_of s id) s.core (f s.core) u waits

pub can_still : (sub : StateView → Subtask) (waiter : Option (TableId ThreadKey)) (f : Core → Core) (s t : StateView) → sub (on_core f s) ≡ sub s → t ≡ on_core f s → Quiet s.core (f s.core) → CanPublish (sub s) waiter s → CanPublish (sub t) waiter t
can_still sub waiter f s t named e q can = subst (λ (v : StateView). CanPublish (sub v) waiter v) (sym e) (record {
  named = subst (λ (i : Subtask). 0 < number_of i) (sym named) can.named;
  idle = quiet_idle s.core (f s.core) q.untouched can.idle;
  there = subst (λ (i : Subtask). IsJoinThere i (f s.core)) (sym named) (quiet_there (sub s) s.core (f s.core) q can.there);
  live = can.live;
  waits = still_waiting waiter f s q.untouched can.waits;
})

abbrev call_in : TableId GuestTaskKey → StateView → Subtask
call_in k s = subtask.Guest (call_of s k)

pub can_after_end : (k : TableId GuestTaskKey) (e : CallEnd) (waiter : Option (TableId ThreadKey)) (s t : StateView) → t ≡ on_core (set_end (call_of s k) e) s → CanPublish (call_in k s) waiter s → CanPublish (call_in k t) waiter t
can_after_end k e waiter s t d can = can_still (call_in k) waiter (set_end (call_of s k) e) s t refl d (end_quiet (call_of s k) e s.core) can

pub can_after_result : (k : TableId GuestTaskKey) (g : Goal) (f : CallerId) (v : ℕ) (waiter : Option (TableId ThreadKey)) (s t : StateView) → t ≡ on_core (result_given g (caller_in s.tags f) (call_of s k) v) s → CanPublish (call_in k s) waiter s → CanPublish (call_in k t) waiter t
can_after_result k g f v waiter s t d can = can_still (call_in k) waiter (result_given g (caller_in s.tags f) (call_of s k) v) s t refl d (result_quiet g (caller_in s.tags f) (call_of s k) v s.core) can

pub main_ended : (k : TableId GuestTaskKey) (g : Goal) (e : CallEnd) (s t : StateView) → g ≡ goal_of (call_of s k) s.core → t ≡ on_core (set_end (call_of s k) e) s → g ≡ goal.Main → goal_of (call_of t k) t.core ≡ goal.Main
main_ended k g e s t is d main = ap (λ (v : StateView). goal_of (call_of v k) v.core) d ∙ (goal_ended (call_of s k) (call_of s k) e s.core ∙ (sym is ∙ main))

same_threads : (k : ℕ) (e : CallEnd) (s : Core) → (set_end k e s).threads ≡ s.threads
unfolding set_end on_call
same_threads k e s = refl

pub returned_is : (k : TableId GuestTaskKey) (g : Goal) (f : CallerId) (v : ℕ) (waiter : Option (TableId ThreadKey)) (s t u x : StateView) → get s.core.threads 0 ≡ None → g ≡ goal_of (call_of s k) s.core → caller_in s.tags f ≡ live_caller (caller_of (call_of s k) s.core) s.core → t ≡ on_core (set_end (call_of s k) call_end.Returned) s → u ≡ on_core (result_given g (caller_in t.tags f) (call_of t k) v) t → x ≡ on_core (told (call_of u k) status.Returned (option_map (λ id. thread_of u id) waiter)) u → x ≡ on_core (returned (call_of s k) v (option_map (λ id. thread_of s id) waiter)) s
unfolding returned
returned_is k g f v waiter s t u x zero goal_is caller_is a b d =
    let K = call_of s k in
    let W = option_map (λ id. thread_of s id) waiter in
    let over = set_end K call_end.Returned s.core in
    let given = ap₂ (λ (h : Goal) (c : Caller). result_given h c K v over) goal_is caller_is ∙ result_live (goal_of K s.core) (caller_of K s.core) K v s.core over zero (same_threads K call_end.Returned s.core) in
    (d ∙ (ap (λ (y : StateView). on_core (told (call_of y k) status.Returned (option_map (λ id. thread_of y id) waiter)) y) b
    ∙ ap (λ (y : StateView). on_core (λ c. told (call_of y k) status.Returned (option_map (λ id. thread_of y id) waiter) (result_given g (caller_in y.tags f) (call_of y k) v c)) y) a))
    ∙ ap (λ (c : Core). with_core (told K status.Returned W c) s) given
