-- What the start of a call results in, of what was told and made; what stays of the store; and what is so of it then.
use Rattle.store_notices.proofs.MoveLemmas.{with_hook_ok}
use Rattle.store_notices.specs.Moves.{finishes}
use Rattle.ops_state.specs.declared.error.TaskError.{TaskError}
use Rattle.ops_state.specs.declared.error.TaskError.TheVariants as task_error
use Rattle.std.proofs.Common.{ap, arith, inl, inr, refl, subst, sym, ◌∙◌}
use Rattle.std.specs.Prelude.{Bool, Err, List, None, Ok, Option, Some, [], false, is_some, true, ℕ, ◌++◌, ◌+◌, ◌∷◌, ◌≡◌, ◌≢◌, ◌≤◌}
use Rattle.ops_calls.proofs.ApartLemmas.{trap_in_order}
use Rattle.ops_calls.specs.MainCalls.{Starts}
use Rattle.ops_calls.specs.Untrapped.{StartsUntrapped}
use Rattle.task_group.proofs.GroupLemmas.{still_hook_is_ok}
use Rattle.task_group.specs.Listeners.{AnsweredErr, Listeners, ToldListeners, ToldWithHookOk, errors_of}
use Rattle.task_loop.proofs.HookLemmas.{answered_after}
use Rattle.task_loop.proofs.HookStartLemmas.{heard_or_not, unfailed_always, unfailed_map, unfailed_on, if_hook_ok_at, unhooked_always, unhooked_map}
use Rattle.task_loop.proofs.StartLemmas.{refused_starts, start_groups, trapped_hosts, untrapped_holds}
use Rattle.task_loop.proofs.UnmadeLemmas.{unmade_untold}
use Rattle.task_loop.specs.Begun.{TellsStopped}
use Rattle.task_loop.specs.CallStarts.{HasStarted, IsReason, KeepsStore, LeavesUnmade, StopsUnmade}
use Rattle.task_loop.specs.Hooked.{Unfailed, IfHookOk, Unhooked}
use Rattle.task_loop.specs.Told.{StartFails}
use Rattle.task_loop.specs.declared.call.FuncCallConcurrent.{FuncCallConcurrent}
use Rattle.machine_data.specs.Core.{Core}
use Rattle.machine_data.specs.Write.{set_trapped}
use Rattle.machine_data.specs.declared.component.Callee.{Callee}
use Rattle.machine_data.specs.declared.component.Component.{Component}
use Rattle.machine_data.specs.declared.records.Notice.{Notice}
use Rattle.machine_data.specs.declared.records.NoticeKind.TheVariants as notice
use Rattle.machine_data.specs.declared.records.Turn.{Turn}
use Rattle.machine_data.specs.declared.trap.Trap.{Trap}
use Rattle.machine_data.specs.declared.trap.Trap.TheVariants as trap
use Rattle.machine_rules.specs.MainOps.{main_started, start_refusal}
use Rattle.machine_rules.specs.Notices.{told_of}
use Rattle.task_store.specs.Hosts.{HoldsHosts, HoldsWorks, held_by}
use Rattle.task_store.specs.declared.store.Store.{Store}
use Rattle.ops_turns.specs.Turn.{CoreInOrder}
use Rattle.core_primitives.specs.Groups.{IsAsked, asked}
use Rattle.core_primitives.specs.StateView.{StateView, on_core}

-- ---- What stays of a store

pub keeps_all : {T H G : Type 0} (c : Component) (s : Store T H G) → KeepsStore c s s
keeps_all c s = record { order = λ p in_turn. in_turn; works = λ course h. h; asked = λ is. is; hook = refl; rest = refl }

-- one call after another
pub keeps_then : {T H G : Type 0} (c : Component) (s m t : Store T H G) → KeepsStore c s m → KeepsStore c m t → KeepsStore c s t
keeps_then {T} {H} {G} c s m t a b = record {
  order = λ p in_turn. b.order p (a.order p in_turn);
  works = λ course h. b.works course (a.works course h);
  asked = λ is. b.asked (a.asked is);
  hook = b.hook ∙ a.hook;
  rest = b.rest ∙ ap (λ (k : Store T H G). record k { state = t.state; listeners = t.listeners }) a.rest;
}

-- the state is as before
pub keeps_still : {T H G : Type 0} (c : Component) (s : Store T H G) (u : StateView) (l : Listeners) → u ≡ s.state → is_some l.hook ≡ is_some s.listeners.hook → KeepsStore c s (record s { state = u; listeners = l })
keeps_still c s u l state hook = record {
  order = λ p in_turn. subst (λ (v : StateView). CoreInOrder c p v.core) (sym state) in_turn;
  works = λ course h. subst (λ (v : StateView). HoldsWorks (held_by course s) v.core) (sym state) h;
  asked = λ is. subst (λ (v : StateView). IsAsked v) (sym state) is;
  hook = hook;
  rest = refl;
}

-- the store was trapped then
module _ {T H G : Type 0} (s m t : Store T H G) (is : t ≡ record m { state = asked (on_core set_trapped m.state); listeners = t.listeners })
    (told : ToldListeners (finishes m.state.tags.tracked) m.listeners t.listeners) where
  trapped_state : t.state ≡ asked (on_core set_trapped m.state)
  trapped_state = ap (λ (k : Store T H G). k.state) is

  pub keeps_trapped : (c : Component) → KeepsStore c s m → KeepsStore c s t
  keeps_trapped c k = record {
    order = λ p in_turn. subst (λ (v : StateView). CoreInOrder c p v.core) (sym trapped_state) (trap_in_order c p m.state.core (k.order p in_turn));
    works = λ course h. subst (λ (x : Store T H G). HoldsHosts course x) (sym is) (trapped_hosts course m t.listeners (k.works course h));
    asked = λ was. subst (λ (v : StateView). IsAsked v) (sym trapped_state) refl;
    hook = told.same_hook ∙ k.hook;
    rest = ap (λ (x : Store T H G). record x { state = t.state; listeners = t.listeners }) is
        ∙ ap (λ (x : Store T H G). record x { state = t.state; listeners = t.listeners }) k.rest;
  }

  pub stops_unmade : (listens : Bool) (why : TaskError) → LeavesUnmade listens (start_refusal s.state.core) None s why m → StopsUnmade listens s why t
  stops_unmade listens why left = record {
    reason = by (start_refusal s.state.core) left.reason;
    state = trapped_state ∙ ap (λ (v : StateView). asked (on_core set_trapped v)) left.state;
    told = record { between = m.listeners; told = left.told; finished = known_told told };
    unhooked = unhooked_map listens _ _ _ (λ same. subst (λ (l : Listeners). ToldListeners (finishes s.state.tags.tracked) l t.listeners) same (known_told told)) left.unhooked;
  }
    where
      known_told : ToldListeners (finishes m.state.tags.tracked) m.listeners t.listeners → ToldListeners (finishes s.state.tags.tracked) m.listeners t.listeners
      known_told q = subst (λ (v : StateView). ToldListeners (finishes v.tags.tracked) m.listeners t.listeners) left.state q

      by : (o : Option Trap) → IsReason listens o why s.listeners m.listeners → IsReason listens o why s.listeners t.listeners
      by (Some w) is = is
      by None (inl out_of_memory) = inl out_of_memory
      by None (inr hook) = inr (hook.0, (hook.1.0, (let err = hook.1.1 in let more = told.errors in omega (arith, err, more))))

-- ---- Why a call isn't made

pub reason_refused : (listens : Bool) (o : Option Trap) (w : Trap) (a b : Listeners) → o ≡ Some w → IsReason listens o (task_error.Trap w) a b
reason_refused listens o w a b is = subst (λ (x : Option Trap). IsReason listens x (task_error.Trap w) a b) (sym is) refl

pub reason_out_of_memory : (listens : Bool) (o : Option Trap) (why : TaskError) (a b : Listeners) → o ≡ None → why ≡ task_error.NoMemory → IsReason listens o why a b
reason_out_of_memory listens o why a b is wants = subst (λ (x : Option Trap). IsReason listens x why a b) (sym is) (inl wants)

pub reason_hook : (listens : Bool) (o : Option Trap) (why : TaskError) (a b : Listeners) → o ≡ None → listens ≡ true → AnsweredErr a b →
    why ≡ task_error.Trap trap.HookFailed → IsReason listens o why a b
reason_hook listens o why a b is hears err hook = subst (λ (x : Option Trap). IsReason listens x why a b) (sym is) (inr (hook, (hears, err)))

-- it was out of memory after the new group was told of, and the hook answered an error to its finish, or none
pub reason_back : (listens : Bool) (o : Option Trap) (why r : TaskError) (a b d : Listeners) {ns : List Notice} → o ≡ None → listens ≡ true →
    why ≡ task_error.NoMemory → errors_of a ≤ errors_of b → ToldListeners ns b d → IfHookOk listens b d (r ≡ why) →
    (AnsweredErr b d → r ≡ task_error.Trap trap.HookFailed) → IsReason listens o r a d
reason_back listens o why r a b d is hears wants first last answer failed = elim (heard_or_not b d last.errors) [
  | inl err ↦ reason_hook listens o r a d is hears (answered_after a b d first err) (failed err)
  | inr same ↦ reason_out_of_memory listens o r a d is (if_hook_ok_at listens b d (r ≡ why) answer (λ err. omega (arith, err, same)) ∙ wants)
]

-- if it is refused by the hook, that listens, and answered an error
pub reason_heard : (listens : Bool) (o : Option Trap) (why : TaskError) (a b : Listeners) → ((w : Trap) → o ≡ Some w → w ≡ trap.HookFailed → ⊥) →
    IsReason listens o why a b → why ≡ task_error.Trap trap.HookFailed → (listens ≡ true) × AnsweredErr a b
reason_heard listens (Some w) why a b other is hook = absurd (other w refl (let e = sym is ∙ hook in cc))
reason_heard listens None why a b other (inl wants) hook = absurd (let e = sym wants ∙ hook in cc)
reason_heard listens None why a b other (inr heard) hook = heard.1

-- else it is as of a start that asks no hook
pub reason_untrapped : (c : Component) (e : Callee) (words : List ℕ) (s : StateView) (listens : Bool) (o : Option Trap) (why : TaskError) (a b : Listeners) →
    IsReason listens o why a b → Unfailed {A = FuncCallConcurrent} listens (Err why) (StartsUntrapped c e words s o (Err why) s)
reason_untrapped c e words s listens (Some w) why a b is =
    unfailed_always listens (Err why) (StartsUntrapped c e words s (Some w) (Err why) s) (ap Err is, refl)
reason_untrapped c e words s listens None why a b (inl wants) =
    unfailed_always listens (Err why) (StartsUntrapped c e words s None (Err why) s) (wants, refl)
reason_untrapped c e words s listens None why a b (inr hook) =
    unfailed_on listens (Err why) (StartsUntrapped c e words s None (Err why) s) hook.1.0 (λ no. absurd (no (ap Err hook.0)))

-- ---- A call that isn't made

-- nothing was told
pub leaves_told_none : {T H G : Type 0} (listens : Bool) (refusal : Option Trap) (s t : Store T H G) (why : TaskError) →
    IsReason listens refusal why s.listeners t.listeners → why ≢ task_error.Trap trap.HookFailed → t.state ≡ s.state → t.listeners ≡ s.listeners →
    LeavesUnmade listens refusal None s why t
leaves_told_none listens refusal s t why reason other state same = record {
  reason = reason;
  state = state;
  told = unmade_untold why s.state.core s.listeners t.listeners other same;
  unhooked = unhooked_always listens _ _ same;
}

-- where a hook is there
pub unhooked_never : (b : Bool) (l : Listeners) (P : Type 0) → b ≡ true → is_some l.hook ≡ true → Unhooked b l P
unhooked_never false l P listens hooked = absurd (cc)
unhooked_never true l P listens hooked = λ none. absurd (let e = sym hooked ∙ none in cc)

-- ---- What is so of a start

-- a start that was made is one that traps the store if it isn't
pub started : (c : Component) (e : Callee) (words : List ℕ) (s t : StateView) (o : Option Trap) (n : ℕ) → StartsUntrapped c e words s o (Ok n) t →
    Starts c e words s o (Ok n) t
started c e words s t (Some w) n k = absurd (let refused = k.0 in cc)
started c e words s t None n k = k

started_core : (c : Component) (e : Callee) (words : List ℕ) (s t : StateView) (o : Option Trap) (n : ℕ) → StartsUntrapped c e words s o (Ok n) t →
    t.core ≡ main_started c e words s.core
started_core c e words s t (Some w) n k = absurd (let refused = k.0 in cc)
started_core c e words s t None n k = k.1.core

-- the next group is tracked, too
started_asked : (c : Component) (e : Callee) (words : List ℕ) (s t : StateView) (o : Option Trap) (n : ℕ) → StartsUntrapped c e words s o (Ok n) t → IsAsked s → IsAsked t
started_asked c e words s t (Some w) n k is = absurd (let refused = k.0 in cc)
started_asked c e words s t None n k is =
    k.1.tags.same ∙ (ap (λ (gs : List ℕ). gs ++ (s.core.made.groups + 1) ∷ []) is ∙ (sym (start_groups c e words s.core) ∙ sym (ap (λ (d : Core). d.groups) k.1.core)))

module _ {T H G : Type 0} (c : Component) (e : Callee) (words : List ℕ) (s : Store T H G) (u : StateView) (n : ℕ)
    (starts : StartsUntrapped c e words s.state (start_refusal s.state.core) (Ok n) u) (l : Listeners) (k : ℕ) (number : k ≡ s.state.core.made.groups + 1)
    (begun : ToldListeners (told_of notice.Start k ∷ []) s.listeners l) where
  pub has_started : (AnsweredErr s.listeners l → ⊥) → HasStarted c e words s (record { thread = n; group = k }) (record s { state = u; listeners = l })
  has_started hook_is_ok = record {
    starts = started c e words s.state u (start_refusal s.state.core) n starts;
    group = number;
    begun = subst (λ (j : ℕ). ToldWithHookOk (told_of notice.Start j ∷ []) s.listeners l) number (with_hook_ok _ s.listeners l begun (still_hook_is_ok s.listeners l begun hook_is_ok));
  }

  pub keeps_started : ((p : Turn) → CoreInOrder c p s.state.core → CoreInOrder c p u.core) → KeepsStore c s (record s { state = u; listeners = l })
  keeps_started order = record {
    order = order;
    works = λ course h. untrapped_holds (held_by course s) c e words s.state u (start_refusal s.state.core) (Ok n) starts h;
    asked = λ is. started_asked c e words s.state u (start_refusal s.state.core) n starts is;
    hook = begun.same_hook;
    rest = refl;
  }

-- its group was told of
pub start_told : {T H G : Type 0} (c : Component) (e : Callee) (words : List ℕ) (s : Store T H G) (call : FuncCallConcurrent) (t : Store T H G) →
    HasStarted c e words s call t → ToldListeners (told_of notice.Start call.group ∷ []) s.listeners t.listeners
start_told c e words s call t has = subst (λ (n : ℕ). ToldListeners (told_of notice.Start n ∷ []) s.listeners t.listeners) (sym has.group) has.begun.told

-- one that isn't made is as the machine's, unless the hook failed, but that the groups that had ended were told of
pub stop_starts : {T H G : Type 0} (c : Component) (e : Callee) (words : List ℕ) (listens : Bool) (s : Store T H G) (why : TaskError) (t : Store T H G) →
    StopsUnmade listens s why t → Unfailed {A = FuncCallConcurrent} listens (Err why) (Starts c e words s.state (start_refusal s.state.core) (Err why) (on_core set_trapped s.state))
stop_starts c e words listens s why t stops =
    unfailed_map listens _ _ _ (λ k. refused_starts c e words s.state s.state (on_core set_trapped s.state) (start_refusal s.state.core) why k refl)
    (reason_untrapped c e words s.state listens (start_refusal s.state.core) why s.listeners t.listeners stops.reason)

-- by a trap of the machine: all groups finished, and nothing else was told
pub stop_told : {T H G : Type 0} (listens : Bool) (s : Store T H G) (why : TaskError) (t : Store T H G) → StopsUnmade listens s why t →
    why ≢ task_error.Trap trap.HookFailed → why ≢ task_error.NoMemory → ToldListeners (finishes s.state.tags.tracked) s.listeners t.listeners
stop_told listens s why t stops other memory = subst (λ (l : Listeners). ToldListeners (finishes s.state.tags.tracked) l t.listeners) (stops.told.told.refused other memory) stops.told.finished

-- by the hook: it answered an error to the start of the group, or to its finish, and then all groups finished
pub stop_fails : (why : TaskError) (s : StateView) (old new : Listeners) → TellsStopped why s old new → IsAsked s → why ≡ task_error.Trap trap.HookFailed → StartFails s.core old new
stop_fails why s old new stops is failed = record {
  between = stops.between;
  stops = stops.told.hooked failed;
  finished = subst (λ (gs : List ℕ). ToldListeners (finishes gs) stops.between new) is stops.finished;
}
