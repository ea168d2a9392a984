-- A start leaves no thread that runs, where there was none; calls of a host change no host work.
use Rattle.futures.specs.declared.task.Poll.{Poll}
use Rattle.futures.specs.declared.task.Poll.TheVariants.{Pending, Ready}
use Rattle.std.proofs.Common.{ap, arith, refl, subst, sym, ◌∙◌}
use Rattle.std.specs.Prelude.{Err, List, None, Ok, Option, Result, Some, [], option_map, ℕ, ◌++◌, ◌+◌, ◌∷◌, ◌≡◌, ◌<◌, ◌≤◌}
use Rattle.task_group.specs.Listeners.{Listeners}
use Rattle.ops_calls.specs.MainCalls.{Finishes, Starts}
use Rattle.core_primitives.specs.BecomesRecord.{BecomesRecord}
use Rattle.ops_calls.specs.Untrapped.{StartsUntrapped}
use Rattle.ops_state.specs.declared.error.TaskError.{TaskError}
use Rattle.machine_data.specs.Core.{Core}
use Rattle.machine_data.specs.Moves.{put_high}
use Rattle.machine_data.specs.Write.{add_call, add_group, add_thread, on_thread, push_high, set_place, set_trapped, take_result}
use Rattle.machine_data.specs.declared.component.Callee.{Callee}
use Rattle.machine_data.specs.declared.component.Component.{Component}
use Rattle.store_works.specs.KeptWorks.{HeldWork}
use Rattle.machine_data.specs.declared.component.HostDef.{HostDef}
use Rattle.machine_data.specs.declared.trap.Trap.{Trap}
use Rattle.machine_rules.specs.Calls.{call_made}
use Rattle.machine_rules.specs.MainOps.{main_started}
use Rattle.task_store.proofs.HostLemmas.{holds_same}
use Rattle.task_store.specs.Hosts.{HoldsHosts, HoldsWorks}
use Rattle.task_store.specs.declared.store.Store.{Store}
use Rattle.ops_turns.specs.Turn.{running_of}
use Rattle.core_primitives.specs.Groups.{IsAsked, asked}
use Rattle.core_primitives.specs.StateView.{StateView, on_core, thread_of}

none_still : {X : Type 0} (f g : X → ℕ) (a b : Option X) → b ≡ a → option_map f a ≡ None → option_map g b ≡ None
none_still f g None None e none = refl
none_still f g a (Some x) e none = absurd (cc)
none_still f g (Some x) b e none = absurd (cc)

pub current_still : (s t : StateView) → t.current ≡ s.current → running_of s ≡ None → running_of t ≡ None
current_still s t same none = none_still (λ k. thread_of s k) (λ k. thread_of t k) s.current t.current same none

pub start_current : (c : Component) (e : Callee) (words : List ℕ) (s t : StateView) (o : Option Trap) (r : Result ℕ TaskError) → running_of s ≡ None → Starts c e words s o r t → running_of t ≡ None
start_current c e words s t (Some why) r none k = current_still s t k.1.current none
start_current c e words s t None (Ok n) none k = current_still s t k.1.current none
start_current c e words s t None (Err why) none k = current_still s t k.1.current none

trapped_becomes : (s u t : StateView) → u ≡ s → t ≡ on_core set_trapped u → BecomesRecord (set_trapped s.core) s t
trapped_becomes s u t same is = grind arith

-- ---- What a store holds of host works

module _ (left : ℕ → Option HeldWork) where
  start_works : (c : Component) (e : Callee) (words : List ℕ) (s : Core) → (main_started c e words s).works ≡ s.works
  unfolding main_started put_high push_high set_place on_thread call_made add_call add_thread add_group
  start_works c e words s = refl

  trap_works : (s : Core) → (set_trapped s).works ≡ s.works
  unfolding set_trapped
  trap_works s = refl

  pub start_holds : (c : Component) (e : Callee) (words : List ℕ) (s t : StateView) (o : Option Trap) (r : Result ℕ TaskError) → Starts c e words s o r t → HoldsWorks left s.core → HoldsWorks left t.core
  start_holds c e words s t (Some why) r k h = holds_same s.core t.core left (ap (λ (u : Core). u.works) k.1.core ∙ trap_works s.core) h
  start_holds c e words s t None (Ok n) k h = holds_same s.core t.core left (ap (λ (u : Core). u.works) k.1.core ∙ start_works c e words s.core) h
  start_holds c e words s t None (Err why) k h = holds_same s.core t.core left (ap (λ (u : Core). u.works) k.1.core ∙ trap_works s.core) h

  pub untrapped_holds : (c : Component) (e : Callee) (words : List ℕ) (s t : StateView) (o : Option Trap) (r : Result ℕ TaskError) → StartsUntrapped c e words s o r t → HoldsWorks left s.core → HoldsWorks left t.core
  untrapped_holds c e words s t (Some why) r k h = holds_same s.core t.core left (ap (λ (u : StateView). u.core.works) k.1) h
  untrapped_holds c e words s t None (Ok n) k h = holds_same s.core t.core left (ap (λ (u : Core). u.works) k.1.core ∙ start_works c e words s.core) h
  untrapped_holds c e words s t None (Err why) k h = holds_same s.core t.core left (ap (λ (u : StateView). u.core.works) k.1) h

  result_works : (k : ℕ) (s : StateView) → (on_core (take_result k) s).core.works ≡ s.core.works
  unfolding take_result
  result_works k s = refl

  pub finish_holds : (k : ℕ) (s t : StateView) (r : Poll ℕ) → Finishes k s r t → HoldsWorks left s.core → HoldsWorks left t.core
  finish_holds k s t (Ready v) f h = holds_same s.core t.core left (ap (λ (u : StateView). u.core.works) f.1 ∙ result_works k s) h
  finish_holds k s t Pending f h = holds_same s.core t.core left (ap (λ (u : StateView). u.core.works) f.1) h

-- ---- The groups of a store

pub start_groups : (c : Component) (e : Callee) (words : List ℕ) (s : Core) → (main_started c e words s).groups ≡ s.groups ++ (s.made.groups + 1) ∷ []
unfolding main_started put_high push_high set_place on_thread call_made add_call add_thread add_group
start_groups c e words s = refl

pub start_made : (c : Component) (e : Callee) (words : List ℕ) (s : Core) → (main_started c e words s).made.groups ≡ s.made.groups + 1
unfolding main_started put_high push_high set_place on_thread call_made add_call add_thread add_group
start_made c e words s = refl

-- a start that was refused, of a store that is trapped then
pub refused_starts : (c : Component) (e : Callee) (words : List ℕ) (s u t : StateView) (o : Option Trap) (why : TaskError) → StartsUntrapped c e words s o (Err why) u → t ≡ on_core set_trapped u → Starts c e words s o (Err why) t
refused_starts c e words s u t (Some w) why h is = (h.0, trapped_becomes s u t h.1 is)
refused_starts c e words s u t None why h is = (h.0, trapped_becomes s u t h.1 is)

-- the finish of a call leaves the groups
finish_same : (k : ℕ) (s : StateView) → IsAsked s → IsAsked (on_core (take_result k) s)
unfolding take_result
finish_same k s is = is

pub finish_keeps : (k : ℕ) (s t : StateView) (r : Poll ℕ) → Finishes k s r t → IsAsked s → IsAsked t
finish_keeps k s t (Ready v) f is = subst (λ (u : StateView). IsAsked u) (sym f.1) (finish_same k s is)
finish_keeps k s t Pending f is = subst (λ (u : StateView). IsAsked u) (sym f.1) is

-- a store that is trapped holds the same host works
pub trapped_hosts : {T H G : Type 0} (course : H → HostDef) (st : Store T H G) (l : Listeners) → HoldsHosts course st → HoldsHosts course (record st { state = asked (on_core set_trapped st.state); listeners = l })
unfolding set_trapped
trapped_hosts course st l h = record { each = h.each; first = h.first }
