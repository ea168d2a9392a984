-- Tasks and threads that begin and end between runs: the host works and the groups of a store.
use Rattle.store_works.specs.KeptWorks.{HeldWork}
use Rattle.ops_state.specs.Currents.{entered, is_left, left_for, now_runs, number_in, runner}
use Rattle.ops_state.specs.Ends.{Ends}
use Rattle.ops_state.specs.declared.currents.CurrentThread.{CurrentThread}
use Rattle.ops_state.specs.declared.currents.CurrentThread.TheVariants as threads
use Rattle.ops_state.specs.declared.error.TaskError.{TaskError}
use Rattle.ops_state.specs.declared.error.TaskError.TheVariants as task_error
use Rattle.ops_state.specs.declared.name_calls.QualifiedThreadId.{QualifiedThreadId}
use Rattle.std.proofs.Common.{ap, arith, refl, subst, sym, ◌∙◌}
use Rattle.std.proofs.lemmas.Bool.Decides.{nat_tests}
use Rattle.std.specs.Prelude.{Bool, Err, None, Option, Result, Some, false, if◌then◌else◌, true, ℕ, ◌≡◌, List, Ok, [], ◌++◌, ◌+◌, ◌∷◌}
use Rattle.ops_calls.specs.Tasks.{Begins, task_begun, task_made, KeepsFor}
use Rattle.task_loop.proofs.EndedLemmas.{ended_works}
use Rattle.task_loop.specs.Told.{current_group}
use Rattle.machine_data.specs.Core.{Core}
use Rattle.machine_data.proofs.CommuteLemmas.{get-change}
use Rattle.machine_data.specs.Read.{thread_group}
use Rattle.machine_data.specs.Write.{add_call, add_group, add_thread, on_thread, set_place, set_trapped}
use Rattle.machine_data.specs.declared.component.ExportKind.{ExportKind}
use Rattle.machine_data.specs.declared.records.Place.{Place}
use Rattle.machine_data.specs.declared.records.Place.TheVariants as place
use Rattle.machine_rules.specs.Calls.{call_made}
use Rattle.task_store.proofs.HostLemmas.{holds_same}
use Rattle.task_store.specs.Hosts.{HoldsWorks}
use Rattle.core_primitives.specs.Groups.{if_tracked, tracked_group, IsAsked}
use Rattle.core_primitives.specs.StateView.{StateView, thread_of, Tags}

module _ (left : ℕ → Option HeldWork) where
  as_before : (s t : StateView) → t ≡ s → HoldsWorks left s.core → HoldsWorks left t.core
  as_before s t same h = subst (λ (v : StateView). HoldsWorks left v.core) (sym same) h

  -- ---- Another thread

  left_works : (n : ℕ) (b : Bool) (s : Core) → (if b then set_place n place.Suspended s else s).works ≡ s.works
  unfolding set_place on_thread
  left_works n true s = refl
  left_works n false s = refl

  left_for_works : (old new : Option ℕ) (s : Core) → (left_for old new s).works ≡ s.works
  left_for_works None new s = refl
  left_for_works (Some n) new s = left_works n (is_left n new s) s

  entered_works : (new : Option ℕ) (s : Core) → (entered new s).works ≡ s.works
  unfolding set_place on_thread
  entered_works None s = refl
  entered_works (Some n) s = refl

  pub runs_holds : (s t : StateView) (c : CurrentThread) → t ≡ now_runs c s → HoldsWorks left s.core → HoldsWorks left t.core
  runs_holds s t c is h =
      holds_same s.core t.core left
      (ap (λ (v : StateView). v.core.works) is ∙ (entered_works (number_in s c) (left_for (runner s) (number_in s c) s.core) ∙ left_for_works (runner s) (number_in s c) s.core)) h

  -- ---- The end of a thread

  pub ends_holds : (n : ℕ) (s t : StateView) (refused : Bool) (r : Result (Unit {0}) TaskError) → Ends n refused s r t → HoldsWorks left s.core → HoldsWorks left t.core
  ends_holds n s t true r q h = as_before s t q.1 h
  ends_holds n s t false r q h = holds_same s.core t.core left (ap (λ (u : Core). u.works) q.1.core ∙ ended_works n s.core) h

  -- ---- A task that begins

  made_works : (x : ExportKind) (i : ℕ) (f : Option QualifiedThreadId) (s : StateView) → (task_made x i f s).works ≡ s.core.works
  unfolding call_made add_call add_thread add_group
  made_works x i None s = refl
  made_works x i (Some id) s = refl

  begun_works : (b : Bool) (c : Core) → (if b then set_trapped c else c).works ≡ c.works
  unfolding set_trapped
  begun_works true c = refl
  begun_works false c = refl

  pub begun_hosts : (x : ExportKind) (i : ℕ) (f : Option QualifiedThreadId) (s t : StateView) → t.core ≡ task_begun x i f s → HoldsWorks left s.core → HoldsWorks left t.core
  begun_hosts x i f s t is h = holds_same s.core t.core left (ap (λ (u : Core). u.works) is ∙ (begun_works s.core.trapped (task_made x i f s) ∙ made_works x i f s)) h

  pub still_hosts : (s t : StateView) → t ≡ s → HoldsWorks left s.core → HoldsWorks left t.core
  still_hosts s t same h = as_before s t same h

-- ---- The group of the thread that is to run

placed_group : (n k : ℕ) (p : Place) (s : Core) → thread_group k (set_place n p s) ≡ thread_group k s
unfolding set_place on_thread
placed_group n k p s = grind (arith, nat_tests, get-change)

left_group : (n k : ℕ) (b : Bool) (s : Core) → thread_group k (if b then set_place n place.Suspended s else s) ≡ thread_group k s
left_group n k true s = placed_group n k place.Suspended s
left_group n k false s = refl

left_for_group : (old new : Option ℕ) (k : ℕ) (s : Core) → thread_group k (left_for old new s) ≡ thread_group k s
left_for_group None new k s = refl
left_for_group (Some n) new k s = left_group n k (is_left n new s) s

entered_group : (new : Option ℕ) (k : ℕ) (s : Core) → thread_group k (entered new s) ≡ thread_group k s
entered_group None k s = refl
entered_group (Some n) k s = placed_group n k place.Running s

-- is the same before it runs
pub runs_group : (s : StateView) (q : QualifiedThreadId) → current_group (now_runs (threads.Guest q) s) ≡ tracked_group (thread_of s q.thread) s
runs_group s q =
    let k = thread_of s q.thread in
    ap (if_tracked s.tags.tracked) (entered_group (Some k) k (left_for (runner s) (Some k) s.core) ∙ left_for_group (runner s) (Some k) k s.core)

-- a call that fitted wasn't made, since it was out of memory
pub begins_wants : (x : ExportKind) (i : ℕ) (f : Option QualifiedThreadId) (s t : StateView) (room : Bool) (why : TaskError) → room ≡ true → Begins x i f s room (Err why) t → why ≡ task_error.NoMemory
begins_wants x i f s t true why fits begins = begins.0
begins_wants x i f s t false why fits begins = absurd (cc)

-- a task that begins traps nothing
pub begun_open : (x : ExportKind) (i : ℕ) (f : Option QualifiedThreadId) (s t : StateView) → t.core ≡ task_begun x i f s → s.core.trapped ≡ false → t.core.trapped ≡ false
unfolding call_made add_call add_thread add_group
begun_open x i None s t is untrapped = ap (λ (u : Core). u.trapped) is ∙ (ap (λ (b : Bool). (if b then set_trapped (task_made x i None s) else task_made x i None s).trapped) untrapped ∙ untrapped)
begun_open x i (Some id) s t is untrapped = ap (λ (u : Core). u.trapped) is ∙ (ap (λ (b : Bool). (if b then set_trapped (task_made x i (Some id) s) else task_made x i (Some id) s).trapped) untrapped ∙ untrapped)

-- ---- Each group that has ended was told of

-- a group that is made is tracked
made_asked : (x : ExportKind) (i : ℕ) (f : Option QualifiedThreadId) (s : StateView) (new : Tags) → KeepsFor f s s.tags new → IsAsked s → new.tracked ≡ (task_made x i f s).groups
unfolding call_made add_call add_thread add_group
made_asked x i None s new kept is = kept.same ∙ ap (λ (gs : List ℕ). gs ++ (s.core.made.groups + 1) ∷ []) is
made_asked x i (Some id) s new kept is = kept.same ∙ is

-- a task that is made in a store that isn't trapped
open_asked : (x : ExportKind) (i : ℕ) (f : Option QualifiedThreadId) (s t : StateView) (trapped : Bool) → t.core ≡ (if trapped then set_trapped (task_made x i f s) else task_made x i f s) → KeepsFor f s s.tags t.tags → t.core.trapped ≡ false → IsAsked s → IsAsked t
unfolding set_trapped
open_asked x i f s t true core kept untrapped is = absurd (let no : true ≡ false = sym (ap (λ (u : Core). u.trapped) core) ∙ untrapped in cc)
open_asked x i f s t false core kept untrapped is = made_asked x i f s t.tags kept is ∙ sym (ap (λ (u : Core). u.groups) core)

pub begun_asked : (x : ExportKind) (i : ℕ) (f : Option QualifiedThreadId) (s t : StateView) (room : Bool) (id : QualifiedThreadId) → Begins x i f s room (Ok id) t → t.core.trapped ≡ false → IsAsked s → IsAsked t
begun_asked x i f s t false id begins untrapped is = absurd (let refused = begins.0 in cc)
begun_asked x i f s t true id begins untrapped is = open_asked x i f s t s.core.trapped begins.becomes.core begins.becomes.tags untrapped is
