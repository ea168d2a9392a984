-- The two halves of a call whose start is queued.
use Rattle.std.proofs.Common.{ap₂, arith, refl, subst, sym, ◌∙◌}
use Rattle.std.proofs.lemmas.Bool.Decides.{nat_tests}
use Rattle.std.specs.Prelude.{IfSome, List, Option, Some, ℕ, ◌≡◌, ◌≤◌}
use Rattle.ops_state.specs.declared.name_calls.QualifiedThreadId.{QualifiedThreadId}
use Rattle.ops_subtasks.proofs.CallLemmas.{made_new, made_stand}
use Rattle.ops_subtasks.specs.Starts.{call_starts}
use Rattle.ops_calls.specs.Prepared.{Prepared, starts_in}
use Rattle.machine_data.specs.Core.{Core}
use Rattle.machine_data.specs.Maps.{get, get-insert}
use Rattle.machine_data.specs.Read.{callee_of, kind_of, place_of, task_of, thread_group}
use Rattle.machine_data.specs.Write.{add_call, add_thread}
use Rattle.machine_data.specs.declared.component.Callee.{Callee}
use Rattle.machine_data.specs.declared.component.Component.{Component}
use Rattle.machine_data.specs.declared.component.ExportDef.{ExportDef}
use Rattle.machine_data.specs.declared.component.ExportKind.{ExportKind}
use Rattle.machine_data.specs.declared.records.Caller.{Caller}
use Rattle.machine_data.specs.declared.records.Caller.TheVariants as caller
use Rattle.machine_data.specs.declared.records.Goal.{Goal}
use Rattle.ops_guests.specs.Running.{IsRunning}
use Rattle.machine_rules.specs.Calls.{call_made, call_queues, next_thread}
use Rattle.machine_rules.specs.Scripts.{export_at, export_kind}
use Rattle.ops_turns.specs.WellFormed.{IsWellFormed}
use Rattle.core_primitives.specs.StateView.{Keeps, StateView, call_of, thread_of}

-- as many words as an export takes are at most 16
pub few_words : (c : Component) (e : Callee) (d : ExportDef) (n : ℕ) → IsWellFormed c → Some d ≡ export_at c e → IfSome (export_at c e) (λ x. n ≡ x.params) → n ≤ 16
few_words c e d n formed found fit =
    let few = formed.few_params e d (sym found) in
    let same = subst (λ (o : Option ExportDef). IfSome o (λ x. n ≡ x.params)) (sym found) fit in
    grind (arith, nat_tests, few, same)

module _ (f : Caller) (e : Callee) (x : ExportKind) (g : Goal) (group : ℕ) (words : List ℕ) (s : Core) where
  made_task : task_of (next_thread s) (call_made f e x g group words s) ≡ next_thread s
  unfolding call_made add_thread add_call
  made_task = grind (arith, nat_tests, get-insert)

  made_callee : callee_of (next_thread s) (call_made f e x g group words s) ≡ e
  unfolding call_made add_thread add_call
  made_callee = grind (arith, nat_tests, get-insert)

  made_kind : kind_of (next_thread s) (call_made f e x g group words s) ≡ x
  unfolding call_made add_thread add_call
  made_kind = grind (arith, nat_tests, get-insert)

-- a call was made
pub prepared : (c : Component) (n : ℕ) (e : Callee) (words : List ℕ) (g : Goal) (s t : StateView) (id : QualifiedThreadId) → IsRunning n s.core → thread_of t id.thread ≡ next_thread s.core → call_of t id.task ≡ next_thread s.core
    → t.core ≡ call_made (caller.Thread n) e (export_kind c e) g (thread_group n s.core) words s.core → t.current ≡ s.current → Keeps s.tags t.tags → Prepared c n e words g s t id
prepared c n e words g s t id st thread task core current tags =
    let x = export_kind c e in
    let group = thread_group n s.core in
    let made = call_made (caller.Thread n) e x g group words s.core in
    record {
      becomes = record { core = core; current = current; tags = tags };
      can = record {
        running = subst (IsRunning n) (sym core) (made_stand (caller.Thread n) e x g group words n s.core st);
        live = record {
          live = grind (arith, nat_tests, thread);
          task = task ∙ (sym (made_task (caller.Thread n) e x g group words s.core) ∙ ap₂ task_of (sym thread) (sym core));
        };
        new = ap₂ (λ (k : ℕ) (u : Core). place_of k u) thread core ∙ made_new (caller.Thread n) e x g group words s.core;
      };
      number = thread;
    }

-- what the second half leaves after the first is what a call leaves that begins
pub begun_whole : (c : Component) (n : ℕ) (e : Callee) (words : List ℕ) (g : Goal) (s t : StateView) (id : QualifiedThreadId) → Prepared c n e words g s t id → starts_in n id t ≡ call_queues n e (export_kind c e) g words s.core
unfolding call_queues
begun_whole c n e words g s t id p =
    let x = export_kind c e in
    let group = thread_group n s.core in
    let made = call_made (caller.Thread n) e x g group words s.core in
    let m = next_thread s.core in
    rw (p.number, p.becomes.core, made_task (caller.Thread n) e x g group words s.core, made_callee (caller.Thread n) e x g group words s.core, made_kind (caller.Thread n) e x g group words s.core) refl

-- what the second half leaves, by the names that it reads
pub starts_as : (s : StateView) (id : QualifiedThreadId) (a n k : ℕ) (f : Callee) (x : ExportKind) → a ≡ n → k ≡ task_of (thread_of s id.thread) s.core → f ≡ callee_of k s.core → x ≡ kind_of k s.core → call_starts a (thread_of s id.thread) k f.instance x s.core ≡ starts_in n id s
starts_as s id a n k f x pn pk pf px = rw (pf, px, pk, pn) refl
