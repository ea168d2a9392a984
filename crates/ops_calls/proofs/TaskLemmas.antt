-- What a call whose thread is New results in.
use Rattle.std.proofs.Common.{ap, arith, refl, subst, sym, ◌∙◌}
use Rattle.std.proofs.lemmas.Bool.Decides.{nat_tests}
use Rattle.laws_order.proofs.NewLemmas.{prepare_keeps}
use Rattle.laws_order.specs.Pieces.{PrepareKeeps}
use Rattle.std.specs.Prelude.{Bool, Err, None, Ok, Option, Result, Some, [], false, if◌then◌else◌, true, ℕ, ◌+◌, ◌≡◌}
use Rattle.ops_state.specs.declared.error.TaskError.{TaskError}
use Rattle.ops_calls.proofs.ApartLemmas.{group_in_order, trap_in_order}
use Rattle.machine_data.specs.declared.component.Component.{Component}
use Rattle.machine_data.specs.declared.records.Caller.{Caller}
use Rattle.machine_data.specs.declared.records.Goal.{Goal}
use Rattle.machine_data.specs.declared.records.Turn.{Turn}
use Rattle.machine_rules.specs.Scripts.{export_kind}
use Rattle.ops_turns.specs.Turn.{CoreInOrder}
use Rattle.ops_state.specs.Named.{IsLive}
use Rattle.ops_calls.specs.Tasks.{Begins, KeepsFor, first_export, task_begun, task_made}
use Rattle.ops_state.specs.declared.name_calls.QualifiedThreadId.{QualifiedThreadId}
use Rattle.machine_data.specs.Core.{Core}
use Rattle.machine_data.specs.Maps.{get-insert}
use Rattle.machine_data.specs.Read.{task_of, thread_group}
use Rattle.machine_data.specs.Write.{add_call, add_group, add_thread, set_trapped}
use Rattle.machine_data.specs.declared.component.ExportKind.{ExportKind}
use Rattle.machine_rules.specs.Calls.{call_made, next_thread}
use Rattle.core_primitives.specs.StateView.{StateView, call_of, on_core, thread_of}

module _ (x : ExportKind) (i : ℕ) (f : Option QualifiedThreadId) (s : StateView) where
  made_task : (f : Option QualifiedThreadId) → task_of (next_thread s.core) (task_made x i f s) ≡ next_thread s.core
  unfolding call_made add_thread add_call add_group
  made_task (Some id) = grind (arith, nat_tests, get-insert)
  made_task None = grind (arith, nat_tests, get-insert)

  made_trapped : (f : Option QualifiedThreadId) → (task_made x i f s).trapped ≡ s.core.trapped
  unfolding call_made add_thread add_call add_group
  made_trapped (Some id) = refl
  made_trapped None = refl

  trap_tasks : (n : ℕ) (c : Core) → task_of n (set_trapped c) ≡ task_of n c
  unfolding set_trapped
  trap_tasks n c = refl

  module _ (t : StateView) (id : QualifiedThreadId) (thread : thread_of t id.thread ≡ next_thread s.core) (task : call_of t id.task ≡ next_thread s.core)
      (core : t.core ≡ task_made x i f s) (current : t.current ≡ s.current) (tags : KeepsFor f s s.tags t.tags) where
    pub trapped : t.core.trapped ≡ s.core.trapped
    trapped = ap (λ (c : Core). c.trapped) core ∙ made_trapped f

    numbers : (c : Core) → ((n : ℕ) → task_of n c ≡ task_of n (task_made x i f s)) → IsLive (record { core = c; tags = t.tags; current = t.current }) id
    numbers c same = record {
      live = grind (arith, nat_tests, thread);
      task = task ∙ (sym (made_task f) ∙ (sym (same (next_thread s.core)) ∙ ap (λ n. task_of n c) (sym thread)));
    }

    pub begun : s.core.trapped ≡ false → Begins x i f s true (Ok id) t
    begun free = record {
      becomes = record { core = core ∙ sym (ap (λ b. if b then set_trapped (task_made x i f s) else task_made x i f s) free); current = current; tags = tags };
      live = numbers t.core (λ n. ap (task_of n) core);
      number = thread;
    }

    pub begun_trapped : s.core.trapped ≡ true → (u : StateView) → u ≡ on_core set_trapped t → Begins x i f s true (Ok id) u
    begun_trapped is u e = subst (λ v. Begins x i f s true (Ok id) v) (sym e) (record {
      becomes = record {
        core = ap set_trapped core ∙ sym (ap (λ b. if b then set_trapped (task_made x i f s) else task_made x i f s) is);
        current = current;
        tags = tags;
      };
      live = numbers (set_trapped t.core) (λ n. trap_tasks n t.core ∙ ap (task_of n) core);
      number = thread;
    })

-- ---- Order

module _ (c : Component) (p : Turn) (i : ℕ) (s : StateView) (in_turn : CoreInOrder c p s.core) where
  abbrev made_for : Option QualifiedThreadId → Core
  made_for f = task_made (export_kind c (first_export i)) i f s

  called_in_order : (u : Core) (from : Caller) (group : ℕ) → CoreInOrder c p u →
      CoreInOrder c p (call_made from (first_export i) (export_kind c (first_export i)) Goal.Nowhere group [] u)
  unfolding PrepareKeeps
  called_in_order u from group in_turn =
      let r = prepare_keeps c p from (first_export i) Goal.Nowhere group [] u refl in_turn.order in
      record { order = r.0; there = λ j low. r.1.instances j ∙ in_turn.there j low; handles = λ j low. r.1.handles j ∙ in_turn.handles j low }

  made_in_order : (f : Option QualifiedThreadId) → CoreInOrder c p (made_for f)
  made_in_order (Some id) = called_in_order s.core (Caller.Thread (thread_of s id.thread)) (thread_group (thread_of s id.thread) s.core) in_turn
  made_in_order None = called_in_order (add_group s.core) Caller.Main (s.core.made.groups + 1) (group_in_order c p s.core in_turn)

  -- so it is of the call of an export of this kind
  pub begun_in_order : (x : ExportKind) (f : Option QualifiedThreadId) → x ≡ export_kind c (first_export i) → CoreInOrder c p (task_begun x i f s)
  begun_in_order x f kind = subst (λ (y : ExportKind). CoreInOrder c p (task_begun y i f s)) (sym kind) (by s.core.trapped)
    where
      by : (b : Bool) → CoreInOrder c p (if b then set_trapped (made_for f) else made_for f)
      by true = trap_in_order c p (made_for f) (made_in_order f)
      by false = made_in_order f

  pub begins_in_order : (x : ExportKind) (f : Option QualifiedThreadId) (room : Bool) (r : Result QualifiedThreadId TaskError) (t : StateView) →
      Begins x i f s room r t → x ≡ export_kind c (first_export i) → CoreInOrder c p t.core
  begins_in_order x f false r t b kind = subst (λ (v : StateView). CoreInOrder c p v.core) (sym b.1) in_turn
  begins_in_order x f true (Ok id) t b kind = subst (CoreInOrder c p) (sym b.becomes.core) (begun_in_order x f kind)
  begins_in_order x f true (Err why) t b kind = subst (λ (v : StateView). CoreInOrder c p v.core) (sym b.1) in_turn
