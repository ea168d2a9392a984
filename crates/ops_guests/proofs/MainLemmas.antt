-- A number that wasn't given is nowhere.
use Rattle.std.proofs.Common.{ap, arith, refl, subst, sym, ◌∙◌}
use Rattle.std.specs.Prelude.{List, None, Option, Some, is_some, ℕ, ◌+◌, ◌≡◌, ◌≤◌}
use Rattle.task_table.specs.declared.id.TableId.{TableId}
use Rattle.task_wait.specs.declared.keys.ThreadKey.{ThreadKey}
use Rattle.machine_data.specs.Core.{Core}
use Rattle.machine_data.specs.Read.{place_of}
use Rattle.machine_data.specs.Write.{add_call, add_group, add_thread}
use Rattle.machine_data.specs.declared.component.Callee.{Callee}
use Rattle.machine_data.specs.declared.component.ExportKind.{ExportKind}
use Rattle.machine_data.specs.declared.records.Caller.{Caller}
use Rattle.machine_data.specs.declared.records.Goal.{Goal}
use Rattle.machine_data.specs.declared.records.Place.{Place}
use Rattle.machine_rules.specs.Calls.{call_made, next_thread}
use Rattle.machine_rules.specs.Places.{HasPlace, Placed, is_at_high, is_at_low, says}
use Rattle.core_primitives.specs.Apart.{IsUnqueued}
use Rattle.core_primitives.specs.StateView.{StateView, thread_of}

new_unqueued : (s : Core) → Placed s → IsUnqueued (next_thread s) s
new_unqueued s placed = go (place_of (next_thread s) s) refl (placed (next_thread s))
  where
    go : (o : Option Place) → place_of (next_thread s) s ≡ o → HasPlace (next_thread s) s → IsUnqueued (next_thread s) s
    go None e h = record { high = h.high ∙ ap (says is_at_high) e; low = h.low ∙ ap (says is_at_low) e }
    go (Some p) e h = absurd (too_high (h.number (ap (λ (o : Option Place). is_some o) e)))
      where
        too_high : s.made.threads + 1 ≤ s.made.threads → ⊥
        too_high y = omega (arith, y)

made_unqueued : (n : ℕ) (f : Caller) (e : Callee) (x : ExportKind) (g : Goal) (group : ℕ) (words : List ℕ) (s : Core) → IsUnqueued n s → IsUnqueued n (call_made f e x g group words s)
unfolding call_made add_thread add_call
made_unqueued n f e x g group words s out = record { high = out.high; low = out.low }

grouped_unqueued : (n : ℕ) (s : Core) → IsUnqueued n s → IsUnqueued n (add_group s)
unfolding add_group
grouped_unqueued n s out = record { high = out.high; low = out.low }

pub started_unqueued : (id : TableId ThreadKey) (f : Caller) (e : Callee) (x : ExportKind) (g : Goal) (group : ℕ) (words : List ℕ) (s t : StateView) → Placed s.core → thread_of t id ≡ next_thread s.core → t.core ≡ call_made f e x g group words (add_group s.core) → IsUnqueued (thread_of t id) t.core
started_unqueued id f e x g group words s t placed at core =
    let n = next_thread s.core in
    let out = made_unqueued n f e x g group words (add_group s.core) (grouped_unqueued n s.core (new_unqueued s.core placed)) in
    subst (λ (k : ℕ). IsUnqueued k t.core) (sym at) (subst (IsUnqueued n) (sym core) out)
