-- Sets made.
use Rattle.std.proofs.Common.{ap, ap₂, arith, subst, sym, ◌∙◌}
use Rattle.std.specs.Prelude.{Option, Some, false, not, true, ℕ, ◌+◌, ◌<◌, ◌≡◌}
use Rattle.task_table.specs.declared.id.TableId.{TableId}
use Rattle.task_wait.specs.declared.keys.ThreadKey.{ThreadKey}
use Rattle.machine_data.specs.Core.{Core}
use Rattle.machine_data.specs.Read.{at_handle_limit, fits, has_member, has_waiters, instance_of, new_handle, set_at}
use Rattle.machine_data.specs.Write.{add_set, free_handle, give_handle, remove_set}
use Rattle.machine_data.specs.declared.label.Label.TheVariants as label
use Rattle.machine_data.specs.declared.label.SetLabel.TheVariants as set_label
use Rattle.machine_data.specs.declared.records.Named.TheVariants as named
use Rattle.machine_data.specs.declared.trap.Trap.TheVariants as trap
use Rattle.ops_guests.specs.OpResult.{Implements}
use Rattle.machine_rules.specs.Finish.{Doer, NoAnswer, OneNumber, finish}
use Rattle.machine_rules.specs.Progress.{Continues, Progress, or_trap, trap_if}
use Rattle.machine_rules.specs.Sets.{set_closed, set_drop_by, set_drop_rule, set_new_rule, set_opened}
use Rattle.ops_guests.specs.Works.{KeepsTold}
use Rattle.core_primitives.specs.StateView.{KeepsBut, StateView, lost_set, thread_of}
use Rattle.ops_guests.specs.Shown.{goes_as}

-- a set of the instance was made, and its handle
abbrev with_set : ℕ → Core → Core
with_set i s = give_handle i (named.Set (s.made.sets + 1)) (add_set (record { instance = i }) s)

-- its handle is answered
abbrev set_made : Doer → ℕ → Core → Core
set_made d n s = finish d n (OneNumber (new_handle (instance_of n s) s)) (set_opened n s)

new_rule_is : (d : Doer) (n : ℕ) (s : Core) → fits 1 s ≡ true → at_handle_limit s ≡ false → set_new_rule d n s ≡ Continues (label.Set (set_label.New (new_handle (instance_of n s) s) n)) (set_made d n s) n
new_rule_is d n s room limit =
    ap (λ b. trap_if (not b) trap.TableFull (trap_if (at_handle_limit s) trap.HandleLimit (Continues (label.Set (set_label.New (new_handle (instance_of n s) s) n)) (set_made d n s) n))) room
    ∙ ap (λ b. trap_if b trap.HandleLimit (Continues (label.Set (set_label.New (new_handle (instance_of n s) s) n)) (set_made d n s) n)) limit

pub set_new_implements : (n : TableId ThreadKey) (r : Doer) (i h m : ℕ) (s t : StateView) → fits 1 s.core ≡ true → at_handle_limit s.core ≡ false → i ≡ instance_of (thread_of s n) s.core → h ≡ new_handle i s.core → m ≡ thread_of s n → t.core ≡ with_set i s.core → Implements (set_new_rule r (thread_of s n) s.core) s.core (goes_as (label.Set (set_label.New h m)) m) (finish r (thread_of s n) (OneNumber h) t.core)
unfolding set_opened
set_new_implements n r i h m s t room limit at handle is e =
    let N = thread_of s n in
    let I = instance_of N s.core in
    let core = ap (λ (c : Core). finish r N (OneNumber h) c) e ∙ ap₂ (λ (j g : ℕ). finish r N (OneNumber g) (with_set j s.core)) at (handle ∙ ap (λ (j : ℕ). new_handle j s.core) at) in
    let label_is = ap₂ (λ (k g : ℕ). goes_as (label.Set (set_label.New g k)) k) is (handle ∙ ap (λ (j : ℕ). new_handle j s.core) at) in
    subst (λ (p : Progress). Implements p s.core (goes_as (label.Set (set_label.New h m)) m) (finish r N (OneNumber h) t.core)) (sym (new_rule_is r N s.core room limit)) (label_is, core)

-- ---- A set dropped

pub thread_kept : (n : TableId ThreadKey) (x : ℕ) (s t : StateView) → 0 < thread_of s n → KeepsBut (lost_set x) s.tags t.tags → thread_of t n ≡ thread_of s n
thread_kept n x s t live keeps = keeps.threads n (λ e. absurd (none (subst (λ k. 0 < k) e live)))
  where
    none : ◌<◌ 0 0 → ⊥
    none h = omega (arith, h)

pub works_kept : (x : ℕ) (s t : StateView) → KeepsBut (lost_set x) s.tags t.tags → KeepsTold s t
works_kept x s t keeps = (λ id live. keeps.works id (λ e. absurd (none (subst (λ k. 0 < k) e live))), keeps.same)
  where
    none : ◌<◌ 0 0 → ⊥
    none h = omega (arith, h)

drop_rule_is : (d : Doer) (n h x : ℕ) (s : Core) → set_at (instance_of n s) h s ≡ Some x → has_waiters x s ≡ false → has_member x s ≡ false → set_drop_rule d n h s ≡ Continues (label.Set (set_label.Drop n)) (finish d n NoAnswer (set_closed n h x s)) n
drop_rule_is d n h x s at waiters members =
    ap (λ (o : Option ℕ). or_trap o trap.BadHandle (set_drop_by d n h s)) at
    ∙ (ap (λ b. trap_if b trap.WaitableSetDropHasWaiters (trap_if (has_member x s) trap.TableHasChildren (Continues (label.Set (set_label.Drop n)) (finish d n NoAnswer (set_closed n h x s)) n))) waiters
    ∙ ap (λ b. trap_if b trap.TableHasChildren (Continues (label.Set (set_label.Drop n)) (finish d n NoAnswer (set_closed n h x s)) n)) members)

pub set_drop_implements : (n : TableId ThreadKey) (d : Doer) (i h x m : ℕ) (s t : StateView) → i ≡ instance_of (thread_of s n) s.core → Some x ≡ set_at i h s.core → has_waiters x s.core ≡ false → has_member x s.core ≡ false → m ≡ thread_of s n → t.core ≡ remove_set x (free_handle i h s.core) → Implements (set_drop_rule d (thread_of s n) h s.core) s.core (goes_as (label.Set (set_label.Drop m)) m) (finish d (thread_of s n) NoAnswer t.core)
unfolding set_closed
set_drop_implements n d i h x m s t at names waiters members is e =
    let N = thread_of s n in
    let core = ap (λ (c : Core). finish d N NoAnswer c) e ∙ ap (λ (j : ℕ). finish d N NoAnswer (remove_set x (free_handle j h s.core))) at in
    subst (λ (p : Progress). Implements p s.core (goes_as (label.Set (set_label.Drop m)) m) (finish d N NoAnswer t.core))
    (sym (drop_rule_is d N h x s.core (ap (λ (j : ℕ). set_at j h s.core) (sym at) ∙ sym names) waiters members))
    (ap (λ (k : ℕ). goes_as (label.Set (set_label.Drop k)) k) is, core)
