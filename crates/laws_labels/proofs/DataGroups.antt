-- An op on registers and memory cells leaves the groups, and of which group each thread is.
use Rattle.laws_labels.specs.Own.{is_data}
use Rattle.machine_rules.proofs.Machine.{advanced, ap, arith, assigned, Bool, Call, call_group, change, Component, Core, data_rule, DataOp, false, get, get-change, Continues, Instance, instance_of, moved_to, nat_tests, None, on_instance, on_thread, Option, option_map, option_map_or, position_of, Progress, Records, refl, Set, set_op_progress, set_position, set_register, set_memory_cell, skip_rule, skipped, Some, stored, sym, task_of, Thread, thread_group, true, value_of, ℕ, ◌+◌, ◌==◌, ◌∙◌, ◌≡◌}

-- From s to t the groups, the groups of calls and the calls of threads are as before.
pub record Mild (s t : Core) : Type 0 where
  pub groups : t.groups ≡ s.groups
  pub calls : (k : ℕ) → call_group k t ≡ call_group k s
  pub tasks : (n : ℕ) → task_of n t ≡ task_of n s

pub mild_same : (s : Core) → Mild s s
mild_same s = record { groups = refl; calls = λ k. refl; tasks = λ n. refl }

pub mild_then : {s m t : Core} → Mild s m → Mild m t → Mild s t
mild_then p q = record { groups = q.groups ∙ p.groups; calls = λ k. q.calls k ∙ p.calls k; tasks = λ n. q.tasks n ∙ p.tasks n }

pub mild_thread : (k : ℕ) (f : Thread → Thread) (s : Core) → ((t : Thread) → (f t).call ≡ t.call) → Mild s (on_thread k f s)
unfolding on_thread
mild_thread k f s same = record { groups = refl; calls = λ j. refl; tasks = λ n. threads n }
  where
    found : (o : Option Thread) → option_map_or (λ (c : Thread). c.call) (option_map f o) 0 ≡ option_map_or (λ (c : Thread). c.call) o 0
    found None = refl
    found (Some c) = same c

    threads : (j : ℕ) → option_map_or (λ (c : Thread). c.call) (get (change k f s.threads) j) 0 ≡ option_map_or (λ (c : Thread). c.call) (get s.threads j) 0
    threads j = let e = found (get s.threads j) in grind (arith, nat_tests, get-change, e)

pub mild_instance : (i : ℕ) (f : Instance → Instance) (s : Core) → Mild s (on_instance i f s)
unfolding on_instance
mild_instance i f s = record { groups = refl; calls = λ k. refl; tasks = λ n. refl }

pub mild_register : (n r v : ℕ) (s : Core) → Mild s (set_register n r v s)
unfolding set_register
mild_register n r v s = mild_thread n _ s (λ t. refl)

pub mild_group : {s t : Core} → Mild s t → (n : ℕ) → thread_group n t ≡ thread_group n s
mild_group {s = s} {t = t} h n = ap (λ k. call_group k t) (h.tasks n) ∙ h.calls (task_of n s)

-- What it comes to is of this thread, which runs on, and leaves the groups.
abbrev pub Plain : ℕ → Core → Progress → Type 0
Plain n s (Continues l new m) = (is_data l ≡ true) × ((m ≡ n) × Mild s new)
Plain n s _ = ⊥

moved_mild : (n p : ℕ) (s : Core) → Mild s (moved_to n p s)
unfolding moved_to set_op_progress set_position
moved_mild n p s = mild_then (mild_thread n (λ t. record t { position = p }) s (λ t. refl)) (mild_thread n _ _ (λ t. refl))

advanced_mild : (n : ℕ) (s : Core) → Mild s (advanced n s)
unfolding advanced
advanced_mild n s = moved_mild n (position_of n s + 1) s

assigned_mild : (n r v : ℕ) (s : Core) → Mild s (assigned n r v s)
unfolding assigned
assigned_mild n r v s = mild_then (mild_register n r v s) (advanced_mild n (set_register n r v s))

stored_mild : (n w v : ℕ) (s : Core) → Mild s (stored n w v s)
unfolding stored set_memory_cell
stored_mild n w v s = mild_then (mild_instance (instance_of n s) _ s) (advanced_mild n _)

skipped_mild : (c : Component) (n k : ℕ) (s : Core) → Mild s (skipped c n k s)
unfolding skipped
skipped_mild c n k s = moved_mild n _ s

skip_plain : (c : Component) (n k : ℕ) (s : Core) (b : Bool) → Plain n s (skip_rule c n k s b)
skip_plain c n k s true = (refl, (refl, skipped_mild c n k s))
skip_plain c n k s false = (refl, (refl, advanced_mild n s))

pub data_plain : (c : Component) (n : ℕ) (s : Core) (o : DataOp) → Plain n s (data_rule c n s o)
data_plain c n s (DataOp.Set r x) = (refl, (refl, assigned_mild n r _ s))
data_plain c n s (DataOp.Add r x) = (refl, (refl, assigned_mild n r _ s))
data_plain c n s (DataOp.Handle r x) = (refl, (refl, assigned_mild n r _ s))
data_plain c n s (DataOp.Load r w) = (refl, (refl, assigned_mild n r _ s))
data_plain c n s (DataOp.Store w x) = (refl, (refl, stored_mild n w _ s))
data_plain c n s (DataOp.SkipEq x y k) = skip_plain c n k s (value_of n s x == value_of n s y)
