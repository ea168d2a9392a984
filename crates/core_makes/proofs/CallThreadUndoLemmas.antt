-- A call and its thread that were made are taken back, and the thread that has a handle now is in its call's instance.
use Rattle.core_records.proofs.Core.{add_call, add_thread, ap, ap₂, arith, Bool, Call, call_made, Callee, Caller, cond, Core, deleted, entry_put, eq-eqb, ExportKind, false, found, found-with_entry, get, get-insert, Goal, GroupKey, GuestTaskKey, instance_of, IsSoundCore, IsTable, item_at, item_in, item_of, List, new_call, new_thread, no_callee, None, Ok, Option, option_map_or, CoreImage, parts_of, Placed, refl, registers_for, Script, Some, sym, Table, TableId, Thread, ThreadKey, with_entry, with_thread_handle, ℕ, ◌+◌, ◌-◌, ◌∙◌, ◌≡◌}
use Rattle.core_records.specs.declared.{call_records.TaskGroup.TaskGroup, parts.CoreParts.CoreParts, single.Single.Single}
use Rattle.core_makes.proofs.RestoreLemmas.{Restores-deleted, Restores-pushed, Restores-same, Restores-written, restored_from}
use Rattle.core_makes.specs.Restored.{IsRestored}
use Rattle.core_makes.specs.Pushed.{PushesCallWithThread}
use Rattle.core_records.proofs.KindLemmas.{item_stands}

module _ (a b c e : CoreParts) (sound_a : IsSoundCore a) (sound_b : IsSoundCore b) (id : TableId GroupKey) (group : TaskGroup) (stands : Ok group ≡ item_at item_of a.groups id.rep id.serial) (first : TableId ThreadKey) (task : TableId GuestTaskKey)
    (made : PushesCallWithThread a b id group first task) (same : parts_of c ≡ parts_of b)
    (only_e : e ≡ record c { threads = e.threads; calls = e.calls; groups = e.groups; made = record c.made { threads = c.made.threads - 1 }; kept = record c.kept { used = c.kept.used - 3; interesting = c.kept.interesting - 1 } })
    (threads : e.threads ≡ deleted first.rep c.threads) (calls : e.calls ≡ deleted task.rep c.calls) (groups : e.groups ≡ with_entry id.rep (record { item = group }) c.groups) (threads_table : IsTable e.threads) (calls_table : IsTable e.calls) where
  abbrev less : CoreImage → CoreImage
  less q = record q { threads = e.threads; calls = e.calls; groups = e.groups; made = record q.made { threads = q.made.threads - 1 }; kept = record q.kept { used = q.kept.used - 3; interesting = q.kept.interesting - 1 } }

  abbrev with_counts : ℕ → ℕ → ℕ → CoreImage
  with_counts n used interesting = record (parts_of a) { threads = e.threads; calls = e.calls; groups = e.groups; made = record a.made { threads = n }; kept = record a.kept { used = used; interesting = interesting } }

  one_less : (n : ℕ) → n + 1 - 1 ≡ n
  one_less n = omega arith

  three_less : (n : ℕ) → n + 3 - 3 ≡ n
  three_less n = omega arith

  differs : parts_of e ≡ record (parts_of a) { threads = e.threads; calls = e.calls; groups = e.groups }
  differs =
      ap parts_of only_e ∙ (ap less same ∙ (ap (λ (y : CoreParts). less (parts_of y)) made.only
      ∙ (ap (λ (n : ℕ). with_counts n (a.kept.used + 3 - 3) (a.kept.interesting + 1 - 1)) (one_less a.made.threads) ∙ ap₂ (λ (m n : ℕ). with_counts a.made.threads m n) (three_less a.kept.used) (one_less a.kept.interesting))))

  pub call_thread_restored : IsRestored (parts_of a) (parts_of e)
  unfolding IsSoundCore
  call_thread_restored =
      let placed = item_stands (λ (r : TaskGroup). r.number) (λ (r : TaskGroup). r.calls) a.groups a.made.groups sound_a.tables.groups id.rep id.serial group stands in
      restored_from (parts_of a) (parts_of e) e.threads e.calls a.works a.sets e.groups differs
      (Restores-deleted a.threads c.threads e.threads (record { item = made.thread }) sound_a.tables.threads.table (Restores-pushed a.threads b.threads c.threads made.thread sound_b.tables.threads.table made.threads (ap (λ (q : CoreImage). q.threads) same)) first.rep made.first_at threads threads_table)
      (Restores-deleted a.calls c.calls e.calls (record { item = made.call }) sound_a.tables.calls.table (Restores-pushed a.calls b.calls c.calls made.call sound_b.tables.calls.table made.calls (ap (λ (q : CoreImage). q.calls) same)) task.rep made.task_at calls calls_table)
      (Restores-same a.works sound_a.tables.works.table)
      (Restores-same a.sets sound_a.tables.sets.table)
      (Restores-written a.groups c.groups e.groups id.rep placed.0 placed.1.0 group (record group { calls = group.calls + 1 }) placed.1.1.1 (ap (λ (q : CoreImage). q.groups) same ∙ made.groups) groups sound_a.tables.groups.table)

-- ---- The instance of a call that was made

pub made_instance : (f : Caller) (e : Callee) (x : ExportKind) (g : Goal) (group : ℕ) (words : List ℕ) (s : Core) → instance_of (s.made.threads + 1) (call_made f e x g group words s) ≡ e.instance
unfolding call_made add_thread add_call
made_instance f e x g group words s =
    let k = s.made.threads + 1 in
    let m = call_made f e x g group words s in
    ap (λ (o : Option Thread). (option_map_or (λ (d : Call). d.callee) (get m.calls (option_map_or (λ (t : Thread). t.call) o 0)) no_callee).instance) (get-insert s.threads k (new_thread k false Script.Start (registers_for words) None) k ∙ ap (λ (b : Bool). cond b (Some (new_thread k false Script.Start (registers_for words) None)) (get s.threads k)) (eq-eqb k k refl))
    ∙ ap (λ (o : Option Call). (option_map_or (λ (d : Call). d.callee) o no_callee).instance) (get-insert s.calls k (new_call f e x g group) k ∙ ap (λ (b : Bool). cond b (Some (new_call f e x g group)) (get s.calls k)) (eq-eqb k k refl))

-- the handle is that of the thread in its call's instance
pub named_core : (b m : Core) (n k i : ℕ) → b ≡ m → n ≡ k → instance_of k m ≡ i → with_thread_handle (instance_of n b) n b ≡ with_thread_handle i k m
named_core b m n k i core number instance = ap₂ (λ (s : Core) (j : ℕ). with_thread_handle (instance_of j s) j s) core number ∙ ap (λ (j : ℕ). with_thread_handle j k m) instance

-- ---- What is written is found by the id

pub item_written : {T : Type 0} (t : Table (Single T)) (rep serial : ℕ) (g h : T) → Ok g ≡ item_at item_of t rep serial → Ok h ≡ item_at item_of (with_entry rep (record { item = h }) t) rep serial
item_written {T} t rep serial g h is =
    sym (ap (item_in item_of) (found-with_entry t rep rep serial (record { item = h }) ∙ ap (λ (b : Bool). cond b (entry_put (record { item = h }) (found t rep serial)) (found t rep serial)) (eq-eqb rep rep refl)) ∙ by (found t rep serial) is)
  where
    by : (o : Option (Placed (Single T))) → Ok g ≡ item_in item_of o → item_in item_of (entry_put (record { item = h }) o) ≡ Ok h
    by None is = absurd (cc)
    by (Some q) is = refl
