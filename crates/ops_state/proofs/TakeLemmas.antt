-- The entry that is taken.
use Rattle.std.proofs.Common.{ap, arith, sym, ◌∙◌}
use Rattle.std.proofs.lemmas.Bool.Decides.{nat_tests}
use Rattle.std.specs.Prelude.{List, None, Option, Some, [], option_map, suc, zero, ℕ, ◌<◌, ◌≡◌, ◌∷◌}
use Rattle.machine_data.specs.Core.{Core}
use Rattle.machine_data.specs.Maps.{get}
use Rattle.machine_data.specs.Read.{next_entry, or_high, place_of}
use Rattle.machine_data.specs.declared.records.Entry.{Entry}
use Rattle.machine_data.specs.declared.records.Entry.TheVariants as entry
use Rattle.machine_data.specs.declared.statuses.Mark.{Mark}
use Rattle.task_table.specs.declared.id.TableId.{TableId}
use Rattle.task_wait.specs.declared.keys.ThreadKey.{ThreadKey}
use Rattle.core_primitives.specs.Names.{entry_in}
use Rattle.core_primitives.specs.StateView.{StateView, thread_of}
use Rattle.core_primitives.specs.declared.names.EntryId.{EntryId}
use Rattle.core_primitives.specs.declared.names.EntryId.TheVariants as entry_id
use Rattle.machine_rules.specs.Places.{HasPlace, Placed, entries, is_at_high, is_at_low, is_at_switch, says, switch_entries}

-- nothing of a thread that has no entry is taken
none_first : (n : ℕ) (m : Mark) (o : Option ℕ) (high low : List Entry) → switch_entries n o ≡ 0 → entries n high ≡ 0 → entries n low ≡ 0 → or_high o high low ≡ Some (m, entry.Thread n) → ⊥
none_first n m (Some k) high low a b c e = grind (arith, nat_tests)
none_first n m None (x ∷ high) low a b c e = grind (arith, nat_tests)
none_first n m None [] (x ∷ low) a b c e = grind (arith, nat_tests)
none_first n m None [] [] a b c e = cc

-- a thread that is gone has none
gone_none : (n : ℕ) (m : Mark) (s : Core) → HasPlace n s → next_entry s ≡ Some (m, entry.Thread n) → place_of n s ≡ None → ⊥
unfolding next_entry
gone_none n m s h at gone =
    none_first n m s.queues.switch s.queues.high s.queues.low
    (h.switch ∙ ap (says is_at_switch) gone) (h.high ∙ ap (says is_at_high) gone) (h.low ∙ ap (says is_at_low) gone) at

-- the thread that is taken has a number
pub taken_live : (n : ℕ) (m : Mark) (s : Core) → Placed s → get s.threads 0 ≡ None → next_entry s ≡ Some (m, entry.Thread n) → 0 < n
taken_live n m s placed none at = go n at
  where
    go : (k : ℕ) → next_entry s ≡ Some (m, entry.Thread k) → 0 < k
    go zero at = absurd (gone_none 0 m s (placed 0) at (ap (option_map (λ t. t.place)) none))
    go (suc k) at = omega arith

pub taken_named : (id : TableId ThreadKey) (m : Mark) (e : EntryId) (r : Option (Mark × EntryId)) (s : StateView) → option_map (λ x. (x.0, entry_in s.tags x.1)) r ≡ next_entry s.core → r ≡ Some (m, e) → e ≡ entry_id.Thread id → Placed s.core → get s.core.threads 0 ≡ None → 0 < thread_of s id
taken_named id m e r s next is thread placed none =
    taken_live (thread_of s id) m s.core placed none
    (sym next ∙ (ap (option_map (λ x. (x.0, entry_in s.tags x.1))) is ∙ ap (λ (y : EntryId). Some (m, entry_in s.tags y)) thread))
