-- An index over the entries of a table: an entry is written, pushed or deleted.
use Rattle.std.proofs.Common.{inl, inr, ◌≡◌, ℕ, true, List, Option, Some, sym, ap, ◌∙◌}
use Rattle.std.proofs.lemmas.Bool.{cases_eq}
use Rattle.table_lists.proofs.Indexes.{IsIndex-added, IsIndex-refiled, IsIndex-same}
use Rattle.table_lists.proofs.Tables.{filings-pushed_before, filings-pushed_here, filings-pushed_other, filings-with_entry_here, filings-with_entry_other, filings_at}
use Rattle.table_lists.specs.Index.{Filing, IsIndex, Refiles, filings, link_for}
use Rattle.table_links.specs.Links.{Spot, is_made, link_of}
use Rattle.task_table.specs.Changes.{next_place, pushed, with_entry}
use Rattle.task_table.specs.Table.{IsTable, Placed, Table, place_at}

module _ {E K P : Type 0} (says : ℕ → ℕ → E → Option (Filing K P)) (chain : K → Option ℕ) (t : Table E) (links : List (Spot P)) (index : IsIndex chain links (filings says t)) where
  -- one place says what it said, and so do all others
  same_at : (u : Table E) (place : ℕ) → filings says u place ≡ filings says t place → ((r : ℕ) → (r ≡ place → ⊥) → filings says u r ≡ filings says t r) → IsIndex chain links (filings says u)
  same_at u place here others = IsIndex-same chain links (filings says t) index (filings says u) (λ r. elim (cases_eq r place) [
    | inl same ↦ ap (filings says u) same ∙ (here ∙ sym (ap (filings says t) same))
    | inr other ↦ others r other
  ])

  module _ (rep : ℕ) (p : Placed E) (at : place_at t rep ≡ Some p) where
    -- an entry is written, and its node is filed as it says now
    pub IsIndex-with_entry : (new : List (Spot P)) (e : E) (was is : Filing K P) → says rep p.serial p.entry ≡ Some was → says rep p.serial e ≡ Some is → is.node ≡ was.node → Refiles links new was.node (link_for chain is) → IsIndex chain new (filings says (with_entry rep e t))
    IsIndex-with_entry new e was is before after same re = IsIndex-refiled chain links new (filings says t) (filings says (with_entry rep e t)) index rep was is (filings_at says t rep (Some p) at ∙ before) (filings-with_entry_here says t rep e p at ∙ after) same (filings-with_entry_other says t rep e) re

    -- an entry is written that says what it said, if anything
    pub IsIndex-with_entry_same : (e : E) → says rep p.serial e ≡ says rep p.serial p.entry → IsIndex chain links (filings says (with_entry rep e t))
    IsIndex-with_entry_same e same = same_at (with_entry rep e t) rep (filings-with_entry_here says t rep e p at ∙ (same ∙ sym (filings_at says t rep (Some p) at))) (filings-with_entry_other says t rep e)

  module _ (table : IsTable t) (e : E) where
    -- an entry is pushed with a node that no other has, and that has the link that it says
    pub IsIndex-pushed : (is : Filing K P) → says (next_place t) t.given e ≡ Some is → is_made links is.node ≡ true → link_of links is.node ≡ link_for chain is → ((r : ℕ) (f : Filing K P) → filings says t r ≡ Some f → f.node ≡ is.node → ⊥) → IsIndex chain links (filings says (pushed e t))
    IsIndex-pushed is after made link new = IsIndex-added chain links (filings says t) index (filings says (pushed e t)) (next_place t) is (filings-pushed_before says t table) (filings-pushed_here says t e table ∙ after) (λ r other. filings-pushed_other says t e r table other) made link new
