use Rattle.choice_offers.proofs.offered.held_at.Goals as goal
use Rattle.choice_offers.specs.Listings.{numbers_of}
use Rattle.choice_offers.specs.Spots.{opened_at, opened_by}
use Rattle.choice_offers.specs.declared.held.NamedThread.{NamedThread}
use Rattle.choice_offers.specs.declared.spots.Opening.{Opening}
use Rattle.core_primitives.specs.StateView.{thread_of}
use Rattle.std.proofs.Common.{ap, subst, sym, ◌∙◌}
use Rattle.std.proofs.lemmas.List.Sorted.{All-permutation, IsPermutation-map, IsPermutation-trans}
use Rattle.std.specs.Prelude.{IsPermutation, List, Option, map, ℕ, ◌≡◌}
use Rattle.task_table.specs.declared.id.TableId.{TableId}
use Rattle.task_wait.specs.declared.keys.ThreadKey.{ThreadKey}

pub returns-clause-numbers : goal.returns-clause-numbers
returns-clause-numbers c =
    let s = c.args.core.now in
    let ns = opened_by c.in-Some.opening c.in-Some.instance s.core in
    let list = c.in_ok-list.list.items in
    subst (λ (o : Option (ℕ × Opening)). IsPermutation (opened_at s o) (numbers_of c.put_in_order.new.list.items)) (sym c.in-Some.is)
    (IsPermutation-trans ns (numbers_of list) (numbers_of c.put_in_order.new.list.items)
    (subst (λ (l : List ℕ). IsPermutation ns l) (sym (c.in_ok-list.ensures.numbers ∙ ap (λ (l : List (TableId ThreadKey)). map (λ id. thread_of s id) l) c.as_slice.ensures.value)) c.in_ok-ids.ensures)
    (IsPermutation-map (λ (t : NamedThread). t.number) list c.put_in_order.new.list.items c.put_in_order.ensures.permutation))

pub returns-clause-named : goal.returns-clause-named
returns-clause-named c = All-permutation (λ (t : NamedThread). thread_of c.args.core.now t.id ≡ t.number) c.in_ok-list.list.items c.put_in_order.new.list.items c.put_in_order.ensures.permutation c.in_ok-list.ensures.named
