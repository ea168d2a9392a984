use Rattle.choice_offers.proofs.ListingLemmas.{sorted_is, waiters_strict}
use Rattle.choice_offers.proofs.offered.waiters_of.Goals as goal
use Rattle.choice_offers.specs.declared.held.NamedThread.{NamedThread}
use Rattle.core_primitives.specs.StateView.{set_of, thread_of}
use Rattle.laws_choices.specs.Offers.{waiters_of}
use Rattle.std.proofs.Common.{ap, subst, sym, ◌∙◌}
use Rattle.std.proofs.lemmas.List.Sorted.{All-permutation}
use Rattle.std.specs.Prelude.{IsPermutation, List, map, ℕ, ◌≡◌}
use Rattle.task_table.specs.declared.id.TableId.{TableId}
use Rattle.task_wait.specs.declared.keys.ThreadKey.{ThreadKey}

pub returns-clause-numbers : goal.returns-clause-numbers
returns-clause-numbers c =
    let s = c.args.core.now in
    let ns = waiters_of (set_of s c.args.set) s.core in
    sorted_is (λ (t : NamedThread). t.number) c.sort_threads.new.list.items ns c.in_ok-list.list.items (waiters_strict (set_of s c.args.set) s)
    (subst (λ (l : List ℕ). IsPermutation ns l) (sym (c.in_ok-list.ensures.numbers ∙ ap (λ (l : List (TableId ThreadKey)). map (λ id. thread_of s id) l) c.as_slice.ensures.value)) c.in_ok-waiters.ensures)
    c.sort_threads.ensures.permutation c.in_ok-sort_threads.ensures.order

pub returns-clause-named : goal.returns-clause-named
returns-clause-named c = All-permutation (λ (t : NamedThread). thread_of c.args.core.now t.id ≡ t.number) c.in_ok-list.list.items c.sort_threads.new.list.items c.sort_threads.ensures.permutation c.in_ok-list.ensures.named
