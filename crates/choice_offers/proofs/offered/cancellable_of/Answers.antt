use Rattle.choice_offers.proofs.ListingLemmas.{sorted_is, cancellable_strict}
use Rattle.choice_offers.proofs.offered.cancellable_of.Goals as goal
use Rattle.choice_offers.specs.declared.held.NamedThread.{NamedThread}
use Rattle.core_primitives.specs.StateView.{call_of, thread_of}
use Rattle.machine_rules.specs.Cancels.{cancellable}
use Rattle.std.proofs.Common.{ap, subst, sym, ◌∙◌}
use Rattle.std.proofs.lemmas.List.Sorted.{All-permutation}
use Rattle.std.specs.Prelude.{IsPermutation, List, map, ℕ, ◌≡◌}
use Rattle.task_table.specs.declared.id.TableId.{TableId}
use Rattle.task_wait.specs.declared.keys.ThreadKey.{ThreadKey}

pub returns-clause-numbers : goal.returns-clause-numbers
returns-clause-numbers c =
    let s = c.args.core.now in
    let ns = cancellable (call_of s c.args.call) s.core in
    sorted_is (λ (t : NamedThread). t.number) c.sort_threads.new.list.items ns c.in_ok-list.list.items (cancellable_strict (call_of s c.args.call) s)
    (subst (λ (l : List ℕ). IsPermutation ns l) (sym (c.in_ok-list.ensures.numbers ∙ ap (λ (l : List (TableId ThreadKey)). map (λ id. thread_of s id) l) c.as_slice.ensures.value)) c.in_ok-cancellable.ensures)
    c.sort_threads.ensures.permutation c.in_ok-sort_threads.ensures.order

pub returns-clause-named : goal.returns-clause-named
returns-clause-named c = All-permutation (λ (t : NamedThread). thread_of c.args.core.now t.id ≡ t.number) c.in_ok-list.list.items c.sort_threads.new.list.items c.sort_threads.ensures.permutation c.in_ok-list.ensures.named
