use Rattle.core_lists.proofs.WaitingLists.{waiting_listed}
use Rattle.core_lists.proofs.WalkedLists.{lists_added}
use Rattle.core_lists.proofs.cancels.list_cancellable.Goals as goal
use Rattle.core_places.proofs.WaitingLemmas.{waiting_live, waits_where}
use Rattle.core_primitives.specs.StateView.{call_of, thread_of}
use Rattle.core_records.proofs.Core.{ap, is_some, seen, sym, ◌∙◌}
use Rattle.machine_data.specs.Moves.{waits_cancellable}
use Rattle.machine_rules.specs.Cancels.{cancellable}
use Rattle.std.proofs.lemmas.List.Sorted.{IsPermutation-refl}

pub add_waiting-requires : goal.add_waiting-requires
add_waiting-requires c = waiting_live c.args.parts.now c.requires.sound c.args.call.rep c.args.call.serial c.call_there.result.now c.call_there.ensures.item c.in-Some.chain c.in-Some.is

pub add_only-requires-clause-only : goal.add_only-requires-clause-only
add_only-requires-clause-only c =
    let a = c.args.parts.now in
    ap (λ n. waits_cancellable n (seen a).core) (sym c.call_there.ensures.number)
    ∙ (waits_where a c.requires.sound c.args.call.rep c.args.call.serial c.call_there.result.now c.call_there.ensures.item ∙ ap is_some c.in-None.is)

pub returns-in-Some : goal.returns-in-Some
returns-in-Some c =
    let a = c.args.parts.now in
    lists_added (λ id. thread_of (seen a) id) c.add_waiting.result (cancellable (call_of (seen a) c.args.call) (seen a).core) _ c.clear.new.self.items c.add_waiting.new.list.items c.clear.ensures.items
    (waiting_listed a c.requires.sound c.args.call.rep c.args.call.serial c.call_there.result.now c.call_there.ensures.item c.in-Some.chain c.in-Some.is c.add_waiting.ensures.links _ c.call_there.ensures.number)
    c.add_waiting.ensures.added

pub returns-in-None : goal.returns-in-None
returns-in-None c =
    let a = c.args.parts.now in
    lists_added (λ id. thread_of (seen a) id) c.add_only.result (cancellable (call_of (seen a) c.args.call) (seen a).core) _ c.clear.new.self.items c.add_only.new.list.items c.clear.ensures.items
    (IsPermutation-refl _)
    c.add_only.ensures
