use Rattle.choice_offers.proofs.take_spots.take_spot.Goals as goal
use Rattle.core_primitives.specs.Names.{entry_in}
use Rattle.core_primitives.specs.StateView.{thread_of}
use Rattle.core_primitives.specs.declared.names.EntryId.{EntryId}
use Rattle.laws_choices.specs.Offers.{take_offer, thread_offer, why_offer}
use Rattle.machine_rules.specs.Step.{entry_number}
use Rattle.choice_offers.specs.Spots.{Offers}
use Rattle.choice_offers.specs.Takes.{IsEntryThere}
use Rattle.std.proofs.Common.{ap, subst, sym, ◌∙◌}

pub returns-in-Push : goal.returns-in-Push
returns-in-Push c =
    let s = c.args.core.now in
    subst (λ (e : EntryId). Offers s (entry_number (entry_in s.tags e)) c.no_spot-in-Push.result (take_offer s.core (entry_in s.tags e))) (sym c.in-Push.is) (c.no_spot-in-Push.ensures _)

pub returns-in-Host : goal.returns-in-Host
returns-in-Host c =
    let s = c.args.core.now in
    subst (λ (e : EntryId). Offers s (entry_number (entry_in s.tags e)) c.wakes_in.result (take_offer s.core (entry_in s.tags e))) (sym c.in-Host.is) (c.wakes_in.ensures _)

pub returns-in-Resumption : goal.returns-in-Resumption
returns-in-Resumption c =
    let s = c.args.core.now in
    let n = thread_of s c.in-Thread.thread in
    let there = subst (λ (e : EntryId). IsEntryThere e s) c.in-Thread.is c.requires in
    subst (λ (e : EntryId). Offers s (entry_number (entry_in s.tags e)) c.no_spot.result (take_offer s.core (entry_in s.tags e))) (sym c.in-Thread.is) (
      (c.no_spot.ensures n).0,
      (c.no_spot.ensures n).1 ∙ (ap (why_offer n s.core) (sym (sym c.why.ensures ∙ c.in-Resumption.is)) ∙ ap (thread_offer n s.core) (sym there.place)),
    )
