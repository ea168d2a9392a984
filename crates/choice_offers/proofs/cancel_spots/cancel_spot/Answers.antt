use Rattle.choice_offers.proofs.FarLemmas.{cancel_begins}
use Rattle.choice_offers.proofs.cancel_spots.cancel_spot.Goals as goal
use Rattle.core_primitives.specs.Names.{op_progress_in}
use Rattle.core_primitives.specs.StateView.{thread_of}
use Rattle.laws_choices.specs.Offers.{cancel_offer}
use Rattle.std.proofs.Common.{ap, sym, ◌∙◌}

pub returns-in-Cancels : goal.returns-in-Cancels
returns-in-Cancels c =
    let s = c.args.core.now in
    let n = thread_of s c.args.thread in
    let inside = ap (op_progress_in s.tags) (sym c.in-Cancels.is) ∙ (c.op_progress.ensures ∙ c.requires.under_way.names) in
    ((c.no_spot.ensures n).0, (c.no_spot.ensures n).1 ∙ ap (cancel_offer n c.args.handle s.core) inside)

pub returns-in-AwaitsEnd : goal.returns-in-AwaitsEnd
returns-in-AwaitsEnd c =
    let s = c.args.core.now in
    let n = thread_of s c.args.thread in
    let inside = ap (op_progress_in s.tags) (sym c.in-AwaitsEnd.is) ∙ (c.op_progress.ensures ∙ c.requires.under_way.names) in
    ((c.no_spot-in-AwaitsEnd.ensures n).0, (c.no_spot-in-AwaitsEnd.ensures n).1 ∙ ap (cancel_offer n c.args.handle s.core) inside)

pub returns-in_default : goal.returns-in_default
returns-in_default c =
    let s = c.args.core.now in
    let n = thread_of s c.args.thread in
    let inside = c.op_progress.ensures ∙ c.requires.under_way.names in (
      c.begin_cancel_spot.ensures.0,
      c.begin_cancel_spot.ensures.1
          ∙ (cancel_begins n c.args.handle s.core s.tags c.op_progress.result c.in_default.not-Cancels c.in_default.not-AwaitsEnd ∙ ap (cancel_offer n c.args.handle s.core) inside),
    )
