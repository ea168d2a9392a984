use Rattle.core_picks.proofs.CancellableLemmas.{callback_live, callback_one}
use Rattle.core_picks.proofs.picks.waiting_callback.Goals as goal
use Rattle.core_records.proofs.Core.{ap, sym, ◌∙◌}
use Rattle.machine_data.specs.Read.{waits_by_callback}

pub returns-then-by_callback-clause-some : goal.returns-then-by_callback-clause-some
returns-then-by_callback-clause-some c =
    callback_one c.args.parts.now c.requires _ _ c.first_thread-first.ensures c.in-Some-Waiting.field-0 (sym c.in-Some-Waiting.is ∙ c.place.ensures)
    (ap waits_by_callback c.in-Some-Waiting.field-0-is ∙ c.if-by_callback.true)

pub returns-then-by_callback-clause-live : goal.returns-then-by_callback-clause-live
returns-then-by_callback-clause-live c =
    callback_live c.args.parts.now c.requires _ _ c.first_thread-first.ensures c.in-Some-Waiting.field-0 (sym c.in-Some-Waiting.is ∙ c.place.ensures)
