use Rattle.core_records.proofs.Core.{ap, number_of, set_key, ◌∙◌}
use Rattle.core_records.proofs.ReadLemmas.{set_shown}
use Rattle.core_places.proofs.EntryLemmas.{no_set_there}
use Rattle.core_places.proofs.entry_states.no_set.Goals as goal

pub returns : goal.returns
returns c =
    let a = c.args.parts.now in
    set_shown a c.new.result ∙ (ap (λ r. number_of set_key a.sets r c.new.result.serial) c.new.ensures.rep ∙ no_set_there a c.requires c.new.result.serial)
