use Rattle.core_records.proofs.Core.{◌∙◌}
use Rattle.core_removals.proofs.PollLemmas.{chain_rises, next_is, polled_live}
use Rattle.core_removals.proofs.polls.first_above.Goals as goal

pub search_start-start-requires-clause-live : goal.search_start-start-requires-clause-live
search_start-start-requires-clause-live c = polled_live c.args.parts.now c.requires.sound c.args.chain c.requires.is

pub search_start-start-requires-clause-rising : goal.search_start-start-requires-clause-rising
search_start-start-requires-clause-rising c = chain_rises c.args.parts.now c.requires.sound c.args.chain c.requires.is

pub returns : goal.returns
returns c = c.first_from.ensures ∙ next_is c.args.parts.now c.requires.sound c.args.polled c.args.chain c.requires.is c.search_start-start.ensures.links c.search_start-start.ensures.linked
