use Rattle.core_records.proofs.Core.{HeldIn, StartsIn, sym, ◌∙◌}
use Rattle.core_removals.proofs.ChainLemmas.{chain_live}
use Rattle.core_removals.proofs.HeldOrderLemmas.{both_members, both_order, chain_held, chain_once, kept_order, open_admitted}
use Rattle.core_removals.proofs.releases.release_some.Goals as goal

pub release_chain-requires-clause-live : goal.release_chain-requires-clause-live
release_chain-requires-clause-live c = chain_live c.args.parts.now c.requires.sound (HeldIn c.args.instance) c.args.held c.requires.held

pub release_chain-requires-clause-once : goal.release_chain-requires-clause-once
release_chain-requires-clause-once c = chain_once c.args.parts.now c.requires.sound c.no_node_is_twice.ensures c.args.instance c.args.held c.args.starts c.requires.held c.requires.starts

pub release_chain-requires-clause-held : goal.release_chain-requires-clause-held
release_chain-requires-clause-held c = chain_held c.args.parts.now c.requires.sound c.no_node_is_twice.ensures c.args.instance c.args.held c.args.starts c.requires.held c.requires.starts

pub returns-then-kept_out-clause-picks : goal.returns-then-kept_out-clause-picks
returns-then-kept_out-clause-picks c = (_, (c.release_chain.ensures.picks, (kept_order c.args.parts.now c.requires.sound c.no_node_is_twice.ensures c.args.instance c.args.held c.args.starts c.requires.held c.requires.starts (c.requires.kept_out ∙ c.if-kept_out.true), c.release_chain.ensures.new)))

pub release_both-requires-clause-chain : goal.release_both-requires-clause-chain
release_both-requires-clause-chain c = chain_live c.args.parts.now c.requires.sound (HeldIn c.args.instance) c.args.held c.requires.held

pub release_both-requires-clause-other : goal.release_both-requires-clause-other
release_both-requires-clause-other c = chain_live c.args.parts.now c.requires.sound (StartsIn c.args.instance) c.args.starts c.requires.starts

pub release_both-requires-clause-once : goal.release_both-requires-clause-once
release_both-requires-clause-once c = (both_members c.args.parts.now c.requires.sound c.no_node_is_twice.ensures c.args.instance c.args.held c.args.starts c.requires.held c.requires.starts).once

pub release_both-requires-clause-held : goal.release_both-requires-clause-held
release_both-requires-clause-held c = λ n h. sym ((both_members c.args.parts.now c.requires.sound c.no_node_is_twice.ensures c.args.instance c.args.held c.args.starts c.requires.held c.requires.starts).are n) ∙ h

pub release_both-requires-clause-admitted : goal.release_both-requires-clause-admitted
release_both-requires-clause-admitted c = open_admitted c.args.parts.now c.requires.sound c.no_node_is_twice.ensures c.args.instance c.args.held c.args.starts c.requires.held c.requires.starts (c.requires.kept_out ∙ c.if-kept_out.false)

pub returns-clause-picks : goal.returns-clause-picks
returns-clause-picks c = (_, (c.release_both.ensures.picks, (both_order c.args.parts.now c.requires.sound c.no_node_is_twice.ensures c.args.instance c.args.held c.args.starts c.requires.held c.requires.starts (c.requires.kept_out ∙ c.if-kept_out.false), c.release_both.ensures.new)))
