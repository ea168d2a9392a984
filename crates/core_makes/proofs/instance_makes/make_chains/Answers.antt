use Rattle.core_makes.proofs.LooseLemmas.{made_loose}
use Rattle.core_makes.proofs.instance_makes.make_chains.Goals as goal

pub returns-clause-loose : goal.returns-clause-loose
returns-clause-loose c =
    made_loose c.open_low.new.parts c.make_place_chain.new.parts c.make_place_chain-2.new.parts c.make_instance_queue_chain.new.parts c.make_instance_queue_chain-2.new.parts c.in_ok-held.held c.in_ok-starts.starts c.in_ok-high.high c.in_ok-low.low
    c.in_ok-open_low.ensures.sound c.in_ok-held.ensures.sound c.in_ok-starts.ensures.sound c.in_ok-high.ensures.sound
    c.in_ok-held.ensures.only c.in_ok-starts.ensures.only c.in_ok-high.ensures.only c.in_ok-low.ensures.only
    c.in_ok-held.ensures.made c.in_ok-starts.ensures.made c.in_ok-high.ensures.made c.in_ok-low.ensures.made
