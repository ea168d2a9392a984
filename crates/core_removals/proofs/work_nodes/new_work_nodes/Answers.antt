use Rattle.core_removals.proofs.LooseLemmas.{made_work_loose}
use Rattle.core_removals.proofs.work_nodes.new_work_nodes.Goals as goal

pub returns-clause-loose : goal.returns-clause-loose
returns-clause-loose c = made_work_loose c.open_live.new.parts c.make_place_chain.new.parts c.make_ready_work_node.new.parts c.make_live_node.new.parts c.make_mark_node.new.parts _ c.in_ok-open_live.ensures.sound c.in_ok-blocked.ensures.sound c.in_ok-ready.ensures.sound c.in_ok-live.ensures.sound c.in_ok-blocked.ensures.only c.in_ok-ready.ensures.only c.in_ok-live.ensures.only c.in_ok-mark.ensures.only c.in_ok-blocked.ensures.made c.in_ok-ready.ensures.made c.in_ok-live.ensures.made c.in_ok-mark.ensures.made
