use Rattle.ops_state.proofs.OrderLemmas.{put_beside, put_order, put_returns}
use Rattle.ops_state.proofs.entry_calls.push_work_item.Goals as goal

pub returns-clause-order : goal.returns-clause-order
returns-clause-order g c = put_order c.args.mark c.args.item (g.W.View.view c.args.w.now) _ c.put_item.ensures

pub returns-clause-beside : goal.returns-clause-beside
returns-clause-beside g c = put_beside c.args.mark c.args.item (g.W.View.view c.args.w.now) _ c.put_item.ensures

pub returns-clause-back : goal.returns-clause-back
returns-clause-back g c = put_returns c.args.mark c.args.item (g.W.View.view c.args.w.now) _ c.put_item.ensures
