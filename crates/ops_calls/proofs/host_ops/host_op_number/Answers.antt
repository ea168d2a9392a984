use Rattle.ops_calls.proofs.HostOpLemmas.{went_on}
use Rattle.ops_calls.proofs.host_ops.host_op_number.Goals as goal

pub at_once-requires : goal.at_once-requires
at_once-requires g c =
    let v = g.W.View.view in
    let q = c.requires.running in
    went_on c.args.component.now c.args.op q.number (v c.args.w.now) (v c.do_host_op.new.w) c.in_ok-op_result.op_result q.runs c.requires.at_once c.in_ok-op_result.ensures.did
