use Rattle.ops_subtasks.proofs.CallLemmas.{cleared_behind, starts_is, switch_unqueued}
use Rattle.ops_subtasks.proofs.call_ops.start_made.Goals as goal
use Rattle.machine_data.specs.declared.records.Place.TheVariants as place
use Rattle.core_primitives.specs.StateView.{thread_of}

pub put_switch-requires-clause-switch : goal.put_switch-requires-clause-switch
put_switch-requires-clause-switch g c =
    let s = g.W.View.view c.args.w.now in
    switch_unqueued (thread_of s c.args.thread) place.Running s.core c.requires.running

pub put_behind-requires-clause-apart : goal.put_behind-requires-clause-apart
put_behind-requires-clause-apart g c =
    let v = g.W.View.view in
    cleared_behind c.args.thread c.args.other c.args.kind _ (v c.args.w.now) (v c.put_switch.new.w) (v c.clear_flag.new.w) c.requires.running c.requires.new c.put_switch.ensures c.clear_flag.ensures

pub returns : goal.returns
returns g c =
    let v = g.W.View.view in
    starts_is c.args.thread c.args.other c.args.call c.args.instance c.args.kind (v c.args.w.now) (v c.put_switch.new.w) (v c.clear_flag.new.w) (v c.put_behind.new.w) (v c.set_op_progress.new.self) c.put_switch.ensures c.clear_flag.ensures c.put_behind.ensures c.set_op_progress.ensures
