use Rattle.std.proofs.Common.{ap}
use Rattle.machine_data.specs.declared.label.Label.TheVariants as label
use Rattle.machine_data.specs.declared.records.Turn.TheVariants as turn
use Rattle.ops_turns.proofs.RestLemmas.{deadlock_turns}
use Rattle.ops_turns.proofs.rests.step_deadlock.Goals as goal
use Rattle.ops_turns.specs.declared.made.MadeStep.{MadeStep}

pub returns-clause-turns : goal.returns-clause-turns
returns-clause-turns g c x in_turn idle m pends =
    let v = g.W.View.view in
    deadlock_turns x (v c.args.w.now) (v c.deadlock.new.w) m c.requires.current c.requires.none c.requires.moving c.requires.live c.requires.rest (in_turn.order m) idle pends c.deadlock.ensures.new
    (record { label = label.Loop c.deadlock.result; turn = turn.Over }) (ap (λ l. let k : MadeStep = record { label = label.Loop l; turn = turn.Over } in k) c.deadlock.ensures.label)
