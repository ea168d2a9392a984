use Rattle.store_notices.proofs.MoveLemmas.{far_stopped, far_then}
use Rattle.store_notices.specs.Moves.{switched}
use Rattle.machine_rules.specs.Notices.{around}
use Rattle.store_notices.proofs.tells.tell_moves.Goals as goal

pub returns-in_err-switch : goal.returns-in_err-switch
returns-in_err-switch g c =
    let a = c.args.groups_before.now in
    far_stopped (switched a.running c.args.running) (around a.worked) c.from_residual.result c.args.listeners.now c.switch.new.listeners c.from_residual.ensures.0 c.in_err-switch.ensures.stops c.in_err-switch.ensures.hook

pub returns : goal.returns
returns g c =
    let a = c.args.groups_before.now in
    far_then (switched a.running c.args.running) (around a.worked) c.visit.result c.args.listeners.now c.switch.new.listeners c.visit.new.listeners
    c.in_ok-switch.ensures.told c.in_ok-switch.ensures.hook c.visit.ensures
