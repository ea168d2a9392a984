use Rattle.ops_turns.proofs.made.show.Goals as goal

pub returns-in-Traps-clause-shown : goal.returns-in-Traps-clause-shown
returns-in-Traps-clause-shown g c = rw c.in-Traps.is c.show_trap.ensures.shown

pub returns-in-Fails-clause-shown : goal.returns-in-Fails-clause-shown
returns-in-Fails-clause-shown g c = rw c.in-Fails.is c.show_failure.ensures.shown
