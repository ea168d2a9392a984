use Rattle.std.proofs.Common.{arith}
use Rattle.tests_choices.proofs.GoingLemmas.{gives}
use Rattle.tests_choices.proofs.machine.one_of_two_waiters_is_chosen.Goals as goal

pub goes_only-requires-clause-few : goal.goes_only-requires-clause-few
goes_only-requires-clause-few g c = gives 0 1000 c.opened-machine.result (omega arith) c.opened-machine.ensures.few

pub go_on-requires-clause-kept : goal.go_on-requires-clause-kept
go_on-requires-clause-kept g c = c.goes_only.ensures.kept

pub go_on-requires-clause-few : goal.go_on-requires-clause-few
go_on-requires-clause-few g c = gives 2 800 c.goes_only.new.machine (omega arith) (c.goes_only.ensures.few 0 c.opened-machine.ensures.few)

pub goes_only-requires-2-clause-kept : goal.goes_only-requires-2-clause-kept
goes_only-requires-2-clause-kept g c = c.go_on.ensures.kept

pub goes_only-requires-2-clause-few : goal.goes_only-requires-2-clause-few
goes_only-requires-2-clause-few g c =
    gives 202 1000 c.go_on.new.machine (omega arith) (c.go_on.ensures.few 2 (c.goes_only.ensures.few 0 c.opened-machine.ensures.few))

pub offer_of-offer-requires : goal.offer_of-offer-requires
offer_of-offer-requires g c = c.goes_only-2.ensures.kept

pub outcome-requires : goal.outcome-requires
outcome-requires g c = c.goes_only-2.ensures.kept

pub outcome-requires-2 : goal.outcome-requires-2
outcome-requires-2 g c = c.goes_only-2.ensures.kept

pub wakes-requires-clause-kept : goal.wakes-requires-clause-kept
wakes-requires-clause-kept g c = c.goes_only-2.ensures.kept

pub wakes-requires-clause-few : goal.wakes-requires-clause-few
wakes-requires-clause-few g c =
    gives 204 1000 c.goes_only-2.new.machine (omega arith)
    (c.goes_only-2.ensures.few 202 (c.go_on.ensures.few 2 (c.goes_only.ensures.few 0 c.opened-machine.ensures.few)))

pub wakes-requires-2-clause-kept : goal.wakes-requires-2-clause-kept
wakes-requires-2-clause-kept g c = c.wakes.ensures.kept

pub wakes-requires-2-clause-few : goal.wakes-requires-2-clause-few
wakes-requires-2-clause-few g c =
    gives 206 1000 c.wakes.new.machine (omega arith)
    (c.wakes.ensures.few 204 (c.goes_only-2.ensures.few 202 (c.go_on.ensures.few 2 (c.goes_only.ensures.few 0 c.opened-machine.ensures.few))))

pub go_on-requires-2-clause-kept : goal.go_on-requires-2-clause-kept
go_on-requires-2-clause-kept g c = c.wakes-2.ensures.kept

pub go_on-requires-2-clause-few : goal.go_on-requires-2-clause-few
go_on-requires-2-clause-few g c =
    gives 208 800 c.wakes-2.new.machine (omega arith)
    (c.wakes-2.ensures.few 206 (c.wakes.ensures.few 204 (c.goes_only-2.ensures.few 202 (c.go_on.ensures.few 2 (c.goes_only.ensures.few 0 c.opened-machine.ensures.few)))))

pub wakes-requires-3-clause-kept : goal.wakes-requires-3-clause-kept
wakes-requires-3-clause-kept g c = c.go_on-2.ensures.kept

pub wakes-requires-3-clause-few : goal.wakes-requires-3-clause-few
wakes-requires-3-clause-few g c =
    gives 408 1000 c.go_on-2.new.machine (omega arith)
    (c.go_on-2.ensures.few 208 (c.wakes-2.ensures.few 206 (c.wakes.ensures.few 204 (c.goes_only-2.ensures.few 202 (c.go_on.ensures.few 2 (c.goes_only.ensures.few 0 c.opened-machine.ensures.few))))))

pub outcome-requires-3 : goal.outcome-requires-3
outcome-requires-3 g c = c.wakes-3.ensures.kept
