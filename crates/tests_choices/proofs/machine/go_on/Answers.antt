use Rattle.std.proofs.Common.{arith, ◌*◌, ◌+◌}
use Rattle.tests_choices.proofs.GoingLemmas.{fewer, further, gives, stays}
use Rattle.tests_choices.proofs.machine.go_on.Goals as goal

pub labels-init : goal.labels-init
labels-init g c = record { goes = stays 0 c.args.machine.now c.requires.kept; few = omega arith }

pub outcome-requires : goal.outcome-requires
outcome-requires g c = c.labels.invariant.goes.kept

pub returns-then-is_some : goal.returns-then-is_some
returns-then-is_some g c = let few = c.labels.invariant.few in fewer (2 * c.labels.labels) 200 c.args.machine.now c.labels.machine (omega (arith, few)) c.labels.invariant.goes

pub offer_of-offer-requires : goal.offer_of-offer-requires
offer_of-offer-requires g c = c.labels.invariant.goes.kept

pub returns-then-is_open : goal.returns-then-is_open
returns-then-is_open g c = let few = c.labels.invariant.few in fewer (2 * c.labels.labels) 200 c.args.machine.now c.labels.machine (omega (arith, few)) c.labels.invariant.goes

pub went-went-requires-clause-kept : goal.went-went-requires-clause-kept
went-went-requires-clause-kept g c = c.labels.invariant.goes.kept

pub went-went-requires-clause-few : goal.went-went-requires-clause-few
went-went-requires-clause-few g c =
    let few = c.labels.invariant.few in
    gives (800 + 2 * c.labels.labels) 1000 c.labels.machine (omega (arith, few)) (c.labels.invariant.goes.few 800 c.requires.few)

pub labels-preserved : goal.labels-preserved
labels-preserved g c = record {
  goes = further _ c.args.machine.now c.labels.machine c.went-went.new.machine c.labels.invariant.goes c.went-went.ensures;
  few = omega arith;
}

pub returns : goal.returns
returns g c = let few = c.labels.invariant.few in fewer (2 * c.labels.labels) 200 c.args.machine.now c.labels.machine (omega (arith, few)) c.labels.invariant.goes
