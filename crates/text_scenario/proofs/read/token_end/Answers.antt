use Rattle.std.proofs.Common.{◌+◌, arith}
use Rattle.text_scenario.proofs.TokenEnd.{one_further, found, nowhere}
use Rattle.text_scenario.proofs.read.token_end.Goals as goal

pub returns-then-line-at-eq32-clause-place : goal.returns-then-line-at-eq32-clause-place
returns-then-line-at-eq32-clause-place c = found c.args.line.now c.fours.at _ (omega (arith, c.fours-test.true)) c.fours.invariant.before c.if-line-at-eq32.true

pub returns-then-line-at-eq32-2-clause-place : goal.returns-then-line-at-eq32-2-clause-place
returns-then-line-at-eq32-2-clause-place c =
    let at = c.fours.at in
    let one = one_further c.args.line.now at (at + 1) _ (omega arith) (omega (arith, c.fours-test.true)) c.fours.invariant.before c.if-line-at-eq32.false in
    found c.args.line.now (at + 1) _ (omega (arith, c.fours-test.true)) one c.if-line-at-eq32-2.true

pub returns-then-line-at-eq32-3-clause-place : goal.returns-then-line-at-eq32-3-clause-place
returns-then-line-at-eq32-3-clause-place c =
    let at = c.fours.at in
    let one = one_further c.args.line.now at (at + 1) _ (omega arith) (omega (arith, c.fours-test.true)) c.fours.invariant.before c.if-line-at-eq32.false in
    let two = one_further c.args.line.now (at + 1) (at + 2) _ (omega arith) (omega (arith, c.fours-test.true)) one c.if-line-at-eq32-2.false in
    found c.args.line.now (at + 2) _ (omega (arith, c.fours-test.true)) two c.if-line-at-eq32-3.true

pub returns-then-line-at-eq32-4-clause-place : goal.returns-then-line-at-eq32-4-clause-place
returns-then-line-at-eq32-4-clause-place c =
    let at = c.fours.at in
    let one = one_further c.args.line.now at (at + 1) _ (omega arith) (omega (arith, c.fours-test.true)) c.fours.invariant.before c.if-line-at-eq32.false in
    let two = one_further c.args.line.now (at + 1) (at + 2) _ (omega arith) (omega (arith, c.fours-test.true)) one c.if-line-at-eq32-2.false in
    let three = one_further c.args.line.now (at + 2) (at + 3) _ (omega arith) (omega (arith, c.fours-test.true)) two c.if-line-at-eq32-3.false in
    found c.args.line.now (at + 3) _ (omega (arith, c.fours-test.true)) three c.if-line-at-eq32-4.true

pub returns-then-line-at-eq32-5-clause-place : goal.returns-then-line-at-eq32-5-clause-place
returns-then-line-at-eq32-5-clause-place c = found c.args.line.now c.ones.at _ (omega (arith, c.ones-test.true)) c.ones.invariant.before c.if-line-at-eq32-5.true

pub returns-clause-place : goal.returns-clause-place
returns-clause-place c = nowhere c.args.line.now c.ones.at (omega (arith, c.ones-test.false)) c.ones.invariant.before
