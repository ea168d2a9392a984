use Rattle.choice_run.proofs.NumberLemmas.{none_taken, takes_all, takes_none, takes_one}
use Rattle.choice_run.proofs.read.numbers.Goals as goal
use Rattle.std.proofs.Common.{subst, sym}
use Rattle.std.specs.Prelude.{map}

pub loop-word-init : goal.loop-word-init
loop-word-init c = rw c.new-list.ensures (none_taken (map (λ w. w.now) c.args.words.now))

pub loop-word-preserved : goal.loop-word-preserved
loop-word-preserved c =
    rw c.in_ok-push.ensures.ok
    (takes_one (λ w. w.now) c.args.words.now c.loop-word.word-index _ c.loop-word.list c.loop-word.invariant c.loop-word-test.true c.in-Some.value c.in-Some.ensures.0 c.in-Some.ensures.1)

pub returns-in_default : goal.returns-in_default
returns-in_default c = takes_none (λ w. w.now) c.args.words.now c.loop-word.word-index _ c.loop-word.list c.loop-word-test.true (λ n few is. c.in_default.ensures n few is)

pub returns : goal.returns
returns c = takes_all (λ w. w.now) c.args.words.now c.loop-word.word-index c.loop-word.list c.loop-word.invariant c.loop-word-test.false
