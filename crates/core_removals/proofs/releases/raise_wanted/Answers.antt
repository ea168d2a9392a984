use Rattle.core_records.proofs.Core.{refl, seen, ◌∙◌}
use Rattle.core_removals.proofs.RaisedLemmas.{all_raised, next_raised, wanted_bound}
use Rattle.core_removals.proofs.releases.raise_wanted.Goals as goal
use Rattle.std.proofs.Common.{arith}

pub loop-index-init : goal.loop-index-init
unfolding seen
loop-index-init c = record { sound = c.requires.sound; again = refl; free = c.requires.unqueued; places = λ r. refl }

pub index-thread-requires : goal.index-thread-requires
index-thread-requires c =
    let same = c.args.parts.now.wanted.held.ok.0 in
    let now = c.loop-index.parts.wanted.held.ok.0 in
    let below = wanted_bound c.args.parts.now c.loop-index.parts c.args.instance c.loop-index.index c.loop-index.invariant.again (omega (arith, c.loop-index-test.true, c.len-index-end.ensures, same)) in
    omega (arith, below, now)

pub raise_one-requires-clause-sound : goal.raise_one-requires-clause-sound
raise_one-requires-clause-sound c = c.loop-index.invariant.sound

pub raise_one-requires-clause-unqueued : goal.raise_one-requires-clause-unqueued
raise_one-requires-clause-unqueued c = c.loop-index.invariant.free

pub loop-index-preserved : goal.loop-index-preserved
loop-index-preserved c = let same = c.args.parts.now.wanted.held.ok.0 in record {
  sound = c.raise_one.ensures.sound;
  again = next_raised c.args.parts.now c.loop-index.parts c.args.instance c.loop-index.index c.loop-index.invariant.again c.raise_one.new.parts c.index-thread.result.now (omega (arith, c.loop-index-test.true, c.len-index-end.ensures, same)) c.index-thread.ensures c.raise_one.ensures.new;
  free = c.raise_one.ensures.unqueued;
  places = λ r. c.raise_one.ensures.numbers r ∙ c.loop-index.invariant.places r;
}

pub returns-clause-sound : goal.returns-clause-sound
returns-clause-sound c = c.loop-index.invariant.sound

pub returns-clause-new : goal.returns-clause-new
returns-clause-new c = let same = c.args.parts.now.wanted.held.ok.0 in all_raised c.args.parts.now c.loop-index.parts c.args.instance c.loop-index.index c.loop-index.invariant.again (omega (arith, c.loop-index-test.false, c.len-index-end.ensures, same))

pub returns-clause-unqueued : goal.returns-clause-unqueued
returns-clause-unqueued c = c.loop-index.invariant.free

pub returns-clause-numbers : goal.returns-clause-numbers
returns-clause-numbers c r = c.loop-index.invariant.places r
