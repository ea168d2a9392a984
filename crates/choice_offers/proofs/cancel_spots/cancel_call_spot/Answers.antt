use Rattle.choice_offers.proofs.CancelLemmas.{asked_none, ended_none, takes_one, unstarted_none}
use Rattle.choice_offers.proofs.cancel_spots.cancel_call_spot.Goals as goal
use Rattle.core_primitives.specs.StateView.{call_of}
use Rattle.machine_data.specs.Read.{cancel_was_asked, has_ended, is_second, was_started}
use Rattle.std.proofs.Common.{rules, ◌∙◌}
use Rattle.std.specs.Prelude.{false, true, ◌&&◌, ◌≡◌}

pub returns-then-is_some : goal.returns-then-is_some
returns-then-is_some c =
    let s = c.args.core.now in
    let k = call_of s c.args.call in
    let ended : has_ended k s.core ≡ true = search rules in
    λ n. ((c.no_spot.ensures n).0, (c.no_spot.ensures n).1 ∙ ended_none k s.core ended)

pub returns-then-not-was_started : goal.returns-then-not-was_started
returns-then-not-was_started c =
    let s = c.args.core.now in
    let k = call_of s c.args.call in
    let ended : has_ended k s.core ≡ false = search rules in
    let started : was_started k s.core ≡ false = search rules in
    λ n. ((c.no_spot-then-not-was_started.ensures n).0, (c.no_spot-then-not-was_started.ensures n).1 ∙ unstarted_none k s.core ended started)

pub returns-then-was_asked_before : goal.returns-then-was_asked_before
returns-then-was_asked_before c =
    let s = c.args.core.now in
    let k = call_of s c.args.call in
    let ended : has_ended k s.core ≡ false = search rules in
    let started : was_started k s.core ≡ true = search rules in
    let asked : (is_second s.core.version && cancel_was_asked k s.core) ≡ true = search rules in
    λ n. ((c.no_spot-then-was_asked_before.ensures n).0, (c.no_spot-then-was_asked_before.ensures n).1 ∙ asked_none k s.core ended started asked)

pub returns : goal.returns
returns c =
    let s = c.args.core.now in
    let k = call_of s c.args.call in
    let ended : has_ended k s.core ≡ false = search rules in
    let started : was_started k s.core ≡ true = search rules in
    let asked : (is_second s.core.version && cancel_was_asked k s.core) ≡ false = search rules in
    λ n. ((c.cancels.ensures n).0, (c.cancels.ensures n).1 ∙ takes_one k s.core ended started asked)
