use Rattle.std.proofs.Common.{◌+◌, ◌-◌, length, take, drop, refl, sym, arith}
use Rattle.std.specs.Prelude.{Err, Ok, OnErr, Result}
use Rattle.text_scenario.specs.Grammar.{tokens}
use Rattle.text_scenario.proofs.Splits.{first_of_tokens, last_of_tokens, takes_token, takes_last_token}
use Rattle.text_scenario.proofs.read.split_tokens.Goals as goal

pub loop-end-preserved : goal.loop-end-preserved
loop-end-preserved c = record {
  whole = takes_token c.loop-end.list.items c.push.new.self.items _ _ (take (length c.loop-end.rest.now - (c.in-Some.end + 1)) (drop (c.in-Some.end + 1) c.loop-end.rest.now)) _ _ c.in_ok-push.ensures.items refl (first_of_tokens c.loop-end.rest.now c.in-Some.end (sym c.in-Some.ensures.place)) c.loop-end.invariant.whole;
  within = omega (arith, c.loop-end.invariant.within, c.in-Some.ensures.inside);
}

pub returns-clause-ok : goal.returns-clause-ok
returns-clause-ok c = takes_last_token c.loop-end.list.items c.push-2.new.self.items _ _ _ _ c.in_ok-push-2.ensures.items refl (last_of_tokens c.loop-end.rest.now (sym c.in_default.ensures.place)) c.loop-end.invariant.whole

whatever_is : {X E P : Type 0} (r : Result X E) → P → OnErr r P
whatever_is (Ok x) h = tt
whatever_is (Err e) h = h

-- the list has the tokens so far, and lacks those of the rest
pub returns-in_err-push-clause-err : goal.returns-in_err-push-clause-err
returns-in_err-push-clause-err c = whatever_is c.from_residual.result (tokens c.loop-end.rest.now, rw c.in_err-push.ensures.items c.loop-end.invariant.whole)

pub returns-in_err-push-2-clause-err : goal.returns-in_err-push-2-clause-err
returns-in_err-push-2-clause-err c = whatever_is c.from_residual-in_err-push-2.result (tokens c.loop-end.rest.now, rw c.in_err-push-2.ensures.items c.loop-end.invariant.whole)
