-- What stands by each name, and the release behind.
use Rattle.choice_run.proofs.WordLemmas.{all_after, no_handle, no_release, no_waiter}
use Rattle.choice_run.proofs.read.choice_after.Goals as goal
use Rattle.choice_run.specs.Reading.{ReadsRelease}
use Rattle.std.proofs.Common.{subst}
use Rattle.std.specs.Prelude.{Err, map}
use Rattle.text_lines.specs.declared.line.LineError.{LineError}

pub returns-in_default : goal.returns-in_default
returns-in_default c = no_waiter (map (λ w. w.now) c.args.words.now) c.in_default.ensures

pub returns-in_default-member_of : goal.returns-in_default-member_of
returns-in_default-member_of c = no_handle (map (λ w. w.now) c.args.words.now) c.in-Some.waiter (map (λ w. w.now) c.in-Some.others.now) c.in-Some.ensures c.in_default-member_of.ensures

pub returns-in-Ok : goal.returns-in-Ok
returns-in-Ok c =
    all_after (map (λ w. w.now) c.args.words.now) c.in-Some.waiter (map (λ w. w.now) c.in-Some.others.now) c.in-Some.ensures c.in-Some-member_of.member (map (λ w. w.now) c.in-Some-member_of.left.now) c.in-Some-member_of.ensures
    c.in-Ok.release c.in-Ok.ensures.0 c.in-Ok.ensures.1

pub returns-in-Err-Bad : goal.returns-in-Err-Bad
returns-in-Err-Bad c =
    no_release (map (λ w. w.now) c.args.words.now) c.in-Some.waiter (map (λ w. w.now) c.in-Some.others.now) c.in-Some.ensures c.in-Some-member_of.member (map (λ w. w.now) c.in-Some-member_of.left.now) c.in-Some-member_of.ensures
    (subst (λ (e : LineError). ReadsRelease (map (λ w. w.now) c.in-Some-member_of.left.now) (Err e)) c.in-Err-Bad.field-0-is c.in-Err-Bad.ensures)
