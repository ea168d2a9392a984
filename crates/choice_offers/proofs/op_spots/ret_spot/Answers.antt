use Rattle.choice_offers.proofs.TestLemmas.{ret_ended, ret_sync, ret_tells}
use Rattle.choice_offers.proofs.op_spots.ret_spot.Goals as goal
use Rattle.core_primitives.specs.StateView.{thread_of}
use Rattle.laws_choices.specs.Offers.{tells}
use Rattle.machine_data.specs.Read.{has_ended, is_async_lifted, kind_of, task_of}
use Rattle.std.proofs.Common.{ap, rules, ◌∙◌}
use Rattle.std.specs.Prelude.{false, true, ℕ, ◌≡◌}

pub returns-then-is_some : goal.returns-then-is_some
returns-then-is_some c =
    let s = c.args.core.now in
    let n = thread_of s c.args.thread in
    let ended : has_ended (task_of n s.core) s.core ≡ true = search rules in
    ((c.no_spot.ensures n).0, (c.no_spot.ensures n).1 ∙ ret_ended n s.core ended)

pub returns-in-Stackful : goal.returns-in-Stackful
returns-in-Stackful c =
    let s = c.args.core.now in
    let n = thread_of s c.args.thread in
    let ended : has_ended (task_of n s.core) s.core ≡ false = search rules in
    let async : is_async_lifted (kind_of (task_of n s.core) s.core) ≡ true = search rules in
    ((c.tells.ensures n).0, (c.tells.ensures n).1 ∙ (ap (λ (k : ℕ). tells k s.core) c.task_of-call.ensures.is ∙ ret_tells n s.core ended async))

pub returns-in-Callback : goal.returns-in-Callback
returns-in-Callback c =
    let s = c.args.core.now in
    let n = thread_of s c.args.thread in
    let ended : has_ended (task_of n s.core) s.core ≡ false = search rules in
    let async : is_async_lifted (kind_of (task_of n s.core) s.core) ≡ true = search rules in
    ((c.tells-in-Callback.ensures n).0, (c.tells-in-Callback.ensures n).1 ∙ (ap (λ (k : ℕ). tells k s.core) c.task_of-call.ensures.is ∙ ret_tells n s.core ended async))

pub returns-in-Sync : goal.returns-in-Sync
returns-in-Sync c =
    let s = c.args.core.now in
    let n = thread_of s c.args.thread in
    let ended : has_ended (task_of n s.core) s.core ≡ false = search rules in
    let async : is_async_lifted (kind_of (task_of n s.core) s.core) ≡ false = search rules in
    ((c.no_spot-in-Sync.ensures n).0, (c.no_spot-in-Sync.ensures n).1 ∙ ret_sync n s.core ended async)

pub returns-in-Blocking : goal.returns-in-Blocking
returns-in-Blocking c =
    let s = c.args.core.now in
    let n = thread_of s c.args.thread in
    let ended : has_ended (task_of n s.core) s.core ≡ false = search rules in
    let async : is_async_lifted (kind_of (task_of n s.core) s.core) ≡ false = search rules in
    ((c.no_spot-in-Blocking.ensures n).0, (c.no_spot-in-Blocking.ensures n).1 ∙ ret_sync n s.core ended async)
