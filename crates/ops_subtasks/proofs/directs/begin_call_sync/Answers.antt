use Rattle.std.proofs.Common.{Bool, false, rules, subst, sym, true, ◌≡◌}
use Rattle.ops_subtasks.proofs.directs.begin_call_sync.Goals as goal
use Rattle.ops_subtasks.specs.Rules.{begins_call}
use Rattle.machine_data.specs.Read.{is_async_lifted}
use Rattle.ops_guests.specs.Does.{KeepsTags, MayDoRule}

pub returns-in-Stackful-clause-does : goal.returns-in-Stackful-clause-does
returns-in-Stackful-clause-does g c =
    let v = g.W.View.view in
    let lifted : is_async_lifted c.args.kind ≡ true = search rules in
    subst (λ (b : Bool). MayDoRule KeepsTags (begins_call b c.args.kind c.args.callee c.args.words.now) c.args.thread (v c.args.w.now) c.begin_queued.result (v c.begin_queued.new.w)) (sym lifted) c.begin_queued.ensures.does

pub returns-in_default-clause-does : goal.returns-in_default-clause-does
returns-in_default-clause-does g c =
    let v = g.W.View.view in
    let direct : is_async_lifted c.args.kind ≡ false = search rules in
    subst (λ (b : Bool). MayDoRule KeepsTags (begins_call b c.args.kind c.args.callee c.args.words.now) c.args.thread (v c.args.w.now) c.enter.result (v c.enter.new.w)) (sym direct) c.enter.ensures.does
