use Rattle.ops_dispatch.proofs.RuleLemmas.{plain_polls}
use Rattle.ops_dispatch.proofs.ops.do_other_op.Goals as goal
use Rattle.ops_dispatch.specs.Fits.{calls_host}
use Rattle.ops_dispatch.specs.Polls.{DoesPolled}
use Rattle.ops_dispatch.specs.declared.done.Done.{Done}
use Rattle.std.proofs.Common.{inl, refl, rules, subst, sym}
use Rattle.std.specs.Prelude.{false, ◌≡◌}
use Rattle.machine_data.specs.Read.{op_progress_of}
use Rattle.core_primitives.specs.StateView.{thread_of}

pub returns-in-Call-clause-does : goal.returns-in-Call-clause-does
returns-in-Call-clause-does g c = rw c.in-Call.is c.do_host_call.ensures.does

pub returns-in_ok-op_result-in_default-clause-does : goal.returns-in_ok-op_result-in_default-clause-does
returns-in_ok-op_result-in_default-clause-does g c =
    let s = g.W.View.view c.args.w.now in
    let t = g.W.View.view c.do_plain_op.new.w in
    let n = thread_of s c.args.thread in
    let comp = c.args.component.now in
    let o = c.args.op.now in
    let apart : calls_host o ≡ false = search rules in
    subst (λ (d : Done). DoesPolled c.args.answer comp o c.args.thread s d t) (sym c.plain.ensures) (record {
      does = c.in_ok-op_result-in_default.ensures.does;
      polls = record {
        polled = sym (plain_polls comp (op_progress_of n s.core) o apart);
        work = refl;
        course = tt;
        none = λ none. inl refl;
      };
    })
