use Rattle.std.proofs.Common.{arith, refl, rules, subst, sym, ◌∙◌}
use Rattle.std.specs.Prelude.{None, true, ◌≡◌}
use Rattle.core_primitives.specs.StateView.{thread_of}
use Rattle.machine_data.specs.Read.{op_progress_of}
use Rattle.ops_dispatch.specs.Fits.{calls_host}
use Rattle.ops_dispatch.specs.Polls.{polled_host}
use Rattle.ops_turns.proofs.SteppedLemmas.{of_full, of_made, of_wants}
use Rattle.ops_turns.proofs.runs.run_by.Goals as goal
use Rattle.ops_turns.specs.StepResult.{OpShown}
use Rattle.machine_data.specs.declared.op.Op.{Op}

pub returns-in-Call-clause-step : goal.returns-in-Call-clause-step
returns-in-Call-clause-step g c = record { made = λ e. absurd (cc); nothing = λ e. (refl, refl); full = λ e. absurd (cc); failed = λ e. absurd (cc) }

pub returns-in-Call-clause-polls : goal.returns-in-Call-clause-polls
returns-in-Call-clause-polls g c = let calls : calls_host c.args.op.now ≡ true = search rules in record { made = λ e. absurd (cc); nothing = λ e. calls; full = λ e. absurd (cc); failed = λ e. absurd (cc) }

pub returns-in_default-clause-step : goal.returns-in_default-clause-step
returns-in_default-clause-step g c = of_wants c.run_plain.result c.run_plain.ensures.shown c.run_plain.ensures.full

pub returns-in_default-clause-polls : goal.returns-in_default-clause-polls
returns-in_default-clause-polls g c =
    let s = g.W.View.view c.args.w.now in
    let none : polled_host c.args.component.now (op_progress_of (thread_of s c.args.thread) s.core) c.args.op.now ≡ None = search rules in
    of_full c.run_plain.result (λ made. none) (λ unmade. (c.run_plain.ensures.full unmade).0) (λ same. tt)

pub returns-after-matches-clause-step : goal.returns-after-matches-clause-step
returns-after-matches-clause-step g c =
    let v = g.W.View.view in
    of_made c.run_data.result c.run_data.ensures.made
    (subst (λ (o : Op). OpShown c.args.component.now o c.args.thread (v c.args.w.now) c.args.trace.now.labels c.run_data.result (v c.run_data.new.w) c.run_data.new.trace.labels) (sym c.in-Data.is) c.run_data.ensures.shown)

pub returns-after-matches-clause-polls : goal.returns-after-matches-clause-polls
returns-after-matches-clause-polls g c =
    let s = g.W.View.view c.args.w.now in
    let none : polled_host c.args.component.now (op_progress_of (thread_of s c.args.thread) s.core) c.args.op.now ≡ None = search rules in
    of_made c.run_data.result c.run_data.ensures.made none

pub returns-in-Call-clause-spare : goal.returns-in-Call-clause-spare
returns-in-Call-clause-spare g c = record { most = omega arith; unmade = λ unmade. refl }

pub returns-after-matches-clause-spare : goal.returns-after-matches-clause-spare
returns-after-matches-clause-spare g c = record { most = omega (arith, c.run_data.ensures.spare); unmade = λ unmade. absurd (let no = sym c.run_data.ensures.made ∙ unmade in cc) }
