use Rattle.machine_rules.proofs.CalmLemmas.{halting_calm, resume_rule_calm}
use Rattle.ops_dispatch.proofs.HaltLemmas.{begins_rule, resumed_implements}
use Rattle.ops_dispatch.proofs.thread_dispatch.resumes.Goals as goal
use Rattle.ops_dispatch.specs.Rules.{resumes_here}
use Rattle.std.proofs.Common.{ap, refl, sym, ◌∙◌}
use Rattle.std.specs.Prelude.{ℕ}
use Rattle.machine_data.specs.Read.{op_progress_of}
use Rattle.machine_rules.specs.Scripts.{value_of}
use Rattle.machine_data.specs.declared.label.Label.TheVariants as label
use Rattle.ops_guests.proofs.DoesLemmas.{calm_same, does_rule}
use Rattle.ops_guests.specs.Does.{SameNames}
use Rattle.ops_guests.specs.Halting.{halt_of}
use Rattle.machine_rules.specs.Threads.{then_resume_rule}
use Rattle.core_primitives.specs.StateView.{thread_of}

pub returns-then-is_resumed : goal.returns-then-is_resumed
returns-then-is_resumed g c =
    let s = g.W.View.view c.args.w.now in
    let n = thread_of s c.args.thread in
    record {
      does = calm_same (resumes_here c.args.yielding c.args.other c.args.label) c.args.thread s s c.ends.result
          (λ d. halting_calm d n s.core c.args.label (λ k. then_resume_rule (halt_of c.args.yielding) n (value_of n s.core c.args.other) s.core) (resume_rule_calm d n s.core (halt_of c.args.yielding) (value_of n s.core c.args.other)))
          (λ d. resumed_implements n c.args.label s.core d (op_progress_of n s.core) _ c.ends.result (sym c.is_resumed.ensures ∙ c.if-is_resumed.true) c.requires.shown c.ends.ensures) refl refl;
    }

pub returns : goal.returns
returns g c =
    let s = g.W.View.view c.args.w.now in
    let t = g.W.View.view c.halt_then_resume.new.w in
    let n = thread_of s c.args.thread in
    record {
      does = does_rule SameNames (λ d n ch s. then_resume_rule (halt_of c.args.yielding) n c.value_of-other.result s) (resumes_here c.args.yielding c.args.other c.args.label) c.args.thread s t c.halt_then_resume.result c.halt_then_resume.ensures.does
          (λ d ch. begins_rule n c.args.label s.core d (op_progress_of n s.core) _ (sym c.is_resumed.ensures ∙ c.if-is_resumed.false) ∙ ap (λ (h : ℕ). then_resume_rule (halt_of c.args.yielding) n h s.core) (sym c.value_of-other.ensures));
    }
