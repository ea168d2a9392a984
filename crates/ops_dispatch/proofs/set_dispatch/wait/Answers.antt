use Rattle.ops_dispatch.proofs.set_dispatch.wait.Goals as goal
use Rattle.ops_dispatch.proofs.HaltLemmas.{wait_begun}
use Rattle.ops_dispatch.specs.Rules.{waits_here}
use Rattle.std.proofs.Common.{ap, sym, ◌∙◌}
use Rattle.machine_data.specs.declared.records.OpProgress.{OpProgress}
use Rattle.machine_data.specs.declared.records.OpProgress.TheVariants as op_progress
use Rattle.ops_guests.proofs.DoesLemmas.{does_rule}
use Rattle.ops_guests.specs.Does.{SameNames}
use Rattle.ops_guests.specs.Rules.{waits_from}
use Rattle.machine_rules.specs.Sets.{wait_rule}
use Rattle.core_primitives.specs.Names.{op_progress_in}
use Rattle.core_primitives.specs.StateView.{set_of, thread_of}

pub returns-in-Waits : goal.returns-in-Waits
returns-in-Waits g c =
    let s = g.W.View.view c.args.w.now in
    let t = g.W.View.view c.go_on_waiting.new.w in
    let n = thread_of s c.args.thread in
    let inside = ap (op_progress_in s.tags) (sym c.in-Waits.is) ∙ (c.op_progress.ensures ∙ c.requires.runner.under_way.names) in
    record {
      does = does_rule SameNames (waits_from (op_progress.Waits (set_of s c.in-Waits.set)) 0) (waits_here c.args.handle) c.args.thread s t c.go_on_waiting.result c.go_on_waiting.ensures.does
          (λ d ch. ap (λ (f : OpProgress). wait_rule d n c.args.handle ch s.core f) (sym inside));
    }

pub returns-in_default : goal.returns-in_default
returns-in_default g c =
    let s = g.W.View.view c.args.w.now in
    let t = g.W.View.view c.begin_wait.new.w in
    let n = thread_of s c.args.thread in
    let inside = c.op_progress.ensures ∙ c.requires.runner.under_way.names in
    record {
      does = does_rule SameNames (waits_from op_progress.Fresh c.args.handle) (waits_here c.args.handle) c.args.thread s t c.begin_wait.result c.begin_wait.ensures.does
          (λ d ch. ap (λ (f : OpProgress). wait_rule d n c.args.handle ch s.core f) (sym inside) ∙ wait_begun d n c.args.handle ch s.core s.tags c.op_progress.result c.in_default.not-Waits);
    }
