-- The machine has made the step, or the choice doesn't fit.
use Rattle.choice_run.proofs.StepLemmas.{not_over, step_of}
use Rattle.choice_run.proofs.run.make_step.Goals as goal
use Rattle.machine_data.specs.declared.label.Label.{Label}
use Rattle.run_trace.specs.Traced.{Traced}
use Rattle.std.proofs.Common.{ap, subst, ◌∙◌}
use Rattle.std.specs.Prelude.{List, [], ◌++◌, ◌∷◌, ◌≡◌}
use Rattle.trace_machine.specs.Machines.{Comes}
use Rattle.trace_machine.specs.declared.machine.Went.{Went}

pub returns-in-Did : goal.returns-in-Did
returns-in-Did c =
    let m = c.args.machine.now in
    let goes = subst (λ (w : Went). Comes m c.args.choice.now w c.go.new.self) c.in-Did.is c.in_ok-went.ensures in
    let more : c.push.new.self.labels ≡ c.args.trace.now.labels ++ c.in-Did.label ∷ [] =
    ap (λ (t : Traced). t.labels) c.push.ensures ∙ ap (λ (ls : List Label). ls ++ c.in-Did.label ∷ []) c.in_ok-make_room.ensures.labels in
    step_of m c.requires.kept c.requires.unended c.args.choice.now c.in-Did.label c.go.new.self goes c.args.trace.now.labels c.push.new.self.labels more

pub returns-in-Refused : goal.returns-in-Refused
returns-in-Refused c =
    let m = c.args.machine.now in
    let refused = subst (λ (w : Went). Comes m c.args.choice.now w c.go.new.self) c.in-Refused.is c.in_ok-went.ensures in
    refused.0.unfit

pub unreachable-requires : goal.unreachable-requires
unreachable-requires c =
    let m = c.args.machine.now in
    let over = subst (λ (w : Went). Comes m c.args.choice.now w c.go.new.self) c.in-Over.is c.in_ok-went.ensures in
    not_over m c.requires.kept c.requires.unended over.1.1
