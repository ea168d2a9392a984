-- A step beside the aborters, whose spawn is noted, and at whose cell it is said if a work is over.
use Rattle.std.proofs.Common.{List, ap, arith, length, subst, sym, ◌-◌, ◌∙◌, ◌≡◌}
use Rattle.std.specs.Prelude.{Ok, ℕ}
use Rattle.beside_main.proofs.CellLemmas.{cells_then}
use Rattle.beside_main.proofs.MetLemmas.{beside_took, step_grows, step_rises}
use Rattle.beside_main.proofs.StepLemmas.{WasAsked, asked_open, step_calls}
use Rattle.beside_main.specs.Calls.{AreNoted, GrowsBy}
use Rattle.beside_main.specs.Course.{Took, place}
use Rattle.beside_main.specs.declared.run.BesideRun.{BesideRun}
use Rattle.beside_main.specs.declared.spawns.Spawns.{Spawns}
use Rattle.beside_main.proofs.run.BesideRun.step.Goals as goal
use Rattle.ops_turns.specs.StepResult.{turn_of}
use Rattle.task_run.specs.Script.{place_of}

pub step_beside-requires : goal.step_beside-requires
step_beside-requires g c = record { may = c.requires.able.may }

pub note_spawn-requires-clause-count : goal.note_spawn-requires-clause-count
note_spawn-requires-clause-count g c =
    subst (λ (s : Spawns). s.count ≡ length s.numbers.items) (sym c.step_beside.ensures.beside.1) c.requires.able.noted.noted.count

pub note_spawn-requires-clause-grows : goal.note_spawn-requires-clause-grows
note_spawn-requires-clause-grows g c =
    let a = c.args.self.now in
    let made = c.step_beside.new in
    let b = record a { run = made.self; store = made.store; main = made.main; trace = made.trace; left = a.left - 1 } in
    let same = ap (λ (s : Spawns). s.numbers.items) c.step_beside.ensures.beside.1 ∙ c.requires.able.noted.noted.numbers in
    subst (λ (ms : List ℕ). GrowsBy ms (place_of made.main.script).spawns) (sym same)
    (step_grows c.args.component.now (place a) (place b) (WasAsked a made.beside) c.in_ok-outcome.outcome a.run.yield_budget made.self.yield_budget c.in_ok-outcome.ensures.steps)

pub note_over-requires : goal.note_over-requires
note_over-requires g c =
    asked_open c.args.component.now c.args.self.now c.requires.able (turn_of c.args.self.now.run.last) c.step_beside.new.beside c.in_ok-outcome.ensures.steps.0 c.in_ok-outcome.ensures.steps.1.0

pub returns-clause-took : goal.returns-clause-took
returns-clause-took g c =
    let a = c.args.self.now in
    let made = c.step_beside.new in
    let o = c.in_ok-outcome.outcome in
    let last = c.note_over.new.self.cells in
    let b = record a { run = made.self; store = made.store; main = made.main; trace = made.trace; cells = last; left = a.left - 1 } in
    let over = c.in_ok-note_over.ensures.calls in
    subst (λ (d : BesideRun _). Took c.args.component.now o a d) (sym c.note_over.ensures.rest)
    (beside_took c.args.component.now (WasAsked a made.beside) (Ok o) a.run.yield_budget made.self.yield_budget a b c.requires.able (omega (arith, c.requires.left))
    (cells_then a.cells.list.items made.beside.list.items last.list.items c.step_beside.ensures.beside.0 c.note_over.ensures.cells.0) c.step_beside.ensures.keeps c.in_ok-outcome.ensures.steps
    (step_calls c.args.component.now a c.requires.able b made.beside c.in_ok-outcome.ensures.steps.0 c.in_ok-outcome.ensures.steps.1.0 over)
    (record {
      noted = subst (λ (s : Spawns). AreNoted made.main.script s) (sym c.note_over.ensures.cells.1) c.in_ok-note_spawn.ensures;
      rising = step_rises c.args.component.now (place a) (place b) (WasAsked a made.beside) o a.run.yield_budget made.self.yield_budget c.in_ok-outcome.ensures.steps c.requires.able.noted.rising;
      none = over.1;
    }))
