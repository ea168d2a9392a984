-- A poll of the last round, and what is over is noted at its cell.
use Rattle.std.proofs.Common.{arith, refl, subst, sym, ◌-◌}
use Rattle.beside_main.proofs.CellLemmas.{cells_then}
use Rattle.beside_main.proofs.RoundLemmas.{polled_last}
use Rattle.beside_main.proofs.StepLemmas.{last_open}
use Rattle.beside_main.specs.Round.{PolledNext}
use Rattle.beside_main.specs.declared.run.BesideRun.{BesideRun}
use Rattle.beside_main.proofs.run.BesideRun.poll_last.Goals as goal

pub poll_last-requires : goal.poll_last-requires
poll_last-requires g c = record { may = record { may = c.requires.able.may; apart = c.requires.beside; number = c.requires.next.0; next = c.requires.next.1 } }

pub note_over-requires : goal.note_over-requires
note_over-requires g c = last_open c.args.component.now c.args.self.now c.requires.able c.args.polled c.poll_last.new.beside c.in_ok-poll_last.ensures.polls.found c.in_ok-poll_last.ensures.polls.asked

pub returns : goal.returns
returns g c =
    let a = c.args.self.now in
    let made = c.poll_last.new in
    let last = c.note_over.new.self.cells in
    let b = record a { run = made.self; store = made.store; trace = made.trace; cells = last; left = a.left - 1 } in
    record {
      polls = subst (λ (d : BesideRun _). PolledNext c.args.component.now c.args.polled a d) (sym c.note_over.ensures.rest)
          (polled_last c.args.component.now c.args.polled a b made.beside c.requires.able (omega (arith, c.requires.left)) refl
          (cells_then a.cells.list.items made.beside.list.items last.list.items c.poll_last.ensures.beside.0 c.note_over.ensures.cells.0) c.poll_last.ensures.keeps c.in_ok-poll_last.ensures.polls
          c.poll_last.ensures.beside.1 c.note_over.ensures.cells.1 c.in_ok-note_over.ensures.calls);
    }
