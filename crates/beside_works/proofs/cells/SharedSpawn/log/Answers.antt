use Rattle.std.proofs.Common.{List, ℕ, subst, sym}
use Rattle.beside_works.proofs.SharedLemmas.{log_legal}
use Rattle.beside_works.specs.Shared.{listed}
use Rattle.beside_works.specs.Views.{own_list}
use Rattle.beside_works.specs.declared.log.Found.{Found}
use Rattle.task_abort.specs.PhaseLog.{IsLegal}
use Rattle.task_abort.specs.Staged.{staged}
use Rattle.task_abort.specs.declared.log.CallMade.{CallMade}
use Rattle.task_abort.specs.declared.log.LogEntry.{LogEntry}
use Rattle.beside_works.proofs.cells.SharedSpawn.log.Goals as goal

pub returns-clause-legal : goal.returns-clause-legal
returns-clause-legal c =
    let legal = log_legal c.args.self.now c.args.early c.requires.met c.requires.last in
    subst (λ (log : List (LogEntry ℕ)). IsLegal log) (sym c.in_ok-log.ensures)
    (subst (λ (own : List CallMade). IsLegal (staged own (listed c.as_slice-2.result.now) c.args.early)) (sym c.as_slice.ensures.value)
    (subst (λ (met : List Found). IsLegal (staged (own_list c.args.self.now) (listed met) c.args.early)) (sym c.as_slice-2.ensures.value) legal))
