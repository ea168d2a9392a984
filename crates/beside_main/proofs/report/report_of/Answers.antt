use Rattle.std.proofs.Common.{List, map, refl, subst, sym}
use Rattle.std.specs.Prelude.{ℕ}
use Rattle.beside_main.specs.Cells.{AreEarly, AreLogsOf, AreMet}
use Rattle.beside_works.specs.declared.cells.SharedSpawn.{SharedSpawn}
use Rattle.beside_main.proofs.report.report_of.Goals as goal

pub logs_of-requires-clause-met : goal.logs_of-requires-clause-met
logs_of-requires-clause-met g c = subst (λ (cs : List SharedSpawn). AreMet cs) (sym c.as_slice.ensures.value) c.requires.met

pub logs_of-requires-clause-early : goal.logs_of-requires-clause-early
logs_of-requires-clause-early g c = subst (λ (cs : List SharedSpawn). AreEarly cs c.as_slice-2.result.now) (sym c.as_slice.ensures.value)
    (subst (λ (ns : List ℕ). AreEarly c.args.beside.cells.list.items ns) (sym c.as_slice-2.ensures.value) c.requires.early)

pub share_notices-requires : goal.share_notices-requires
share_notices-requires g c = rw c.end.ensures c.requires.concurrent

pub returns : goal.returns
returns g c = record {
  trace = refl;
  outcome = refl;
  core = rw (c.share_notices.ensures.same, c.end.ensures) refl;
  free = rw (c.share_notices.ensures.same, c.end.ensures) refl;
  concurrent = rw (c.share_notices.ensures.same, c.end.ensures) refl;
  logs = subst (λ (cs : List SharedSpawn). AreLogsOf cs c.args.early.items (map (λ l. l.items) c.in_ok-logs.logs.items)) c.as_slice.ensures.value
      (subst (λ (ns : List ℕ). AreLogsOf c.as_slice.result.now ns (map (λ l. l.items) c.in_ok-logs.logs.items)) c.as_slice-2.ensures.value c.in_ok-logs.ensures.logs);
  each = c.in_ok-logs.ensures.each;
}
