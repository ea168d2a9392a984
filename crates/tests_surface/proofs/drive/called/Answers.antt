-- A start gives two numbers, and no thread runs by it.
use Rattle.store_works.specs.declared.scripted.ScriptedHost.{ScriptedHost}
use Rattle.std.proofs.Common.{arith}
use Rattle.machine_data.specs.declared.records.Turn.TheVariants as turn
use Rattle.task_loop.proofs.StartLemmas.{start_current}
use Rattle.tests_surface.proofs.DriveLemmas.{begun_given}
use Rattle.tests_surface.proofs.drive.called.Goals as goal

pub start_watched-requires-clause-order : goal.start_watched-requires-clause-order
start_watched-requires-clause-order g c = (turn.Main, c.requires.order)

pub returns-clause-order : goal.returns-clause-order
returns-clause-order g c = c.start_watched.ensures.keeps.order turn.Main c.requires.order

pub returns-clause-given : goal.returns-clause-given
returns-clause-given g c = let more = begun_given _ _ _ _ _ _ _ c.in-Ok.ensures.does.starts in let none = c.requires.given in omega (arith, more, none)

pub returns-clause-current : goal.returns-clause-current
returns-clause-current g c = start_current _ _ _ _ _ _ _ c.requires.current c.in-Ok.ensures.does.starts

pub returns-clause-groups : goal.returns-clause-groups
returns-clause-groups g c = c.start_watched.ensures.keeps.asked c.requires.groups

pub returns-clause-hosts : goal.returns-clause-hosts
returns-clause-hosts g c = c.start_watched.ensures.keeps.works (λ (w : ScriptedHost). w.left) c.requires.hosts
