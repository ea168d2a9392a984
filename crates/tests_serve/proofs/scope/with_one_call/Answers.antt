-- The first call of a scope of one leaves it full.
use Rattle.store_works.specs.declared.scripted.ScriptedHost.{ScriptedHost}
use Rattle.tests_serve.proofs.ScopeLemmas.{begun_given, first_is_full, none_are}
use Rattle.std.proofs.Common.{arith, refl}
use Rattle.task_loop.proofs.StartLemmas.{start_current}
use Rattle.machine_data.specs.declared.records.Turn.TheVariants as turn
use Rattle.tests_serve.proofs.scope.with_one_call.Goals as goal

pub start-requires-clause-order : goal.start-requires-clause-order
start-requires-clause-order g c = (turn.Main, c.requires.ready.order)

pub start-requires-clause-given : goal.start-requires-clause-given
start-requires-clause-given g c = let none = c.requires.given in omega (arith, none)

pub start-requires-clause-few : goal.start-requires-clause-few
start-requires-clause-few g c = rw c.new-scope.ensures (omega arith)

pub start-requires-clause-of : goal.start-requires-clause-of
start-requires-clause-of g c = rw c.new-scope.ensures (none_are c.args.store.now.state)

pub returns-clause-ready : goal.returns-clause-ready
returns-clause-ready g c =
    let begins = c.in-Ok.ensures.begins.begins (rw c.new-scope.ensures refl) (rw c.new-scope.ensures (omega arith)) in
    let starts = begins.3 in
    record {
      order = c.start.ensures.keeps.order turn.Main c.requires.ready.order;
      few = let more = begun_given _ _ _ _ _ _ _ starts in let none = c.requires.given in omega (arith, more, none);
      current = start_current _ _ _ _ _ _ _ c.requires.ready.current starts;
      hosts = c.start.ensures.keeps.works (λ (w : ScriptedHost). w.left) c.requires.ready.hosts;
      groups = c.start.ensures.keeps.asked c.requires.ready.groups;
    }

pub returns-clause-full : goal.returns-clause-full
returns-clause-full g c =
    let begins = c.in-Ok.ensures.begins.begins (rw c.new-scope.ensures refl) (rw c.new-scope.ensures (omega arith)) in
    first_is_full c.new-scope.result c.start.new.self _ c.new-scope.ensures begins.1 refl
