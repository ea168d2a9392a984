-- A spawn gives one number and tells no group.
use Rattle.store_works.specs.declared.scripted.ScriptedHost.{ScriptedHost}
use Rattle.tests_serve.proofs.ScopeLemmas.{none_are, none_runs, spawned_given}
use Rattle.std.proofs.Common.{arith, refl}
use Rattle.machine_data.specs.declared.records.Turn.TheVariants as turn
use Rattle.tests_serve.proofs.scope.with_one_work.Goals as goal

pub spawn-requires-clause-given : goal.spawn-requires-clause-given
spawn-requires-clause-given g c = let none = c.requires.given in omega (arith, none)

pub spawn-requires-clause-few : goal.spawn-requires-clause-few
spawn-requires-clause-few g c = rw c.new-scope.ensures (omega arith)

pub spawn-requires-clause-of : goal.spawn-requires-clause-of
spawn-requires-clause-of g c = rw c.new-scope.ensures (none_are c.args.store.now.state)

pub returns-clause-ready : goal.returns-clause-ready
returns-clause-ready g c =
    let spawns = c.in-Ok.ensures.spawns (rw c.new-scope.ensures refl) in
    let made = spawns.3 in
    record {
      order = c.spawn.ensures.keeps.order c.args.component.now turn.Main c.requires.ready.order;
      few = rw (made.core, spawned_given) (let none = c.requires.given in omega (arith, none));
      current = none_runs c.args.store.now.state c.spawn.new.store.state made.current c.requires.ready.current;
      hosts = c.spawn.ensures.hosts c.requires.numbered c.requires.ready.hosts;
      groups = c.spawn.ensures.keeps.asked c.requires.ready.groups;
    }

pub returns-clause-one : goal.returns-clause-one
returns-clause-one g c =
    let spawns = c.in-Ok.ensures.spawns (rw c.new-scope.ensures refl) in
    rw (spawns.1, c.new-scope.ensures) refl
