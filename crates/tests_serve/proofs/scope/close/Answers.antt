-- An abort gives no number and tells no group.
use Rattle.tests_serve.proofs.ScopeLemmas.{closed_given}
use Rattle.std.proofs.Common.{arith, inl, refl}
use Rattle.machine_data.specs.declared.records.Turn.TheVariants as turn
use Rattle.tests_serve.proofs.scope.close.Goals as goal

pub close-requires-clause-hosts : goal.close-requires-clause-hosts
close-requires-clause-hosts c = c.requires.ready.hosts

pub returns-clause-ready : goal.returns-clause-ready
returns-clause-ready c = record {
  order = c.close.ensures.order c.args.component.now turn.Main c.requires.ready.order;
  few = rw (c.close.ensures.state, closed_given) c.requires.ready.few;
  current = rw c.close.ensures.state c.requires.ready.current;
  hosts = c.close.ensures.hosts;
  groups = c.close.ensures.groups c.requires.ready.groups;
}

pub returns-clause-full : goal.returns-clause-full
returns-clause-full c = rw c.close.ensures.closed (record { few = c.requires.few; why = inl refl })
