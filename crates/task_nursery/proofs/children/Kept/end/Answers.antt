-- What stays of a store by a finish is said at each component; where none is asked for, any one serves.
use Rattle.std.specs.Prelude.{[]}
use Rattle.machine_data.specs.declared.component.Component.{Component}
use Rattle.task_nursery.proofs.children.Kept.end.Goals as goal

pub returns-in-Ready-clause-order : goal.returns-in-Ready-clause-order
returns-in-Ready-clause-order g c = λ component p in_turn. (c.finish_call_concurrent.ensures.keeps component).order p in_turn

pub returns-in-Ready-clause-groups : goal.returns-in-Ready-clause-groups
returns-in-Ready-clause-groups g c = λ holds.
    let any : Component = record { instances = []; hosts = [] } in
    (c.finish_call_concurrent.ensures.keeps any).asked holds

pub returns-in-Ready-clause-hosts : goal.returns-in-Ready-clause-hosts
returns-in-Ready-clause-hosts g c = λ course h.
    let any : Component = record { instances = []; hosts = [] } in
    (c.finish_call_concurrent.ensures.keeps any).works course h
