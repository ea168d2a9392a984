use Rattle.std.proofs.Common.{◌∙◌}
use Rattle.std.specs.Prelude.{None, ℕ}
use Rattle.core_primitives.specs.Preferences.{preference}
use Rattle.core_primitives.specs.StateView.{thread_of}
use Rattle.machine_data.specs.Labels.{event_label}
use Rattle.machine_data.specs.Read.{instance_of}
use Rattle.machine_rules.specs.Picks.{ShowsFirst, TakesFirst}
use Rattle.ops_guests.proofs.CalmLemmas.{loose_goes}
use Rattle.ops_guests.proofs.DeliveryLemmas.{own_implements}
use Rattle.ops_guests.proofs.PickedEventLemmas.{none_shows}
use Rattle.ops_guests.proofs.deliveries.deliver_own.Goals as goal

pub returns-clause-picks : goal.returns-clause-picks
returns-clause-picks g c =
    let s = g.W.View.view c.args.w.now in
    let m = c.number-number.result in
    let l = event_label c.args.mark m c.given-given.result None in
    let shows : ShowsFirst (preference s) s.core l = record {
      waiter = tt;
      member = none_shows (λ (e : ℕ × ℕ). TakesFirst (preference s) s.core (instance_of e.0 s.core) e.1) m c.given-given.result (c.given-given.ensures.handle ∙ c.picked_task_event_only-picked_event.ensures.handle);
    } in
    loose_goes (preference s) (thread_of s c.args.thread) _ l m s.core _ _ c.activated.ensures tt shows
    (own_implements c.args.thread c.args.mark _ _ _ c.picked_task_event_only-picked_event.result c.given-given.result (g.W.View.view c.args.w.now) _ c.task_of-call.ensures.is c.number-number.ensures c.picked_task_event_only-picked_event.ensures.is c.picked_task_event_only-picked_event.ensures.handle c.given-given.ensures.is c.activated.ensures c.activate.ensures)
