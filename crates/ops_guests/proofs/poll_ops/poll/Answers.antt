use Rattle.std.proofs.Common.{ap, sym, ◌∙◌}
use Rattle.std.specs.Prelude.{ℕ}
use Rattle.core_primitives.specs.Preferences.{preference}
use Rattle.core_primitives.specs.StateView.{thread_of}
use Rattle.machine_data.specs.Labels.{choice_of}
use Rattle.machine_data.specs.Read.{instance_of}
use Rattle.machine_data.specs.declared.label.Label.TheVariants as label
use Rattle.machine_data.specs.declared.label.SetLabel.TheVariants as set_label
use Rattle.machine_rules.proofs.CalmLemmas.{poll_none}
use Rattle.machine_rules.specs.Finish.{Doer}
use Rattle.machine_rules.specs.Picks.{ShowsFirst}
use Rattle.ops_guests.proofs.CalmLemmas.{loose_picks}
use Rattle.ops_guests.proofs.DoesLemmas.{does_on}
use Rattle.ops_guests.proofs.PickedEventLemmas.{given_shows}
use Rattle.ops_guests.proofs.PollLemmas.{members_named, poll_implements}
use Rattle.ops_guests.proofs.poll_ops.poll.Goals as goal

pub picked_event_for-picked_event-requires-clause-named : goal.picked_event_for-picked_event-requires-clause-named
picked_event_for-picked_event-requires-clause-named g c = members_named _ _ c.args.handle _ (g.W.View.view c.args.w.now).core c.requires.members c.instance_of-instance.ensures c.in-Some.ensures.is

pub returns : goal.returns
returns g c =
    let s = g.W.View.view c.args.w.now in
    let n = thread_of s c.args.thread in
    let m = c.number-number.result in
    let l = label.Set (set_label.Poll c.given-given.result m) in
    let here = c.instance_of-instance.ensures ∙ ap (λ (k : ℕ). instance_of k s.core) (sym c.number-number.ensures) in
    let shows : ShowsFirst (preference s) s.core l = record {
      waiter = tt;
      member = given_shows s c.instance_of-instance.result m c.picked_event_for-picked_event.result c.given-given.result c.given-given.ensures.handle c.picked_event_for-picked_event.ensures.first here;
    } in
    let meets = λ (d : Doer). poll_implements c.args.thread c.in-Some.set d c.args.handle _ _ _ c.picked_event_for-picked_event.result c.given-given.result s _ c.instance_of-instance.ensures c.task_of-call.ensures.is c.number-number.ensures c.in-Some.ensures.is c.picked_event_for-picked_event.ensures.named c.picked_event_for-picked_event.ensures.is c.given-given.ensures.handle c.given-given.ensures.is c.take.ensures in
    record {
      does = does_on _ c.args.thread _ s _ _ c.take.ensures meets
          (λ (d : Doer). loose_picks (preference s) _ l s.core _ _ (poll_none d n s.core c.args.handle (choice_of l)) shows (meets d));
    }
