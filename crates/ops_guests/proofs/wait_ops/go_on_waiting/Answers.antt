use Rattle.std.proofs.Common.{ap, refl, sym, ◌≡◌, ◌∙◌}
use Rattle.std.specs.Prelude.{None, Some, ℕ}
use Rattle.core_primitives.specs.Preferences.{preference}
use Rattle.machine_data.specs.Labels.{wait_label}
use Rattle.machine_data.specs.Read.{instance_of}
use Rattle.machine_rules.specs.Finish.{Doer}
use Rattle.machine_rules.specs.Picks.{ShowsFirst}
use Rattle.ops_guests.proofs.CalmLemmas.{waking_shows}
use Rattle.ops_guests.proofs.PickedEventLemmas.{given_shows}
use Rattle.ops_guests.proofs.DoesLemmas.{does_same}
use Rattle.ops_guests.proofs.WaitLemmas.{goes_on_implements, takes_implements, waits_picks}
use Rattle.core_primitives.specs.StateView.{StateView, thread_of}
use Rattle.ops_guests.proofs.wait_ops.go_on_waiting.Goals as goal
use Rattle.ops_guests.proofs.wait_ops.go_on_waiting.Goals.{in-Nothing, in_default}
use Rattle.ops_guests.specs.declared.picked_events.PickedEvent.TheVariants as picked_events

pub returns-in-Some : goal.returns-in-Some
returns-in-Some g c =
    let v = g.W.View.view in
    let s = v c.args.w.now in
    let t = v c.hand_on-waiter.new.w in
    let u = v c.take.new.w in
    let named = λ (y : StateView). thread_of y c.in-Some.woken in
    let tags = λ (y : StateView). y.tags in
    let current = λ (y : StateView). y.current in
    let woken = c.number.ensures ∙ (ap named c.take.ensures ∙ ap named c.in-Some.ensures.new) in
    let m = c.number-number.result in
    let l = wait_label m c.given-given.result (Some c.number.result) in
    let shows : ShowsFirst (preference s) s.core l = waking_shows (preference s) s.core l (thread_of s c.in-Some.woken) (ap (λ (k : ℕ). Some k) woken) refl c.in-Some.ensures.first in
    let meets = λ (d : Doer). goes_on_implements c.args.thread _ d c.waits_cancellable-cancellable.result c.task_of-call.result _ _ _ _ c.picked_event_for-picked_event.result c.given-given.result s t u c.waited-in-Some.ensures c.task_of-call.ensures.is c.number-number.ensures woken c.waits_cancellable-cancellable.ensures c.picked_event_for-picked_event.ensures.is c.given-given.ensures.is c.in-Some.ensures.choice c.in-Some.ensures.new c.take.ensures 0 in
    record {
      does = does_same _ c.args.thread s u _ meets
          (waits_picks c.args.thread _ s _ u _ l c.waited-in-Some.ensures shows meets)
          (ap tags c.take.ensures ∙ ap tags c.in-Some.ensures.new) (ap current c.take.ensures ∙ ap current c.in-Some.ensures.new);
    }

pub returns-in-None : goal.returns-in-None
returns-in-None g c =
    let v = g.W.View.view in
    let s = v c.args.w.now in
    let t = v c.hand_on-waiter.new.w in
    let u = v c.take.new.w in
    let tags = λ (y : StateView). y.tags in
    let current = λ (y : StateView). y.current in
    let some : c.picked_event_for-picked_event.result ≡ picked_events.Nothing → ⊥ = elim c.match-matches.branch [ in-Nothing w ↦ (λ e. absurd (let a = w.matches-is in let b = c.if-matches.false in cc)) | in_default w ↦ w.in_default.not-Nothing ] in
    let m = c.number-number.result in
    let l = wait_label m c.given-given.result None in
    let here = c.instance_of-instance.ensures ∙ ap (λ (k : ℕ). instance_of k s.core) (sym c.number-number.ensures) in
    let shows : ShowsFirst (preference s) s.core l = record {
      waiter = tt;
      member = given_shows s c.instance_of-instance.result m c.picked_event_for-picked_event.result c.given-given.result c.given-given.ensures.handle c.picked_event_for-picked_event.ensures.first here;
    } in
    let meets = λ (d : Doer). takes_implements c.args.thread _ d c.waits_cancellable-cancellable.result c.task_of-call.result _ _ _ c.picked_event_for-picked_event.result c.given-given.result s t u some c.waited.ensures c.instance_of-instance.ensures c.picked_event_for-picked_event.ensures.named c.given-given.ensures.handle c.task_of-call.ensures.is c.number-number.ensures c.waits_cancellable-cancellable.ensures c.picked_event_for-picked_event.ensures.is c.given-given.ensures.is c.in-None.ensures.choice c.in-None.ensures.new c.take.ensures 0 in
    record {
      does = does_same _ c.args.thread s u _ meets
          (waits_picks c.args.thread _ s _ u _ l c.waited.ensures shows meets)
          (ap tags c.take.ensures ∙ ap tags c.in-None.ensures.new) (ap current c.take.ensures ∙ ap current c.in-None.ensures.new);
    }
