use Rattle.std.proofs.Common.{ap, refl, ◌∙◌}
use Rattle.std.specs.Prelude.{Some, ℕ}
use Rattle.core_primitives.specs.Preferences.{preference}
use Rattle.machine_data.specs.Labels.{choice_of, event_label}
use Rattle.machine_rules.specs.Picks.{ShowsFirst}
use Rattle.ops_guests.proofs.CalmLemmas.{loose_goes, waking_shows}
use Rattle.ops_guests.specs.Steps.{label_of}
use Rattle.ops_guests.proofs.DeliveryLemmas.{delivered_none, set_implements}
use Rattle.ops_guests.proofs.WaitLemmas.{handed_task}
use Rattle.core_primitives.specs.StateView.{StateView, set_of, thread_of}
use Rattle.ops_guests.proofs.deliveries.deliver_set.Goals as goal

pub activate-requires : goal.activate-requires
activate-requires g c = handed_task c.args.thread _ _ _ (g.W.View.view c.args.w.now) _ c.hand_on-waiter.ensures.new c.task_of-call.result c.task_of-call.ensures.is

pub returns-in-Some-clause-picks : goal.returns-in-Some-clause-picks
returns-in-Some-clause-picks g c =
    let v = g.W.View.view in
    let s = v c.args.w.now in
    let named = λ (y : StateView). thread_of y c.in-Some.woken in
    let woken = c.number.ensures ∙ (ap named c.activate.ensures ∙ ap named c.in-Some.ensures.new) in
    let n = thread_of s c.args.thread in
    let m = c.number-number.result in
    let l = event_label c.args.mark m c.given-given.result (Some c.number.result) in
    let shows : ShowsFirst (preference s) s.core l = waking_shows (preference s) s.core l (thread_of s c.in-Some.woken) (ap (λ (k : ℕ). Some k) woken) refl c.in-Some.ensures.first in
    loose_goes (preference s) n _ l m s.core _ _ c.activated-in-Some.ensures (delivered_none c.args.mark n (set_of s c.args.set) (choice_of (label_of n c.activated-in-Some.result)) s.core) shows
    (set_implements c.args.thread c.args.mark _ _ _ _ _ _ c.picked_event_for-picked_event.result c.given-given.result s (v c.hand_on-waiter.new.w) _ c.activated-in-Some.ensures c.task_of-call.ensures.is c.number-number.ensures woken c.picked_event_for-picked_event.ensures.is c.given-given.ensures.is c.in-Some.ensures.choice c.in-Some.ensures.new c.activate.ensures)
