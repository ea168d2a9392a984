use Rattle.core_picks.proofs.picks.least_waiting.Goals as goal
use Rattle.core_places.proofs.FirstLemmas.{first_held, none_held}
use Rattle.core_places.proofs.WaitingLemmas.{least_waiting, none_waiting, waiting_live, waiting_there}
use Rattle.core_places.proofs.WantedLemmas.{named_there}
use Rattle.core_primitives.specs.StateView.{call_of}
use Rattle.core_records.proofs.Core.{seen, subst, sym, ◌<◌, ◌∙◌, ◌≡◌}
use Rattle.core_records.proofs.ReadLemmas.{call_shown}
use Rattle.core_records.specs.declared.{call_records.GuestTask.GuestTask}

pub first-requires : goal.first-requires
first-requires c =
    let a = c.args.parts.now in
    let one = named_there (λ (g : GuestTask). g.number) (λ (g : GuestTask). g.call) a.calls c.args.call.rep c.args.call.serial (subst (λ m. 0 < m) (call_shown a c.args.call) c.requires.live) in
    let t = one.0.entry.item in
    let has = c.requires.chain t one.1.1.0 in
    waiting_live a c.requires.sound c.args.call.rep c.args.call.serial t one.1.1.0 c.args.chain has

pub returns-in-Some-clause-some : goal.returns-in-Some-clause-some
returns-in-Some-clause-some c =
    let a = c.args.parts.now in
    let one = named_there (λ (g : GuestTask). g.number) (λ (g : GuestTask). g.call) a.calls c.args.call.rep c.args.call.serial (subst (λ m. 0 < m) (call_shown a c.args.call) c.requires.live) in
    let t = one.0.entry.item in
    let has = c.requires.chain t one.1.1.0 in
    let same : t.number ≡ call_of (seen a) c.args.call = one.1.1.1 ∙ sym (call_shown a c.args.call) in
    let holds = first_held a.waits c.args.chain c.in-Some.field-0-0 c.in-Some.order_key c.in-Some.ensures.linked c.in-Some.ensures.entry in
    (waiting_there a c.requires.sound c.args.call.rep c.args.call.serial t one.1.1.0 c.args.chain has c.in-Some.order_key holds _ _ same c.thread_at.ensures).0

pub returns-in-Some-clause-live : goal.returns-in-Some-clause-live
returns-in-Some-clause-live c =
    let a = c.args.parts.now in
    let one = named_there (λ (g : GuestTask). g.number) (λ (g : GuestTask). g.call) a.calls c.args.call.rep c.args.call.serial (subst (λ m. 0 < m) (call_shown a c.args.call) c.requires.live) in
    let t = one.0.entry.item in
    let has = c.requires.chain t one.1.1.0 in
    let same : t.number ≡ call_of (seen a) c.args.call = one.1.1.1 ∙ sym (call_shown a c.args.call) in
    let holds = first_held a.waits c.args.chain c.in-Some.field-0-0 c.in-Some.order_key c.in-Some.ensures.linked c.in-Some.ensures.entry in
    (waiting_there a c.requires.sound c.args.call.rep c.args.call.serial t one.1.1.0 c.args.chain has c.in-Some.order_key holds _ _ same c.thread_at.ensures).1

pub returns-in-Some-clause-least : goal.returns-in-Some-clause-least
returns-in-Some-clause-least c =
    let a = c.args.parts.now in
    let one = named_there (λ (g : GuestTask). g.number) (λ (g : GuestTask). g.call) a.calls c.args.call.rep c.args.call.serial (subst (λ m. 0 < m) (call_shown a c.args.call) c.requires.live) in
    let t = one.0.entry.item in
    let has = c.requires.chain t one.1.1.0 in
    let same : t.number ≡ call_of (seen a) c.args.call = one.1.1.1 ∙ sym (call_shown a c.args.call) in
    let holds = first_held a.waits c.args.chain c.in-Some.field-0-0 c.in-Some.order_key c.in-Some.ensures.linked c.in-Some.ensures.entry in
    least_waiting a c.requires.sound c.args.call.rep c.args.call.serial t one.1.1.0 c.args.chain has c.in-Some.order_key holds c.in-Some.ensures.sound c.in-Some.ensures.linked c.in-Some.ensures.least _ same c.thread_at.result c.thread_at.ensures

pub returns-in-None-clause-none : goal.returns-in-None-clause-none
returns-in-None-clause-none c =
    let a = c.args.parts.now in
    let one = named_there (λ (g : GuestTask). g.number) (λ (g : GuestTask). g.call) a.calls c.args.call.rep c.args.call.serial (subst (λ m. 0 < m) (call_shown a c.args.call) c.requires.live) in
    let t = one.0.entry.item in
    let has = c.requires.chain t one.1.1.0 in
    let same : t.number ≡ call_of (seen a) c.args.call = one.1.1.1 ∙ sym (call_shown a c.args.call) in
    none_waiting a c.requires.sound c.args.call.rep c.args.call.serial t one.1.1.0 c.args.chain has (none_held a.waits c.args.chain c.in-None.ensures.sound c.in-None.ensures.entry) _ same
