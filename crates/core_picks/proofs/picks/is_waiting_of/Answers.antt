use Rattle.core_picks.proofs.picks.is_waiting_of.Goals as goal
use Rattle.core_places.proofs.WaitingLemmas.{and_off, and_on, not_waiting, waits_in_call}
use Rattle.core_records.proofs.Core.{ap, Bool, Place, sym, ◌&&◌, ◌==◌, ◌∙◌}
use Rattle.machine_rules.specs.Cancels.{is_waiting}

pub returns-in-Waiting : goal.returns-in-Waiting
returns-in-Waiting c =
    let t = c.in-Some.found.now.thread in
    and_on (t.call == c.args.call) ∙ (ap (λ (p : Place). (t.call == c.args.call) && is_waiting p) (sym c.in-Waiting.is) ∙ ap (waits_in_call c.args.call) c.in-Some.ensures.is)

pub returns-in_default : goal.returns-in_default
returns-in_default c =
    let t = c.in-Some.found.now.thread in
    sym (and_off (t.call == c.args.call)) ∙ (ap (λ (b : Bool). (t.call == c.args.call) && b) (sym (not_waiting t.place c.in_default.not-Waiting)) ∙ ap (waits_in_call c.args.call) c.in-Some.ensures.is)

pub returns-in-None : goal.returns-in-None
returns-in-None c = sym (and_off (0 == c.args.call)) ∙ ap (waits_in_call c.args.call) c.in-None.ensures.is
