use Rattle.machine_data.specs.Labels.{choice_of}
use Rattle.machine_data.specs.Read.{admits}
use Rattle.machine_data.specs.declared.records.Why.TheVariants as why
use Rattle.ops_guests.proofs.CalmLemmas.{picks_implements}
use Rattle.ops_guests.specs.Does.{PicksRule}
use Rattle.ops_guests.specs.Rules.{takes_start}
use Rattle.ops_guests.specs.Stays.{StaysAfter}
use Rattle.ops_guests.specs.Steps.{label_of}
use Rattle.machine_rules.specs.Takes.{start_rule}
use Rattle.ops_dispatch.proofs.StayLemmas.{ok_then, same_stays}
use Rattle.ops_turns.proofs.ShowLemmas.{start_shows}
use Rattle.ops_turns.proofs.SteppedLemmas.{err_then}
use Rattle.ops_turns.proofs.takes.take_thread.Goals as goal
use Rattle.ops_turns.specs.Turn.{Shows}
use Rattle.core_primitives.specs.StateView.{thread_of}

pub returns-in-Start-clause-shows : goal.returns-in-Start-clause-shows
returns-in-Start-clause-shows g c =
    let s = g.W.View.view c.args.w.now in
    let n = thread_of s c.args.thread in
    let t = g.W.View.view c.take_start.new.w in
    ok_then (λ r. PicksRule (takes_start c.args.mark) c.args.thread s r t) (Shows n) c.take_start.result
    (λ r h. start_shows c.args.mark n (choice_of (label_of n r)).woken s.core (admits n s.core why.Start) r t.core (picks_implements h)) c.take_start.ensures.picks

pub returns-in-Start-clause-stays : goal.returns-in-Start-clause-stays
returns-in-Start-clause-stays g c =
    let s = g.W.View.view c.args.w.now in
    let n = thread_of s c.args.thread in
    let t = g.W.View.view c.take_start.new.w in
    ok_then (λ r. PicksRule (takes_start c.args.mark) c.args.thread s r t) (λ r. StaysAfter r s t) c.take_start.result
    (λ r h. same_stays (start_rule c.args.mark n (choice_of (label_of n r)).woken s.core (admits n s.core why.Start)) s t r (picks_implements h) c.take_start.ensures.tags c.take_start.ensures.current) c.take_start.ensures.picks

pub take_start-requires-clause-bottom : goal.take_start-requires-clause-bottom
take_start-requires-clause-bottom g c = let a = c.why.ensures in let b = c.in-Start.is in c.requires.taken.bottom (cc)

pub returns-in-Start-clause-err : goal.returns-in-Start-clause-err
returns-in-Start-clause-err g c = err_then c.take_start.result (λ same. let a = c.why.ensures in let b = c.in-Start.is in cc) c.take_start.ensures.err
