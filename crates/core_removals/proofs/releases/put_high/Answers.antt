use Rattle.core_records.proofs.Core.{ap, Entry, number_in, on_core, push_high, put_high, record_at, seen, subst, sym, Table, thread_key, thread_of, ◌<◌, ◌∙◌}
use Rattle.core_records.specs.declared.{single.Single.Single, thread_records.GuestThread.GuestThread}
use Rattle.core_removals.proofs.ReleaseLemmas.{some_why, stood_same, stood_unqueued}
use Rattle.core_removals.proofs.releases.put_high.Goals as goal

pub push_high-requires-clause-live : goal.push_high-requires-clause-live
push_high-requires-clause-live c = let one = some_why _ c.requires.held in subst (λ n. 0 < n) (sym (stood_same (seen c.args.parts.now) (seen c.unhold.new.parts) c.args.thread _ (c.unhold.ensures.new one.0 one.1))) c.requires.live

pub push_high-requires-clause-unqueued : goal.push_high-requires-clause-unqueued
push_high-requires-clause-unqueued c = let one = some_why _ c.requires.held in stood_unqueued (seen c.args.parts.now) (seen c.unhold.new.parts) c.args.thread _ (c.unhold.ensures.new one.0 one.1) c.requires.unqueued

pub returns-clause-new : goal.returns-clause-new
unfolding put_high
returns-clause-new c w is = c.push_high.ensures.new ∙ ap (λ v. on_core (push_high (Entry.Thread (thread_of v c.args.thread))) v) (c.unhold.ensures.new w is)

pub returns-clause-numbers : goal.returns-clause-numbers
returns-clause-numbers c r = ap (λ (t : Table (Single GuestThread)). number_in (record_at thread_key t.places r)) c.push_high.ensures.threads ∙ c.unhold.ensures.numbers r

pub returns-clause-left : goal.returns-clause-left
returns-clause-left c g is = c.push_high.ensures.places ∙ c.unhold.ensures.left g is
