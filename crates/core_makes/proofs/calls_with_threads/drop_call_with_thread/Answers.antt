use Rattle.core_records.proofs.Core.{IsSoundCore, subst, ℕ, ◌<◌}
use Rattle.core_makes.proofs.calls_with_threads.drop_call_with_thread.Goals as goal
use Rattle.core_records.proofs.ReadLemmas.{call_shown, thread_shown}

pub drop_thread-requires-clause-live : goal.drop_thread-requires-clause-live
drop_thread-requires-clause-live c = subst (λ (n : ℕ). 0 < n) (thread_shown c.args.parts.now c.args.first) c.requires.thread

pub drop_thread-requires-clause-childless : goal.drop_thread-requires-clause-childless
unfolding IsSoundCore
drop_thread-requires-clause-childless c = c.requires.sound.tables.threads.childless c.args.first.rep

pub drop_call-requires-clause-live : goal.drop_call-requires-clause-live
drop_call-requires-clause-live c = subst (λ (n : ℕ). 0 < n) (call_shown c.args.parts.now c.args.task) c.requires.call

pub drop_call-requires-clause-childless : goal.drop_call-requires-clause-childless
unfolding IsSoundCore
drop_call-requires-clause-childless c = c.requires.sound.tables.calls.childless c.args.task.rep
