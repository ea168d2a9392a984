use Rattle.core_records.proofs.Core.{ap, IsSoundCore, subst, with_entry, ℕ, ◌<◌, ◌∙◌}
use Rattle.core_records.specs.declared.{call_records.GuestTask.GuestTask}
use Rattle.core_makes.proofs.member_makes.drop_member.Goals as goal
use Rattle.core_records.proofs.ReadLemmas.{thread_shown}

pub drop_thread-requires-clause-live : goal.drop_thread-requires-clause-live
drop_thread-requires-clause-live c = subst (λ (n : ℕ). 0 < n) (thread_shown c.args.parts.now c.args.new) c.requires.thread

pub drop_thread-requires-clause-childless : goal.drop_thread-requires-clause-childless
unfolding IsSoundCore
drop_thread-requires-clause-childless c = c.requires.sound.tables.threads.childless c.args.new.rep

pub returns-clause-calls : goal.returns-clause-calls
returns-clause-calls c = c.count_threads.ensures ∙ ap (λ (d : GuestTask). with_entry c.args.task.rep (record { item = record d { threads = c.args.call.threads } }) c.args.parts.now.calls) c.one_thread_more-more.ensures
