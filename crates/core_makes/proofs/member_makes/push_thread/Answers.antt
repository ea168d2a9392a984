use Rattle.core_records.proofs.Core.{add_thread, arith, IsSoundCore, IsTable, Keeps, refl, seen, subst, sym, Table, thread_of, ◌+◌, ◌<◌, ◌^◌, ◌≡◌}
use Rattle.core_records.specs.declared.{single.Single.Single, thread_records.GuestThread.GuestThread}
use Rattle.core_makes.proofs.MemberAddLemmas.{as_member, member_core, member_named, member_sound, member_tags, member_used, threads_few}
use Rattle.core_makes.proofs.member_makes.push_thread.Goals as goal

pub overflow_add-threads : goal.overflow_add-threads
overflow_add-threads c = let few = threads_few c.args.parts.now c.requires.sound c.args.task c.args.call c.requires.may.there c.args.thread in omega arith

pub overflow_add-parts-in-Ok : goal.overflow_add-parts-in-Ok
overflow_add-parts-in-Ok c = let few : c.args.parts.now.kept.used + 2 < 2 ^ 64 = member_used c.args.parts.now c.requires.sound c.requires.room in omega arith

pub returns-in-Ok-clause-sound : goal.returns-in-Ok-clause-sound
returns-in-Ok-clause-sound c =
    let a = c.args.parts.now in
    as_member a c.requires.sound c.args.task c.args.call c.requires.may.there c.args.thread _ _ c.in-Ok.ensures.pushed c.count_threads.ensures IsSoundCore
    (member_sound a c.requires.sound c.args.task c.args.call c.requires.may.there c.args.thread c.requires.may.member c.requires.may.loose (subst IsTable c.in-Ok.ensures.pushed c.in-Ok.ensures.sound) c.requires.may.unnamed)

pub returns-in-Ok-clause-thread : goal.returns-in-Ok-clause-thread
unfolding seen
returns-in-Ok-clause-thread c =
    let a = c.args.parts.now in
    as_member a c.requires.sound c.args.task c.args.call c.requires.may.there c.args.thread _ _ c.in-Ok.ensures.pushed c.count_threads.ensures (λ b. thread_of (seen b) c.in-Ok.new ≡ a.made.threads + 1)
    (member_named a c.requires.sound c.args.task c.args.call c.requires.may.there c.args.thread c.requires.may.member c.requires.may.loose c.in-Ok.new c.in-Ok.ensures.rep c.in-Ok.ensures.serial)

pub returns-in-Ok-clause-new : goal.returns-in-Ok-clause-new
unfolding seen
returns-in-Ok-clause-new c =
    record {
      core =
          let a = c.args.parts.now in
          as_member a c.requires.sound c.args.task c.args.call c.requires.may.there c.args.thread _ _ c.in-Ok.ensures.pushed c.count_threads.ensures (λ b. (seen b).core ≡ add_thread c.args.thread.thread (seen a).core)
          (member_core a c.requires.sound c.args.task c.args.call c.requires.may.there c.args.thread c.requires.may.member c.requires.may.loose);
      current = refl;
      tags =
          let a = c.args.parts.now in
          as_member a c.requires.sound c.args.task c.args.call c.requires.may.there c.args.thread _ _ c.in-Ok.ensures.pushed c.count_threads.ensures (λ b. Keeps (seen a).tags (seen b).tags)
          (member_tags a c.requires.sound c.args.task c.args.call c.requires.may.there c.args.thread c.requires.may.member c.requires.may.loose);
    }

pub returns-in-Err-clause-sound : goal.returns-in-Err-clause-sound
returns-in-Err-clause-sound c = subst (λ (t : Table (Single GuestThread)). IsSoundCore (record c.args.parts.now { threads = t })) (sym c.in-Err.ensures.err) c.requires.sound
