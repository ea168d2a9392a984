use Rattle.core_makes.proofs.RestoreLemmas.{Restores-deleted, Restores-same, sound_restored}
use Rattle.core_makes.specs.Restored.{Restores}
use Rattle.core_records.proofs.Core.{add_call, add_thread, ap, arith, call_key, call_of, children_of, children_of-pushed, IsSoundCore, IsTable, Keeps, next_place, number_of, parts_of, pushed, refl, seen, subst, sym, Table, thread_of, ℕ, ◌+◌, ◌<◌, ◌^◌, ◌∙◌, ◌≡◌}
use Rattle.core_records.specs.declared.{call_records.GuestTask.GuestTask, single.Single.Single}
use Rattle.core_makes.proofs.CallThreadAddLemmas.{as_made, call_named, group_few, interesting_few, call_thread_core, call_thread_sound, call_thread_tags, thread_named, used_few}
use Rattle.core_makes.proofs.calls_with_threads.push_call_with_thread.Goals as goal
use Rattle.core_records.proofs.MakeLemmas.{number_new}

pub one_more-requires-clause-few : goal.one_more-requires-clause-few
one_more-requires-clause-few c = group_few c.args.parts.now c.requires.sound (record c.args.call { first = next_place c.args.parts.now.threads }) (record c.args.thread { task = next_place c.args.parts.now.calls }) c.args.id c.args.group c.requires.may.group

pub overflow_add-parts-in-Ok-push : goal.overflow_add-parts-in-Ok-push
overflow_add-parts-in-Ok-push c = let few : c.args.parts.now.kept.used + 3 < 2 ^ 64 = used_few c.args.parts.now c.requires.sound c.requires.may.room in omega arith

pub overflow_add-parts-in-Ok-push-2 : goal.overflow_add-parts-in-Ok-push-2
overflow_add-parts-in-Ok-push-2 c = let few : c.args.parts.now.kept.interesting + 1 < 2 ^ 64 = interesting_few c.args.parts.now c.requires.sound in omega arith

pub drop_call-requires-clause-live : goal.drop_call-requires-clause-live
unfolding IsSoundCore
drop_call-requires-clause-live c =
    let is : number_of call_key c.push.new.self c.in-Ok.task.rep c.in-Ok.task.serial ≡ c.args.call.number =
    ap (λ (t : Table (Single GuestTask)). number_of call_key t c.in-Ok.task.rep c.in-Ok.task.serial) c.in-Ok.ensures.pushed
    ∙ number_new (λ (g : GuestTask). g.number) (λ (g : GuestTask). g.call) c.args.parts.now.calls c.args.parts.now.made.threads c.requires.sound.tables.calls (record c.args.call { first = c.in-Some.place }) c.requires.may.next.call_next c.in-Ok.task.rep c.in-Ok.task.serial c.in-Ok.ensures.rep c.in-Ok.ensures.serial in
    let next = c.requires.may.next.call_next in
    omega arith

pub drop_call-requires-clause-childless : goal.drop_call-requires-clause-childless
unfolding IsSoundCore
drop_call-requires-clause-childless c =
    ap (λ (t : Table (Single GuestTask)). children_of t c.in-Ok.task.rep) c.in-Ok.ensures.pushed
    ∙ (children_of-pushed c.args.parts.now.calls (record { item = record c.args.call { first = c.in-Some.place } }) c.in-Ok.task.rep c.requires.sound.tables.calls.table ∙ c.requires.sound.tables.calls.childless c.in-Ok.task.rep)

pub returns-in-Ok-push-clause-sound : goal.returns-in-Ok-push-clause-sound
returns-in-Ok-push-clause-sound c =
    let a = c.args.parts.now in
    let g = record c.args.thread { task = next_place a.calls } in
    let k = record c.args.call { first = next_place a.threads } in
    let is_c : c.push.new.self ≡ pushed (record { item = k }) a.calls = c.in-Ok.ensures.pushed ∙ ap (λ (n : ℕ). pushed (record { item = record c.args.call { first = n } }) a.calls) c.in-Some.ensures.some in
    let is_t : c.push-in-Ok.new.self ≡ pushed (record { item = g }) a.threads = c.in-Ok-push.ensures.pushed ∙ ap (λ (n : ℕ). pushed (record { item = record c.args.thread { task = n } }) a.threads) (c.rep.ensures ∙ c.in-Ok.ensures.rep) in
    as_made a c.requires.sound k g c.args.id c.args.group c.requires.may.group _ _ _ is_t is_c c.one_more.ensures IsSoundCore
    (call_thread_sound a c.requires.sound k g c.args.id c.args.group c.requires.may.group c.requires.may.next c.requires.may.loose c.requires.may.place c.requires.may.of_group (subst IsTable is_t c.in-Ok-push.ensures.sound) (subst IsTable is_c c.in-Ok.ensures.sound) c.requires.may.unnamed c.requires.may.interests)

pub returns-in-Ok-push-clause-thread : goal.returns-in-Ok-push-clause-thread
returns-in-Ok-push-clause-thread c =
    let a = c.args.parts.now in
    let g = record c.args.thread { task = next_place a.calls } in
    let k = record c.args.call { first = next_place a.threads } in
    let is_c : c.push.new.self ≡ pushed (record { item = k }) a.calls = c.in-Ok.ensures.pushed ∙ ap (λ (n : ℕ). pushed (record { item = record c.args.call { first = n } }) a.calls) c.in-Some.ensures.some in
    let is_t : c.push-in-Ok.new.self ≡ pushed (record { item = g }) a.threads = c.in-Ok-push.ensures.pushed ∙ ap (λ (n : ℕ). pushed (record { item = record c.args.thread { task = n } }) a.threads) (c.rep.ensures ∙ c.in-Ok.ensures.rep) in
    as_made a c.requires.sound k g c.args.id c.args.group c.requires.may.group _ _ _ is_t is_c c.one_more.ensures (λ b. thread_of (seen b) c.in-Ok-push.first ≡ a.made.threads + 1)
    (thread_named a c.requires.sound k g c.args.id c.args.group c.requires.may.group c.requires.may.next c.requires.may.loose c.in-Ok-push.first c.in-Ok-push.ensures.rep c.in-Ok-push.ensures.serial)

pub returns-in-Ok-push-clause-call : goal.returns-in-Ok-push-clause-call
returns-in-Ok-push-clause-call c =
    let a = c.args.parts.now in
    let g = record c.args.thread { task = next_place a.calls } in
    let k = record c.args.call { first = next_place a.threads } in
    let is_c : c.push.new.self ≡ pushed (record { item = k }) a.calls = c.in-Ok.ensures.pushed ∙ ap (λ (n : ℕ). pushed (record { item = record c.args.call { first = n } }) a.calls) c.in-Some.ensures.some in
    let is_t : c.push-in-Ok.new.self ≡ pushed (record { item = g }) a.threads = c.in-Ok-push.ensures.pushed ∙ ap (λ (n : ℕ). pushed (record { item = record c.args.thread { task = n } }) a.threads) (c.rep.ensures ∙ c.in-Ok.ensures.rep) in
    as_made a c.requires.sound k g c.args.id c.args.group c.requires.may.group _ _ _ is_t is_c c.one_more.ensures (λ b. call_of (seen b) c.in-Ok.task ≡ a.made.threads + 1)
    (call_named a c.requires.sound k g c.args.id c.args.group c.requires.may.group c.requires.may.next c.requires.may.loose c.in-Ok.task c.in-Ok.ensures.rep c.in-Ok.ensures.serial)

pub returns-in-Ok-push-clause-new : goal.returns-in-Ok-push-clause-new
unfolding seen
returns-in-Ok-push-clause-new c =
    record {
      core =
          let a = c.args.parts.now in
          let g = record c.args.thread { task = next_place a.calls } in
          let k = record c.args.call { first = next_place a.threads } in
          let is_c : c.push.new.self ≡ pushed (record { item = k }) a.calls = c.in-Ok.ensures.pushed ∙ ap (λ (n : ℕ). pushed (record { item = record c.args.call { first = n } }) a.calls) c.in-Some.ensures.some in
          let is_t : c.push-in-Ok.new.self ≡ pushed (record { item = g }) a.threads = c.in-Ok-push.ensures.pushed ∙ ap (λ (n : ℕ). pushed (record { item = record c.args.thread { task = n } }) a.threads) (c.rep.ensures ∙ c.in-Ok.ensures.rep) in
          as_made a c.requires.sound k g c.args.id c.args.group c.requires.may.group _ _ _ is_t is_c c.one_more.ensures (λ b. (seen b).core ≡ add_thread c.args.thread.thread (add_call c.args.call.number c.args.call.call (seen a).core))
          (call_thread_core a c.requires.sound k g c.args.id c.args.group c.requires.may.group c.requires.may.next c.requires.may.loose);
      current = refl;
      tags =
          let a = c.args.parts.now in
          let g = record c.args.thread { task = next_place a.calls } in
          let k = record c.args.call { first = next_place a.threads } in
          let is_c : c.push.new.self ≡ pushed (record { item = k }) a.calls = c.in-Ok.ensures.pushed ∙ ap (λ (n : ℕ). pushed (record { item = record c.args.call { first = n } }) a.calls) c.in-Some.ensures.some in
          let is_t : c.push-in-Ok.new.self ≡ pushed (record { item = g }) a.threads = c.in-Ok-push.ensures.pushed ∙ ap (λ (n : ℕ). pushed (record { item = record c.args.thread { task = n } }) a.threads) (c.rep.ensures ∙ c.in-Ok.ensures.rep) in
          as_made a c.requires.sound k g c.args.id c.args.group c.requires.may.group _ _ _ is_t is_c c.one_more.ensures (λ b. Keeps (seen a).tags (seen b).tags)
          (call_thread_tags a c.requires.sound k g c.args.id c.args.group c.requires.may.group c.requires.may.next c.requires.may.loose);
    }

pub returns-in-Err-push-clause-err : goal.returns-in-Err-push-clause-err
unfolding IsSoundCore
returns-in-Err-push-clause-err c =
    let a = c.args.parts.now in
    let t = c.requires.sound.tables in
    let more : Restores (pushed (record { item = record c.args.call { first = c.in-Some.place } }) a.calls) c.push.new.self = subst (Restores (pushed (record { item = record c.args.call { first = c.in-Some.place } }) a.calls)) (sym c.in-Ok.ensures.pushed) (Restores-same _ (subst IsTable c.in-Ok.ensures.pushed c.in-Ok.ensures.sound)) in
    record {
      threads = subst (Restores a.threads) (sym c.in-Err-push.ensures.err) (Restores-same a.threads t.threads.table);
      calls = Restores-deleted a.calls c.push.new.self _ (record { item = record c.args.call { first = c.in-Some.place } }) t.calls.table more c.in-Ok.task.rep c.in-Ok.ensures.rep c.drop_call.ensures.deleted c.drop_call.ensures.table;
      works = Restores-same a.works t.works.table;
      sets = Restores-same a.sets t.sets.table;
      groups = Restores-same a.groups t.groups.table;
      rest = refl;
    }

pub returns-in-Err-push-clause-sound : goal.returns-in-Err-push-clause-sound
unfolding IsSoundCore
returns-in-Err-push-clause-sound c = sound_restored (parts_of c.args.parts.now) _ (returns-in-Err-push-clause-err c) c.requires.sound

pub returns-in-Err-clause-err : goal.returns-in-Err-clause-err
unfolding IsSoundCore
returns-in-Err-clause-err c =
    let a = c.args.parts.now in
    let t = c.requires.sound.tables in
    record {
      threads = Restores-same a.threads t.threads.table;
      calls = subst (Restores a.calls) (sym c.in-Err.ensures.err) (Restores-same a.calls t.calls.table);
      works = Restores-same a.works t.works.table;
      sets = Restores-same a.sets t.sets.table;
      groups = Restores-same a.groups t.groups.table;
      rest = refl;
    }

pub returns-in-Err-clause-sound : goal.returns-in-Err-clause-sound
unfolding IsSoundCore
returns-in-Err-clause-sound c = sound_restored (parts_of c.args.parts.now) _ (returns-in-Err-clause-err c) c.requires.sound

pub returns-in-Ok-push-clause-pushes : goal.returns-in-Ok-push-clause-pushes
returns-in-Ok-push-clause-pushes c = record {
  thread = record c.args.thread { task = c.rep.result };
  call = record c.args.call { first = c.in-Some.place };
  threads = c.in-Ok-push.ensures.pushed;
  calls = c.in-Ok.ensures.pushed;
  groups = c.one_more.ensures;
  first_at = c.in-Ok-push.ensures.rep;
  task_at = c.in-Ok.ensures.rep;
  only = refl;
}

pub returns-in_default-clause-err : goal.returns-in_default-clause-err
unfolding IsSoundCore
returns-in_default-clause-err c =
    let a = c.args.parts.now in
    let t = c.requires.sound.tables in
    record {
      threads = Restores-same a.threads t.threads.table;
      calls = Restores-same a.calls t.calls.table;
      works = Restores-same a.works t.works.table;
      sets = Restores-same a.sets t.sets.table;
      groups = Restores-same a.groups t.groups.table;
      rest = refl;
    }
