-- The work that a step made.
use Rattle.ops_guests.specs.Works.{KeepsTold, NamesTold}
use Rattle.std.proofs.Common.{ap, arith, inl, inr, refl, subst, sym, ◌∙◌}
use Rattle.std.specs.Prelude.{List, None, Option, Some, [], is_some, option_map, true, ℕ, ◌+◌, ◌<◌, ◌∷◌, ◌≡◌, ◌⊎◌}
use Rattle.ops_dispatch.specs.Polls.{MakesWork, Polls, made_work, polled_host}
use Rattle.ops_dispatch.specs.declared.done.Done.{Done}
use Rattle.ops_subtasks.specs.Queued.{GoesOnWith, queued_work}
use Rattle.laws_states.specs.Order.{WorksQueued}
use Rattle.machine_data.specs.Core.{Core}
use Rattle.machine_data.specs.Maps.{Records, get}
use Rattle.machine_data.specs.Read.{course_of, strand_of}
use Rattle.machine_data.specs.Write.{remove_thread, remove_threads, set_trapped}
use Rattle.machine_data.specs.declared.component.Component.{Component}
use Rattle.ops_subtasks.specs.First.{first_heard}
use Rattle.machine_data.specs.declared.component.HostDef.{HostDef}
use Rattle.machine_data.specs.declared.statuses.HostPoll.{HostPoll}
use Rattle.machine_data.specs.declared.op.Op.{Op}
use Rattle.machine_data.specs.declared.records.Course.TheVariants as course
use Rattle.machine_data.specs.declared.records.OpProgress.{OpProgress}
use Rattle.machine_data.specs.declared.records.Work.{Work}
use Rattle.ops_guests.specs.Steps.{core_after}
use Rattle.ops_guests.specs.declared.op_result.OpResult.{OpResult}
use Rattle.ops_guests.specs.declared.op_result.OpResult.TheVariants as op_result
use Rattle.machine_rules.specs.Calls.{AtOnce, Failing, FirstPoll, Later, next_work}
use Rattle.machine_rules.specs.Step.{unwound}
use Rattle.task_table.specs.declared.id.TableId.{TableId}
use Rattle.ops_turns.specs.Ran.{WorkMade}
use Rattle.ops_turns.specs.Turn.{is_going}
use Rattle.task_wait.specs.declared.keys.HostTaskKey.{HostTaskKey}
use Rattle.core_primitives.specs.StateView.{StateView, Tags, work_number, work_of}

-- ---- No strand has a work

removed_works : (ns : List ℕ) (s : Core) → (remove_threads ns s).works ≡ s.works
unfolding remove_thread
removed_works [] s = refl
removed_works (n ∷ ns) s = removed_works ns (remove_thread n s)

unwound_works : (n : ℕ) (s : Core) → (unwound n s).works ≡ s.works
unfolding unwound set_trapped
unwound_works n s = removed_works (strand_of n s) s

after_works : (n : ℕ) (r : OpResult) (s : Core) → (core_after n r s).works ≡ s.works
after_works n (op_result.Continues l m said) s = refl
after_works n (op_result.Stops l) s = refl
after_works n (op_result.Traps why) s = unwound_works n s
after_works n (op_result.Fails i) s = unwound_works n s

-- the next number names no work
next_free : (s : Core) → WorksQueued s → get s.works (s.made.works + 1) ≡ None
next_free s q = by (get s.works (s.made.works + 1)) refl
  where
    by : (o : Option Work) → get s.works (s.made.works + 1) ≡ o → o ≡ None
    by None e = refl
    by (Some w) e = absurd (let few = q.made (s.made.works + 1) (ap is_some e) in omega (arith, few))

-- ---- What a step made

module _ (answer : HostPoll) (id : TableId HostTaskKey) (s u t : StateView) where
  number : (a b : ℕ) → Some a ≡ Some b → a ≡ b
  number a b e = cc

  kept : (host left : HostDef) → first_heard host answer ≡ Later left → Some (work_of u id) ≡ Some (next_work s.core) → course_of (work_of u id) u.core ≡ course.Continues left → t.core ≡ u.core → t.tags ≡ u.tags → WorkMade answer (Some host) (Some id) s t
  kept host left first named goes core tags =
      let same = ap (λ (g : Tags). work_number g id) tags in
      let after : course_of (work_of t id) t.core ≡ course.Continues left = subst (λ (c : Core). course_of (work_of t id) c ≡ course.Continues left) (sym core) (subst (λ k. course_of k u.core ≡ course.Continues left) (sym same) goes) in
      (host, (left, (refl, (first, (same ∙ number (work_of u id) (next_work s.core) named, after)))))

  -- a work that was queued goes on
  queued : (host : HostDef) (p : FirstPoll) (r : OpResult) (n : ℕ) → first_heard host answer ≡ p → Some (work_of u id) ≡ queued_work p r s.core → GoesOnWith p (Some id) u → t.core ≡ core_after n r u.core → (is_going r ≡ true → t.tags ≡ u.tags) → WorkMade answer (Some host) (Some id) s t
  queued host (Later left) (op_result.Continues l m said) n first named goes core tags = kept host left first named goes core (tags refl)
  queued host (Later left) (op_result.Stops l) n first named goes core tags = kept host left first named goes core (tags refl)
  queued host (Later left) (op_result.Traps why) n first named goes core tags = absurd (cc)
  queued host (Later left) (op_result.Fails i) n first named goes core tags = absurd (cc)
  queued host (AtOnce v) r n first named goes core tags = absurd (cc)
  queued host Failing r n first named goes core tags = absurd (cc)

  made_some : (polled : Option HostDef) (r : OpResult) (n : ℕ) → Some (work_of u id) ≡ made_work answer polled r s.core → MakesWork answer polled (Some id) u → t.core ≡ core_after n r u.core → (is_going r ≡ true → t.tags ≡ u.tags) → WorkMade answer polled (Some id) s t
  made_some None r n named goes core tags = absurd (cc)
  made_some (Some host) r n named goes core tags = queued host (first_heard host answer) r n refl named goes core tags

pub ran_work : (answer : HostPoll) (c : Component) (h : OpProgress) (o : Op) (d : Done) (n : ℕ) (s u t : StateView) → WorksQueued s.core → Polls answer c h o s d u → t.core ≡ core_after n d.op_result u.core → (is_going d.op_result ≡ true → t.tags ≡ u.tags)
    → WorkMade answer (polled_host c h o) d.work s t
ran_work answer c h o d n s u t works q core tags = subst (λ (p : Option HostDef). WorkMade answer p d.work s t) q.polled (by d.work refl)
  where
    by : (w : Option (TableId HostTaskKey)) → d.work ≡ w → WorkMade answer d.polled w s t
    by None e = elim (q.none e) [
      | inl unpolled ↦ inl unpolled
      | inr same ↦ inr (ap (λ (m : Records Work). get m (s.core.made.works + 1)) (ap (λ (v : Core). v.works) core ∙ (after_works n d.op_result u.core ∙ same)) ∙ next_free s.core works)
    ]
    by (Some id) e =
        made_some answer id s u t d.polled d.op_result n (sym (ap (option_map (λ (i : TableId HostTaskKey). work_of u i)) e) ∙ q.work) (subst (λ (w : Option (TableId HostTaskKey)). MakesWork answer d.polled w u) e q.course) core tags

-- what is said of ids of works once the op is ended is so once it is shown too
pub works_told : (n : ℕ) (r : OpResult) (s u t : StateView) → t.core ≡ core_after n r u.core → NamesTold s u → KeepsTold u t → NamesTold s t
works_told n r s u t core told keeps = (works, keeps.1 ∙ told.1)
  where
    works : (id : TableId HostTaskKey) → 0 < work_of s id → (work_of t id ≡ work_of s id) ⊎ (get t.core.works (work_of s id) ≡ None)
    works id live = elim (told.0 id live) [
      | inl same ↦ inl (keeps.0 id (subst (λ (k : ℕ). 0 < k) (sym same) live) ∙ same)
      | inr gone ↦ inr (ap (λ (m : Records Work). get m (work_of s id)) (ap (λ (v : Core). v.works) core ∙ after_works n r u.core) ∙ gone)
    ]
