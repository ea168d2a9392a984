-- What a method of an instance does, of what its op resulted in and what was told; and what is so of its answer then.
use Rattle.store_notices.specs.declared.tells.GroupsBefore.{GroupsBefore}
use Rattle.store_works.specs.KeptWorks.{HeldWork}
use Rattle.ops_state.specs.declared.error.TaskError.{TaskError}
use Rattle.std.proofs.Common.{ap, inl, inr, refl, subst, sym, ⊎_elim, ◌∙◌}
use Rattle.std.specs.Prelude.{Bool, Option, Result, false, true, ℕ, ◌≡◌, ◌⊎◌}
use Rattle.ops_calls.specs.HostOps.{AnswersOp, IsRunningIn, is_apart, scripted_rule_of}
use Rattle.ops_dispatch.specs.Makes.{takes_memory}
use Rattle.ops_calls.specs.declared.answer_calls.Step.{Step}
use Rattle.task_group.specs.Listeners.{Listeners}
use Rattle.task_loop.proofs.HostOpHoldLemmas.{asked_holds}
use Rattle.ops_turns.specs.Later.{TracksSame}
use Rattle.task_loop.proofs.TrackedLemmas.{answers_known}
use Rattle.task_loop.proofs.RuleTrapLemmas.{asked_not}
use Rattle.task_loop.proofs.ToldLemmas.{told_core}
use Rattle.task_loop.specs.Hooked.{HookCaused, HookFails}
use Rattle.task_loop.specs.InstanceCalls.{ComesOf, DoesCall, DoesHostOp, IsTold}
use Rattle.task_loop.specs.Told.{TellsCall, groups_before_call, refused_by_hook}
use Rattle.machine_data.specs.Core.{Core}
use Rattle.machine_data.specs.declared.component.Component.{Component}
use Rattle.machine_data.specs.declared.op.Op.{Op}
use Rattle.ops_guests.specs.declared.op_result.OpAnswer.{OpAnswer}
use Rattle.task_store.specs.Hosts.{HoldsWorks, held_by}
use Rattle.task_store.specs.declared.store.Store.{Store}
use Rattle.core_primitives.specs.Groups.{asked}
use Rattle.core_primitives.specs.StateView.{StateView}

-- ---- A call that was told

module _ {A T H G : Type 0} (listens : Bool) (comes : ComesOf A) (s : Store T H G) (u v : StateView) (m : Listeners) (b : GroupsBefore) (asks : b ≡ groups_before_call s.state)
    (answer r : Result A TaskError) (op_result : comes answer u) (known : TracksSame s.state u) (unfailed : answer ≡ refused_by_hook → ⊥) where
  pub is_told : TellsCall listens b answer r u v s.listeners m → (t : Store T H G) → t.state ≡ v → t.listeners ≡ m → IsTold listens comes s r t
  is_told told t state listeners = record {
    answer = answer;
    left = u;
    op_result = op_result;
    known = known;
    unfailed = unfailed;
    heard = subst (λ (l : Listeners). TellsCall listens (groups_before_call s.state) answer r u t.state s.listeners l) (sym listeners)
        (subst (λ (w : StateView). TellsCall listens (groups_before_call s.state) answer r u w s.listeners m) (sym state)
        (subst (λ (a : GroupsBefore). TellsCall listens a answer r u v s.listeners m) asks told));
  }

  abbrev called_to : Store T H G
  called_to = record s { state = v; listeners = m }

  -- one that changes the state and the listeners alone
  pub does_call : ((left : ℕ → Option HeldWork) → HoldsWorks left s.state.core → HoldsWorks left u.core) → TellsCall listens b answer r u v s.listeners m → DoesCall listens comes s r called_to
  does_call holds told = record {
    told = is_told told called_to refl refl;
    works = λ course h. subst (λ (d : Core). HoldsWorks (held_by course s) d) (sym (told_core listens b answer r u v s.listeners m told)) (holds (held_by course s) h);
    rest = refl;
  }

-- ---- What is so of the answer

module _ {A T H G : Type 0} (listens : Bool) (comes : ComesOf A) (s t : Store T H G) (r : Result A TaskError) (told : IsTold listens comes s r t) where
  pub hook_fails : HookFails s t r
  hook_fails err = ⊎_elim (λ h. absurd (h.hook_is_ok err)) (λ h. h.answers) told.heard

  pub hook_caused : HookCaused s t r
  hook_caused is = ⊎_elim (λ h. absurd (told.unfailed (sym h.answers ∙ is))) (λ h. h.failed) told.heard

  -- what it resulted in is answered, or that the hook failed
  pub answers_or_fails : (r ≡ told.answer) ⊎ (r ≡ refused_by_hook)
  answers_or_fails = ⊎_elim (λ h. inl h.answers) (λ h. inr h.answers) told.heard

-- ---- An op that is done elsewhere than at its thread's place

-- The thread did this op, which is the one that the call names.
module _ {A R T H G : Type 0} (listens : Bool) (c : Component) (o p : Op) (same : o ≡ p) (to : Result R TaskError → Result (Step A) TaskError)
    (read : OpAnswer → A) (refuses : to refused_by_hook ≡ refused_by_hook) (s : Store T H G) (u v : StateView) (m : Listeners)
    (running : IsRunningIn c s.state) (apart : is_apart p ≡ true) (b : GroupsBefore) (asks : b ≡ groups_before_call s.state)
    (answer r : Result R TaskError) (did : AnswersOp c o read s.state (to answer) u) where
  op_result : AnswersOp c p read s.state (to answer) u
  op_result = subst (λ (k : Op). AnswersOp c k read s.state (to answer) u) same did

  pub does_host_op : TellsCall listens b answer r u v s.listeners m → DoesHostOp listens c p to read s r (record s { state = v; listeners = m })
  does_host_op told = does_call listens (λ a w. AnswersOp c p read s.state (to a) w) s u v m b asks answer r op_result
      (answers_known s.state u running.number running.runs (takes_memory p) (scripted_rule_of c p s.state.core) read (to answer) op_result)
      (λ e. asked_not s.state u c running p read (to answer) op_result (ap to e ∙ refuses))
      (λ left h. asked_holds left s.state u h c running p read (to answer) apart op_result) told

-- ---- A call of a host

pub held_state : {T H G : Type 0} (s held : Store T H G) → held ≡ record s { works = held.works } → held.state ≡ s.state
held_state {T} {H} {G} s held holds = ap (λ (k : Store T H G). k.state) holds

-- The store of the call, in which a work is held, and that of its answer, once the work is settled.
module _ {T H G : Type 0} (s held m : Store T H G) (u : StateView) (holds : held ≡ record s { works = held.works })
    (settles : m ≡ record (record held { state = u }) { value = m.value; works = m.works }) where
  pub settled_state : m.state ≡ u
  settled_state = ap (λ (k : Store T H G). k.state) settles

  pub settled_listeners : m.listeners ≡ s.listeners
  settled_listeners = ap (λ (k : Store T H G). k.listeners) settles ∙ ap (λ (k : Store T H G). k.listeners) holds

  pub settled_rest : (v : StateView) (l : Listeners) → (let t : Store T H G = record m { state = v; listeners = l } in
      t ≡ record s { value = t.value; state = t.state; listeners = t.listeners; works = t.works })
  settled_rest v l =
      subst
      (λ (k : Store T H G). record k { state = v; listeners = l } ≡ record s { value = k.value; state = v; listeners = l; works = k.works })
      (sym (settles ∙ ap (λ (k : Store T H G). record (record k { state = u }) { value = m.value; works = m.works }) holds)) refl

-- nothing was held
pub unheld_rest : {T H G : Type 0} (s t : Store T H G) → t ≡ record s { works = t.works } → (v : StateView) (l : Listeners) →
    (let k : Store T H G = record t { state = v; listeners = l } in k ≡ record s { value = k.value; state = k.state; listeners = k.listeners; works = k.works })
unheld_rest {T} {H} {G} s t holds v l =
    subst (λ (k : Store T H G). record k { state = v; listeners = l } ≡ record s { value = k.value; state = v; listeners = l; works = k.works }) (sym holds) refl

-- ---- Without a hook that listens

-- the answer is that to which the call came, and the state is what it left, once it was asked which groups have ended
pub results_in : {A T H G : Type 0} (comes : ComesOf A) (P : StateView → Type 0) (s : Store T H G) (r : Result A TaskError) (t : Store T H G) → IsTold false comes s r t →
    ((v : StateView) → t.state ≡ asked v → comes r v → P (asked v)) → P t.state
results_in comes P s r t told gives = ⊎_elim
    (λ answers_ok. subst P (sym answers_ok.told.asked) (gives told.left answers_ok.told.asked (subst (λ a. comes a told.left) (sym answers_ok.answers) told.op_result)))
    (λ refuses. absurd (let hears = refuses.hears in cc)) told.heard
