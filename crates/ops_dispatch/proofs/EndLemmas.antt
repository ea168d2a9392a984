-- The end of an op that the thread's script had it do: what its rule says is done.
use Rattle.core_primitives.specs.Preferences.{preference}
use Rattle.machine_rules.proofs.CalmLemmas.{data_calm}
use Rattle.ops_guests.proofs.CalmLemmas.{calm_picks}
use Rattle.ops_guests.specs.OpResult.{PicksFirst}
use Rattle.machine_rules.specs.Ends.{exit_rule}
use Rattle.machine_rules.specs.Data.{data_rule}
use Rattle.ops_guests.proofs.DoesLemmas.{same_rest}
use Rattle.machine_data.specs.declared.op.DataOp.{DataOp}
use Rattle.ops_dispatch.proofs.StayLemmas.{same_stays}
use Rattle.ops_dispatch.proofs.RuleLemmas.{data_shows}
use Rattle.ops_dispatch.proofs.GoesLemmas.{same_goes}
use Rattle.ops_dispatch.proofs.OpLemmas.{told_names}
use Rattle.ops_dispatch.proofs.BeforeEndLemmas.{exit_unanswered}
use Rattle.ops_dispatch.specs.Fits.{calls_host, is_data_op, is_plain, op_fits}
use Rattle.ops_dispatch.specs.Continues.{DoesOp, OpGoesOn, running_of}
use Rattle.ops_dispatch.specs.Polls.{DoesPolled, MakesWork, Polls}
use Rattle.ops_dispatch.specs.Rules.{exits, rule_of}
use Rattle.ops_dispatch.specs.declared.done.Done.{Done}
use Rattle.std.proofs.Common.{ap, ap₂, inl, inr, refl, subst, sym, ◌∙◌}
use Rattle.std.specs.Option.{option_map_or}
use Rattle.std.specs.Prelude.{None, Option, Some, false, option_map, true, ℕ, ◌≡◌}
use Rattle.ops_subtasks.specs.First.{first_heard}
use Rattle.ops_subtasks.specs.Queued.{GoesOnWith}
use Rattle.machine_data.specs.Core.{Core}
use Rattle.machine_data.specs.Labels.{choice_of}
use Rattle.machine_data.specs.Maps.{Records, get}
use Rattle.machine_data.specs.Read.{op_progress_of, is_explicit}
use Rattle.machine_data.specs.declared.component.Component.{Component}
use Rattle.machine_data.specs.declared.component.HostDef.{HostDef}
use Rattle.machine_data.specs.declared.op.CallOp.TheVariants as call_op
use Rattle.machine_data.specs.declared.op.Op.{Op}
use Rattle.machine_data.specs.declared.op.Op.TheVariants as op
use Rattle.machine_data.specs.declared.op.TaskOp.TheVariants as task_op
use Rattle.machine_data.specs.declared.records.Course.TheVariants as course
use Rattle.machine_data.specs.declared.records.Work.{Work}
use Rattle.machine_data.specs.declared.statuses.HostPoll.{HostPoll}
use Rattle.ops_guests.proofs.EndedLemmas.{ended_threads, unended}
use Rattle.ops_guests.specs.OpResult.{Implements}
use Rattle.ops_guests.specs.Does.{Rule}
use Rattle.ops_guests.specs.Ended.{ended, ends_op}
use Rattle.ops_guests.specs.Stays.{StaysAfter}
use Rattle.ops_guests.specs.Steps.{label_of}
use Rattle.ops_guests.specs.Works.{KeepsTold, NamesTold}
use Rattle.ops_guests.specs.declared.op_result.OpResult.{OpResult}
use Rattle.ops_guests.specs.declared.op_result.OpResult.TheVariants as op_result
use Rattle.ops_guests.specs.declared.op_result.OpAnswer.TheVariants as op_answer
use Rattle.machine_rules.specs.Calls.{AtOnce, Failing, FirstPoll, Later}
use Rattle.machine_rules.specs.Finish.{Doer, NoAnswer, OneEvent, OneNumber, SomeHost, finish}
use Rattle.machine_rules.specs.Step.{own_script}
use Rattle.task_table.specs.declared.id.TableId.{TableId}
use Rattle.ops_dispatch.specs.Did.{DidOp}
use Rattle.task_wait.specs.declared.keys.HostTaskKey.{HostTaskKey}
use Rattle.task_wait.specs.declared.keys.ThreadKey.{ThreadKey}
use Rattle.core_primitives.specs.StateView.{StateView, Tags, on_core, thread_of, with_core, work_number}

-- ---- Which ops

pub plain_other : (o : Op) → is_plain o ≡ true → is_data_op o ≡ false
plain_other (op.Data o) e = absurd (cc)
plain_other (op.Task o) e = refl
plain_other (op.Set o) e = refl
plain_other (op.Call o) e = refl
plain_other (op.Thread o) e = refl

pub host_other : (o : Op) → calls_host o ≡ true → is_data_op o ≡ false
host_other (op.Call o) e = refl
host_other (op.Data o) e = absurd (cc)
host_other (op.Task o) e = absurd (cc)
host_other (op.Set o) e = absurd (cc)
host_other (op.Thread o) e = absurd (cc)

pub host_fits : (c : Component) (o : Op) → calls_host o ≡ true → op_fits c o ≡ true
host_fits c (op.Call (call_op.CallHost r q h)) e = refl
host_fits c (op.Call (call_op.CallSyncHost r h)) e = refl
host_fits c (op.Call (call_op.Call r q f xs)) e = absurd (cc)
host_fits c (op.Call (call_op.CallSync r f xs)) e = absurd (cc)
host_fits c (op.Call (call_op.Cancel r x)) e = absurd (cc)
host_fits c (op.Call (call_op.CancelSync r x)) e = absurd (cc)
host_fits c (op.Call (call_op.Drop x)) e = absurd (cc)
host_fits c (op.Data o) e = absurd (cc)
host_fits c (op.Task o) e = absurd (cc)
host_fits c (op.Set o) e = absurd (cc)
host_fits c (op.Thread o) e = absurd (cc)

pub not_data : (o : Op) → ((x : DataOp) → o ≡ op.Data x → ⊥) → is_data_op o ≡ false
not_data (op.Data x) none = absurd (none x refl)
not_data (op.Task x) none = refl
not_data (op.Set x) none = refl
not_data (op.Call x) none = refl
not_data (op.Thread x) none = refl

-- ---- What the end changes

-- it asks for the thread's number where an answer is due alone
ends_same : (d : Doer) (n m : ℕ) (r : OpResult) (t : Core) → (ends_op r ≡ true → n ≡ m) → ended d n r t ≡ ended d m r t
ends_same d n m (op_result.Continues l k op_answer.Nothing) t h = ap (λ (j : ℕ). finish d j NoAnswer t) (h refl)
ends_same d n m (op_result.Continues l k (op_answer.Number v)) t h = ap (λ (j : ℕ). finish d j (OneNumber v) t) (h refl)
ends_same d n m (op_result.Continues l k (op_answer.Value v)) t h = ap (λ (j : ℕ). finish d j (OneNumber v) t) (h refl)
ends_same d n m (op_result.Continues l k (op_answer.Event g)) t h = ap (λ (j : ℕ). finish d j (OneEvent g) t) (h refl)
ends_same d n m (op_result.Continues l k (op_answer.Entered j)) t h = refl
ends_same d n m (op_result.Continues l k op_answer.NoneDue) t h = refl
ends_same d n m (op_result.Stops l) t h = refl
ends_same d n m (op_result.Traps why) t h = refl
ends_same d n m (op_result.Fails i) t h = refl

module _ (d : Doer) (n : ℕ) (s v u : StateView) where
  stays_ended : (r : OpResult) → u ≡ on_core (ended d n r) v → StaysAfter r s v → StaysAfter r s u
  stays_ended (op_result.Continues l m said) e h = tt
  stays_ended (op_result.Stops l) e h = tt
  stays_ended (op_result.Traps why) e h = e ∙ h
  stays_ended (op_result.Fails i) e h = e ∙ h

  goes_ended : (r : OpResult) → u ≡ on_core (ended d n r) v → OpGoesOn r v → OpGoesOn r u
  goes_ended (op_result.Continues l m said) e h = (ap running_of e ∙ h.0, h.1)
  goes_ended (op_result.Stops l) e h = h
  goes_ended (op_result.Traps why) e h = tt
  goes_ended (op_result.Fails i) e h = tt

-- what is said of the work that was made holds whatever becomes of the threads
module _ (v u : StateView) (works : u.core.works ≡ v.core.works) (tags : u.tags ≡ v.tags) where
  goes_with : (p : FirstPoll) (o : Option (TableId HostTaskKey)) → GoesOnWith p o v → GoesOnWith p o u
  goes_with (Later left) (Some id) h = ap₂ (λ (g : Tags) (m : Records Work). option_map_or (λ (w : Work). w.course) (get m (work_number g id)) course.NoValue) tags works ∙ h
  goes_with (Later left) None h = tt
  goes_with (AtOnce value) o h = tt
  goes_with Failing o h = tt

  makes_work : (answer : HostPoll) (host : Option HostDef) (o : Option (TableId HostTaskKey)) → MakesWork answer host o v → MakesWork answer host o u
  makes_work answer None o h = tt
  makes_work answer (Some host) o h = goes_with (first_heard host answer) o h

-- ---- The op is ended by whoever had it done

module _ (AreKept : StateView → StateView → Type 0) (rule : Rule) (d : Doer) (id : TableId ThreadKey) (s v u : StateView) (r : OpResult) (did : DoesOp AreKept rule id s r v) (over : u ≡ on_core (ended d (thread_of v id) r) v) where
  abbrev number : ℕ
  number = thread_of s id

  is_ended : u ≡ on_core (ended d number r) v
  is_ended = over ∙ ap (λ (x : Core). with_core x v) (ends_same d (thread_of v id) number r v.core did.named)

  threads_alone : u ≡ with_core (record v.core { threads = (ended d number r v.core).threads }) v
  threads_alone = is_ended ∙ ap (λ (x : Core). with_core x v) (ended_threads d number r v.core)

  pub end_implements : Implements (rule d number (choice_of (label_of number r)) s.core) s.core r u.core
  end_implements = subst (λ (x : Core). Implements (rule d number (choice_of (label_of number r)) s.core) s.core r x) (sym (ap (λ (w : StateView). w.core) is_ended)) (did.implements d)

  pub end_picks : PicksFirst (preference s) (rule d number (choice_of (label_of number r)) s.core) (label_of number r) s.core r u.core
  end_picks = subst (λ (x : Core). PicksFirst (preference s) (rule d number (choice_of (label_of number r)) s.core) (label_of number r) s.core r x) (sym (ap (λ (w : StateView). w.core) is_ended)) (did.picks d)

  pub end_stays : StaysAfter r s u
  end_stays = stays_ended d number s v u r is_ended did.stays

  pub end_goes : OpGoesOn r u
  end_goes = goes_ended d number s v u r is_ended did.goes

  pub end_works : NamesTold s v → NamesTold s u
  end_works h = subst (λ (w : StateView). NamesTold s w) (sym threads_alone) h

  end_kept : u.core.works ≡ v.core.works
  end_kept = ap (λ (w : StateView). w.core.works) threads_alone

  end_tags : u.tags ≡ v.tags
  end_tags = ap (λ (w : StateView). w.tags) threads_alone

-- so is one that may have polled a host, by the thread's script
module _ (answer : HostPoll) (c : Component) (o : Op) (id : TableId ThreadKey) (s v u : StateView) (done : Done) (did : DoesPolled answer c o id s done v) (over : u ≡ on_core (ended (own_script o) (thread_of v id) done.op_result) v) where
  end_polls : Polls answer c (op_progress_of (thread_of s id) s.core) o s done u
  end_polls =
      let works = end_kept NamesTold (rule_of c o) (own_script o) id s v u done.op_result did.does over in
      let tags = end_tags NamesTold (rule_of c o) (own_script o) id s v u done.op_result did.does over in
      let p = did.polls in
      record {
        polled = p.polled;
        work = ap (λ (g : Tags). option_map (λ (i : TableId HostTaskKey). work_number g i) done.work) tags ∙ p.work;
        course = makes_work v u works tags answer done.polled done.work p.course;
        none = λ e. elim (p.none e) [
          | inl none ↦ inl none
          | inr same ↦ inr (works ∙ same)
        ];
      }

  pub end_op : DidOp answer c o id s done u
  end_op = record {
    implements = end_implements NamesTold (rule_of c o) (own_script o) id s v u done.op_result did.does over;
    picks = end_picks NamesTold (rule_of c o) (own_script o) id s v u done.op_result did.does over;
    goes = end_goes NamesTold (rule_of c o) (own_script o) id s v u done.op_result did.does over;
    stays = end_stays NamesTold (rule_of c o) (own_script o) id s v u done.op_result did.does over;
    polls = end_polls;
    works = end_works NamesTold (rule_of c o) (own_script o) id s v u done.op_result did.does over did.does.kept;
  }

-- ---- At a script's end

-- an exit leaves nothing to end
pub exit_implements : (id : TableId ThreadKey) (s t : StateView) (r : OpResult) → DoesOp KeepsTold exits id s r t → Implements (exit_rule (thread_of s id) (choice_of (label_of (thread_of s id) r)).woken s.core) s.core r t.core
exit_implements id s t r did =
    let n = thread_of s id in
    let w = (choice_of (label_of n r)).woken in
    let p = exit_rule n w s.core in
    let met = did.implements SomeHost in
    subst (λ (x : Core). Implements p s.core r x) (unended p s.core r (ended SomeHost n r t.core) (exit_unanswered n w s.core (is_explicit n s.core)) met SomeHost n t.core) met

pub exit_picks : (id : TableId ThreadKey) (s t : StateView) (r : OpResult) → DoesOp KeepsTold exits id s r t → PicksFirst (preference s) (exit_rule (thread_of s id) (choice_of (label_of (thread_of s id) r)).woken s.core) (label_of (thread_of s id) r) s.core r t.core
exit_picks id s t r did =
    let n = thread_of s id in
    let w = (choice_of (label_of n r)).woken in
    let p = exit_rule n w s.core in
    subst (λ (x : Core). PicksFirst (preference s) p (label_of n r) s.core r x) (unended p s.core r (ended SomeHost n r t.core) (exit_unanswered n w s.core (is_explicit n s.core)) (did.implements SomeHost) SomeHost n t.core) (did.picks SomeHost)

-- it did the op that represents the end, which polls no host
pub exit_op : (answer : HostPoll) (c : Component) (id : TableId ThreadKey) (s t : StateView) (r : OpResult) → DoesOp KeepsTold exits id s r t
    → DidOp answer c (op.Task task_op.Exit) id s (record { op_result = r; polled = None; work = None }) t
exit_op answer c id s t r did = record {
  implements = exit_implements id s t r did;
  picks = exit_picks id s t r did;
  goes = did.goes;
  stays = did.stays;
  polls = record { polled = refl; work = refl; course = tt; none = λ e. inl refl };
  works = told_names s t did.kept;
}

-- ---- On registers and memory cells

pub data_op : (answer : HostPoll) (c : Component) (o : DataOp) (id : TableId ThreadKey) (s t : StateView) (r : OpResult) → s.current ≡ Some id → Implements (data_rule c (thread_of s id) s.core o) s.core r t.core → t.tags ≡ s.tags → t.current ≡ s.current
    → DidOp answer c (op.Data o) id s (record { op_result = r; polled = None; work = None }) t
data_op answer c o id s t r runs implements tags current = record {
  implements = implements;
  picks = calm_picks (preference s) (thread_of s id) (data_rule c (thread_of s id) s.core o) s.core r t.core (data_calm c (thread_of s id) s.core o) implements;
  goes = same_goes id (data_rule c (thread_of s id) s.core o) s t r (data_shows c (thread_of s id) s.core o) implements runs tags current;
  stays = same_stays (data_rule c (thread_of s id) s.core o) s t r implements tags current;
  polls = record { polled = refl; work = refl; course = tt; none = λ e. inl refl };
  works = told_names s t (same_rest s t (tags, current)).0;
}
