-- The running thread's ops, from what they did.
use Rattle.ops_dispatch.proofs.GoesLemmas.{RuleShows, does_op, same_op}
use Rattle.ops_dispatch.proofs.RuleLemmas.{ShowsAs, StopsAs, if_traps, stops_goes}
use Rattle.ops_dispatch.proofs.SubtaskRules.{IsQuiet, anybody}
use Rattle.ops_dispatch.specs.Continues.{DoesOp, OpGoesOn}
use Rattle.std.proofs.Common.{ap, arith, inl, inr, refl, subst, sym, ◌∙◌}
use Rattle.std.specs.Prelude.{Bool, None, Option, Some, false, not, option_map, true, ℕ, ◌<◌, ◌==◌, ◌≡◌}
use Rattle.machine_data.specs.Core.{Core}
use Rattle.machine_data.specs.Labels.{Choice, choice_of}
use Rattle.machine_data.specs.Moves.{passes_check}
use Rattle.machine_data.specs.Read.{instance_of}
use Rattle.machine_data.specs.declared.component.ExportKind.{ExportKind}
use Rattle.machine_data.specs.declared.component.ExportKind.TheVariants as kind
use Rattle.machine_data.specs.declared.trap.Trap.{Trap}
use Rattle.machine_data.specs.declared.trap.Trap.TheVariants as trap
use Rattle.core_primitives.specs.Preferences.{preference}
use Rattle.machine_rules.proofs.CalmLemmas.{trap_if_calm}
use Rattle.machine_data.specs.Labels.{exit_label}
use Rattle.machine_data.specs.Moves.{passes_check}
use Rattle.machine_data.specs.Read.{instance_of}
use Rattle.machine_rules.specs.Ends.{leaves_no_result, thread_exit_rule}
use Rattle.machine_rules.specs.Picks.{LeavesNoChoice, Silent}
use Rattle.ops_guests.proofs.CalmLemmas.{picks_implements}
use Rattle.ops_guests.proofs.DoesLemmas.{IsCalm, calm_as, does_rule, same_rest}
use Rattle.ops_guests.proofs.EndedLemmas.{IsUnanswered, implements_ended, undue, unended}
use Rattle.ops_subtasks.specs.Named.{LosesCall, LosesWork}
use Rattle.machine_data.specs.Maps.{get}
use Rattle.ops_guests.specs.OpResult.{IsCurrent, Implements, PicksFirst}
use Rattle.ops_guests.specs.Does.{DoesRule, KeepsNames, KeepsTags, Rule, SameNames}
use Rattle.ops_guests.specs.Ended.{ended}
use Rattle.ops_guests.specs.Stays.{StaysAfter}
use Rattle.ops_guests.specs.Steps.{label_of}
use Rattle.ops_guests.specs.Works.{KeepsTold, NamesTold}
use Rattle.ops_guests.specs.declared.op_result.OpResult.{OpResult}
use Rattle.ops_guests.specs.declared.op_result.OpResult.TheVariants as op_result
use Rattle.machine_rules.proofs.StandLemmas.{by_number, eq_refl}
use Rattle.machine_rules.specs.Ends.{direct_exit_to}
use Rattle.machine_rules.specs.Finish.{Doer, SomeHost}
use Rattle.machine_rules.specs.Outcome.{outcome_of_label}
use Rattle.machine_rules.specs.Progress.{Asks, Fails, Continues, Never, OneOf, Ordered, Progress, Stops, Traps, trap_if}
use Rattle.task_table.specs.declared.id.TableId.{TableId}
use Rattle.task_wait.specs.declared.keys.ThreadKey.{ThreadKey}
use Rattle.core_primitives.specs.StateView.{KeepsBut, Lost, StateView, lost_call, thread_of, work_of}

-- ---- No name is changed

-- the op of the running thread did its rule, which shows so
pub told_op : (rule : Rule) (id : TableId ThreadKey) (s t : StateView) (r : OpResult) → RuleShows rule id s r → s.current ≡ Some id → DoesRule SameNames rule id s r t → DoesOp KeepsTold rule id s r t
told_op rule id s t r shows runs did = same_op KeepsTold rule id s t r shows runs did (same_rest s t did.kept).0

-- the same, where its rule has another name
pub told_as : (rule other : Rule) (id : TableId ThreadKey) (s t : StateView) (r : OpResult) → RuleShows other id s r → s.current ≡ Some id → DoesRule SameNames rule id s r t
    → ((d : Doer) (ch : Choice) → other d (thread_of s id) ch s.core ≡ rule d (thread_of s id) ch s.core) → DoesOp KeepsTold other id s r t
told_as rule other id s t r shows runs did alike = told_op other id s t r shows runs (does_rule SameNames rule other id s t r did alike)

-- what is said of all names holds of those of works, whether or not one may be gone
pub told_names : (s t : StateView) → KeepsTold s t → NamesTold s t
told_names s t k = ((λ id live. inl (k.0 id live)), k.1)

pub named_op : (rule : Rule) (id : TableId ThreadKey) (s t : StateView) (r : OpResult) → DoesOp KeepsTold rule id s r t → DoesOp NamesTold rule id s r t
named_op rule id s t r did = record { implements = did.implements; picks = did.picks; named = did.named; goes = did.goes; stays = did.stays; kept = told_names s t did.kept }

-- each id that named something names it still
pub tags_told : (s t : StateView) → KeepsTags s t → KeepsTold s t
tags_told s t k = ((λ id live. k.works id live), k.same)

-- an op that makes something, of a thread that is there
pub names_op : (rule other : Rule) (id : TableId ThreadKey) (s t : StateView) (r : OpResult) → 0 < thread_of s id → RuleShows other id s r → s.current ≡ Some id → DoesRule KeepsNames rule id s r t
    → ((d : Doer) (ch : Choice) → other d (thread_of s id) ch s.core ≡ rule d (thread_of s id) ch s.core) → DoesOp KeepsTold other id s r t
names_op rule other id s t r live shows runs did alike =
    does_op KeepsTold other id s t r shows runs KeepsNames (does_rule KeepsNames rule other id s t r did alike) (tags_told s t did.kept.0) did.kept.1 (did.kept.0.threads id live)

-- a rule shows what another one shows that is the same
pub shows_alike : (rule other : Rule) (id : TableId ThreadKey) (s : StateView) (r : OpResult) → ((d : Doer) (ch : Choice) → other d (thread_of s id) ch s.core ≡ rule d (thread_of s id) ch s.core) → RuleShows rule id s r → RuleShows other id s r
shows_alike rule other id s r alike shows = subst (λ (p : Progress). ShowsAs (thread_of s id) p) (sym (alike SomeHost (choice_of (label_of (thread_of s id) r)))) shows

-- an op that kept what it names and who is current
pub alike_op : (WasKept AreKept : StateView → StateView → Type 0) (rule other : Rule) (id : TableId ThreadKey) (s t : StateView) (r : OpResult) → RuleShows rule id s r → s.current ≡ Some id → t.current ≡ s.current → thread_of t id ≡ thread_of s id → (WasKept s t → AreKept s t)
    → ((d : Doer) (ch : Choice) → other d (thread_of s id) ch s.core ≡ rule d (thread_of s id) ch s.core) → DoesRule WasKept rule id s r t → DoesOp AreKept other id s r t
alike_op WasKept AreKept rule other id s t r shows runs current name kept alike did =
    does_op AreKept other id s t r (shows_alike rule other id s r alike shows) runs WasKept (does_rule WasKept rule other id s t r did alike) (kept did.kept) current name

-- ---- A name may be gone

nought : (k j : ℕ) → j ≡ 0 → 0 < k → k ≡ j → ⊥
nought k j zero live e = none (subst (λ (i : ℕ). 0 < i) (e ∙ zero) live)
  where
    none : ◌<◌ 0 0 → ⊥
    none h = omega (arith, h)

-- of no work
pub but_told : (l : Lost) (s t : StateView) → l.work ≡ 0 → KeepsBut l s.tags t.tags → KeepsTold s t
but_told l s t zero k = ((λ id live. k.works id (nought (work_of s id) l.work zero live)), k.same)

pub call_told : (i : ℕ) (s t : StateView) → LosesCall i s t → KeepsTold s t
call_told i s t k = but_told (lost_call i) s t refl k.0

-- of a work that is gone
pub work_told : (i : ℕ) (s t : StateView) → get t.core.works i ≡ None → LosesWork i s t → NamesTold s t
work_told i s t gone k = ((λ id live. by_number (work_of s id) i _ (λ e. inr (ap (get t.core.works) e ∙ gone)) (λ other. inl (k.0.works id (λ e. absurd (let d = sym other ∙ (ap (λ (j : ℕ). j == i) e ∙ eq_refl i) in cc))))), k.0.same)

-- a call of a host, whose rule has asked what the host answers
pub asked_op : (own rule : Rule) (id : TableId ThreadKey) (s t : StateView) (r : OpResult) → RuleShows own id s r → s.current ≡ Some id → 0 < thread_of s id → DoesRule KeepsNames own id s r t
    → ((d : Doer) → Implements (rule d (thread_of s id) (choice_of (label_of (thread_of s id) r)) s.core) s.core r (ended d (thread_of s id) r t.core)) → IsCalm rule id s r → DoesOp NamesTold rule id s r t
asked_op own rule id s t r shows runs live did implements calm =
    let o = does_op NamesTold own id s t r shows runs KeepsNames did (told_names s t (tags_told s t did.kept.0)) did.kept.1 (did.kept.0.threads id live) in
    record { implements = implements; picks = calm_as rule id s t r calm implements; named = o.named; goes = o.goes; stays = o.stays; kept = o.kept }

-- ---- By another name of the rule

module _ (AreKept : StateView → StateView → Type 0) (rule other : Rule) (id : TableId ThreadKey) (s t : StateView) (r : OpResult) where
  pub scripted_op_rule : DoesOp AreKept rule id s r t → ((d : Doer) → other d (thread_of s id) (choice_of (label_of (thread_of s id) r)) s.core ≡ rule d (thread_of s id) (choice_of (label_of (thread_of s id) r)) s.core) → DoesOp AreKept other id s r t
  scripted_op_rule did alike = record {
    implements = λ d. subst (λ (p : Progress). Implements p s.core r (ended d (thread_of s id) r t.core)) (sym (alike d)) (did.implements d);
    picks = λ d. subst (λ (p : Progress). PicksFirst (preference s) p (label_of (thread_of s id) r) s.core r (ended d (thread_of s id) r t.core)) (sym (alike d)) (did.picks d);
    named = did.named;
    goes = did.goes;
    stays = did.stays;
    kept = did.kept;
  }

-- ---- Ends of threads and of activations

-- a rule after which no thread goes on answers nothing
pub stops_unanswered : (p : Progress) → StopsAs p → IsUnanswered p
stops_unanswered (Continues l new m) h = absurd h.0
stops_unanswered (Stops l new) h = tt
stops_unanswered (Traps why) h = tt
stops_unanswered (Fails i) h = tt
stops_unanswered Never h = tt
stops_unanswered (Ordered ns next) h = λ order. stops_unanswered (next order) (h order)
stops_unanswered (OneOf ns next) h = λ m. stops_unanswered (next m) (h m)
stops_unanswered (Asks next) h = λ answer. stops_unanswered (next answer) (h answer)

-- the rule is the same whoever has it done
module _ (p : Progress) (id : TableId ThreadKey) (s t : StateView) (r : OpResult) (picks : PicksFirst (preference s) p (label_of (thread_of s id) r) s.core r t.core) (stays : StaysAfter r s t) (kept : KeepsTold s t) where
  implements : Implements p s.core r t.core
  implements = picks_implements picks

  pub rule_op : IsUnanswered p → OpGoesOn r t → DoesOp KeepsTold (λ d n ch c. p) id s r t
  rule_op none goes = record {
    implements = λ d. implements_ended p s.core r t.core none implements d (thread_of s id);
    picks = λ d. subst (λ (u : Core). PicksFirst (preference s) p (label_of (thread_of s id) r) s.core r u) (sym (unended p s.core r t.core none implements d (thread_of s id) t.core)) picks;
    named = λ due. absurd (let e = undue p s.core r t.core none implements in let h = sym e ∙ due in cc);
    goes = goes;
    stays = stays;
    kept = kept;
  }

  pub stops_op : StopsAs p → DoesOp KeepsTold (λ d n ch c. p) id s r t
  stops_op stops = rule_op (stops_unanswered p stops) (stops_goes t p s.core r t.core stops implements)

-- the exit of a thread leaves no choice
pub thread_exit_calm : (n : ℕ) (s : Core) → LeavesNoChoice (thread_exit_rule n s)
thread_exit_calm n s = trap_if_calm (not (passes_check (instance_of n s) s)) _ _ (trap_if_calm (leaves_no_result n s) _ _ silent)
  where
    silent : Silent (exit_label n None)
    silent = (refl, refl)

-- ---- The end of a direct call

trap_unanswered : (b : Bool) (why : Trap) (p : Progress) → IsUnanswered p → IsUnanswered (trap_if b why p)
trap_unanswered true why p h = tt
trap_unanswered false why p h = h

pub direct_unanswered : (n : ℕ) (x : ExportKind) (s : Core) (o : Option ℕ) → IsUnanswered (direct_exit_to n x s o)
direct_unanswered n x s None = tt
direct_unanswered n kind.Sync s (Some m) = refl
direct_unanswered n kind.Blocking s (Some m) = trap_unanswered (not (passes_check (instance_of n s) s)) trap.CannotBlockSyncTask _ refl
direct_unanswered n kind.Stackful s (Some m) = trap_unanswered (not (passes_check (instance_of n s) s)) trap.CannotBlockSyncTask _ refl
direct_unanswered n kind.Callback s (Some m) = trap_unanswered (not (passes_check (instance_of n s) s)) trap.CannotBlockSyncTask _ refl

-- a label that it shows gives no outcome
quiet_trap : (b : Bool) (why : Trap) (p : Progress) → IsQuiet p → IsQuiet (trap_if b why p)
quiet_trap b why p h = if_traps anybody b why p h

pub direct_quiet : (n : ℕ) (x : ExportKind) (s : Core) (o : Option ℕ) → IsQuiet (direct_exit_to n x s o)
direct_quiet n x s None = tt
direct_quiet n kind.Sync s (Some m) = (tt, refl)
direct_quiet n kind.Blocking s (Some m) = quiet_trap (not (passes_check (instance_of n s) s)) trap.CannotBlockSyncTask _ (tt, refl)
direct_quiet n kind.Stackful s (Some m) = quiet_trap (not (passes_check (instance_of n s) s)) trap.CannotBlockSyncTask _ (tt, refl)
direct_quiet n kind.Callback s (Some m) = quiet_trap (not (passes_check (instance_of n s) s)) trap.CannotBlockSyncTask _ (tt, refl)

-- what came of a rule that shows so gives no outcome
abbrev pub CameQuiet : OpResult → Type 0
CameQuiet (op_result.Continues l m said) = outcome_of_label l ≡ None
CameQuiet (op_result.Stops l) = outcome_of_label l ≡ None
CameQuiet _ = Unit {0}

came_quiet : (p : Progress) (s : Core) (r : OpResult) (t : Core) → IsQuiet p → Implements p s r t → CameQuiet r
came_quiet (Continues l new m) s r t g h = subst CameQuiet (sym h.0) g.1
came_quiet (Stops l new) s r t g h = subst CameQuiet (sym h.0) g
came_quiet (Traps why) s r t g h = subst CameQuiet (sym h.0) tt
came_quiet (Fails i) s r t g h = subst CameQuiet (sym h.0) tt
came_quiet Never s r t g h = absurd h
came_quiet (Ordered ns next) s r t g h = came_quiet (next h.0) s r t (g h.0) h.1.1
came_quiet (OneOf ns next) s r t g h = came_quiet (next h.0) s r t (g h.0) h.1.1
came_quiet (Asks next) s r t g h = came_quiet (next h.0) s r t (g h.0) h.1

-- so whoever is current then goes on
current_goes : (r : OpResult) (t : StateView) → CameQuiet r → IsCurrent r t → OpGoesOn r t
current_goes (op_result.Continues l m said) t quiet runs = (ap (option_map (λ id. thread_of t id)) runs.1.0 ∙ ap (λ (k : ℕ). Some k) runs.1.1, quiet)
current_goes (op_result.Stops l) t quiet runs = quiet
current_goes (op_result.Traps why) t quiet runs = tt
current_goes (op_result.Fails i) t quiet runs = tt

pub quiet_goes : (p : Progress) (s : Core) (r : OpResult) (u : Core) (t : StateView) → IsQuiet p → Implements p s r u → IsCurrent r t → OpGoesOn r t
quiet_goes p s r u t g h runs = current_goes r t (came_quiet p s r u g h) runs

-- ---- An op that makes something

-- it did what its rule says, and each id that named something names it still
pub made_op : (rule : Rule) (id : TableId ThreadKey) (s t : StateView) (r : OpResult) → 0 < thread_of s id → OpGoesOn r t → DoesRule KeepsTags rule id s r t → DoesOp KeepsTold rule id s r t
made_op rule id s t r live goes did = record { implements = did.implements; picks = did.picks; named = λ due. did.kept.threads id live; goes = goes; stays = did.stays; kept = tags_told s t did.kept }
