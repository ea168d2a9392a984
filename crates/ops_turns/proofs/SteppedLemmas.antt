-- Steps whose labels are in the trace.
use Rattle.ops_dispatch.specs.Fits.{calls_host}
use Rattle.ops_dispatch.specs.Polls.{polled_host}
use Rattle.std.proofs.Common.{ap, refl, subst, sym, ◌∙◌}
use Rattle.std.specs.Prelude.{Bool, Err, IfOk, IfSome, List, None, Ok, OnErr, Option, Result, Some, [], false, is_none, is_some, option_map, true, ℕ, ◌+◌, ◌++◌, ◌<◌, ◌≡◌, ◌≤◌, ◌∷◌}
use Rattle.machine_data.specs.Core.{Main, State}
use Rattle.machine_data.specs.Labels.{choice_of}
use Rattle.machine_data.specs.Moves.{why_of}
use Rattle.machine_data.specs.Read.{op_progress_of, next_entry, place_of}
use Rattle.machine_data.specs.declared.component.Component.{Component}
use Rattle.machine_data.specs.declared.component.HostDef.{HostDef}
use Rattle.machine_data.specs.declared.label.Label.{Label}
use Rattle.machine_data.specs.declared.label.Label.TheVariants as label
use Rattle.machine_data.specs.declared.label.TakeLabel.TheVariants as take_label
use Rattle.machine_data.specs.declared.memory.NoMemory.{NoMemory}
use Rattle.machine_data.specs.declared.op.Op.{Op}
use Rattle.machine_data.specs.declared.outcome.Outcome.{Outcome}
use Rattle.machine_data.specs.declared.outcome.Outcome.TheVariants as outcome
use Rattle.machine_data.specs.declared.records.Entry.TheVariants as entry
use Rattle.machine_data.specs.declared.records.Turn.{Turn}
use Rattle.machine_data.specs.declared.records.Turn.TheVariants as turn
use Rattle.machine_data.specs.Write.{set_high, set_low, set_switch}
use Rattle.machine_data.specs.declared.statuses.Mark.{Mark}
use Rattle.machine_data.specs.declared.statuses.Mark.TheVariants as marks
use Rattle.core_primitives.specs.Preferences.{preference}
use Rattle.machine_rules.specs.Picks.{Picks, Preference}
use Rattle.ops_guests.proofs.CalmLemmas.{picks_implements}
use Rattle.ops_guests.specs.OpResult.{Implements, PicksFirst}
use Rattle.ops_guests.specs.Stays.{StaysAfter}
use Rattle.ops_guests.specs.Steps.{label_of}
use Rattle.ops_guests.specs.declared.op_result.OpResult.{OpResult}
use Rattle.ops_guests.specs.declared.op_result.OpResult.TheVariants as op_result
use Rattle.machine_rules.specs.Outcome.{last_outcome, outcome_of_label}
use Rattle.machine_rules.specs.Progress.{Progress}
use Rattle.machine_rules.specs.Scripts.{op_of}
use Rattle.machine_rules.specs.Stalled.{Setting}
use Rattle.machine_rules.specs.Step.{Step, did, scripted_op_rule}
use Rattle.machine_rules.specs.Takes.{scripted_host_rule, popped, pushed, thread_taken}
use Rattle.task_table.specs.declared.id.TableId.{TableId}
use Rattle.machine_data.specs.declared.statuses.HostPoll.{HostPoll}
use Rattle.ops_turns.proofs.DriveLemmas.{last_outcome-push, on_ends, on_more, on_turned_none}
use Rattle.ops_turns.proofs.IdleLemmas.{after_free, free_at}
use Rattle.ops_turns.proofs.RunLemmas.{host_over, host_picks, label_same, picked_at, push_picks, ran_at, took, took_host, took_picks, took_push}
use Rattle.ops_turns.specs.Drive.{Drove, IsOn}
use Rattle.ops_dispatch.specs.Makes.{takes_memory}
use Rattle.ops_turns.specs.Ran.{OpMade, WantsFor, WantsMemory, WorkMade, scripted_rule_of}
use Rattle.ops_turns.specs.StepResult.{Added, AddedOrNone, CallStepped, IsFull, MatchStep, OpPolls, OpShown, OpStep, RuleRan, RuleShown, RunMade, RunStepped, Shown, is_made, made_by, turn_of}
use Rattle.ops_turns.specs.Turn.{IsFree, MakesStep, Turned, Turns, is_open, running_of, runs_in, state_at}
use Rattle.ops_turns.specs.declared.made.MadeStep.{MadeStep}
use Rattle.ops_turns.specs.declared.made.StepResult.{StepResult}
use Rattle.ops_turns.specs.declared.made.StepResult.TheVariants as stepped
use Rattle.task_wait.specs.declared.keys.HostTaskKey.{HostTaskKey}
use Rattle.task_wait.specs.declared.keys.ThreadKey.{ThreadKey}
use Rattle.core_primitives.specs.Names.{entry_in}
use Rattle.core_primitives.specs.StateView.{StateView, on_core, thread_of, work_of}
use Rattle.core_primitives.specs.declared.names.EntryId.{EntryId}

pub added_as : (P Q : MadeStep → Type 0) (stepped : StepResult) (before after : List Label) → ((made : MadeStep) → P made → Q made) → Added P stepped before after → Added Q stepped before after
added_as P Q stepped before after f h = (h.0, (h.1.0, f h.0 h.1.1))

-- ---- Whether a step was made

-- one was, where nothing says why not
pub made_else : (q : StepResult) → (q ≡ stepped.Nothing → ⊥) → (q ≡ stepped.Full → ⊥) → (q ≡ stepped.HookFailed → ⊥) → is_made q ≡ true
made_else stepped.Nothing some room hook = absurd (some refl)
made_else stepped.Full some room hook = absurd (room refl)
made_else stepped.HookFailed some room hook = absurd (hook refl)
made_else _ some room hook = refl

-- it is no more main's turn than another's
pub over_else : (q : StepResult) → (q ≡ stepped.Main → ⊥) → ((n : ℕ) → q ≡ stepped.Polls n → ⊥) → (q ≡ stepped.Takes → ⊥) → (q ≡ stepped.TakesEnded → ⊥) → ((n : ℕ) → q ≡ stepped.Runs n → ⊥) → ((n : ℕ) → q ≡ stepped.Computes n → ⊥) → turn.Over ≡ turn_of q
over_else stepped.Main main polls takes ended runs computes = absurd (main refl)
over_else (stepped.Polls n) main polls takes ended runs computes = absurd (polls n refl)
over_else stepped.Takes main polls takes ended runs computes = absurd (takes refl)
over_else stepped.TakesEnded main polls takes ended runs computes = absurd (ended refl)
over_else (stepped.Runs n) main polls takes ended runs computes = absurd (runs n refl)
over_else (stepped.Computes n) main polls takes ended runs computes = absurd (computes n refl)
over_else _ main polls takes ended runs computes = refl

-- one was, where it isn't out of memory
pub made_if : {before after : List Label} (q : StepResult) → (is_made q ≡ false → IsFull q before after) → (q ≡ stepped.Full → ⊥) → is_made q ≡ true
made_if q full room = by (is_made q) refl
  where
    by : (b : Bool) → is_made q ≡ b → is_made q ≡ true
    by true e = e
    by false e = absurd (room (full e).0)

-- then it is none of the others
pub made_some : (q : StepResult) → is_made q ≡ true → q ≡ stepped.Nothing → ⊥
made_some q made is = let no = sym made ∙ ap is_made is in cc

pub made_room : (q : StepResult) → is_made q ≡ true → q ≡ stepped.Full → ⊥
made_room q made is = let no = sym made ∙ ap is_made is in cc

pub made_hook : (q : StepResult) → is_made q ≡ true → q ≡ stepped.HookFailed → ⊥
made_hook q made is = let no = sym made ∙ ap is_made is in cc

-- the run goes on after it, if it isn't over
pub made_open : (q : StepResult) → is_made q ≡ true → (q ≡ stepped.Over → ⊥) → is_open (turn_of q) ≡ true
made_open stepped.Nothing made more = absurd (cc)
made_open stepped.Full made more = absurd (cc)
made_open stepped.HookFailed made more = absurd (cc)
made_open stepped.Over made more = absurd (more refl)
made_open _ made more = refl

pub match_then : {M N F H M' N' F' H' : Type 0} (q : StepResult) → (is_made q ≡ true → M → M') → (q ≡ stepped.Nothing → N → N') → (F → F') → (H → H') → MatchStep M N F H q → MatchStep M' N' F' H' q
match_then q made nothing full failed h = record { made = λ e. made e (h.made e); nothing = λ e. nothing e (h.nothing e); full = λ e. full (h.full e); failed = λ e. failed (h.failed e) }

pub of_made : {M N F H : Type 0} (q : StepResult) → is_made q ≡ true → M → MatchStep M N F H q
of_made q made h = record { made = λ e. h; nothing = λ e. absurd (made_some q made e); full = λ e. absurd (made_room q made e); failed = λ e. absurd (made_hook q made e) }

-- an error of which more is so
pub err_then : {X E P Q : Type 0} (r : Result X E) → (P → Q) → OnErr r P → OnErr r Q
err_then (Ok x) f h = tt
err_then (Err e) f h = f h

pub of_nothing : {M N F H : Type 0} → N → MatchStep M N F H stepped.Nothing
of_nothing h = record { made = λ e. absurd (cc); nothing = λ e. h; full = λ e. absurd (cc); failed = λ e. absurd (cc) }

pub of_lost : {M N F H : Type 0} → F → MatchStep M N F H stepped.Full
of_lost h = record { made = λ e. absurd (cc); nothing = λ e. absurd (cc); full = λ e. h; failed = λ e. absurd (cc) }

pub of_failed : {M N F H : Type 0} → H → MatchStep M N F H stepped.HookFailed
of_failed h = record { made = λ e. absurd (cc); nothing = λ e. absurd (cc); full = λ e. absurd (cc); failed = λ e. h }

-- one was made, or it is out of memory
pub of_full : {M N F H : Type 0} {before after : List Label} (q : StepResult) → (is_made q ≡ true → M) → (is_made q ≡ false → IsFull q before after) → (after ≡ before → F) → MatchStep M N F H q
of_full q made full lost = record {
  made = made;
  nothing = λ e. absurd (let no = sym e ∙ (full (ap is_made e)).0 in cc);
  full = λ e. lost (full (ap is_made e)).1;
  failed = λ e. absurd (let no = sym e ∙ (full (ap is_made e)).0 in cc);
}

-- the same, where more is so of one for which memory lacked
pub of_wants : {M N F H : Type 0} {before after : List Label} (q : StepResult) → (is_made q ≡ true → M) → (is_made q ≡ false → IsFull q before after × F) → MatchStep M N (F × (after ≡ before)) H q
of_wants q made full = record {
  made = made;
  nothing = λ e. absurd (let no = sym e ∙ (full (ap is_made e)).0.0 in cc);
  full = λ e. let h = full (ap is_made e) in (h.1, h.0.1);
  failed = λ e. absurd (let no = sym e ∙ (full (ap is_made e)).0.0 in cc);
}

-- one was made, where no hook was told
pub made_told : {M N F : Type 0} (q : StepResult) → (q ≡ stepped.Nothing → ⊥) → (q ≡ stepped.Full → ⊥) → MatchStep M N F ⊥ q → is_made q ≡ true
made_told q some room h = made_else q some room h.failed

-- it is out of memory, where none was made
pub full_told : {M N : Type 0} {before after : List Label} (q : StepResult) → (q ≡ stepped.Nothing → ⊥) → is_made q ≡ false → MatchStep M N (after ≡ before) ⊥ q → IsFull q before after
full_told stepped.Nothing some unmade h = absurd (some refl)
full_told stepped.Full some unmade h = (refl, h.full refl)
full_told stepped.HookFailed some unmade h = absurd (h.failed refl)
full_told _ some unmade h = absurd (cc)

pub none_as : (P Q : Option MadeStep → Type 0) (q : StepResult) (before after : List Label) → ((made : Option MadeStep) → P made → Q made) → AddedOrNone P q before after → AddedOrNone Q q before after
none_as P Q q before after f h = record {
  made = λ e. added_as (λ made. P (Some made)) (λ made. Q (Some made)) q before after (λ made. f (Some made)) (h.made e);
  nothing = λ e. (f None (h.nothing e).0, (h.nothing e).1);
  full = h.full;
  failed = h.failed;
}

-- ---- A step of the running thread

module _ (id : TableId ThreadKey) (s t : StateView) (stepped : StepResult) (before after : List Label) where
  pub rule_as : (P Q : OpResult → Progress) → ((r : OpResult) → P r ≡ Q r) → RuleShown P id s before stepped t after → RuleShown Q id s before stepped t after
  rule_as P Q same h = record {
    op_result = h.op_result;
    left = h.left;
    implements = subst (λ (p : Progress). Implements p s.core h.op_result h.left.core) (same h.op_result) h.implements;
    picks = subst (λ (p : Progress). PicksFirst (preference s) p (label_of (thread_of s id) h.op_result) s.core h.op_result h.left.core) (same h.op_result) h.picks;
    stays = h.stays;
    shown = h.shown;
  }

  -- an op that did its rule made a step
  pub run_added : (c : Component) (n : ℕ) → thread_of s id ≡ n → RuleShown (λ r. did c (thread_of s id) s.core (choice_of (label_of (thread_of s id) r))) id s before stepped t after
      → Added (λ made. MakesStep c (turn.Run n) s made t × IsFree made.turn) stepped before after
  run_added c n number h =
      let made = made_by (thread_of h.left id) h.op_result in
      let makes : MakesStep c (turn.Run n) s made t = record {
        step = ran_at id n s h.left number c h.op_result made.label made.turn t.core h.implements h.stays refl refl h.shown.core;
        picks = picked_at id n s h.left number (preference s) c h.op_result made.label made.turn t.core h.picks h.stays refl refl h.shown.core;
        running = h.shown.running;
        over = h.shown.over;
      } in
      (made, (h.shown.in_trace, (makes, after_free h.op_result)))

module _ (id : TableId ThreadKey) (s t : StateView) where
  -- what it picked, by the label that its thread shows
  own_label : {row : OpResult → Progress} {made : MadeStep} (h : RuleRan row id s made t) → PicksFirst (preference s) (row h.op_result) (label_of (thread_of s id) h.op_result) s.core h.op_result h.left.core
  own_label {row = row} h = subst (λ (l : Label). PicksFirst (preference s) (row h.op_result) l s.core h.op_result h.left.core) (h.label ∙ label_same id (thread_of s id) s h.left refl h.op_result h.stays) h.picks

  -- an op that did its rule made a step, whose label is still to be added
  pub ran_made : (c : Component) (n : ℕ) → thread_of s id ≡ n → (made : MadeStep) → RuleRan (λ r. did c (thread_of s id) s.core (choice_of (label_of (thread_of s id) r))) id s made t
      → MakesStep c (turn.Run n) s made t × IsFree made.turn
  ran_made c n number made h =
      let makes : MakesStep c (turn.Run n) s made t = record {
        step = ran_at id n s h.left number c h.op_result made.label made.turn t.core h.implements h.stays h.label h.turn h.core;
        picks = picked_at id n s h.left number (preference s) c h.op_result made.label made.turn t.core (own_label h) h.stays h.label h.turn h.core;
        running = h.running;
        over = h.over;
      } in
      (makes, free_at _ _ h.turn (after_free h.op_result))

  pub rule_ran_as : (P Q : OpResult → Progress) (made : MadeStep) → ((r : OpResult) → P r ≡ Q r) → RuleRan P id s made t → RuleRan Q id s made t
  rule_ran_as P Q made same h = record {
    op_result = h.op_result;
    left = h.left;
    implements = subst (λ (p : Progress). Implements p s.core h.op_result h.left.core) (same h.op_result) h.implements;
    picks = subst (λ (p : Progress). PicksFirst (preference s) p made.label s.core h.op_result h.left.core) (same h.op_result) h.picks;
    stays = h.stays;
    label = h.label;
    turn = h.turn;
    core = h.core;
    running = h.running;
    over = h.over;
  }

-- what an op by its rule resulted in is a step of the running thread
module _ (c : Component) (id : TableId ThreadKey) (n : ℕ) (s t : StateView) (number : thread_of s id ≡ n) (o : Op) (is_op : op_of c (thread_of s id) s.core ≡ o)
    (same : (op_result : OpResult) → scripted_op_rule c (thread_of s id) s.core (choice_of (label_of (thread_of s id) op_result)) o ≡ did c (thread_of s id) s.core (choice_of (label_of (thread_of s id) op_result))) where
  polled_at : (host : Option HostDef) → host ≡ polled_host c (op_progress_of (thread_of s id) s.core) o → host ≡ polled_host c (op_progress_of n s.core) (op_of c n s.core)
  polled_at host e = subst (λ k. host ≡ polled_host c (op_progress_of k s.core) (op_of c k s.core)) number (e ∙ sym (ap (polled_host c (op_progress_of (thread_of s id) s.core)) is_op))

  -- one that is done polls no host
  pub step_made : (before after : List Label) (q : StepResult) → OpShown c o id s before q t after → polled_host c (op_progress_of (thread_of s id) s.core) o ≡ None → Added (λ made. RunMade c n s (Some made) t) q before after
  step_made before after q step polls =
      let added = run_added id s t q before after c n number (rule_as id s t q before after (λ op_result. scripted_op_rule c (thread_of s id) s.core (choice_of (label_of (thread_of s id) op_result)) o) (λ op_result. did c (thread_of s id) s.core (choice_of (label_of (thread_of s id) op_result))) same step) in
      (added.0, (added.1.0, (added.1.1, sym (polled_at None (sym polls)))))

  pub run_steps : (before after : List Label) (q : StepResult) → OpStep c o id s before q t after → OpPolls c o id s q → RunStepped c n s q t before after
  run_steps before after q step polls = record {
    made = λ e. step_made before after q (step.made e) (polls.made e);
    nothing = λ e. (((step.nothing e).0, subst (λ k. calls_host (op_of c k s.core) ≡ true) number (ap calls_host is_op ∙ polls.nothing e)), (step.nothing e).1);
    full = λ e. (step.full e).1;
    failed = step.failed;
  }

  -- it wants memory for the op at the thread's place
  pub run_wants : WantsFor o s t → WantsMemory c n s t
  run_wants wants = (subst (λ k. takes_memory (op_of c k s.core) ≡ true) number (ap takes_memory is_op ∙ wants.0), wants.1)

  -- so is what one came to that calls a host
  pub call_steps : (answer : HostPoll) (r : Result (MadeStep × Option (TableId HostTaskKey)) NoMemory) → IfOk r (λ q. RuleRan (scripted_rule_of c o id s) id s q.0 t) → IfOk r (λ q. OpMade answer c o id s q.1 t)
      → IfOk r (λ q. CallStepped answer c n s q t)
  call_steps answer (Err e) row work = tt
  call_steps answer (Ok q) row work =
      let did_it = rule_ran_as id s t (λ op_result. scripted_op_rule c (thread_of s id) s.core (choice_of (label_of (thread_of s id) op_result)) o) (λ op_result. did c (thread_of s id) s.core (choice_of (label_of (thread_of s id) op_result))) q.0 same row in
      (ran_made id s t c n number q.0 did_it, subst (λ (h : Option HostDef). WorkMade answer h q.1 s t) (polled_at _ refl) work)

-- a taking that did its rule made a step
pub take_added : (c : Component) (ended : Bool) (mark : Mark) (id : TableId ThreadKey) (n : ℕ) (s u v t : StateView) (r : OpResult) (stepped : StepResult) (before after : List Label) → thread_of u id ≡ n → u.core ≡ popped mark s.core
    → next_entry s.core ≡ Some (mark, entry.Thread n) → Implements (thread_taken mark (thread_of u id) (choice_of (label_of (thread_of u id) r)) u.core (place_of (thread_of u id) u.core)) u.core r v.core
    → PicksFirst (preference s) (thread_taken mark (thread_of u id) (choice_of (label_of (thread_of u id) r)) u.core (place_of (thread_of u id) u.core)) (label_of (thread_of u id) r) u.core r v.core → StaysAfter r u v
    → Shown id r v before stepped t after → Added (λ made. MakesStep c (turn.Take ended) s made t × IsFree made.turn) stepped before after
take_added c ended mark id n s u v t r stepped before after number base next implements picks stays shown =
    let made = made_by (thread_of v id) r in
    let makes : MakesStep c (turn.Take ended) s made t = record {
      step = took c ended mark id n s u v r made.label made.turn t.core number base next implements stays refl refl shown.core;
      picks = took_picks (preference s) c ended mark id n s u v r made.label made.turn t.core number base next picks stays refl refl shown.core;
      running = shown.running;
      over = shown.over;
    } in
    (made, (shown.in_trace, (makes, after_free r)))

-- ---- An entry that was taken

-- what the primitive took was first
pub next_is : (s : StateView) (r : Option (Mark × EntryId)) (mark : Mark) (e : EntryId) → option_map (λ (x : Mark × EntryId). (x.0, entry_in s.tags x.1)) r ≡ next_entry s.core → r ≡ Some (mark, e) → next_entry s.core ≡ Some (mark, entry_in s.tags e)
next_is s r mark e next is = sym next ∙ ap (option_map (λ (x : Mark × EntryId). (x.0, entry_in s.tags x.1))) is

-- and has left its mark
pub left_is : (s u : StateView) (r : Option (Mark × EntryId)) (mark : Mark) (e : EntryId) → IfSome r (λ x. u ≡ on_core (popped x.0) s) → r ≡ Some (mark, e) → u ≡ on_core (popped mark) s
left_is s u r mark e left is = subst (λ (o : Option (Mark × EntryId)). IfSome o (λ x. u ≡ on_core (popped x.0) s)) is left

-- what is preferred doesn't hang on entries
pub left_preference : (mark : Mark) (s u : StateView) → u ≡ on_core (popped mark) s → preference u ≡ preference s
unfolding popped set_switch set_high set_low
left_preference marks.Switch s u left = ap preference left
left_preference marks.High s u left = ap preference left
left_preference marks.Low s u left = ap preference left

-- nor why a thread is ready
pub left_why : (mark : Mark) (id : TableId ThreadKey) (s u : StateView) → u ≡ on_core (popped mark) s → why_of (thread_of u id) u.core ≡ why_of (thread_of s id) s.core
unfolding popped set_switch set_high set_low
left_why marks.Switch id s u left = ap (λ (v : StateView). why_of (thread_of v id) v.core) left
left_why marks.High id s u left = ap (λ (v : StateView). why_of (thread_of v id) v.core) left
left_why marks.Low id s u left = ap (λ (v : StateView). why_of (thread_of v id) v.core) left

-- what the taking of a push shows
abbrev pub push_made : Mark → ℕ → MadeStep
push_made mark i = record { label = label.Take (take_label.Push mark i); turn = turn.Main }

module _ (c : Component) (ended : Bool) (mark : Mark) (id : TableId HostTaskKey) (s u t : StateView) (made : MadeStep) (none : s.current ≡ None) (left : u ≡ on_core (popped mark) s) where
  -- a push that was taken is a step
  pub push_makes : next_entry s.core ≡ Some (mark, entry.Push (work_of s id)) → made ≡ push_made mark (work_of u id) → t ≡ on_core (pushed (work_of u id)) u
      → MakesStep c (turn.Take ended) s made t × IsFree made.turn
  push_makes next is new =
      let whole = new ∙ ap (λ (v : StateView). on_core (pushed (work_of v id)) v) left in
      let makes : MakesStep c (turn.Take ended) s (push_made mark (work_of s id)) t = record {
        step = took_push c ended mark (work_of s id) s t next (ap (λ (v : StateView). v.core) whole);
        picks = push_picks (preference s) c ended mark (work_of s id) s t next (ap (λ (v : StateView). v.core) whole);
        running = ap running_of whole ∙ ap (option_map (λ k. thread_of s k)) none;
        over = refl;
      } in
      subst (λ (m : MadeStep). MakesStep c (turn.Take ended) s m t × IsFree m.turn) (sym (is ∙ ap (λ (v : StateView). push_made mark (work_of v id)) left)) (makes, λ x k m. tt)

  -- so is the entry of an ended host work
  pub host_makes : next_entry s.core ≡ Some (mark, entry.Host (work_of s id)) → PicksFirst (preference u) (scripted_host_rule mark (work_of u id) (choice_of made.label).woken u.core) made.label u.core (op_result.Stops made.label) t.core → t.current ≡ u.current → made.turn ≡ turn.Main
      → MakesStep c (turn.Take ended) s made t × IsFree made.turn
  host_makes next picks current turn_is =
      let i = work_of s id in
      let first = subst (λ k. PicksFirst (preference u) (scripted_host_rule mark k (choice_of made.label).woken u.core) made.label u.core (op_result.Stops made.label) t.core) (ap (λ (v : StateView). work_of v id) left) picks in
      let preferred = subst (λ (q : Preference). PicksFirst q (scripted_host_rule mark i (choice_of made.label).woken u.core) made.label u.core (op_result.Stops made.label) t.core) (left_preference mark s u left) first in
      let named = picks_implements first in
      let makes : MakesStep c (turn.Take ended) s made t = record {
        step = λ x component m. subst (λ (p : Turn). Step x (state_at s.core m (turn.Take ended)) made.label (state_at t.core m p)) (sym turn_is)
            (took_host c ended mark i s u t (op_result.Stops made.label) made.label (ap (λ (v : StateView). v.core) left) next named refl x component m);
        picks = λ x component m. subst (λ (p : Turn). Picks (preference s) x (state_at s.core m (turn.Take ended)) made.label (state_at t.core m p)) (sym turn_is)
            (host_picks (preference s) c ended mark i s u t made.label (ap (λ (v : StateView). v.core) left) next preferred x component m);
        running = ap (option_map (λ k. thread_of t k)) (current ∙ (ap (λ (v : StateView). v.current) left ∙ none)) ∙ sym (ap runs_in turn_is);
        over = host_over mark i (choice_of made.label).woken u.core t.core (op_result.Stops made.label) made.label named refl ∙ sym (ap is_open turn_is);
      } in
      (makes, free_at _ _ turn_is (λ x k m. tt))

-- ---- A run that is driven

-- A step was added after which it is this turn, and the label gives this outcome, if any.
abbrev pub AddedTo : (MadeStep → Type 0) → Turn → Option Outcome → List Label → List Label → Type 0
AddedTo P q o before after = (made : MadeStep) × (((after ≡ before ++ made.label ∷ []) × ((made.turn ≡ q) × (outcome_of_label made.label ≡ o))) × P made)

none_of : (o : Option Outcome) → is_none o ≡ true → o ≡ None
none_of None e = refl
none_of (Some k) e = absurd (cc)

not_none : (o : Option Outcome) → is_none o ≡ false → is_some o ≡ true
not_none None e = absurd (cc)
not_none (Some k) e = refl

module _ (x : Setting) (p : Turn) (m : Main) (t : StateView) (mid : List Label) (m' : Main) (t' : StateView) (after : List Label) where
  -- the run goes on after it
  pub added_open : (q : StepResult) → is_open (turn_of q) ≡ true → Added (λ made. Turns x p m t made m' t') q mid after → AddedTo (λ made. Turns x p m t made m' t') (turn_of q) None mid after
  added_open q ongoing h = (h.0, ((h.1.0.0, (h.1.0.1, none_of (outcome_of_label h.0.label) (h.1.1.over ∙ (ap is_open h.1.0.1 ∙ ongoing)))), h.1.1))

  -- it is over, and the last label says how
  pub outcome_told : (q : StepResult) → turn_of q ≡ turn.Over → Added (λ made. Turns x p m t made m' t') q mid after → is_some (last_outcome after) ≡ true
  outcome_told q is h =
      ap is_some (ap last_outcome h.1.0.0 ∙ last_outcome-push mid h.0.label) ∙ not_none (outcome_of_label h.0.label) (h.1.1.over ∙ ap is_open (h.1.0.1 ∙ is))

  pub added_over : (q : StepResult) (o : Outcome) → turn_of q ≡ turn.Over → last_outcome after ≡ Some o → Added (λ made. Turns x p m t made m' t') q mid after → AddedTo (λ made. Turns x p m t made m' t') turn.Over (Some o) mid after
  added_over q o is last h = (h.0, ((h.1.0.0, (h.1.0.1 ∙ is, sym (ap last_outcome h.1.0.0 ∙ last_outcome-push mid h.0.label) ∙ last)), h.1.1))

module _ (x : Setting) (s : State) (before : List Label) (numbers : ℕ) (p : Turn) (m : Main) (t : StateView) (mid : List Label) (n : ℕ) (on : IsOn x s before numbers p m t mid n)
    (m' : Main) (t' : StateView) (after : List Label) where
  pub added_more : (q : Turn) → AddedTo (λ made. Turns x p m t made m' t') q None mid after → IsOn x s before numbers q m' t' after (n + 1)
  added_more q h = subst (λ k. IsOn x s before numbers k m' t' after (n + 1)) h.1.0.1.0 (on_more x s before numbers p m t mid n on h.0 m' t' h.1.1 after h.1.0.0 h.1.0.1.1)

  pub added_ends : (o : Outcome) (steps : ℕ) → n < steps → AddedTo (λ made. Turns x p m t made m' t') turn.Over (Some o) mid after → Drove x s before numbers turn.Over m' t' after steps o
  added_ends o steps room h =
      subst (λ k. Drove x s before numbers k m' t' after steps o) h.1.0.1.0 (on_ends x s before numbers p m t mid n on h.0 m' t' h.1.1 after h.1.0.0 steps o room h.1.0.1.1)

  pub added_none : (steps : ℕ) → n ≤ steps → Turned x p m t None m' t' × (after ≡ mid) → Drove x s before numbers p m' t' after steps outcome.Idle
  added_none steps room h = subst (λ (l : List Label). Drove x s before numbers p m' t' l steps outcome.Idle) (sym h.1) (on_turned_none x s before numbers p m m' t t' mid n steps on room h.0)
