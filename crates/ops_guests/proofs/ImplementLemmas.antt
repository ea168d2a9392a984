-- An op that implements its rule is a step.
use Rattle.machine_data.specs.Write.{set_high, set_low, set_switch}
use Rattle.std.proofs.Common.{ap, ap₂, refl, subst, sym, ◌∙◌}
use Rattle.std.specs.Prelude.{IfSome, None, Option, Some, ℕ, ◌≡◌}
use Rattle.ops_guests.proofs.CalmLemmas.{picks_implements}
use Rattle.ops_guests.specs.OpResult.{Implements}
use Rattle.machine_data.specs.declared.label.Label.{Label}
use Rattle.machine_data.specs.declared.statuses.Mark.TheVariants as mark
use Rattle.machine_rules.specs.Picks.{Preference, ShowsFirst, StepIn, TakesFirst, TurnStepIn, WakesFirst, in_order, taken_of}
use Rattle.ops_guests.specs.Steps.{ActingIsStep, ImplementingIsStep, PickingIsPicked, TakingIsPicked, TakingIsStep, core_after, label_of, main_after, main_label_of, turn_after}
use Rattle.ops_guests.specs.declared.op_result.OpResult.{OpResult}
use Rattle.machine_data.specs.Core.{Core, Main, MainPlace, State}
use Rattle.machine_data.specs.declared.records.Turn.{Turn}
use Rattle.machine_data.specs.Labels.{choice_of, woken_of}
use Rattle.machine_data.specs.Maps.{Records}
use Rattle.machine_data.specs.Core.{NameTable}
use Rattle.machine_data.specs.Read.{instance_of, is_ready_member, is_waiter, subtask_at}
use Rattle.machine_data.specs.declared.records.Named.{Named}
use Rattle.machine_data.specs.declared.records.Subtask.TheVariants as subtask
use Rattle.machine_data.specs.declared.records.Subtask.{Subtask}
use Rattle.machine_rules.specs.Progress.{Asks, Fails, Continues, Never, OneOf, Ordered, Progress, Stops, Traps}
use Rattle.machine_rules.specs.Step.{MainProgresses, MainStep, Progresses, ScriptStep, Step, TakeStep, TurnStep, did, entry_number}
use Rattle.machine_rules.specs.Takes.{popped, take_rule}
use Rattle.machine_rules.specs.Turns.{goes_to}
use Rattle.machine_rules.specs.MainOps.{Answers, Does, MainProgress, Pends, act_of, line_of, main_rule}
use Rattle.ops_guests.specs.Acted.{MainImplements}
use Rattle.ops_guests.specs.declared.mains.Acted.{Acted}
use Rattle.machine_data.specs.declared.records.Entry.{Entry}
use Rattle.machine_data.specs.declared.scenario.MainOpDef.{MainOpDef}
use Rattle.machine_data.specs.declared.statuses.Mark.{Mark}

came_as : (s : State) (base : Core) (n : ℕ) (p : Progress) (r q : OpResult) (t u : Core) → r ≡ q → t ≡ u → Progresses s base n p (label_of n q) (goes_to s (core_after n q u) (turn_after q)) → Progresses s base n p (label_of n r) (goes_to s (core_after n r t) (turn_after r))
came_as s base n p r q t u e d h = subst (λ (v : OpResult). Progresses s base n p (label_of n v) (goes_to s (core_after n v t) (turn_after v))) (sym e) (subst (λ (v : Core). Progresses s base n p (label_of n q) (goes_to s (core_after n q v) (turn_after q))) (sym d) h)

implements_progresses : (s : State) (base : Core) (n : ℕ) (p : Progress) (r : OpResult) (t : Core) → Implements p base r t → Progresses s base n p (label_of n r) (goes_to s (core_after n r t) (turn_after r))
implements_progresses s base n (Continues l new m) r t h = came_as s base n (Continues l new m) r _ t _ h.0 h.1 (refl, refl)
implements_progresses s base n (Stops l new) r t h = came_as s base n (Stops l new) r _ t _ h.0 h.1 (refl, refl)
implements_progresses s base n (Traps why) r t h = came_as s base n (Traps why) r _ t _ h.0 h.1 (refl, refl)
implements_progresses s base n (Fails i) r t h = came_as s base n (Fails i) r _ t _ h.0 h.1 (refl, refl)
implements_progresses s base n Never r t h = absurd h
implements_progresses s base n (Ordered ns next) r t h = (h.0, (h.1.0, implements_progresses s base n (next h.0) r t h.1.1))
implements_progresses s base n (OneOf ns next) r t h = (h.0, (h.1.0, implements_progresses s base n (next h.0) r t h.1.1))
implements_progresses s base n (Asks next) r t h = (h.0, implements_progresses s base n (next h.0) r t h.1)

pub implementing_is_step : ImplementingIsStep
unfolding Step
implementing_is_step x s n r t at h = subst (λ (u : Turn). TurnStep x s u (label_of n r) (goes_to s (core_after n r t) (turn_after r))) (sym at) (implements_progresses s s.core n (did x.component n s.core (choice_of (label_of n r))) r t h)

pub taking_is_step : TakingIsStep
unfolding Step
taking_is_step x s ended e r t at next h =
    let l = label_of (entry_number e.1) r in
    let u = goes_to s (core_after (entry_number e.1) r t) (turn_after r) in
    let taken = implements_progresses s (popped e.0 s.core) (entry_number e.1) (take_rule e.0 (choice_of l) (popped e.0 s.core) e.1) r t h in
    subst (λ (y : Turn). TurnStep x s y l u) (sym at) (subst (λ (o : Option (Mark × Entry)). TakeStep x s o l u) (sym next) taken)

-- ---- What a step picks

pub picking_is_picked : PickingIsPicked
unfolding StepIn
picking_is_picked p x s n r t at h = record {
  shows = h.shows;
  step = subst (λ (u : Turn). TurnStepIn p x s u (label_of n r) (goes_to s (core_after n r t) (turn_after r))) (sym at)
      (implements_progresses s s.core n (in_order p (did x.component n s.core (choice_of (label_of n r)))) r t h.order);
}

if_some : {A : Type 0} (P Q : A → Type 0) → ((a : A) → P a → Q a) → (o : Option A) → IfSome o P → IfSome o Q
if_some P Q leads None h = tt
if_some P Q leads (Some a) h = leads a h

-- what a step shows is told by threads, calls, host works and handles alone
shows_as : (p : Preference) (s t : Core) (l : Label) → t.threads ≡ s.threads → t.calls ≡ s.calls → t.works ≡ s.works → t.handles ≡ s.handles → ShowsFirst p t l → ShowsFirst p s l
shows_as p s t l threads calls works handles h = record {
  waiter = if_some (WakesFirst p t) (WakesFirst p s) (λ w f. record {
    set = f.set;
    waits = sym (waits f.set w) ∙ f.waits;
    first = λ n there. f.first n (waits f.set n ∙ there);
  }) (woken_of l) h.waiter;
  member = if_some (λ e. TakesFirst p t (instance_of e.0 t) e.1) (λ e. TakesFirst p s (instance_of e.0 s) e.1) (λ e f. record {
    set = f.set;
    member = f.member;
    named = sym (ap₂ (λ m i. named_subtask i e.1 m) handles (instance e.0)) ∙ f.named;
    ready = sym (ready f.set f.member) ∙ f.ready;
    first = λ other there. f.first other (ready f.set other ∙ there);
  }) (taken_of l) h.member;
}
  where
    waits : (x n : ℕ) → is_waiter x n t ≡ is_waiter x n s
    waits x n = ap (λ m. is_waiter x n (record s { threads = m })) threads

    instance : (n : ℕ) → instance_of n t ≡ instance_of n s
    instance n = ap₂ (λ m k. instance_of n (record s { threads = m; calls = k })) threads calls

    named_subtask : ℕ → ℕ → Records (NameTable Named) → Option Subtask
    named_subtask i h m = subtask_at i h (record s { handles = m })

    ready : (x : ℕ) (sub : Subtask) → is_ready_member x sub t ≡ is_ready_member x sub s
    ready x (subtask.Guest k) = ap (λ m. is_ready_member x (subtask.Guest k) (record s { calls = m })) calls
    ready x (subtask.Host i) = ap (λ m. is_ready_member x (subtask.Host i) (record s { works = m })) works

-- the taking of an entry moves no thread, no call and no host work
popped_shows : (p : Preference) (m : Mark) (s : Core) (l : Label) → ShowsFirst p (popped m s) l → ShowsFirst p s l
unfolding popped set_switch set_high set_low
popped_shows p mark.Switch s l h = shows_as p s (popped mark.Switch s) l refl refl refl refl h
popped_shows p mark.High s l h = shows_as p s (popped mark.High s) l refl refl refl refl h
popped_shows p mark.Low s l h = shows_as p s (popped mark.Low s) l refl refl refl refl h

pub taking_is_picked : TakingIsPicked
unfolding StepIn
taking_is_picked p x s ended e r t at next h =
    let l = label_of (entry_number e.1) r in
    let u = goes_to s (core_after (entry_number e.1) r t) (turn_after r) in
    let row = take_rule e.0 (choice_of l) (popped e.0 s.core) e.1 in
    let taken = implements_progresses s (popped e.0 s.core) (entry_number e.1) row r t (picks_implements h) in
    record {
      shows = popped_shows p e.0 s.core l h.shows;
      step = subst (λ (y : Turn). TurnStepIn p x s y l u) (sym at) (subst (λ (o : Option (Mark × Entry)). TakeStep x s o l u) (sym next) taken);
    }

-- ---- Main

acted_as : (s : State) (p : MainPlace) (o : MainOpDef) (g : MainProgress) (r q : Acted) (t u : Core) → r ≡ q → t ≡ u → MainProgresses s p o g (main_label_of q) (main_after s p o q u) → MainProgresses s p o g (main_label_of r) (main_after s p o r t)
acted_as s p o g r q t u e d h = subst (λ (v : Acted). MainProgresses s p o g (main_label_of v) (main_after s p o v t)) (sym e) (subst (λ (v : Core). MainProgresses s p o g (main_label_of q) (main_after s p o q v)) (sym d) h)

acted_progresses : (s : State) (p : MainPlace) (o : MainOpDef) (g : MainProgress) (r : Acted) (t : Core) → MainImplements g s.core r t → MainProgresses s p o g (main_label_of r) (main_after s p o r t)
acted_progresses s p o (Does l new) r t h = acted_as s p o (Does l new) r _ t _ h.0 h.1 (refl, refl)
acted_progresses s p o Pends r t h = acted_as s p o Pends r _ t _ h.0 h.1 (refl, refl)
acted_progresses s p o (Answers v) r t h = acted_as s p o (Answers v) r _ t _ h.0 h.1 (refl, refl)

pub acting_is_step : ActingIsStep
unfolding Step
acting_is_step x s p o r t at main op h =
    let l = main_label_of r in
    let u = main_after s p o r t in
    subst (λ (y : Turn). TurnStep x s y l u) (sym at) (subst (λ (m : Main). MainStep x s m l u) (sym main) (subst (λ (q : Option MainOpDef). ScriptStep x s p q l u) (sym op) (acted_progresses s p o (main_rule x.component (line_of p o) s.core (act_of p o)) r t h)))
