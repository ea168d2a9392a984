-- What a step of main has made is what its label shows.
use Rattle.std.proofs.Common.{ap, inl, inr, refl, subst, sym, ◌∙◌}
use Rattle.std.specs.Prelude.{Bool, List, None, Option, Some, false, not, true, ℕ, ◌≡◌}
use Rattle.machine_data.specs.Core.{Core, Main, MainPlace, Scripted, Started, State, Unscripted, Began, Refused}
use Rattle.machine_data.specs.Maps.{get}
use Rattle.machine_data.specs.Moves.{put_high}
use Rattle.machine_data.specs.Write.{add_call, add_group, add_thread, add_work, count_work, on_thread, on_work, push_high, set_phase, set_place, set_trapped, take_result}
use Rattle.machine_data.specs.Read.{phase_of}
use Rattle.machine_data.specs.declared.component.Callee.{Callee}
use Rattle.machine_data.specs.declared.component.Component.{Component}
use Rattle.machine_data.specs.declared.component.HostDef.{HostDef}
use Rattle.machine_data.specs.declared.label.Label.{Label}
use Rattle.machine_data.specs.declared.label.Label.TheVariants as label
use Rattle.machine_data.specs.declared.label.LoopLabel.TheVariants as loop_label
use Rattle.machine_data.specs.declared.label.MainLabel.{MainLabel}
use Rattle.machine_data.specs.declared.label.MainLabel.TheVariants as main_label
use Rattle.machine_data.specs.declared.records.Turn.TheVariants as turn
use Rattle.machine_data.specs.declared.scenario.MainOpDef.{MainOpDef}
use Rattle.machine_data.specs.declared.trap.Trap.{Trap}
use Rattle.machine_rules.specs.Calls.{call_made, work_queued}
use Rattle.machine_rules.specs.MainOps as row
use Rattle.machine_rules.specs.MainOps.{Does, Pends, Answers, MainAct, MainProgress, act_of, finish_result, has_interesting, is_complete, is_ready_for_call, line_of, main_aborted, main_rule, main_spawned, main_started, op_at, open_spawned, start_act, start_refusal, unless_pending}
use Rattle.machine_rules.specs.Step.{MainProgresses, OpenProgresses, ScriptStep}
use Rattle.machine_rules.specs.Turns.{at_turn}
use Rattle.ops_state.specs.declared.error.TaskError.{TaskError}
use Rattle.ops_turns.specs.Main.{Did, Steps, main_setting}
use Rattle.ops_turns.specs.Turn.{state_at}
use Rattle.ops_turns.specs.declared.mains.MainStep.{MainStep}
use Rattle.ops_turns.specs.declared.mains.MainStep.TheVariants as step
use Rattle.task_loop.specs.HasRun.{HasStepResult, MayStep}
use Rattle.task_loop.specs.Hooked.{FailsMain}
use Rattle.task_loop.specs.Says.{Says}
use Rattle.task_store.specs.declared.store.Store.{Store}
use Rattle.host_watch.specs.Watched.{IsShown, label_may, label_thread, label_traps, label_work, may_show, thread_shown, trapped_by, watched_says, work_shown}
use Rattle.host_watch.specs.declared.mains.WatchedMain.{WatchedMain}

-- what a label says of the core before its step: the finished call had returned, no task was interesting
abbrev IsBacked : Label → Core → Type 0
IsBacked (label.Main (main_label.Finish k v)) s = (n : ℕ) × (get s.results n ≡ Some v)
IsBacked (label.Main main_label.Quiet) s = has_interesting s ≡ false
IsBacked _ s = Unit {0}

-- the label shows what was made between these cores, whether it trapped, and what was so before
record Shows (l : Label) (s t : Core) : Type 0 where
  thread : IsShown (label_thread l) s.made.threads t.made.threads
  work : IsShown (label_work l) s.made.works t.made.works
  trap : t.trapped ≡ label_traps l s.trapped
  backed : IsBacked l s

-- what an act of main results in shows what it makes
abbrev ShowsFrom : MainProgress → Core → Type 0
ShowsFrom (Does l new) s = Shows (label.Main l) s new
ShowsFrom Pends s = Unit {0}
ShowsFrom (Answers v) s = Unit {0}

start_shows : (c : Component) (k : ℕ) (e : Callee) (words : List ℕ) (s : Core) (o : Option Trap) → ShowsFrom (start_act c k e words s o) s
unfolding main_started put_high call_made add_thread add_call add_group set_place on_thread push_high set_trapped
start_shows c k e words s None = record { thread = (refl, refl); work = refl; trap = refl; backed = tt }
start_shows c k e words s (Some why) = record { thread = refl; work = refl; trap = refl; backed = tt }

finish_shows : (k n : ℕ) (s : Core) (o : Option ℕ) → get s.results n ≡ o → ShowsFrom (finish_result k n s o) s
unfolding take_result
finish_shows k n s None there = tt
finish_shows k n s (Some v) there = record { thread = refl; work = refl; trap = refl; backed = (n, there) }

unless_shows : (b : Bool) (l : MainLabel) (s : Core) → Shows (label.Main l) s s → ShowsFrom (unless_pending b l s) s
unless_shows true l s h = h
unless_shows false l s h = tt

quiet_shows : (b : Bool) (s : Core) → has_interesting s ≡ b → ShowsFrom (unless_pending (not b) main_label.Quiet s) s
quiet_shows true s is = tt
quiet_shows false s is = record { thread = refl; work = refl; trap = refl; backed = is }

rule_shows : (c : Component) (k : ℕ) (s : Core) (act : MainAct) → ShowsFrom (main_rule c k s act) s
unfolding main_spawned open_spawned main_aborted work_queued push_high add_work count_work set_phase on_work
rule_shows c k s (row.Start e words) = start_shows c k e words s (start_refusal s)
rule_shows c k s (row.Finish (Began n)) = finish_shows k n s (get s.results n) refl
rule_shows c k s (row.Finish (Refused why)) = record { thread = refl; work = refl; trap = refl; backed = tt }
rule_shows c k s (row.Spawn h) = record { thread = refl; work = (refl, refl); trap = refl; backed = tt }
rule_shows c k s row.SpawnOpen = record { thread = refl; work = (refl, refl); trap = refl; backed = tt }
rule_shows c k s (row.Abort i) = record { thread = refl; work = refl; trap = refl; backed = tt }
rule_shows c k s (row.Await i) = unless_shows (is_complete (phase_of i s)) (main_label.Await k) s (record { thread = refl; work = refl; trap = refl; backed = tt })
rule_shows c k s row.Quiet = quiet_shows (has_interesting s) s refl
rule_shows c k s (row.Ready i) = unless_shows (is_ready_for_call i s) main_label.Ready s (record { thread = refl; work = refl; trap = refl; backed = tt })
rule_shows c k s (row.Answer v) = tt

-- ---- A step shows what it has made

shows_as : (l : Label) (k : Label) (s t new : Core) → l ≡ k → t ≡ new → Shows k s new → Shows l s t
shows_as l k s t new label core h = subst (λ (u : Core). Shows l s u) (sym core) (subst (λ (x : Label). Shows x s new) (sym label) h)

open_shows : (p : MainProgress) (x : State) (l : Label) (t : State) → OpenProgresses x p l t → ShowsFrom p x.core → Shows l x.core t.core
unfolding at_turn
open_shows (Does k new) x l t h shows = shows_as l (label.Main k) x.core t.core new h.0 (ap (λ (u : State). u.core) h.1) shows
open_shows Pends x l t h shows = absurd h
open_shows (Answers v) x l t h shows = shows_as l (label.Main (main_label.Answer v)) x.core t.core x.core h.0 (ap (λ (u : State). u.core) h.1) (record { thread = refl; work = refl; trap = refl; backed = tt })

script_shows : (p : MainProgress) (x : State) (at : MainPlace) (o : MainOpDef) (l : Label) (t : State) → MainProgresses x at o p l t → ShowsFrom p x.core → Shows l x.core t.core
unfolding at_turn
script_shows (Does k new) x at o l t h shows = shows_as l (label.Main k) x.core t.core new h.0 (ap (λ (u : State). u.core) h.1) shows
script_shows Pends x at o l t h shows = shows_as l (label.Loop loop_label.MainPends) x.core t.core x.core h.0 (ap (λ (u : State). u.core) h.1) (record { thread = refl; work = refl; trap = refl; backed = tt })
script_shows (Answers v) x at o l t h shows = shows_as l (label.Main (main_label.Answer v)) x.core t.core x.core h.0 (ap (λ (u : State). u.core) h.1) (record { thread = refl; work = refl; trap = refl; backed = tt })

-- ---- What is asked of the store before the step

was_returned : (returned : Bool) (s : Core) (n v : ℕ) → (returned ≡ false → (call : ℕ) → get s.results call ≡ None) → get s.results n ≡ Some v → returned ≡ true
was_returned true s n v none is = refl
was_returned false s n v none is = absurd (let clash = sym (none refl n) ∙ is in cc)

main_backed : (l : MainLabel) (returned interesting : Bool) (s : Core) → (returned ≡ false → (call : ℕ) → get s.results call ≡ None) → interesting ≡ has_interesting s → IsBacked (label.Main l) s → label_may (label.Main l) returned interesting ≡ true
main_backed (main_label.Finish k v) r i s none is h = was_returned r s h.0 v none h.1
main_backed main_label.Quiet r i s none is h = ap not (is ∙ h)
main_backed (main_label.Start k n) r i s none is h = refl
main_backed (main_label.StartRefused why k) r i s none is h = refl
main_backed (main_label.FinishRefused why k) r i s none is h = refl
main_backed (main_label.Spawn k n) r i s none is h = refl
main_backed (main_label.Abort p k) r i s none is h = refl
main_backed (main_label.Await k) r i s none is h = refl
main_backed main_label.Ready r i s none is h = refl
main_backed (main_label.Answer v) r i s none is h = refl

label_backed : (l : Label) (returned interesting : Bool) (s : Core) → (returned ≡ false → (call : ℕ) → get s.results call ≡ None) → interesting ≡ has_interesting s → IsBacked l s → label_may l returned interesting ≡ true
label_backed (label.Main l) r i s none is h = main_backed l r i s none is h
label_backed (label.Loop l) r i s none is h = refl
label_backed (label.Take l) r i s none is h = refl
label_backed (label.Data l) r i s none is h = refl
label_backed (label.Task l) r i s none is h = refl
label_backed (label.Set l) r i s none is h = refl
label_backed (label.Call l) r i s none is h = refl
label_backed (label.Thread l) r i s none is h = refl
label_backed (label.RetWakes n v w) r i s none is h = refl
label_backed (label.CallSyncPolls n v j) r i s none is h = refl

-- ---- A step of main

module _ (c : Component) (ops : List MainOpDef) where
  op_shows : (p : MainPlace) (o : Option MainOpDef) (x : State) (l : Label) (t : State) → ScriptStep (main_setting c ops) x p o l t → Shows l x.core t.core
  unfolding at_turn
  op_shows p None x l t h = shows_as l (label.Loop loop_label.MainPends) x.core t.core x.core h.0 (ap (λ (u : State). u.core) h.1) (record { thread = refl; work = refl; trap = refl; backed = tt })
  op_shows p (Some o) x l t h = script_shows (main_rule c (line_of p o) x.core (act_of p o)) x p o l t h (rule_shows c (line_of p o) x.core (act_of p o))

  did_shows : (l : Label) (m n : Main) (s t : Core) → Did c ops m s l n t → Shows l s t
  did_shows l (Scripted p) n s t h = op_shows p (op_at ops p) (state_at s (Scripted p) turn.Main) l (state_at t n turn.Main) h.step
  did_shows (label.Main l) Unscripted n s t h =
      let act = h.step.1.0 in
      open_shows (main_rule c h.step.0 s act) (state_at s Unscripted turn.Main) (label.Main l) (state_at t n turn.Main) h.step.1.1.1 (rule_shows c h.step.0 s act)
  did_shows (label.Loop l) Unscripted n s t h = absurd h.op
  did_shows (label.Take l) Unscripted n s t h = absurd h.op
  did_shows (label.Data l) Unscripted n s t h = absurd h.op
  did_shows (label.Task l) Unscripted n s t h = absurd h.op
  did_shows (label.Set l) Unscripted n s t h = absurd h.op
  did_shows (label.Call l) Unscripted n s t h = absurd h.op
  did_shows (label.Thread l) Unscripted n s t h = absurd h.op
  did_shows (label.RetWakes n' v w) Unscripted n s t h = absurd h.op
  did_shows (label.CallSyncPolls n' v i) Unscripted n s t h = absurd h.op

  pub step_thread : (q : MainStep) (m n : Main) (s t : Core) → Steps c ops m s q n t → IsShown (thread_shown q) s.made.threads t.made.threads
  step_thread (step.Did l) m n s t h = (did_shows l m n s t h).thread
  step_thread step.Pends m n s t h = ap (λ (u : Core). u.made.threads) h.core
  step_thread (step.Answer v) m n s t h = ap (λ (u : Core). u.made.threads) h.core

  pub step_work : (q : MainStep) (m n : Main) (s t : Core) → Steps c ops m s q n t → IsShown (work_shown q) s.made.works t.made.works
  step_work (step.Did l) m n s t h = (did_shows l m n s t h).work
  step_work step.Pends m n s t h = ap (λ (u : Core). u.made.works) h.core
  step_work (step.Answer v) m n s t h = ap (λ (u : Core). u.made.works) h.core

  pub step_traps : (q : MainStep) (m n : Main) (s t : Core) → Steps c ops m s q n t → t.trapped ≡ trapped_by q s.trapped
  step_traps (step.Did l) m n s t h = (did_shows l m n s t h).trap
  step_traps step.Pends m n s t h = ap (λ (u : Core). u.trapped) h.core
  step_traps (step.Answer v) m n s t h = ap (λ (u : Core). u.trapped) h.core

  -- by what the store answered before the step: whether something was returned, whether a task was interesting
  pub step_backed : (q : MainStep) (returned interesting : Bool) (m n : Main) (s t : Core) → (returned ≡ false → (call : ℕ) → get s.results call ≡ None) → interesting ≡ has_interesting s → Steps c ops m s q n t → may_show q returned interesting ≡ true
  step_backed (step.Did l) r i m n s t none is h = label_backed l r i s none is (did_shows l m n s t h).backed
  step_backed step.Pends r i m n s t none is h = refl
  step_backed (step.Answer v) r i m n s t none is h = refl

-- ---- A main that is watched

module _ {M T H G : Type 0} (says : Says M) (course : H → HostDef) (c : Component) where
  pub may_inside : (w : WatchedMain M) (s : Store T H G) → MayStep (watched_says says) course c w s → MayStep says course c w.main s
  may_inside w s may = record {
    covered = may.covered;
    order = may.order;
    idle = may.idle;
    suits = may.suits;
    knows = may.knows;
    works = may.works;
    asked = may.asked;
    few = may.few;
  }

  pub stepped_outside : (q : MainStep) (w v : WatchedMain M) (s t : Store T H G) → HasStepResult says course c q w.main s v.main t → HasStepResult (watched_says says) course c q w s v t
  stepped_outside q w v s t did = record {
    steps = did.steps;
    does = did.does;
    told = did.told;
    hook_is_ok = did.hook_is_ok;
    idle = did.idle;
    suits = did.suits;
    knows = did.knows;
    works = did.works;
    asked = did.asked;
  }

  pub failed_outside : (e : TaskError) (w v : WatchedMain M) (s t : Store T H G) → FailsMain course e w.main v.main s t → FailsMain course e w v s t
  failed_outside e w v s t (inl memory) = inl memory
  failed_outside e w v s t (inr q) = inr (q.0, record { main = ap (λ (m : M). record { main = m }) q.1.main; state = q.1.state; hosts = q.1.hosts; fails = q.1.fails })
