-- Main's ops but its starts leave the groups.
use Rattle.laws_labels.specs.Tells.{MainSpares, is_start, is_start_op}
use Rattle.std.proofs.Common.{ap, refl, sym, ◌∙◌, ◌≡◌}
use Rattle.std.specs.Prelude.{Bool, List, None, Option, Some, false, not, true, ℕ}
use Rattle.machine_data.specs.Core.{Began, Core, Main, MainPlace, Refused, Scripted, Started, State, Unscripted}
use Rattle.machine_data.specs.Maps.{get}
use Rattle.machine_data.specs.Read.{phase_of}
use Rattle.machine_data.specs.Write.{add_work, count_work, on_work, push_high, set_phase, take_result}
use Rattle.machine_data.specs.declared.component.Callee.{Callee}
use Rattle.machine_data.specs.declared.component.Component.{Component}
use Rattle.machine_data.specs.declared.label.Label.{Label}
use Rattle.machine_data.specs.declared.label.Label.TheVariants as label
use Rattle.machine_data.specs.declared.label.LoopLabel.TheVariants as loop_label
use Rattle.machine_data.specs.declared.label.MainLabel.{MainLabel}
use Rattle.machine_data.specs.declared.label.MainLabel.TheVariants as main_label
use Rattle.machine_data.specs.declared.records.Turn.{Turn}
use Rattle.machine_data.specs.declared.records.Turn.TheVariants as turn
use Rattle.machine_data.specs.declared.scenario.MainOpDef.{MainOpDef}
use Rattle.machine_data.specs.declared.trap.Trap.{Trap}
use Rattle.machine_rules.specs.Calls.{work_queued}
use Rattle.machine_rules.specs.MainOps.{Abort, Answer, Answers, Await, Does, Finish, MainAct, MainProgress, Pends, Quiet, Ready, Spawn, SpawnOpen, Start, act_of, finish_act, finish_result, has_interesting, is_complete, is_ready_for_call, line_of, main_aborted, main_rule, main_spawned, open_spawned, op_at, start_act, start_refusal, unless_pending}
use Rattle.machine_rules.specs.Stalled.{Setting}
use Rattle.machine_rules.specs.Step.{MainProgresses, MainStep, OpenAct, OpenProgresses, OpenStep, ScriptStep}
use Rattle.machine_rules.specs.Turns.{at_turn}

abbrev Spared : Core → MainProgress → Type 0
Spared s (Does l new) = is_start_op l ≡ false → new.groups ≡ s.groups
Spared s Pends = Unit {0}
Spared s (Answers v) = Unit {0}

start_spared : (c : Component) (k : ℕ) (e : Callee) (words : List ℕ) (s : Core) (o : Option Trap) → Spared s (start_act c k e words s o)
start_spared c k e words s None = λ other. absurd (cc)
start_spared c k e words s (Some t) = λ other. absurd (cc)

result_spared : (k n : ℕ) (s : Core) (o : Option ℕ) → Spared s (finish_result k n s o)
unfolding take_result
result_spared k n s None = tt
result_spared k n s (Some v) = λ other. refl

finish_spared : (k : ℕ) (s : Core) (x : Started) → Spared s (finish_act k s x)
finish_spared k s (Began n) = result_spared k n s (get s.results n)
finish_spared k s (Refused t) = λ other. refl

pending_spared : (b : Bool) (l : MainLabel) (s : Core) → Spared s (unless_pending b l s)
pending_spared true l s = λ other. refl
pending_spared false l s = tt

spawned_groups : (c : Component) (h : ℕ) (s : Core) → (main_spawned c h s).groups ≡ s.groups
unfolding main_spawned work_queued push_high add_work count_work
spawned_groups c h s = refl

opened_groups : (s : Core) → (open_spawned s).groups ≡ s.groups
unfolding open_spawned work_queued push_high add_work count_work
opened_groups s = refl

aborted_groups : (i : ℕ) (s : Core) → (main_aborted i s).groups ≡ s.groups
unfolding main_aborted set_phase on_work
aborted_groups i s = refl

rule_spared : (c : Component) (k : ℕ) (s : Core) (act : MainAct) → Spared s (main_rule c k s act)
rule_spared c k s (Start e words) = start_spared c k e words s (start_refusal s)
rule_spared c k s (Finish x) = finish_spared k s x
rule_spared c k s (Spawn h) = λ other. spawned_groups c h s
rule_spared c k s SpawnOpen = λ other. opened_groups s
rule_spared c k s (Abort i) = λ other. aborted_groups i s
rule_spared c k s (Await i) = pending_spared (is_complete (phase_of i s)) (main_label.Await k) s
rule_spared c k s Quiet = pending_spared (not (has_interesting s)) main_label.Quiet s
rule_spared c k s (Ready i) = pending_spared (is_ready_for_call i s) main_label.Ready s
rule_spared c k s (Answer v) = tt

core_at : (s : State) (new : Core) (m : Main) (p : Turn) → (at_turn s new m p).core ≡ new
unfolding at_turn
core_at s new m p = refl

groups_at : (s : State) (new : Core) (m : Main) (p : Turn) (t : State) → t ≡ at_turn s new m p → new.groups ≡ s.core.groups → t.core.groups ≡ s.core.groups
groups_at s new m p t is same = ap (λ (u : State). u.core.groups) is ∙ (ap (λ (c : Core). c.groups) (core_at s new m p) ∙ same)

shown_start : (l : Label) (k : MainLabel) → l ≡ label.Main k → is_start l ≡ false → is_start_op k ≡ false
shown_start l k is other = sym (ap is_start is) ∙ other

script_spares : (s : State) (p : MainPlace) (o : MainOpDef) (q : MainProgress) (l : Label) (t : State) → MainProgresses s p o q l t → Spared s.core q → is_start l ≡ false → t.core.groups ≡ s.core.groups
script_spares s p o (Does k new) l t h spared other = groups_at s new _ turn.Main t h.1 (spared (shown_start l k h.0 other))
script_spares s p o Pends l t h spared other = groups_at s s.core s.main (turn.Futures 0) t h.1 refl
script_spares s p o (Answers v) l t h spared other = groups_at s s.core s.main turn.Over t h.1 refl

place_spares : (x : Setting) (s : State) (p : MainPlace) (o : Option MainOpDef) (l : Label) (t : State) → ScriptStep x s p o l t → is_start l ≡ false → t.core.groups ≡ s.core.groups
place_spares x s p None l t h other = groups_at s s.core s.main (turn.Futures 0) t h.1 refl
place_spares x s p (Some o) l t h other = script_spares s p o _ l t h (rule_spared x.component (line_of p o) s.core (act_of p o)) other

open_spares : (s : State) (q : MainProgress) (l : Label) (t : State) → OpenProgresses s q l t → Spared s.core q → is_start l ≡ false → t.core.groups ≡ s.core.groups
open_spares s (Does k new) l t h spared other = groups_at s new s.main turn.Main t h.1 (spared (shown_start l k h.0 other))
open_spares s Pends l t h spared other = absurd h
open_spares s (Answers v) l t h spared other = groups_at s s.core s.main turn.Over t h.1 refl

act_spares : (x : Setting) (s : State) (l : Label) (t : State) → (k : ℕ) × ((act : MainAct) × OpenAct x s k act l t) → is_start l ≡ false → t.core.groups ≡ s.core.groups
act_spares x s l t h other = open_spares s _ l t h.1.1.1 (rule_spared x.component h.0 s.core h.1.0) other

any_spares : (x : Setting) (s : State) (l : Label) (t : State) → OpenStep x s l t → is_start l ≡ false → t.core.groups ≡ s.core.groups
any_spares x s (label.Loop loop_label.MainPends) t h other = groups_at s s.core s.main (turn.Futures 0) t h refl
any_spares x s (label.Loop l) t h other = act_spares x s (label.Loop l) t h other
any_spares x s (label.Main l) t h other = act_spares x s (label.Main l) t h other
any_spares x s l t h other = act_spares x s l t h other

main_spares : (x : Setting) (s : State) (m : Main) (l : Label) (t : State) → MainStep x s m l t → is_start l ≡ false → t.core.groups ≡ s.core.groups
main_spares x s (Scripted p) l t h other = place_spares x s p (op_at x.script p) l t h other
main_spares x s Unscripted l t h other = any_spares x s l t h other

pub mains_spare : MainSpares
mains_spare x s m l t h other = main_spares x s m l t h other
