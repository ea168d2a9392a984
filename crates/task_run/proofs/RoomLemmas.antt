-- The room for notices suffices: a step gives at most two, beside those of groups that finish, which their starts pay for.
use Rattle.std.proofs.Common.{ap, arith, length, length-append, refl, subst, sym, ◌∙◌, ◌≡◌, ◌⊎◌, inl, inr}
use Rattle.std.specs.Prelude.{Bool, List, None, Option, Some, [], cond, false, map, not, true, ℕ, ◌++◌, ◌+◌, ◌*◌, ◌==◌, ◌∷◌, ◌≤◌, ◌&&◌}
use Rattle.laws_labels.proofs.ListLemmas.{finish_every, finish_none}
use Rattle.laws_labels.proofs.StepTells.{notices_told}
use Rattle.laws_labels.specs.Tells.{entry_group, worked_group}
use Rattle.laws_labels.specs.Own.{is_main_turn}
use Rattle.store_notices.proofs.RunLemmas.{main_told}
use Rattle.store_notices.specs.Runs.{moment}
use Rattle.task_loop.proofs.IdleLemmas.{futures_idle, idle_by, main_idle, over_idle, stop_idle, works_idle}
use Rattle.task_loop.proofs.MainToldLemmas.{finish_more, trapped_groups}
use Rattle.task_group.specs.Listeners.{Listeners}
use Rattle.task_loop.proofs.StartLemmas.{start_groups}
use Rattle.task_loop.proofs.ToldLemmas.{idle_at}
use Rattle.task_loop.specs.AnswersOk.{FewerGroups, FewerIn, AnswersOkAll}
use Rattle.machine_data.specs.Core.{Began, Core, Main, MainPlace, Refused, Scripted, Started, State, Unscripted}
use Rattle.machine_data.specs.Maps.{get}
use Rattle.machine_data.specs.Read.{next_entry, phase_of}
use Rattle.machine_data.specs.Write.{add_work, count_work, on_work, push_high, set_phase, take_result}
use Rattle.machine_data.specs.declared.component.Callee.{Callee}
use Rattle.machine_data.specs.declared.component.Component.{Component}
use Rattle.machine_data.specs.declared.label.Label.{Label}
use Rattle.machine_data.specs.declared.label.Label.TheVariants as label
use Rattle.machine_data.specs.declared.label.LoopLabel.TheVariants as loop_label
use Rattle.machine_data.specs.declared.label.MainLabel.{MainLabel}
use Rattle.machine_data.specs.declared.label.MainLabel.TheVariants as main_label
use Rattle.machine_data.specs.declared.records.Entry.{Entry}
use Rattle.machine_data.specs.declared.records.Entry.TheVariants as entry
use Rattle.machine_data.specs.declared.records.Notice.{Notice}
use Rattle.machine_data.specs.declared.records.NoticeKind.{NoticeKind}
use Rattle.machine_data.specs.declared.records.NoticeKind.TheVariants as notice
use Rattle.machine_data.specs.declared.records.Turn.{Turn}
use Rattle.machine_data.specs.declared.records.Turn.TheVariants as turn
use Rattle.machine_data.specs.declared.scenario.MainOpDef.{MainOpDef}
use Rattle.machine_data.specs.declared.trap.Trap.{Trap}
use Rattle.machine_data.specs.declared.statuses.Mark.{Mark}
use Rattle.machine_rules.specs.Calls.{work_queued}
use Rattle.machine_rules.specs.History.{history}
use Rattle.machine_rules.specs.MainOps.{Abort, Answer, Answers, Await, Does, Finish, MainAct, MainProgress, Pends, Quiet, Ready, Spawn, SpawnOpen, Start, act_of, finish_act, finish_result, has_interesting, is_complete, is_ready_for_call, line_of, main_aborted, main_rule, main_spawned, open_spawned, op_at, start_act, start_refusal, unless_pending}
use Rattle.machine_rules.specs.Notices.{around, finish_notices, group_notice, is_in, moment_notices, notices, of_live, running_group, same_group, start_notices, switch_notices, told_of, work_notices}
use Rattle.machine_rules.specs.Run.{Run}
use Rattle.machine_rules.specs.Stalled.{Setting}
use Rattle.machine_rules.specs.Step.{MainProgresses, MainStep, OpenAct, OpenProgresses, OpenStep, ScriptStep, Step, TakeStep, TurnStep}
use Rattle.machine_rules.specs.Turns.{at_turn, goes_to}
use Rattle.machine_rules.specs.Works.{next_polled}
use Rattle.ops_turns.specs.Turn.{runs_in}

-- ---- How many notices there are of each kind

kept_few : (b : Bool) (n : Notice) (ns ms : List Notice) → length ns ≤ length ms → length (cond b (n ∷ ns) ns) ≤ length (n ∷ ms)
kept_few true n ns ms h = omega (arith, h)
kept_few false n ns ms h = omega (arith, h)

live_few : (gs : List ℕ) (ns : List Notice) → length (of_live gs ns) ≤ length ns
live_few gs [] = omega arith
live_few gs (n ∷ ns) = kept_few (is_in gs n.group) n (of_live gs ns) ns (live_few gs ns)

one_notice : (k : NoticeKind) (o : Option ℕ) → length (group_notice k o) ≤ 1
one_notice k None = omega arith
one_notice k (Some g) = omega arith

two_notices : (j k : NoticeKind) (a b : Option ℕ) → length (group_notice j a ++ group_notice k b) ≤ 2
two_notices j k a b = let x = one_notice j a in let y = one_notice k b in let e = length-append (group_notice j a) (group_notice k b) in omega (arith, x, y, e)

unless_same : (b : Bool) (ns : List Notice) → length ns ≤ 2 → length (cond b [] ns) ≤ 2
unless_same true ns h = omega arith
unless_same false ns h = h

-- either another thread runs then, or a work is worked on
pub few_told : (a b w : Option ℕ) → (w ≡ None) ⊎ ((a ≡ None) × (b ≡ None)) → length (switch_notices a b ++ around w) ≤ 2
few_told a b w (inl none) =
    subst (λ (o : Option ℕ). length (switch_notices a b ++ around o) ≤ 2) (sym none)
    (let e = length-append (switch_notices a b) [] in let h = unless_same (same_group a b) (group_notice notice.Exit a ++ group_notice notice.Enter b) (two_notices notice.Exit notice.Enter a b) in omega (arith, e, h))
few_told a b w (inr none) =
    subst (λ (o : Option ℕ). length (switch_notices o b ++ around w) ≤ 2) (sym none.0)
    (subst (λ (o : Option ℕ). length (switch_notices None o ++ around w) ≤ 2) (sym none.1) (two_notices notice.Enter notice.Exit w w))

-- ---- Those that finish

length_told : (gs : List ℕ) → length (map (told_of notice.Finish) gs) ≡ length gs
length_told [] = refl
length_told (g ∷ gs) = let e = length_told gs in omega (arith, e)

-- ---- No thread runs after a poll, and after the entry of a host call was taken

none_runs : (t : State) → runs_in t.turn ≡ None → running_group t.core t.turn ≡ None
none_runs t none = idle_at t.turn t.core (runs_in t.turn) refl none

entry_none : (x : Setting) (s : State) (o : Option (Mark × Entry)) (l : Label) (t : State) → TakeStep x s o l t → (entry_group o s.core ≡ None) ⊎ (running_group t.core t.turn ≡ None)
entry_none x s None l t h = inl refl
entry_none x s (Some (m, entry.Thread n)) l t h = inl refl
entry_none x s (Some (m, entry.Push i)) l t h = inl refl
entry_none x s (Some (m, entry.Host i)) l t h = inr (none_runs t (stop_idle s _ i _ _ _ l t h))

-- ---- A step in another turn than main's

abbrev Room : State → Label → State → Type 0
Room s l t = length (moment_notices (moment s l t)) + length t.core.groups ≤ 2 + length s.core.groups

alone : (x : Setting) (s : State) (l : Label) (t : State) (p : Turn) → TurnStep x s p l t → is_main_turn p ≡ false →
    (worked_group s.core p ≡ None) ⊎ ((running_group s.core p ≡ None) × (running_group t.core t.turn ≡ None))
alone x s l t turn.Main h other = absurd (cc)
alone x s l t (turn.Futures n) h other = inr (refl, none_runs t (works_idle s (next_polled n s.core) l t h))
alone x s l t (turn.Take b) h other = elim (entry_none x s (next_entry s.core) l t h) [
  | inl none ↦ inl none
  | inr none ↦ inr (refl, none)
]
alone x s l t (turn.Run n) h other = inl refl
alone x s l t turn.Over h other = absurd h

other_room : (x : Setting) (s : State) (l : Label) (t : State) → Step x s l t → is_main_turn s.turn ≡ false → FewerGroups s.core t.core → Room s l t
unfolding Step
other_room x s l t step other finished =
    let gs = s.core.groups in
    let hs = t.core.groups in
    let few = few_told (running_group s.core s.turn) (running_group t.core t.turn) (worked_group s.core s.turn) (alone x s l t s.turn step other) in
    let live = live_few gs (switch_notices (running_group s.core s.turn) (running_group t.core t.turn) ++ around (worked_group s.core s.turn)) in
    let e = ap length (notices_told x s l t step other) ∙ length-append (of_live gs (switch_notices (running_group s.core s.turn) (running_group t.core t.turn) ++ around (worked_group s.core s.turn))) (finish_notices gs hs) in
    omega (arith, few, live, finished, e)

-- ---- Main's

abbrev Fits : Core → List Notice → Core → Type 0
Fits s ns t = length ns + (length (finish_notices s.groups t.groups) + length t.groups) ≤ 2 + length s.groups

same_fits : (s t : Core) → t.groups ≡ s.groups → Fits s [] t
same_fits s t same = rw (same, finish_none s.groups) (omega arith)

abbrev Bound : Core → MainProgress → Type 0
Bound s (Does l new) = Fits s (start_notices (label.Main l) new) new
Bound s Pends = Unit {0}
Bound s (Answers v) = Unit {0}

start_bound : (c : Component) (k : ℕ) (e : Callee) (words : List ℕ) (s : Core) (o : Option Trap) → Bound s (start_act c k e words s o)
start_bound c k e words s None =
    let n = length-append s.groups ((s.made.groups + 1) ∷ []) in
    rw (start_groups c e words s, finish_more s.groups ((s.made.groups + 1) ∷ [])) (omega (arith, n))
start_bound c k e words s (Some t) = rw (trapped_groups s, finish_every s.groups) (let n = length_told s.groups in omega (arith, n))

result_groups : (n : ℕ) (s : Core) → (take_result n s).groups ≡ s.groups
unfolding take_result
result_groups n s = refl

result_bound : (k n : ℕ) (s : Core) (o : Option ℕ) → Bound s (finish_result k n s o)
result_bound k n s None = tt
result_bound k n s (Some v) = same_fits s (take_result n s) (result_groups n s)

finish_bound : (k : ℕ) (s : Core) (x : Started) → Bound s (finish_act k s x)
finish_bound k s (Began n) = result_bound k n s (get s.results n)
finish_bound k s (Refused t) = same_fits s s refl

opened_groups : (s : Core) → (open_spawned s).groups ≡ s.groups
unfolding open_spawned work_queued push_high add_work count_work
opened_groups s = refl

spawned_groups : (c : Component) (h : ℕ) (s : Core) → (main_spawned c h s).groups ≡ s.groups
unfolding main_spawned work_queued push_high add_work count_work
spawned_groups c h s = refl

aborted_groups : (i : ℕ) (s : Core) → (main_aborted i s).groups ≡ s.groups
unfolding main_aborted set_phase on_work
aborted_groups i s = refl

await_bound : (b : Bool) (k : ℕ) (s : Core) → Bound s (unless_pending b (main_label.Await k) s)
await_bound true k s = same_fits s s refl
await_bound false k s = tt

quiet_bound : (b : Bool) (s : Core) → Bound s (unless_pending b main_label.Quiet s)
quiet_bound true s = same_fits s s refl
quiet_bound false s = tt

ready_bound : (b : Bool) (s : Core) → Bound s (unless_pending b main_label.Ready s)
ready_bound true s = same_fits s s refl
ready_bound false s = tt

rule_bound : (c : Component) (k : ℕ) (s : Core) (act : MainAct) → Bound s (main_rule c k s act)
rule_bound c k s (Start e words) = start_bound c k e words s (start_refusal s)
rule_bound c k s (Finish x) = finish_bound k s x
rule_bound c k s (Spawn h) = same_fits s (main_spawned c h s) (spawned_groups c h s)
rule_bound c k s SpawnOpen = same_fits s (open_spawned s) (opened_groups s)
rule_bound c k s (Abort i) = same_fits s (main_aborted i s) (aborted_groups i s)
rule_bound c k s (Await i) = await_bound (is_complete (phase_of i s)) k s
rule_bound c k s Quiet = quiet_bound (not (has_interesting s)) s
rule_bound c k s (Ready i) = ready_bound (is_ready_for_call i s) s
rule_bound c k s (Answer v) = tt

main_room : (s : State) (l : Label) (t : State) → s.turn ≡ turn.Main → running_group t.core t.turn ≡ None → work_notices l s.core ≡ [] → Fits s.core (start_notices l t.core) t.core → Room s l t
main_room s l t at none quiet fits =
    let e = ap length (main_told s l t at none quiet) ∙ length-append (start_notices l t.core) (finish_notices s.core.groups t.core.groups) in
    omega (arith, e, fits)

core_at : (s : State) (new : Core) (m : Main) (p : Turn) → (at_turn s new m p).core ≡ new
unfolding at_turn
core_at s new m p = refl

core_by : (s : State) (new : Core) (m : Main) (p : Turn) (t : State) → t ≡ at_turn s new m p → t.core ≡ new
core_by s new m p t is = ap (λ (u : State). u.core) is ∙ core_at s new m p

module _ (s : State) (at : s.turn ≡ turn.Main) (l : Label) (t : State) where
  done_room : (k : MainLabel) (new : Core) (m : Main) → l ≡ label.Main k → t ≡ at_turn s new m turn.Main → Bound s.core (Does k new) → Room s l t
  done_room k new m shown is bound =
      main_room s l t at (none_runs t (idle_by t _ is (main_idle s new m))) (ap (λ (q : Label). work_notices q s.core) shown)
      (subst (λ (q : Label). Fits s.core (start_notices q t.core) t.core) (sym shown) (subst (λ (d : Core). Fits s.core (start_notices (label.Main k) d) d) (sym (core_by s new m turn.Main t is)) bound))

  left_room : (k : Label) (p : Turn) → l ≡ k → t ≡ at_turn s s.core s.main p → runs_in (at_turn s s.core s.main p).turn ≡ None → work_notices k s.core ≡ [] → start_notices k t.core ≡ [] → Room s l t
  left_room k p shown is none quiet unstarted =
      main_room s l t at (none_runs t (idle_by t _ is none)) (ap (λ (q : Label). work_notices q s.core) shown ∙ quiet)
      (subst (λ (ns : List Notice). Fits s.core ns t.core) (sym (ap (λ (q : Label). start_notices q t.core) shown ∙ unstarted)) (same_fits s.core t.core (ap (λ (d : Core). d.groups) (core_by s s.core s.main p t is))))

  pends_room : l ≡ label.Loop loop_label.MainPends → t ≡ goes_to s s.core (turn.Futures 0) → Room s l t
  pends_room shown is = left_room (label.Loop loop_label.MainPends) (turn.Futures 0) shown is (futures_idle s s.core s.main 0) refl refl

  answers_room : (v : ℕ) → l ≡ label.Main (main_label.Answer v) → t ≡ goes_to s s.core turn.Over → Room s l t
  answers_room v shown is = left_room (label.Main (main_label.Answer v)) turn.Over shown is (over_idle s s.core s.main) refl refl

  script_room : (p : MainPlace) (o : MainOpDef) (q : MainProgress) → MainProgresses s p o q l t → Bound s.core q → Room s l t
  script_room p o (Does k new) h bound = done_room k new _ h.0 h.1 bound
  script_room p o Pends h bound = pends_room h.0 h.1
  script_room p o (Answers v) h bound = answers_room v h.0 h.1

  place_room : (x : Setting) (p : MainPlace) (o : Option MainOpDef) → ScriptStep x s p o l t → Room s l t
  place_room x p None h = pends_room h.0 h.1
  place_room x p (Some o) h = script_room p o _ h (rule_bound x.component (line_of p o) s.core (act_of p o))

  open_room : (q : MainProgress) → OpenProgresses s q l t → Bound s.core q → Room s l t
  open_room (Does k new) h bound = done_room k new s.main h.0 h.1 bound
  open_room Pends h bound = absurd h
  open_room (Answers v) h bound = answers_room v h.0 h.1

  act_room : (x : Setting) → (k : ℕ) × ((act : MainAct) × OpenAct x s k act l t) → Room s l t
  act_room x h = open_room _ h.1.1.1 (rule_bound x.component h.0 s.core h.1.0)

any_room : (s : State) (at : s.turn ≡ turn.Main) (l : Label) (t : State) (x : Setting) → OpenStep x s l t → Room s l t
any_room s at (label.Loop loop_label.MainPends) t x h = pends_room s at (label.Loop loop_label.MainPends) t refl h
any_room s at (label.Loop l) t x h = act_room s at (label.Loop l) t x h
any_room s at (label.Main l) t x h = act_room s at (label.Main l) t x h
any_room s at l t x h = act_room s at l t x h

mains_room : (s : State) (at : s.turn ≡ turn.Main) (l : Label) (t : State) (x : Setting) (m : Main) → MainStep x s m l t → Room s l t
mains_room s at l t x (Scripted p) h = place_room s at l t x p (op_at x.script p) h
mains_room s at l t x Unscripted h = any_room s at l t x h

turn_room : (x : Setting) (s : State) (l : Label) (t : State) (p : Turn) → s.turn ≡ p → TurnStep x s p l t → Step x s l t → FewerIn s.turn s.core t.core → Room s l t
turn_room x s l t turn.Main at h step fewer = mains_room s at l t x s.main h
turn_room x s l t (turn.Futures n) at h step fewer = other_room x s l t step (ap is_main_turn at) (fewer (ap is_main_turn at))
turn_room x s l t (turn.Take b) at h step fewer = other_room x s l t step (ap is_main_turn at) (fewer (ap is_main_turn at))
turn_room x s l t (turn.Run n) at h step fewer = other_room x s l t step (ap is_main_turn at) (fewer (ap is_main_turn at))
turn_room x s l t turn.Over at h step fewer = other_room x s l t step (ap is_main_turn at) (fewer (ap is_main_turn at))

step_room : (x : Setting) (s : State) (l : Label) (t : State) → Step x s l t → FewerIn s.turn s.core t.core → Room s l t
unfolding Step
step_room x s l t step fewer = turn_room x s l t s.turn refl step step fewer

-- ---- A run's notices are at most two for each label, beside the groups that it began with
pub run_room : (x : Setting) (s : State) (ls : List Label) (t : State) (run : Run x s ls t) (a b : Listeners) → AnswersOkAll (history x s ls t run) a b →
    length (notices (history x s ls t run)) + length t.core.groups ≤ 2 * length ls + length s.core.groups
run_room x s [] t run a b answers_ok = let e = ap (λ (u : State). length u.core.groups) run in omega (arith, e)
run_room x s (l ∷ ls) t run a b answers_ok =
    let first = step_room x s l run.0 run.1.0 answers_ok.1.0.fewer in
    let rest = run_room x run.0 ls t run.1.1 answers_ok.0 b answers_ok.1.1 in
    let e = length-append (moment_notices (moment s l run.0)) (notices (history x run.0 ls t run.1.1)) in
    omega (arith, first, rest, e)
