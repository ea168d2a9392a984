-- The steps of a main that is a script, by the rules of its ops.
use Rattle.std.proofs.Common.{◌≡◌, ℕ, List, Option, Some, None, refl, sym, ap, subst, ◌∙◌}
use Rattle.std.specs.Prelude.{slice_get}
use Rattle.ops_guests.specs.Works.{KeepsWorks}
use Rattle.machine_data.specs.declared.component.Component.{Component}
use Rattle.machine_data.specs.declared.label.Label.TheVariants as label
use Rattle.machine_data.specs.declared.label.MainLabel.{MainLabel}
use Rattle.machine_data.specs.declared.label.MainLabel.TheVariants as main_label
use Rattle.machine_data.specs.declared.records.Turn.TheVariants as turn
use Rattle.machine_data.specs.declared.scenario.MainOpDef.{MainOpDef}
use Rattle.machine_data.specs.Core.{Core, MainPlace, Scripted}
use Rattle.machine_rules.specs.MainOps.{Answers, Does, Pends, act_of, advanced_main, line_of, main_rule, op_at}
use Rattle.machine_rules.specs.Step.{MainProgresses, ScriptStep}
use Rattle.machine_rules.specs.Stalled.{is_pending, pends_at}
use Rattle.machine_rules.specs.Turns.{at_turn}
use Rattle.std.proofs.Common.{ap₂, Result, Ok, Err}
use Rattle.ops_state.specs.declared.error.TaskError.{TaskError}
use Rattle.ops_state.specs.declared.error.TaskError.TheVariants as task_error
use Rattle.machine_data.specs.declared.component.Callee.{Callee}
use Rattle.machine_data.specs.declared.trap.Trap.{Trap}
use Rattle.machine_rules.specs.MainOps.{start_act}
use Rattle.ops_calls.specs.MainCalls.{Starts}
use Rattle.core_primitives.specs.Groups.{asked}
use Rattle.core_primitives.specs.StateView.{StateView, work_number}
use Rattle.ops_turns.specs.Main as main
use Rattle.ops_turns.specs.Main.{IsOpOfMain, main_setting}
use Rattle.ops_turns.specs.Turn.{state_at}
use Rattle.std.specs.Prelude.{unwrap_or}
use Rattle.machine_data.specs.declared.component.HostDef.{HostDef}
use Rattle.machine_data.specs.declared.records.WorkCaller.TheVariants as work_caller
use Rattle.machine_rules.specs.Calls.{next_work, work_queued}
use Rattle.machine_rules.specs.MainOps.{main_spawned}
use Rattle.machine_rules.specs.Scripts.{host_at, never_host}

module _ (c : Component) (ops : List MainOpDef) (p : MainPlace) (s : Core) (o : MainOpDef) (at : op_at ops p ≡ Some o) where
  -- the op is done
  pub did_by_rule : (l : MainLabel) (new : Core) → main_rule c (line_of p o) s (act_of p o) ≡ Does l new → IsOpOfMain (label.Main l) → main.Did c ops (Scripted p) s (label.Main l) (Scripted (advanced_main o l p)) new
  unfolding at_turn
  did_by_rule l new row is = record {
    op = is;
    step =
        subst (λ q. ScriptStep (main_setting c ops) (state_at s (Scripted p) turn.Main) p q (label.Main l) (state_at new (Scripted (advanced_main o l p)) turn.Main)) (sym at)
        (subst (λ q. MainProgresses (state_at s (Scripted p) turn.Main) p o q (label.Main l) (state_at new (Scripted (advanced_main o l p)) turn.Main)) (sym row) (refl, refl));
  }

  -- main waits
  pub pends_by_rule : main_rule c (line_of p o) s (act_of p o) ≡ Pends → main.Pends c ops (Scripted p) s (Scripted p) s
  pends_by_rule row = record {
    part = refl;
    core = refl;
    pends = ap (pends_at (main_setting c ops) s p) at ∙ ap is_pending row;
  }

  -- main answers
  pub answers_by_rule : (v : ℕ) → main_rule c (line_of p o) s (act_of p o) ≡ Answers v → main.Answers c ops (Scripted p) s v (Scripted p) s
  unfolding at_turn
  answers_by_rule v row = record {
    part = refl;
    core = refl;
    step =
        subst (λ q. ScriptStep (main_setting c ops) (state_at s (Scripted p) turn.Main) p q (label.Main (main_label.Answer v)) (state_at s (Scripted p) turn.Over)) (sym at)
        (subst (λ q. MainProgresses (state_at s (Scripted p) turn.Main) p o q (label.Main (main_label.Answer v)) (state_at s (Scripted p) turn.Over)) (sym row) (refl, refl));
  }

-- past the script's end main waits for ever
pub pends_past : (c : Component) (ops : List MainOpDef) (p : MainPlace) (s : Core) → op_at ops p ≡ None → main.Pends c ops (Scripted p) s (Scripted p) s
pends_past c ops p s none = record { part = refl; core = refl; pends = ap (pends_at (main_setting c ops) s p) none }

-- ---- What a start resulted in, in the words of its rule

module _ (c : Component) (e : Callee) (words : List ℕ) (s t : StateView) (k : ℕ) where
  pub started_rule : (o : Option Trap) (n : ℕ) → Starts c e words s o (Ok n) t → start_act c k e words s.core o ≡ Does (main_label.Start k n) t.core
  started_rule None n starts = ap₂ (λ i new. Does (main_label.Start k i) new) (sym starts.0) (sym starts.1.core)
  started_rule (Some why) n starts = let no : Ok n ≡ Err (task_error.Trap why) = starts.0 in absurd (cc)

  pub refused_rule : (o : Option Trap) (why : Trap) → Starts c e words s o (Err (task_error.Trap why)) t → start_act c k e words s.core o ≡ Does (main_label.StartRefused why k) t.core
  refused_rule None why starts = let no : task_error.Trap why ≡ task_error.NoMemory = starts.0 in absurd (cc)
  refused_rule (Some other) why starts =
      let same : Path (Result ℕ TaskError) (Err (task_error.Trap why)) (Err (task_error.Trap other)) = starts.0 in
      let equal : other ≡ why = cc in
      ap₂ (λ w new. Does (main_label.StartRefused w k) new) equal (sym starts.1.core)

  -- the ids of works stay
  pub start_names : (o : Option Trap) (r : Result ℕ TaskError) → Starts c e words s o r t → KeepsWorks s t
  start_names (Some why) r h = λ id live. h.1.tags.works id live
  start_names None (Ok n) h = λ id live. h.1.tags.works id live
  start_names None (Err why) h = λ id live. h.1.tags.works id live

-- so they do where it was asked which groups have ended
pub asked_names : (s t : StateView) → KeepsWorks s t → KeepsWorks s (asked t)
unfolding work_number
asked_names s t keeps = keeps

-- ---- A spawn

pub spawned_rule : (c : Component) (h : ℕ) (host : HostDef) (s t : Core) (k n : ℕ) → Some host ≡ slice_get c.hosts h → t ≡ work_queued work_caller.Spawn host None s → n ≡ next_work s → Does (main_label.Spawn k (next_work s)) (main_spawned c h s) ≡ Does (main_label.Spawn k n) t
unfolding main_spawned
spawned_rule c h host s t k n there core number =
    let at : host_at c h ≡ host = ap (λ (o : Option HostDef). unwrap_or o never_host) (sym there) in
    ap₂ (λ i new. Does (main_label.Spawn k i) new) (sym number) (ap (λ (d : HostDef). work_queued work_caller.Spawn d None s) at ∙ sym core)
