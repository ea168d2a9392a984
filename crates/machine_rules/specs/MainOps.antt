-- The ops of main.
use Rattle.std.specs.List.{list_any}
use Rattle.std.specs.Option.{option_map_or}
use Rattle.std.specs.Prelude.{Bool, List, None, Option, Some, [], false, is_some, length, not, slice_get, slice_set, true, unwrap_or, ℕ, ◌&&◌, ◌++◌, ◌+◌, ◌-◌, ◌==◌, ◌∷◌}
use Rattle.machine_data.specs.declared.component.Callee.{Callee}
use Rattle.machine_data.specs.declared.component.Component.{Component}
use Rattle.machine_data.specs.declared.component.HostDef.TheVariants as host_def
use Rattle.machine_data.specs.declared.label.MainLabel.{MainLabel}
use Rattle.machine_data.specs.declared.scenario.MainOpDef.{MainOpDef}
use Rattle.machine_data.specs.declared.statuses.Phase.{Phase}
use Rattle.machine_data.specs.declared.trap.Trap.{Trap}
use Rattle.machine_data.specs.declared.records.WorkCaller.{WorkCaller}
use Rattle.machine_data.specs.declared.records.Caller.TheVariants as caller
use Rattle.machine_data.specs.declared.records.Goal.TheVariants as goal
use Rattle.machine_data.specs.declared.label.MainLabel.TheVariants as main_label
use Rattle.machine_data.specs.declared.scenario.MainOpDef.TheVariants as main_op
use Rattle.machine_data.specs.declared.statuses.Phase.TheVariants as phase
use Rattle.machine_data.specs.declared.trap.Trap.TheVariants as trap
use Rattle.machine_data.specs.declared.records.Why.TheVariants as why
use Rattle.machine_data.specs.declared.records.WorkCaller.TheVariants as work_caller
use Rattle.machine_data.specs.Core.{Began, Core, MainPlace, Refused, Started}
use Rattle.machine_data.specs.Maps.{get}
use Rattle.machine_data.specs.Moves.{put_high}
use Rattle.machine_data.specs.Read.{backpressure_of, fits, may_not_enter, phase_of}
use Rattle.machine_data.specs.Write.{add_group, set_phase, set_trapped, take_result}
use Rattle.machine_rules.specs.Calls.{call_made, next_thread, next_work, work_queued}
use Rattle.machine_rules.specs.Cancels.{aborted_phase}
use Rattle.machine_rules.specs.Scripts.{export_at, export_kind, host_at, value_in, values_in}

-- What an op of main is about, its operands read: the call, the work or the instance that it names.
pub data MainAct : Type 0 where
  Start : (callee : Callee) → (words : List ℕ) → MainAct
  Finish : (started : Started) → MainAct
  Spawn : (host : ℕ) → MainAct
  -- a work of its own, which is open
  SpawnOpen : MainAct
  Abort : (work : ℕ) → MainAct
  Await : (work : ℕ) → MainAct
  Quiet : MainAct
  Ready : (instance : ℕ) → MainAct
  Answer : (value : ℕ) → MainAct

-- What such an op results in.
pub data MainProgress : Type 0 where
  Does : (label : MainLabel) → (new : Core) → MainProgress
  Pends : MainProgress
  Answers : (value : ℕ) → MainProgress

-- ---- The ops

-- a group, a call of it and its thread are made, and its start goes to high
unfoldable pub main_started : Component → Callee → List ℕ → Core → Core
main_started c e words s =
    let k = next_thread s in
    put_high k why.Start (call_made caller.Main e (export_kind c e) goal.Main (s.made.groups + 1) words (add_group s))

abbrev pub refusal : Bool → Bool → Option Trap
refusal true fitting = Some trap.CannotEnterComponent
refusal false true = None
refusal false false = Some trap.TableFull

-- why a start by main is refused
unfoldable pub start_refusal : Core → Option Trap
start_refusal s = refusal s.trapped (fits 4 s)

abbrev pub start_act : Component → ℕ → Callee → List ℕ → Core → Option Trap → MainProgress
start_act c k e words s None = Does (main_label.Start k (next_thread s)) (main_started c e words s)
start_act c k e words s (Some t) = Does (main_label.StartRefused t k) (set_trapped s)

abbrev pub finish_result : ℕ → ℕ → Core → Option ℕ → MainProgress
finish_result k n s None = Pends
finish_result k n s (Some v) = Does (main_label.Finish k v) (take_result n s)

abbrev pub finish_act : ℕ → Core → Started → MainProgress
finish_act k s (Began n) = finish_result k n s (get s.results n)
finish_act k s (Refused t) = Does (main_label.FinishRefused t k) s

unfoldable pub main_spawned : Component → ℕ → Core → Core
main_spawned c h s = work_queued work_caller.Spawn (host_at c h) None s

unfoldable pub open_spawned : Core → Core
open_spawned s = work_queued work_caller.Spawn host_def.Open None s

unfoldable pub main_aborted : ℕ → Core → Core
main_aborted i s = set_phase i (aborted_phase (phase_of i s)) s

abbrev pub is_complete : Phase → Bool
is_complete phase.Complete = true
is_complete _ = false

unfoldable pub has_interesting : Core → Bool
has_interesting s = list_any (λ e. e.1.interesting) s.calls.list

-- the instance takes calls now
unfoldable pub is_ready_for_call : ℕ → Core → Bool
is_ready_for_call i s = not (may_not_enter i s) && (backpressure_of i s == 0)

abbrev pub unless_pending : Bool → MainLabel → Core → MainProgress
unless_pending true l s = Does l s
unless_pending false l s = Pends

-- the act of the op that is the k-th of its kind, or names it
abbrev pub main_rule : Component → ℕ → Core → MainAct → MainProgress
main_rule c k s (Start e words) = start_act c k e words s (start_refusal s)
main_rule c k s (Finish x) = finish_act k s x
main_rule c k s (Spawn h) = Does (main_label.Spawn k (next_work s)) (main_spawned c h s)
main_rule c k s SpawnOpen = Does (main_label.Spawn k (next_work s)) (open_spawned s)
main_rule c k s (Abort i) = Does (main_label.Abort (phase_of i s) k) (main_aborted i s)
main_rule c k s (Await i) = unless_pending (is_complete (phase_of i s)) (main_label.Await k) s
main_rule c k s Quiet = unless_pending (not (has_interesting s)) main_label.Quiet s
main_rule c k s (Ready i) = unless_pending (is_ready_for_call i s) main_label.Ready s
main_rule c k s (Answer v) = Answers v

-- ---- What a main may do

-- the component has the export, which takes this many values
abbrev pub takes_words : Component → Callee → ℕ → Bool
takes_words c e n = option_map_or (λ d. d.params == n) (export_at c e) false

abbrev pub is_refusal : Trap → Bool
is_refusal trap.CannotEnterComponent = true
is_refusal trap.TableFull = true
is_refusal _ = false

abbrev pub is_spawn_caller : WorkCaller → Bool
is_spawn_caller work_caller.Spawn = true
is_spawn_caller _ = false

abbrev pub is_spawn : ℕ → Core → Bool
is_spawn i s = option_map_or (λ w. is_spawn_caller w.caller) (get s.works i) false

-- what a main names is there: the export that it starts, with its values, a host, a spawn, an instance; a start that was refused has trapped
-- the store
abbrev pub may_act : Component → Core → MainAct → Bool
may_act c s (Start e words) = takes_words c e (length words)
may_act c s (Finish (Began n)) = true
may_act c s (Finish (Refused t)) = s.trapped && is_refusal t
may_act c s (Spawn h) = is_some (slice_get c.hosts h)
may_act c s SpawnOpen = true
may_act c s (Abort i) = is_spawn i s
may_act c s (Await i) = is_spawn i s
may_act c s Quiet = true
may_act c s (Ready i) = is_some (slice_get c.instances i)
may_act c s (Answer v) = true

-- ---- Main's script

-- default: absent start or spawn
abbrev pub started_at : MainPlace → ℕ → Started
started_at p k = unwrap_or (slice_get p.starts (k - 1)) (Began 0)

-- default: absent start or spawn
abbrev pub spawned_at : MainPlace → ℕ → ℕ
spawned_at p k = unwrap_or (slice_get p.spawns (k - 1)) 0

abbrev pub act_of : MainPlace → MainOpDef → MainAct
act_of p (main_op.Start e xs) = Start e (values_in p.registers xs)
act_of p (main_op.Finish k r) = Finish (started_at p k)
act_of p (main_op.Spawn h) = Spawn h
act_of p (main_op.Abort k) = Abort (spawned_at p k)
act_of p (main_op.Await k) = Await (spawned_at p k)
act_of p main_op.Quiet = Quiet
act_of p (main_op.Ready e) = Ready e.instance
act_of p (main_op.Answer x) = Answer (value_in p.registers x)

-- the K of the op: that which it names, else the next one of its kind
abbrev pub line_of : MainPlace → MainOpDef → ℕ
line_of p (main_op.Start e xs) = length p.starts + 1
line_of p (main_op.Finish k r) = k
line_of p (main_op.Spawn h) = length p.spawns + 1
line_of p (main_op.Abort k) = k
line_of p (main_op.Await k) = k
line_of p _ = 0

abbrev pub after_op : MainPlace → MainPlace
after_op p = record p { position = p.position + 1 }

abbrev pub finished_into : MainOpDef → ℕ → MainPlace → MainPlace
finished_into (main_op.Finish k r) v p = record p { registers = slice_set p.registers r v }
finished_into _ v p = p

-- what the label of an op leaves in main's part
abbrev pub noted : MainOpDef → MainLabel → MainPlace → MainPlace
noted op (main_label.Start k n) p = record p { starts = p.starts ++ Began n ∷ [] }
noted op (main_label.StartRefused t k) p = record p { starts = p.starts ++ Refused t ∷ [] }
noted op (main_label.Finish k v) p = finished_into op v p
noted op (main_label.Spawn k i) p = record p { spawns = p.spawns ++ i ∷ [] }
noted op _ p = p

-- main's part, once its op has shown the label
abbrev pub advanced_main : MainOpDef → MainLabel → MainPlace → MainPlace
advanced_main op l p = after_op (noted op l p)

-- main's op; past the script's end there is none, and nothing is lawful but to pend
abbrev pub op_at : List MainOpDef → MainPlace → Option MainOpDef
op_at ops p = slice_get ops p.position
