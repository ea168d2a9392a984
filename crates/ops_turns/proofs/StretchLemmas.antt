-- A run goes on by the ops of a stretch.
use Rattle.std.proofs.Common.{ap, ap₂, append-nil, append_assoc, arith, length-append, refl, subst, sym, true, ◌∙◌, ◌++◌, ◌∷◌, []}
use Rattle.std.specs.List.{list_all}
use Rattle.std.specs.Option.{option_map_or}
use Rattle.std.specs.Prelude.{Bool, Err, IfOk, List, None, Ok, Option, Result, Some, slice_get, unwrap_or, ℕ, ◌+◌, ◌<◌, ◌≡◌, ◌≤◌}
use Rattle.laws_labels.specs.Own.{is_data}
use Rattle.machine_data.specs.Core.{Core, Main}
use Rattle.machine_data.specs.Labels.{choice_of}
use Rattle.machine_data.specs.Maps.{Records, get}
use Rattle.machine_data.specs.Read.{callee_of, op_progress_of, no_callee, position_of, registers_of, task_of}
use Rattle.machine_data.specs.Write.{on_thread}
use Rattle.machine_data.specs.declared.component.Callee.{Callee}
use Rattle.machine_data.specs.declared.component.Component.{Component}
use Rattle.machine_data.specs.declared.label.DataLabel.{DataLabel}
use Rattle.machine_data.specs.declared.label.Label.{Label}
use Rattle.machine_data.specs.declared.label.Label.TheVariants as label
use Rattle.machine_data.specs.declared.memory.NoMemory.{NoMemory}
use Rattle.machine_data.specs.declared.op.DataOp.{DataOp}
use Rattle.machine_data.specs.declared.op.Op.{Op}
use Rattle.machine_data.specs.declared.op.Op.TheVariants as op
use Rattle.machine_data.specs.declared.op.TaskOp.TheVariants as task
use Rattle.machine_data.specs.declared.records.Call.{Call}
use Rattle.machine_data.specs.declared.records.OpProgress.TheVariants as op_progress
use Rattle.machine_data.specs.declared.records.Script.{Script}
use Rattle.machine_data.specs.declared.records.Thread.{Thread}
use Rattle.machine_data.specs.declared.records.Turn.{Turn}
use Rattle.machine_data.specs.declared.records.Turn.TheVariants as turn
use Rattle.ops_guests.proofs.CalmLemmas.{calm_picks}
use Rattle.ops_guests.proofs.ImplementLemmas.{implementing_is_step, picking_is_picked}
use Rattle.ops_guests.specs.OpResult.{Implements, PicksFirst}
use Rattle.ops_guests.specs.declared.op_result.OpResult.TheVariants as op_result
use Rattle.machine_rules.proofs.CalmLemmas.{data_calm}
use Rattle.machine_rules.specs.Data.{data_rule}
use Rattle.machine_rules.specs.Picks.{LeavesNoChoice, Picks, Preference}
use Rattle.machine_rules.specs.Progress.{Continues, Progress}
use Rattle.machine_rules.specs.Scripts.{op_of, script_in, script_of}
use Rattle.machine_rules.specs.Stalled.{Setting}
use Rattle.machine_rules.specs.Step.{Step, did, scripted_op_rule}
use Rattle.ops_turns.proofs.ContextLemmas.{context_same, position-context, script-context}
use Rattle.ops_turns.proofs.DriveLemmas.{Run-more, on_more}
use Rattle.ops_turns.proofs.OrderLemmas.{number_at, runner, runs_still}
use Rattle.ops_turns.proofs.RunLemmas.{script_is, settled}
use Rattle.ops_turns.specs.Context.{KeepsBeside, in_context, state_in}
use Rattle.task_table.specs.declared.id.TableId.{TableId}
use Rattle.run_trace.specs.Traced.{Traced}
use Rattle.ops_turns.specs.Drive.{Computed, Computes, KeepsOn, StopsShort}
use Rattle.ops_turns.specs.Later.{SameWorks}
use Rattle.ops_turns.specs.Turn.{CoreInOrder, Turns, running_of, state_at}
use Rattle.ops_turns.specs.declared.context.ThreadContext.{ThreadContext}
use Rattle.ops_turns.specs.declared.made.MadeStep.{MadeStep}
use Rattle.core_primitives.specs.Context.{with_context}
use Rattle.core_primitives.specs.Preferences.{preference}
use Rattle.task_wait.specs.declared.keys.ThreadKey.{ThreadKey}
use Rattle.core_primitives.specs.StateView.{StateView, Tags, on_core, thread_number, thread_of}
use Rattle.ops_guests.specs.Shown.{goes_as}

pub beside_same : (s : StateView) → KeepsBeside s s
beside_same s = record { threads = refl; calls = refl; works = refl; made = refl; tags = refl; current = refl }

pub beside_both : (s t u : StateView) → KeepsBeside s t → KeepsBeside t u → KeepsBeside s u
beside_both s t u a b = record { threads = b.threads ∙ a.threads; calls = b.calls ∙ a.calls; works = b.works ∙ a.works; made = b.made ∙ a.made; tags = b.tags ∙ a.tags; current = b.current ∙ a.current }

pub beside_script : (c : Component) (n : ℕ) (s t : StateView) → KeepsBeside s t → script_of c n t.core ≡ script_of c n s.core
unfolding script_of
beside_script c n s t b = ap₂ (λ (ts : Records Thread) (cs : Records Call). option_map_or (λ (u : Thread). script_in c (option_map_or (λ (x : Call). x.callee) (get cs u.call) no_callee) u.script) (get ts n) []) b.threads b.calls

pub beside_there : (n : ℕ) (s t : StateView) → KeepsBeside s t → (u : Thread) → get s.core.threads n ≡ Some u → get t.core.threads n ≡ Some u
beside_there n s t b u e = ap (λ (ts : Records Thread). get ts n) b.threads ∙ e

-- the context that the thread's record has
pub begins : (n : ℕ) (s : Core) (t : Thread) → get s.threads n ≡ Some t → op_progress_of n s ≡ op_progress.Fresh → (x : ThreadContext) → x.position ≡ position_of n s → x.registers ≡ registers_of n s → in_context n x s ≡ s
begins n s t found fresh x position registers =
    ap (λ p. with_context n p x.registers s) position
    ∙ (ap (λ rs. with_context n (position_of n s) rs s) registers
    ∙ context_same n s t found (sym (ap (λ (o : Option Thread). option_map_or (λ (u : Thread). u.op_progress) o op_progress.Fresh) found) ∙ fresh))

all_more : (test : Label → Bool) (ls : List Label) (l : Label) → list_all test ls ≡ true → test l ≡ true → list_all test (ls ++ l ∷ []) ≡ true
all_more test [] l all one = grind (arith, one)
all_more test (k ∷ ls) l all one = let rest = all_more test ls l in grind (arith, all, one, rest)

-- before the first op
pub computes_none : (c : Component) (p : Turn) (s : StateView) (before : List Label) (added : ℕ) → Computes c p s before added s before added
computes_none c p s before added = record { labels = []; computing = refl; trace = sym (append-nil before); count = omega arith; run = λ x component m. refl }

pub computed_same : (c : Component) (p : Turn) (s : StateView) (before : List Label) (added steps : ℕ) → added ≤ steps → Computed c p s before added s before steps added
computed_same c p s before added steps few = record { more = omega arith; few = few; on = λ x component o trace numbers m on. on; computes = computes_none c p s before added; still = λ is. refl }

-- where a thread runs, so it is after a stretch of its ops
pub computed_run : (c : Component) (n : ℕ) (s : StateView) (before : List Label) (added : ℕ) (t : StateView) (after : List Label) (steps : ℕ) (r : Result ℕ NoMemory) → IfOk r (λ k. (added ≤ k) × (k ≤ steps))
    → IfOk r (λ k. KeepsOn c (turn.Run n) s before added t after k) → IfOk r (λ k. Computes c (turn.Run n) s before added t after k) → IfOk r (λ k. Computed c (turn.Run n) s before added t after steps k)
computed_run c n s before added t after steps (Err e) few on computes = tt
computed_run c n s before added t after steps (Ok k) few on computes = record { more = few.0; few = few.1; on = on; computes = computes; still = λ none. absurd (cc) }

-- where there is no room for the next label
pub stops_at : (c : Component) (n : ℕ) (s : StateView) (before : Traced) (added : ℕ) (t : StateView) (after : Traced) (k steps : ℕ) → k < steps → before.spare + added ≤ k → KeepsOn c (turn.Run n) s before.labels added t after.labels k
    → Computes c (turn.Run n) s before.labels added t after.labels k → StopsShort c (turn.Run n) s before added t after steps
stops_at c n s before added t after k steps few room on computes = record { labels = k; few = few; room = room; on = on; computes = computes; still = λ none. absurd (cc) }

module _ (c : Component) (n : ℕ) (t : StateView) (th : Thread) (found : get t.core.threads n ≡ Some th) (runs : running_of t ≡ Some n) (ops : List Op) (script : script_of c n t.core ≡ ops) (x : ThreadContext) where
  abbrev there : Core
  there = in_context n x t.core

  pub script_there : script_of c n there ≡ ops
  script_there = script-context n t.core th found c x.position x.registers ∙ script

  op_there : (o : Op) → slice_get ops x.position ≡ Some o → op_of c n there ≡ o
  unfolding op_of
  op_there o e =
      ap (λ (os : List Op). unwrap_or (slice_get os (position_of n there)) (op.Task task.Exit)) script_there
      ∙ (ap (λ p. unwrap_or (slice_get ops p) (op.Task task.Exit)) (position-context n t.core th found x.position x.registers)
      ∙ ap (λ (q : Option Op). unwrap_or q (op.Task task.Exit)) e)

  module _ (o : DataOp) (l : DataLabel) (y : ThreadContext) (u : StateView) (beside : KeepsBeside t u) (row : data_rule c n there o ≡ Continues (label.Data l) (in_context n y u.core) n) (here : slice_get ops x.position ≡ Some (op.Data o)) where
    abbrev made : MadeStep
    made = record { label = label.Data l; turn = turn.Run n }

    implements : Implements (did c n there (choice_of (label.Data l))) there (goes_as (label.Data l) n) (in_context n y u.core)
    unfolding did
    implements = subst (λ (q : Op). Implements (scripted_op_rule c n there (choice_of (label.Data l)) q) there (goes_as (label.Data l) n) (in_context n y u.core)) (sym (op_there (op.Data o) here))
        (subst (λ (p : Progress). Implements p there (goes_as (label.Data l) n) (in_context n y u.core)) (sym row) (refl, refl))

    step : (z : Setting) → z.component ≡ c → (m : Main) → Step z (state_at there m (turn.Run n)) (label.Data l) (state_at (in_context n y u.core) m (turn.Run n))
    step z component m =
        subst (Step z (state_at there m (turn.Run n)) (label.Data l)) (settled (goes_as (label.Data l) n) there m (turn.Run n) (in_context n y u.core))
        (implementing_is_step z (state_at there m (turn.Run n)) n (goes_as (label.Data l) n) (in_context n y u.core) refl
        (subst (λ (d : Component). Implements (did d n there (choice_of (label.Data l))) there (goes_as (label.Data l) n) (in_context n y u.core)) (sym component) implements))

    -- it leaves no choice
    calm : LeavesNoChoice (did c n there (choice_of (label.Data l)))
    unfolding did
    calm = subst (λ (q : Op). LeavesNoChoice (scripted_op_rule c n there (choice_of (label.Data l)) q)) (sym (op_there (op.Data o) here)) (data_calm c n there o)

    picks_first : (p : Preference) (z : Setting) → z.component ≡ c → (m : Main) → Picks p z (state_at there m (turn.Run n)) (label.Data l) (state_at (in_context n y u.core) m (turn.Run n))
    picks_first p z component m =
        subst (Picks p z (state_at there m (turn.Run n)) (label.Data l)) (settled (goes_as (label.Data l) n) there m (turn.Run n) (in_context n y u.core))
        (picking_is_picked p z (state_at there m (turn.Run n)) n (goes_as (label.Data l) n) (in_context n y u.core) refl
        (subst (λ (d : Component). PicksFirst p (did d n there (choice_of (label.Data l))) (label.Data l) there (goes_as (label.Data l) n) (in_context n y u.core)) (sym component)
        (calm_picks p n (did c n there (choice_of (label.Data l))) there (goes_as (label.Data l) n) (in_context n y u.core) calm implements)))

    turns : (z : Setting) → z.component ≡ c → (m : Main) → Turns z (turn.Run n) m (state_in n x t) made m (state_in n y u)
    turns z component m = record {
      step = step z component m;
      picks = picks_first (preference (state_in n x t)) z component m;
      running = runs_still t u beside.tags beside.current ∙ runs;
      over = refl;
      pends = tt;
    }

    -- the op is done
    pub keeps_on : (s : StateView) (before mid : List Label) (added k : ℕ) → KeepsOn c (turn.Run n) s before added (state_in n x t) mid k → KeepsOn c (turn.Run n) s before added (state_in n y u) (mid ++ label.Data l ∷ []) (k + 1)
    keeps_on s before mid added k kept z component first trace numbers m going =
        on_more z first trace numbers (turn.Run n) m (state_in n x t) mid k (kept z component first trace numbers m going) made m (state_in n y u) (turns z component m) (mid ++ label.Data l ∷ []) refl refl

    -- and shows a label of its own
    pub computes_more : (s : StateView) (before mid : List Label) (added k : ℕ) → Computes c (turn.Run n) s before added (state_in n x t) mid k → Computes c (turn.Run n) s before added (state_in n y u) (mid ++ label.Data l ∷ []) (k + 1)
    computes_more s before mid added k so_far = record {
      labels = so_far.labels ++ label.Data l ∷ [];
      computing = all_more is_data so_far.labels (label.Data l) so_far.computing refl;
      trace = ap (λ (ls : List Label). ls ++ label.Data l ∷ []) so_far.trace ∙ append_assoc before so_far.labels (label.Data l ∷ []);
      count = let more = length-append so_far.labels (label.Data l ∷ []) in let before = so_far.count in omega (arith, more, before);
      run = λ z component m. Run-more z (state_at s.core m (turn.Run n)) so_far.labels (state_at there m (turn.Run n)) (label.Data l) (state_at (in_context n y u.core) m (turn.Run n)) (so_far.run z component m) (step z component m);
    }

-- what the thread that runs is, and which script it has
pub begun : (c : Component) → (n : ℕ) (s : StateView) → CoreInOrder c (turn.Run n) s.core → get s.core.threads 0 ≡ None → running_of s ≡ Some n → (id : TableId ThreadKey) → s.current ≡ Some id
    → (f : Callee) (k : ℕ) (x : Script) (ops : List Op) → f ≡ callee_of k s.core → k ≡ task_of (thread_of s id) s.core → ((t : Thread) → get s.core.threads (thread_of s id) ≡ Some t → x ≡ t.script) → ops ≡ script_in c f x
    → (t : Thread) × ((get s.core.threads n ≡ Some t) × (script_of c n s.core ≡ ops))
begun c n s order none runs id current f k x ops callee call script read =
    let q = runner c n s order none runs id current in
    let number = number_at n s runs id current in
    let own = script_is c (thread_of s id) s.core q.thread q.here ops f k (position_of (thread_of s id) s.core) x callee call (script q.thread q.here) read refl in
    (q.thread, (subst (λ j. get s.core.threads j ≡ Some q.thread) number q.here, subst (λ j. script_of c j s.core ≡ ops) number own))

-- the context is written back
pub written : (n : ℕ) (s t u : StateView) (id : TableId ThreadKey) (x : ThreadContext) → thread_of s id ≡ n → KeepsBeside s t → u ≡ on_core (with_context (thread_of t id) x.position x.registers) t → u ≡ state_in n x t
written n s t u id x number beside e = e ∙ ap (λ k. on_core (with_context k x.position x.registers) t) (ap (λ (g : Tags). thread_number g id) beside.tags ∙ number)

-- no host work is changed
pub written_works : (s t u : StateView) (k p : ℕ) (registers : List ℕ) → KeepsBeside s t → u ≡ on_core (with_context k p registers) t → SameWorks s u
unfolding with_context on_thread
written_works s t u k p registers beside e = record {
  works = ap (λ (v : StateView). v.core.works) e ∙ beside.works;
  made = ap (λ (v : StateView). v.core.made) e ∙ beside.made;
  tags = ap (λ (v : StateView). v.tags) e ∙ beside.tags;
}
