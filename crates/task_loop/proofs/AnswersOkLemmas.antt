-- What the listeners of a run were told, and answered with Ok.
use Rattle.laws_labels.proofs.ListLemmas.{finish_none}
use Rattle.laws_labels.proofs.RunTells.{data_tells_nothing, data_runs_mild}
use Rattle.laws_labels.specs.Own.{is_data}
use Rattle.ops_state.specs.declared.error.TaskError.{TaskError}
use Rattle.std.proofs.Common.{ap, refl, subst, sym, ◌∙◌, arith}
use Rattle.std.specs.List.{list_all}
use Rattle.std.specs.Prelude.{Err, IfOk, List, Ok, Result, [], false, true, ℕ, ◌∷◌, ◌≡◌, length, ◌+◌, ◌≤◌, ◌&&◌}
use Rattle.task_group.proofs.GroupLemmas.{told-append, told-none}
use Rattle.task_group.specs.Listeners.{Listeners, ToldListeners, ToldWithHookOk, errors_of}
use Rattle.task_loop.specs.AnswersOk.{AnswersOkAll, is_refused, FewerGroups}
use Rattle.machine_data.specs.Core.{State, Core}
use Rattle.machine_data.specs.declared.label.Label.{Label}
use Rattle.machine_data.specs.declared.records.Notice.{Notice}
use Rattle.machine_data.specs.declared.records.Turn.TheVariants as turn
use Rattle.machine_rules.proofs.Machine.{and_parts}
use Rattle.machine_rules.specs.History.{Moment, history}
use Rattle.machine_rules.specs.Notices.{moment_notices, notices, finish_notices}
use Rattle.machine_rules.specs.Run.{Run}
use Rattle.machine_rules.specs.Stalled.{Setting}
use Rattle.ops_turns.specs.Does.{label_of_step}
use Rattle.ops_turns.specs.declared.mains.MainStep.{MainStep}

-- ---- What is answered with Ok

-- nothing was told before
pub answers_ok_late : (ms : List Moment) (a b c : Listeners) → ToldWithHookOk [] a b → AnswersOkAll ms b c → AnswersOkAll ms a c
answers_ok_late [] a b c q h = record { told = told-append [] [] a b c q.told h.told; hook_is_ok = h.hook_is_ok ∙ q.hook_is_ok }
answers_ok_late (m ∷ ms) a b c q h =
    let first = h.1.0 in
    (h.0, (record { told = told-append [] (moment_notices m) a b h.0 q.told first.told; hook_is_ok = λ e. first.hook_is_ok e ∙ q.hook_is_ok; fewer = first.fewer }, h.1.1))

pub answers_ok_nothing : (l : Listeners) → ToldWithHookOk [] l l
answers_ok_nothing l = record { told = told-none l; hook_is_ok = refl }

-- the same groups are no more
fewer_same_by : (s t : Core) → t.groups ≡ s.groups → FewerGroups s t
fewer_same_by s t same =
    subst (λ (gs : List ℕ). length (finish_notices s.groups gs) + length gs ≤ length s.groups) (sym same)
    (let none = ap length (finish_none s.groups) in omega (arith, none))

-- ops on registers and memory cells tell nothing
pub answers_ok_data : (x : Setting) (s : State) (ls : List Label) (t : State) (n : ℕ) (l : Listeners) (run : Run x s ls t) → s.turn ≡ turn.Run n → list_all is_data ls ≡ true → AnswersOkAll (history x s ls t run) l l
answers_ok_data x s [] t n l run at all = answers_ok_nothing l
answers_ok_data x s (k ∷ ls) t n l run at all =
    let both = and_parts (is_data k) (list_all is_data ls) all in
    let first = data_tells_nothing x s k run.0 n run.1.0 at both.0 in
    let told = subst (λ (ns : List Notice). ToldListeners ns l l) (sym first.1) (told-none l) in
    let mild = data_runs_mild x s (k ∷ []) run.0 n (run.0, (run.1.0, refl)) at (ap (λ b. b && true) both.0) in
    (l, (record { told = told; hook_is_ok = λ e. refl; fewer = λ other. fewer_same_by s.core run.0.core mild.groups }, answers_ok_data x run.0 ls t n l run.1.1 first.0 both.1))

pub all_told : (ms : List Moment) (a b : Listeners) → AnswersOkAll ms a b → ToldListeners (notices ms) a b
all_told [] a b h = h.told
all_told (m ∷ ms) a b h = told-append (moment_notices m) (notices ms) a h.0 b h.1.0.told (all_told ms h.0 b h.1.1)

-- ---- What an op of main passes over

-- the listeners are as before
pub hook_is_ok_same : (r : Result MainStep TaskError) (g h : Listeners) → h ≡ g → IfOk r (λ (q : MainStep). is_refused (label_of_step q) ≡ false → errors_of h ≡ errors_of g)
hook_is_ok_same (Ok q) g h same = λ unrefused. ap errors_of same
hook_is_ok_same (Err e) g h same = tt
