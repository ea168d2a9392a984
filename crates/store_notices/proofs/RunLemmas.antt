-- What runs have told.
use Rattle.std.proofs.Common.{ap, ap₂, append-nil, append_assoc, refl, subst, sym, ◌∙◌, ◌≡◌}
use Rattle.std.specs.Prelude.{List, None, Option, [], false, ℕ, ◌++◌, ◌∷◌}
use Rattle.laws_labels.proofs.RunTells.{data_runs_tell_nothing, runs_tell_on}
use Rattle.laws_labels.proofs.StepTells.{notices_told}
use Rattle.laws_labels.specs.Tells.{worked_group}
use Rattle.store_notices.proofs.SeenLemmas.{among, moves_seen}
use Rattle.store_notices.specs.Moves.{moved, switched}
use Rattle.store_notices.specs.Runs.{OtherTurnsTold, DataTold, HasTold, MainTold, NothingTold, StepTold, moment, running_in, worked_in}
use Rattle.task_group.proofs.GroupLemmas.{told-append, told-none}
use Rattle.task_group.specs.Listeners.{Listeners, ToldListeners}
use Rattle.machine_data.specs.Core.{Core, State}
use Rattle.machine_data.specs.declared.label.Label.{Label}
use Rattle.machine_data.specs.declared.records.Notice.{Notice}
use Rattle.machine_data.specs.declared.records.Turn.{Turn}
use Rattle.machine_data.specs.declared.records.Turn.TheVariants as turn
use Rattle.machine_rules.specs.History.{history}
use Rattle.machine_rules.specs.Notices.{around, finish_notices, is_in, moment_notices, notices, of_live, running_group, start_notices, switch_notices}
use Rattle.machine_rules.specs.Run.{Run}
use Rattle.machine_rules.specs.Stalled.{Setting}

pub nothing_told : NothingTold
nothing_told x s before l = record { added = []; trace = sym (append-nil before); run = refl; told = told-none l }

-- a run goes on by one that tells this
more_told : (x : Setting) (s : State) (before : List Label) (m : State) (mid ls : List Label) (t : State) (old g new : Listeners) →
    HasTold x s before m mid old g → (run : Run x m ls t) → ToldListeners (notices (history x m ls t run)) g new →
    HasTold x s before t (mid ++ ls) old new
more_told x s before m mid ls t old g new h run told =
    let both = runs_tell_on x s h.added m ls t h.run run in
    record {
      added = h.added ++ ls;
      trace = ap (λ (ks : List Label). ks ++ ls) h.trace ∙ append_assoc before h.added ls;
      run = both.0;
      told = subst (λ (ns : List Notice). ToldListeners ns old new) (sym both.1)
          (told-append (notices (history x s h.added m h.run)) (notices (history x m ls t run)) old g new h.told told);
    }

pub step_told_on : StepTold
step_told_on x s before m mid l t old g new h step told =
    more_told x s before m mid (l ∷ []) t old g new h (t, (step, refl))
    (subst (λ (ns : List Notice). ToldListeners ns g new) (sym (append-nil (moment_notices (moment m l t)))) told)

pub data_told : DataTold
data_told x s before m mid ls t n old new h at run all =
    more_told x s before m mid ls t old new new h run
    (subst (λ (ns : List Notice). ToldListeners ns new new) (sym (data_runs_tell_nothing x m ls t n run at all)) (told-none new))

-- the group of the thread that runs, among these
running_among : (gs : List ℕ) (positive : is_in gs 0 ≡ false) (s : Core) (p : Turn) → among gs positive (running_group s p) ≡ running_in gs s p
running_among gs positive s (turn.Run n) = refl
running_among gs positive s _ = refl

pub other_turns_told : OtherTurnsTold
other_turns_told x s l t a step main q positive =
    let gs = s.core.groups in
    ap₂ (λ (r : ℕ) (w : Option ℕ). (switched r (running_in gs t.core t.turn) ++ around w) ++ finish_notices gs t.core.groups) q.running q.worked
    ∙ (sym (ap (λ (ns : List Notice). ns ++ finish_notices gs t.core.groups)
    (moves_seen gs positive (running_group s.core s.turn) (running_group t.core t.turn) (worked_group s.core s.turn)
    ∙ ap₂ (λ (r k : ℕ). switched r k ++ around (worked_in gs s.core s.turn)) (running_among gs positive s.core s.turn) (running_among gs positive t.core t.turn)))
    ∙ sym (notices_told x s l t step main))

pub main_told : MainTold
main_told s l t at none works =
    ap₂ (λ (r : Option ℕ) (w : List Notice).
    start_notices l t.core ++ of_live s.core.groups (switch_notices (running_group s.core s.turn) r ++ w) ++ finish_notices s.core.groups t.core.groups)
    none works
    ∙ (ap (λ (p : Turn). start_notices l t.core ++ of_live s.core.groups (switch_notices (running_group s.core p) None ++ []) ++ finish_notices s.core.groups t.core.groups) at
    ∙ ap (λ (ns : List Notice). ns ++ finish_notices s.core.groups t.core.groups) (append-nil (start_notices l t.core)))
