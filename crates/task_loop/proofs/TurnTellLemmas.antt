-- What a turn has told, and what is so of the state once it was told.
use Rattle.laws_labels.specs.Tells.{worked_group}
use Rattle.store_notices.specs.Runs.{AreGroupsBefore, running_in}
use Rattle.store_notices.specs.declared.tells.GroupsBefore.{GroupsBefore}
use Rattle.std.proofs.Common.{ap, refl, subst, sym, ⊎_elim, ◌∙◌}
use Rattle.std.specs.Prelude.{List, false, option_and_then, ℕ, ◌≡◌}
use Rattle.task_group.specs.Listeners.{AnsweredErr, Listeners}
use Rattle.task_loop.proofs.ToldLemmas.{makes_asked, turns_asked}
use Rattle.task_loop.specs.Hooked.{TellsInPart}
use Rattle.task_loop.specs.Told.{TellsPart, TellsTurn, TellsWhole, group_running}
use Rattle.machine_data.specs.Core.{Main}
use Rattle.machine_data.specs.declared.component.Component.{Component}
use Rattle.machine_data.specs.declared.records.Turn.{Turn}
use Rattle.ops_guests.specs.Works.{KeepsWorks, NamesWorks}
use Rattle.machine_rules.specs.Notices.{is_in}
use Rattle.machine_rules.specs.Stalled.{Setting}
use Rattle.ops_turns.specs.Turn.{MakesStep, Turns}
use Rattle.ops_turns.specs.Worked.{tracked_worked_group}
use Rattle.ops_turns.specs.declared.made.MadeStep.{MadeStep}
use Rattle.core_primitives.specs.Groups.{IsAsked, asked, some_if_tracked, CountsEnded}
use Rattle.core_primitives.specs.StateView.{StateView, work_number}

-- ---- The groups before the step of the turn

module _ (s : StateView) (p : Turn) (is : IsAsked s) (zero : is_in s.tags.tracked 0 ≡ false) (a : GroupsBefore) (running : a.running ≡ group_running s p) (worked : a.worked ≡ tracked_worked_group s p) where
  pub are_groups_before : AreGroupsBefore s.core p a
  are_groups_before = record {
    running = running ∙ ap (λ (ks : List ℕ). running_in ks s.core p) is;
    worked = worked ∙ ap (λ (ks : List ℕ). option_and_then (some_if_tracked ks) (worked_group s.core p)) is;
  }

  module _ (left u : StateView) (known : left.tags.tracked ≡ s.tags.tracked) (old new : Listeners) where
    pub tells_turn : CountsEnded left → TellsWhole a left u old new → TellsTurn s p u old new
    tells_turn counted told = record { asked = a; is_asked = are_groups_before; positive = subst (λ (ks : List ℕ). is_in ks 0 ≡ false) is zero; left = left; known = known; counted = counted; told = told }

    pub tells_in_part : TellsPart a left u old new → AnsweredErr old new → TellsInPart s.core p u old new
    tells_in_part told failed = record { asked = a; is_asked = are_groups_before; left = left; known = known ∙ is; told = told; answered = failed }

-- ---- Once it was asked which groups have ended

pub asked_after : (t u : StateView) → u ≡ asked t → IsAsked u
asked_after t u is = subst (λ (v : StateView). IsAsked v) (sym is) refl

pub works_asked : (s t u : StateView) → u ≡ asked t → KeepsWorks s t → KeepsWorks s u
unfolding work_number
works_asked s t u is keeps = subst (λ (v : StateView). KeepsWorks s v) (sym is) keeps

pub names_asked : (s t u : StateView) → u ≡ asked t → NamesWorks s t → NamesWorks s u
unfolding work_number
names_asked s t u is names = subst (λ (v : StateView). NamesWorks s v) (sym is) names

-- ---- Or where the hook answered an error

module _ (a : GroupsBefore) (t u : StateView) (old new : Listeners) (told : TellsPart a t u old new) where
  -- the state is as it was left, but for that
  pub by_part : (P : StateView → Type 0) → P t → ((v : StateView) → v ≡ asked t → P v) → P u
  by_part P left asks = ⊎_elim (λ q. subst P (sym q.same) left) (λ q. asks u q.asked) told

  pub part_core : u.core ≡ t.core
  part_core = by_part (λ v. v.core ≡ t.core) refl (λ v is. ap (λ (w : StateView). w.core) is)

  pub works_part : (s : StateView) → KeepsWorks s t → KeepsWorks s u
  works_part s keeps = by_part (λ v. KeepsWorks s v) keeps (λ v is. works_asked s t v is keeps)

  pub names_part : (s : StateView) → NamesWorks s t → NamesWorks s u
  names_part s names = by_part (λ v. NamesWorks s v) names (λ v is. names_asked s t v is names)

  pub turns_part : (x : Setting) (p : Turn) (m : Main) (s : StateView) (made : MadeStep) (n : Main) → Turns x p m s made n t → Turns x p m s made n u
  turns_part x p m s made n q = by_part (λ v. Turns x p m s made n v) q (λ v is. turns_asked x p m s made n t v is q)

  pub makes_part : (c : Component) (p : Turn) (s : StateView) (made : MadeStep) → MakesStep c p s made t → MakesStep c p s made u
  makes_part c p s made q = by_part (λ v. MakesStep c p s made v) q (λ v is. makes_asked c p s made t v is q)
