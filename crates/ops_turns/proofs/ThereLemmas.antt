-- The thread that runs is there.
use Rattle.std.proofs.Common.{ap, refl, subst, sym, ◌∙◌}
use Rattle.std.specs.Prelude.{Bool, List, None, Some, is_some, option_map, true, ℕ, ◌≡◌}
use Rattle.machine_data.specs.Core.{Unscripted}
use Rattle.machine_data.specs.Maps.{get}
use Rattle.machine_data.specs.declared.component.Component.{Component}
use Rattle.machine_data.specs.declared.label.Label.{Label}
use Rattle.machine_data.specs.declared.records.Place.TheVariants as place
use Rattle.machine_data.specs.declared.records.Thread.{Thread}
use Rattle.machine_data.specs.declared.records.Turn.{Turn}
use Rattle.machine_data.specs.declared.records.Turn.TheVariants as turn
use Rattle.ops_turns.proofs.KeptLemmas.{made_in_order}
use Rattle.ops_turns.proofs.OrderLemmas.{none_some, some_from}
use Rattle.ops_turns.proofs.IdleLemmas.{makes_turns}
use Rattle.ops_turns.specs.StepResult.{TakesBeside, TookShown, is_made}
use Rattle.ops_turns.specs.Turn.{CoreInOrder, MakesStep, RunnerThere, running_of, runs_in}
use Rattle.ops_turns.specs.declared.made.StepResult.{StepResult}
use Rattle.ops_turns.specs.declared.made.StepResult.TheVariants as stepped
use Rattle.core_primitives.specs.StateView.{StateView, thread_of}

some_eq : (a b : ℕ) → Some a ≡ Some b → a ≡ b
some_eq a b h = cc

-- It has the turn.
pub core_in_order_there : (c : Component) (p : Turn) (t : StateView) → CoreInOrder c p t.core → running_of t ≡ runs_in p → RunnerThere t
core_in_order_there c (turn.Run k) t in_turn runs n e =
    let at = (in_turn.order Unscripted).in_place.runs k refl in
    subst (λ m. is_some (get t.core.threads m) ≡ true) (some_eq k n (sym runs ∙ e))
    (some_from (λ (x : Thread). x.place) (get t.core.threads k) place.Running at)
core_in_order_there c turn.Main t in_turn runs n e = none_some runs e
core_in_order_there c (turn.Futures k) t in_turn runs n e = none_some runs e
core_in_order_there c (turn.Take b) t in_turn runs n e = none_some runs e
core_in_order_there c turn.Over t in_turn runs n e = none_some runs e

-- where none runs
pub idle_there : (t : StateView) → t.current ≡ None → RunnerThere t
idle_there t idle n e = none_some (ap (option_map (λ i. thread_of t i)) idle) e

-- after an entry was taken
pub took_there : (c : Component) (ended : Bool) (s t : StateView) → CoreInOrder c (turn.Take ended) s.core → (q : StepResult) (before after : List Label) → is_made q ≡ true
    → TookShown c ended s before q t after → RunnerThere t
took_there c ended s t in_turn q before after made took =
    let h = took.made made in
    let makes = h.1.1.0 in
    core_in_order_there c h.0.turn t (made_in_order c (turn.Take ended) s h.0 t in_turn makes) makes.running

-- A taking is no matter of main.
pub took_beside : (c : Component) (b ended : Bool) (s : StateView) (before : List Label) (q : StepResult) (t : StateView) (after : List Label) → (q ≡ stepped.Nothing → ⊥)
    → TookShown c ended s before q t after → TakesBeside c b ended s q t before after
took_beside c b ended s before q t after some took = record {
  made = λ e. let h = took.made e in (h.0, (h.1.0, λ x component idle m pends. makes_turns x (turn.Take ended) s h.0 t (subst (λ (d : Component). MakesStep d (turn.Take ended) s h.0 t) (sym component) h.1.1.0) m (h.1.1.1 x t.core m)));
  nothing = λ e. absurd (some e);
  full = took.full;
  failed = took.failed;
}
