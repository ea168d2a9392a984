use Rattle.std.proofs.Common.{ap, ap₂, refl, sym, ◌∙◌}
use Rattle.std.specs.Prelude.{false, is_none, not, ◌||◌}
use Rattle.machine_data.specs.declared.records.Turn.TheVariants as turn
use Rattle.ops_turns.proofs.IdleLemmas.{makes_turns, rest_of, rest_take}
use Rattle.ops_turns.proofs.RestLemmas.{rest_makes}
use Rattle.ops_turns.proofs.turns.rest.Goals as goal
use Rattle.ops_turns.specs.Turn.{idle_line_of}
use Rattle.std.proofs.Common.{subst}
use Rattle.machine_data.specs.declared.component.Component.{Component}
use Rattle.ops_turns.specs.Turn.{CoreInOrder}
use Rattle.ops_turns.proofs.IdleLemmas.{in_order}

pub returns-then-has_moving_work-clause-turned : goal.returns-then-has_moving_work-clause-turned
returns-then-has_moving_work-clause-turned g c d in_turn x component idle m pends =
    let makes = rest_makes x.component (g.W.View.view c.args.w.now) c.requires.current c.requires.none (sym c.has_moving_work.ensures ∙ c.if-has_moving_work.true) in
    makes_turns x (turn.Take false) _ _ _ makes m tt

pub returns-then-has_live_work-clause-turned : goal.returns-then-has_live_work-clause-turned
returns-then-has_live_work-clause-turned g c d in_turn x component idle m pends = (
  rest_take x _ m c.args.trap_on_idle idle (turn.Take false) refl (in_order x d _ m component (in_turn.order m)) (ap is_none c.requires.none) (sym c.has_moving_work.ensures ∙ c.if-has_moving_work.false) pends
      ∙ ap (λ b. b || not c.args.trap_on_idle) (sym c.has_live_work.ensures ∙ c.if-has_live_work.true),
  (refl, refl),
)

pub returns-then-not-trap_on_idle-clause-turned : goal.returns-then-not-trap_on_idle-clause-turned
returns-then-not-trap_on_idle-clause-turned g c d in_turn x component idle m pends = (
  rest_take x _ m c.args.trap_on_idle idle (turn.Take false) refl (in_order x d _ m component (in_turn.order m)) (ap is_none c.requires.none) (sym c.has_moving_work.ensures ∙ c.if-has_moving_work.false) pends
      ∙ ap₂ (λ a b. a || not b) (sym c.has_live_work.ensures ∙ c.if-has_live_work.false) c.if-not-trap_on_idle.true,
  (refl, refl),
)

pub step_deadlock-requires-clause-rest : goal.step_deadlock-requires-clause-rest
step_deadlock-requires-clause-rest g c = rest_of _ c.requires.works c.requires.none (sym c.has_moving_work.ensures ∙ c.if-has_moving_work.false)

pub returns-clause-turned : goal.returns-clause-turned
returns-clause-turned g c d in_turn x component idle m pends = c.step_deadlock.ensures.turns x (subst (λ (y : Component). CoreInOrder y (turn.Take false) (g.W.View.view c.args.w.now).core) (sym component) in_turn) (idle ∙ ap idle_line_of c.if-not-trap_on_idle.false) m pends
