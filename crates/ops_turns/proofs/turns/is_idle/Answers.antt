use Rattle.std.proofs.Common.{ap, sym, ◌∙◌}
use Rattle.std.specs.Prelude.{not, ◌||◌}
use Rattle.ops_turns.proofs.IdleLemmas.{rest_else, rest_moves, rest_stands, rest_take}
use Rattle.ops_turns.proofs.turns.is_idle.Goals as goal

pub returns-then-not-is_take : goal.returns-then-not-is_take
returns-then-not-is_take g c x in_turn idle m pends = rest_else x _ m c.args.turn (sym c.is_take.ensures ∙ c.if-not-is_take.true)

pub returns-then-not-queues_are_empty : goal.returns-then-not-queues_are_empty
returns-then-not-queues_are_empty g c x in_turn idle m pends = rest_stands x _ m c.args.turn (sym c.queues_are_empty.ensures ∙ c.if-not-queues_are_empty.true)

pub returns-then-has_moving_work : goal.returns-then-has_moving_work
returns-then-has_moving_work g c x in_turn idle m pends = rest_moves x _ m c.args.turn (sym c.has_moving_work.ensures ∙ c.if-has_moving_work.true)

pub returns-then-has_live_work : goal.returns-then-has_live_work
returns-then-has_live_work g c x in_turn idle m pends =
    rest_take x _ m c.args.trap_on_idle idle c.args.turn (sym c.is_take.ensures ∙ c.if-not-is_take.false) (in_turn.order m) (sym c.queues_are_empty.ensures ∙ c.if-not-queues_are_empty.false) (sym c.has_moving_work.ensures ∙ c.if-has_moving_work.false) pends
    ∙ (ap (λ b. b || not c.args.trap_on_idle) (sym c.has_live_work.ensures ∙ c.if-has_live_work.true) ∙ sym c.if-has_live_work.true)

pub returns-else-has_live_work : goal.returns-else-has_live_work
returns-else-has_live_work g c x in_turn idle m pends =
    rest_take x _ m c.args.trap_on_idle idle c.args.turn (sym c.is_take.ensures ∙ c.if-not-is_take.false) (in_turn.order m) (sym c.queues_are_empty.ensures ∙ c.if-not-queues_are_empty.false) (sym c.has_moving_work.ensures ∙ c.if-has_moving_work.false) pends
    ∙ ap (λ b. b || not c.args.trap_on_idle) (sym c.has_live_work.ensures ∙ c.if-has_live_work.false)
