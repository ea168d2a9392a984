-- The moves of runs, and in which order they take entries.
use Rattle.std.proofs.Common.{ap, subst, sym, ◌∙◌}
use Rattle.std.specs.List.{filter}
use Rattle.std.specs.Prelude.{List, [], refl, ◌++◌, ◌∷◌, ◌≡◌}
use Rattle.machine_data.specs.Core.{Queues, State}
use Rattle.machine_data.specs.declared.label.Label.{Label}
use Rattle.machine_rules.specs.Run.{Run}
use Rattle.machine_rules.specs.Stalled.{Setting}
use Rattle.laws_order.proofs.LineLemmas.{after_more, lawful_more, moves_in_turn}
use Rattle.laws_order.proofs.StepMoves.{steps_move_entries}
use Rattle.laws_order.specs.Moves.{Lawful, Move, RunsBy, RunsMoveEntries, RunsTakeInTurn, StepsMoveEntries, after, at, taken_from, taking}

pub runs_move_entries : RunsMoveEntries
unfolding RunsMoveEntries StepsMoveEntries
runs_move_entries x s [] t run = ([], refl)
runs_move_entries x s (l ∷ ls) t run =
    let first = steps_move_entries x s l run.0 run.1.0 in
    let later = runs_move_entries x run.0 ls t run.1.1 in
    ((taking s ++ first.0) ++ later.0, (first.0, (later.0, (first.1, (later.1, refl)))))

lawful_run : (x : Setting) (s : State) (ls : List Label) (t : State) (run : Run x s ls t) (vs : List Move) → RunsBy x s ls t run vs →
    Lawful vs s.core.queues × (t.core.queues ≡ after vs s.core.queues)
lawful_run x s [] t run vs none = rw none (tt, ap (λ (u : State). u.core.queues) run)
lawful_run x s (l ∷ ls) t run vs moves =
    let m = moves.1.1.0 in
    let q = lawful_run x run.0 ls t run.1.1 moves.1.0 moves.1.1.1.0 in
    rw moves.1.1.1.1 (
      lawful_more (taking s ++ moves.0) moves.1.0 s.core.queues m.lawful (subst (λ (u : Queues). Lawful moves.1.0 u) m.leads q.0),
      q.1 ∙ (ap (after moves.1.0) m.leads ∙ sym (after_more (taking s ++ moves.0) moves.1.0 s.core.queues)),
    )

pub runs_take_in_turn : RunsTakeInTurn
unfolding RunsTakeInTurn
runs_take_in_turn x s ls t run vs moves test off spares m =
    let q = lawful_run x s ls t run vs moves in
    ap (λ (u : Queues). filter test (taken_from m vs ++ at m u)) q.1 ∙ moves_in_turn test vs s.core.queues q.0 off spares m
