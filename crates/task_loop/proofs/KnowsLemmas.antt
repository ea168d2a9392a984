-- What main knows stays over turns in which it has no part.
use Rattle.std.proofs.Common.{◌≡◌, ℕ, Bool, Option, refl}
use Rattle.machine_data.specs.Core.{Main}
use Rattle.machine_data.specs.declared.records.Turn.TheVariants as turn
use Rattle.ops_guests.specs.Works.{KeepsWorks, NamesWorks}
use Rattle.machine_rules.specs.Stalled.{Setting}
use Rattle.ops_turns.proofs.LaterLemmas.{last_by_names, last_by_step, last_by_turned}
use Rattle.ops_turns.specs.Later.{WorksLast}
use Rattle.ops_turns.specs.Turn.{MakesStep, PendsIn, CoreInOrder, TurnedBeside, Turns, idle_line_of}
use Rattle.ops_turns.specs.declared.made.MadeStep.{MadeStep}
use Rattle.core_primitives.specs.StateView.{StateView}

module _ (K : StateView → Type 0) (s t : StateView) (stays : WorksLast s t → K t) where
  pub by_poll : (x : Setting) (m : Main) (n : ℕ) (made : MadeStep) → CoreInOrder x.component (turn.Futures n) s.core → Turns x (turn.Futures n) m s made m t → KeepsWorks s t → K t
  by_poll x m n made in_turn turns names = stays (last_by_step x (turn.Futures n) made.turn m m made.label s t in_turn turns.step names)

  pub by_take : (x : Setting) (b ended : Bool) (m : Main) (made : Option MadeStep) → CoreInOrder x.component (turn.Take ended) s.core → x.idle ≡ idle_line_of b → PendsIn x s.core m (turn.Take ended)
      → TurnedBeside x.component b (turn.Take ended) s made t → KeepsWorks s t → K t
  by_take x b ended m made in_turn idle pends turned names = stays (last_by_turned x (turn.Take ended) m m s t made in_turn (turned x refl idle m pends) names)

  pub by_run : (x : Setting) (m : Main) (n : ℕ) (made : MadeStep) → CoreInOrder x.component (turn.Run n) s.core → MakesStep x.component (turn.Run n) s made t → NamesWorks s t → K t
  by_run x m n made in_turn makes names = stays (last_by_names x (turn.Run n) made.turn m m made.label s t in_turn (makes.step x refl m) names)
