-- A machine that goes on is in order, and gives few numbers.
use Rattle.choice_offers.specs.Choices.{chosen_of}
use Rattle.choice_offers.specs.declared.choice.Choice.{Choice}
use Rattle.laws_states.specs.Order.{is_open}
use Rattle.machine_data.specs.declared.label.Label.{Label}
use Rattle.ops_turns.specs.Turn.{given}
use Rattle.std.proofs.Common.{arith, refl, subst, sym}
use Rattle.std.specs.Prelude.{Bool, false, true, ℕ, ◌*◌, ◌+◌, ◌≡◌, ◌≤◌}
use Rattle.tests_choices.specs.Going.{GoesTo, HasGiven}
use Rattle.trace_machine.proofs.StepLemmas.{none_chosen}
use Rattle.trace_machine.specs.Machines.{Comes, ComesOnly, Goes, IsKept, state_of, turn_at}
use Rattle.trace_machine.specs.declared.machine.Machine.{Machine}
use Rattle.trace_machine.specs.declared.machine.Only.TheVariants as only
use Rattle.trace_machine.specs.declared.machine.Only.{Only}
use Rattle.trace_machine.specs.declared.machine.Went.TheVariants as went
use Rattle.trace_machine.specs.declared.machine.Went.{Went}

more : (a b k n : ℕ) → a ≤ b + n → b ≤ k → a ≤ k + n
more a b k n one two = omega (arith, one, two)

pub stays : (n : ℕ) (m : Machine) → IsKept m → GoesTo n m m
stays n m kept = record { kept = kept; few = λ k given opened. let h = given opened in omega (arith, h) }

-- a step is made where the run isn't over
opened_at : (m : Machine) (c : Choice) (l : Label) (new : Machine) → Goes m c l new → is_open (turn_at m) ≡ true
opened_at m c l new goes = by (is_open (turn_at m)) refl
  where
    by : (b : Bool) → is_open (turn_at m) ≡ b → is_open (turn_at m) ≡ true
    by true e = e
    by false e = absurd (none_chosen m e (chosen_of c) l (state_of new) goes.step)

pub comes_to : (m : Machine) (c : Choice) (w : Went) (new : Machine) → IsKept m → Comes m c w new → GoesTo 2 m new
comes_to m c (went.Did l) new kept goes = record {
  kept = goes.kept;
  few = λ k few opened. more (given new.store.state.core) (given m.store.state.core) k 2 (goes.numbers opened) (few (opened_at m c l new goes));
}
comes_to m c went.Refused new kept comes = subst (λ (k : Machine). GoesTo 2 m k) (sym comes.1) (stays 2 m kept)
comes_to m c went.Over new kept comes = subst (λ (k : Machine). GoesTo 2 m k) (sym comes.1.0) (stays 2 m kept)

pub only_to : (m : Machine) (o : Only) (new : Machine) → IsKept m → ComesOnly m o new → GoesTo 2 m new
only_to m (only.Did l) new kept goes = comes_to m goes.choice (went.Did l) new kept goes.goes
only_to m (only.Open o) new kept comes = subst (λ (k : Machine). GoesTo 2 m k) (sym comes.1) (stays 2 m kept)
only_to m only.Over new kept comes = subst (λ (k : Machine). GoesTo 2 m k) (sym comes.1.0) (stays 2 m kept)

-- one more step
pub further : (labels : ℕ) (m mid new : Machine) → GoesTo (2 * labels) m mid → GoesTo 2 mid new → GoesTo (2 * (labels + 1)) m new
further labels m mid new one two = record {
  kept = two.kept;
  few = λ k few opened. let h = two.few (k + 2 * labels) (one.few k few) opened in omega (arith, h);
}

pub fewer : (a b : ℕ) (m new : Machine) → a ≤ b → GoesTo a m new → GoesTo b m new
fewer a b m new below goes = record {
  kept = goes.kept;
  few = λ k few opened. let h = goes.few k few opened in omega (arith, h, below);
}

pub gives : (a b : ℕ) (m : Machine) → a ≤ b → HasGiven a m → HasGiven b m
gives a b m below few = λ opened. let h = few opened in omega (arith, h, below)
