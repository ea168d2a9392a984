-- None before this place has ended.
use Rattle.std.proofs.Common.{ap, arith, get_or, length, refl, subst, sym, ◌∙◌, ◌<◌}
use Rattle.std.specs.Option.{option_map_or}
use Rattle.std.specs.Prelude.{Bool, false, true, ◌≡◌}
use Rattle.task_nursery.proofs.NumberLemmas.{first_found, first_passes}
use Rattle.task_nursery.specs.Children.{has_ended}
use Rattle.task_nursery.specs.Numbers.{numbered}
use Rattle.core_primitives.specs.StateView.{StateView}
use Rattle.task_nursery.proofs.nursery.seek_ended.Goals as goal

pub has_ended_at-requires-clause-of : goal.has_ended_at-requires-clause-of
has_ended_at-requires-clause-of g c = rw c.running.invariant.state c.requires.of

pub returns-then-has_ended_at-clause-first : goal.returns-then-has_ended_at-clause-first
returns-then-has_ended_at-clause-first g c =
    let ns = c.args.running.now in
    let at = numbered c.args.children.now in
    let is : option_map_or (has_ended c.args.store.now.state.core) (at (get_or ns c.running.at 0)) false ≡ true =
    subst (λ (u : StateView). option_map_or (has_ended u.core) (at (get_or ns c.running.at 0)) false ≡ true) c.running.invariant.state (sym c.has_ended_at.ensures.answer ∙ c.if-has_ended_at.true) in
    sym c.running.invariant.first ∙ first_found (has_ended c.args.store.now.state.core) at ns c.running.at c.running-test.true is

pub running-preserved : goal.running-preserved
running-preserved g c =
    let ns = c.args.running.now in
    let within : c.running.at < length ns = c.running-test.true in
    let at = numbered c.args.children.now in
    let is : option_map_or (has_ended c.args.store.now.state.core) (at (get_or ns c.running.at 0)) false ≡ false =
    subst (λ (u : StateView). option_map_or (has_ended u.core) (at (get_or ns c.running.at 0)) false ≡ false) c.running.invariant.state (sym c.has_ended_at.ensures.answer ∙ c.if-has_ended_at.false) in
    record {
      within = omega (arith, within);
      first = first_passes (has_ended c.args.store.now.state.core) at ns c.running.at within is ∙ c.running.invariant.first;
      state = rw c.has_ended_at.ensures.rest c.running.invariant.state;
      rest = rw c.has_ended_at.ensures.rest (rw c.running.invariant.rest refl);
      hosts = c.has_ended_at.ensures.hosts;
    }
