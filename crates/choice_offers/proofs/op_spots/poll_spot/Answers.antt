use Rattle.choice_offers.proofs.op_spots.poll_spot.Goals as goal
use Rattle.core_primitives.specs.StateView.{set_if_any, thread_of}
use Rattle.laws_choices.specs.Offers.{gives, of_found}
use Rattle.machine_data.specs.Read.{instance_of, set_at}
use Rattle.std.proofs.Common.{ap, sym, ◌∙◌}
use Rattle.std.specs.Prelude.{None, Option, false, ℕ, ◌≡◌}

pub returns-in-None : goal.returns-in-None
returns-in-None c =
    let s = c.args.core.now in
    let n = thread_of s c.args.thread in
    let named : None ≡ set_at (instance_of n s.core) c.args.handle s.core =
    ap (set_if_any s) (sym c.in-None.is) ∙ (c.set_named.ensures.is ∙ ap (λ (i : ℕ). set_at i c.args.handle s.core) c.instance_of.ensures) in
    ((c.no_spot.ensures n).0, (c.no_spot.ensures n).1 ∙ ap (λ (o : Option ℕ). of_found o (λ x. gives false n x s.core)) named)
