use Rattle.choice_offers.proofs.op_spots.begin_wait_spot.Goals as goal
use Rattle.core_primitives.specs.StateView.{set_if_any, set_of, thread_of}
use Rattle.laws_choices.specs.Offers.{gives, nothing, of_found}
use Rattle.machine_data.specs.Moves.{waits_cancellable}
use Rattle.machine_data.specs.Read.{instance_of, set_at, task_of}
use Rattle.machine_rules.specs.Sets.{finds_nothing}
use Rattle.std.proofs.Common.{ap, sym, ◌∙◌}
use Rattle.std.specs.Prelude.{Bool, None, Option, Some, if◌then◌else◌, ℕ, ◌≡◌}

pub returns-then-finds_nothing : goal.returns-then-finds_nothing
returns-then-finds_nothing c =
    let s = c.args.core.now in
    let n = thread_of s c.args.thread in
    let named : Some (set_of s c.in-Some.set) ≡ set_at (instance_of n s.core) c.args.handle s.core =
    ap (set_if_any s) (sym c.in-Some.is) ∙ (c.set_named.ensures.is ∙ ap (λ (i : ℕ). set_at i c.args.handle s.core) c.instance_of.ensures) in
    let x = set_of s c.in-Some.set in
    ((c.no_spot.ensures n).0, (c.no_spot.ensures n).1 ∙ (sym (ap (λ (b : Bool). if b then nothing else gives (waits_cancellable (task_of n s.core) s.core) n x s.core) (sym c.finds_nothing.ensures ∙ c.if-finds_nothing.true)) ∙ ap (λ (o : Option ℕ). of_found o (λ x. if finds_nothing n x s.core then nothing else gives (waits_cancellable (task_of n s.core) s.core) n x s.core)) named))

pub returns-in-None : goal.returns-in-None
returns-in-None c =
    let s = c.args.core.now in
    let n = thread_of s c.args.thread in
    let named : None ≡ set_at (instance_of n s.core) c.args.handle s.core =
    ap (set_if_any s) (sym c.in-None.is) ∙ (c.set_named.ensures.is ∙ ap (λ (i : ℕ). set_at i c.args.handle s.core) c.instance_of.ensures) in
    ((c.no_spot-in-None.ensures n).0, (c.no_spot-in-None.ensures n).1 ∙ ap (λ (o : Option ℕ). of_found o (λ x. if finds_nothing n x s.core then nothing else gives (waits_cancellable (task_of n s.core) s.core) n x s.core)) named)
