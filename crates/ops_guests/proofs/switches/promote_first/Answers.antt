use Rattle.std.proofs.Common.{refl, sym, ◌∙◌}
use Rattle.ops_guests.proofs.SwitchLemmas.{comes_by_id, yielded_live}
use Rattle.ops_guests.proofs.switches.promote_first.Goals as goal
use Rattle.core_primitives.specs.StateView.{thread_of}

pub promote_unless-requires : goal.promote_unless-requires
promote_unless-requires g c = yielded_live _ (g.W.View.view c.args.w.now).core c.none_is_zero.ensures.threads (sym c.has_yielded.ensures ∙ c.if-not-has_yielded.false)

pub returns-then-not-has_yielded : goal.returns-then-not-has_yielded
returns-then-not-has_yielded g c =
    let s = g.W.View.view c.args.w.now in
    comes_by_id (thread_of s c.args.thread) _ c.args.handle (thread_of s c.in-Some.other) _ s s _ c.none_is_zero.ensures.threads c.requires c.instance_of-instance.ensures c.in-Some.ensures (λ e. c.if-number.false (c.number.ensures ∙ (e ∙ sym c.number-number.ensures))) (sym c.if-not-has_yielded.true ∙ c.has_yielded.ensures) (refl, refl)

pub returns : goal.returns
returns g c =
    let s = g.W.View.view c.args.w.now in
    comes_by_id (thread_of s c.args.thread) _ c.args.handle (thread_of s c.in-Some.other) _ s _ _ c.none_is_zero.ensures.threads c.requires c.instance_of-instance.ensures c.in-Some.ensures (λ e. c.if-number.false (c.number.ensures ∙ (e ∙ sym c.number-number.ensures))) (sym c.if-not-has_yielded.false ∙ c.has_yielded.ensures) (refl, c.promote_unless.ensures)
