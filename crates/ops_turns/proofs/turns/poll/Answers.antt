use Rattle.std.proofs.Common.{subst, sym}
use Rattle.std.specs.Prelude.{ℕ, ◌<◌}
use Rattle.ops_turns.proofs.IdleLemmas.{blocked_out, makes_turns, polled_live, polled_unqueued}
use Rattle.ops_turns.proofs.turns.poll.Goals as goal

pub step_poll-requires-clause-live : goal.step_poll-requires-clause-live
step_poll-requires-clause-live g c = subst (λ (k : ℕ). 0 < k) (sym c.requires.number) (polled_live c.args.polled _ _ c.none_is_zero.ensures.works c.requires.next.next)

pub step_poll-requires-clause-blocked : goal.step_poll-requires-clause-blocked
step_poll-requires-clause-blocked g c = blocked_out _ _ c.requires.may.placed

pub step_poll-requires-clause-unqueued : goal.step_poll-requires-clause-unqueued
step_poll-requires-clause-unqueued g c = polled_unqueued c.args.polled _ _ c.requires.may.works c.requires.next.next

pub returns-clause-turns : goal.returns-clause-turns
returns-clause-turns g c x m pends = makes_turns x _ _ _ _ (c.step_poll.ensures.makes x.component) m (c.step_poll.ensures.pends x m pends)
