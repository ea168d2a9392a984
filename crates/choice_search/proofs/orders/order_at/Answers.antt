-- Each thread is taken out by its place among those that are left.
use Rattle.choice_search.proofs.OrderLemmas.{order_end, order_next}
use Rattle.choice_search.proofs.orders.order_at.Goals as goal
use Rattle.std.proofs.Common.{subst, sym, ◌∙◌}
use Rattle.std.specs.Prelude.{ℕ, ◌<◌}

pub threads-preserved : goal.threads-preserved
threads-preserved c =
    order_next c.threads.left.items c.remove-thread.new.self.items c.threads.list c.push.new.self _ c.len-count.result c.threads.rest c.remove-thread.result (c.len-count.ensures ∙ c.threads.left.ok.0)
    (subst (λ (n : ℕ). 0 < n) (c.len.ensures ∙ sym c.len-count.ensures) c.threads-test.true) c.remove-thread.ensures.value
    c.remove-thread.ensures.items c.in_ok-push.ensures.ok c.threads.invariant

pub returns : goal.returns
returns c = order_end c.threads.left.items c.threads.list _ c.len.result c.threads.rest (c.len.ensures ∙ c.threads.left.ok.0) c.threads-test.false c.threads.invariant
