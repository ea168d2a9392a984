use Rattle.core_counts.proofs.member_counts.is_deletable.Goals as goal
use Rattle.core_records.proofs.Core.{ap, ap₂, false, is_deletable, is_deletable_call, not, option_map_or, ◌&&◌, ◌∙◌}

pub returns-in-Some : goal.returns-in-Some
unfolding is_deletable
returns-in-Some c =
    c.both.ensures ∙ ap₂ (λ a b. a && not b) (c.is_deletable_call.ensures ∙ ap (λ o. option_map_or is_deletable_call o false) c.in-Some.ensures.is) c.has_thread-has_thread.ensures

pub returns-in-None : goal.returns-in-None
unfolding is_deletable
returns-in-None c = ap₂ (λ a b. a && not b) (ap (λ o. option_map_or is_deletable_call o false) c.in-None.ensures.is) c.has_thread-has_thread.ensures
