use Rattle.core_records.proofs.Core.{ap, option_map, seen, Some, subst, sym, ℕ, ◌<◌, ◌∙◌}
use Rattle.core_records.specs.declared.{thread_records.Follower.Follower}
use Rattle.core_queues.proofs.SwitchLemmas.{follower_here, follower_positive, switch_follows}
use Rattle.core_queues.proofs.tops.switch.Goals as goal

pub returns-in-Some-clause-is : goal.returns-in-Some-clause-is
unfolding seen
returns-in-Some-clause-is c =
    let a = c.args.parts.now in
    ap (λ (n : ℕ). Some n) (c.thread_at.ensures ∙ follower_here a c.requires c.in-Some.first (switch_follows a c.requires c.in-Some.first c.in-Some.is)) ∙ sym (ap (option_map (λ (f : Follower). f.number)) c.in-Some.is)

pub returns-in-Some-clause-live : goal.returns-in-Some-clause-live
returns-in-Some-clause-live c =
    let a = c.args.parts.now in
    let follows = switch_follows a c.requires c.in-Some.first c.in-Some.is in
    subst (λ n. 0 < n) (sym (c.thread_at.ensures ∙ follower_here a c.requires c.in-Some.first follows)) (follower_positive a c.requires c.in-Some.first follows)

pub returns-in-None-clause-is : goal.returns-in-None-clause-is
unfolding seen
returns-in-None-clause-is c = sym (ap (option_map (λ (f : Follower). f.number)) c.in-None.is)
