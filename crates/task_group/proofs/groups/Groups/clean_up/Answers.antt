use Rattle.std.proofs.Common.{ap, subst, ◌∙◌, ◌≡◌}
use Rattle.task_group.proofs.GroupLemmas.{known-empty, told-append}
use Rattle.task_group.proofs.groups.Groups.clean_up.Goals as goal
use Rattle.task_group.specs.Counts.{Counts}
use Rattle.task_group.specs.Groups.{Groups, finish_all}
use Rattle.task_group.specs.Listeners.{ToldListeners}

pub invariant_of-self : goal.invariant_of-self
invariant_of-self g c = rw c.finish_each.ensures.live (known-empty c.self.inside.made)

pub returns-clause-told : goal.returns-clause-told
returns-clause-told g c =
    let live : c.self.inside.counts ≡ c.args.self.now.live = ap (λ (t : Groups). t.live) c.self.view_is ∙ c.tell_if_live.ensures.groups.0 in
    let last = c.finish_each.new.listeners in
    told-append _ _ c.args.self.now.listeners _ last c.tell_if_live.ensures.told
    (subst (λ (m : Counts). ToldListeners (finish_all m) c.tell_if_live.new.self.listeners last) live
    (subst (λ (t : Groups). ToldListeners (finish_all c.self.inside.counts) t.listeners last) c.self.view_is c.finish_each.ensures.told))
