use Rattle.std.proofs.Common.{ap, refl, sym, ◌∙◌}
use Rattle.std.specs.Prelude.{None, Option, Some, false, is_some, ◌≡◌}
use Rattle.task_group.proofs.GroupLemmas.{one_kept, told_nobody}
use Rattle.task_group.proofs.listeners.Listeners.tell_word.Goals as goal
use Rattle.task_group.specs.Heard.{notice_of}
use Rattle.task_group.specs.Listeners.{Listeners}

none_of : {X : Type 0} (o : Option X) → is_some o ≡ false → o ≡ None
none_of None e = refl
none_of (Some x) e = absurd (cc)

pub returns-clause-told : goal.returns-clause-told
returns-clause-told g c = λ yes.
    let n = notice_of c.args.kind c.args.id in
    let pushed = c.push_word.ensures.kept yes in
    let none = none_of c.args.self.now.hook (sym c.is_hooked.ensures.hook ∙ c.if-is_hooked.false) in
    told_nobody n c.args.self.now _ (ap (λ k. k.notices) pushed ∙ ap (λ (s : Listeners). one_kept n s) c.self.view_is)
    (ap (λ k. k.room) pushed ∙ ap (λ (s : Listeners). s.room) c.self.view_is) none (ap (λ (s : Listeners). s.hook) c.self.view_is ∙ none)
