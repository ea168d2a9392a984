use Rattle.std.proofs.Common.{ap, sym, ◌∙◌}
use Rattle.std.specs.Option.{option_map}
use Rattle.std.specs.Result.{is_ok}
use Rattle.task_group.proofs.GroupLemmas.{one_kept, told_hook, told_nobody}
use Rattle.task_group.proofs.listeners.Listeners.tell.Goals as goal
use Rattle.task_group.proofs.listeners.Listeners.tell.Goals.{in-Some, in-None}
use Rattle.task_group.specs.Heard.{notice_of}
use Rattle.task_group.specs.Listeners.{Listeners}

pub returns-clause-told : goal.returns-clause-told
returns-clause-told g c =
    let n = notice_of c.args.kind c.args.id in
    let l = c.args.self.now in
    let kept = ap (λ k. k.notices) c.push.ensures ∙ ap (λ (s : Listeners). one_kept n s) c.self.view_is in
    let room = ap (λ k. k.room) c.push.ensures ∙ ap (λ (s : Listeners). s.room) c.self.view_is in
    elim c.match-self.branch [
      | in-Some w ↦ told_hook n l _ (ap (λ x. x.kept.notices) w.self-inside-is ∙ kept) (ap (λ x. x.kept.room) w.self-inside-is ∙ room)
          (g.H.TaskGroupHook.heard w.in-Some.hook) (g.H.TaskGroupHook.heard w.tell.new.hook) (is_ok w.tell.result)
          (sym (ap (λ (s : Listeners). s.hook) c.self.view_is) ∙ ap (option_map g.H.TaskGroupHook.heard) w.in-Some.is)
          (ap (λ x. option_map g.H.TaskGroupHook.heard x.hook) w.self-inside-is)
          w.tell.ensures
      | in-None w ↦ told_nobody n l _ (ap (λ x. x.kept.notices) w.self-inside-is ∙ kept) (ap (λ x. x.kept.room) w.self-inside-is ∙ room)
          (sym (ap (λ (s : Listeners). s.hook) c.self.view_is) ∙ ap (option_map g.H.TaskGroupHook.heard) w.in-None.is)
          (ap (λ x. option_map g.H.TaskGroupHook.heard x.hook) w.self-inside-is ∙ ap (option_map g.H.TaskGroupHook.heard) w.in-None.is)
    ]
