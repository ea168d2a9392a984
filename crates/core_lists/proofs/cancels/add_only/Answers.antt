use Rattle.core_lists.proofs.WaitingLists.{only_one}
use Rattle.core_lists.proofs.cancels.add_only.Goals as goal
use Rattle.core_primitives.specs.StateView.{thread_of}
use Rattle.core_records.proofs.Core.{[], ap, map, seen, sym, ◌++◌, ◌∙◌, ◌∷◌}
use Rattle.std.proofs.lemmas.List.{append-nil, map-append}
use Rattle.task_table.specs.declared.id.TableId.{TableId}
use Rattle.task_wait.specs.declared.keys.ThreadKey.{ThreadKey}

pub returns-in_ok-push-in-Some : goal.returns-in_ok-push-in-Some
returns-in_ok-push-in-Some c =
    let a = c.args.parts.now in
    let named = λ (id : TableId ThreadKey). thread_of (seen a) id in
    ap (map named) c.in_ok-push-in-Some.ensures.items
    ∙ (map-append named c.args.list.now.items (c.in-Some.thread ∷ [])
    ∙ ap (λ l. map named c.args.list.now.items ++ l) (sym (only_one _ _ (seen a).core c.requires.only c.in-Some.ensures.some)))

pub returns-in-None : goal.returns-in-None
returns-in-None c =
    let a = c.args.parts.now in
    let named = λ (id : TableId ThreadKey). thread_of (seen a) id in
    sym (append-nil (map named c.args.list.now.items)) ∙ ap (λ l. map named c.args.list.now.items ++ l) (sym c.in-None.ensures.none)
