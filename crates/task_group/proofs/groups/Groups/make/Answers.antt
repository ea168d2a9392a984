use Rattle.std.proofs.Common.{◌+◌, ap, subst, sym, ◌∙◌, ◌≡◌}
use Rattle.std.specs.Prelude.{Err, Ok, OnErr, Result}
use Rattle.task_group.proofs.GroupLemmas.{made_back}
use Rattle.task_group.proofs.groups.Groups.make.Goals as goal
use Rattle.task_group.specs.Counts.{Counts}
use Rattle.task_group.specs.Groups.{Groups, IsKnown}

on_err : {T E P : Type 0} (r : Result T E) → P → OnErr r P
on_err (Ok x) p = tt
on_err (Err e) p = p

pub withdraw-requires : goal.withdraw-requires
withdraw-requires g c =
    let known = subst (λ (t : Groups). IsKnown t.live t.made) c.self.view_is c.self.invariant in
    let was : c.self.inside.made ≡ c.args.self.now.made = ap (λ (t : Groups). t.made) c.self.view_is in
    let back = made_back c.args.self.now c.prepare.new.self c.announce-answer.new.self (c.self.inside.made + 1) known c.in-Ok.ensures.ok c.in-Ok.ensures.number c.announce-answer.ensures.groups in
    subst (λ (l : Counts). IsKnown l c.self.inside.made) (sym back) (subst (λ m. IsKnown c.args.self.now.live m) (sym was) known)

pub returns-then-is_err-clause-refused : goal.returns-then-is_err-clause-refused
returns-then-is_err-clause-refused g c =
    let known = subst (λ (t : Groups). IsKnown t.live t.made) c.self.view_is c.self.invariant in
    let back = made_back c.args.self.now c.prepare.new.self c.announce-answer.new.self (c.self.inside.made + 1) known c.in-Ok.ensures.ok c.in-Ok.ensures.number c.announce-answer.ensures.groups in
    on_err c.announce-answer.result (ap (λ (t : Groups). t.live) c.withdraw.ensures ∙ back, ap (λ (t : Groups). t.made) c.withdraw.ensures ∙ ap (λ (t : Groups). t.made) c.self.view_is)
