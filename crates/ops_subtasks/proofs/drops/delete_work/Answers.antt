use Rattle.std.proofs.Common.{ap, arith, refl, sym, ◌≡◌, ◌∙◌, ℕ}
use Rattle.ops_subtasks.proofs.DropLemmas.{deleted_gone}
use Rattle.ops_subtasks.proofs.drops.delete_work.Goals as goal
use Rattle.ops_moves.proofs.MoveLemmas.{keeps_all}
use Rattle.machine_data.specs.Maps.{get}
use Rattle.core_primitives.specs.StateView.{work_of}

pub returns-else-work_number-gt0 : goal.returns-else-work_number-gt0
returns-else-work_number-gt0 g c =
    let s = g.W.View.view c.args.w.now in
    let none : work_of s c.args.work ≡ 0 = omega (arith, c.if-work_number-gt0.false, c.work_number.ensures) in
    record {
      core = sym (deleted_gone (work_of s c.args.work) s.core (ap (λ (i : ℕ). get s.core.works i) none ∙ c.none_is_zero.ensures.works));
      current = refl;
      tags = keeps_all _ refl s.tags;
    }
