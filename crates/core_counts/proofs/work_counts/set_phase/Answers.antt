use Rattle.core_counts.proofs.work_counts.set_phase.Goals as goal
use Rattle.core_counts.specs.Ones.{one_if}
use Rattle.core_records.proofs.Core.{Bool, is_moving, refl, set_phase, subst, sym, ◌+◌, ◌∙◌, ◌≡◌, ◌≤◌}
use Rattle.core_records.proofs.KeptLemmas.{moving_few}
use Rattle.core_records.proofs.WriteLemmas.{moved_sound, moved_writes, moving_counted, work_nowhere}

pub recounted-parts-requires-clause-some : goal.recounted-parts-requires-clause-some
recounted-parts-requires-clause-some c =
    λ some. subst (λ (b : Bool). 1 ≤ c.args.parts.now.kept.moving + one_if b) (sym c.is_moving-is.ensures) (moving_counted c.args.parts.now c.requires c.args.work c.in-Ok.entry.now c.in-Ok.ensures.value (record c.in-Ok.entry.now { work = record c.in-Ok.entry.now.work { phase = c.args.phase } }) refl (sym c.is_moving-was.ensures ∙ some))

pub recounted-parts-requires-clause-few : goal.recounted-parts-requires-clause-few
recounted-parts-requires-clause-few c = moving_few c.args.parts.now c.requires

pub returns-in-Ok-clause-sound : goal.returns-in-Ok-clause-sound
returns-in-Ok-clause-sound c =
    moved_sound c.args.parts.now c.requires c.args.work c.in-Ok.entry.now c.in-Ok.ensures.value (record c.in-Ok.entry.now { work = record c.in-Ok.entry.now.work { phase = c.args.phase } }) refl _
    (subst (λ (b : Bool). c.recounted-parts.result + one_if b ≡ c.args.parts.now.kept.moving + one_if (is_moving (record c.in-Ok.entry.now.work { phase = c.args.phase }))) c.is_moving-was.ensures
    (subst (λ (b : Bool). c.recounted-parts.result + one_if c.is_moving-was.result ≡ c.args.parts.now.kept.moving + one_if b) c.is_moving-is.ensures c.recounted-parts.ensures))

pub returns-in-Ok-clause-new : goal.returns-in-Ok-clause-new
unfolding set_phase
returns-in-Ok-clause-new c =
    moved_writes c.args.parts.now c.requires c.args.work c.in-Ok.entry.now c.in-Ok.ensures.value (record c.in-Ok.entry.now { work = record c.in-Ok.entry.now.work { phase = c.args.phase } }) refl _
    (subst (λ (b : Bool). c.recounted-parts.result + one_if b ≡ c.args.parts.now.kept.moving + one_if (is_moving (record c.in-Ok.entry.now.work { phase = c.args.phase }))) c.is_moving-was.ensures
    (subst (λ (b : Bool). c.recounted-parts.result + one_if c.is_moving-was.result ≡ c.args.parts.now.kept.moving + one_if b) c.is_moving-is.ensures c.recounted-parts.ensures)) _ refl

pub returns-in_default-clause-new : goal.returns-in_default-clause-new
unfolding set_phase
returns-in_default-clause-new c = work_nowhere c.args.parts.now c.requires c.args.work _ c.in_default.ensures.value _
