use Rattle.core_counts.proofs.work_counts.set_course.Goals as goal
use Rattle.core_counts.specs.Ones.{one_if}
use Rattle.core_records.proofs.Core.{Bool, is_moving, IsSoundCore, Node, Option, refl, seen, set_course, subst, sym, ◌+◌, ◌∙◌, ◌≡◌, ◌≤◌}
use Rattle.core_records.specs.declared.{parts.CoreParts.CoreParts}
use Rattle.core_records.proofs.KeptLemmas.{moving_few}
use Rattle.core_records.proofs.WriteLemmas.{moved_sound, moved_writes, moving_counted, work_nowhere}

pub recounted-parts-requires-clause-some : goal.recounted-parts-requires-clause-some
recounted-parts-requires-clause-some c =
    λ some. subst (λ (b : Bool). 1 ≤ c.args.parts.now.kept.moving + one_if b) (sym c.is_moving-is.ensures) (moving_counted c.args.parts.now c.requires c.args.work c.in-Ok.entry.now c.in-Ok.ensures.value (record c.in-Ok.entry.now { work = record c.in-Ok.entry.now.work { course = c.args.course } }) refl (sym c.is_moving-was.ensures ∙ some))

pub recounted-parts-requires-clause-few : goal.recounted-parts-requires-clause-few
recounted-parts-requires-clause-few c = moving_few c.args.parts.now c.requires

-- nothing hangs on where the search for the next live work begins
begun_sound : (a : CoreParts) (o : Option Node) → IsSoundCore a → IsSoundCore (record a { polled_last = o })
unfolding IsSoundCore
begun_sound a o sound = sound

begun_seen : (a : CoreParts) (o : Option Node) → seen (record a { polled_last = o }) ≡ seen a
unfolding seen
begun_seen a o = refl

pub returns-in-Ok-clause-sound : goal.returns-in-Ok-clause-sound
returns-in-Ok-clause-sound c =
    begun_sound _ _
    (moved_sound c.args.parts.now c.requires c.args.work c.in-Ok.entry.now c.in-Ok.ensures.value (record c.in-Ok.entry.now { work = record c.in-Ok.entry.now.work { course = c.args.course } }) refl _
    (subst (λ (b : Bool). c.recounted-parts.result + one_if b ≡ c.args.parts.now.kept.moving + one_if (is_moving (record c.in-Ok.entry.now.work { course = c.args.course }))) c.is_moving-was.ensures
    (subst (λ (b : Bool). c.recounted-parts.result + one_if c.is_moving-was.result ≡ c.args.parts.now.kept.moving + one_if b) c.is_moving-is.ensures c.recounted-parts.ensures)))

pub returns-in-Ok-clause-new : goal.returns-in-Ok-clause-new
unfolding set_course
returns-in-Ok-clause-new c =
    begun_seen _ _
    ∙ moved_writes c.args.parts.now c.requires c.args.work c.in-Ok.entry.now c.in-Ok.ensures.value (record c.in-Ok.entry.now { work = record c.in-Ok.entry.now.work { course = c.args.course } }) refl _
    (subst (λ (b : Bool). c.recounted-parts.result + one_if b ≡ c.args.parts.now.kept.moving + one_if (is_moving (record c.in-Ok.entry.now.work { course = c.args.course }))) c.is_moving-was.ensures
    (subst (λ (b : Bool). c.recounted-parts.result + one_if c.is_moving-was.result ≡ c.args.parts.now.kept.moving + one_if b) c.is_moving-is.ensures c.recounted-parts.ensures)) _ refl

pub returns-in_default-clause-new : goal.returns-in_default-clause-new
unfolding set_course
returns-in_default-clause-new c = work_nowhere c.args.parts.now c.requires c.args.work _ c.in_default.ensures.value _
