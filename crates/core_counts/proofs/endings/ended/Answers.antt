use Rattle.std.proofs.Common.{arith, refl, ◌∙◌}
use Rattle.core_counts.proofs.EndedLemmas.{ordered, ordered_seen, ordered_sound}
use Rattle.core_counts.proofs.endings.ended.Goals as goal

pub returns : goal.returns
returns c =
    let a = c.args.parts.now in
    let v = c.sort_unstable.new.self in
    let moved = c.sort_unstable.ensures.permutation in
    let long = c.sort_unstable.ensures.len in
    let new = v.ok.0 in
    let old = a.ended.ok.0 in (
      (refl, (λ w. tt), (ordered_sound a c.requires v moved (omega (arith, long, new, old)) c.sort_unstable.ensures.capacity, ordered_seen a c.requires v moved)),
      record { numbers = c.as_slice.ensures.value ∙ ordered a c.requires v moved c.sort_unstable.ensures.sorted; same = tt },
    )
