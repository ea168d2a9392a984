use Rattle.std.proofs.Common.{List, [], ap₂, arith, length, sym, ℕ, ◌++◌, ◌<◌, ◌∙◌, ◌∷◌}
use Rattle.std.proofs.lemmas.List.{map_more, take_more_set}
use Rattle.std.proofs.Math.ListN.{length-set}
use Rattle.machine_rules.specs.Scripts.{value_of}
use Rattle.core_primitives.specs.StateView.{thread_of}
use Rattle.ops_subtasks.proofs.operands.read_operands.Goals as goal

pub loop-place-preserved : goal.loop-place-preserved
loop-place-preserved g c =
    let s = g.W.View.view c.args.w.now in
    let f = value_of (thread_of s c.args.thread) s.core in
    let i = c.loop-place.place in
    let size = c.loop-place.invariant.1 in
    let room : i < length c.loop-place.words = omega arith in (
      take_more_set c.loop-place.words i c.value_of.result room
          ∙ (ap₂ (λ (xs : List ℕ) (y : ℕ). xs ++ y ∷ []) c.loop-place.invariant.0 c.value_of.ensures ∙ sym (map_more f c.args.operands.now i _ c.loop-place-test.true)),
      length-set c.loop-place.words i c.value_of.result ∙ size,
    )
