use Rattle.std.proofs.Common.{[], ap, append-nil, arith, Bool, false, filter, if◌then◌else◌, length, List, map, nat_lt, refl, subst, sym, true, ◌+◌, ◌<◌, ◌∙◌, ◌∷◌, ◌≡◌, ℕ}
use Rattle.std.proofs.lemmas.List.{append_assoc, length-append}
use Rattle.std.specs.Prelude.{vec_capacity, ◌++◌, ◌≤◌}
use Rattle.core_counts.specs.Entries.{numbers_of}
use Rattle.core_counts.proofs.endings.end_groups.Goals as goal
use Rattle.core_records.specs.declared.{call_records.TaskGroup.TaskGroup, single.Single.Single}

module _ (finished : ℕ) (e : ℕ × Single TaskGroup) (es : List (ℕ × Single TaskGroup)) where
  passed : (b : Bool) → nat_lt finished e.1.item.number ≡ b → numbers_of finished (e ∷ es) ≡ (if b then e.1.item.number ∷ numbers_of finished es else numbers_of finished es)
  passed true is = ap (λ (b : Bool). map (λ f. f.1.item.number) (if b then e ∷ filter (λ f. nat_lt finished f.1.item.number) es else filter (λ f. nat_lt finished f.1.item.number) es)) is
  passed false is = ap (λ (b : Bool). map (λ f. f.1.item.number) (if b then e ∷ filter (λ f. nat_lt finished f.1.item.number) es else filter (λ f. nat_lt finished f.1.item.number) es)) is

is_above : (f n : ℕ) → f < n → nat_lt f n ≡ true
is_above f n more = grind arith

is_not_above : (f n : ℕ) → n ≤ f → nat_lt f n ≡ false
is_not_above f n less = grind arith

pub loop-place-init : goal.loop-place-init
loop-place-init c = (
  refl,
  (
    refl,
    subst (λ (es : List (ℕ × Single TaskGroup)). length c.args.ended.now.items + length (numbers_of c.args.finished es) ≤ vec_capacity c.args.ended.now)
        (sym (c.into_iter-place-iterator.ensures.into_iter_gives ∙ c.iter-place-items.ensures.entries)) c.requires,
  ),
)

pub push_reserved-requires : goal.push_reserved-requires
push_reserved-requires c =
    let more = is_above c.args.finished c.in-Some.group.now.item.number c.if-group-finished.true in
    let step = ap length (ap (numbers_of c.args.finished) c.in-Some.ensures.steps ∙ passed c.args.finished (c.in-Some._place, c.in-Some.group.now) c.next.new.self true more) in
    let fits = c.loop-place.invariant.1.1 in
    let long = c.loop-place.ended.ok.0 in
    omega (arith, step, fits, long)

pub loop-place-preserved-then-group-finished : goal.loop-place-preserved-then-group-finished
loop-place-preserved-then-group-finished c =
    let more = is_above c.args.finished c.in-Some.group.now.item.number c.if-group-finished.true in
    let step : numbers_of c.args.finished c.loop-place._place-iterator ≡ c.in-Some.group.now.item.number ∷ numbers_of c.args.finished c.next.new.self = ap (numbers_of c.args.finished) c.in-Some.ensures.steps ∙ passed c.args.finished (c.in-Some._place, c.in-Some.group.now) c.next.new.self true more in (
      ap (λ (ns : List ℕ). ns ++ numbers_of c.args.finished c.next.new.self) c.push_reserved.ensures.items
          ∙ (append_assoc c.loop-place.ended.items (c.in-Some.group.now.item.number ∷ []) (numbers_of c.args.finished c.next.new.self)
          ∙ (sym (ap (λ (ns : List ℕ). c.loop-place.ended.items ++ ns) step) ∙ c.loop-place.invariant.0)),
      (
        c.push_reserved.ensures.capacity ∙ c.loop-place.invariant.1.0,
        let all = ap (λ (ns : List ℕ). length ns) c.push_reserved.ensures.items in
            let longer = length-append c.loop-place.ended.items (c.in-Some.group.now.item.number ∷ []) in
            let steps = ap (λ (ns : List ℕ). length ns) step in
            let fits = c.loop-place.invariant.1.1 in
            let same = c.push_reserved.ensures.capacity in
            omega (arith, all, longer, steps, fits, same),
      ),
    )

pub loop-place-preserved : goal.loop-place-preserved
loop-place-preserved c =
    let below = is_not_above c.args.finished c.in-Some.group.now.item.number c.if-group-finished.false in
    let step : numbers_of c.args.finished c.loop-place._place-iterator ≡ numbers_of c.args.finished c.next.new.self = ap (numbers_of c.args.finished) c.in-Some.ensures.steps ∙ passed c.args.finished (c.in-Some._place, c.in-Some.group.now) c.next.new.self false below in (
      sym (ap (λ (ns : List ℕ). c.loop-place.ended.items ++ ns) step) ∙ c.loop-place.invariant.0,
      (c.loop-place.invariant.1.0, let steps = ap (λ (ns : List ℕ). length ns) step in let fits = c.loop-place.invariant.1.1 in omega (arith, steps, fits)),
    )

pub returns-clause-items : goal.returns-clause-items
returns-clause-items c =
    sym (append-nil c.loop-place.ended.items)
    ∙ (sym (ap (λ (es : List (ℕ × Single TaskGroup)). c.loop-place.ended.items ++ numbers_of c.args.finished es) c.in-None.ensures.steps.0)
    ∙ (c.loop-place.invariant.0 ∙ ap (λ (es : List (ℕ × Single TaskGroup)). c.args.ended.now.items ++ numbers_of c.args.finished es) (c.into_iter-place-iterator.ensures.into_iter_gives ∙ c.iter-place-items.ensures.entries)))

pub returns-clause-room : goal.returns-clause-room
returns-clause-room c = c.loop-place.invariant.1.0
