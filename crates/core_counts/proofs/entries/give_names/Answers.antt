use Rattle.std.proofs.Common.{if◌then◌else◌, ap, arith, Bool, filter, List, map, nat_lt, refl, sym, true, false, ◌∙◌, ◌∷◌, ◌≡◌, ℕ}
use Rattle.core_counts.specs.Entries.{above}
use Rattle.table_lists.specs.GivenPlaces.{Places, given_each}
use Rattle.core_records.specs.declared.{call_records.TaskGroup.TaskGroup, single.Single.Single}
use Rattle.core_counts.proofs.entries.give_names.Goals as goal

module _ (finished : ℕ) (e : ℕ × Single TaskGroup) (es : List (ℕ × Single TaskGroup)) where
  passed : (b : Bool) → nat_lt finished e.1.item.number ≡ b → above finished (e ∷ es) ≡ (if b then e.0 ∷ above finished es else above finished es)
  passed true is = ap (λ (b : Bool). map (λ f. f.0) (if b then e ∷ filter (λ f. nat_lt finished f.1.item.number) es else filter (λ f. nat_lt finished f.1.item.number) es)) is
  passed false is = ap (λ (b : Bool). map (λ f. f.0) (if b then e ∷ filter (λ f. nat_lt finished f.1.item.number) es else filter (λ f. nat_lt finished f.1.item.number) es)) is

pub loop-name-init : goal.loop-name-init
loop-name-init c = refl

pub loop-name-preserved-then-group-finished : goal.loop-name-preserved-then-group-finished
loop-name-preserved-then-group-finished c =
    let more : nat_lt c.args.finished c.in-Some.group.now.item.number ≡ true = let less = c.if-group-finished.true in grind (arith, less) in
    ap (λ (places : Places). given_each (above c.args.finished c.next.new.self) places) c.give.ensures
    ∙ (sym (ap (λ (names : List ℕ). given_each names c.loop-name.places) (passed c.args.finished (c.in-Some.name, c.in-Some.group.now) c.next.new.self true more))
    ∙ (sym (ap (λ (es : List (ℕ × Single TaskGroup)). given_each (above c.args.finished es) c.loop-name.places) c.in-Some.ensures.steps) ∙ c.loop-name.invariant))

pub loop-name-preserved : goal.loop-name-preserved
loop-name-preserved c =
    let below : nat_lt c.args.finished c.in-Some.group.now.item.number ≡ false = let less = c.if-group-finished.false in grind (arith, less) in
    sym (ap (λ (names : List ℕ). given_each names c.loop-name.places) (passed c.args.finished (c.in-Some.name, c.in-Some.group.now) c.next.new.self false below))
    ∙ (sym (ap (λ (es : List (ℕ × Single TaskGroup)). given_each (above c.args.finished es) c.loop-name.places) c.in-Some.ensures.steps) ∙ c.loop-name.invariant)

pub returns : goal.returns
returns c =
    sym (ap (λ (es : List (ℕ × Single TaskGroup)). given_each (above c.args.finished es) c.loop-name.places) c.in-None.ensures.steps.0)
    ∙ (c.loop-name.invariant ∙ ap (λ (es : List (ℕ × Single TaskGroup)). given_each (above c.args.finished es) c.args.places.now) (c.into_iter-name-iterator.ensures.into_iter_gives ∙ c.iter-name-items.ensures.entries))
