use Rattle.std.proofs.Common.{is_ok}
use Rattle.std.proofs.lemmas.List.{append-nil}
use Rattle.std.specs.Prelude.{cond, List, nat_lt, ◌++◌, ◌∷◌}
use Rattle.core_removals.proofs.SettleLemmas.{end_fits, group_stays, groups_counted, none_above, one_above, settled_seen, settled_sound, use_counted}
use Rattle.core_removals.proofs.group_removals.settle_counted.Goals as goal
use Rattle.core_records.proofs.Core.{[], ap, arith, false, IsSoundCore, refl, seen, sym, true, ◌-◌, ◌<◌, ◌∙◌, ◌≡◌, ◌≤◌, Bool, ℕ}
use Rattle.core_records.proofs.TrackedLemmas.{with_one}

is_above : (f n : ℕ) → f < n → nat_lt f n ≡ true
is_above f n more = grind arith

is_not_above : (f n : ℕ) → n ≤ f → nat_lt f n ≡ false
is_not_above f n less = grind arith

with_it : (b : Bool) (n : ℕ) (ns : List ℕ) → b ≡ true → ns ++ n ∷ [] ≡ with_one b n ns
with_it b n ns is = ap (λ d. ns ++ cond d (n ∷ []) []) (sym is)

without_it : (b : Bool) (n : ℕ) (ns : List ℕ) → b ≡ false → ns ≡ with_one b n ns
without_it b n ns is = sym (append-nil ns) ∙ ap (λ d. ns ++ cond d (n ∷ []) []) (sym is)

pub returns-then-found-gt0-clause-new : goal.returns-then-found-gt0-clause-new
returns-then-found-gt0-clause-new c = group_stays c.args.parts.now c.requires.sound c.args.group c.args.found c.requires.item c.if-found-gt0.true

pub take-requires : goal.take-requires
take-requires c = sym (ap is_ok c.requires.item)

pub overflow_sub-parts : goal.overflow_sub-parts
overflow_sub-parts c = let few = groups_counted c.args.parts.now c.requires.sound c.args.group c.args.found c.requires.item (let none = c.if-found-gt0.false in omega arith) in let one = one_above c.args.parts.now.finished c.args.found.number c.if-found-parts.true in omega arith

pub overflow_sub-parts-then-found-parts : goal.overflow_sub-parts-then-found-parts
overflow_sub-parts-then-found-parts c = let few = use_counted c.args.parts.now c.requires.sound c.args.group c.args.found c.requires.item (let none = c.if-found-gt0.false in omega arith) in let one = one_above c.args.parts.now.finished c.args.found.number c.if-found-parts.true in omega arith

pub push_reserved-requires : goal.push_reserved-requires
push_reserved-requires c = let fits = end_fits c.args.parts.now c.requires.sound c.args.group c.args.found c.requires.item (let none = c.if-found-gt0.false in omega arith) c.if-found-parts.true in omega (arith, fits)

pub returns-then-found-parts-clause-sound : goal.returns-then-found-parts-clause-sound
unfolding IsSoundCore
returns-then-found-parts-clause-sound c =
    settled_sound c.args.parts.now c.requires.sound c.args.group c.args.found c.requires.item (let none = c.if-found-gt0.false in omega arith) (c.args.parts.now.kept.used - 1) (c.args.parts.now.kept.groups - 1)
    (let few = use_counted c.args.parts.now c.requires.sound c.args.group c.args.found c.requires.item (let none = c.if-found-gt0.false in omega arith) in let one = one_above c.args.parts.now.finished c.args.found.number c.if-found-parts.true in omega arith)
    (let few = groups_counted c.args.parts.now c.requires.sound c.args.group c.args.found c.requires.item (let none = c.if-found-gt0.false in omega arith) in let one = one_above c.args.parts.now.finished c.args.found.number c.if-found-parts.true in omega arith)
    c.push_reserved.new.self
    (c.push_reserved.ensures.items ∙ with_it _ c.args.found.number c.args.parts.now.ended.items (is_above c.args.parts.now.finished c.args.found.number c.if-found-parts.true)) c.push_reserved.ensures.capacity
    c.take.new.self c.take.ensures.deleted c.take.ensures.sound

pub returns-then-found-parts-clause-new : goal.returns-then-found-parts-clause-new
unfolding seen
returns-then-found-parts-clause-new c =
    settled_seen c.args.parts.now c.requires.sound c.args.group c.args.found c.requires.item (let none = c.if-found-gt0.false in omega arith) (c.args.parts.now.kept.used - 1) (c.args.parts.now.kept.groups - 1)
    (let few = use_counted c.args.parts.now c.requires.sound c.args.group c.args.found c.requires.item (let none = c.if-found-gt0.false in omega arith) in let one = one_above c.args.parts.now.finished c.args.found.number c.if-found-parts.true in omega arith)
    (let few = groups_counted c.args.parts.now c.requires.sound c.args.group c.args.found c.requires.item (let none = c.if-found-gt0.false in omega arith) in let one = one_above c.args.parts.now.finished c.args.found.number c.if-found-parts.true in omega arith)
    c.push_reserved.new.self
    (c.push_reserved.ensures.items ∙ with_it _ c.args.found.number c.args.parts.now.ended.items (is_above c.args.parts.now.finished c.args.found.number c.if-found-parts.true)) c.push_reserved.ensures.capacity
    c.take.new.self c.take.ensures.deleted

pub returns-else-found-parts-clause-sound : goal.returns-else-found-parts-clause-sound
unfolding IsSoundCore
returns-else-found-parts-clause-sound c =
    settled_sound c.args.parts.now c.requires.sound c.args.group c.args.found c.requires.item (let none = c.if-found-gt0.false in omega arith) c.args.parts.now.kept.used c.args.parts.now.kept.groups
    (let none = none_above c.args.parts.now.finished c.args.found.number c.if-found-parts.false in omega arith)
    (let none = none_above c.args.parts.now.finished c.args.found.number c.if-found-parts.false in omega arith)
    c.args.parts.now.ended (without_it _ c.args.found.number c.args.parts.now.ended.items (is_not_above c.args.parts.now.finished c.args.found.number c.if-found-parts.false)) refl
    c.take.new.self c.take.ensures.deleted c.take.ensures.sound

pub returns-else-found-parts-clause-new : goal.returns-else-found-parts-clause-new
unfolding seen
returns-else-found-parts-clause-new c =
    settled_seen c.args.parts.now c.requires.sound c.args.group c.args.found c.requires.item (let none = c.if-found-gt0.false in omega arith) c.args.parts.now.kept.used c.args.parts.now.kept.groups
    (let none = none_above c.args.parts.now.finished c.args.found.number c.if-found-parts.false in omega arith)
    (let none = none_above c.args.parts.now.finished c.args.found.number c.if-found-parts.false in omega arith)
    c.args.parts.now.ended (without_it _ c.args.found.number c.args.parts.now.ended.items (is_not_above c.args.parts.now.finished c.args.found.number c.if-found-parts.false)) refl
    c.take.new.self c.take.ensures.deleted
