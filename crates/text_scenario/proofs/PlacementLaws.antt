-- Items that are each placed after those before them, and the places of their names.
use Rattle.std.proofs.Common.{◌≡◌, ℕ, zero, suc, ◌<◌, ◌≤◌, Bool, true, false, List, [], ◌∷◌, ◌++◌, length, take, Option, Some, None, refl, sym, ap, subst, ◌∙◌, append_assoc, length-append, arith}
use Rattle.std.specs.Prelude.{position, slice_get}
use Rattle.std.specs.List.{list_any}
use Rattle.std.specs.Option.{option_map}
use Rattle.std.specs.Str.{bytes_eq}
use Rattle.std.proofs.lemmas.Bool.{or_parts}
use Rattle.std.proofs.lemmas.List.{append-nil}
use Rattle.std.proofs.lemmas.Slice.Eq.{bytes_eq-Decides}
use Rattle.text_scenario.specs.Placement.{EachIsPlaced}
use Rattle.text_lines.proofs.Position.{position_head, position_tail}
use Rattle.text_lines.proofs.TokenLaws.{some_is}

-- ---- One item more

placed_last : {X : Type 0} (S : List X → X → Type 0) (before xs : List X) (x : X) → EachIsPlaced S before xs → S (before ++ xs) x → EachIsPlaced S before (xs ++ x ∷ [])
placed_last S before [] x each last = (subst (λ ys. S ys x) (append-nil before) last, tt)
placed_last S before (y ∷ xs) x each last =
    (each.0, placed_last S (before ++ y ∷ []) xs x each.1 (subst (λ ys. S ys x) (sym (append_assoc before (y ∷ []) xs)) last))

-- an item that is after all may follow them
pub each_more : {X : Type 0} (S : List X → X → Type 0) (xs : List X) (x : X) → EachIsPlaced S [] xs → S xs x → EachIsPlaced S [] (xs ++ x ∷ [])
each_more S xs x each last = placed_last S [] xs x each last

-- ---- The item at a place

placed_after : {X : Type 0} (S : List X → X → Type 0) (before xs : List X) (k : ℕ) (x : X) → EachIsPlaced S before xs → slice_get xs k ≡ Some x → S (before ++ take k xs) x
placed_after S before [] k x each e = absurd cc
placed_after S before (y ∷ xs) zero x each e = subst (λ z. S (before ++ []) z) (some_is y x e) (subst (λ ys. S ys y) (sym (append-nil before)) each.0)
placed_after S before (y ∷ xs) (suc k) x each e =
    subst (λ ys. S ys x) (append_assoc before (y ∷ []) (take k xs)) (placed_after S (before ++ y ∷ []) xs k x each.1 e)

-- it is after those before that place
pub placed_at : {X : Type 0} (S : List X → X → Type 0) (xs : List X) (k : ℕ) (x : X) → EachIsPlaced S [] xs → slice_get xs k ≡ Some x → S (take k xs) x
placed_at S xs k x each e = placed_after S [] xs k x each e

-- ---- Places of names

pub some_map : {X Y : Type 0} (f : X → Y) (o : Option X) (y : Y) → option_map f o ≡ Some y → (x : X) × (o ≡ Some x) × (f x ≡ y)
some_map f None y e = absurd cc
some_map f (Some x) y e = (x, refl, some_is (f x) y e)

found_by : {X : Type 0} (p : X → Bool) (y : X) (xs : List X) (k : ℕ) (b : Bool) → p y ≡ b → position p (y ∷ xs) ≡ Some k → ((j : ℕ) → position p xs ≡ Some j → (x : X) × (slice_get xs j ≡ Some x) × (p x ≡ true)) → (x : X) × (slice_get (y ∷ xs) k ≡ Some x) × (p x ≡ true)
found_by p y xs k true h e later =
    let first : 0 ≡ k = some_is 0 k (sym (position_head p y xs h) ∙ e) in
    (y, ap (slice_get (y ∷ xs)) (sym first), h)
found_by p y xs k false h e later =
    let j = some_map (λ k. suc k) (position p xs) k (sym (position_tail p y xs h) ∙ e) in
    let t = later j.0 j.1 in
    (t.0, ap (slice_get (y ∷ xs)) (sym j.2) ∙ t.1, t.2)

-- what is at the place that was found passes the test
pub place_takes : {X : Type 0} (p : X → Bool) (xs : List X) (k : ℕ) → position p xs ≡ Some k → (x : X) × (slice_get xs k ≡ Some x) × (p x ≡ true)
place_takes p [] k e = absurd cc
place_takes p (y ∷ xs) k e = found_by p y xs k (p y) refl e (place_takes p xs)

-- an item that passes, after none that does, is found
pub place_again : {X : Type 0} (p : X → Bool) (xs : List X) (k : ℕ) (x : X) → slice_get xs k ≡ Some x → p x ≡ true → list_any p (take k xs) ≡ false → position p xs ≡ Some k
place_again p [] k x e h none = absurd cc
place_again p (y ∷ xs) zero x e h none = position_head p y xs (ap p (some_is y x e) ∙ h)
place_again p (y ∷ xs) (suc k) x e h none =
    let n = or_parts (p y) (list_any p (take k xs)) none in
    position_tail p y xs n.0 ∙ ap (option_map (λ k. suc k)) (place_again p xs k x e h n.1)

pub same_bytes : (xs ys : List ℕ) → bytes_eq xs ys ≡ true → xs ≡ ys
same_bytes xs ys e = (bytes_eq-Decides xs ys).0 e

pub bytes_same : (xs : List ℕ) → bytes_eq xs xs ≡ true
bytes_same xs = (bytes_eq-Decides xs xs).1 refl

-- as many as may be
pub few_after : {X : Type 0} (S : List X → X → Type 0) (n : ℕ) → ((before : List X) (x : X) → S before x → length before < n) → (before xs : List X) → length before ≤ n → EachIsPlaced S before xs → length (before ++ xs) ≤ n
few_after S n bound before [] le each = omega (arith, length-append before [])
few_after S n bound before (x ∷ xs) le each =
    let lt = bound before x each.0 in
    let h = few_after S n bound (before ++ x ∷ []) xs (omega (arith, length-append before (x ∷ []))) each.1 in
    omega (arith, h, length-append (before ++ x ∷ []) xs, length-append before (x ∷ []), length-append before (x ∷ xs))

-- as many are before a place as its number says
pub length_before : {X : Type 0} (xs : List X) (k : ℕ) (x : X) → slice_get xs k ≡ Some x → length (take k xs) ≡ k
length_before [] k x e = absurd cc
length_before (y ∷ xs) zero x e = refl
length_before (y ∷ xs) (suc k) x e = ap (λ (n : ℕ). suc n) (length_before xs k x e)
