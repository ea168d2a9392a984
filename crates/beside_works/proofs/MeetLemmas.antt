-- What the cells list, as an aborter's passes are met one by one.
use Rattle.std.proofs.Common.{◌≡◌, ℕ, zero, suc, ◌+◌, ◌≤◌, List, [], ◌∷◌, ◌++◌, ap, arith, drop, length, map, refl, subst, sym, take, ◌∙◌}
use Rattle.std.proofs.lemmas.List.{length-map, map-append, map-set}
use Rattle.std.proofs.lemmas.Option.{same_Some, slice_get-map}
use Rattle.std.specs.Prelude.{None, Option, Some, option_map, slice_get, slice_set}
use Rattle.beside_works.proofs.CountLemmas.{longer}
use Rattle.beside_works.proofs.NewLemmas.{got, next_index, raise_next}
use Rattle.beside_works.specs.Aborters.{AreNew, CanMeet, HaveRun, IsNew}
use Rattle.beside_works.specs.Counts.{brief, cells_in, counts_in, later, met_count, met_of, places_in, raised, with_each}
use Rattle.beside_works.specs.declared.line.Aborter.{Aborter}
use Rattle.beside_works.specs.Views.{found_list, met_list, own_list, pass_cell_of, place_of, spawn_cell, spawn_view}
use Rattle.beside_works.specs.declared.cells.AborterPass.{AborterPass}
use Rattle.beside_works.specs.declared.cells.SharedSpawn.{SharedSpawn}
use Rattle.beside_works.specs.declared.log.Found.{Found}
use Rattle.task_abort.specs.Cells.{CellId}
use Rattle.task_abort.specs.Rule.{Meets}
use Rattle.task_abort.specs.Staged.{told}
use Rattle.task_abort.specs.declared.log.PassView.{PassView}

-- the first i items are those of ys
abbrev pub stepped : {A : Type 0} → ℕ → List A → List A → List A
stepped i xs ys = take i ys ++ drop i xs

pub stepped_next : {A : Type 0} (i : ℕ) (x y : A) (xs ys : List A) → length xs ≡ length ys → slice_get (stepped i xs ys) i ≡ Some x → slice_get ys i ≡ Some y →
    (slice_get xs i ≡ Some x) × (slice_set (stepped i xs ys) i y ≡ stepped (suc i) xs ys)
stepped_next i x y [] [] same at there = absurd (cc)
stepped_next i x y (x' ∷ xs) [] same at there = absurd (cc)
stepped_next i x y [] (y' ∷ ys) same at there = absurd (omega (arith, same))
stepped_next zero x y (x' ∷ xs) (y' ∷ ys) same at there = (at, ap (λ z. z ∷ xs) (sym (same_Some _ _ there)))
stepped_next (suc i) x y (x' ∷ xs) (y' ∷ ys) same at there =
    let rest = stepped_next i x y xs ys (omega (arith, same)) at there in (rest.0, ap (λ zs. y' ∷ zs) rest.1)

pub stepped_past : {A : Type 0} (i : ℕ) (xs ys : List A) → length xs ≡ length ys → length xs ≤ i → stepped i xs ys ≡ ys
stepped_past zero [] [] same past = refl
stepped_past (suc i) [] [] same past = refl
stepped_past i (x ∷ xs) [] same past = absurd (omega (arith, same))
stepped_past i [] (y ∷ ys) same past = absurd (omega (arith, same))
stepped_past zero (x ∷ xs) (y ∷ ys) same past = absurd (omega (arith, past))
stepped_past (suc i) (x ∷ xs) (y ∷ ys) same past = ap (λ zs. y ∷ zs) (stepped_past i xs ys (omega (arith, same)) (omega (arith, past)))

-- ---- The list with each count behind

pub each_length : (number : ℕ) (ns : List ℕ) (mss : List (List (ℕ × ℕ))) → length (with_each number ns mss) ≡ length mss
each_length number [] mss = refl
each_length number (n ∷ ns) [] = refl
each_length number (n ∷ ns) (ms ∷ mss) = ap suc (each_length number ns mss)

pub each_at : (number i n : ℕ) (ms : List (ℕ × ℕ)) (ns : List ℕ) (mss : List (List (ℕ × ℕ))) → slice_get ns i ≡ Some n → slice_get mss i ≡ Some ms →
    slice_get (with_each number ns mss) i ≡ Some (ms ++ (number, n) ∷ [])
each_at number i n ms [] mss at there = absurd (cc)
each_at number i n ms (n' ∷ ns) [] at there = absurd (cc)
each_at number zero n ms (n' ∷ ns) (ms' ∷ mss) at there =
    ap (λ (k : ℕ). Some (ms' ++ (number, k) ∷ [])) (same_Some _ _ at) ∙ ap (λ (ks : List (ℕ × ℕ)). Some (ks ++ (number, n) ∷ [])) (same_Some _ _ there)
each_at number (suc i) n ms (n' ∷ ns) (ms' ∷ mss) at there = each_at number i n ms ns mss at there

-- with the counts of the first cells alone
pub each_part : (number i : ℕ) (ns : List ℕ) (mss : List (List (ℕ × ℕ))) → with_each number (take i ns) mss ≡ stepped i mss (with_each number ns mss)
each_part number zero ns mss = refl
each_part number (suc i) [] [] = refl
each_part number (suc i) [] (ms ∷ mss) = ap (λ kss. ms ∷ kss) (both i mss)
  where
    both : (k : ℕ) (kss : List (List (ℕ × ℕ))) → kss ≡ take k kss ++ drop k kss
    both zero kss = refl
    both (suc k) [] = refl
    both (suc k) (ks ∷ kss) = ap (λ jss. ks ∷ jss) (both k kss)
each_part number (suc i) (n ∷ ns) [] = refl
each_part number (suc i) (n ∷ ns) (ms ∷ mss) = ap (λ kss. (ms ++ (number, n) ∷ []) ∷ kss) (each_part number i ns mss)

-- ---- A pass that is met

-- it is of the cell, and is the next to be met
pub same_cell : (ps : List AborterPass) (cs ds : List SharedSpawn) (i : ℕ) (p : AborterPass) (s : SharedSpawn) → cells_in ps ≡ map spawn_cell cs →
    map spawn_cell ds ≡ map spawn_cell cs → slice_get ps i ≡ Some p → slice_get ds i ≡ Some s → pass_cell_of p ≡ spawn_cell s
same_cell ps cs ds i p s cells same at there =
    same_Some _ _ (sym (got pass_cell_of ps i p at) ∙ (ap (λ xs. slice_get xs i) (cells ∙ sym same) ∙ got spawn_cell ds i s there))

pub next_met : (ps : List AborterPass) (cs ds : List SharedSpawn) (i : ℕ) (p : AborterPass) (s : SharedSpawn) → places_in ps ≡ map met_count cs →
    map met_count ds ≡ raised i (map met_count cs) → slice_get ps i ≡ Some p → slice_get ds i ≡ Some s → place_of p ≡ met_count s
next_met ps cs ds i p s places count at there =
    let here : slice_get (raised i (map met_count cs)) i ≡ Some (met_count s) = subst (λ (ms : List ℕ). slice_get ms i ≡ Some (met_count s)) count (got met_count ds i s there) in
    same_Some _ _ (sym (got place_of ps i p at) ∙ (ap (λ (xs : List ℕ). slice_get xs i) places ∙ (raise_next i (met_count s) (map met_count cs) here).0))

-- there is a cell for it
pub there_is : (ps : List AborterPass) (cs ds : List SharedSpawn) (i : ℕ) (p : AborterPass) → cells_in ps ≡ map spawn_cell cs →
    map spawn_cell ds ≡ map spawn_cell cs → slice_get ps i ≡ Some p → slice_get ds i ≡ None → ⊥
there_is ps cs ds i p cells same at none =
    let e = sym (got pass_cell_of ps i p at) ∙ (ap (λ xs. slice_get xs i) (cells ∙ sym same) ∙ (slice_get-map spawn_cell ds i ∙ ap (option_map spawn_cell) none)) in absurd (cc)

-- where it isn't, as it is out of memory
pub own_left : (s t : SharedSpawn) → spawn_view t ≡ spawn_view s → own_list t ≡ own_list s
own_left s t same = t.listed ∙ (ap (λ (v : PassView). map told v.own.calls) same ∙ sym s.listed)

pub own_stays : (s t : SharedSpawn) (o : PassView) → Meets (spawn_view s) o (spawn_view t) → own_list t ≡ own_list s
own_stays s t o meets = t.listed ∙ (ap (λ c. map told c.calls) meets.own ∙ sym s.listed)

-- ---- The lists after it

module _ (ps : List AborterPass) (cs ds : List SharedSpawn) (i number : ℕ) (p : AborterPass) (s t : SharedSpawn) (f : Found)
    (at : slice_get ps i ≡ Some p) (there : slice_get ds i ≡ Some s) (met : met_list t ≡ met_list s ++ f ∷ []) where
  pub counts_next : map met_count ds ≡ raised i (map met_count cs) → map met_count (slice_set ds i t) ≡ raised (suc i) (map met_count cs)
  counts_next was =
      let more : met_count t ≡ met_count s + 1 = longer (met_list s) (met_list t) f met in
      let here : slice_get (raised i (map met_count cs)) i ≡ Some (met_count s) = subst (λ (ms : List ℕ). slice_get ms i ≡ Some (met_count s)) was (got met_count ds i s there) in
      map-set met_count ds i t ∙ (ap (slice_set (map met_count ds) i) more ∙ (ap (λ (ms : List ℕ). slice_set ms i (met_count s + 1)) was ∙ (raise_next i (met_count s) (map met_count cs) here).1))

  abbrev pub target : List (List (ℕ × ℕ))
  target = with_each number (counts_in ps) (map met_of cs)

  pub lists_next : length (map met_of cs) ≡ length target → f.number ≡ number → f.found.items ≡ found_list p → map met_of ds ≡ stepped i (map met_of cs) target →
      map met_of (slice_set ds i t) ≡ stepped (suc i) (map met_of cs) target
  lists_next same numbered found was =
      let n : ℕ = length (found_list p) in
      let last : brief f ≡ (number, n) = ap (λ (k : ℕ). (k, length f.found.items)) numbered ∙ ap (λ xs. (number, length xs)) found in
      let longer_by : met_of t ≡ met_of s ++ (number, n) ∷ [] = ap (map brief) met ∙ (map-append brief (met_list s) (f ∷ []) ∙ ap (λ b. met_of s ++ b ∷ []) last) in
      let here : slice_get (stepped i (map met_of cs) target) i ≡ Some (met_of s) = subst (λ mss. slice_get mss i ≡ Some (met_of s)) was (got met_of ds i s there) in
      let count : slice_get (counts_in ps) i ≡ Some n = got (λ (r : AborterPass). length (found_list r)) ps i p at in
      let first = stepped_first i (met_of s) (map met_of cs) target same here in
      let goal = each_at number i n (met_of s) (counts_in ps) (map met_of cs) count first in
      map-set met_of ds i t ∙ (ap (slice_set (map met_of ds) i) longer_by
      ∙ (ap (λ mss. slice_set mss i (met_of s ++ (number, n) ∷ [])) was ∙ (stepped_next i (met_of s) _ (map met_of cs) target same here goal).1))
    where
      stepped_first : {A : Type 0} (i : ℕ) (x : A) (xs ys : List A) → length xs ≡ length ys → slice_get (stepped i xs ys) i ≡ Some x → slice_get xs i ≡ Some x
      stepped_first zero x [] [] same at = absurd (cc)
      stepped_first (suc i) x [] [] same at = absurd (cc)
      stepped_first i x (x' ∷ xs) [] same at = absurd (omega (arith, same))
      stepped_first i x [] (y' ∷ ys) same at = absurd (omega (arith, same))
      stepped_first zero x (x' ∷ xs) (y' ∷ ys) same at = at
      stepped_first (suc i) x (x' ∷ xs) (y' ∷ ys) same at = stepped_first i x xs ys (omega (arith, same)) at

-- ---- One aborter after another

pub later_more : (k : ℕ) (ns : List ℕ) → later k (later 1 ns) ≡ later (suc k) ns
later_more k [] = refl
later_more k (n ∷ ns) = let here : (n + 1) + k ≡ n + suc k = omega arith in ap (λ (m : ℕ). m ∷ later k (later 1 ns)) here ∙ ap (λ (ms : List ℕ). (n + suc k) ∷ ms) (later_more k ns)

pub later_none : (ns : List ℕ) → later 0 ns ≡ ns
later_none [] = refl
later_none (n ∷ ns) = let here : n + 0 ≡ n = omega arith in ap (λ (m : ℕ). m ∷ later 0 ns) here ∙ ap (λ (ms : List ℕ). n ∷ ms) (later_none ns)

-- one more number
pub later_one : (k : ℕ) (ns : List ℕ) → later 1 (later k ns) ≡ later (suc k) ns
later_one k [] = refl
later_one k (n ∷ ns) = let here : (n + k) + 1 ≡ n + suc k = omega arith in ap (λ (m : ℕ). m ∷ later 1 (later k ns)) here ∙ ap (λ (ms : List ℕ). (n + suc k) ∷ ms) (later_one k ns)

-- ---- Aborters that are made

module _ (ids : List CellId) (splits : List ℕ) where
  pub new_more : (k : ℕ) (all : List Aborter) (a : Aborter) → AreNew ids splits k all → IsNew ids splits (k + length all) a → AreNew ids splits k (all ++ a ∷ [])
  new_more k [] a were new = let none : k + 0 ≡ k = omega arith in (subst (λ (n : ℕ). IsNew ids splits n a) none new, tt)
  new_more k (b ∷ all) a were new =
      let next : k + suc (length all) ≡ (k + 1) + length all = omega arith in
      (were.0, new_more (k + 1) all a were.1 (subst (λ (n : ℕ). IsNew ids splits n a) next new))

-- those that have run can be met
pub can_meet : (ids : List CellId) (splits : List ℕ) (k : ℕ) (lines : List (List ℕ)) (olds news : List Aborter) → AreNew ids splits k olds → HaveRun lines olds news →
    CanMeet ids (later k splits) news
can_meet ids splits k lines [] [] new run = tt
can_meet ids splits k lines [] (b ∷ news) new run = absurd run
can_meet ids splits k lines (a ∷ olds) [] new run = absurd run
can_meet ids splits k lines (a ∷ olds) (b ∷ news) new run =
    let next : later (k + 1) splits ≡ later 1 (later k splits) = ap (λ (n : ℕ). later n splits) (sym (next_index k)) ∙ sym (later_one k splits) in (
      run.0.cells ∙ new.0.cells,
      (run.0.places ∙ new.0.places, subst (λ (ms : List ℕ). CanMeet ids ms news) next (can_meet ids splits (k + 1) lines olds news new.1 run.1)),
    )

-- ---- What is left to meet

pub no_items : {A : Type 0} (xs : List A) → length xs ≡ 0 → xs ≡ []
no_items [] none = refl
no_items (x ∷ xs) none = absurd (omega (arith, none))

-- the item at the place, and the rest behind it
pub rest_next : {A : Type 0} (i : ℕ) (xs rest : List A) (x : A) → x ∷ rest ≡ drop i xs → (slice_get xs i ≡ Some x) × (rest ≡ drop (i + 1) xs)
rest_next i [] rest x is = absurd (none i is)
  where
    none : {A : Type 0} {x : A} {rest : List A} (i : ℕ) → x ∷ rest ≡ drop i [] → ⊥
    none zero is = absurd (cc)
    none (suc i) is = absurd (cc)
rest_next zero (y ∷ ys) rest x is = (ap (λ zs. slice_get zs 0) (sym is), ap (drop 1) is)
rest_next (suc i) (y ∷ ys) rest x is =
    let more = rest_next i ys rest x is in let next : suc (i + 1) ≡ suc i + 1 = omega arith in
    (more.0, more.1 ∙ ap (λ (k : ℕ). drop k (y ∷ ys)) next)

-- where none is left all were met
pub none_left : {A : Type 0} (i : ℕ) (xs : List A) → drop i xs ≡ [] → length xs ≤ i
none_left i [] is = omega arith
none_left zero (y ∷ ys) is = absurd (cc)
none_left (suc i) (y ∷ ys) is = omega (arith, none_left i ys is)

pub past_both : (ps : List AborterPass) (cs : List SharedSpawn) (i : ℕ) → cells_in ps ≡ map spawn_cell cs → length ps ≤ i → length cs ≤ i
past_both ps cs i same past = let one = sym (length-map ps pass_cell_of) ∙ (ap length same ∙ length-map cs spawn_cell) in omega (arith, one, past)
