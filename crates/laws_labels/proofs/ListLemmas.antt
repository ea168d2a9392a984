-- Lists of groups, and the notices of those that finish.
use Rattle.std.proofs.Common.{ap, arith, inl, inr, refl, sym, ◌∙◌, ◌≡◌, length}
use Rattle.std.proofs.lemmas.Bool.Decides.{nat_tests}
use Rattle.std.specs.Prelude.{Bool, List, [], cond, false, filter, map, not, true, ℕ, ◌&&◌, ◌<◌, ◌==◌, ◌∷◌, ◌≤◌, ◌⊎◌}
use Rattle.machine_data.specs.declared.records.NoticeKind.TheVariants as notice
use Rattle.machine_rules.specs.Notices.{finish_notices, is_in, told_of}

pub decide : (b : Bool) → (b ≡ true) ⊎ (b ≡ false)
decide true = inl refl
decide false = inr refl

-- ---- Filters

keep_if : (b : Bool) (x : ℕ) (xs ys : List ℕ) → xs ≡ ys → cond b (x ∷ xs) xs ≡ cond b (x ∷ ys) ys
keep_if true x xs ys e = ap (λ zs. x ∷ zs) e
keep_if false x xs ys e = e

pub filter_same : (p q : ℕ → Bool) (xs : List ℕ) → ((h : ℕ) → is_in xs h ≡ true → p h ≡ q h) → filter p xs ≡ filter q xs
filter_same p q [] same = refl
filter_same p q (x ∷ xs) same =
    let first : p x ≡ q x = same x (grind (arith, nat_tests)) in
    let later : filter p xs ≡ filter q xs = filter_same p q xs (λ h there. same h (grind (arith, nat_tests, there))) in
    keep_if (p x) x (filter p xs) (filter q xs) later ∙ ap (λ b. cond b (x ∷ filter q xs) (filter q xs)) first

pub filter_all : (xs : List ℕ) → filter (λ h. true) xs ≡ xs
filter_all [] = refl
filter_all (x ∷ xs) = ap (λ ys. x ∷ ys) (filter_all xs)

pub filter_none : (xs : List ℕ) → filter (λ h. false) xs ≡ []
filter_none [] = refl
filter_none (x ∷ xs) = filter_none xs

-- ---- The notices of finished groups

pub finish_none : (gs : List ℕ) → finish_notices gs gs ≡ []
finish_none gs =
    ap (map (told_of notice.Finish))
    (filter_same (λ g. not (is_in gs g)) (λ h. false) gs (λ h there. ap not there) ∙ filter_none gs)

pub finish_every : (gs : List ℕ) → finish_notices gs [] ≡ map (told_of notice.Finish) gs
finish_every gs = ap (map (told_of notice.Finish)) (filter_all gs)
