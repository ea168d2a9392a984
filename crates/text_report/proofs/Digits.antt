-- The digits of numbers, three at a time.
use Rattle.std.proofs.Common.{[], ◌∷◌, ◌<◌, ◌≤◌, ◌≡◌, ◌++◌, ◌+◌, ◌*◌, ◌%◌, ◌/◌, ◌-◌, ◌^◌, ◌&&◌, ◌∙◌, Bool, List, T, ap, cond, drop, eqb, eqb→eq, false, get_or, get_or-drop, drop-drop, length, length-append, length-take-le, ltb, ltb→lt, nltb→le, refl, suc, sym, take, take-take, true, zero, ℕ, append_assoc, arith}
use Rattle.std.proofs.lemmas.Fmt.{decimal_digit, decimal_step, length-decimal-le}
use Rattle.std.specs.Prelude.{decimal}
use lib.Ieee.Fits.{and_l, and_r}
use Rattle.text_report.specs.Digits.{six_text, three_text}
use Rattle.text_report.specs.declared.table.TheConstants.{LEADS, THREES}

-- ---- Tables of four bytes for each number

-- a test of so many entries, from this number on
abbrev all_entries : (ℕ → List ℕ → Bool) → ℕ → ℕ → List ℕ → Bool
all_entries p zero n l = true
all_entries p (suc m) n l = p n l && all_entries p m (suc n) (drop 4 l)

entry : (p : ℕ → List ℕ → Bool) (m n k : ℕ) (l : List ℕ) → T (all_entries p m n l) → k < m → T (p (n + k) (drop (k * 4) l))
entry p zero n k l t h = absurd (omega arith)
entry p (suc m) n zero l t h = let e : n + 0 ≡ n = omega arith in rw e (and_l _ _ t)
entry p (suc m) n (suc k) l t h =
    let e : n + suc k ≡ suc n + k = omega arith in
    let f : suc k * 4 ≡ 4 + k * 4 = omega arith in
    let rest = entry p m (suc n) k (drop 4 l) (and_r _ _ t) (omega arith) in
    rw (e, f, ← drop-drop (k * 4) 4 l) rest

-- the digits from the left, and how many they are
abbrev is_lead : ℕ → List ℕ → Bool
is_lead n l = cond (ltb n 10)
    (eqb (get_or l 3 0) 49 && eqb (get_or l 0 0) (48 + n))
    (cond (ltb n 100)
    (eqb (get_or l 3 0) 50 && (eqb (get_or l 0 0) (48 + n / 10) && eqb (get_or l 1 0) (48 + n % 10)))
    (eqb (get_or l 3 0) 51 && (eqb (get_or l 0 0) (48 + n / 100) && (eqb (get_or l 1 0) (48 + n / 10 % 10) && eqb (get_or l 2 0) (48 + n % 10)))))

abbrev is_three : ℕ → List ℕ → Bool
is_three n l = eqb (get_or l 0 0) (48 + n / 100) && (eqb (get_or l 1 0) (48 + n / 10 % 10) && eqb (get_or l 2 0) (48 + n % 10))

-- ---- Digits

pub decimal_two : (n : ℕ) → 10 ≤ n → n < 100 → decimal n ≡ (48 + n / 10) ∷ (48 + n % 10) ∷ []
decimal_two n from to = rw (decimal_step n from (omega arith), decimal_digit (n / 10) (omega arith)) refl

pub decimal_three : (n : ℕ) → 100 ≤ n → n < 1000 → decimal n ≡ three_text n
decimal_three n from to =
    let a : n / 10 / 10 ≡ n / 100 = omega arith in
    rw (decimal_step n (omega arith) (omega arith), decimal_two (n / 10) (omega arith) (omega arith), a) refl

-- so many of these bytes are the digits
abbrev pub Lead : ℕ → ℕ → ℕ → ℕ → ℕ → Type 0
Lead n a b c d = (48 ≤ d) × (d ≤ 51) × (take (d - 48) (a ∷ b ∷ c ∷ d ∷ []) ≡ decimal n)

leads : (n a b c d : ℕ) (one two : Bool) → ltb n 10 ≡ one → ltb n 100 ≡ two → n < 1000 → T (cond one (eqb d 49 && eqb a (48 + n)) (cond two (eqb d 50 && (eqb a (48 + n / 10) && eqb b (48 + n % 10))) (eqb d 51 && (eqb a (48 + n / 100) && (eqb b (48 + n / 10 % 10) && eqb c (48 + n % 10)))))) → Lead n a b c d
leads n a b c d true two o w h t =
    let small : n < 10 = ltb→lt n 10 (rw o tt) in
    let e : d ≡ 49 = eqb→eq d 49 (and_l _ _ t) in
    let f : a ≡ 48 + n = eqb→eq a (48 + n) (and_r _ _ t) in
    (omega (arith, e), omega (arith, e), rw (e, f, decimal_digit n small) refl)
leads n a b c d false true o w h t =
    let small : n < 100 = ltb→lt n 100 (rw w tt) in
    let large : 10 ≤ n = nltb→le n 10 (rw o tt) in
    let e : d ≡ 50 = eqb→eq d 50 (and_l _ _ t) in
    let r = and_r _ _ t in
    let f : a ≡ 48 + n / 10 = eqb→eq a (48 + n / 10) (and_l _ _ r) in
    let g : b ≡ 48 + n % 10 = eqb→eq b (48 + n % 10) (and_r _ _ r) in
    (omega (arith, e), omega (arith, e), rw (e, f, g, decimal_two n large small) refl)
leads n a b c d false false o w h t =
    let large : 100 ≤ n = nltb→le n 100 (rw w tt) in
    let e : d ≡ 51 = eqb→eq d 51 (and_l _ _ t) in
    let r = and_r _ _ t in
    let f : a ≡ 48 + n / 100 = eqb→eq a (48 + n / 100) (and_l _ _ r) in
    let s = and_r _ _ r in
    let g : b ≡ 48 + n / 10 % 10 = eqb→eq b (48 + n / 10 % 10) (and_l _ _ s) in
    let k : c ≡ 48 + n % 10 = eqb→eq c (48 + n % 10) (and_r _ _ s) in
    (omega (arith, e), omega (arith, e), rw (e, f, g, k, decimal_three n large h) refl)

-- the table has the digits of each number below 1,000, and how many they are
pub LEADS_at : (n : ℕ) → n < 1000 → Lead n (get_or LEADS (n * 4) 0) (get_or LEADS (n * 4 + 1) 0) (get_or LEADS (n * 4 + 2) 0) (get_or LEADS (n * 4 + 3) 0)
LEADS_at n h =
    let t = entry is_lead 1000 0 n LEADS tt h in
    let y : 0 + n ≡ n = omega arith in
    let z : n * 4 + 0 ≡ n * 4 = omega arith in
    let u = rw (y, get_or-drop (n * 4) LEADS 0 0, get_or-drop (n * 4) LEADS 1 0, get_or-drop (n * 4) LEADS 2 0, get_or-drop (n * 4) LEADS 3 0, z) at t in
    leads n _ _ _ _ (ltb n 10) (ltb n 100) refl refl h u

-- the other table has three digits of each
pub THREES_at : (n : ℕ) → n < 1000 → get_or THREES (n * 4) 0 ∷ get_or THREES (n * 4 + 1) 0 ∷ get_or THREES (n * 4 + 2) 0 ∷ [] ≡ three_text n
THREES_at n h =
    let t = entry is_three 1000 0 n THREES tt h in
    let y : 0 + n ≡ n = omega arith in
    let z : n * 4 + 0 ≡ n * 4 = omega arith in
    let u = rw (y, get_or-drop (n * 4) THREES 0 0, get_or-drop (n * 4) THREES 1 0, get_or-drop (n * 4) THREES 2 0, z) at t in
    let e : get_or THREES (n * 4) 0 ≡ 48 + n / 100 = eqb→eq _ _ (and_l _ _ u) in
    let r = and_r _ _ u in
    let f : get_or THREES (n * 4 + 1) 0 ≡ 48 + n / 10 % 10 = eqb→eq _ _ (and_l _ _ r) in
    let g : get_or THREES (n * 4 + 2) 0 ≡ 48 + n % 10 = eqb→eq _ _ (and_r _ _ r) in
    rw (e, f, g) refl

-- ---- Numbers of more digits

pub decimal_threes : (n : ℕ) → 1000 ≤ n → n < 2 ^ 64 → decimal n ≡ decimal (n / 1000) ++ three_text (n % 1000)
decimal_threes n from to =
    let a : n / 10 / 10 / 10 ≡ n / 1000 = omega arith in
    let b : n / 10 / 10 % 10 ≡ n % 1000 / 100 = omega arith in
    let c : n / 10 % 10 ≡ n % 1000 / 10 % 10 = omega arith in
    let d : n % 10 ≡ n % 1000 % 10 = omega arith in
    rw (decimal_step n (omega arith) to, decimal_step (n / 10) (omega arith) (omega arith), decimal_step (n / 10 / 10) (omega arith) (omega arith), append_assoc, append_assoc, a, b, c, ← d) refl

-- a number whose last three digits were written behind the others
pub in_threes : (n : ℕ) (old mid new : List ℕ) → 1000 ≤ n → n < 2 ^ 64 → mid ≡ old ++ decimal (n / 1000) → new ≡ mid ++ three_text (n % 1000) → new ≡ old ++ decimal n
in_threes n old mid new from to e f = rw (f, e, decimal_threes n from to) (append_assoc old (decimal (n / 1000)) (three_text (n % 1000)))

-- the last six digits behind the others
pub decimal_sixes : (n : ℕ) → 1000000 ≤ n → n < 2 ^ 64 → decimal n ≡ decimal (n / 1000000) ++ six_text (n % 1000000)
decimal_sixes n from to =
    let a : n / 1000 / 1000 ≡ n / 1000000 = omega arith in
    let b : n / 1000 % 1000 ≡ n % 1000000 / 1000 = omega arith in
    let c : n % 1000 ≡ n % 1000000 % 1000 = omega arith in
    rw (decimal_threes n (omega arith) to, decimal_threes (n / 1000) (omega arith) (omega arith), append_assoc, a, b, ← c) refl

-- a number whose last six digits were written behind the others
pub in_sixes : (n m : ℕ) (old mid new : List ℕ) → 1000000 ≤ n → n < 2 ^ 64 → m ≡ n / 1000000 → mid ≡ old ++ decimal m → new ≡ mid ++ six_text (n % 1000000) → new ≡ old ++ decimal n
in_sixes n m old mid new from to same e f = rw (f, e, same, decimal_sixes n from to) (append_assoc old (decimal (n / 1000000)) (six_text (n % 1000000)))

decimal_at_most : (n : ℕ) → n < 2 ^ 64 → length (decimal n) ≤ 20
decimal_at_most n le = length-decimal-le 20 n (omega arith) (omega (arith, le)) le

-- no number has more digits than 20
pub ends : (old new : List ℕ) (at end n : ℕ) → at ≤ length old → end ≤ length new → n < 2 ^ 64 → take end new ≡ take at old ++ decimal n → end ≤ at + 20
ends old new at end n from to small e =
    let long : end ≡ at + length (decimal n) =
    sym (length-take-le end new to) ∙ ap (λ (l : List ℕ). length l) e ∙ length-append (take at old) (decimal n) ∙ ap (λ (k : ℕ). k + length (decimal n)) (length-take-le at old from) in
    let few = decimal_at_most n small in
    omega (arith, long, few)

-- ---- Tokens of which some are written over

ahead : (xs ys : List ℕ) (n : ℕ) → take (length xs + n) (xs ++ ys) ≡ xs ++ take n ys
ahead [] ys n = let e : 0 + n ≡ n = omega arith in rw e refl
ahead (x ∷ xs) ys n = let e : suc (length xs) + n ≡ suc (length xs + n) = omega arith in rw e (ap (λ (l : List ℕ). x ∷ l) (ahead xs ys n))

pub over : (old new text : List ℕ) (at stay : ℕ) → at ≤ length old → stay ≤ length text → take (at + length text) new ≡ take at old ++ text → take (at + stay) new ≡ take at old ++ take stay text
over old new text at stay from few h =
    let short = take-take (at + stay) (at + length text) new (omega (arith, few)) in
    sym short ∙ ap (λ (l : List ℕ). take (at + stay) l) h ∙ ap (λ (k : ℕ). take (k + stay) (take at old ++ text)) (sym (length-take-le at old from)) ∙ ahead (take at old) text stay
