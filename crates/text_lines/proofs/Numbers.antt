-- A number is read from its decimal form, and from no other token.
use Rattle.std.proofs.Common.{◌≡◌, ℕ, ◌^◌, ◌<◌, ◌≤◌, ◌+◌, ◌*◌, Bool, ◌&&◌, true, false, cond, ltb, List, [], ◌∷◌, length, take, get_or, Some, None, refl, sym, ap, subst, ◌∙◌, arith, inl, inr}
use Rattle.std.specs.Prelude.{decimal}
use Rattle.std.specs.Char.{is_ascii_digit}
use Rattle.std.specs.List.{list_all}
use Rattle.std.specs.Int.{IsInRange}
use Rattle.std.specs.Str.{all_ascii_digits}
use Rattle.std.specs.Str.Parse.{digits_value}
use Rattle.std.proofs.lemmas.Bool.Decides.{nat_tests}
use Rattle.std.proofs.lemmas.Bool.{and_parts, cases_lt, ltb-true, lt-ltb, le-ltb}
use Rattle.std.proofs.lemmas.Int.Digits.{digits_value_more}
use Rattle.std.proofs.lemmas.List.{get_or_default, take_all}
use Rattle.std.proofs.lemmas.List.Folds.{list_all_more}
use Rattle.std.proofs.lemmas.Str.{digit_value_digit}
use Rattle.std.proofs.lemmas.Str.Parse.{IsNumeralModel, numerals_by_value, tells_all_ascii_digits, digits_value-take-le}
use Rattle.std.proofs.lemmas.Fmt.{decimal-digits_value, digits_decimal, digits_value-decimal, decimal_nonempty, first_decimal, decimal_digit}
use Rattle.text_lines.specs.Tokens.{is_numeral, digits_at, number_at}

-- the value of a test that was passed
pub guarded : {A : Type 0} (b : Bool) (x y : A) → cond b (Some x) None ≡ Some y → (b ≡ true) × (x ≡ y)
guarded true x y e = (refl, cc)
guarded false x y e = absurd cc

pub digits_model : IsNumeralModel (λ ds. all_ascii_digits ds ≡ true) (digits_value 10)
digits_model = numerals_by_value (λ ds. all_ascii_digits ds ≡ true) tells_all_ascii_digits

digits_are : (token : List ℕ) → list_all is_ascii_digit token ≡ all_ascii_digits token
digits_are [] = refl
digits_are (b ∷ bs) = ap (λ r. is_ascii_digit b && r) (digits_are bs)

record IsNumeral (token : List ℕ) : Type 0 where
  digits : all_ascii_digits token ≡ true
  some : 0 < length token
  lone_zero : get_or token 0 0 ≡ 48 → length token ≡ 1

numeral_parts : (token : List ℕ) → is_numeral token ≡ true → IsNumeral token
numeral_parts token h = record {
  digits = sym (digits_are token) ∙ grind (arith, nat_tests);
  some = grind (arith, nat_tests);
  lone_zero = grind (arith, nat_tests);
}

numeral_from : (token : List ℕ) → IsNumeral token → is_numeral token ≡ true
numeral_from token h =
    let digits : list_all is_ascii_digit token ≡ true = digits_are token ∙ h.digits in
    grind (arith, nat_tests)

-- ---- Digits, one by one

-- what one more digit adds, and that it is one
pub record IsDigit (token : List ℕ) (i d : ℕ) : Type 0 where
  pub more : digits_value 10 (take (i + 1) token) + 48 ≡ digits_value 10 (take i token) * 10 + get_or token i d
  pub least : 48 ≤ get_or token i d
  pub all : list_all is_ascii_digit (take i token) ≡ true → list_all is_ascii_digit (take (i + 1) token) ≡ true

pub digit_more : (token : List ℕ) (i d : ℕ) → i < length token → is_ascii_digit (get_or token i d) ≡ true → IsDigit token i d
digit_more token i d lt h =
    let more = digits_value_more 10 token i lt in
    let same : get_or token i 0 ≡ get_or token i d = get_or_default token i 0 d lt in
    let range : IsInRange 48 57 (get_or token i 0) = grind (arith, nat_tests, h, same) in
    let value = digit_value_digit (get_or token i 0) range in
    record {
      more = omega (arith, more, value, same);
      least = omega (arith, range, same);
      all = λ e. list_all_more is_ascii_digit token i d lt ∙ (rw (e, h) refl);
    }

-- the same, from one place to the next
pub digit_next : (token : List ℕ) (i j d : ℕ) → j ≡ i + 1 → i < length token → is_ascii_digit (get_or token i d) ≡ true → (digits_value 10 (take j token) + 48 ≡ digits_value 10 (take i token) * 10 + get_or token i d) × (list_all is_ascii_digit (take i token) ≡ true → list_all is_ascii_digit (take j token) ≡ true)
digit_next token i j d next lt h =
    let one = digit_more token i d lt h in
    subst (λ (n : ℕ). (digits_value 10 (take n token) + 48 ≡ digits_value 10 (take i token) * 10 + get_or token i d) × (list_all is_ascii_digit (take i token) ≡ true → list_all is_ascii_digit (take n token) ≡ true)) (sym next) (one.more, one.all)

barred : (b : Bool) (n : ℕ) → cond (b && false) (Some n) None ≡ None
barred true n = refl
barred false n = refl

-- a front of the digits is too great, so all are
pub digits_overflow : (token : List ℕ) (i : ℕ) → 2 ^ 64 ≤ digits_value 10 (take i token) → digits_at token ≡ None
unfolding digits_at
digits_overflow token i le =
    let above : ltb (digits_value 10 token) (2 ^ 64) ≡ false = le-ltb _ _ (omega (arith, le, digits_value-take-le 10 token i (omega arith))) in
    rw above (barred (list_all is_ascii_digit token) (digits_value 10 token))

pub digits_read : (token : List ℕ) (i v : ℕ) → length token ≤ i → v < 2 ^ 64 → list_all is_ascii_digit (take i token) ≡ true → v ≡ digits_value 10 (take i token) → Some v ≡ digits_at token
unfolding digits_at
digits_read token i v le lt h e =
    let whole : take i token ≡ token = take_all i token le in
    let digits : list_all is_ascii_digit token ≡ true = subst (λ ds. list_all is_ascii_digit ds ≡ true) whole h in
    let value : v ≡ digits_value 10 token = e ∙ ap (λ ds. digits_value 10 ds) whole in
    let below : ltb (digits_value 10 token) (2 ^ 64) ≡ true = lt-ltb _ _ (omega (arith, lt, value)) in
    rw (digits, below) (ap (λ n. Some n) value)

pub digits_told : (token : List ℕ) (v : ℕ) → digits_at token ≡ Some v → (list_all is_ascii_digit token ≡ true) × (digits_value 10 token ≡ v)
unfolding digits_at
digits_told token v e =
    let g = guarded (list_all is_ascii_digit token && ltb (digits_value 10 token) (2 ^ 64)) (digits_value 10 token) v e in
    ((and_parts (list_all is_ascii_digit token) _ g.0).0, g.1)

pub number_takes : (token : List ℕ) (n : ℕ) → number_at token ≡ Some n → (token ≡ decimal n) × (n < 2 ^ 64)
unfolding number_at
number_takes token n e =
    let g = guarded (is_numeral token && ltb (digits_value 10 token) (2 ^ 64)) (digits_value 10 token) n e in
    let tests = and_parts (is_numeral token) _ g.0 in
    let numeral = numeral_parts token tests.0 in
    let below = ltb-true _ _ tests.1 in
    (rw (← g.1) (sym (decimal-digits_value digits_model token numeral.digits numeral.some numeral.lone_zero below)), rw (← g.1) below)

-- only 0 begins with 0
zero_alone : (n : ℕ) → n < 2 ^ 64 → get_or (decimal n) 0 0 ≡ 48 → length (decimal n) ≡ 1
zero_alone n lt e =
    elim (cases_lt 0 n) [
      | inl positive ↦ absurd (omega (arith, first_decimal n positive lt))
      | inr zero ↦ let digit : n < 10 = omega arith in rw (decimal_digit n digit) refl
    ]

pub number_again : (n : ℕ) → n < 2 ^ 64 → number_at (decimal n) ≡ Some n
unfolding number_at
number_again n lt =
    let value : digits_value 10 (decimal n) ≡ n = digits_value-decimal digits_model n lt in
    let numeral : is_numeral (decimal n) ≡ true = numeral_from (decimal n) (record { digits = digits_decimal digits_model n lt; some = decimal_nonempty n lt; lone_zero = zero_alone n lt }) in
    let below : ltb n (2 ^ 64) ≡ true = lt-ltb _ _ lt in
    rw (numeral, value, below) refl
