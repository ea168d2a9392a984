-- Each kind of token is read from its one spelling.
use Rattle.std.proofs.Common.{◌≡◌, ◌≢◌, ℕ, ◌^◌, ◌<◌, ◌≤◌, Bool, true, false, cond, leb, eqb, List, [], ◌∷◌, Option, Some, None, refl, sym, ap, subst, ◌∙◌, arith, lit<}
use Rattle.std.specs.Prelude.{decimal, codes, nat_le, is_some, MatchOption}
use Rattle.std.specs.Char.{is_ascii_digit}
use Rattle.std.specs.Str.{all_ascii_digits, bytes_eq}
use Rattle.std.proofs.lemmas.Fmt.{digits_decimal}
use Rattle.std.proofs.lemmas.Bool.{and_parts, eqb-true, ne_eqb, le-leb, leb-true, lt-ltb, ltb-true}
use Rattle.std.proofs.lemmas.Slice.Eq.{bytes_eq-Decides}
use Rattle.machine_data.specs.declared.scenario.Version.TheVariants as version
use Rattle.machine_data.specs.declared.scenario.Version.{Version}
use Rattle.machine_data.specs.declared.op.Operand.{Operand}
use Rattle.machine_data.specs.declared.op.Operand.TheVariants.{Number, Register}
use Rattle.machine_data.specs.declared.scenario.IdleLine.{IdleLine}
use Rattle.machine_data.specs.declared.scenario.IdleLine.TheVariants as idle
use Rattle.machine_data.specs.declared.component.ExportKind.{ExportKind}
use Rattle.machine_data.specs.declared.component.ExportKind.TheVariants as kind
use Rattle.text_lines.specs.Tokens.{◌>>=◌, number_at, bounded_at, register_up_to, register_at, operand_at, or_number, version_at, idle_at, kind_at}
use Rattle.text_lines.specs.LineTokens.{register_token, operand_token, version_token, idle_token, kind_token}
use Rattle.text_lines.specs.Fits.{number_fits, register_fits, operand_fits}
use Rattle.text_lines.proofs.Numbers.{digits_model, guarded, number_takes, number_again}

-- ---- Steps that gave a value

pub bind_some : {A B : Type 0} (o : Option A) (f : A → Option B) (y : B) → (o >>= f) ≡ Some y → (x : A) × (o ≡ Some x) × (f x ≡ Some y)
bind_some (Some x) f y e = (x, refl, e)
bind_some None f y e = absurd cc

pub some_is : {A : Type 0} (x y : A) → Some x ≡ Some y → x ≡ y
some_is x y e = cc

pub passed : {A : Type 0} (b : Bool) (x y : Option A) → cond b x None ≡ y → is_some y ≡ true → (b ≡ true) × (x ≡ y)
passed true x y e h = (refl, e)
passed false x y e h = absurd (cc (ap is_some e))

-- `at` reads the tokens of the fitting values, each as that value, and no others
pub record Reads {A : Type 0} (at : List ℕ → Option A) (token : A → List ℕ) (fits : A → Bool) : Type 0 where
  pub takes : (w : List ℕ) (x : A) → at w ≡ Some x → (w ≡ token x) × (fits x ≡ true)
  pub again : (x : A) → fits x ≡ true → at (token x) ≡ Some x

-- ---- Numbers, registers, operands

pub numbers : Reads number_at decimal number_fits
numbers = record {
  takes = λ w n e. let t = number_takes w n e in (t.0, lt-ltb _ _ t.1);
  again = λ n fits. number_again n (ltb-true _ _ fits);
}

bounded_takes : (limit : ℕ) (w : List ℕ) (n : ℕ) → bounded_at limit w ≡ Some n → (w ≡ decimal n) × (nat_le n limit ≡ true)
unfolding bounded_at
bounded_takes limit w n e =
    let b = bind_some (number_at w) (λ m. cond (leb m limit) (Some m) None) n e in
    let g = guarded (leb b.0 limit) b.0 n b.2 in
    (rw (← g.1) (number_takes w b.0 b.1).0, rw (← g.1) g.0)

bounded_again : (limit n : ℕ) → limit < 2 ^ 64 → nat_le n limit ≡ true → bounded_at limit (decimal n) ≡ Some n
unfolding bounded_at
bounded_again limit n small fits =
    let le : n ≤ limit = leb-true _ _ fits in
    rw (number_again n (omega arith), fits) refl

pub bounded : (limit : ℕ) → limit < 2 ^ 64 → Reads (bounded_at limit) decimal (λ n. nat_le n limit)
bounded limit small = record { takes = bounded_takes limit; again = λ n. bounded_again limit n small }

-- what was read as a number up to a limit is that number's token, and no other token was refused
pub bounded_is : (limit : ℕ) (w : List ℕ) (o : Option ℕ) → limit < 2 ^ 64 → o ≡ bounded_at limit w → MatchOption o ((n : ℕ) → n ≤ limit → w ≢ decimal n) (λ n. (w ≡ decimal n) × (n ≤ limit))
bounded_is limit w None small e = λ n le same.
    let none : None ≡ Some n = e ∙ ap (bounded_at limit) same ∙ bounded_again limit n small (le-leb _ _ le) in
    cc
bounded_is limit w (Some n) small e = let t = bounded_takes limit w n (sym e) in (t.0, leb-true _ _ t.1)

registers_take : (most : ℕ) (w : List ℕ) (r : ℕ) → register_up_to most w ≡ Some r → (w ≡ register_token r) × (nat_le r most ≡ true)
unfolding register_up_to
registers_take most [] r e = absurd cc
registers_take most (b ∷ bs) r e =
    let c = passed (eqb b 114) (bounded_at most bs) (Some r) e refl in
    let t = bounded_takes most bs r c.1 in
    (rw (eqb-true b 114 c.0, t.0) refl, t.1)

registers_again : (most r : ℕ) → most < 2 ^ 64 → nat_le r most ≡ true → register_up_to most (register_token r) ≡ Some r
unfolding register_up_to
registers_again most r small fits = bounded_again most r small fits

pub registers_up_to : (most : ℕ) → most < 2 ^ 64 → Reads (register_up_to most) register_token (λ r. nat_le r most)
registers_up_to most small = record { takes = registers_take most; again = λ r. registers_again most r small }

pub registers : Reads register_at register_token register_fits
registers = registers_up_to 15 (lit< tt)

-- digits name no register
no_register : (w : List ℕ) → all_ascii_digits w ≡ true → register_at w ≡ None
unfolding register_up_to
no_register [] digits = refl
no_register (b ∷ bs) digits =
    let digit = (and_parts _ _ digits).0 in
    rw (ne_eqb b 114 (λ h. absurd (subst (λ (c : ℕ). is_ascii_digit c ≡ true → ⊥) (sym h) (λ q. cc) digit))) refl

operand_takes : (w : List ℕ) (o : Option ℕ) (x : Operand) → register_at w ≡ o → or_number w o ≡ Some x → (w ≡ operand_token x) × (operand_fits x ≡ true)
operand_takes w (Some r) x h e =
    let t = registers.takes w r h in
    subst (λ (y : Operand). (w ≡ operand_token y) × (operand_fits y ≡ true)) (some_is (Register r) x e) t
operand_takes w None x h e =
    let b = bind_some (number_at w) (λ n. Some (Number n)) x e in
    subst (λ (y : Operand). (w ≡ operand_token y) × (operand_fits y ≡ true)) (some_is (Number b.0) x b.2) (numbers.takes w b.0 b.1)

operand_again : (x : Operand) → operand_fits x ≡ true → operand_at (operand_token x) ≡ Some x
unfolding operand_at
operand_again (Number n) fits =
    rw (no_register (decimal n) (digits_decimal digits_model n (ltb-true _ _ fits)), numbers.again n fits) refl
operand_again (Register r) fits = rw (registers.again r fits) refl

pub operands : Reads operand_at operand_token operand_fits
unfolding operand_at
operands = record { takes = λ w x e. operand_takes w (register_at w) x refl e; again = operand_again }

-- ---- Tokens of the project's own

-- every value has a token
abbrev pub always : {A : Type 0} → A → Bool
always x = true

-- the first of two tests of a token gives a value, or the second
first_token : {A : Type 0} (token : A → List ℕ) (w text : List ℕ) (y x : A) (other : Option A) (b : Bool) → bytes_eq w text ≡ b → text ≡ token y → cond b (Some y) other ≡ Some x → (other ≡ Some x → w ≡ token x) → w ≡ token x
first_token token w text y x other true h same e later = (bytes_eq-Decides w text).0 h ∙ same ∙ ap token (some_is y x e)
first_token token w text y x other false h same e later = later e

version_takes : (w : List ℕ) (v : Version) → version_at w ≡ Some v → w ≡ version_token v
unfolding version_at
version_takes w v e =
    first_token version_token w (codes "1") version.One v _ _ refl refl e (λ e.
    first_token version_token w (codes "2") version.Two v None _ refl refl e (λ e. absurd cc))

version_again : (v : Version) → version_at (version_token v) ≡ Some v
unfolding version_at
version_again version.One = refl
version_again version.Two = refl

pub versions : Reads version_at version_token always
versions = record { takes = λ w v e. (version_takes w v e, refl); again = λ v _. version_again v }

idle_takes : (w : List ℕ) (i : IdleLine) → idle_at w ≡ Some i → w ≡ idle_token i
unfolding idle_at
idle_takes w i e =
    first_token idle_token w (codes "trap") idle.Trap i _ _ refl refl e (λ e.
    first_token idle_token w (codes "wait") idle.Wait i None _ refl refl e (λ e. absurd cc))

idle_again : (i : IdleLine) → idle_at (idle_token i) ≡ Some i
unfolding idle_at
idle_again idle.Trap = refl
idle_again idle.Wait = refl

pub idles : Reads idle_at idle_token always
idles = record { takes = λ w i e. (idle_takes w i e, refl); again = λ i _. idle_again i }

kind_takes : (w : List ℕ) (k : ExportKind) → kind_at w ≡ Some k → w ≡ kind_token k
unfolding kind_at
kind_takes w k e =
    first_token kind_token w (codes "callback") kind.Callback k _ _ refl refl e (λ e.
    first_token kind_token w (codes "stackful") kind.Stackful k _ _ refl refl e (λ e.
    first_token kind_token w (codes "blocking") kind.Blocking k _ _ refl refl e (λ e.
    first_token kind_token w (codes "sync") kind.Sync k None _ refl refl e (λ e. absurd cc))))

kind_again : (k : ExportKind) → kind_at (kind_token k) ≡ Some k
unfolding kind_at
kind_again kind.Sync = refl
kind_again kind.Blocking = refl
kind_again kind.Stackful = refl
kind_again kind.Callback = refl

pub kinds : Reads kind_at kind_token always
kinds = record { takes = λ w k e. (kind_takes w k e, refl); again = λ k _. kind_again k }
