-- What the words of a line say, and that they say one thing.
use Rattle.choice_run.specs.ChooseLines.{IsNarrow, choice_tokens, member_tokens, release_tokens, wake_tokens}
use Rattle.choice_run.specs.Reading.{AreNarrow, BeginsWith, IsNamed, IsNone, IsUnnamed, ReadsAfter, ReadsChoice, ReadsNumbers, ReadsRelease, tokens_after}
use Rattle.choice_offers.specs.declared.choice.Choice.{Choice}
use Rattle.laws_choices.specs.Offer.{Chosen}
use Rattle.std.proofs.Common.{ap, arith, inl, inr, refl, subst, sym, ◌∙◌}
use Rattle.std.proofs.lemmas.Fmt.{decimal_injective}
use Rattle.text_lines.specs.declared.line.LineError.TheVariants as errors
use Rattle.text_lines.specs.declared.line.LineError.{LineError}
use Rattle.std.specs.Prelude.{Err, IfSome, List, None, Ok, Option, Result, Some, [], codes, decimal, false, length, map, ℕ, ◌++◌, ◌==◌, ◌∷◌, ◌≡◌, ◌≤◌}

-- ---- Words by a name

-- what a choice says by the name
abbrev said : List ℕ → Option ℕ → List (List ℕ)
said name None = []
said name (Some n) = name ∷ decimal n ∷ []

-- words that begin with a name, and others
not_both : (name : List ℕ) (ws vs : List (List ℕ)) → ws ≡ vs → BeginsWith name ws → (BeginsWith name vs → ⊥) → ⊥
not_both name ws vs same is other = other (subst (λ (us : List (List ℕ)). BeginsWith name us) same is)

-- whoever says a number by the name begins with it
begins : (name : List ℕ) (n : ℕ) (rest ws : List (List ℕ)) → ws ≡ name ∷ decimal n ∷ rest → BeginsWith name ws
begins name n rest ws is = subst (λ (us : List (List ℕ)). BeginsWith name us) (sym is) refl

behind : (a b c d : List ℕ) (ws vs : List (List ℕ)) → a ∷ c ∷ ws ≡ b ∷ d ∷ vs → (c ≡ d) × (ws ≡ vs)
behind a b c d ws vs e = let one : c ≡ d = cc in let two : ws ≡ vs = cc in (one, two)

-- what was read by the name is what the words say, if what they say behind it doesn't begin with the name
pub named_one : (name : List ℕ) (most : ℕ) (ws : List (List ℕ)) (v u : Option ℕ) (rest more : List (List ℕ)) → most ≤ 18446744073709551615 → IsNamed name most ws v rest → IfSome u (λ n. n ≤ most) →
    (BeginsWith name more → ⊥) → ws ≡ said name u ++ more → (v ≡ u) × (rest ≡ more)
named_one name most ws None None rest more wide is narrow other says = (refl, is.0 ∙ says)
named_one name most ws None (Some n) rest more wide is narrow other says = absurd (is.1 (begins name n more ws says))
named_one name most ws (Some m) None rest more wide is narrow other says = absurd (not_both name ws more says (begins name m rest ws is.0) other)
named_one name most ws (Some m) (Some n) rest more wide is narrow other says =
    let same = behind name name (decimal m) (decimal n) rest more (sym is.0 ∙ says) in
    let few = is.1 in
    (ap (λ (k : ℕ). Some k) (decimal_injective m n (omega (arith, few, wide)) (omega (arith, narrow, wide)) same.0), same.1)

-- words that name no number say none
pub unnamed_none : (name : List ℕ) (most : ℕ) (ws : List (List ℕ)) (u : Option ℕ) (more : List (List ℕ)) → IsUnnamed name most ws → IfSome u (λ n. n ≤ most) → (BeginsWith name more → ⊥) → ws ≡ said name u ++ more → ⊥
unnamed_none name most ws None more is narrow other says = not_both name ws more says is.0 other
unnamed_none name most ws (Some n) more is narrow other says = is.1 n more says narrow

pub mapped_none : {A B : Type 0} (f : A → B) (xs : List A) → length xs ≡ 0 → map f xs ≡ []
mapped_none f [] e = refl
mapped_none f (x ∷ xs) e = absurd (omega (arith, e))

pub mapped_some : {A B : Type 0} (f : A → B) (xs : List A) → (length xs == 0) ≡ false → map f xs ≡ [] → ⊥
mapped_some f [] e is = absurd (cc)
mapped_some f (x ∷ xs) e is = absurd (cc)

-- the name alone names no number
pub alone : (name word : List ℕ) (most : ℕ) (ws rest : List (List ℕ)) → ws ≡ word ∷ rest → word ≡ name → rest ≡ [] → IsUnnamed name most ws
alone name word most ws rest is same none = (
  subst (λ (us : List (List ℕ)). BeginsWith name us) (sym is) same,
  λ n more says few. let e = sym is ∙ says in let behind : rest ≡ decimal n ∷ more = cc in absurd (cc),
)

-- ---- The words of a choice

no_member : (ns : List ℕ) → BeginsWith (codes "member") (release_tokens ns) → ⊥
no_member [] is = is
no_member (n ∷ ns) is = absurd (cc)

no_wake : (h : Option ℕ) (ns : List ℕ) → BeginsWith (codes "wake") (member_tokens h ++ release_tokens ns) → ⊥
no_wake None [] is = is
no_wake None (n ∷ ns) is = absurd (cc)
no_wake (Some h) ns is = absurd (cc)

wake_said : (u : Option ℕ) → wake_tokens u ≡ said (codes "wake") u
wake_said None = refl
wake_said (Some n) = refl

member_said : (u : Option ℕ) → member_tokens u ≡ said (codes "member") u
member_said None = refl
member_said (Some n) = refl

said_named : (name : List ℕ) (most : ℕ) (ws : List (List ℕ)) (v : Option ℕ) (rest : List (List ℕ)) → IsNamed name most ws v rest → ws ≡ said name v ++ rest
said_named name most ws None rest is = sym is.0
said_named name most ws (Some n) rest is = is.0

named_few : (name : List ℕ) (most : ℕ) (ws : List (List ℕ)) (v : Option ℕ) (rest : List (List ℕ)) → IsNamed name most ws v rest → IfSome v (λ n. n ≤ most)
named_few name most ws None rest is = tt
named_few name most ws (Some n) rest is = is.1

module _ (ws : List (List ℕ)) where
  -- no number follows `wake`
  pub no_waiter : IsUnnamed (codes "wake") 18446744073709551615 ws → (c : Chosen) → IsNarrow c → ws ≡ tokens_after c → ⊥
  no_waiter none c narrow says =
      unnamed_none (codes "wake") 18446744073709551615 ws c.waiter (member_tokens c.member ++ release_tokens c.release) none narrow.waiter (no_wake c.member c.release)
      (says ∙ ap (λ (us : List (List ℕ)). us ++ (member_tokens c.member ++ release_tokens c.release)) (wake_said c.waiter))

  module _ (v : Option ℕ) (rest : List (List ℕ)) (one : IsNamed (codes "wake") 18446744073709551615 ws v rest) where
    after_wake : (c : Chosen) → IsNarrow c → ws ≡ tokens_after c → (v ≡ c.waiter) × (rest ≡ member_tokens c.member ++ release_tokens c.release)
    after_wake c narrow says =
        named_one (codes "wake") 18446744073709551615 ws v c.waiter rest (member_tokens c.member ++ release_tokens c.release) (omega arith) one narrow.waiter (no_wake c.member c.release)
        (says ∙ ap (λ (us : List (List ℕ)). us ++ (member_tokens c.member ++ release_tokens c.release)) (wake_said c.waiter))

    -- no handle follows `member`
    pub no_handle : IsUnnamed (codes "member") 4294967295 rest → (c : Chosen) → IsNarrow c → ws ≡ tokens_after c → ⊥
    no_handle none c narrow says =
        let after = after_wake c narrow says in
        unnamed_none (codes "member") 4294967295 rest c.member (release_tokens c.release) none narrow.member (no_member c.release)
        (after.1 ∙ ap (λ (us : List (List ℕ)). us ++ release_tokens c.release) (member_said c.member))

    module _ (h : Option ℕ) (more : List (List ℕ)) (two : IsNamed (codes "member") 4294967295 rest h more) where
      -- what is left is no release
      pub no_release : ((ns : List ℕ) → AreNarrow ns → more ≡ release_tokens ns → ⊥) → (c : Chosen) → IsNarrow c → ws ≡ tokens_after c → ⊥
      no_release none c narrow says =
          let after = after_wake c narrow says in
          let behind = named_one (codes "member") 4294967295 rest h c.member more (release_tokens c.release) (omega arith) two narrow.member (no_member c.release)
          (after.1 ∙ ap (λ (us : List (List ℕ)). us ++ release_tokens c.release) (member_said c.member)) in
          none c.release narrow.release behind.1

      -- the choice of what was read
      pub all_after : (ns : List ℕ) → more ≡ release_tokens ns → AreNarrow ns → (ws ≡ tokens_after (record { waiter = v; member = h; release = ns })) × IsNarrow (record { waiter = v; member = h; release = ns })
      all_after ns is narrow = (
        said_named (codes "wake") 18446744073709551615 ws v rest one ∙ (ap (λ (us : List (List ℕ)). us ++ rest) (sym (wake_said v))
            ∙ ap (λ (us : List (List ℕ)). wake_tokens v ++ us) (said_named (codes "member") 4294967295 rest h more two ∙ (ap (λ (us : List (List ℕ)). us ++ more) (sym (member_said h))
            ∙ ap (λ (us : List (List ℕ)). member_tokens h ++ us) is))),
        record {
          waiter = named_few (codes "wake") 18446744073709551615 ws v rest one;
          member = named_few (codes "member") 4294967295 rest h more two;
          release = narrow;
        },
      )

-- numbers behind `release` are a release
pub released : (ws rest : List (List ℕ)) (r : Result (List ℕ) LineError) → ws ≡ codes "release" ∷ rest → (rest ≡ [] → ⊥) → ReadsNumbers rest r → ReadsRelease ws r
released ws rest (Ok []) is some reads = absurd (some reads.0)
released ws rest (Ok (n ∷ ns)) is some reads = (is ∙ ap (λ (us : List (List ℕ)). codes "release" ∷ us) reads.0, reads.1)
released ws rest (Err errors.NoMemory) is some reads = tt
released ws rest (Err errors.Bad) is some none = λ ns narrow says. by ns narrow says
  where
    by : (ns : List ℕ) → AreNarrow ns → ws ≡ release_tokens ns → ⊥
    by [] narrow says = let e = sym is ∙ says in absurd (cc)
    by (n ∷ ns) narrow says = none (n ∷ ns) narrow (let e = sym is ∙ says in let behind : rest ≡ map decimal (n ∷ ns) = cc in behind)

-- ---- A line

-- behind `choose` the words are those of a choice, or they are those of none
pub choose_after : (ws rest : List (List ℕ)) (r : Result Choice LineError) → ws ≡ codes "choose" ∷ rest → ReadsAfter rest r → ReadsChoice ws r
choose_after ws rest (Ok c) is reads = (is ∙ ap (λ (us : List (List ℕ)). codes "choose" ∷ us) reads.0, reads.1)
choose_after ws rest (Err errors.NoMemory) is reads = tt
choose_after ws rest (Err errors.Bad) is none = λ c narrow says. none c narrow (let e = sym is ∙ says in let behind : rest ≡ tokens_after c = cc in behind)

-- words that don't begin so are those of none
pub not_choose : (ws : List (List ℕ)) → (BeginsWith (codes "choose") ws → ⊥) → IsNone ws
not_choose ws other c narrow says = other (subst (λ (us : List (List ℕ)). BeginsWith (codes "choose") us) (sym says) refl)
