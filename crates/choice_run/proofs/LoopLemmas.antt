-- Choices are read line by line.
use Rattle.choice_run.specs.ChooseLines.{AreChoices, EachIsNarrow, IsBadChoice, IsNarrow, choice_tokens}
use Rattle.choice_run.specs.Reading.{IsNone, Takes}
use Rattle.laws_choices.specs.Offer.{Chosen}
use Rattle.std.proofs.Common.{ap, append_assoc, arith, inl, inr, refl, subst, sym, take_at, ◌∙◌}
use Rattle.std.proofs.lemmas.List.{append-nil, length-append, map-append}
use Rattle.std.specs.Prelude.{List, [], length, map, suc, take, ℕ, ◌+◌, ◌++◌, ◌-◌, ◌<◌, ◌∷◌, ◌≡◌, ◌≤◌, ◌⊎◌}
use Rattle.text_scenario.specs.Grammar.{lines, spelled, tokens}
use Rattle.text_scenario.specs.Spelling.{Lines}

-- so many lines were read, as these choices
pub record HasRead (text : List ℕ) (first number : ℕ) (rest : List ℕ) (cs : List Chosen) : Type 0 where
  pub done : Lines
  pub parts : done ++ spelled rest ≡ spelled text
  pub are : AreChoices done cs
  pub number_is : number ≡ first + length done
  pub within : number + length rest ≤ first + length text

pub none_read : (text : List ℕ) (first : ℕ) → HasRead text first first text []
none_read text first = record {
  done = [];
  parts = refl;
  are = record { few = omega arith; narrow = tt; lines = refl };
  number_is = omega arith;
  within = omega arith;
}

each_more : (cs : List Chosen) (c : Chosen) → EachIsNarrow cs → IsNarrow c → EachIsNarrow (cs ++ c ∷ [])
each_more [] c each narrow = (narrow, tt)
each_more (d ∷ ds) c each narrow = (each.0, each_more ds c each.1 narrow)

length_mapped : {A B : Type 0} (f : A → B) (xs : List A) → length (map f xs) ≡ length xs
length_mapped f [] = refl
length_mapped f (x ∷ xs) = ap (λ (k : ℕ). suc k) (length_mapped f xs)

-- of as many lines as choices
same_count : (ls : Lines) (cs : List Chosen) → ls ≡ map choice_tokens cs → length ls ≡ length cs
same_count ls cs e = ap (λ (xs : Lines). length xs) e ∙ length_mapped choice_tokens cs

-- the last of these lines says a choice
last_says : (front : Lines) (ws : List (List ℕ)) (cs : List Chosen) → front ++ ws ∷ [] ≡ map choice_tokens cs → EachIsNarrow cs → (c : Chosen) × (ws ≡ choice_tokens c) × IsNarrow c
last_says [] ws [] e each = absurd (cc)
last_says [] ws (c ∷ cs) e each = let same : ws ≡ choice_tokens c = cc in (c, same, each.0)
last_says (l ∷ front) ws [] e each = absurd (cc)
last_says (l ∷ front) ws (c ∷ cs) e each =
    let rest : front ++ ws ∷ [] ≡ map choice_tokens cs = cc in
    last_says front ws cs rest each.1

front_of : {A : Type 0} (xs ys : List A) (n : ℕ) → n ≡ length xs → take n (xs ++ ys) ≡ xs
front_of xs ys n e = take_at xs ys n (sym e)

next_of : {A : Type 0} (xs : List A) (y : A) (ys : List A) (n : ℕ) → n ≡ suc (length xs) → take n (xs ++ y ∷ ys) ≡ xs ++ y ∷ []
next_of xs y ys n e =
    let size = length-append xs (y ∷ []) in
    let whole : (xs ++ y ∷ []) ++ ys ≡ xs ++ y ∷ ys = append_assoc xs (y ∷ []) ys in
    subst (λ (zs : List _). take n zs ≡ xs ++ y ∷ []) whole (take_at (xs ++ y ∷ []) ys n (omega (arith, e, size)))

module _ (text : List ℕ) (first number : ℕ) (rest line more : List ℕ) (cs : List Chosen) (read : HasRead text first number rest cs) (cut : lines rest ≡ line ∷ lines more) where
  -- what is left to read has this line first
  whole : read.done ++ tokens line ∷ spelled more ≡ spelled text
  whole = ap (λ (ls : List (List ℕ)). read.done ++ map tokens ls) (sym cut) ∙ read.parts

  one_choice : (c : Chosen) → length more < length rest → length cs < 100000 → tokens line ≡ choice_tokens c → IsNarrow c → HasRead text first (number + 1) more (cs ++ c ∷ [])
  one_choice c shorter few says narrow =
      let size = length-append cs (c ∷ []) in
      let lines_more = length-append read.done (tokens line ∷ []) in
      let number_is = read.number_is in
      let within = read.within in
      record {
        done = read.done ++ tokens line ∷ [];
        parts = append_assoc read.done (tokens line ∷ []) (spelled more) ∙ whole;
        are = record {
          few = omega (arith, few, size);
          narrow = each_more cs c read.are.narrow narrow;
          lines = ap (λ (ls : Lines). ls ++ tokens line ∷ []) read.are.lines ∙ (ap (λ (ws : List (List ℕ)). map choice_tokens cs ++ ws ∷ []) says ∙ sym (map-append choice_tokens cs (c ∷ [])));
        };
        number_is = omega (arith, number_is, lines_more);
        within = omega (arith, within, shorter);
      }

  pub one_more : (after : List Chosen) → length more < length rest → Takes line cs after → HasRead text first (number + 1) more after
  one_more after shorter t = subst (λ (ds : List Chosen). HasRead text first (number + 1) more ds) (sym t.more) (one_choice t.choice shorter t.few t.says t.narrow)

  none_such : (100000 ≤ length cs) ⊎ IsNone (tokens line) → (ds : List Chosen) → AreChoices (read.done ++ tokens line ∷ []) ds → ⊥
  none_such (inl many) ds are =
      let count = same_count read.done cs read.are.lines in
      let counted = same_count (read.done ++ tokens line ∷ []) ds are.lines in
      let size = length-append read.done (tokens line ∷ []) in
      let few = are.few in
      omega (arith, many, count, counted, size, few)
  none_such (inr none) ds are = let l = last_says read.done (tokens line) ds are.lines are.narrow in none l.0 l.2 l.1

  pub bad_line : (100000 ≤ length cs) ⊎ IsNone (tokens line) → (first ≤ number) × IsBadChoice text (number + 1 - first)
  bad_line why =
      let number_is = read.number_is in
      let before : number + 1 - first - 1 ≡ length read.done = omega (arith, number_is) in
      let here : number + 1 - first ≡ suc (length read.done) = omega (arith, number_is) in
      let all = ap (λ (ls : Lines). length ls) whole in
      let size = length-append read.done (tokens line ∷ spelled more) in
      let mapped = length_mapped tokens (lines text) in (
        omega (arith, number_is),
        record {
          counts = (omega (arith, here), omega (arith, here, all, size, mapped));
          before = (cs, subst (λ (ls : Lines). AreChoices ls cs) (sym (ap (λ (ls : Lines). take (number + 1 - first - 1) ls) (sym whole) ∙ front_of read.done (tokens line ∷ spelled more) (number + 1 - first - 1) before)) read.are);
          at = λ ds are. none_such why ds
              (subst (λ (ls : Lines). AreChoices ls ds) (ap (λ (ls : Lines). take (number + 1 - first) ls) (sym whole) ∙ next_of read.done (tokens line) (spelled more) (number + 1 - first) here) are);
        },
      )

-- all was read
pub all_read : (text : List ℕ) (first number : ℕ) (rest : List ℕ) (cs : List Chosen) → HasRead text first number rest cs → rest ≡ [] → AreChoices (spelled text) cs
all_read text first number rest cs read none =
    let whole : read.done ≡ spelled text = sym (append-nil read.done) ∙ (ap (λ (bs : List ℕ). read.done ++ spelled bs) (sym none) ∙ read.parts) in
    subst (λ (ls : Lines). AreChoices ls cs) whole read.are

-- ---- Lines that say choices have no bad one

front_few : (cs : List Chosen) (n : ℕ) → length (take n cs) ≤ length cs
front_few [] ℕ.zero = omega arith
front_few [] (suc n) = omega arith
front_few (c ∷ cs) ℕ.zero = omega arith
front_few (c ∷ cs) (suc n) = let few = front_few cs n in omega (arith, few)

front_narrow : (cs : List Chosen) (n : ℕ) → EachIsNarrow cs → EachIsNarrow (take n cs)
front_narrow [] ℕ.zero each = tt
front_narrow [] (suc n) each = tt
front_narrow (c ∷ cs) ℕ.zero each = tt
front_narrow (c ∷ cs) (suc n) each = (each.0, front_narrow cs n each.1)

front_tokens : (cs : List Chosen) (n : ℕ) → take n (map choice_tokens cs) ≡ map choice_tokens (take n cs)
front_tokens [] ℕ.zero = refl
front_tokens [] (suc n) = refl
front_tokens (c ∷ cs) ℕ.zero = refl
front_tokens (c ∷ cs) (suc n) = ap (λ (ls : Lines). choice_tokens c ∷ ls) (front_tokens cs n)

pub front_choices : (ls : Lines) (cs : List Chosen) (n : ℕ) → AreChoices ls cs → AreChoices (take n ls) (take n cs)
front_choices ls cs n are = record {
  few = let short = front_few cs n in let few = are.few in omega (arith, short, few);
  narrow = front_narrow cs n are.narrow;
  lines = ap (λ (xs : Lines). take n xs) are.lines ∙ front_tokens cs n;
}
