-- Requests are read line by line.
use Rattle.serve_requests.proofs.RequestLaws.{again, takes}
use Rattle.serve_requests.specs.Reading.{request_of}
use Rattle.serve_requests.specs.RequestLines.{AreRequests, EachSuits, IsBadRequest, Suits, request_tokens}
use Rattle.serve_requests.specs.declared.request.Request.{Request}
use Rattle.text_scenario.specs.Grammar.{lines, spelled, tokens}
use Rattle.text_scenario.specs.Placement.{EachIsPlaced, InstanceIsPlaced}
use Rattle.text_scenario.specs.Spelling.{Lines}
use Rattle.text_scenario.specs.declared.tree.HostText.{HostText}
use Rattle.text_scenario.specs.declared.tree.InstanceText.{InstanceText}
use Rattle.std.proofs.Common.{ap, append_assoc, arith, inl, inr, refl, subst, sym, take_at, ◌∙◌}
use Rattle.std.proofs.lemmas.List.{append-nil, length-append, map-append}
use Rattle.std.specs.Prelude.{List, None, Some, [], length, map, suc, take, ℕ, ◌+◌, ◌++◌, ◌-◌, ◌<◌, ◌∷◌, ◌≡◌, ◌≤◌, ◌⊎◌}

-- so many lines were read, as these requests
pub record HasRead (is : List InstanceText) (text : List ℕ) (first number : ℕ) (rest : List ℕ) (rs : List Request) : Type 0 where
  pub done : Lines
  pub parts : done ++ spelled rest ≡ spelled text
  pub are : AreRequests is done rs
  pub number_is : number ≡ first + length done
  pub within : number + length rest ≤ first + length text

pub none_read : (is : List InstanceText) (text : List ℕ) (first : ℕ) → HasRead is text first first text []
none_read is text first = record {
  done = [];
  parts = refl;
  are = record { few = omega arith; suited = tt; lines = refl };
  number_is = omega arith;
  within = omega arith;
}

each_more : (is : List InstanceText) (rs : List Request) (r : Request) → EachSuits is rs → Suits is r → EachSuits is (rs ++ r ∷ [])
each_more is [] r each suits = (suits, tt)
each_more is (q ∷ qs) r each suits = (each.0, each_more is qs r each.1 suits)

length_mapped : {A B : Type 0} (f : A → B) (xs : List A) → length (map f xs) ≡ length xs
length_mapped f [] = refl
length_mapped f (x ∷ xs) = ap (λ (k : ℕ). suc k) (length_mapped f xs)

map_more : (is : List InstanceText) (rs : List Request) (r : Request) → map (request_tokens is) (rs ++ r ∷ []) ≡ map (request_tokens is) rs ++ request_tokens is r ∷ []
map_more is rs r = map-append (request_tokens is) rs (r ∷ [])

-- of as many lines as requests
same_count : (is : List InstanceText) (ls : Lines) (rs : List Request) → ls ≡ map (request_tokens is) rs → length ls ≡ length rs
same_count is ls rs e = ap (λ (xs : Lines). length xs) e ∙ length_mapped (request_tokens is) rs

-- the last of these lines says a request
last_suits : (is : List InstanceText) (front : Lines) (ws : List (List ℕ)) (rs : List Request) → front ++ ws ∷ [] ≡ map (request_tokens is) rs → EachSuits is rs → (r : Request) × (ws ≡ request_tokens is r) × Suits is r
last_suits is [] ws [] e each = absurd (cc)
last_suits is [] ws (r ∷ rs) e each = let same : ws ≡ request_tokens is r = cc in (r, same, each.0)
last_suits is (l ∷ front) ws [] e each = absurd (cc)
last_suits is (l ∷ front) ws (r ∷ rs) e each =
    let rest : front ++ ws ∷ [] ≡ map (request_tokens is) rs = cc in
    last_suits is front ws rs rest each.1

front_of : {A : Type 0} (xs ys : List A) (n : ℕ) → n ≡ length xs → take n (xs ++ ys) ≡ xs
front_of xs ys n e = take_at xs ys n (sym e)

next_of : {A : Type 0} (xs : List A) (y : A) (ys : List A) (n : ℕ) → n ≡ suc (length xs) → take n (xs ++ y ∷ ys) ≡ xs ++ y ∷ []
next_of xs y ys n e =
    let size = length-append xs (y ∷ []) in
    let whole : (xs ++ y ∷ []) ++ ys ≡ xs ++ y ∷ ys = append_assoc xs (y ∷ []) ys in
    subst (λ (zs : List _). take n zs ≡ xs ++ y ∷ []) whole (take_at (xs ++ y ∷ []) ys n (omega (arith, e, size)))

module _ (is : List InstanceText) (text : List ℕ) (first number : ℕ) (rest line more : List ℕ) (rs : List Request) (read : HasRead is text first number rest rs) (cut : lines rest ≡ line ∷ lines more) where
  -- what is left to read has this line first
  whole : read.done ++ tokens line ∷ spelled more ≡ spelled text
  whole = ap (λ (ls : List (List ℕ)). read.done ++ map tokens ls) (sym cut) ∙ read.parts

  pub one_more : (r : Request) → length more < length rest → length rs < 10000 → request_of is (tokens line) ≡ Some r → HasRead is text first (number + 1) more (rs ++ r ∷ [])
  one_more r shorter few of =
      let t = takes is (tokens line) r of in
      let size = length-append rs (r ∷ []) in
      let lines_more = length-append read.done (tokens line ∷ []) in
      let number_is = read.number_is in
      let within = read.within in
      record {
        done = read.done ++ tokens line ∷ [];
        parts = append_assoc read.done (tokens line ∷ []) (spelled more) ∙ whole;
        are = record {
          few = omega (arith, few, size);
          suited = each_more is rs r read.are.suited t.1;
          lines = ap (λ (ls : Lines). ls ++ tokens line ∷ []) read.are.lines ∙ (ap (λ (ws : List (List ℕ)). map (request_tokens is) rs ++ ws ∷ []) t.0 ∙ sym (map_more is rs r));
        };
        number_is = omega (arith, number_is, lines_more);
        within = omega (arith, within, shorter);
      }

  module _ (hosts : List HostText) (each : EachIsPlaced (InstanceIsPlaced hosts) [] is) where
    none_such : (10000 ≤ length rs) ⊎ (request_of is (tokens line) ≡ None) → (qs : List Request) → AreRequests is (read.done ++ tokens line ∷ []) qs → ⊥
    none_such (inl many) qs are =
        let count = same_count is read.done rs read.are.lines in
        let counted = same_count is (read.done ++ tokens line ∷ []) qs are.lines in
        let size = length-append read.done (tokens line ∷ []) in
        let few = are.few in
        omega (arith, many, count, counted, size, few)
    none_such (inr none) qs are =
        let l = last_suits is read.done (tokens line) qs are.lines are.suited in
        let some : request_of is (tokens line) ≡ Some l.0 = ap (request_of is) l.1 ∙ again hosts is each l.0 l.2 in
        let clash = sym none ∙ some in
        absurd (cc)

    pub bad_line : (10000 ≤ length rs) ⊎ (request_of is (tokens line) ≡ None) → (first ≤ number) × IsBadRequest is text (number + 1 - first)
    bad_line why =
        let number_is = read.number_is in
        let before : number + 1 - first - 1 ≡ length read.done = omega (arith, number_is) in
        let here : number + 1 - first ≡ suc (length read.done) = omega (arith, number_is) in
        let all = ap (λ (ls : Lines). length ls) whole in
        let size = length-append read.done (tokens line ∷ spelled more) in
        let mapped = length_mapped tokens (lines text) in (
          omega (arith, number_is),
          record {
            counts = (omega (arith, here), omega (arith, here, all, size, mapped));
            before = (rs, subst (λ (ls : Lines). AreRequests is ls rs) (sym (ap (λ (ls : Lines). take (number + 1 - first - 1) ls) (sym whole) ∙ front_of read.done (tokens line ∷ spelled more) (number + 1 - first - 1) before)) read.are);
            at = λ qs are. none_such why qs
                (subst (λ (ls : Lines). AreRequests is ls qs) (ap (λ (ls : Lines). take (number + 1 - first) ls) (sym whole) ∙ next_of read.done (tokens line) (spelled more) (number + 1 - first) here) are);
          },
        )

-- all was read
pub all_read : (is : List InstanceText) (text : List ℕ) (first number : ℕ) (rest : List ℕ) (rs : List Request) → HasRead is text first number rest rs → rest ≡ [] → AreRequests is (spelled text) rs
all_read is text first number rest rs read none =
    let whole : read.done ≡ spelled text = sym (append-nil read.done) ∙ (ap (λ (bs : List ℕ). read.done ++ spelled bs) (sym none) ∙ read.parts) in
    subst (λ (ls : Lines). AreRequests is ls rs) whole read.are
