-- An input is cut in one way, and says requests or has a bad line.
use Rattle.serve_requests.specs.Input.{Ends, IsBadIn, IsCut, IsLine, NoneEnds, Whole, fed}
use Rattle.serve_requests.specs.RequestLines.{AreRequests, EachSuits, IsBadRequest, request_tokens}
use Rattle.serve_requests.specs.declared.request.Request.{Request}
use Rattle.text_scenario.proofs.Verdicts.{one_tree}
use Rattle.text_scenario.specs.Grammar.{IsTextOf, spelled}
use Rattle.text_scenario.specs.Spelling.{Lines}
use Rattle.text_scenario.specs.declared.tree.InstanceText.{InstanceText}
use Rattle.text_scenario.specs.declared.tree.ScenarioText.{ScenarioText}
use Rattle.std.proofs.Common.{ap, append_assoc, arith, inl, inr, refl, subst, sym, ◌∙◌}
use Rattle.std.specs.Prelude.{List, [], codes, length, map, suc, take, zero, ℕ, ◌++◌, ◌+◌, ◌-◌, ◌∷◌, ◌≡◌, ◌≤◌}

-- ---- Lines and their line feeds

line_rest : (a : ℕ) (l : List ℕ) → IsLine (a ∷ l) → IsLine l
line_rest a l line = λ k lt. line (suc k) (omega (arith, lt))

-- no line has a line feed
feed_none : (l x : List ℕ) → IsLine (l ++ 10 ∷ x) → ⊥
feed_none [] x line = line 0 (omega arith) refl
feed_none (a ∷ l) x line = feed_none l x (line_rest a (l ++ 10 ∷ x) line)

same_line : (l k x y : List ℕ) → IsLine l → IsLine k → l ++ 10 ∷ x ≡ k ++ 10 ∷ y → (l ≡ k) × (x ≡ y)
same_line [] [] x y one two e = let rest : x ≡ y = cc in (refl, rest)
same_line [] (b ∷ k) x y one two e = let feed : b ≡ 10 = cc in absurd (two 0 (omega arith) feed)
same_line (a ∷ l) [] x y one two e = let feed : a ≡ 10 = cc in absurd (one 0 (omega arith) feed)
same_line (a ∷ l) (b ∷ k) x y one two e =
    let head : a ≡ b = cc in
    let tail : l ++ 10 ∷ x ≡ k ++ 10 ∷ y = cc in
    let t = same_line l k x y (line_rest a l one) (line_rest b k two) tail in
    let lines = t.0 in
    let whole : a ∷ l ≡ b ∷ k = cc in
    (whole, t.1)

end_is_line : IsLine (codes "end")
end_is_line zero lt is = absurd (omega (arith, is))
end_is_line (suc zero) lt is = absurd (omega (arith, is))
end_is_line (suc (suc zero)) lt is = absurd (omega (arith, is))
end_is_line (suc (suc (suc k))) lt is = absurd (omega (arith, lt))

-- ---- The first line `end`

same_heads : (l k : List ℕ) (ls ks : List (List ℕ)) → l ≡ k → ls ≡ ks → l ∷ ls ≡ k ∷ ks
same_heads l k ls ks e f = cc

both_end : (b c : List (List ℕ)) (r s : List ℕ) → NoneEnds b → NoneEnds c → fed (b ++ codes "end" ∷ []) ++ r ≡ fed (c ++ codes "end" ∷ []) ++ s → (b ≡ c) × (r ≡ s)
both_end [] [] r s one two e =
    let t = same_line (codes "end") (codes "end") r s end_is_line end_is_line (sym (append_assoc (codes "end") (10 ∷ []) r) ∙ (e ∙ append_assoc (codes "end") (10 ∷ []) s)) in
    (refl, t.1)
both_end [] (k ∷ ks) r s one two e =
    let after = fed (ks ++ codes "end" ∷ []) in
    let t = same_line (codes "end") k r (after ++ s) end_is_line two.0.0 (sym (append_assoc (codes "end") (10 ∷ []) r) ∙ (e ∙ append_assoc k (10 ∷ after) s)) in
    absurd (two.0.1 (sym t.0))
both_end (l ∷ ls) [] r s one two e =
    let after = fed (ls ++ codes "end" ∷ []) in
    let t = same_line l (codes "end") (after ++ r) s one.0.0 end_is_line (sym (append_assoc l (10 ∷ after) r) ∙ (e ∙ append_assoc (codes "end") (10 ∷ []) s)) in
    absurd (one.0.1 t.0)
both_end (l ∷ ls) (k ∷ ks) r s one two e =
    let after = fed (ls ++ codes "end" ∷ []) in
    let behind = fed (ks ++ codes "end" ∷ []) in
    let t = same_line l k (after ++ r) (behind ++ s) one.0.0 two.0.0 (sym (append_assoc l (10 ∷ after) r) ∙ (e ∙ append_assoc k (10 ∷ behind) s)) in
    let rest = both_end ls ks r s one.1 two.1 t.1 in
    (same_heads l k ls ks t.0 rest.0, rest.1)

-- an input with such a line isn't one without it
end_whole : (b c : List (List ℕ)) (r last : List ℕ) → NoneEnds b → NoneEnds c → IsLine last → fed (b ++ codes "end" ∷ []) ++ r ≡ fed c ++ last → ⊥
end_whole [] [] r last one two line e =
    feed_none (codes "end") r (subst (λ (l : List ℕ). IsLine l) (sym e ∙ append_assoc (codes "end") (10 ∷ []) r) line)
end_whole [] (k ∷ ks) r last one two line e =
    let t = same_line (codes "end") k r (fed ks ++ last) end_is_line two.0.0 (sym (append_assoc (codes "end") (10 ∷ []) r) ∙ (e ∙ append_assoc k (10 ∷ fed ks) last)) in
    two.0.1 (sym t.0)
end_whole (l ∷ ls) [] r last one two line e =
    let after = fed (ls ++ codes "end" ∷ []) in
    feed_none l (after ++ r) (subst (λ (k : List ℕ). IsLine k) (sym e ∙ append_assoc l (10 ∷ after) r) line)
end_whole (l ∷ ls) (k ∷ ks) r last one two line e =
    let after = fed (ls ++ codes "end" ∷ []) in
    let t = same_line l k (after ++ r) (fed ks ++ last) one.0.0 two.0.0 (sym (append_assoc l (10 ∷ after) r) ∙ (e ∙ append_assoc k (10 ∷ fed ks) last)) in
    end_whole ls ks r last one.1 two.1 line t.1

both_whole : (b c : List (List ℕ)) (x y : List ℕ) → NoneEnds b → NoneEnds c → IsLine x → IsLine y → fed b ++ x ≡ fed c ++ y → b ≡ c
both_whole [] [] x y none other one two e = refl
both_whole [] (k ∷ ks) x y none other one two e =
    absurd (feed_none k (fed ks ++ y) (subst (λ (l : List ℕ). IsLine l) (e ∙ append_assoc k (10 ∷ fed ks) y) one))
both_whole (l ∷ ls) [] x y none other one two e =
    absurd (feed_none l (fed ls ++ x) (subst (λ (k : List ℕ). IsLine k) (sym e ∙ append_assoc l (10 ∷ fed ls) x) two))
both_whole (l ∷ ls) (k ∷ ks) x y none other one two e =
    let t = same_line l k (fed ls ++ x) (fed ks ++ y) none.0.0 other.0.0 (sym (append_assoc l (10 ∷ fed ls) x) ∙ (e ∙ append_assoc k (10 ∷ fed ks) y)) in
    same_heads l k ls ks t.0 (both_whole ls ks x y none.1 other.1 one two t.1)

pub one_cut : (input s r : List ℕ) (n : ℕ) (t q : List ℕ) (m : ℕ) → IsCut input s r n → IsCut input t q m → (s ≡ t) × (r ≡ q) × (n ≡ m)
one_cut input s r n t q m (Ends b none is parts count) (Ends c other said all number) =
    let same = both_end b c r q none other (ap (λ (x : List ℕ). x ++ r) (sym is) ∙ (parts ∙ (sym all ∙ ap (λ (x : List ℕ). x ++ q) said))) in
    (is ∙ (ap (λ (ls : List (List ℕ)). fed (ls ++ codes "end" ∷ [])) same.0 ∙ sym said), same.1, count ∙ (ap (λ (ls : List (List ℕ)). length ls + 1) same.0 ∙ sym number))
one_cut input s r n t q m (Ends b none is parts count) (Whole c last other line said all left number) =
    absurd (end_whole b c r last none other line (ap (λ (x : List ℕ). x ++ r) (sym is) ∙ (parts ∙ (sym all ∙ said))))
one_cut input s r n t q m (Whole b last none line is parts left count) (Ends c other said all number) =
    absurd (end_whole c b q last other none line (ap (λ (x : List ℕ). x ++ q) (sym said) ∙ (all ∙ (sym parts ∙ is))))
one_cut input s r n t q m (Whole b x none one is parts left count) (Whole c y other two said all none_left number) =
    let same = both_whole b c x y none other one two (sym is ∙ (parts ∙ (sym all ∙ said))) in
    (parts ∙ sym all, left ∙ sym none_left, count ∙ (ap (λ (ls : List (List ℕ)). length ls) same ∙ sym number))

-- ---- The first of these requests

front_few : (rs : List Request) (n : ℕ) → length (take n rs) ≤ length rs
front_few [] zero = omega arith
front_few [] (suc n) = omega arith
front_few (r ∷ rs) zero = omega arith
front_few (r ∷ rs) (suc n) = let few = front_few rs n in omega (arith, few)

front_suits : (is : List InstanceText) (rs : List Request) (n : ℕ) → EachSuits is rs → EachSuits is (take n rs)
front_suits is [] zero each = tt
front_suits is [] (suc n) each = tt
front_suits is (r ∷ rs) zero each = tt
front_suits is (r ∷ rs) (suc n) each = (each.0, front_suits is rs n each.1)

front_tokens : (is : List InstanceText) (rs : List Request) (n : ℕ) → take n (map (request_tokens is) rs) ≡ map (request_tokens is) (take n rs)
front_tokens is [] zero = refl
front_tokens is [] (suc n) = refl
front_tokens is (r ∷ rs) zero = refl
front_tokens is (r ∷ rs) (suc n) = ap (λ (ls : Lines). request_tokens is r ∷ ls) (front_tokens is rs n)

front_requests : (is : List InstanceText) (ls : Lines) (rs : List Request) (n : ℕ) → AreRequests is ls rs → AreRequests is (take n ls) (take n rs)
front_requests is ls rs n are = record {
  few = let short = front_few rs n in let few = are.few in omega (arith, short, few);
  suited = front_suits is rs n are.suited;
  lines = ap (λ (xs : Lines). take n xs) are.lines ∙ front_tokens is rs n;
}

-- an input of a scenario and requests has no bad line
pub none_bad : (scenario rest : List ℕ) (count n : ℕ) (tree : ScenarioText) (rs : List Request) → IsTextOf tree scenario → AreRequests tree.instances (spelled rest) rs → IsBadIn scenario rest count n → ⊥
none_bad scenario rest count n tree rs reads are (inl line) = line.past tree reads
none_bad scenario rest count n tree rs reads are (inr bad) =
    let same : bad.0 ≡ tree = one_tree bad.0 tree scenario bad.1 reads in
    let here = subst (λ (t : ScenarioText). IsBadRequest t.instances rest (n - count)) same bad.3 in
    here.at (take (n - count) rs) (front_requests tree.instances (spelled rest) rs (n - count) are)
