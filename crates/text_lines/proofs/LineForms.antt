-- How a keyword and the tokens after it spell a value, by how many tokens there are.
use Rattle.std.proofs.Common.{◌≡◌, ℕ, Bool, true, ◌&&◌, eqb, List, [], ◌∷◌, length, map, Option, Some, refl, sym, ap, subst, ◌∙◌, lit<}
use Rattle.std.specs.Prelude.{nat_le}
use Rattle.std.specs.List.{list_all}
use Rattle.std.proofs.lemmas.Bool.{and_parts, and_from, eqb-true}
use Rattle.std.proofs.lemmas.List.{nil_from_length}
use Rattle.machine_data.specs.declared.op.Operand.{Operand}
use Rattle.text_lines.specs.Tokens.{◌>>=◌, one_of, two_of, three_of, four_of, each_at}
use Rattle.text_lines.specs.LineTokens.{register_token, operand_token}
use Rattle.text_lines.specs.Fits.{register_fits, operand_fits}
use Rattle.text_lines.specs.Line.{alone, register_after, operand_after, target_after, event_after}
use Rattle.text_lines.proofs.Numbers.{guarded}
use Rattle.text_lines.proofs.TokenLaws.{bind_some, some_is, Reads, registers, registers_up_to, operands}

-- ---- How many tokens

pub one_takes : (ws : List (List ℕ)) (w : List ℕ) → one_of ws ≡ Some w → ws ≡ w ∷ []
unfolding one_of
one_takes [] w e = absurd cc
one_takes (a ∷ []) w e = cc
one_takes (a ∷ b ∷ more) w e = absurd cc

pub two_take : (ws : List (List ℕ)) (p : List ℕ × List ℕ) → two_of ws ≡ Some p → ws ≡ p.0 ∷ p.1 ∷ []
unfolding two_of
two_take [] p e = absurd cc
two_take (a ∷ []) p e = absurd cc
two_take (a ∷ b ∷ []) p e = ap (λ (q : List ℕ × List ℕ). q.0 ∷ q.1 ∷ []) (some_is (a, b) p e)
two_take (a ∷ b ∷ c ∷ more) p e = absurd cc

pub three_take : (ws : List (List ℕ)) (p : List ℕ × List ℕ × List ℕ) → three_of ws ≡ Some p → ws ≡ p.0 ∷ p.1 ∷ p.2 ∷ []
unfolding three_of
three_take [] p e = absurd cc
three_take (a ∷ []) p e = absurd cc
three_take (a ∷ b ∷ []) p e = absurd cc
three_take (a ∷ b ∷ c ∷ []) p e = ap (λ (q : List ℕ × List ℕ × List ℕ). q.0 ∷ q.1 ∷ q.2 ∷ []) (some_is (a, b, c) p e)
three_take (a ∷ b ∷ c ∷ d ∷ more) p e = absurd cc

pub four_take : (ws : List (List ℕ)) (p : List ℕ × List ℕ × List ℕ × List ℕ) → four_of ws ≡ Some p → ws ≡ p.0 ∷ p.1 ∷ p.2 ∷ p.3 ∷ []
unfolding four_of
four_take [] p e = absurd cc
four_take (a ∷ []) p e = absurd cc
four_take (a ∷ b ∷ []) p e = absurd cc
four_take (a ∷ b ∷ c ∷ []) p e = absurd cc
four_take (a ∷ b ∷ c ∷ d ∷ []) p e = ap (λ (q : List ℕ × List ℕ × List ℕ × List ℕ). q.0 ∷ q.1 ∷ q.2 ∷ q.3 ∷ []) (some_is (a, b, c, d) p e)
four_take (a ∷ b ∷ c ∷ d ∷ f ∷ more) p e = absurd cc

-- ---- What was read is its own spelling

-- the keyword and the tokens after it spell l, which fits
abbrev pub Spells : {L : Type 0} → (L → List (List ℕ)) → (L → Bool) → List ℕ → List (List ℕ) → L → Type 0
Spells tokens fits kw ws l = (kw ∷ ws ≡ tokens l) × (fits l ≡ true)

pub same_cons : {X : Type 0} (x y : X) (xs ys : List X) → x ≡ y → xs ≡ ys → x ∷ xs ≡ y ∷ ys
same_cons x y xs ys e f = cc

two_tokens : (ws : List (List ℕ)) (a b u v : List ℕ) → ws ≡ a ∷ b ∷ [] → a ≡ u → b ≡ v → ws ≡ u ∷ v ∷ []
two_tokens ws a b u v e f g = cc

pub three_tokens : (kw : List ℕ) (ws : List (List ℕ)) (a b c u v w : List ℕ) → ws ≡ a ∷ b ∷ c ∷ [] → a ≡ u → b ≡ v → c ≡ w → kw ∷ ws ≡ kw ∷ u ∷ v ∷ w ∷ []
three_tokens kw ws a b c u v w e f g h = cc

-- the keyword alone
pub no_tokens : {L : Type 0} (tokens : L → List (List ℕ)) (fits : L → Bool) (kw : List ℕ) (x : L) → tokens x ≡ kw ∷ [] → fits x ≡ true
    → (ws : List (List ℕ)) (l : L) → alone x ws ≡ Some l → Spells tokens fits kw ws l
no_tokens tokens fits kw x spelled fit ws l e =
    let g = guarded (eqb (length ws) 0) x l e in
    let none : ws ≡ [] = nil_from_length ws (eqb-true _ _ g.0) in
    subst (Spells tokens fits kw ws) g.1 (rw none (sym spelled), fit)

-- one token of a kind
pub one_token : {L A : Type 0} (tokens : L → List (List ℕ)) (fits : L → Bool) (kw : List ℕ) {a : List ℕ → Option A} {wa : A → List ℕ} {fa : A → Bool} (ra : Reads a wa fa)
    (f : A → L) → ((x : A) → tokens (f x) ≡ kw ∷ wa x ∷ []) → ((x : A) → fits (f x) ≡ fa x)
    → (ws : List (List ℕ)) (l : L) → (one_of ws >>= λ w. a w >>= λ x. Some (f x)) ≡ Some l → Spells tokens fits kw ws l
one_token tokens fits kw {a = a} ra f spelled fit ws l e =
    let p = bind_some (one_of ws) (λ w. a w >>= λ x. Some (f x)) l e in
    let x = bind_some (a p.0) (λ x. Some (f x)) l p.2 in
    let tx = ra.takes p.0 x.0 x.1 in
    subst (Spells tokens fits kw ws) (some_is (f x.0) l x.2)
    (ap (λ (v : List (List ℕ)). kw ∷ v) (one_takes ws p.0 p.1 ∙ ap (λ (w : List ℕ). w ∷ []) tx.0) ∙ sym (spelled x.0), fit x.0 ∙ tx.1)

-- a token of each of two kinds
pub token_of_each : {L A B : Type 0} (tokens : L → List (List ℕ)) (fits : L → Bool) (kw : List ℕ)
    {a : List ℕ → Option A} {wa : A → List ℕ} {fa : A → Bool} (ra : Reads a wa fa) {b : List ℕ → Option B} {wb : B → List ℕ} {fb : B → Bool} (rb : Reads b wb fb)
    (f : A → B → L) → ((x : A) (y : B) → tokens (f x y) ≡ kw ∷ wa x ∷ wb y ∷ []) → ((x : A) (y : B) → fits (f x y) ≡ (fa x && fb y))
    → (ws : List (List ℕ)) (l : L) → (two_of ws >>= λ p. a p.0 >>= λ x. b p.1 >>= λ y. Some (f x y)) ≡ Some l → Spells tokens fits kw ws l
token_of_each tokens fits kw {a = a} {wa = wa} ra {b = b} {wb = wb} rb f spelled fit ws l e =
    let p = bind_some (two_of ws) (λ p. a p.0 >>= λ x. b p.1 >>= λ y. Some (f x y)) l e in
    let x = bind_some (a p.0.0) (λ x. b p.0.1 >>= λ y. Some (f x y)) l p.2 in
    let y = bind_some (b p.0.1) (λ y. Some (f x.0 y)) l x.2 in
    let tx = ra.takes p.0.0 x.0 x.1 in
    let ty = rb.takes p.0.1 y.0 y.1 in
    subst (Spells tokens fits kw ws) (some_is (f x.0 y.0) l y.2)
    (ap (λ (v : List (List ℕ)). kw ∷ v) (two_tokens ws p.0.0 p.0.1 (wa x.0) (wb y.0) (two_take ws p.0 p.1) tx.0 ty.0) ∙ sym (spelled x.0 y.0), fit x.0 y.0 ∙ and_from _ _ tx.1 ty.1)

-- a token of each of three kinds
pub token_of_three : {L A B C : Type 0} (tokens : L → List (List ℕ)) (fits : L → Bool) (kw : List ℕ)
    {a : List ℕ → Option A} {wa : A → List ℕ} {fa : A → Bool} (ra : Reads a wa fa) {b : List ℕ → Option B} {wb : B → List ℕ} {fb : B → Bool} (rb : Reads b wb fb)
    {c : List ℕ → Option C} {wc : C → List ℕ} {fc : C → Bool} (rc : Reads c wc fc)
    (f : A → B → C → L) → ((x : A) (y : B) (z : C) → tokens (f x y z) ≡ kw ∷ wa x ∷ wb y ∷ wc z ∷ []) → ((x : A) (y : B) (z : C) → fits (f x y z) ≡ (fa x && fb y && fc z))
    → (ws : List (List ℕ)) (l : L) → (three_of ws >>= λ p. a p.0 >>= λ x. b p.1 >>= λ y. c p.2 >>= λ z. Some (f x y z)) ≡ Some l → Spells tokens fits kw ws l
token_of_three tokens fits kw {a = a} {wa = wa} ra {b = b} {wb = wb} rb {c = c} {wc = wc} rc f spelled fit ws l e =
    let p = bind_some (three_of ws) (λ p. a p.0 >>= λ x. b p.1 >>= λ y. c p.2 >>= λ z. Some (f x y z)) l e in
    let x = bind_some (a p.0.0) (λ x. b p.0.1 >>= λ y. c p.0.2 >>= λ z. Some (f x y z)) l p.2 in
    let y = bind_some (b p.0.1) (λ y. c p.0.2 >>= λ z. Some (f x.0 y z)) l x.2 in
    let z = bind_some (c p.0.2) (λ z. Some (f x.0 y.0 z)) l y.2 in
    let tx = ra.takes p.0.0 x.0 x.1 in
    let ty = rb.takes p.0.1 y.0 y.1 in
    let tz = rc.takes p.0.2 z.0 z.1 in
    subst (Spells tokens fits kw ws) (some_is (f x.0 y.0 z.0) l z.2)
    (three_tokens kw ws p.0.0 p.0.1 p.0.2 (wa x.0) (wb y.0) (wc z.0) (three_take ws p.0 p.1) tx.0 ty.0 tz.0 ∙ sym (spelled x.0 y.0 z.0), fit x.0 y.0 z.0 ∙ and_from _ _ (and_from _ _ tx.1 ty.1) tz.1)

-- what was read of a kind of lines, as a line
pub as_line : {A L : Type 0} (tokens : A → List (List ℕ)) (fits : A → Bool) (whole : L → List (List ℕ)) (all : L → Bool) (f : A → L) → ((x : A) → whole (f x) ≡ tokens x) → ((x : A) → all (f x) ≡ fits x)
    → (kw : List ℕ) (ws : List (List ℕ)) (o : Option A) (l : L) → (o >>= λ x. Some (f x)) ≡ Some l → ((x : A) → o ≡ Some x → Spells tokens fits kw ws x) → Spells whole all kw ws l
as_line tokens fits whole all f spelled fit kw ws o l e takes =
    let x = bind_some o (λ x. Some (f x)) l e in
    let t = takes x.0 x.1 in
    subst (Spells whole all kw ws) (some_is (f x.0) l x.2) (t.0 ∙ sym (spelled x.0), fit x.0 ∙ t.1)

-- ---- Tokens after a keyword

-- `after` reads tokens as the value that they spell, apart from a keyword
pub record Tails {A : Type 0} (after : List (List ℕ) → Option A) (tokens : A → List (List ℕ)) (fits : A → Bool) : Type 0 where
  pub takes : (ws : List (List ℕ)) (x : A) → after ws ≡ Some x → (ws ≡ tokens x) × (fits x ≡ true)

-- a value of tokens, with its keyword
pub with_tail : {A L : Type 0} {after : List (List ℕ) → Option A} {tail : A → List (List ℕ)} {fa : A → Bool} (r : Tails after tail fa) (tokens : L → List (List ℕ)) (fits : L → Bool) (kw : List ℕ)
    (f : A → L) → ((x : A) → tokens (f x) ≡ kw ∷ tail x) → ((x : A) → fits (f x) ≡ fa x)
    → (ws : List (List ℕ)) (l : L) → (after ws >>= λ x. Some (f x)) ≡ Some l → Spells tokens fits kw ws l
with_tail {after = after} r tokens fits kw f spelled fit ws l e =
    let x = bind_some (after ws) (λ x. Some (f x)) l e in
    let t = r.takes ws x.0 x.1 in
    subst (Spells tokens fits kw ws) (some_is (f x.0) l x.2) (ap (λ (v : List (List ℕ)). kw ∷ v) t.0 ∙ sym (spelled x.0), fit x.0 ∙ t.1)

pub one_tail : {A : Type 0} {a : List ℕ → Option A} {wa : A → List ℕ} {fa : A → Bool} → Reads a wa fa → Tails (λ ws. one_of ws >>= a) (λ x. wa x ∷ []) fa
one_tail {a = a} ra = record {
  takes = λ ws x e.
      let p = bind_some (one_of ws) a x e in
      let t = ra.takes p.0 x p.2 in
      (one_takes ws p.0 p.1 ∙ ap (λ (w : List ℕ). w ∷ []) t.0, t.1);
}

pair_takes : {A B : Type 0} {a : List ℕ → Option A} {wa : A → List ℕ} {fa : A → Bool} (ra : Reads a wa fa) {b : List ℕ → Option B} {wb : B → List ℕ} {fb : B → Bool} (rb : Reads b wb fb)
    (pair : A → B → A × B) → ((x : A) (y : B) → pair x y ≡ (x, y))
    → (ws : List (List ℕ)) (q : A × B) → (two_of ws >>= λ p. a p.0 >>= λ x. b p.1 >>= λ y. Some (pair x y)) ≡ Some q → (ws ≡ wa q.0 ∷ wb q.1 ∷ []) × ((fa q.0 && fb q.1) ≡ true)
pair_takes {A} {B} {a = a} {wa = wa} {fa = fa} ra {b = b} {wb = wb} {fb = fb} rb pair same ws q e =
    let p = bind_some (two_of ws) (λ p. a p.0 >>= λ x. b p.1 >>= λ y. Some (pair x y)) q e in
    let x = bind_some (a p.0.0) (λ x. b p.0.1 >>= λ y. Some (pair x y)) q p.2 in
    let y = bind_some (b p.0.1) (λ y. Some (pair x.0 y)) q x.2 in
    let tx = ra.takes p.0.0 x.0 x.1 in
    let ty = rb.takes p.0.1 y.0 y.1 in
    subst (λ (r : A × B). (ws ≡ wa r.0 ∷ wb r.1 ∷ []) × ((fa r.0 && fb r.1) ≡ true)) (sym (same x.0 y.0) ∙ some_is (pair x.0 y.0) q y.2)
    (two_tokens ws p.0.0 p.0.1 (wa x.0) (wb y.0) (two_take ws p.0 p.1) tx.0 ty.0, and_from _ _ tx.1 ty.1)

pub register_tail : Tails register_after (λ r. register_token r ∷ []) register_fits
unfolding register_after
register_tail = one_tail registers

pub operand_tail : Tails operand_after (λ x. operand_token x ∷ []) operand_fits
unfolding operand_after
operand_tail = one_tail operands

abbrev pub target_tokens : ℕ × Operand → List (List ℕ)
target_tokens p = register_token p.0 ∷ operand_token p.1 ∷ []

abbrev pub target_fits : ℕ → ℕ × Operand → Bool
target_fits most p = nat_le p.0 most && operand_fits p.1

pub target_tail : Tails target_after target_tokens (target_fits 15)
unfolding target_after
target_tail = record { takes = pair_takes registers operands (λ r x. (r, x)) (λ r x. refl) }

pub event_tail : Tails event_after target_tokens (target_fits 13)
unfolding event_after
event_tail = record { takes = pair_takes (registers_up_to 13 (lit< tt)) operands (λ r x. (r, x)) (λ r x. refl) }

-- ---- Any number of tokens of one kind

pub each_take : {A : Type 0} {a : List ℕ → Option A} {wa : A → List ℕ} {fa : A → Bool} (ra : Reads a wa fa) (ws : List (List ℕ)) (xs : List A) → each_at a ws ≡ Some xs → (ws ≡ map wa xs) × (list_all fa xs ≡ true)
unfolding each_at
each_take {A} {wa = wa} {fa = fa} ra [] xs e = subst (λ (ys : List A). ([] ≡ map wa ys) × (list_all fa ys ≡ true)) (some_is [] xs e) (refl, refl)
each_take {A} {a = a} {wa = wa} {fa = fa} ra (w ∷ ws) xs e =
    let x = bind_some (a w) (λ x. each_at a ws >>= λ ys. Some (x ∷ ys)) xs e in
    let ys = bind_some (each_at a ws) (λ ys. Some (x.0 ∷ ys)) xs x.2 in
    let tx = ra.takes w x.0 x.1 in
    let ty = each_take ra ws ys.0 ys.1 in
    subst (λ (zs : List A). (w ∷ ws ≡ map wa zs) × (list_all fa zs ≡ true)) (some_is (x.0 ∷ ys.0) xs ys.2) (same_cons w (wa x.0) ws (map wa ys.0) tx.0 ty.0, and_from _ _ tx.1 ty.1)

pub each_again : {A : Type 0} {a : List ℕ → Option A} {wa : A → List ℕ} {fa : A → Bool} (ra : Reads a wa fa) (xs : List A) → list_all fa xs ≡ true → each_at a (map wa xs) ≡ Some xs
unfolding each_at
each_again ra [] fits = refl
each_again ra (x ∷ xs) fits = let p = and_parts _ _ fits in rw (ra.again x p.0, each_again ra xs p.1) refl
