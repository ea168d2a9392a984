-- The records that places hold: what is found under a number, and what a change of one place does.
use Rattle.std.proofs.Common.{◌≡◌, ℕ, zero, suc, ◌==◌, inl, inr, cond, List, [], ◌∷◌, Option, Some, None, refl, sym, ap, ap₂, ◌∙◌, arith}
use Rattle.std.proofs.lemmas.Bool.{cases_eq, eq-eqb, ne_eqb}
use Rattle.std.proofs.lemmas.Option.{same_Some, some_pair_parts}
use Rattle.machine_data.specs.Maps.{Records, get, get-empty, get-insert, get-remove, same_map}
use Rattle.task_table.specs.Table.{Placed}
use Rattle.task_table.specs.Records.{key_in, record_at, with_record, records, or_record, found_record, AreApart, KeepsRecords, PutsRecord, TakesRecord}

differ : {A : Type 0} (o : Option A) (x : A) → o ≡ None → o ≡ Some x → ⊥
differ o x none some = cc

module _ {X : Type 0} where
  pub cond-same : (q n : ℕ) (x y : Option X) → q ≡ n → (cond (q == n) x y) ≡ x
  cond-same q n x y same = ap (λ b. cond b x y) (eq-eqb q n same)

  pub cond-other : (q n : ℕ) (x y : Option X) → (q ≡ n → ⊥) → (cond (q == n) x y) ≡ y
  cond-other q n x y other = ap (λ b. cond b x y) (ne_eqb q n other)

get-with_record : {X : Type 0} (e : Option (ℕ × X)) (m : Records X) (q : ℕ) → get (with_record e m) q ≡ or_record q e (get m q)
get-with_record None m q = refl
get-with_record (Some e) m q = get-insert m e.0 e.1 q

module _ {E X : Type 0} (key : E → Option (ℕ × X)) where
  -- the map has under a number what is found under it
  pub get-records : (ps : List (Option (Placed E))) (n : ℕ) → get (records key ps) n ≡ found_record key n ps
  unfolding records found_record
  get-records [] n = get-empty n
  get-records (o ∷ os) n = get-with_record (key_in key o) (records key os) n ∙ ap (or_record n (key_in key o)) (get-records os n)

  -- the places but the first
  pub AreApart-rest : (o : Option (Placed E)) (os : List (Option (Placed E))) → AreApart key (o ∷ os) → AreApart key os
  AreApart-rest o os apart = record { one_place = λ r s n x y at_r at_s. let same = apart.one_place (suc r) (suc s) n x y at_r at_s in omega arith }

  -- a record that is found is at a place
  pub record_found : (ps : List (Option (Placed E))) (n : ℕ) (x : X) → found_record key n ps ≡ Some x → (r : ℕ) × (record_at key ps r ≡ Some (n, x))
  unfolding found_record
  record_found [] n x is = absurd (cc)
  record_found (o ∷ os) n x is = by_first (key_in key o) refl (λ rest. let one = record_found os n x rest in (suc one.0, one.1)) is
    where
      by_first : (e : Option (ℕ × X)) → key_in key o ≡ e → (found_record key n os ≡ Some x → (r : ℕ) × (record_at key (o ∷ os) r ≡ Some (n, x))) → or_record n e (found_record key n os) ≡ Some x → (r : ℕ) × (record_at key (o ∷ os) r ≡ Some (n, x))
      by_first None at later rest = later rest
      by_first (Some e) at later some = elim (cases_eq n e.0) [
        | inl same ↦ (0, at ∙ ap₂ (λ m y. Some (m, y)) (sym same) (same_Some e.1 x (sym (cond-same n e.0 (Some e.1) (found_record key n os) same) ∙ some)))
        | inr other ↦ later (sym (cond-other n e.0 (Some e.1) (found_record key n os) other) ∙ some)
      ]

  -- a record that is at a place is found
  pub found_record_at : (ps : List (Option (Placed E))) (r n : ℕ) (x : X) → AreApart key ps → record_at key ps r ≡ Some (n, x) → found_record key n ps ≡ Some x
  unfolding found_record
  found_record_at [] r n x apart at = absurd (cc)
  found_record_at (o ∷ os) zero n x apart at = ap (λ e. or_record n e (found_record key n os)) at ∙ cond-same n n (Some x) (found_record key n os) refl
  found_record_at (o ∷ os) (suc r) n x apart at = by_first (key_in key o) refl (found_record_at os r n x (AreApart-rest o os apart) at)
    where
      by_first : (e : Option (ℕ × X)) → key_in key o ≡ e → found_record key n os ≡ Some x → or_record n e (found_record key n os) ≡ Some x
      by_first None first rest = rest
      by_first (Some e) first rest = elim (cases_eq n e.0) [
        | inl same ↦ absurd (let two = apart.one_place (suc r) 0 n x e.1 at (first ∙ ap (λ m. Some (m, e.1)) (sym same)) in omega arith)
        | inr other ↦ cond-other n e.0 (Some e.1) (found_record key n os) other ∙ rest
      ]

  -- the number of the first record is nowhere else
  pub fresh_first : (o : Option (Placed E)) (os : List (Option (Placed E))) (n : ℕ) (x : X) → AreApart key (o ∷ os) → key_in key o ≡ Some (n, x) → found_record key n os ≡ None
  fresh_first o os n x apart first = by_rest (found_record key n os) refl
    where
      by_rest : (f : Option X) → found_record key n os ≡ f → f ≡ None
      by_rest None is = refl
      by_rest (Some y) is = absurd (let one = record_found os n y is in let two = apart.one_place 0 (suc one.0) n x y first one.1 in omega arith)

  module _ (old new : List (Option (Placed E))) (apart : AreApart key old) where
    -- what is found under a number, where its record is in both or in neither
    found-alike : (n : ℕ) → AreApart key new → ((r : ℕ) (x : X) → record_at key old r ≡ Some (n, x) → record_at key new r ≡ Some (n, x)) → ((r : ℕ) (x : X) → record_at key new r ≡ Some (n, x) → record_at key old r ≡ Some (n, x)) → found_record key n new ≡ found_record key n old
    found-alike n apart_new there back = by_found (found_record key n new) (found_record key n old) refl refl
      where
        by_found : (f g : Option X) → found_record key n new ≡ f → found_record key n old ≡ g → f ≡ g
        by_found None None is was = refl
        by_found None (Some y) is was = absurd (let one = record_found old n y was in differ _ y is (found_record_at new one.0 n y apart_new (there one.0 y one.1)))
        by_found (Some x) g is was = let one = record_found new n x is in sym (found_record_at old one.0 n x apart (back one.0 x one.1)) ∙ was

    module _ (same : (r : ℕ) → record_at key new r ≡ record_at key old r) where
      kept_apart : AreApart key new
      kept_apart = record { one_place = λ r s n x y at_r at_s. apart.one_place r s n x y (sym (same r) ∙ at_r) (sym (same s) ∙ at_s) }

      kept_found : (q : ℕ) → found_record key q new ≡ found_record key q old
      kept_found q = found-alike q kept_apart (λ r x at. same r ∙ at) (λ r x at. sym (same r) ∙ at)

      -- each place holds what it held
      pub keeps : KeepsRecords key old new
      keeps = record { map = same_map _ _ (λ q. get-records new q ∙ kept_found q ∙ sym (get-records old q)); apart = kept_apart; found = kept_found }

    module _ (rep n : ℕ) (y : X) (here : record_at key new rep ≡ Some (n, y)) (others : (r : ℕ) → (r ≡ rep → ⊥) → record_at key new r ≡ record_at key old r) (only : (r : ℕ) (x : X) → record_at key old r ≡ Some (n, x) → r ≡ rep) (was : (m : ℕ) (x : X) → record_at key old rep ≡ Some (m, x) → m ≡ n) where
      number_here : (r m : ℕ) (x : X) → r ≡ rep → record_at key new r ≡ Some (m, x) → m ≡ n
      number_here r m x same at = sym (some_pair_parts n m y x (sym here ∙ ap (record_at key new) (sym same) ∙ at)).0

      -- a place of a number of its own is the written one
      only_new : (r m : ℕ) (x : X) → m ≡ n → record_at key new r ≡ Some (m, x) → r ≡ rep
      only_new r m x same at = elim (cases_eq r rep) [
        | inl this ↦ this
        | inr other ↦ only r x (sym (others r other) ∙ at ∙ ap (λ k. Some (k, x)) same)
      ]

      put_apart : AreApart key new
      put_apart = record {
        one_place = λ r s m x z at_r at_s. elim (cases_eq r rep) [
          | inl this ↦ this ∙ sym (only_new s m z (number_here r m x this at_r) at_s)
          | inr other ↦ elim (cases_eq s rep) [
            | inl that ↦ only_new r m x (number_here s m z that at_s) at_r ∙ sym that
            | inr others_too ↦ apart.one_place r s m x z (sym (others r other) ∙ at_r) (sym (others s others_too) ∙ at_s)
          ]
        ];
      }

      put_found : (q : ℕ) → found_record key q new ≡ (cond (q == n) (Some y) (found_record key q old))
      put_found q = elim (cases_eq q n) [
        | inl same ↦ found_record_at new rep q y put_apart (here ∙ ap (λ m. Some (m, y)) (sym same)) ∙ sym (cond-same q n (Some y) (found_record key q old) same)
        | inr other ↦
            found-alike q put_apart
            (λ r x at. others r (λ this. other (was q x (ap (record_at key old) (sym this) ∙ at))) ∙ at)
            (λ r x at. sym (others r (λ this. other (number_here r q x this at))) ∙ at)
            ∙ sym (cond-other q n (Some y) (found_record key q old) other)
      ]

      -- one place holds a record of a number that no other place holds
      pub puts : PutsRecord key old new n y
      puts = record {
        map = same_map _ _ (λ q. get-records new q ∙ put_found q ∙ sym (get-insert (records key old) n y q ∙ ap (cond (q == n) (Some y)) (get-records old q)));
        apart = put_apart;
        found = put_found;
      }

    module _ (rep n : ℕ) (x : X) (none : record_at key new rep ≡ None) (others : (r : ℕ) → (r ≡ rep → ⊥) → record_at key new r ≡ record_at key old r) (was : record_at key old rep ≡ Some (n, x)) where
      not_here : (r m : ℕ) (z : X) → record_at key new r ≡ Some (m, z) → r ≡ rep → ⊥
      not_here r m z at this = differ (record_at key new rep) (m, z) none (ap (record_at key new) (sym this) ∙ at)

      back : (r m : ℕ) (z : X) → record_at key new r ≡ Some (m, z) → record_at key old r ≡ Some (m, z)
      back r m z at = sym (others r (not_here r m z at)) ∙ at

      taken_apart : AreApart key new
      taken_apart = record { one_place = λ r s m z w at_r at_s. apart.one_place r s m z w (back r m z at_r) (back s m w at_s) }

      nothing : (q : ℕ) → q ≡ n → (f : Option X) → found_record key q new ≡ f → f ≡ None
      nothing q same None is = refl
      nothing q same (Some z) is = absurd (let one = record_found new q z is in not_here one.0 q z one.1 (apart.one_place one.0 rep n z x (back one.0 q z one.1 ∙ ap (λ m. Some (m, z)) same) was))

      taken_found : (q : ℕ) → found_record key q new ≡ (cond (q == n) None (found_record key q old))
      taken_found q = elim (cases_eq q n) [
        | inl same ↦ nothing q same (found_record key q new) refl ∙ sym (cond-same q n None (found_record key q old) same)
        | inr other ↦
            found-alike q taken_apart
            (λ r z at. others r (λ this. other (sym (some_pair_parts n q x z (sym was ∙ ap (record_at key old) (sym this) ∙ at)).0)) ∙ at)
            (λ r z at. back r q z at)
            ∙ sym (cond-other q n None (found_record key q old) other)
      ]

      -- one place holds its record no more
      pub takes : TakesRecord key old new n
      takes = record {
        map = same_map _ _ (λ q. get-records new q ∙ taken_found q ∙ sym (get-remove (records key old) n q ∙ ap (cond (q == n) None) (get-records old q)));
        apart = taken_apart;
        found = taken_found;
      }
