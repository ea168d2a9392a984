-- The walk of an index's chain: the numbers of its nodes are just those of the records that pass, each once.
use Rattle.std.proofs.Common.{inl, inr, ◌≡◌, ◌==◌, ◌||◌, ℕ, Bool, true, false, List, [], ◌∷◌, Option, Some, None, map, refl, sym, ap, subst, ◌∙◌}
use Rattle.std.proofs.lemmas.Bool.{eq-eqb, eqb-true, or_right}
use Rattle.table_lists.proofs.Indexes.{filed_link, link_says}
use Rattle.table_lists.proofs.Tables.{filings_at}
use Rattle.table_lists.specs.Index.{Filing, IsIndex, Tests, filings}
use Rattle.table_lists.specs.Members.{IsMembers, Once, has}
use Rattle.table_lists.specs.Walks.{number_at, number_in_link, passes_at, passes_in, walked}
use Rattle.table_links.specs.Links.{Apart, In, IsLinks, Spot, entries, link_of}
use Rattle.machine_data.specs.Maps.{get}
use Rattle.task_table.proofs.RecordLemmas.{found_record_at, get-records, record_found}
use Rattle.task_table.specs.Records.{AreApart, key_in, record_at, records}
use Rattle.task_table.specs.Table.{Placed, Table, place_at}

-- ---- Numbers of nodes

module _ {P : Type 0} (num : ℕ → ℕ) where
  abbrev numbers_of : List (ℕ × P) → List ℕ
  numbers_of es = map (λ e. num e.0) es

  has_in : (k : ℕ) (es : List (ℕ × P)) → has k (numbers_of es) ≡ true → (m : ℕ) × (In m es × (num m ≡ k))
  has_in k [] there = absurd (cc)
  has_in k (e ∷ es) there = by (k == num e.0) refl there (has_in k es)
    where
      by : (b : Bool) → (k == num e.0) ≡ b → (b || has k (numbers_of es)) ≡ true → (has k (numbers_of es) ≡ true → (m : ℕ) × (In m es × (num m ≡ k))) → (m : ℕ) × (In m (e ∷ es) × (num m ≡ k))
      by true is there rest = (e.0, (inl refl, sym (eqb-true k (num e.0) is)))
      by false is there rest = let r = rest there in (r.0, (inr r.1.0, r.1.1))

  pub in_has : (m : ℕ) (es : List (ℕ × P)) → In m es → has (num m) (numbers_of es) ≡ true
  in_has m [] i = absurd i
  in_has m (e ∷ es) (inl here) = ap (λ b. b || has (num m) (numbers_of es)) (eq-eqb (num m) (num e.0) (ap num here))
  in_has m (e ∷ es) (inr later) = or_right _ _ (in_has m es later)

  Once-numbers : (es : List (ℕ × P)) → Apart es → ((m n : ℕ) → In m es → In n es → num m ≡ num n → m ≡ n) → Once (numbers_of es)
  Once-numbers [] apart own = tt
  Once-numbers (e ∷ es) apart own = (by (has (num e.0) (numbers_of es)) refl, Once-numbers es apart.1 (λ m n in_m in_n. own m n (inr in_m) (inr in_n)))
    where
      by : (b : Bool) → has (num e.0) (numbers_of es) ≡ b → b ≡ false
      by true is = let h = has_in (num e.0) es is in absurd (apart.0 (subst (λ k. In k es) (own h.0 e.0 (inr h.1.0) (inl refl) h.1.1) h.1.0))
      by false is = refl

module _ {E K P X : Type 0} (says : ℕ → ℕ → E → Option (Filing K P)) (chain : K → Option ℕ) (t : Table E) (links : List (Spot P)) (index : IsIndex chain links (filings says t)) (k : K) (c : ℕ) (has_chain : chain k ≡ Some c) (record_key : E → Option (ℕ × X)) (test : ℕ × X → Bool) (tests : Tests says record_key k test) (sound : IsLinks links) (apart : AreApart record_key t.places) (number : P → ℕ) (reads : (r : ℕ) (p : Placed E) (f : Filing K P) (x : ℕ × X) → place_at t r ≡ Some p → says r p.serial p.entry ≡ Some f → record_key p.entry ≡ Some x → number f.value ≡ x.0) where
  -- the entry of a node in the chain
  record EntryOf (m : ℕ) : Type 0 where
    place : ℕ
    filed : Filing K P
    entry : ℕ × X
    is_filed : filings says t place ≡ Some filed
    is_node : filed.node ≡ m
    is_entry : record_at record_key t.places place ≡ Some entry
    passes : test entry ≡ true
    is_number : number_at number links m ≡ entry.0

  entry_of : (m : ℕ) → In m (entries links c) → EntryOf m
  entry_of m i = let v = sound.entered m c i in let o = index.owner m c v.0 v.1 in by o.0 o.1.0 o.1.1.0 o.1.1.1 v.0 v.1 (place_at t o.0) refl
    where
      by : (r : ℕ) (f : Filing K P) → filings says t r ≡ Some f → f.node ≡ m → (v : P) → link_of links m ≡ Some (c, v) → (o : Option (Placed E)) → place_at t r ≡ o → EntryOf m
      by r f at is v link None here = absurd (let two = sym (filings_at says t r None here) ∙ at in cc)
      by r f at is v link (Some p) here =
          let said_here = sym (filings_at says t r (Some p) here) ∙ at in
          let says_so = link_says chain links (filings says t) index k c has_chain r f at v (ap (link_of links) is ∙ link) in
          let x = tests.passes r p.serial p.entry f said_here says_so.0 in
          record {
            place = r;
            filed = f;
            entry = x.0;
            is_filed = at;
            is_node = is;
            is_entry = ap (key_in record_key) here ∙ x.1.0;
            passes = x.1.1;
            is_number = ap (number_in_link number) link ∙ (ap number (sym says_so.1) ∙ reads r p f x.0 here said_here x.1.0);
          }

  own_number : (m n : ℕ) → In m (entries links c) → In n (entries links c) → number_at number links m ≡ number_at number links n → m ≡ n
  own_number m n in_m in_n same =
      let a = entry_of m in_m in
      let b = entry_of n in_n in
      let place : a.place ≡ b.place = apart.one_place a.place b.place a.entry.0 a.entry.1 b.entry.1 a.is_entry (b.is_entry ∙ ap (λ (q : ℕ). Some (q, b.entry.1)) (sym b.is_number ∙ sym same ∙ a.is_number)) in
      sym a.is_node ∙ ap (λ (f : Filing K P). f.node) (same_filing a.filed b.filed (sym a.is_filed ∙ ap (filings says t) place ∙ b.is_filed)) ∙ b.is_node
    where
      same_filing : (f g : Filing K P) → Some f ≡ Some g → f ≡ g
      same_filing f g is = cc

  pub IsMembers-walked : IsMembers (passes_at test (records record_key t.places)) (walked number links c)
  IsMembers-walked = record {
    once = Once-numbers (number_at number links) (entries links c) (sound.once c) own_number;
    are = λ n. by n (has n (walked number links c)) refl (passes_at test (records record_key t.places) n) refl;
  }
    where
      shown : (n : ℕ) (m : ℕ) → In m (entries links c) → number_at number links m ≡ n → passes_at test (records record_key t.places) n ≡ true
      shown n m i is =
          let a = entry_of m i in
          ap (passes_at test (records record_key t.places)) (sym is ∙ a.is_number)
          ∙ (ap (passes_in test a.entry.0) (get-records record_key t.places a.entry.0 ∙ found_record_at record_key t.places a.place a.entry.0 a.entry.1 apart a.is_entry) ∙ a.passes)

      in_walk : (n : ℕ) (x : X) (r : ℕ) (o : Option (Placed E)) → place_at t r ≡ o → key_in record_key o ≡ Some (n, x) → test (n, x) ≡ true → has n (walked number links c) ≡ true
      in_walk n x r None here is passes = absurd (cc)
      in_walk n x r (Some p) here is passes =
          let f = tests.filed r p.serial p.entry (n, x) is passes in
          let link = filed_link chain links (filings says t) index k c has_chain r f.0 (filings_at says t r (Some p) here ∙ f.1.0) f.1.1 in
          let is_n : number_at number links f.0.node ≡ n = ap (number_in_link number) link ∙ reads r p f.0 (n, x) here f.1.0 is in
          subst (λ q. has q (walked number links c) ≡ true) is_n (in_has (number_at number links) f.0.node (entries links c) (sound.listed f.0.node c f.0.value link).1)

      found : (n : ℕ) (o : Option X) → get (records record_key t.places) n ≡ o → passes_in test n o ≡ true → has n (walked number links c) ≡ true
      found n None at passes = absurd (cc)
      found n (Some x) at passes = let r = record_found record_key t.places n x (sym (get-records record_key t.places n) ∙ at) in in_walk n x r.0 (place_at t r.0) refl r.1 passes

      by : (n : ℕ) (a : Bool) → has n (walked number links c) ≡ a → (b : Bool) → passes_at test (records record_key t.places) n ≡ b → a ≡ b
      by n true is true passes = refl
      by n false is false passes = refl
      by n true is false passes = let h = has_in (number_at number links) n (entries links c) is in sym (shown n h.0 h.1.0 h.1.1) ∙ passes
      by n false is true passes = sym is ∙ found n (get (records record_key t.places) n) refl passes
