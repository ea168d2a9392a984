-- The handles of a set's ready members are those by which the instance names ready members.
use Rattle.core_lists.specs.Listed.{ready_of}
use Rattle.laws_choices.specs.Offers.{handles_of, names_ready}
use Rattle.machine_data.specs.Core.{Core, NameTable}
use Rattle.machine_data.specs.Maps.{get, numbers}
use Rattle.machine_data.specs.Read.{as_subtask, is_in_set, is_ready_member, subtask_at, subtasks}
use Rattle.machine_data.specs.declared.records.Call.{Call}
use Rattle.machine_data.specs.declared.records.Join.TheVariants as join
use Rattle.machine_data.specs.declared.records.Work.{Work}
use Rattle.machine_data.specs.declared.records.Named.{Named}
use Rattle.machine_data.specs.declared.records.Subtask.TheVariants as subtask
use Rattle.machine_data.specs.declared.records.Subtask.{Subtask}
use Rattle.ops_guests.specs.PickedEvents.{MembersNamed}
use Rattle.std.proofs.Common.{ap, cond, inl, inr, refl, subst, sym, ◌∙◌}
use Rattle.std.proofs.lemmas.Bool.{eq-eqb, eqb-true, or_right}
use Rattle.std.proofs.lemmas.Option.{same_Some}
use Rattle.std.specs.Option.{option_and_then, option_map_or}
use Rattle.std.specs.Prelude.{Bool, IsPermutation, List, None, Option, Some, [], false, filter, is_some, map, true, unwrap_or, ℕ, ◌&&◌, ◌++◌, ◌==◌, ◌||◌, ◌∷◌, ◌≡◌, ◌⊎◌}
use Rattle.table_lists.proofs.Members.{IsMembers-filter, IsMembers-nothing, IsMembers-numbers, IsMembers-same, members_permute}
use Rattle.table_lists.specs.Members.{IsMembers, Once, has}
use Rattle.choice_offers.specs.Listings.{HandlesKnown, handle_or_none}

-- ---- Lists of subtasks in which none is twice

abbrev In : Subtask → List Subtask → Type 0
In sub [] = ⊥
In sub (x ∷ xs) = (sub ≡ x) ⊎ In sub xs

abbrev Apart : List Subtask → Type 0
Apart [] = Unit {0}
Apart (x ∷ xs) = (In x xs → ⊥) × Apart xs

kept_in : (test : Subtask → Bool) (sub : Subtask) (xs : List Subtask) → In sub (filter test xs) → In sub xs × (test sub ≡ true)
kept_in test sub [] h = absurd h
kept_in test sub (x ∷ xs) h = by (test x) refl (kept_in test sub xs) h
  where
    by : (b : Bool) → test x ≡ b → (In sub (filter test xs) → In sub xs × (test sub ≡ true)) → In sub (cond b (x ∷ filter test xs) (filter test xs)) → In sub (x ∷ xs) × (test sub ≡ true)
    by true is rest h = elim h [
      | inl same ↦ (inl same, ap test same ∙ is)
      | inr later ↦ let r = rest later in (inr r.0, r.1)
    ]
    by false is rest h = let r = rest h in (inr r.0, r.1)

in_kept : (test : Subtask → Bool) (sub : Subtask) (xs : List Subtask) → In sub xs → test sub ≡ true → In sub (filter test xs)
in_kept test sub [] h on = absurd h
in_kept test sub (x ∷ xs) h on = by (test x) refl (λ later. in_kept test sub xs later on) h
  where
    by : (b : Bool) → test x ≡ b → (In sub xs → In sub (filter test xs)) → In sub (x ∷ xs) → In sub (cond b (x ∷ filter test xs) (filter test xs))
    by true is rest h = elim h [
      | inl same ↦ inl same
      | inr later ↦ inr (rest later)
    ]
    by false is rest h = elim h [
      | inl same ↦ absurd (let bad = sym on ∙ (ap test same ∙ is) in cc)
      | inr later ↦ rest later
    ]

apart_kept : (test : Subtask → Bool) (xs : List Subtask) → Apart xs → Apart (filter test xs)
apart_kept test [] h = tt
apart_kept test (x ∷ xs) h = by (test x) (apart_kept test xs h.1)
  where
    by : (b : Bool) → Apart (filter test xs) → Apart (cond b (x ∷ filter test xs) (filter test xs))
    by true rest = (λ i. h.0 (kept_in test x xs i).0, rest)
    by false rest = rest

-- ---- Calls and works

in_append : (sub : Subtask) (xs ys : List Subtask) → In sub (xs ++ ys) → In sub xs ⊎ In sub ys
in_append sub [] ys h = inr h
in_append sub (x ∷ xs) ys h = elim h [
  | inl same ↦ inl (inl same)
  | inr later ↦ elim (in_append sub xs ys later) [
    | inl one ↦ inl (inr one)
    | inr two ↦ inr two
  ]
]

append_left : (sub : Subtask) (xs ys : List Subtask) → In sub xs → In sub (xs ++ ys)
append_left sub [] ys h = absurd h
append_left sub (x ∷ xs) ys h = elim h [
  | inl same ↦ inl same
  | inr later ↦ inr (append_left sub xs ys later)
]

append_right : (sub : Subtask) (xs ys : List Subtask) → In sub ys → In sub (xs ++ ys)
append_right sub [] ys h = h
append_right sub (x ∷ xs) ys h = inr (append_right sub xs ys h)

apart_append : (xs ys : List Subtask) → Apart xs → Apart ys → ((sub : Subtask) → In sub xs → In sub ys → ⊥) → Apart (xs ++ ys)
apart_append [] ys a b none = b
apart_append (x ∷ xs) ys a b none = (
  λ i. elim (in_append x xs ys i) [
    | inl one ↦ a.0 one
    | inr two ↦ none x (inl refl) two
  ],
  apart_append xs ys a.1 b (λ sub i. none sub (inr i)),
)

module _ (of : ℕ → Subtask) (one : (m n : ℕ) → of m ≡ of n → m ≡ n) where
  mapped_has : (n : ℕ) (ns : List ℕ) → In (of n) (map of ns) → has n ns ≡ true
  mapped_has n [] h = absurd h
  mapped_has n (m ∷ ns) h = elim h [
    | inl same ↦ ap (λ b. b || has n ns) (eq-eqb n m (one n m same))
    | inr later ↦ or_right (n == m) (has n ns) (mapped_has n ns later)
  ]

  has_mapped : (n : ℕ) (ns : List ℕ) → has n ns ≡ true → In (of n) (map of ns)
  has_mapped n [] h = absurd (cc)
  has_mapped n (m ∷ ns) h = by (n == m) refl (has_mapped n ns) h
    where
      by : (b : Bool) → (n == m) ≡ b → (has n ns ≡ true → In (of n) (map of ns)) → (b || has n ns) ≡ true → In (of n) (of m ∷ map of ns)
      by true is rest h = inl (ap of (eqb-true n m is))
      by false is rest h = inr (rest h)

  apart_mapped : (ns : List ℕ) → Once ns → Apart (map of ns)
  apart_mapped [] once = tt
  apart_mapped (n ∷ ns) once = (λ i. not_both (has n ns) (mapped_has n ns i) once.0, apart_mapped ns once.1)
    where
      not_both : (b : Bool) → b ≡ true → b ≡ false → ⊥
      not_both b on off = let bad = sym on ∙ off in cc

  is_mapped : (sub : Subtask) (ns : List ℕ) → In sub (map of ns) → (n : ℕ) × (sub ≡ of n)
  is_mapped sub [] h = absurd h
  is_mapped sub (n ∷ ns) h = elim h [
    | inl same ↦ (n, same)
    | inr later ↦ is_mapped sub ns later
  ]

one_guest : (m n : ℕ) → subtask.Guest m ≡ subtask.Guest n → m ≡ n
one_guest m n is = cc

one_host : (m n : ℕ) → subtask.Host m ≡ subtask.Host n → m ≡ n
one_host m n is = cc

module _ (s : Core) where
  subtasks_apart : Apart (subtasks s)
  subtasks_apart =
      apart_append (map (λ n. subtask.Guest n) (numbers s.calls)) (map (λ n. subtask.Host n) (numbers s.works))
      (apart_mapped (λ n. subtask.Guest n) one_guest (numbers s.calls) (IsMembers-numbers s.calls).once) (apart_mapped (λ n. subtask.Host n) one_host (numbers s.works) (IsMembers-numbers s.works).once)
      (λ sub i j. let a = is_mapped (λ n. subtask.Guest n) one_guest sub (numbers s.calls) i in let b = is_mapped (λ n. subtask.Host n) one_host sub (numbers s.works) j in let bad = sym a.1 ∙ b.1 in cc)

  call_there : (x : ℕ) (o : Option Call) → (is_in_set x (option_map_or (λ (c : Call). c.join) o join.Nowhere) && is_some (option_and_then (λ (c : Call). c.event) o)) ≡ true → is_some o ≡ true
  call_there x None ready = ready
  call_there x (Some c) ready = refl

  work_there : (x : ℕ) (o : Option Work) → (is_in_set x (option_map_or (λ (c : Work). c.join) o join.Nowhere) && is_some (option_and_then (λ (c : Work). c.event) o)) ≡ true → is_some o ≡ true
  work_there x None ready = ready
  work_there x (Some c) ready = refl

  -- a ready member is among them
  ready_in : (x : ℕ) (sub : Subtask) → is_ready_member x sub s ≡ true → In sub (ready_of x s)
  ready_in x (subtask.Guest n) ready =
      in_kept (λ sub. is_ready_member x sub s) (subtask.Guest n) (subtasks s)
      (append_left (subtask.Guest n) (map (λ n. subtask.Guest n) (numbers s.calls)) (map (λ n. subtask.Host n) (numbers s.works))
      (has_mapped (λ n. subtask.Guest n) one_guest n (numbers s.calls) ((IsMembers-numbers s.calls).are n ∙ call_there x (get s.calls n) ready)))
      ready
  ready_in x (subtask.Host n) ready =
      in_kept (λ sub. is_ready_member x sub s) (subtask.Host n) (subtasks s)
      (append_right (subtask.Host n) (map (λ n. subtask.Guest n) (numbers s.calls)) (map (λ n. subtask.Host n) (numbers s.works))
      (has_mapped (λ n. subtask.Host n) one_host n (numbers s.works) ((IsMembers-numbers s.works).are n ∙ work_there x (get s.works n) ready)))
      ready

-- ---- Handles

module _ (f : Subtask → ℕ) where
  in_has : (sub : Subtask) (xs : List Subtask) → In sub xs → has (f sub) (map f xs) ≡ true
  in_has sub [] h = absurd h
  in_has sub (x ∷ xs) h = elim h [
    | inl same ↦ ap (λ b. b || has (f sub) (map f xs)) (eq-eqb (f sub) (f x) (ap f same))
    | inr later ↦ or_right (f sub == f x) (has (f sub) (map f xs)) (in_has sub xs later)
  ]

  has_in : (n : ℕ) (xs : List Subtask) → has n (map f xs) ≡ true → (sub : Subtask) × (In sub xs × (n ≡ f sub))
  has_in n [] h = absurd (cc)
  has_in n (x ∷ xs) h = by (n == f x) refl (has_in n xs) h
    where
      by : (b : Bool) → (n == f x) ≡ b → (has n (map f xs) ≡ true → (sub : Subtask) × (In sub xs × (n ≡ f sub))) → (b || has n (map f xs)) ≡ true → (sub : Subtask) × (In sub (x ∷ xs) × (n ≡ f sub))
      by true is rest h = (x, (inl refl, eqb-true n (f x) is))
      by false is rest h = let r = rest h in (r.0, (inr r.1.0, r.1.1))

  once_by : (xs : List Subtask) → Apart xs → ((a b : Subtask) → In a xs → In b xs → f a ≡ f b → a ≡ b) → Once (map f xs)
  once_by [] apart one = tt
  once_by (x ∷ xs) apart one = (none (has (f x) (map f xs)) refl, once_by xs apart.1 (λ a b i j. one a b (inr i) (inr j)))
    where
      none : (b : Bool) → has (f x) (map f xs) ≡ b → b ≡ false
      none false is = refl
      none true is = let r = has_in (f x) xs is in absurd (apart.0 (subst (λ sub. In sub xs) (sym (one x r.0 (inl refl) (inr r.1.0) r.1.1)) r.1.0))

same_bool : (a b : Bool) → (a ≡ true → b ≡ true) → (b ≡ true → a ≡ true) → a ≡ b
same_bool true b there back = sym (there refl)
same_bool false true there back = back refl
same_bool false false there back = refl

module _ (s : Core) (i x : ℕ) (named : MembersNamed i x s) (known : HandlesKnown s) where
  -- its handle names a ready member
  pub own_handle : (sub : Subtask) → is_ready_member x sub s ≡ true → subtask_at i (handle_or_none sub s) s ≡ Some sub
  own_handle sub ready = let r = named sub ready in subst (λ h. subtask_at i h s ≡ Some sub) (sym (ap (λ (o : Option ℕ). unwrap_or o 0) r.1.0)) r.1.1

  of_ready : (sub : Subtask) → In sub (ready_of x s) → is_ready_member x sub s ≡ true
  of_ready sub i = (kept_in (λ sub. is_ready_member x sub s) sub (subtasks s) i).1

  handles_once : Once (map (λ sub. handle_or_none sub s) (ready_of x s))
  handles_once = once_by (λ sub. handle_or_none sub s) (ready_of x s) (apart_kept (λ sub. is_ready_member x sub s) (subtasks s) (subtasks_apart s))
      (λ a b j k same. same_Some a b (sym (own_handle a (of_ready a j)) ∙ (ap (λ h. subtask_at i h s) same ∙ own_handle b (of_ready b k))))

  listed_are : (h : ℕ) → has h (map (λ sub. handle_or_none sub s) (ready_of x s)) ≡ names_ready i x s h
  listed_are h = same_bool (has h (map (λ sub. handle_or_none sub s) (ready_of x s))) (names_ready i x s h) there (back (subtask_at i h s) refl)
    where
      there : has h (map (λ sub. handle_or_none sub s) (ready_of x s)) ≡ true → names_ready i x s h ≡ true
      there is =
          let r = has_in (λ sub. handle_or_none sub s) h (ready_of x s) is in
          let ready = of_ready r.0 r.1.0 in
          ap (λ (o : Option Subtask). option_map_or (λ sub. is_ready_member x sub s) o false) (ap (λ k. subtask_at i k s) r.1.1 ∙ own_handle r.0 ready) ∙ ready

      back : (o : Option Subtask) → subtask_at i h s ≡ o → names_ready i x s h ≡ true → has h (map (λ sub. handle_or_none sub s) (ready_of x s)) ≡ true
      back None at is = absurd (let bad = sym (ap (λ (o : Option Subtask). option_map_or (λ sub. is_ready_member x sub s) o false) at) ∙ is in cc)
      back (Some sub) at is =
          let ready : is_ready_member x sub s ≡ true = sym (ap (λ (o : Option Subtask). option_map_or (λ sub. is_ready_member x sub s) o false) at) ∙ is in
          let mine : handle_or_none sub s ≡ h = ap (λ (o : Option ℕ). unwrap_or o 0) (known i h sub at) in
          subst (λ k. has k (map (λ sub. handle_or_none sub s) (ready_of x s)) ≡ true) mine (in_has (λ sub. handle_or_none sub s) sub (ready_of x s) (ready_in s x sub ready))

  -- the handles of the instance that name ready members
  named_are : IsMembers (names_ready i x s) (filter (names_ready i x s) (handles_of i s))
  named_are = by (get s.handles i) refl
    where
      both : (a b : Bool) → (b ≡ true → a ≡ true) → b ≡ (a && b)
      both a false leads = end a
        where
          end : (a : Bool) → false ≡ (a && false)
          end true = refl
          end false = refl
      both a true leads = ap (λ c. c && true) (sym (leads refl))

      nothing_named : get s.handles i ≡ None → (h : ℕ) → names_ready i x s h ≡ false
      nothing_named at h = ap (λ (o : Option (NameTable Named)). option_map_or (λ sub. is_ready_member x sub s) (option_and_then as_subtask (option_and_then (λ (t : NameTable Named). get t.live h) o)) false) at

      live_named : (t : NameTable Named) → get s.handles i ≡ Some t → (h : ℕ) → names_ready i x s h ≡ true → is_some (get t.live h) ≡ true
      live_named t at h is = by (get t.live h) (sym (ap (λ (o : Option (NameTable Named)). option_map_or (λ sub. is_ready_member x sub s) (option_and_then as_subtask (option_and_then (λ (t : NameTable Named). get t.live h) o)) false) at) ∙ is)
        where
          by : (o : Option Named) → option_map_or (λ sub. is_ready_member x sub s) (option_and_then as_subtask o) false ≡ true → is_some o ≡ true
          by None is = is
          by (Some k) is = refl

      by : (o : Option (NameTable Named)) → get s.handles i ≡ o → IsMembers (names_ready i x s) (filter (names_ready i x s) (option_map_or (λ t. numbers t.live) o []))
      by None at = IsMembers-nothing (names_ready i x s) (nothing_named at)
      by (Some t) at =
          IsMembers-same (λ h. is_some (get t.live h) && names_ready i x s h) (filter (names_ready i x s) (numbers t.live)) (IsMembers-filter (λ h. is_some (get t.live h)) (numbers t.live) (IsMembers-numbers t.live) (names_ready i x s)) (names_ready i x s)
          (λ h. both (is_some (get t.live h)) (names_ready i x s h) (live_named t at h))

  pub handles_permute : IsPermutation (filter (names_ready i x s) (handles_of i s)) (map (λ sub. handle_or_none sub s) (ready_of x s))
  handles_permute = members_permute (names_ready i x s) (filter (names_ready i x s) (handles_of i s)) named_are (map (λ sub. handle_or_none sub s) (ready_of x s)) (record { once = handles_once; are = listed_are })
