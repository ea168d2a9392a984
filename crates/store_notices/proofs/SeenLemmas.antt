-- Notices of groups that are among these: of each other one the group counts as 0, of which nothing is told.
use Rattle.std.proofs.Common.{ap, ap₂, arith, refl, sym, ◌∙◌, ◌≡◌}
use Rattle.std.proofs.lemmas.Bool.Decides.{nat_tests}
use Rattle.std.proofs.lemmas.List.Elements.{filter-append}
use Rattle.std.specs.Option.{option_map_or}
use Rattle.std.specs.Prelude.{Bool, List, None, Option, Some, [], cond, false, if◌then◌else◌, option_and_then, true, ℕ, ◌++◌, ◌==◌, ◌∷◌}
use Rattle.store_notices.specs.Moves.{one, switched}
use Rattle.machine_data.specs.declared.records.Notice.{Notice}
use Rattle.machine_data.specs.declared.records.NoticeKind.{NoticeKind}
use Rattle.machine_data.specs.declared.records.NoticeKind.TheVariants as notice
use Rattle.machine_rules.specs.Notices.{around, group_notice, is_in, of_live, same_group, switch_notices, told_of}
use Rattle.core_primitives.specs.Groups.{if_tracked, some_if_tracked}

module _ (gs : List ℕ) (positive : is_in gs 0 ≡ false) where
  -- the group of an option, 0 if it is none of these
  abbrev pub among : Option ℕ → ℕ
  among o = option_map_or (if_tracked gs) o 0

  apart : (g : ℕ) → is_in gs g ≡ true → (g == 0) ≡ false
  apart g there = by (g == 0) refl
    where
      by : (b : Bool) → (g == 0) ≡ b → (g == 0) ≡ false
      by true is = let zero : g ≡ 0 = grind (arith, nat_tests, is) in let never : ◌≡◌ {A = Bool} true false = sym there ∙ (ap (is_in gs) zero ∙ positive) in absurd (cc)
      by false is = is

  one_by : (x : NoticeKind) (g : ℕ) (b : Bool) → is_in gs g ≡ b → ◌≡◌ {A = List Notice} (cond b (told_of x g ∷ []) []) (one x (cond b g 0))
  one_by x g true there = sym (ap (λ (b : Bool). cond {A = List Notice} b [] (told_of x g ∷ [])) (apart g there))
  one_by x g false out = refl

  one_seen : (x : NoticeKind) (o : Option ℕ) → of_live gs (group_notice x o) ≡ one x (among o)
  one_seen x None = refl
  one_seen x (Some g) = one_by x g (is_in gs g) refl

  both_seen : (o n : Option ℕ) → of_live gs (group_notice notice.Exit o ++ group_notice notice.Enter n) ≡ one notice.Exit (among o) ++ one notice.Enter (among n)
  both_seen o n =
      filter-append (λ (m : Notice). is_in gs m.group) (group_notice notice.Exit o) (group_notice notice.Enter n)
      ∙ ap₂ (λ (xs ys : List Notice). xs ++ ys) (one_seen notice.Exit o) (one_seen notice.Enter n)

  -- two of these are the same or not, and the others count as one
  alike : (g h : ℕ) → (g == h) ≡ false → (b d : Bool) → is_in gs g ≡ b → is_in gs h ≡ d →
      one notice.Exit (cond b g 0) ++ one notice.Enter (cond d h 0) ≡ switched (cond b g 0) (cond d h 0)
  alike g h other true true at to = sym (ap (λ (b : Bool). cond {A = List Notice} b [] (one notice.Exit g ++ one notice.Enter h)) other)
  alike g h other true false at to = sym (ap (λ (b : Bool). cond {A = List Notice} b [] (one notice.Exit g ++ [])) (apart g at))
  alike g h other false true at to =
      let less : (0 == h) ≡ false = let not_zero = apart h to in grind (arith, nat_tests, not_zero) in
      sym (ap (λ (b : Bool). cond {A = List Notice} b [] (one notice.Enter h)) less)
  alike g h other false false at to = refl

  self : (k : ℕ) → switched k k ≡ []
  self k = let is : (k == k) ≡ true = grind (arith, nat_tests) in ap (λ (b : Bool). cond {A = List Notice} b [] (one notice.Exit k ++ one notice.Enter k)) is

  two_seen : (g h : ℕ) (b : Bool) → (g == h) ≡ b → of_live gs (cond b [] (group_notice notice.Exit (Some g) ++ group_notice notice.Enter (Some h))) ≡ switched (if_tracked gs g) (if_tracked gs h)
  two_seen g h true same = let is : g ≡ h = grind (arith, nat_tests, same) in sym (self (if_tracked gs g)) ∙ ap (λ k. switched (if_tracked gs g) (if_tracked gs k)) is
  two_seen g h false other = both_seen (Some g) (Some h) ∙ alike g h other (is_in gs g) (is_in gs h) refl refl

  enter_by : (h : ℕ) (b : Bool) → is_in gs h ≡ b → one notice.Enter (cond b h 0) ≡ switched 0 (cond b h 0)
  enter_by h true to = let less : (0 == h) ≡ false = let not_zero = apart h to in grind (arith, nat_tests, not_zero) in sym (ap (λ (b : Bool). cond {A = List Notice} b [] (one notice.Enter h)) less)
  enter_by h false to = refl

  exit_by : (g : ℕ) (b : Bool) → is_in gs g ≡ b → one notice.Exit (cond b g 0) ++ [] ≡ switched (cond b g 0) 0
  exit_by g true at = sym (ap (λ (b : Bool). cond {A = List Notice} b [] (one notice.Exit g ++ [])) (apart g at))
  exit_by g false at = refl

  -- another group runs
  pub switch_seen : (o n : Option ℕ) → of_live gs (switch_notices o n) ≡ switched (among o) (among n)
  switch_seen None None = refl
  switch_seen None (Some h) = both_seen None (Some h) ∙ enter_by h (is_in gs h) refl
  switch_seen (Some g) None = both_seen (Some g) None ∙ exit_by g (is_in gs g) refl
  switch_seen (Some g) (Some h) = two_seen g h (g == h) refl

  around_by : (g : ℕ) (b : Bool) → cond b (told_of notice.Enter g ∷ cond b (told_of notice.Exit g ∷ []) []) (cond b (told_of notice.Exit g ∷ []) []) ≡ around (cond b (Some g) None)
  around_by g true = refl
  around_by g false = refl

  -- a work is worked on
  pub around_seen : (o : Option ℕ) → of_live gs (around o) ≡ around (option_and_then (some_if_tracked gs) o)
  around_seen None = refl
  around_seen (Some g) = around_by g (is_in gs g)

  pub moves_seen : (o n w : Option ℕ) → of_live gs (switch_notices o n ++ around w) ≡ switched (among o) (among n) ++ around (option_and_then (some_if_tracked gs) w)
  moves_seen o n w =
      filter-append (λ (m : Notice). is_in gs m.group) (switch_notices o n) (around w)
      ∙ ap₂ (λ (xs ys : List Notice). xs ++ ys) (switch_seen o n) (around_seen w)
