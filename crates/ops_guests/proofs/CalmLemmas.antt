-- An op whose rule leaves no choice picks what comes first.
use Rattle.std.proofs.Common.{ap, subst, sym, ◌∙◌}
use Rattle.std.specs.Prelude.{Bool, IfSome, IsPermutation, List, None, Option, Some, false, not, refl, true, ℕ, ◌≡◌}
use Rattle.std.specs.List.{list_any}
use Rattle.machine_data.specs.Labels.{woken_of}
use Rattle.machine_data.specs.Core.{Core}
use Rattle.machine_data.specs.declared.label.Label.{Label}
use Rattle.machine_rules.specs.Picks.{cancel_before, LeavesNoChoice, Preference, ReleasesNone, ShowsFirst, Silent, TakesFirst, WakesFirst, goes_in_order, in_order, taken_of}
use Rattle.machine_data.specs.Read.{instance_of, is_waiter}
use Rattle.machine_rules.specs.Step.{is_among}
use Rattle.machine_rules.specs.Progress.{Asks, Continues, Fails, Never, OneOf, Ordered, Progress, Stops, Traps, may}
use Rattle.ops_guests.specs.OpResult.{Implements, PicksFirst}
use Rattle.ops_guests.specs.Shown.{goes_as}
use Rattle.ops_guests.specs.Steps.{label_of}
use Rattle.ops_guests.specs.declared.op_result.OpResult.TheVariants as op_result
use Rattle.ops_guests.specs.declared.op_result.OpResult.{OpResult}

-- a label that shows nothing of a choice
pub silent_shows : (p : Preference) (s : Core) (l : Label) → Silent l → ShowsFirst p s l
silent_shows p s l silent = record {
  waiter = subst (λ (o : Option ℕ). IfSome o (WakesFirst p s)) (sym silent.0) tt;
  member = subst (λ (o : Option (ℕ × ℕ)). IfSome o (λ e. TakesFirst p s (instance_of e.0 s) e.1)) (sym silent.1) tt;
}

-- a rule that releases no thread does so in any order
pub loose_order : (p : Preference) (row : Progress) (s : Core) (r : OpResult) (t : Core) → ReleasesNone row → Implements row s r t → Implements (in_order p row) s r t
loose_order p (Continues l new m) s r t none h = h
loose_order p (Stops l new) s r t none h = h
loose_order p (Traps why) s r t none h = h
loose_order p (Fails i) s r t none h = h
loose_order p Never s r t none h = h
loose_order p (Ordered ns next) s r t none h = absurd none
loose_order p (OneOf ns next) s r t none h = absurd none
loose_order p (Asks next) s r t none h = (h.0, loose_order p (next h.0) s r t (none h.0) h.1)

calm_releases : (row : Progress) → LeavesNoChoice row → ReleasesNone row
calm_releases (Continues l new m) calm = tt
calm_releases (Stops l new) calm = tt
calm_releases (Traps why) calm = tt
calm_releases (Fails i) calm = tt
calm_releases Never calm = tt
calm_releases (Ordered ns next) calm = absurd calm
calm_releases (OneOf ns next) calm = absurd calm
calm_releases (Asks next) calm = λ answer. calm_releases (next answer) (calm answer)

-- the label of what it resulted in
label_silent : (n : ℕ) (row : Progress) (s : Core) (r : OpResult) (t : Core) → LeavesNoChoice row → Implements row s r t → Silent (label_of n r)
label_silent n (Continues l new m) s r t calm h = subst (λ (q : OpResult). Silent (label_of n q)) (sym h.0) calm
label_silent n (Stops l new) s r t calm h = subst (λ (q : OpResult). Silent (label_of n q)) (sym h.0) calm
label_silent n (Traps why) s r t calm h = subst (λ (q : OpResult). Silent (label_of n q)) (sym h.0) (refl, refl)
label_silent n (Fails i) s r t calm h = subst (λ (q : OpResult). Silent (label_of n q)) (sym h.0) (refl, refl)
label_silent n Never s r t calm h = absurd h
label_silent n (Ordered ns next) s r t calm h = absurd calm
label_silent n (OneOf ns next) s r t calm h = absurd calm
label_silent n (Asks next) s r t calm h = label_silent n (next h.0) s r t (calm h.0) h.1

-- a label that wakes the waiter that comes first, and shows no member
pub waking_shows : (p : Preference) (s : Core) (l : Label) (w : ℕ) → woken_of l ≡ Some w → taken_of l ≡ None → WakesFirst p s w → ShowsFirst p s l
waking_shows p s l w is none first = record {
  waiter = subst (λ (o : Option ℕ). IfSome o (WakesFirst p s)) (sym is) first;
  member = subst (λ (o : Option (ℕ × ℕ)). IfSome o (λ e. TakesFirst p s (instance_of e.0 s) e.1)) (sym none) tt;
}

-- who comes first is told by the threads alone
pub wakes_as : (p : Preference) (s t : Core) (w : ℕ) → t.threads ≡ s.threads → WakesFirst p t w → WakesFirst p s w
wakes_as p s t w threads f = record {
  set = f.set;
  waits = sym (waits f.set w) ∙ f.waits;
  first = λ n there. f.first n (waits f.set n ∙ there);
}
  where
    waits : (x n : ℕ) → is_waiter x n t ≡ is_waiter x n s
    waits x n = ap (λ m. is_waiter x n (record s { threads = m })) threads

-- a rule that releases no thread
pub loose_picks : (p : Preference) (row : Progress) (l : Label) (s : Core) (r : OpResult) (t : Core) → ReleasesNone row → ShowsFirst p s l → Implements row s r t → PicksFirst p row l s r t
loose_picks p row l s r t none shows h = record { shows = shows; order = loose_order p row s r t none h }

-- one that shows this and goes on
pub loose_goes : (p : Preference) (n : ℕ) (row : Progress) (l : Label) (m : ℕ) (s : Core) (r : OpResult) (t : Core) → r ≡ goes_as l m → ReleasesNone row → ShowsFirst p s l → Implements row s r t → PicksFirst p row (label_of n r) s r t
loose_goes p n row l m s r t is none shows h = loose_picks p row (label_of n r) s r t none (subst (λ (q : OpResult). ShowsFirst p s (label_of n q)) (sym is) shows) h

-- a rule that releases threads and stops
pub ordered_picks : (p : Preference) (row : Progress) (l : Label) (held order : List ℕ) (new : List ℕ → Core) (s x : Core) → ShowsFirst p s l → row ≡ Ordered held (λ o. Stops l (new o)) → IsPermutation held order → goes_in_order p order ≡ true → x ≡ new order → PicksFirst p row l s (op_result.Stops l) x
ordered_picks p row l held order new s x shows is moved goes core = record {
  shows = shows;
  order = subst (λ (q : Progress). Implements (in_order p q) s (op_result.Stops l) x) (sym is)
      (order, (moved, subst (λ (g : Bool). Implements (may g (Stops l (new order))) s (op_result.Stops l) x) (sym goes) (refl, core)));
}

allowed : (s : Core) (r : OpResult) (t : Core) (b : Bool) (q : Progress) → Implements (may b q) s r t → Implements q s r t
allowed s r t true q is = is
allowed s r t false q is = absurd is

-- a rule that takes one of several threads, and stops
pub taken_picks : (p : Preference) (row : Progress) (l : Label) (ns : List ℕ) (m : ℕ) (new : ℕ → Core) (s x : Core) → Silent l → row ≡ OneOf ns (λ k. Stops l (new k)) → is_among m ns ≡ true → list_any (λ n. cancel_before p n m) ns ≡ false → x ≡ new m → PicksFirst p row l s (op_result.Stops l) x
taken_picks p row l ns m new s x silent is among first core = record {
  shows = silent_shows p s l silent;
  order = subst (λ (q : Progress). Implements (in_order p q) s (op_result.Stops l) x) (sym is)
      (m, (among, subst (λ (b : Bool). Implements (may (not b) (Stops l (new m))) s (op_result.Stops l) x) (sym first) (refl, core)));
}

-- what is done in the order of the preference is done
unordered : (p : Preference) (row : Progress) (s : Core) (r : OpResult) (t : Core) → Implements (in_order p row) s r t → Implements row s r t
unordered p (Continues l new m) s r t h = h
unordered p (Stops l new) s r t h = h
unordered p (Traps why) s r t h = h
unordered p (Fails i) s r t h = h
unordered p Never s r t h = h
unordered p (Ordered ns next) s r t h = (h.0, (h.1.0, unordered p (next h.0) s r t (allowed s r t (goes_in_order p h.0) (in_order p (next h.0)) h.1.1)))
unordered p (OneOf ns next) s r t h =
    (h.0, (h.1.0, unordered p (next h.0) s r t (allowed s r t (not (list_any (λ n. cancel_before p n h.0) ns)) (in_order p (next h.0)) h.1.1)))
unordered p (Asks next) s r t h = (h.0, unordered p (next h.0) s r t h.1)

pub picks_implements : {p : Preference} {row : Progress} {l : Label} {s : Core} {r : OpResult} {t : Core} → PicksFirst p row l s r t → Implements row s r t
picks_implements {p = p} {row = row} {l = l} {s = s} {r = r} {t = t} h = unordered p row s r t h.order

pub calm_picks : (p : Preference) (n : ℕ) (row : Progress) (s : Core) (r : OpResult) (t : Core) → LeavesNoChoice row → Implements row s r t → PicksFirst p row (label_of n r) s r t
calm_picks p n row s r t calm h = record { shows = silent_shows p s (label_of n r) (label_silent n row s r t calm h); order = loose_order p row s r t (calm_releases row calm) h }
