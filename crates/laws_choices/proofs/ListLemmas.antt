-- Offers as lists, and what is read off the records.
use Rattle.laws_choices.specs.Offer.{is_one_of}
use Rattle.laws_choices.specs.Offers.{handles_of, names_ready, takes_of, nothing, waiters_of}
use Rattle.std.proofs.Common.{ap, arith, refl, sym, ◌∙◌}
use Rattle.std.proofs.lemmas.Bool.Decides.{nat_tests}
use Rattle.std.specs.Cmp.{unsigned_tied}
use Rattle.std.specs.FinMap.Entries.{find as seek}
use Rattle.std.specs.List.{list_any}
use Rattle.std.specs.Option.{option_map_or}
use Rattle.std.specs.Ordering.{nat_cmp}
use Rattle.std.specs.Prelude.{Bool, List, None, Option, Some, [], false, filter, is_some, map, not, option_and_then, true, ℕ, ◌&&◌, ◌==◌, ◌∷◌, ◌≡◌}
use Rattle.laws_states.proofs.Counts.{any_at}
use Rattle.laws_states.proofs.ReadyCounts.{none_ready}
use Rattle.machine_data.specs.Core.{Core, NameTable}
use Rattle.machine_data.specs.Maps.{Records, get, numbers}
use Rattle.machine_data.specs.Moves.{may_wake}
use Rattle.machine_data.specs.Read.{has_ready_member, has_waiter, instance_of, is_nil, is_ready_member, is_waiter, is_waiting_on, named_by, subtask_at}
use Rattle.machine_data.specs.declared.records.Named.{Named}
use Rattle.machine_data.specs.declared.records.Subtask.{Subtask}
use Rattle.machine_data.specs.declared.records.Thread.{Thread}

-- ---- Lists of numbers

abbrev pub has : List ℕ → ℕ → Bool
has ns n = list_any (λ m. m == n) ns

pub kept_has : (test : ℕ → Bool) (ns : List ℕ) (n : ℕ) → has (filter test ns) n ≡ (test n && has ns n)
kept_has test [] n = grind arith
kept_has test (m ∷ ns) n = grind (arith, nat_tests, kept_has test ns n)

pub one_is_none : (ns : List ℕ) (w : Option ℕ) → ns ≡ [] → is_one_of ns w ≡ true → w ≡ None
one_is_none ns None e h = refl
one_is_none ns (Some n) e h = absurd (grind (arith, e))

pub kept_none : (test : ℕ → Bool) (ns : List ℕ) → ((n : ℕ) → test n ≡ false) → filter test ns ≡ []
kept_none test [] none = refl
kept_none test (n ∷ ns) none = grind (arith, none n, kept_none test ns none)

-- who is in the list, the list has
pub has_not_nil : (ns : List ℕ) (n : ℕ) → has ns n ≡ true → is_nil ns ≡ false
has_not_nil [] n h = absurd (grind arith)
has_not_nil (m ∷ ns) n h = refl

-- ---- The numbers of a map

seek_has : {X : Type 0} (es : List (ℕ × X)) (n : ℕ) → is_some (seek nat_cmp n es) ≡ true → has (map (λ e. e.0) es) n ≡ true
seek_has [] n h = absurd (grind arith)
seek_has (e ∷ es) n h = grind (arith, nat_tests, unsigned_tied n e.0, seek_has es n)

pub number_has : {X : Type 0} (m : Records X) (n : ℕ) → is_some (get m n) ≡ true → has (numbers m) n ≡ true
unfolding get numbers
number_has m n h = seek_has m.list n h

seek_any : {X : Type 0} (test : X → Bool) (es : List (ℕ × X)) (n : ℕ) → option_map_or test (seek nat_cmp n es) false ≡ true → list_any (λ e. test e.1) es ≡ true
seek_any test [] n h = absurd (grind arith)
seek_any test (e ∷ es) n h = grind (arith, nat_tests, unsigned_tied n e.0, seek_any test es n)

-- ---- Waiters

abbrev waits : ℕ → Thread → Bool
waits x t = is_waiting_on x t.place

waiter_at : (x n : ℕ) (s : Core) → is_waiter x n s ≡ option_map_or (waits x) (get s.threads n) false
waiter_at x n s = grind arith

waiter_there : (x n : ℕ) (s : Core) → is_waiter x n s ≡ true → is_some (get s.threads n) ≡ true
waiter_there x n s h = grind arith

pub waiter_has : (x n : ℕ) (s : Core) → has (waiters_of x s) n ≡ is_waiter x n s
waiter_has x n s = kept_has (λ m. is_waiter x m s) (numbers s.threads) n ∙ by (is_waiter x n s) refl
  where
    by : (b : Bool) → is_waiter x n s ≡ b → (b && has (numbers s.threads) n) ≡ b
    by true is = number_has s.threads n (waiter_there x n s is)
    by false is = refl

pub no_waiter : (x : ℕ) (s : Core) → not (has_waiter x s) ≡ is_nil (waiters_of x s)
unfolding has_waiter get
no_waiter x s = by (has_waiter x s) refl
  where
    by : (b : Bool) → has_waiter x s ≡ b → not b ≡ is_nil (waiters_of x s)
    by true is =
        let r = any_at (waits x) s.threads is in
        sym (has_not_nil (waiters_of x s) r.0 (waiter_has x r.0 s ∙ (waiter_at x r.0 s ∙ r.1)))
    by false is = sym (ap is_nil (kept_none (λ n. is_waiter x n s) (numbers s.threads) none))
      where
        none : (n : ℕ) → is_waiter x n s ≡ false
        none n = no (is_waiter x n s) refl
          where
            no : (b : Bool) → is_waiter x n s ≡ b → b ≡ false
            no false at = refl
            no true at = absurd (let any = seek_any (waits x) s.threads.list n (sym (waiter_at x n s) ∙ at) in grind arith)

-- who may be woken is offered, and back
pub wake_fits : (x : ℕ) (w : Option ℕ) (s : Core) → may_wake x w s ≡ is_one_of (waiters_of x s) w
unfolding may_wake
wake_fits x None s = no_waiter x s
wake_fits x (Some n) s = sym (waiter_has x n s)

-- ---- Members

live_has : (o : Option (NameTable Named)) (h : ℕ) → is_some (option_and_then (λ t. get t.live h) o) ≡ true → has (option_map_or (λ t. numbers t.live) o []) h ≡ true
live_has None h e = absurd (grind arith)
live_has (Some t) h e = number_has t.live h e

ready_named : (i x h : ℕ) (s : Core) → names_ready i x s h ≡ true → is_some (named_by s.handles i h) ≡ true
ready_named i x h s e = grind arith

-- a handle that names a ready member is offered, and back
pub member_has : (i x : ℕ) (s : Core) (h : ℕ) → has (filter (names_ready i x s) (handles_of i s)) h ≡ names_ready i x s h
member_has i x s h = kept_has (names_ready i x s) (handles_of i s) h ∙ by (names_ready i x s h) refl
  where
    by : (b : Bool) → names_ready i x s h ≡ b → (b && has (handles_of i s) h) ≡ b
    by true is = live_has (get s.handles i) h (ready_named i x h s is)
    by false is = refl

-- without a ready member none is offered
pub no_members : (n x : ℕ) (s : Core) → has_ready_member x s ≡ false → takes_of n x s ≡ nothing
no_members n x s none = ap (λ ns. record { waiters = []; members = ns; held = [] }) (kept_none (names_ready (instance_of n s) x s) (handles_of (instance_of n s) s) unready)
  where
    unready : (h : ℕ) → names_ready (instance_of n s) x s h ≡ false
    unready h = by (subtask_at (instance_of n s) h s)
      where
        by : (o : Option Subtask) → option_map_or (λ sub. is_ready_member x sub s) o false ≡ false
        by None = refl
        by (Some sub) = none_ready x s none sub
