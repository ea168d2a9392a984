-- A strand that is taken away, from its top down.
use Rattle.std.proofs.Common.{ap, ap₂, arith, cond, refl, subst, sym, ◌∙◌}
use Rattle.std.specs.Cmp.{unsigned_tied}
use Rattle.std.specs.FinMap.Entries.{where_key}
use Rattle.std.specs.Option.{option_map_or}
use Rattle.std.specs.Ordering.{eq_by_cmp, nat_cmp}
use Rattle.std.specs.Prelude.{Bool, List, None, Option, Some, [], false, find, is_some, map, not, option_map, suc, true, zero, ℕ, ◌+◌, ◌<◌, ◌==◌, ◌∷◌, ◌≡◌, ◌≤◌}
use Rattle.task_table.specs.declared.id.TableId.{TableId}
use Rattle.task_wait.specs.declared.keys.ThreadKey.{ThreadKey}
use Rattle.machine_data.proofs.SizeLemmas.{size-remove_present}
use Rattle.machine_data.specs.Core.{Core}
use Rattle.machine_data.specs.Maps.{get, numbers, other_than, remove, size}
use Rattle.machine_data.specs.Read.{is_at, is_under, place_of, strand_from, strand_of, under_of}
use Rattle.machine_data.specs.Write.{remove_thread, remove_threads}
use Rattle.machine_data.specs.declared.records.Place.{Place}
use Rattle.machine_data.specs.declared.records.Place.TheVariants as place
use Rattle.machine_data.specs.declared.records.Thread.{Thread}
use Rattle.ops_guests.specs.Running.{IsTopmost}
use Rattle.ops_guests.specs.Works.{KeepsTold}
use Rattle.ops_guests.proofs.BesideLemmas.{stand_of, under_place}
use Rattle.machine_rules.proofs.MoveLemmas.{gone_place, other_place, removed_gone, removed_placed}
use Rattle.machine_rules.proofs.StandLemmas.{by_number, eq_refl, is_eq_of}
use Rattle.machine_rules.specs.Places.{HasPlace, is_there, one_if}
use Rattle.core_primitives.specs.StateView.{KeepsBut, StateView, lost_thread, thread_of, work_of}

-- ---- Who is under a thread, where another one is gone

find_same : (p q : ℕ → Bool) → ((k : ℕ) → p k ≡ q k) → (ns : List ℕ) → find p ns ≡ find q ns
find_same p q same [] = refl
find_same p q same (n ∷ ns) = ap₂ (λ (b : Bool) (o : Option ℕ). cond b (Some n) o) (same n) (find_same p q same ns)

find_kept : {X : Type 0} (p : ℕ → Bool) (n : ℕ) → p n ≡ false → (e : ℕ × X) (es : List (ℕ × X)) (b : Bool) → eq_by_cmp nat_cmp n e.0 ≡ b → find p (map (λ d. d.0) (where_key nat_cmp (other_than n) es)) ≡ find p (map (λ d. d.0) es) → find p (map (λ d. d.0) (cond (not b) (e ∷ where_key nat_cmp (other_than n) es) (where_key nat_cmp (other_than n) es))) ≡ find p (e.0 ∷ map (λ d. d.0) es)
find_kept p n none e es false k ih = ap (λ (o : Option ℕ). cond (p e.0) (Some e.0) o) ih
find_kept p n none e es true k ih =
    let here : p e.0 ≡ false = ap p (sym (is_eq_of n e.0 (sym (unsigned_tied n e.0) ∙ k))) ∙ none in
    ih ∙ sym (ap (λ b. cond b (Some e.0) (find p (map (λ d. d.0) es))) here)

find_less : {X : Type 0} (p : ℕ → Bool) (n : ℕ) → p n ≡ false → (es : List (ℕ × X)) → find p (map (λ e. e.0) (where_key nat_cmp (other_than n) es)) ≡ find p (map (λ e. e.0) es)
find_less p n none [] = refl
find_less p n none (e ∷ es) = find_kept p n none e es (eq_by_cmp nat_cmp n e.0) refl (find_less p n none es)

not_under : (x : ℕ) (o : Option Place) → (o ≡ Some (place.Under x) → ⊥) → option_map_or (is_under x) o false ≡ false
not_under x None h = refl
not_under x (Some (place.Under y)) h = by_number y x ((y == x) ≡ false) (λ e. absurd (h (ap (λ (z : ℕ). Some (place.Under z)) e))) (λ e. e)
not_under x (Some place.New) h = refl
not_under x (Some (place.Ready m w)) h = refl
not_under x (Some place.Running) h = refl
not_under x (Some (place.Behind y)) h = refl
not_under x (Some (place.Waiting y c)) h = refl
not_under x (Some (place.Blocked y)) h = refl
not_under x (Some (place.Held w)) h = refl
not_under x (Some place.Suspended) h = refl

under_less : (x n : ℕ) (s : Core) → (place_of n s ≡ Some (place.Under x) → ⊥) → under_of x (remove_thread n s) ≡ under_of x s
unfolding under_of numbers remove remove_thread
under_less x n s apart =
    let t = remove_thread n s in
    let gone : is_at n t (is_under x) ≡ false = ap (λ (o : Option Place). option_map_or (is_under x) o false) (gone_place n s) in
    find_less (λ k. is_at k t (is_under x)) n gone s.threads.list ∙ find_same (λ k. is_at k t (is_under x)) (λ k. is_at k s (is_under x)) (λ k. same k) (map (λ e. e.0) s.threads.list)
  where
    same : (k : ℕ) → is_at k (remove_thread n s) (is_under x) ≡ is_at k s (is_under x)
    same k = by_number k n (is_at k (remove_thread n s) (is_under x) ≡ is_at k s (is_under x))
        (λ e. subst (λ (j : ℕ). is_at j (remove_thread n s) (is_under x) ≡ is_at j s (is_under x)) (sym e) (ap (λ (o : Option Place). option_map_or (is_under x) o false) (gone_place n s) ∙ sym (not_under x (place_of n s) apart)))
        (λ e. ap (λ (o : Option Place). option_map_or (is_under x) o false) (other_place k n s e))

-- ---- The strand without its top

-- who is there isn't the one that the top is under
apart_from : (n m : ℕ) (s : Core) → IsTopmost n s → is_there m s ≡ true → place_of n s ≡ Some (place.Under m) → ⊥
apart_from n m s top there at = both (sym there ∙ top.apart m (same_place top.place (place.Under m) (sym top.stand.here ∙ at)))
  where
    same_place : (p r : Place) → Some p ≡ Some r → p ≡ r
    same_place p r e = cc

    both : true ≡ false → ⊥
    both e = cc

strand_less : (k n m : ℕ) (s : Core) → IsTopmost n s → is_there m s ≡ true → strand_from k (remove_thread n s) m ≡ strand_from k s m
strand_less zero n m s top there = refl
strand_less (suc k) n m s top there =
    ap (λ (l : List ℕ). m ∷ l) (ap (λ (o : Option ℕ). option_map_or (strand_from k (remove_thread n s)) o []) (under_less m n s (apart_from n m s top there)) ∙ go (under_of m s) refl (λ y h. strand_less k n y s top h))
  where
    go : (o : Option ℕ) → under_of m s ≡ o → ((y : ℕ) → is_there y s ≡ true → strand_from k (remove_thread n s) y ≡ strand_from k s y) → option_map_or (strand_from k (remove_thread n s)) o [] ≡ option_map_or (strand_from k s) o []
    go None e more = refl
    go (Some y) e more = more y (ap (λ (o : Option Place). is_some o) (under_place m y s e))

there_get : (n : ℕ) (p : Place) (s : Core) → place_of n s ≡ Some p → (t : Thread) × (get s.threads n ≡ Some t)
there_get n p s e = go (get s.threads n) refl e
  where
    go : (o : Option Thread) → get s.threads n ≡ o → option_map (λ (t : Thread). t.place) o ≡ Some p → (t : Thread) × (get s.threads n ≡ Some t)
    go None at h = absurd (no_both h)
      where
        no_both : None ≡ Some p → ⊥
        no_both e = cc
    go (Some t) at h = (t, at)

strand_size : (n : ℕ) (s : Core) → IsTopmost n s → size s.threads ≡ suc (size (remove_thread n s).threads)
unfolding remove_thread
strand_size n s top =
    let t = there_get n top.place s top.stand.here in
    let e = size-remove_present s.threads n t.0 t.1 in
    omega (arith, e)

fewer : (n : ℕ) (s : Core) → IsTopmost n s → size (remove_thread n s).threads + 1 ≤ size s.threads
fewer n s top = let e = strand_size n s top in omega (arith, e)

strand_is : (n : ℕ) (s : Core) → IsTopmost n s → (o : Option ℕ) → under_of n s ≡ o → strand_of n s ≡ n ∷ option_map_or (strand_from (size (remove_thread n s).threads) s) o []
unfolding strand_of
strand_is n s top o e = ap (λ k. strand_from k s n) (strand_size n s top) ∙ ap (λ (p : Option ℕ). n ∷ option_map_or (strand_from (size (remove_thread n s).threads) s) p []) e

pub last_removed : (n : ℕ) (s : Core) → IsTopmost n s → under_of n s ≡ None → remove_threads (strand_of n s) s ≡ remove_thread n s
last_removed n s top e = ap (λ (l : List ℕ). remove_threads l s) (strand_is n s top None e)

below_apart : (n m : ℕ) (s : Core) → IsTopmost n s → under_of n s ≡ Some m → (m == n) ≡ false
below_apart n m s top e = by_number m n ((m == n) ≡ false) (λ same. absurd (apart_from n n s top (ap (λ (o : Option Place). is_some o) top.stand.here) (subst (λ (k : ℕ). place_of k s ≡ Some (place.Under n)) same (under_place n m s e)))) (λ d. d)

next_removed : (n m : ℕ) (s : Core) → IsTopmost n s → under_of n s ≡ Some m → remove_threads (strand_of m (remove_thread n s)) (remove_thread n s) ≡ remove_threads (strand_of n s) s
unfolding strand_of
next_removed n m s top e =
    let t = remove_thread n s in
    ap (λ (l : List ℕ). remove_threads l t) (strand_less (size t.threads) n m s top (ap (λ (o : Option Place). is_some o) (under_place n m s e)))
    ∙ sym (ap (λ (l : List ℕ). remove_threads l s) (strand_is n s top (Some m) e))

next_top : (n m : ℕ) (s : Core) → IsTopmost n s → under_of n s ≡ Some m → IsTopmost m (remove_thread n s)
next_top n m s top e = record {
  place = place.Under n;
  stand = stand_of m (place.Under n) t here refl all;
  apart = λ p same. subst (λ (k : ℕ). is_there k t ≡ false) (same_number n p same) (ap (λ (o : Option Place). is_some o) (gone_place n s));
}
  where
    t : Core
    t = remove_thread n s

    here : place_of m t ≡ Some (place.Under n)
    here = other_place m n s (below_apart n m s top e) ∙ under_place n m s e

    all : (k : ℕ) → HasPlace k t
    all k = by_number k n (HasPlace k t)
        (λ same. subst (λ (j : ℕ). HasPlace j t) (sym same) (removed_gone n s (top.stand.loose n (let x = ap one_if (eq_refl n) in omega (arith, x)))))
        (λ d. removed_placed k n s d (top.stand.placed k (let x = ap one_if d in omega (arith, x))))

    same_number : (j p : ℕ) → place.Under j ≡ place.Under p → j ≡ p
    same_number j p d = cc

-- ---- As contracts see it

-- one more is gone
pub record Removed (a b : TableId ThreadKey) (s t : StateView) : Type 0 where
  pub live : 0 < thread_of t b
  pub top : IsTopmost (thread_of t b) t.core
  pub rest : remove_threads (strand_of (thread_of t b) t.core) t.core ≡ remove_threads (strand_of (thread_of s a) s.core) s.core
  pub fewer : size t.core.threads + 1 ≤ size s.core.threads

pub removed_one : (a b : TableId ThreadKey) (s t : StateView) → IsTopmost (thread_of s a) s.core → Some (thread_of s b) ≡ under_of (thread_of s a) s.core → 0 < thread_of s b → KeepsBut (lost_thread (thread_of s a)) s.tags t.tags → t.core ≡ remove_thread (thread_of s a) s.core → Removed a b s t
removed_one a b s t top at live keeps e =
    let N = thread_of s a in
    let M = thread_of s b in
    let same = keeps.threads b (λ d. differ d (below_apart N M s.core top (sym at))) in
    let core = subst (λ (c : Core). IsTopmost M c) (sym e) (next_top N M s.core top (sym at)) in
    record {
      live = subst (λ (k : ℕ). 0 < k) (sym same) live;
      top = subst (λ (k : ℕ). IsTopmost k t.core) (sym same) core;
      rest = ap₂ (λ (k : ℕ) (c : Core). remove_threads (strand_of k c) c) same e ∙ next_removed N M s.core top (sym at);
      fewer = subst (λ (c : Core). size c.threads + 1 ≤ size s.core.threads) (sym e) (fewer N s.core top);
    }
  where
    differ : thread_of s b ≡ thread_of s a → (thread_of s b == thread_of s a) ≡ false → ⊥
    differ d ne = both (sym ne ∙ (ap (λ (k : ℕ). k == thread_of s a) d ∙ eq_refl (thread_of s a)))
      where
        both : false ≡ true → ⊥
        both e = cc

-- ids of works name the same ones, and the same groups are tracked
pub named_after : (r s t : StateView) (n : ℕ) → KeepsTold r s → KeepsBut (lost_thread n) s.tags t.tags → KeepsTold r t
named_after r s t n before keeps = (
  λ id live.
      let there : 0 < work_of s id = subst (λ (i : ℕ). 0 < i) (sym (before.0 id live)) live in
      keeps.works id (λ none. let zero : 0 < 0 = subst (λ (i : ℕ). 0 < i) none there in omega (arith, zero)) ∙ before.0 id live,
  keeps.same ∙ before.1,
)
