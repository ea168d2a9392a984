-- What a server keeps stays right as its requests come on.
use Rattle.serve_requests.proofs.ListLemmas.{count_set, get_other, get_same, length_set}
use Rattle.serve_requests.proofs.PairLemmas.{pairs_add, pairs_end, pairs_same}
use Rattle.serve_requests.specs.Pairs.{ArePairs, is_begun}
use Rattle.serve_requests.specs.Serving.{is_replied}
use Rattle.serve_requests.specs.declared.request.Request.{Request}
use Rattle.serve_requests.specs.declared.request.Stage.{Stage}
use Rattle.serve_requests.specs.declared.request.Stage.TheVariants.{Answered, Declined, Open, Refused, Waits}
use Rattle.serve_requests.specs.KeepsReplies.{KeepsReplies}
use Rattle.serve_requests.specs.HowMany.{how_many}
use Rattle.std.proofs.Common.{ap, arith, inl, inr, refl, subst, sym, ⊎_elim, ◌∙◌}
use Rattle.std.proofs.lemmas.Option.{slice_get_within}
use Rattle.std.specs.Prelude.{Bool, List, None, Option, Some, [], false, length, replicate, slice_get, slice_set, suc, true, zero, ℕ, ◌+◌, ◌++◌, ◌<◌, ◌∷◌, ◌≡◌, ◌≢◌, ◌≤◌, ◌⊎◌}
use Rattle.machine_data.specs.declared.trap.Trap.{Trap}
use Rattle.machine_rules.specs.MainOps.{is_refusal}

-- ---- Lists

one_set : {A : Type 0} (xs : List A) (i : ℕ) (y : A) (j : ℕ) (e : A) → slice_get (slice_set xs i y) j ≡ Some e → ((i ≡ j) × (y ≡ e)) ⊎ (slice_get xs j ≡ Some e)
one_set [] i y j e at = inr at
one_set (x ∷ xs) zero y zero e at = inl (refl, cc)
one_set (x ∷ xs) zero y (suc j) e at = inr at
one_set (x ∷ xs) (suc i) y zero e at = inr at
one_set (x ∷ xs) (suc i) y (suc j) e at = ⊎_elim (λ h. inl (ap (λ (k : ℕ). suc k) h.0, h.1)) (λ h. inr h) (one_set xs i y j e at)

one_more : {A : Type 0} (xs : List A) (y : A) (j : ℕ) (e : A) → slice_get (xs ++ y ∷ []) j ≡ Some e → (y ≡ e) ⊎ (slice_get xs j ≡ Some e)
one_more [] y zero e at = inl (cc)
one_more [] y (suc j) e at = absurd (cc)
one_more (x ∷ xs) y zero e at = inr at
one_more (x ∷ xs) y (suc j) e at = one_more xs y j e at

length_more : {A : Type 0} (xs : List A) (y : A) → length (xs ++ y ∷ []) ≡ length xs + 1
length_more [] y = omega arith
length_more (x ∷ xs) y = let rest = length_more xs y in omega (arith, rest)

lt_of : (i j : ℕ) → i ≤ j → i ≢ j → i + 1 ≤ j
lt_of zero zero le ne = absurd (ne refl)
lt_of zero (suc j) le ne = omega arith
lt_of (suc i) zero le ne = absurd (omega (arith, le))
lt_of (suc i) (suc j) le ne = let rest = lt_of i j (omega (arith, le)) (λ same. ne (ap (λ (k : ℕ). suc k) same)) in omega (arith, rest)

-- another one stays
still : {A : Type 0} (xs : List A) (i : ℕ) (old new : A) (j : ℕ) (e : A) → slice_get xs i ≡ Some old → slice_get xs j ≡ Some e → old ≢ e → slice_get (slice_set xs i new) j ≡ Some e
still {A} xs i old new j e at there other =
    get_other xs i j new (λ same. other (let here = subst (λ (k : ℕ). slice_get xs k ≡ Some old) same at in let both : Some old ≡ Some e = sym here ∙ there in cc)) ∙ there

-- the old one is gone
gone : {A : Type 0} (xs : List A) (j i : ℕ) (old new e : A) → j ≡ i → slice_get xs i ≡ Some old → slice_get (slice_set xs i new) j ≡ Some e → new ≢ e → ⊥
gone {A} xs j i old new e same at there other =
    other (let here = subst (λ (k : ℕ). slice_get (slice_set xs i new) k ≡ Some e) same there in let both : Some new ≡ Some e = sym (get_same xs i old new at) ∙ here in cc)

module _ {K : Type 0} (thread : K → Option ℕ) (IsCall : K → Type 0) (rs : List Request) (ks : List K) (es : List Stage) (started replied : ℕ) (due declined : Bool) (keeps : KeepsReplies thread IsCall rs ks es started replied due declined) where
  -- ---- A call is finished

  module _ (i n v : ℕ) (k l : K) (none : thread l ≡ None) (is_call : IsCall l) (at : slice_get ks i ≡ Some k) (opened : slice_get es i ≡ Some (Open n)) where
    pub keeps_finish : KeepsReplies thread IsCall rs (slice_set ks i l) (slice_set es i (Answered n v)) started (replied + 1) due declined
    keeps_finish = record {
      few = keeps.few;
      size = length_set es i (Answered n v) ∙ keeps.size;
      calls = λ j c there. ⊎_elim (λ h. subst IsCall h.1 is_call) (λ h. keeps.calls j c h) (one_set ks i l j c there);
      pairs = pairs_end thread ks es i k l n v keeps.pairs at none;
      waiting = λ j e there late. ⊎_elim
          (λ h. let was = keeps.waiting i (Open n) opened (subst (λ (q : ℕ). started ≤ q) (sym h.0) late) in absurd (cc))
          (λ h. keeps.waiting j e h late) (one_set es i (Answered n v) j e there);
      begun = λ j there. ⊎_elim (λ h. let clash = h.1 in absurd (cc)) (λ h. keeps.begun j h) (one_set es i (Answered n v) j Waits there);
      within = keeps.within;
      behind = let same = length_set ks i l in let behind = keeps.behind in omega (arith, same, behind);
      next = λ fine. length_set ks i l ∙ keeps.next fine;
      due_is = λ is. let d = keeps.due_is is in (d.0, d.1, d.2, still es i (Open n) (Answered n v) d.0 (Declined d.1) opened d.3 (λ same. absurd (cc)), d.4, d.5);
      none_due = λ is j why there. ⊎_elim (λ h. let clash = h.1 in absurd (cc)) (λ h. keeps.none_due is j why h) (one_set es i (Answered n v) j (Declined why) there);
      last_due = λ j why there. ⊎_elim (λ h. let clash = h.1 in absurd (cc)) (λ h. keeps.last_due j why h) (one_set es i (Answered n v) j (Declined why) there);
      counts = let set = count_set is_replied es i (Open n) (Answered n v) opened in let counts = keeps.counts in omega (arith, set, counts);
    }

  -- ---- A refusal is replied

  module _ (p : ℕ) (why : Trap) (last : started ≡ suc p) (at : slice_get es p ≡ Some (Declined why)) where
    pub keeps_refused : KeepsReplies thread IsCall rs ks (slice_set es p (Refused why)) started (replied + 1) false declined
    keeps_refused = record {
      few = keeps.few;
      size = length_set es p (Refused why) ∙ keeps.size;
      calls = keeps.calls;
      pairs = pairs_same thread ks es p (Declined why) (Refused why) keeps.pairs at refl refl;
      waiting = λ j e there late. ⊎_elim
          (λ h. let same = h.0 in absurd (omega (arith, same, late, last)))
          (λ h. keeps.waiting j e h late) (one_set es p (Refused why) j e there);
      begun = λ j there. ⊎_elim (λ h. let clash = h.1 in absurd (cc)) (λ h. keeps.begun j h) (one_set es p (Refused why) j Waits there);
      within = keeps.within;
      behind = keeps.behind;
      next = keeps.next;
      due_is = λ is. absurd (cc);
      none_due = λ is j other there. ⊎_elim (λ h. let clash = h.1 in absurd (cc)) (λ h. let mine = keeps.last_due j other h in gone es j p (Declined why) (Refused why) (Declined other) (omega (arith, mine, last)) at there (λ same. absurd (cc))) (one_set es p (Refused why) j (Declined other) there);
      last_due = λ j other there. ⊎_elim (λ h. let clash = h.1 in absurd (cc)) (λ h. keeps.last_due j other h) (one_set es p (Refused why) j (Declined other) there);
      counts = let set = count_set is_replied es p (Declined why) (Refused why) at in let counts = keeps.counts in omega (arith, set, counts);
    }

  -- ---- A request is started

  module _ (undue : due ≡ false) (at : slice_get es started ≡ Some Waits) where
    before : started < length rs
    before = let within = slice_get_within es started Waits at in let size = keeps.size in omega (arith, within, size)

    pub keeps_open : (k : K) (n : ℕ) → thread k ≡ Some n → IsCall k → declined ≡ false → KeepsReplies thread IsCall rs (ks ++ k ∷ []) (slice_set es started (Open n)) (started + 1) replied due declined
    keeps_open k n is is_call fine =
        let many = keeps.next fine in
        let more = length_more ks k in
        record {
          few = keeps.few;
          size = length_set es started (Open n) ∙ keeps.size;
          calls = λ j c there. ⊎_elim (λ h. subst IsCall h is_call) (λ h. keeps.calls j c h) (one_more ks k j c there);
          pairs = subst (λ (q : ℕ). ArePairs thread (ks ++ k ∷ []) (slice_set es q (Open n))) many
              (pairs_add thread ks es k n Waits keeps.pairs (ap (λ (q : ℕ). slice_get es q) many ∙ at) is);
          waiting = λ j e there late. ⊎_elim
              (λ h. let same = h.0 in absurd (omega (arith, same, late)))
              (λ h. keeps.waiting j e h (omega (arith, late))) (one_set es started (Open n) j e there);
          begun = λ j there. ⊎_elim
              (λ h. let clash = h.1 in absurd (cc))
              (λ h. lt_of started j (keeps.begun j h) (λ same. gone es j started Waits (Open n) Waits (sym same) at there (λ clash. absurd (cc)))) (one_set es started (Open n) j Waits there);
          within = let lt = before in omega (arith, lt);
          behind = omega (arith, many, more);
          next = λ same. more ∙ ap (λ (q : ℕ). q + 1) many;
          due_is = λ yes_due. absurd (cc);
          none_due = λ is j why there. ⊎_elim (λ h. let clash = h.1 in absurd (cc)) (λ h. keeps.none_due undue j why h) (one_set es started (Open n) j (Declined why) there);
          last_due = λ j why there. ⊎_elim (λ h. let clash = h.1 in absurd (cc)) (λ h. absurd (keeps.none_due undue j why h)) (one_set es started (Open n) j (Declined why) there);
          counts = let set = count_set is_replied es started Waits (Open n) at in let counts = keeps.counts in omega (arith, set, counts);
        }

    pub keeps_declined : (why : Trap) → is_refusal why ≡ true → KeepsReplies thread IsCall rs ks (slice_set es started (Declined why)) (started + 1) replied true true
    keeps_declined why refusal =
        let behind = keeps.behind in
        record {
          few = keeps.few;
          size = length_set es started (Declined why) ∙ keeps.size;
          calls = keeps.calls;
          pairs = pairs_same thread ks es started Waits (Declined why) keeps.pairs at refl refl;
          waiting = λ j e there late. ⊎_elim
              (λ h. let same = h.0 in absurd (omega (arith, same, late)))
              (λ h. keeps.waiting j e h (omega (arith, late))) (one_set es started (Declined why) j e there);
          begun = λ j there. ⊎_elim
              (λ h. let clash = h.1 in absurd (cc))
              (λ h. lt_of started j (keeps.begun j h) (λ same. gone es j started Waits (Declined why) Waits (sym same) at there (λ clash. absurd (cc)))) (one_set es started (Declined why) j Waits there);
          within = let lt = before in omega (arith, lt);
          behind = omega (arith, behind);
          next = λ never. absurd (cc);
          due_is = λ is. (started, why, omega arith, get_same es started Waits (Declined why) at, refusal, refl);
          none_due = λ never. absurd (cc);
          last_due = λ j other there. ⊎_elim (λ h. let same = h.0 in omega (arith, same)) (λ h. absurd (keeps.none_due undue j other h)) (one_set es started (Declined why) j (Declined other) there);
          counts = let set = count_set is_replied es started Waits (Declined why) at in let counts = keeps.counts in omega (arith, set, counts);
        }

-- ---- The first

all_wait : (n i : ℕ) (e : Stage) → slice_get (replicate n Waits) i ≡ Some e → e ≡ Waits
all_wait zero i e at = absurd (cc)
all_wait (suc n) zero e at = cc
all_wait (suc n) (suc i) e at = all_wait n i e at

none_replied : (n : ℕ) → how_many is_replied (replicate n Waits) ≡ 0
none_replied zero = refl
none_replied (suc n) = let rest = none_replied n in omega (arith, rest)

all_there : (n : ℕ) → length (replicate n Waits) ≡ n
all_there zero = refl
all_there (suc n) = ap (λ (k : ℕ). suc k) (all_there n)

pub keeps_first : {K : Type 0} (thread : K → Option ℕ) (IsCall : K → Type 0) (rs : List Request) → length rs ≤ 10000 → KeepsReplies thread IsCall rs [] (replicate (length rs) Waits) 0 0 false false
keeps_first thread IsCall rs few = record {
  few = few;
  size = all_there (length rs);
  calls = λ i k at. absurd (cc);
  pairs = λ i e at. ap is_begun (all_wait (length rs) i e at);
  waiting = λ i e at late. all_wait (length rs) i e at;
  begun = λ i at. omega arith;
  within = omega arith;
  behind = omega arith;
  next = λ none. refl;
  due_is = λ is. absurd (cc);
  none_due = λ is i why at. let wait = all_wait (length rs) i (Declined why) at in absurd (cc);
  last_due = λ i why at. let wait = all_wait (length rs) i (Declined why) at in absurd (cc);
  counts = sym (none_replied (length rs));
}
