-- What is kept of host works after one of them was used, at its place.
use Rattle.std.proofs.Common.{ap, arith, refl, subst, sym, ◌∙◌}
use Rattle.std.proofs.lemmas.Bool.Decides.{nat_tests}
use Rattle.std.proofs.lemmas.Map.Entries.{hash_map_get_place}
use Rattle.std.proofs.lemmas.Option.{slice_get-map}
use Rattle.std.specs.Cmp.{nat_eq_equiv}
use Rattle.std.specs.Map.{lookup_key, values_of}
use Rattle.std.specs.Option.{option_map}
use Rattle.std.specs.Prelude.{Bool, IfNone, IfSome, List, None, Option, Some, [], cond, false, nat_eq, slice_get, true, ℕ, ◌==◌, ◌≡◌, ◌≢◌, ◌∷◌}
use Rattle.indexmap.proofs.CallerLemmas.{updates-with_value_at}
use Rattle.indexmap.specs.IndexMap.{IsUnique, with_value_at}
use Rattle.store_works.specs.Course.{MayTell, one_fewer}
use Rattle.store_works.specs.Joined.{joined_phase, joined_work}
use Rattle.store_works.specs.KeptWorks.{Found, HeldWork, after_abort, after_poll, MayAnswer, MayAnswerIn, found_phase, held, is_over, unless_over}
use Rattle.store_works.specs.declared.joined.JoinedWork.{JoinedWork}
use Rattle.store_works.specs.declared.kept.HostWorks.{HostWorks}
use Rattle.machine_data.specs.declared.statuses.HostPoll.{HostPoll}
use Rattle.task_abort.specs.PhaseLog.{after}
use Rattle.task_abort.specs.declared.log.PhaseCall.TheVariants.{Abort}
use Rattle.machine_data.specs.declared.component.HostDef.{HostDef}
use Rattle.machine_data.specs.declared.statuses.Phase.{Phase}
use Rattle.machine_data.specs.declared.statuses.Phase.TheVariants as phases

-- a key that is found by a number is that number
pub key_is : {X : Type 0} (n k : ℕ) (es : List (ℕ × X)) → Some k ≡ lookup_key (nat_eq n) es → n ≡ k
key_is n k [] e = absurd (cc)
key_is n k (x ∷ es) e = by (nat_eq n x.0) refl (λ rest. key_is n k es rest) e
  where
    by : (b : Bool) → nat_eq n x.0 ≡ b → (Some k ≡ lookup_key (nat_eq n) es → n ≡ k) → Some k ≡ cond b (Some x.0) (lookup_key (nat_eq n) es) → n ≡ k
    by true is rest e =
        let same : n ≡ x.0 = grind (arith, nat_tests, is) in
        let got : k ≡ x.0 = cc in
        same ∙ sym got
    by false is rest e = rest e

-- ---- What a poll answers, and what it leaves

-- one that isn't running isn't polled
pub unasked : (p : Phase) (d : HostDef) → p ≢ phases.Running → MayAnswerIn p d None
unasked phases.Running d other = absurd (other refl)
unasked phases.AbortRequested d other = refl
unasked phases.Complete d other = refl

pub asked : (p : Phase) (d : HostDef) (a : HostPoll) → p ≡ phases.Running → MayTell d a → MayAnswerIn p d (Some a)
asked p d a runs tells = subst (λ (q : Phase). MayAnswerIn q d (Some a)) (sym runs) tells

pub answer_by : (X : Type 0) (o : Option HostPoll) (p : Phase) (d : HostDef) → IfNone o ((p ≢ phases.Running) × X) → IfSome o (λ a. p ≡ phases.Running) → IfSome o (λ a. MayTell d a) → MayAnswerIn p d o
answer_by X None p d other runs tells = unasked p d other.0
answer_by X (Some a) p d other runs tells = asked p d a runs tells

pub goes_on : (X : Type 0) (o : Option HostPoll) → is_over o ≡ false → IfSome o (λ a. X) → X
goes_on X None going x = absurd (cc)
goes_on X (Some a) going x = x

through : {X : Type 0} (f : X → HeldWork) (b : Bool) (w : X) (o : Option X) → option_map f (cond b (Some w) o) ≡ cond b (Some (f w)) (option_map f o)
through f true w o = refl
through f false w o = refl

over : {A : Type 0} (b : Bool) (o p q : Option A) → cond b o (cond b p q) ≡ cond b o q
over true o p q = refl
over false o p q = refl

module _ {H : Type 0} (course : H → HostDef) (kept : HostWorks H) (n i : ℕ) (work : JoinedWork H) (unique : IsUnique nat_eq kept.works) (at : slice_get kept.works.entries i ≡ Some (n, work)) where
  abbrev pub found : JoinedWork H → HeldWork
  found joined = Found (course (joined_work joined)) (joined_phase joined)

  pub held_there : held course kept n ≡ Some (found work)
  held_there = ap (option_map found) (hash_map_get_place nat_eq_equiv kept.works i n work unique at)

  -- the work that was lent
  pub lent : (w : JoinedWork H) → Some w ≡ slice_get (values_of kept.works.entries) i → w ≡ work
  lent w is = let e = is ∙ (slice_get-map (λ (e : ℕ × JoinedWork H). e.1) kept.works.entries i ∙ ap (option_map (λ (e : ℕ × JoinedWork H). e.1)) at) in cc

  module _ (w v : JoinedWork H) (next : ℕ) (is : w ≡ work) where
    abbrev pub after_write : HostWorks H
    after_write = record { works = with_value_at kept.works i v; next = next; alloc = kept.alloc }

    there : held course kept n ≡ Some (found w)
    there = held_there ∙ ap (λ (j : JoinedWork H). Some (found j)) (sym is)

    pub phase_there : (p : Phase) → p ≡ joined_phase w → p ≡ found_phase (held course kept n)
    phase_there p e = e ∙ sym (ap found_phase there)

    -- each other work is as it was
    written : (j : ℕ) → held course after_write j ≡ cond (n == j) (Some (found v)) (held course kept j)
    written j = ap (option_map found) ((updates-with_value_at kept.works i v nat_eq_equiv unique n work at).0 j) ∙ through found (n == j) v _

    same_found : joined_work v ≡ joined_work w → (p : Phase) → joined_phase v ≡ p → Some (found v) ≡ Some (Found (course (joined_work w)) p)
    same_found same p e = ap (λ (h : H). Some (Found (course h) (joined_phase v))) same ∙ ap (λ (q : Phase). Some (Found (course (joined_work w)) q)) e

    pub aborted : joined_work v ≡ joined_work w → joined_phase v ≡ after Abort (joined_phase w) →
        (j : ℕ) → held course after_write j ≡ cond (n == j) (after_abort (held course kept n)) (held course kept j)
    aborted same e j = written j ∙ ap (λ (o : Option HeldWork). cond (n == j) o (held course kept j)) (same_found same (after Abort (joined_phase w)) e ∙ sym (ap after_abort there))

    here : (b : Bool) (j : ℕ) → (n == j) ≡ b → cond b (held course kept n) (held course kept j) ≡ held course kept j
    here true j e = ap (held course kept) (grind (arith, nat_tests, e))
    here false j e = refl

    pub asked_same : joined_work v ≡ joined_work w → joined_phase v ≡ joined_phase w → (j : ℕ) → held course after_write j ≡ held course kept j
    asked_same same e j = written j ∙ (ap (λ (o : Option HeldWork). cond (n == j) o (held course kept j)) (same_found same (joined_phase w) e ∙ sym there) ∙ here (n == j) j refl)

    -- ---- Polls

    pub answer_there : (o : Option HostPoll) → MayAnswerIn (joined_phase w) (course (joined_work w)) o → MayAnswer (held course kept n) o
    answer_there o e = subst (λ (h : Option HeldWork). MayAnswer h o) (sym there) e

    left_there : (o : Option HostPoll) (b : Bool) → MayAnswerIn (joined_phase w) (course (joined_work w)) o → is_over o ≡ b → after_poll o (held course kept n) ≡ unless_over b (found w)
    left_there o b e is_b = ap (after_poll o) there ∙ ap (λ (c : Bool). unless_over c (found w)) is_b

    -- one that goes on is held
    pub left_going : (o : Option HostPoll) → MayAnswerIn (joined_phase w) (course (joined_work w)) o → is_over o ≡ false →
        course (joined_work v) ≡ one_fewer (course (joined_work w)) → joined_phase v ≡ joined_phase w →
        (j : ℕ) → held course after_write j ≡ cond (n == j) (after_poll o (held course kept n)) (held course kept j)
    left_going o e going fewer same j =
        written j ∙ ap (λ (p : Option HeldWork). cond (n == j) p (held course kept j))
        (ap (λ (d : HostDef). Some (Found d (joined_phase v))) fewer ∙ (ap (λ (q : Phase). Some (Found (one_fewer (course (joined_work w))) q)) same ∙ sym (left_there o false e going)))

    -- one that is over is let go
    pub left_over : (o : Option HostPoll) → MayAnswerIn (joined_phase w) (course (joined_work w)) o → is_over o ≡ true → (gone : HostWorks H) →
        ((j : ℕ) → held course gone j ≡ cond (n == j) None (held course after_write j)) →
        (j : ℕ) → held course gone j ≡ cond (n == j) (after_poll o (held course kept n)) (held course kept j)
    left_over o e ends gone let_go j =
        let_go j ∙ (ap (λ (p : Option HeldWork). cond (n == j) None p) (written j) ∙ (over (n == j) None (Some (found v)) (held course kept j)
        ∙ ap (λ (p : Option HeldWork). cond (n == j) p (held course kept j)) (sym (left_there o true e ends))))
