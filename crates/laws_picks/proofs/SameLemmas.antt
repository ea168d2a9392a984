-- What a step shows that picks what comes first is what is wanted, where that fits what is offered.
use Rattle.laws_choices.proofs.ListLemmas.{member_has, waiter_has}
use Rattle.laws_choices.proofs.WantedLemmas.{wanted_is_taken, wanted_is_woken}
use Rattle.laws_choices.specs.Offer.{Offer, is_one_of}
use Rattle.laws_choices.specs.Offers.{names_ready, takes_of, waiters_of}
use Rattle.laws_choices.specs.Wanted.{WantedIsTaken, WantedIsWoken}
use Rattle.laws_picks.proofs.OwnLemmas.{IsOwn}
use Rattle.laws_states.specs.Order.{NamesKnown, WorksKnown}
use Rattle.machine_data.specs.Core.{Core}
use Rattle.machine_data.specs.Labels.{member_of, woken_of}
use Rattle.machine_data.specs.Read.{instance_of, is_in_set, is_nil, is_ready_member, is_waiter, is_waiting_on, join_of, place_of, subtask_at}
use Rattle.machine_data.specs.declared.label.Label.TheVariants as label
use Rattle.machine_data.specs.declared.label.Label.{Label}
use Rattle.machine_data.specs.declared.label.SetLabel.TheVariants as set
use Rattle.machine_data.specs.declared.label.TakeLabel.TheVariants as take
use Rattle.machine_data.specs.declared.records.Join.TheVariants as join
use Rattle.machine_data.specs.declared.records.Join.{Join}
use Rattle.machine_data.specs.declared.records.Place.TheVariants as place
use Rattle.machine_data.specs.declared.records.Place.{Place}
use Rattle.machine_data.specs.declared.records.Subtask.TheVariants as subtask
use Rattle.machine_data.specs.declared.records.Subtask.{Subtask}
use Rattle.machine_data.specs.declared.statuses.Given.TheVariants as given
use Rattle.machine_data.specs.declared.statuses.Given.{Given}
use Rattle.machine_rules.specs.Picks.{Preference, ShowsFirst, TakesFirst, WakesFirst, taken_of, taken_of_given}
use Rattle.std.proofs.Common.{ap, inl, inr, refl, subst, sym, ◌∙◌}
use Rattle.std.proofs.lemmas.Bool.{and_parts, eqb-true}
use Rattle.std.proofs.lemmas.Option.{same_Some}
use Rattle.std.specs.List.{list_any}
use Rattle.std.specs.Option.{option_map_or}
use Rattle.std.specs.Prelude.{IfSome, List, None, Option, Some, [], false, true, ℕ, ◌==◌, ◌∷◌, ◌≡◌, ◌⊎◌}

-- ---- Two cores that are alike in what is picked

pub record Alike (b s : Core) : Type 0 where
  pub waits : (x n : ℕ) → is_waiter x n b ≡ is_waiter x n s
  pub named : (i h : ℕ) → subtask_at i h b ≡ subtask_at i h s
  pub ready : (x : ℕ) (sub : Subtask) → is_ready_member x sub b ≡ is_ready_member x sub s
  pub instance : (n : ℕ) → instance_of n b ≡ instance_of n s

pub itself_alike : (s : Core) → Alike s s
itself_alike s = record { waits = λ x n. refl; named = λ i h. refl; ready = λ x sub. refl; instance = λ n. refl }

-- ---- One of a list

none_has : (ns : List ℕ) (n : ℕ) → is_nil ns ≡ true → list_any (λ m. m == n) ns ≡ true → ⊥
none_has [] n none has = absurd (cc)
none_has (m ∷ ns) n none has = absurd (cc)

waits_one : (x y : ℕ) (o : Option Place) → option_map_or (is_waiting_on x) o false ≡ true → option_map_or (is_waiting_on y) o false ≡ true → x ≡ y
waits_one x y (Some (place.Waiting z b)) p q = eqb-true x z p ∙ sym (eqb-true y z q)
waits_one x y _ p q = absurd (cc)

in_one : (x y : ℕ) (j : Join) → is_in_set x j ≡ true → is_in_set y j ≡ true → x ≡ y
in_one x y (join.Set z) p q = eqb-true x z p ∙ sym (eqb-true y z q)
in_one x y _ p q = absurd (cc)

-- the member that a label shows is that of the event that was taken
taken_member : (l : Label) (h : ℕ) → member_of l ≡ Some h → (e : ℕ × ℕ) × ((taken_of l ≡ Some e) × (e.1 ≡ h))
taken_member (label.Take (take.Event m g n)) h is = by g is
  where
    by : (g : Given) → member_of (label.Take (take.Event m g n)) ≡ Some h → (e : ℕ × ℕ) × ((taken_of_given n g ≡ Some e) × (e.1 ≡ h))
    by (given.Subtask status k) is = ((n, k), (refl, same_Some k h is))
    by _ is = absurd (cc)
taken_member (label.Set (set.Wait g n)) h is = by g is
  where
    by : (g : Given) → member_of (label.Set (set.Wait g n)) ≡ Some h → (e : ℕ × ℕ) × ((taken_of_given n g ≡ Some e) × (e.1 ≡ h))
    by (given.Subtask status k) is = ((n, k), (refl, same_Some k h is))
    by _ is = absurd (cc)
taken_member (label.Set (set.Poll g n)) h is = by g is
  where
    by : (g : Given) → member_of (label.Set (set.Poll g n)) ≡ Some h → (e : ℕ × ℕ) × ((taken_of_given n g ≡ Some e) × (e.1 ≡ h))
    by (given.Subtask status k) is = ((n, k), (refl, same_Some k h is))
    by _ is = absurd (cc)
taken_member _ h is = absurd (cc)

-- what an offer has of waiters and of members is of one set
abbrev pub OneSet : Core → Offer → Type 0
OneSet s o = (o.waiters ≡ []) ⊎ ((x : ℕ) × (o.waiters ≡ waiters_of x s))

abbrev pub OneTaken : ℕ → Core → Offer → Type 0
OneTaken n s o = (o.members ≡ []) ⊎ ((x : ℕ) × (o.members ≡ (takes_of n x s).members))

module _ (p : Preference) (b s : Core) (alike : Alike b s) (l : Label) (first : ShowsFirst p s l) (o : Offer) where
  if_some : {X : Type 0} (P : X → Type 0) (q : Option X) (x : X) → q ≡ Some x → IfSome q P → P x
  if_some P None x is h = absurd (cc)
  if_some P (Some y) x is h = subst P (same_Some y x is) h

  -- ---- The waiter

  pub waiter_is : OneSet b o → (wanted : Option ℕ) → ((w : ℕ) → wanted ≡ Some w → p.waiter ≡ Some w) → is_one_of o.waiters (woken_of l) ≡ true → is_one_of o.waiters wanted ≡ true → woken_of l ≡ wanted
  unfolding WantedIsWoken
  waiter_is one wanted wants shown fits = by (woken_of l) wanted refl refl shown fits
    where
      both : (w v : ℕ) → woken_of l ≡ Some w → wanted ≡ Some v → is_one_of o.waiters (Some w) ≡ true → is_one_of o.waiters (Some v) ≡ true → w ≡ v
      both w v is_w is_v has_w has_v = elim one [
        | inl none ↦ absurd (none_has [] w refl (subst (λ ns. is_one_of ns (Some w) ≡ true) none has_w))
        | inr r ↦
            let waits_w : is_waiter r.0 w s ≡ true = sym (alike.waits r.0 w) ∙ (sym (waiter_has r.0 w b) ∙ subst (λ ns. is_one_of ns (Some w) ≡ true) r.1 has_w) in
            let waits_v : is_waiter r.0 v s ≡ true = sym (alike.waits r.0 v) ∙ (sym (waiter_has r.0 v b) ∙ subst (λ ns. is_one_of ns (Some v) ≡ true) r.1 has_v) in
            let f : WakesFirst p s w = if_some (WakesFirst p s) (woken_of l) w is_w first.waiter in
            let same : r.0 ≡ f.set = waits_one r.0 f.set (place_of w s) waits_w f.waits in
            wanted_is_woken p s w v f (wants v is_v) (subst (λ x. is_waiter x v s ≡ true) same waits_v)
      ]

      by : (w v : Option ℕ) → woken_of l ≡ w → wanted ≡ v → is_one_of o.waiters w ≡ true → is_one_of o.waiters v ≡ true → w ≡ v
      by None None is_w is_v has_w has_v = refl
      by (Some w) None is_w is_v has_w has_v = absurd (none_has o.waiters w has_v has_w)
      by None (Some v) is_w is_v has_w has_v = absurd (none_has o.waiters v has_w has_v)
      by (Some w) (Some v) is_w is_v has_w has_v = ap (λ n. Some n) (both w v is_w is_v has_w has_v)

  -- ---- The member

  module _ (n : ℕ) (own : (o.members ≡ [] → ⊥) → IsOwn n l) (names : NamesKnown s) (works : WorksKnown s) where
    one_handle : (i j h k : ℕ) (sub : Subtask) → subtask_at i h s ≡ Some sub → subtask_at j k s ≡ Some sub → h ≡ k
    one_handle i j h k (subtask.Guest q) at_h at_k = same_Some h k (sym (names.there i h q at_h) ∙ names.there j k q at_k)
    one_handle i j h k (subtask.Host q) at_h at_k = same_Some h k (sym (works.there i h q at_h) ∙ works.there j k q at_k)

    -- the handle names a subtask, which is ready in the set
    found : (i x h : ℕ) → names_ready i x b h ≡ true → (sub : Subtask) × ((subtask_at i h s ≡ Some sub) × (is_ready_member x sub s ≡ true))
    found i x h ready = by (subtask_at i h b) refl ready
      where
        by : (q : Option Subtask) → subtask_at i h b ≡ q → option_map_or (λ sub. is_ready_member x sub b) q false ≡ true → (sub : Subtask) × ((subtask_at i h s ≡ Some sub) × (is_ready_member x sub s ≡ true))
        by None is ready = absurd (cc)
        by (Some sub) is ready = (sub, (sym (alike.named i h) ∙ is, sym (alike.ready x sub) ∙ ready))

    pub member_is : OneTaken n b o → (wanted : Option ℕ) → ((h : ℕ) → wanted ≡ Some h → p.member ≡ subtask_at (instance_of n s) h s) → is_one_of o.members (member_of l) ≡ true → is_one_of o.members wanted ≡ true → member_of l ≡ wanted
    unfolding WantedIsTaken
    member_is one wanted wants shown fits = by (member_of l) wanted refl refl shown fits
      where
        both : (h k : ℕ) → member_of l ≡ Some h → wanted ≡ Some k → is_one_of o.members (Some h) ≡ true → is_one_of o.members (Some k) ≡ true → h ≡ k
        both h k is_h is_k has_h has_k = elim one [
          | inl none ↦ absurd (none_has [] h refl (subst (λ ns. is_one_of ns (Some h) ≡ true) none has_h))
          | inr r ↦
              let some : (o.members ≡ [] → ⊥) = λ none. none_has [] h refl (subst (λ ns. is_one_of ns (Some h) ≡ true) none has_h) in
              let i = instance_of n s in
              let home : instance_of n b ≡ i = alike.instance n in
              let mine = found i r.0 h (subst (λ j. names_ready j r.0 b h ≡ true) home (sym (member_has (instance_of n b) r.0 b h) ∙ subst (λ ns. is_one_of ns (Some h) ≡ true) r.1 has_h)) in
              let other = found i r.0 k (subst (λ j. names_ready j r.0 b k ≡ true) home (sym (member_has (instance_of n b) r.0 b k) ∙ subst (λ ns. is_one_of ns (Some k) ≡ true) r.1 has_k)) in
              let e = taken_member l h is_h in
              let thread : e.0.0 ≡ n = own some e.0 e.1.0 in
              let f : TakesFirst p s (instance_of e.0.0 s) e.0.1 = if_some (λ (d : ℕ × ℕ). TakesFirst p s (instance_of d.0 s) d.1) (taken_of l) e.0 e.1.0 first.member in
              let named : subtask_at i h s ≡ Some f.member = subst (λ j. subtask_at (instance_of j s) h s ≡ Some f.member) thread (subst (λ g. subtask_at (instance_of e.0.0 s) g s ≡ Some f.member) e.1.1 f.named) in
              let is_mine : mine.0 ≡ f.member = same_Some mine.0 f.member (sym mine.1.0 ∙ named) in
              let in_r : is_in_set r.0 (join_of f.member s) ≡ true = (and_parts _ _ (subst (λ sub. is_ready_member r.0 sub s ≡ true) is_mine mine.1.1)).0 in
              let in_f : is_in_set f.set (join_of f.member s) ≡ true = (and_parts _ _ f.ready).0 in
              let same : r.0 ≡ f.set = in_one r.0 f.set (join_of f.member s) in_r in_f in
              let taken : f.member ≡ other.0 = wanted_is_taken p s (instance_of e.0.0 s) e.0.1 other.0 f (wants k is_k ∙ other.1.0) (subst (λ x. is_ready_member x other.0 s ≡ true) same other.1.1) in
              one_handle i i h k other.0 (named ∙ ap (λ sub. Some sub) taken) other.1.0
        ]

        by : (h k : Option ℕ) → member_of l ≡ h → wanted ≡ k → is_one_of o.members h ≡ true → is_one_of o.members k ≡ true → h ≡ k
        by None None is_h is_k has_h has_k = refl
        by (Some h) None is_h is_k has_h has_k = absurd (none_has o.members h has_k has_h)
        by None (Some k) is_h is_k has_h has_k = absurd (none_has o.members k has_h has_k)
        by (Some h) (Some k) is_h is_k has_h has_k = ap (λ m. Some m) (both h k is_h is_k has_h has_k)
