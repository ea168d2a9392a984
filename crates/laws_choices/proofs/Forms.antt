-- The forms of rules, and what each chooses among.
use Rattle.laws_choices.proofs.ListLemmas.{has_not_nil, member_has, no_members, one_is_none}
use Rattle.laws_choices.specs.Chooses.{Chooses, IsLawful, IsUnordered, MayCome, ReleasesOnce, ShowsChoice, hides, no_choice}
use Rattle.laws_choices.specs.Offer.{Chosen, FitsOffer, Offer, is_one_of, shown}
use Rattle.laws_choices.specs.Offers.{handles_of, names_ready, nothing, of_found, releases, takes_of, unless}
use Rattle.std.proofs.Common.{ap, ap₂, arith, refl, subst, sym, ◌∙◌}
use Rattle.std.proofs.lemmas.Bool.Decides.{nat_tests}
use Rattle.std.proofs.lemmas.List.{nil_from_length}
use Rattle.std.proofs.lemmas.List.Sorted.{IsPermutation-refl, length_permutation}
use Rattle.std.specs.Option.{option_map_or}
use Rattle.std.specs.Prelude.{Bool, IsPermutation, List, None, Option, Some, [], false, filter, if◌then◌else◌, is_some, length, option_and_then, true, ℕ, ◌≡◌, ◌∷◌}
use Rattle.machine_data.specs.Core.{Core}
use Rattle.machine_data.specs.Labels.{Choice, choice_of}
use Rattle.machine_data.specs.Moves.{PickedEvent, PickedMember, NothingPicked, PickedTaskEvent, picked_event, picked_event_after_own, picked_member, picked_task_event_of}
use Rattle.machine_data.specs.Read.{has_ready_member, instance_of, is_nil, is_ready_member, subtask_at, task_of}
use Rattle.machine_data.specs.declared.records.Subtask.{Subtask}
use Rattle.machine_data.specs.declared.trap.Trap.{Trap}
use Rattle.machine_data.specs.declared.trap.Trap.TheVariants as trap
use Rattle.machine_data.specs.declared.statuses.TaskEvent.{TaskEvent}
use Rattle.machine_rules.specs.Progress.{Asks, Fails, Continues, Never, OneOf, Ordered, Progress, Stops, Traps, may, or_never, or_trap, trap_if}
use Rattle.machine_rules.specs.Sets.{chosen}
use Rattle.machine_rules.specs.Step.{is_among}

abbrev pub choosing : Option ℕ → Option ℕ → Choice
choosing w m = record { woken = w; member = m }

-- as `Chooses`, of a rule that is given a waiter and a member
pub record Picks (o : Offer) (row : Option ℕ → Option ℕ → Progress) : Type 0 where
  pub only : (c : Chosen) → MayCome c (row c.waiter c.member) → FitsOffer c o
  pub each : (v k : Option ℕ) (c : Chosen) → IsLawful (row v k) → FitsOffer c o → MayCome c (row c.waiter c.member)
  pub once : (v k : Option ℕ) → ReleasesOnce (row v k)
  pub takes : (v k w m : Option ℕ) → hides (row v k) ≡ true → row w m ≡ row v k

pub chooses : {o : Offer} {row : Choice → Progress} → Picks o (λ w m. row (choosing w m)) → Chooses o row
chooses p = record {
  only = λ c h. p.only c h;
  each = λ b c h fit. p.each b.woken b.member c h fit;
  once = λ b. p.once b.woken b.member;
  takes = λ b d h. p.takes b.woken b.member d.woken d.member h;
}

-- ---- What a progress shows

pub shows_one : (a b : Choice) (p : Progress) → ShowsChoice a p → ShowsChoice b p → a ≡ b
shows_one a b (Continues l new m) h k = sym h ∙ k
shows_one a b (Stops l new) h k = sym h ∙ k
shows_one a b (Traps t) h k = sym h ∙ k
shows_one a b (Fails i) h k = sym h ∙ k
shows_one a b Never h k = absurd h
shows_one a b (Ordered ns next) h k = absurd h
shows_one a b (OneOf ns next) h k = absurd h
shows_one a b (Asks next) h k = absurd h

pub comes : (c : Chosen) (p : Progress) → ShowsChoice (shown c) p → c.release ≡ [] → MayCome c p
comes c (Continues l new m) h none = (h, none)
comes c (Stops l new) h none = (h, none)
comes c (Traps t) h none = (h, none)
comes c (Fails i) h none = (h, none)
comes c Never h none = absurd h
comes c (Ordered ns next) h none = absurd h
comes c (OneOf ns next) h none = absurd h
comes c (Asks next) h none = absurd h

-- what comes about without a release
pub came : (c : Chosen) (p : Progress) → IsUnordered p → MayCome c p → ShowsChoice (shown c) p × (c.release ≡ [])
came c (Continues l new m) un h = h
came c (Stops l new) un h = h
came c (Traps t) un h = h
came c (Fails i) un h = h
came c Never un h = h
came c (Ordered ns next) un h = absurd un
came c (OneOf ns next) un h = absurd un
came c (Asks next) un h = absurd un

pub unordered : (a : Choice) (p : Progress) → ShowsChoice a p → IsUnordered p
unordered a (Continues l new m) h = tt
unordered a (Stops l new) h = tt
unordered a (Traps t) h = tt
unordered a (Fails i) h = tt
unordered a Never h = absurd h
unordered a (Ordered ns next) h = absurd h
unordered a (OneOf ns next) h = absurd h
unordered a (Asks next) h = absurd h

pub releases_none : (p : Progress) → IsUnordered p → ReleasesOnce p
releases_none (Continues l new m) un = tt
releases_none (Stops l new) un = tt
releases_none (Traps t) un = tt
releases_none (Fails i) un = tt
releases_none Never un = tt
releases_none (Ordered ns next) un = absurd un
releases_none (OneOf ns next) un = absurd un
releases_none (Asks next) un = absurd un

-- nor does it take one of several threads
hides_none : (p : Progress) → IsUnordered p → hides p ≡ true → ⊥
hides_none (Continues l new m) un h = absurd (grind (arith, h))
hides_none (Stops l new) un h = absurd (grind (arith, h))
hides_none (Traps t) un h = absurd (grind (arith, h))
hides_none (Fails i) un h = absurd (grind (arith, h))
hides_none Never un h = absurd (grind (arith, h))
hides_none (Ordered ns next) un h = absurd un
hides_none (OneOf ns next) un h = absurd un
hides_none (Asks next) un h = absurd un

pub lawful : (c : Chosen) (p : Progress) → MayCome c p → IsLawful p
lawful c (Continues l new m) h = tt
lawful c (Stops l new) h = tt
lawful c (Traps t) h = tt
lawful c (Fails i) h = tt
lawful c Never h = absurd h.0
lawful c (Ordered ns next) h = tt
lawful c (OneOf ns next) h = tt
lawful c (Asks next) h = tt

-- ---- Nothing is offered

pub no_release : (ns order : List ℕ) → ns ≡ [] → IsPermutation ns order → order ≡ []
no_release ns order e perm = nil_from_length order (length_permutation ns order perm ∙ ap (λ ms. length ms) e)

pub shows_none : (c : Chosen) → FitsOffer c nothing → (no_choice ≡ shown c) × (c.release ≡ [])
shows_none c fit = (
  ap₂ choosing (sym (one_is_none [] c.waiter refl fit.waiter)) (sym (one_is_none [] c.member refl fit.member)),
  no_release [] c.release refl fit.release,
)

pub none_fits : (c : Chosen) → no_choice ≡ shown c → c.release ≡ [] → FitsOffer c nothing
none_fits c e none = record {
  waiter = ap (λ (a : Choice). is_one_of [] a.woken) (sym e);
  member = ap (λ (a : Choice). is_one_of [] a.member) (sym e);
  release = subst (λ ns. IsPermutation [] ns) (sym none) (IsPermutation-refl []);
}

-- it chooses nothing
abbrev pub IsSilent : Progress → Type 0
IsSilent (Continues l new m) = choice_of l ≡ no_choice
IsSilent (Stops l new) = choice_of l ≡ no_choice
IsSilent (Ordered ns next) = ⊥
IsSilent (OneOf ns next) = ⊥
IsSilent (Asks next) = ⊥
IsSilent _ = Unit {0}

silent_unordered : (p : Progress) → IsSilent p → IsUnordered p
silent_unordered (Continues l new m) h = tt
silent_unordered (Stops l new) h = tt
silent_unordered (Traps t) h = tt
silent_unordered (Fails i) h = tt
silent_unordered Never h = tt
silent_unordered (Ordered ns next) h = absurd h
silent_unordered (OneOf ns next) h = absurd h
silent_unordered (Asks next) h = absurd h

silent_shows : (ch : Choice) (p : Progress) → IsSilent p → ShowsChoice ch p → no_choice ≡ ch
silent_shows ch (Continues l new m) h k = sym h ∙ k
silent_shows ch (Stops l new) h k = sym h ∙ k
silent_shows ch (Traps t) h k = k
silent_shows ch (Fails i) h k = k
silent_shows ch Never h k = absurd k
silent_shows ch (Ordered ns next) h k = absurd k
silent_shows ch (OneOf ns next) h k = absurd k
silent_shows ch (Asks next) h k = absurd k

silent_each : (ch : Choice) (p : Progress) → IsSilent p → IsLawful p → no_choice ≡ ch → ShowsChoice ch p
silent_each ch (Continues l new m) h lawful e = h ∙ e
silent_each ch (Stops l new) h lawful e = h ∙ e
silent_each ch (Traps t) h lawful e = e
silent_each ch (Fails i) h lawful e = e
silent_each ch Never h lawful e = absurd lawful
silent_each ch (Ordered ns next) h lawful e = absurd h
silent_each ch (OneOf ns next) h lawful e = absurd h
silent_each ch (Asks next) h lawful e = absurd h

pub silent : (p : Progress) → IsSilent p → Picks nothing (λ w m. p)
silent p h = record {
  only = λ c k. let r = came c p (silent_unordered p h) k in none_fits c (silent_shows (shown c) p h r.0) r.1;
  each = λ v k c lawful fit. let r = shows_none c fit in comes c p (silent_each (shown c) p h lawful r.0) r.1;
  once = λ v k. releases_none p (silent_unordered p h);
  takes = λ v k w m it. refl;
}

-- ---- Traps, and what may not be found

pub trapped : {o : Offer} {row : Option ℕ → Option ℕ → Progress} (b : Bool) (t : Trap) → Picks o row → Picks (unless b o) (λ w m. trap_if b t (row w m))
trapped true t p = silent (Traps t) tt
trapped false t p = p

pub found : {X : Type 0} {o : X → Offer} {row : X → Option ℕ → Option ℕ → Progress} (a : Option X) (t : Trap) → ((x : X) → Picks (o x) (row x)) →
    Picks (of_found a o) (λ w m. or_trap a t (λ x. row x w m))
found None t p = silent (Traps t) tt
found (Some x) t p = p x

-- ---- A release

pub released : (held : List ℕ) (next : List ℕ → Progress) → ((order : List ℕ) → ShowsChoice no_choice (next order)) →
    Picks (releases held nothing) (λ w m. Ordered held next)
released held next shows = record {
  only = λ c h.
      let fit = none_fits (record { waiter = c.waiter; member = c.member; release = [] }) (shows_one no_choice (shown c) (next c.release) (shows c.release) h.1) refl in
      record { waiter = fit.waiter; member = fit.member; release = h.0 };
  each = λ v k c lawful fit.
      let e = ap₂ choosing (sym (one_is_none [] c.waiter refl fit.waiter)) (sym (one_is_none [] c.member refl fit.member)) in
      (fit.release, subst (λ ch. ShowsChoice ch (next c.release)) e (shows c.release));
  once = λ v k. λ order. unordered no_choice (next order) (shows order);
  takes = λ v k w m it. absurd (grind (arith, it));
}

-- ---- One of several threads

among_is : (m : ℕ) (ns : List ℕ) → is_among m ns ≡ is_one_of ns (Some m)
among_is m [] = refl
among_is m (n ∷ ns) = grind (arith, nat_tests, among_is m ns)

-- a cancel takes it, whatever is shown
pub one_taken : (ns : List ℕ) (next : ℕ → Progress) → is_nil ns ≡ false → ((m : ℕ) → ShowsChoice no_choice (next m)) →
    Picks (record { waiters = ns; members = []; held = [] }) (λ w m. OneOf ns next)
one_taken ns next some shows = record {
  only = λ c h. record {
    waiter = ap (λ (w : Option ℕ). is_one_of ns w) h.1.0.0 ∙ (sym (among_is h.0 ns) ∙ h.1.0.1);
    member = ap (λ (w : Option ℕ). is_one_of [] w) h.1.1.0;
    release = subst (λ order. IsPermutation [] order) (sym h.1.1.1.0) (IsPermutation-refl []);
  };
  each = λ v k c lawful fit. each c c.waiter refl fit;
  once = λ v k. shows;
  takes = λ v k w m it. refl;
}
  where
    each : (c : Chosen) (w : Option ℕ) → c.waiter ≡ w → FitsOffer c (record { waiters = ns; members = []; held = [] }) → MayCome c (OneOf ns next)
    each c None is fit = absurd (let none = ap (λ (w : Option ℕ). is_one_of ns w) (sym is) ∙ fit.waiter in grind (arith, none, some))
    each c (Some m) is fit = (
      m,
      (
        (is, among_is m ns ∙ (ap (λ (w : Option ℕ). is_one_of ns w) (sym is) ∙ fit.waiter)),
        (one_is_none [] c.member refl fit.member, (no_release [] c.release refl fit.release, shows m)),
      ),
    )

-- ---- A wake

-- waiters alone are offered
abbrev pub OfWaiters : Offer → Type 0
OfWaiters o = (o.members ≡ []) × (o.held ≡ [])

module _ (o : Offer) (of : OfWaiters o) where
  wake_fit : (c : Chosen) (w : Option ℕ) → is_one_of o.waiters w ≡ true → choosing w None ≡ shown c → IsPermutation o.held c.release → FitsOffer c o
  wake_fit c w fit e perm = record {
    waiter = ap (λ (a : Choice). is_one_of o.waiters a.woken) (sym e) ∙ fit;
    member = ap (λ (a : Choice). is_one_of o.members a.member) (sym e) ∙ ap is_nil of.0;
    release = perm;
  }

  wake_shown : (c : Chosen) (held : List ℕ) → FitsOffer c (releases held o) → choosing c.waiter None ≡ shown c
  wake_shown c held fit = ap (λ m. choosing c.waiter m) (sym (one_is_none o.members c.member of.0 fit.member))

  module _ (test : Option ℕ → Bool) (same : (w : Option ℕ) → test w ≡ is_one_of o.waiters w) where
    -- a waiter is woken
    pub woken : (row : Option ℕ → Progress) → ((w : Option ℕ) → ShowsChoice (choosing w None) (row w)) → Picks o (λ w m. may (test w) (row w))
    woken row shows = record {
      only = λ c h. only c (test c.waiter) refl h;
      each = λ v k c lawful fit. each c (test c.waiter) (same c.waiter ∙ fit.waiter) fit;
      once = λ v k. once v (test v);
      takes = λ v k w m it. absurd (apart v (test v) it);
    }
      where
        only : (c : Chosen) (b : Bool) → test c.waiter ≡ b → MayCome c (may b (row c.waiter)) → FitsOffer c o
        only c false is h = absurd h.0
        only c true is h =
            let r = came c (row c.waiter) (unordered _ (row c.waiter) (shows c.waiter)) h in
            wake_fit c c.waiter (sym (same c.waiter) ∙ is) (shows_one _ (shown c) (row c.waiter) (shows c.waiter) r.0)
            (subst (λ ns. IsPermutation o.held ns) (of.1 ∙ sym r.1) (IsPermutation-refl o.held))

        each : (c : Chosen) (b : Bool) → b ≡ true → FitsOffer c o → MayCome c (may b (row c.waiter))
        each c b is fit = subst (λ (d : Bool). MayCome c (may d (row c.waiter))) (sym is) (comes c (row c.waiter)
            (subst (λ ch. ShowsChoice ch (row c.waiter)) (wake_shown c o.held fit) (shows c.waiter))
            (no_release o.held c.release of.1 fit.release))

        once : (v : Option ℕ) (b : Bool) → ReleasesOnce (may b (row v))
        once v true = releases_none (row v) (unordered _ (row v) (shows v))
        once v false = tt

        apart : (v : Option ℕ) (b : Bool) → hides (may b (row v)) ≡ true → ⊥
        apart v true it = hides_none (row v) (unordered _ (row v) (shows v)) it
        apart v false it = absurd (grind (arith, it))

    -- a waiter is woken, and threads are released
    pub woken_released : (held : List ℕ) (next : Option ℕ → List ℕ → Progress) → ((w : Option ℕ) (order : List ℕ) → ShowsChoice (choosing w None) (next w order)) →
        Picks (releases held o) (λ w m. may (test w) (Ordered held (next w)))
    woken_released held next shows = record {
      only = λ c h. only c (test c.waiter) refl h;
      each = λ v k c lawful fit. each c (test c.waiter) (same c.waiter ∙ fit.waiter) fit;
      once = λ v k. once v (test v);
      takes = λ v k w m it. absurd (apart v (test v) it);
    }
      where
        only : (c : Chosen) (b : Bool) → test c.waiter ≡ b → MayCome c (may b (Ordered held (next c.waiter))) → FitsOffer c (releases held o)
        only c false is h = absurd h.0
        only c true is h =
            let e = shows_one _ (shown c) (next c.waiter c.release) (shows c.waiter c.release) h.1 in record {
              waiter = sym (same c.waiter) ∙ is;
              member = ap (λ (a : Choice). is_one_of o.members a.member) (sym e) ∙ ap is_nil of.0;
              release = h.0;
            }

        each : (c : Chosen) (b : Bool) → b ≡ true → FitsOffer c (releases held o) → MayCome c (may b (Ordered held (next c.waiter)))
        each c b is fit = subst (λ (d : Bool). MayCome c (may d (Ordered held (next c.waiter)))) (sym is)
            (fit.release, subst (λ ch. ShowsChoice ch (next c.waiter c.release)) (wake_shown c held fit) (shows c.waiter c.release))

        once : (v : Option ℕ) (b : Bool) → ReleasesOnce (may b (Ordered held (next v)))
        once v true = λ order. unordered _ (next v order) (shows v order)
        once v false = tt

        apart : (v : Option ℕ) (b : Bool) → hides (may b (Ordered held (next v))) ≡ true → ⊥
        apart v true it = absurd (grind (arith, it))
        apart v false it = absurd (grind (arith, it))

-- ---- A member

-- the rule takes the member that the handle names, and wakes none
pub record TakesMember (row : Option ℕ → Option ℕ → Progress) : Type 0 where
  pub shows : (h : ℕ) → ShowsChoice (choosing None (Some h)) (row None (Some h))
  pub only : (c : Chosen) (h : ℕ) → c.member ≡ Some h → MayCome c (row c.waiter c.member) → (c.waiter ≡ None) × (c.release ≡ [])
  pub once : (v k : Option ℕ) → IsUnordered (row v k)

-- the handle names a ready member
pub record Named (n x : ℕ) (s : Core) (m : Option ℕ) : Type 0 where
  pub handle : ℕ
  pub subtask : Subtask
  pub is : m ≡ Some handle
  pub names : subtask_at (instance_of n s) handle s ≡ Some subtask
  pub ready : is_ready_member x subtask s ≡ true

module _ (n x : ℕ) (s : Core) where
  abbrev members : List ℕ
  members = filter (names_ready (instance_of n s) x s) (handles_of (instance_of n s) s)

  abbrev member_of : Option ℕ → Option PickedEvent
  member_of m = picked_member x (option_and_then (λ h. subtask_at (instance_of n s) h s) m) s

  named_ready : (h : ℕ) → names_ready (instance_of n s) x s h ≡ true → Named n x s (Some h)
  named_ready h is = by (subtask_at (instance_of n s) h s) refl is
    where
      by : (o : Option Subtask) → subtask_at (instance_of n s) h s ≡ o → option_map_or (λ sub. is_ready_member x sub s) o false ≡ true → Named n x s (Some h)
      by None at ready = absurd (grind arith)
      by (Some sub) at ready = record { handle = h; subtask = sub; is = refl; names = at; ready = ready }

  named_has : {m : Option ℕ} → Named n x s m → is_one_of members m ≡ true
  named_has {m = m} d =
      ap (λ (k : Option ℕ). is_one_of members k) d.is
      ∙ (member_has (instance_of n s) x s d.handle ∙ (ap (λ o. option_map_or (λ sub. is_ready_member x sub s) o false) d.names ∙ d.ready))

  named_picked_event : {m : Option ℕ} → (d : Named n x s m) → member_of m ≡ Some (PickedMember d.subtask)
  named_picked_event {m = m} d =
      ap (λ (k : Option ℕ). member_of k) d.is
      ∙ (ap (λ o. picked_member x o s) d.names ∙ ap (λ (b : Bool). if b then Some (PickedMember d.subtask) else None) d.ready)

  found_named : (next : PickedEvent → Progress) (m : Option ℕ) → IsLawful (or_never (member_of m) next) → Named n x s m
  found_named next None h = absurd h
  found_named next (Some h) k = by (subtask_at (instance_of n s) h s) refl k
    where
      by : (o : Option Subtask) → subtask_at (instance_of n s) h s ≡ o → IsLawful (or_never (picked_member x o s) next) → Named n x s (Some h)
      by None at k = absurd k
      by (Some sub) at k = ready (is_ready_member x sub s) refl k
        where
          ready : (b : Bool) → is_ready_member x sub s ≡ b → IsLawful (or_never (if b then Some (PickedMember sub) else None) next) → Named n x s (Some h)
          ready true is k = record { handle = h; subtask = sub; is = refl; names = at; ready = is }
          ready false is k = absurd k

  -- the event of a ready member is taken
  pub member_taken : (next : Option ℕ → Option ℕ → PickedEvent → Progress) → ((sub : Subtask) → TakesMember (λ w m. next w m (PickedMember sub))) →
      Picks (takes_of n x s) (λ w m. or_never (member_of m) (next w m))
  member_taken next takes = record {
    only = λ c h.
        let d = found_named (next c.waiter c.member) c.member (lawful c _ h) in
        let r = (takes d.subtask).only c d.handle d.is (subst (λ o. MayCome c (or_never o (next c.waiter c.member))) (named_picked_event d) h) in record {
          waiter = ap (λ (w : Option ℕ). is_one_of [] w) r.0;
          member = named_has d;
          release = subst (λ ns. IsPermutation [] ns) (sym r.1) (IsPermutation-refl []);
        };
    each = λ v k c law fit. each (found_named (next v k) k law) c fit;
    once = λ v k. releases_none (or_never (member_of k) (next v k)) (once v k (member_of k) refl);
    takes = λ v k w m it. absurd (hides_none (or_never (member_of k) (next v k)) (once v k (member_of k) refl) it);
  }
    where
      named_of : {k : Option ℕ} → Named n x s k → (m : Option ℕ) → is_one_of members m ≡ true → Named n x s m
      named_of d None fit = absurd (let no = has_not_nil members d.handle (member_has (instance_of n s) x s d.handle ∙ (ap (λ o. option_map_or (λ sub. is_ready_member x sub s) o false) d.names ∙ d.ready)) in grind (arith, no, fit))
      named_of d (Some h) fit = named_ready h (sym (member_has (instance_of n s) x s h) ∙ fit)

      each : {k : Option ℕ} → Named n x s k → (c : Chosen) → FitsOffer c (takes_of n x s) → MayCome c (or_never (member_of c.member) (next c.waiter c.member))
      each d c fit =
          let e = named_of d c.member fit.member in
          let alone = one_is_none [] c.waiter refl fit.waiter in
          let it : choosing None (Some e.handle) ≡ shown c = ap₂ choosing (sym alone) (sym e.is) in
          subst (λ o. MayCome c (or_never o (next c.waiter c.member))) (sym (named_picked_event e)) (comes c (next c.waiter c.member (PickedMember e.subtask))
          (subst (λ (ch : Choice). ShowsChoice ch (next ch.woken ch.member (PickedMember e.subtask))) it ((takes e.subtask).shows e.handle))
          (no_release [] c.release refl fit.release))

      once : (v k : Option ℕ) (o : Option PickedEvent) → member_of k ≡ o → IsUnordered (or_never o (next v k))
      once v k None is = tt
      once v k (Some g) is = by k g is
        where
          by : (k : Option ℕ) (g : PickedEvent) → member_of k ≡ Some g → IsUnordered (next v k g)
          by k g at =
              let d = found_named (λ g. Traps trap.BadHandle) k (subst (λ o. IsLawful (or_never o (λ g. Traps trap.BadHandle))) (sym at) tt) in
              subst (λ (o : Option PickedEvent). IsUnordered (or_never o (next v k))) (sym (named_picked_event d) ∙ at) ((takes d.subtask).once v k)

  -- what a thread is given: its task event, that of a member, or nothing
  pub given : (by_callback : Bool) (o : Offer) (next : Option ℕ → Option ℕ → PickedEvent → Progress) → ((e : TaskEvent) → Picks o (λ w m. next w m (PickedTaskEvent e))) →
      Picks nothing (λ w m. next w m NothingPicked) → ((sub : Subtask) → TakesMember (λ w m. next w m (PickedMember sub))) →
      Picks (if is_some (picked_task_event_of by_callback (task_of n s) s) then o else takes_of n x s)
      (λ w m. or_never (picked_event by_callback (task_of n s) x (chosen n (choosing w m) s) s) (next w m))
  unfolding picked_event
  given by_callback o next own none takes = by_own (picked_task_event_of by_callback (task_of n s) s)
    where
      by_ready : (b : Bool) → has_ready_member x s ≡ b → Picks (takes_of n x s) (λ w m. or_never (if b then member_of m else Some NothingPicked) (next w m))
      by_ready true is = member_taken next takes
      by_ready false is = subst (λ p. Picks p (λ w m. next w m NothingPicked)) (sym (no_members n x s is)) none

      by_own : (a : Option TaskEvent) → Picks (if is_some a then o else takes_of n x s) (λ w m. or_never (picked_event_after_own a x (chosen n (choosing w m) s) s) (next w m))
      by_own (Some e) = own e
      by_own None = by_ready (has_ready_member x s) refl
