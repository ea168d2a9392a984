-- What a state in order gives to the thread whose entry is taken.
use Rattle.std.proofs.Common.{ap, arith, inl, inr, refl, subst, sym, ◌∙◌}
use Rattle.std.specs.Option.{option_map_or}
use Rattle.std.specs.Prelude.{Bool, List, None, Option, Some, false, is_some, option_and_then, true, [], ℕ, ◌≡◌, ◌<◌, ◌≤◌, ◌∷◌, ◌⊎◌}
use Rattle.laws_states.specs.Order.{InOrder, IsOf, is_host_of, set_of_place, stands}
use Rattle.machine_data.specs.Core.{Core, Queues, Unscripted}
use Rattle.machine_data.specs.Maps.{get}
use Rattle.machine_data.specs.Moves.{ready_why, why_of}
use Rattle.machine_data.specs.Read.{instance_of, next_entry, place_of, task_of, under_of}
use Rattle.machine_data.specs.Write.{set_high, set_low, set_switch}
use Rattle.machine_data.specs.declared.component.Component.{Component}
use Rattle.machine_data.specs.declared.records.Work.{Work}
use Rattle.core_primitives.specs.Live.{delivered_set}
use Rattle.machine_data.specs.declared.records.Entry.{Entry}
use Rattle.machine_data.specs.declared.records.Entry.TheVariants as entry
use Rattle.machine_data.specs.declared.records.Place.{Place}
use Rattle.machine_data.specs.declared.records.Place.TheVariants as place
use Rattle.machine_data.specs.declared.records.Subtask.{Subtask}
use Rattle.machine_data.specs.declared.records.Subtask.TheVariants as subtask
use Rattle.machine_data.specs.declared.records.Thread.{Thread}
use Rattle.machine_data.specs.declared.records.Turn.TheVariants as turn
use Rattle.machine_data.specs.declared.records.Why.{Why}
use Rattle.machine_data.specs.declared.records.Why.TheVariants as why
use Rattle.machine_data.specs.declared.statuses.Mark.{Mark}
use Rattle.machine_data.specs.declared.statuses.Mark.TheVariants as mark
use Rattle.ops_moves.specs.Idle.{IsJoinThere}
use Rattle.laws_states.proofs.MemberLemmas.{members_named}
use Rattle.ops_guests.proofs.TellingLemmas.{none_under}
use Rattle.ops_guests.specs.PickedEvents.{MembersNamed}
use Rattle.ops_guests.specs.Running.{Stand}
use Rattle.laws_places.proofs.Entries.{Cleared, First, next_first, popped_cleared}
use Rattle.machine_rules.proofs.MoveLemmas.{no_time, one_time}
use Rattle.machine_rules.proofs.StandLemmas.{Loose, by_number, eq_refl, left_placed, zero_one}
use Rattle.machine_rules.specs.Places.{HasPlace, Placed, entries, is_at_high, is_at_low, is_at_switch, is_behind_of, is_fresh, one_if, says, switch_entries, times}
use Rattle.machine_rules.specs.Takes.{popped, rest_of}
use Rattle.ops_turns.proofs.OrderLemmas.{positive, some_from}
use Rattle.ops_turns.specs.Taken.{FindsSet, Taken}
use Rattle.ops_turns.specs.Turn.{CoreInOrder, state_at}

abbrev IsAt : Mark → Option Place → Type 0
IsAt m o = (w : Why) × (o ≡ Some (place.Ready m w))

high_at : (p : Place) → 1 ≤ one_if (is_at_high p) → IsAt mark.High (Some p)
high_at (place.Ready mark.High w) h = (w, refl)
high_at (place.Ready mark.Switch w) h = absurd (omega arith)
high_at (place.Ready mark.Low w) h = absurd (omega arith)
high_at _ h = absurd (omega arith)

low_at : (p : Place) → 1 ≤ one_if (is_at_low p) → IsAt mark.Low (Some p)
low_at (place.Ready mark.Low w) h = (w, refl)
low_at (place.Ready mark.Switch w) h = absurd (omega arith)
low_at (place.Ready mark.High w) h = absurd (omega arith)
low_at _ h = absurd (omega arith)

switch_at : (p : Place) → 1 ≤ one_if (is_at_switch p) → IsAt mark.Switch (Some p)
switch_at (place.Ready mark.Switch w) h = (w, refl)
switch_at (place.Ready mark.High w) h = absurd (omega arith)
switch_at (place.Ready mark.Low w) h = absurd (omega arith)
switch_at _ h = absurd (omega arith)

says_at : (m : Mark) (test : Place → Bool) → ((p : Place) → 1 ≤ one_if (test p) → IsAt m (Some p)) → (o : Option Place) → 1 ≤ says test o → IsAt m o
says_at m test each None h = absurd (omega arith)
says_at m test each (Some p) h = each p h

first_stands : (n : ℕ) (es es' : List Entry) → es ≡ entry.Thread n ∷ es' → 1 ≤ entries n es
first_stands n es es' e = let x = ap (entries n) e in let y = ap one_if (eq_refl n) in omega (arith, x, y)

-- the thread is at the mark at which its entry comes first
ready_at : (m : Mark) (n : ℕ) (s : Core) → First m (entry.Thread n) s → HasPlace n s → IsAt m (place_of n s)
ready_at mark.Switch n s f h = says_at mark.Switch is_at_switch switch_at (place_of n s) (let x = h.switch in let y = ap (switch_entries n) (f.1.0 ∙ ap (λ (e : Entry). Some (named e)) (sym f.1.1)) in let z = ap one_if (eq_refl n) in omega (arith, x, y, z))
  where
    named : Entry → ℕ
    named (entry.Thread k) = k
    named _ = 0
ready_at mark.High n s f h = says_at mark.High is_at_high high_at (place_of n s) (let x = h.high in let y = first_stands n s.queues.high _ f in omega (arith, x, y))
ready_at mark.Low n s f h = says_at mark.Low is_at_low low_at (place_of n s) (let x = h.low in let y = first_stands n s.queues.low _ f in omega (arith, x, y))

one_or_none : (n k : ℕ) → times k (n ∷ []) ≤ 1
one_or_none n k = grind arith

-- the thread whose entry was taken is loose, and each other one has its place
popped_stand : (m : Mark) (w : Why) (n : ℕ) (s : Core) → First m (entry.Thread n) s → place_of n s ≡ Some (place.Ready m w) → ((k : ℕ) → HasPlace k s) → Stand n (place.Ready m w) [] (popped m s)
popped_stand m w n s front at all = record {
  here = c.places n ∙ at;
  once = one_or_none n;
  loose = λ k h. by_number k n (Loose k t) (λ e. subst (λ (j : ℕ). Loose j t) (sym e) (c.own (λ f. ap (says (is_behind_of f)) at))) (λ e. zero_one (no_time k n e) h);
  there = λ k h. zero_one refl h;
  placed = λ k h. by_number k n (HasPlace k t) (λ e. zero_one (subst (λ (j : ℕ). times j (n ∷ []) ≡ 0) e h) (one_time n)) (λ e. left_placed k s t (c.left k e) (c.places k) (all k));
  kept = λ k h. absurd (grind arith);
}
  where
    t : Core
    t = popped m s

    c : Cleared n s t
    c = (popped_cleared m n s front (all n)).0

pub popped_place : (m : Mark) (n : ℕ) (s : Core) → place_of n (popped m s) ≡ place_of n s
unfolding popped set_switch set_high set_low
popped_place mark.Switch n s = refl
popped_place mark.High n s = refl
popped_place mark.Low n s = refl

popped_under : (m : Mark) (n : ℕ) (s : Core) → under_of n (popped m s) ≡ under_of n s
unfolding popped set_switch set_high set_low under_of
popped_under mark.Switch n s = refl
popped_under mark.High n s = refl
popped_under mark.Low n s = refl

popped_join : (m : Mark) (n : ℕ) (s : Core) → ((sub : Subtask) → IsJoinThere sub s) → IsJoinThere (subtask.Guest (task_of n (popped m s))) (popped m s)
unfolding popped set_switch set_high set_low
popped_join mark.Switch n s all = all (subtask.Guest (task_of n s))
popped_join mark.High n s all = all (subtask.Guest (task_of n s))
popped_join mark.Low n s all = all (subtask.Guest (task_of n s))

module _ (c : Component) (ended : Bool) (s : Core) (in_turn : CoreInOrder c (turn.Take ended) s) (none : get s.threads 0 ≡ None) where
  order : InOrder c (state_at s Unscripted (turn.Take ended))
  order = in_turn.order Unscripted

  joined : (sub : Subtask) → IsJoinThere sub s
  joined sub x e = let j = order.joins_named.joins sub x e in some_from _ (get s.sets x) j.instance j.home

  -- nobody is under a thread whose start is
  bottom : (m : Mark) (w : Why) (n : ℕ) → place_of n s ≡ Some (place.Ready m w) → w ≡ why.Start → under_of n s ≡ None
  bottom m w n at start = none_under n s (λ k under. apart ((order.awake refl).free.under k n under))
    where
      fresh : is_fresh (place_of n s) ≡ true
      fresh = ap is_fresh (at ∙ ap (λ (v : Why). Some (place.Ready m v)) start)

      apart : (place_of n s ≡ None) ⊎ (is_fresh (place_of n s) ≡ false) → ⊥
      apart (inl e) = no_place (sym e ∙ at)
        where
          no_place : None ≡ Some (place.Ready m w) → ⊥
          no_place e = cc
      apart (inr e) = not_both (sym e ∙ fresh)
        where
          not_both : false ≡ true → ⊥
          not_both e = cc

  pub taken : (m : Mark) (n : ℕ) → next_entry s ≡ Some (m, entry.Thread n) → Taken m n (popped m s)
  taken m n next =
      let front = next_first s m (entry.Thread n) next in
      let at = ready_at m n s front (order.in_place.placed n) in
      let there = popped_place m n s ∙ at.1 in
      let stand = popped_stand m at.0 n s front at.1 order.in_place.placed in
      record {
        live = positive n s none (some_from (λ (t : Thread). t.place) (get s.threads n) (place.Ready m at.0) at.1);
        stands = subst (λ (w : Why). Stand n (place.Ready m w) [] (popped m s)) (sym (ap (λ (o : Option Place). option_map_or ready_why o why.Resumption) there)) stand;
        join = popped_join m n s joined;
        bottom = λ e. popped_under m n s ∙ bottom m at.0 n at.1 (sym (ap (λ (o : Option Place). option_map_or ready_why o why.Resumption) there) ∙ e);
      }

-- ---- The set of a delivery is there

delivered_place : (o : Option Place) (x : ℕ) → delivered_set (option_map_or ready_why o why.Resumption) ≡ Some x → option_and_then set_of_place o ≡ Some x
delivered_place o x e = grind arith

-- entries say nothing of members
queued_members : (q : Queues) (i x : ℕ) (s : Core) → MembersNamed i x s → MembersNamed i x (record s { queues = q })
queued_members q i x s h (subtask.Guest k) ready = h (subtask.Guest k) ready
queued_members q i x s h (subtask.Host j) ready = h (subtask.Host j) ready

module _ (c : Component) (ended : Bool) (s : Core) (in_turn : CoreInOrder c (turn.Take ended) s) where
  home : (n x : ℕ) → delivered_set (why_of n s) ≡ Some x → IsOf (instance_of n s) x s
  home n x e = (in_turn.order Unscripted).waits.by_place n x (delivered_place (place_of n s) x e)

  there : (n x : ℕ) → delivered_set (why_of n s) ≡ Some x → is_some (get s.sets x) ≡ true
  there n x e = some_from _ (get s.sets x) (instance_of n s) (home n x e)

  members : (n x : ℕ) → delivered_set (why_of n s) ≡ Some x → MembersNamed (instance_of n s) x s
  members n x e = let o = in_turn.order Unscripted in members_named s o.joins_named o.names o.works_known (instance_of n s) x (home n x e)

  pub finds : (m : Mark) (n : ℕ) → FindsSet n (popped m s)
  unfolding popped set_switch set_high set_low
  finds mark.Switch n = record { there = there n; members = λ x e. queued_members _ (instance_of n s) x s (members n x e) }
  finds mark.High n = record { there = there n; members = λ x e. queued_members _ (instance_of n s) x s (members n x e) }
  finds mark.Low n = record { there = there n; members = λ x e. queued_members _ (instance_of n s) x s (members n x e) }

-- ---- The entry of an ended host work

module _ (c : Component) (ended : Bool) (s : Core) (in_turn : CoreInOrder c (turn.Take ended) s) (none : get s.works 0 ≡ None) where
  known : InOrder c (state_at s Unscripted (turn.Take ended))
  known = in_turn.order Unscripted

  some_stands : (i : ℕ) (es es' : List Entry) → es ≡ entry.Host i ∷ es' → 1 ≤ stands (is_host_of i) es
  some_stands i es es' e = let x = ap (stands (is_host_of i)) e in let y = ap one_if (eq_refl i) in omega (arith, x, y)

  -- it is at high
  at_high : (m : Mark) (i : ℕ) → First m (entry.Host i) s → (m ≡ mark.High) × (1 ≤ stands (is_host_of i) s.queues.high)
  at_high mark.Switch i f = absurd (let e = f.1.1 in cc)
  at_high mark.High i f = (refl, some_stands i s.queues.high _ f)
  at_high mark.Low i f = absurd (let a = some_stands i s.queues.low _ f in let b = (known.works.low i).1 in omega (arith, a, b))

  -- the work is there
  pub host_live : (m : Mark) (i : ℕ) → next_entry s ≡ Some (m, entry.Host i) → 0 < i
  host_live m i next = by i (get s.works i) refl (at_high m i (next_first s m (entry.Host i) next)).1
    where
      by : (j : ℕ) (o : Option Work) → get s.works j ≡ o → 1 ≤ stands (is_host_of j) s.queues.high → 0 < j
      by j None e h = absurd (let b = (known.works.gone j e).1 in omega (arith, b, h))
      by ℕ.zero (Some w) e h = absurd (let x = sym none ∙ e in cc)
      by (ℕ.suc j) (Some w) e h = omega arith

  rest_entries : (k i : ℕ) (es es' : List Entry) → es ≡ entry.Host i ∷ es' → entries k (rest_of es) ≡ entries k es
  rest_entries k i es es' e = subst (λ (xs : List Entry). entries k (rest_of xs) ≡ entries k xs) (sym e) (omega arith)

  -- each thread has its place still
  pub host_placed : (m : Mark) (i : ℕ) → next_entry s ≡ Some (m, entry.Host i) → Placed (popped m s)
  unfolding popped set_high
  host_placed m i next = by m (next_first s m (entry.Host i) next) (at_high m i (next_first s m (entry.Host i) next)).0
    where
      by : (q : Mark) → First q (entry.Host i) s → q ≡ mark.High → Placed (popped q s)
      by mark.High f e = λ k. let h : HasPlace k s = known.in_place.placed k in record {
        number = h.number;
        behind = h.behind;
        switch = h.switch;
        high = rest_entries k i s.queues.high _ f ∙ h.high;
        low = h.low;
        callers = h.callers;
      }
      by mark.Switch f e = absurd (cc)
      by mark.Low f e = absurd (cc)

  pub host_joined : (m : Mark) (i : ℕ) → IsJoinThere (subtask.Host i) (popped m s)
  unfolding popped set_switch set_high set_low
  host_joined mark.Switch i x e = let j = known.joins_named.joins (subtask.Host i) x e in some_from _ (get s.sets x) j.instance j.home
  host_joined mark.High i x e = let j = known.joins_named.joins (subtask.Host i) x e in some_from _ (get s.sets x) j.instance j.home
  host_joined mark.Low i x e = let j = known.joins_named.joins (subtask.Host i) x e in some_from _ (get s.sets x) j.instance j.home
