-- Order stays with an instance more: whose number wasn't given, so that nothing names it, nobody is held in it, and no handle is
-- there.
use Rattle.core_makes.specs.Instances.{with_instance}
use Rattle.laws_order.proofs.StayLemmas.{beside_in_order}
use Rattle.std.proofs.Common.{ap, arith, refl, subst, sym, ◌∙◌}
use Rattle.std.specs.Option.{option_map_or}
use Rattle.std.specs.Prelude.{Bool, Option, false, if◌then◌else◌, is_some, None, option_and_then, Some, true, ℕ, ◌==◌, ◌≡◌, ◌≤◌}
use Rattle.laws_states.specs.Order.{is_open, InOrder, TableKept}
use Rattle.machine_data.proofs.MapLemmas.{get-insert_same}
use Rattle.machine_data.specs.Core.{Core, Main, NameTable, no_handles, untouched}
use Rattle.machine_data.specs.Maps.{Records, get, get-empty, get-insert, insert, size}
use Rattle.machine_data.specs.Read.{named_by}
use Rattle.machine_data.specs.declared.component.Component.{Component}
use Rattle.machine_data.specs.declared.records.Instance.{Instance}
use Rattle.machine_data.specs.declared.records.Named.{Named}
use Rattle.machine_data.specs.declared.records.Turn.{Turn}
use Rattle.machine_rules.proofs.StandLemmas.{by_number}
use Rattle.ops_turns.specs.Turn.{CoreInOrder, state_at}

module _ (s : Core) (fresh : get s.instances (size s.instances) ≡ None) (unnamed : get s.handles (size s.instances) ≡ None) where
  abbrev n : ℕ
  n = size s.instances

  abbrev more : Core
  more = record s {
    instances = insert s.instances n untouched;
    handles = insert s.handles n no_handles;
    thread_handles = insert s.thread_handles n no_handles;
  }

  -- what is read there and elsewhere
  at_new : {X : Type 0} (m : Records X) (x : X) (i : ℕ) → i ≡ n → get (insert m n x) i ≡ Some x
  at_new m x i is = ap (get (insert m n x)) is ∙ get-insert_same m n x

  elsewhere : {X : Type 0} (m : Records X) (x : X) (i : ℕ) → (i == n) ≡ false → get (insert m n x) i ≡ get m i
  elsewhere m x i other = get-insert m n x i ∙ ap (λ b. if b then Some x else get m i) other

  -- a reading of the instances whose default is that of a new one
  reads : {Y : Type 0} (f : Instance → Y) (y : Y) → f untouched ≡ y → (i : ℕ) → option_map_or f (get more.instances i) y ≡ option_map_or f (get s.instances i) y
  reads f y same i = by_number i n _
      (λ is. ap (λ o. option_map_or f o y) (at_new s.instances untouched i is) ∙ (same ∙ sym (ap (λ o. option_map_or f o y) (ap (get s.instances) is ∙ fresh))))
      (λ other. ap (λ o. option_map_or f o y) (elsewhere s.instances untouched i other))

  named : (i h : ℕ) → named_by more.handles i h ≡ named_by s.handles i h
  named i h = by_number i n _
      (λ is. ap at (at_new s.handles no_handles i is) ∙ (get-empty h ∙ sym (ap at (ap (get s.handles) is ∙ unnamed))))
      (λ other. ap at (elsewhere s.handles no_handles i other))
    where
      at : Option (NameTable Named) → Option Named
      at = option_and_then (λ (t : NameTable Named). get t.live h)

  kept_none : TableKept (no_handles {X = Named})
  kept_none = record {
    live = λ h e. let no : false ≡ true = sym (ap is_some (get-empty {X = Named} h)) ∙ e in absurd (cc);
    freed = λ h e. absurd (let low : 1 ≤ 0 = e in omega (arith, low));
    once = λ h. omega arith;
  }

  tables : ((i : ℕ) (t : NameTable Named) → get s.handles i ≡ Some t → TableKept t) → (i : ℕ) (t : NameTable Named) → get more.handles i ≡ Some t → TableKept t
  tables kept i t at = by_number i n _
      (λ is. let here : Some no_handles ≡ Some t = sym (at_new s.handles no_handles i is) ∙ at in
      subst (λ (u : NameTable Named). TableKept u) (same no_handles t here) kept_none)
      (λ other. kept i t (sym (elsewhere s.handles no_handles i other) ∙ at))
    where
      same : (t u : NameTable Named) → Some t ≡ Some u → t ≡ u
      same t u e = cc

  more_in_order : (c : Component) (p : Turn) (m : Main) → InOrder c (state_at s m p) → InOrder c (state_at more m p)
  more_in_order c p m o = beside_in_order c (state_at s m p) (is_open p) o more (record {
    threads = λ n. refl;
    calls = λ k. refl;
    works = λ i. refl;
    named = named;
    tables = tables;
    enters = reads (λ (r : Instance). r.do_not_enter) false refl;
    presses = reads (λ (r : Instance). r.backpressure) 0 refl;
  })

-- what was there is there with one more
there_more : {X : Type 0} (m : Records X) (n i : ℕ) (x : X) → is_some (get m i) ≡ true → is_some (get (insert m n x) i) ≡ true
there_more m n i x there = ap is_some (get-insert m n x i) ∙ by (i == n)
  where
    by : (b : Bool) → is_some (if b then Some x else get m i) ≡ true
    by true = refl
    by false = there

-- an instance more keeps order
pub instance_keeps : (s : Core) → get s.instances (size s.instances) ≡ None → get s.handles (size s.instances) ≡ None → (c : Component) (p : Turn) →
    CoreInOrder c p s → CoreInOrder c p (with_instance s)
unfolding with_instance
instance_keeps s fresh unnamed c p in_turn = record {
  order = λ m. more_in_order s fresh unnamed c p m (in_turn.order m);
  there = λ i below. there_more s.instances (size s.instances) i untouched (in_turn.there i below);
  handles = λ i below. there_more s.handles (size s.instances) i no_handles (in_turn.handles i below);
}
