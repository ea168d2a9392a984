-- Order hangs on no borrows.
use Rattle.laws_order.proofs.OneMark.{call_fits}
use Rattle.laws_order.proofs.StayLemmas.{change_same, marks_awake, marks_in_order, read_same, unmarked_call}
use Rattle.laws_order.specs.Borrows.{BorrowsKeepOrder}
use Rattle.std.proofs.Common.{ap, inl, refl, sym, ◌∙◌}
use Rattle.std.specs.Option.{option_map_or}
use Rattle.std.specs.Prelude.{Bool, None, Option, Some, is_some, option_and_then, true, ℕ, ◌&&◌, ◌≡◌}
use Rattle.laws_states.specs.Order.{InOrderIf}
use Rattle.machine_data.specs.Core.{Core, State}
use Rattle.machine_data.specs.Maps.{change, get}
use Rattle.machine_data.specs.Read.{event_of, instance_of, is_in_set, is_ready_member, no_callee, task_of, undelivered_end}
use Rattle.machine_data.specs.Write.{on_call}
use Rattle.machine_data.specs.declared.component.Callee.{Callee}
use Rattle.machine_data.specs.declared.component.Component.{Component}
use Rattle.machine_data.specs.declared.records.Call.{Call}
use Rattle.machine_data.specs.declared.records.Join.{Join}
use Rattle.machine_data.specs.declared.records.Subtask.{Subtask}
use Rattle.laws_places.proofs.BlockedLemmas.{blocked_stay, ended_as}
use Rattle.laws_places.proofs.CountedSteps.{counted_stay}

module _ (k b : ℕ) where
  abbrev holding : Call → Call
  holding z = record z { borrows = b }

  abbrev unlent : Call → Call
  unlent z = record z { borrows = 0 }

  abbrev lent : Core → Core
  lent s = record s { calls = change k holding s.calls }

  -- a reading that hangs on no borrows is the same
  read_lent : {X : Type 0} (s : Core) (r : Option Call → X) → ((z : Call) → r (Some (unlent z)) ≡ r (Some z)) → (j : ℕ) → r (get (lent s).calls j) ≡ r (get s.calls j)
  read_lent s r h j = read_same unlent (get (lent s).calls j) (get s.calls j) (change_same unlent k holding s.calls (λ z. refl) j) r h

  pub same_instance : (s : Core) (n : ℕ) → instance_of n (lent s) ≡ instance_of n s
  same_instance s n = ap (λ (f : Callee). f.instance) (read_lent s (λ (q : Option Call). option_map_or (λ (z : Call). z.callee) q no_callee) (λ z. refl) (task_of n s))

  untold : (s : Core) (sub : Subtask) → undelivered_end (event_of sub s) ≡ None → undelivered_end (event_of sub (lent s)) ≡ None
  untold s (Subtask.Guest j) none = read_lent s (λ (q : Option Call). undelivered_end (option_and_then (λ (z : Call). z.event) q)) (λ z. refl) j ∙ none
  untold s (Subtask.Host i) none = none

  ready : (s : Core) (y : ℕ) (sub : Subtask) → is_ready_member y sub (lent s) ≡ true → is_ready_member y sub s ≡ true
  ready s y (Subtask.Guest j) on = sym (read_lent s
      (λ (q : Option Call). is_in_set y (option_map_or (λ (z : Call). z.join) q Join.Nowhere) && is_some (option_and_then (λ (z : Call). z.event) q)) (λ z. refl) j) ∙ on
  ready s y (Subtask.Host i) on = on

  pub lent_in_order : (g : Bool) (c : Component) (x : State) → InOrderIf g c x → InOrderIf g c (record x { core = lent x.core })
  lent_in_order g c x o =
      let s = x.core in
      let calls = change_same unmarked_call k holding s.calls (λ z. refl) in
      let fits = call_fits o k holding (λ z. refl) (λ z was. record {
        uncancelled = λ on. on;
        awaited = λ n far on. on;
        delivered = λ sync off. off;
        joins = λ y at. inl at;
        watched = λ n far on. on;
        told = λ before. before;
      }) in
      marks_in_order c x g o (change k holding s.calls) s.works calls (λ i. refl) fits x.main x.turn o.in_place.runs g
      (λ e. marks_awake c x g o (change k holding s.calls) s.works calls (λ i. refl) x.turn
      (blocked_stay (λ n sub at. at) (untold s) (λ sub live. ended_as sub s (lent s) refl ∙ live) (o.awake e).blocked)
      (counted_stay (λ y j on. on) (ready s) (λ y j on. on) (o.awake e).counted) (o.awake e))

pub borrows_keep_order : BorrowsKeepOrder
unfolding BorrowsKeepOrder on_call
borrows_keep_order c s k n o = lent_in_order k n _ c s o
