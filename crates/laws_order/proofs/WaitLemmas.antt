-- Who comes to wait on a set finds no ready member in it.
use Rattle.laws_states.proofs.CallsSteps.{codes_at}
use Rattle.machine_rules.specs.Scripts.{ops_of}
use Rattle.laws_places.proofs.{PlaceSteps.step_by, RestLemmas.ComesTo, RestLemmas.Rests, RestLemmas.is_rest, RestLemmas.trip_rests}
use Rattle.laws_places.proofs.CountedSteps.{move_none}
use Rattle.laws_places.proofs.OrderLemmas.{withdrawable}
use Rattle.laws_places.proofs.Laws.{arith, Bool, Core, false, has_ready_member, inl, InOrder, inr, is_open, Label, Place, place_of, plain, plain_scene, ready_same, refl, Scene, Setting, Some, State, sym, true, Turn, Walked, ℕ, ⊎_elim, ◌∙◌, ◌≡◌, ◌⊎◌}
use Rattle.machine_rules.proofs.WalkSteps.{step_walks}
use Rattle.laws_order.specs.WakesKept.{WaitsFindNothing}

module _ (x : Setting) (s : State) (l : Label) (t : State) (w : Walked x s l t) (h : InOrder x.component s) (on : is_open t.turn ≡ true) where
  abbrev a : Scene
  a = plain_scene x s l w.next

  live : w.next ≡ Turn.Over → ⊥
  live over = let e = w.turn in absurd (grind arith)

  -- who waits or is blocked was so before, or comes to it
  abbrev Comes : Scene → Core → Type 0
  Comes c u = (c.next ≡ Turn.Over → ⊥) → (n : ℕ) (q : Place) → is_rest q ≡ true → Rests q n u → Rests q n c.base ⊎ ComesTo c n q u

  comes : (n : ℕ) (q : Place) → is_rest q ≡ true → Rests q n t.core → Rests q n a.base ⊎ ComesTo a n q t.core
  comes = plain {ops = ops_of x.component s.core} x s l w.next (λ c. Comes c t.core) (step_by x s l t w h.in_place (withdrawable x s l t h w (codes_at x s h.codes)) Comes
      (λ c b n q u base first same f d ends live m p kind at. ⊎_elim (λ e. inl (sym (f.home m) ∙ e)) inr (trip_rests f d live m p kind at))) live

  found_nothing : (n y : ℕ) (c : Bool) → place_of n t.core ≡ Some (Place.Waiting y c) → (place_of n s.core ≡ Some (Place.Waiting y c)) ⊎ (has_ready_member y t.core ≡ false)
  found_nothing n y c at = ⊎_elim (λ was. inl was) (λ r. inr (ready_same y r.0 t.core r.1.1.0 r.1.1.1 ∙ move_none a n y c r.0 r.1.0)) (comes n (Place.Waiting y c) refl at)

pub waits_find_nothing : WaitsFindNothing
unfolding WaitsFindNothing
waits_find_nothing x s l t h step on = found_nothing x s l t (step_walks x s l t step) h on
