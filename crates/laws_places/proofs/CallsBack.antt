-- A thread whose turn comes as the one on top of it is gone is inside of no call.
use Rattle.laws_places.proofs.Laws.{after_primitive, arith, Collapses, Core, Enter, false, get, get-change, GoesBack, op_progress_of, OpProgress, is_none, IsRunner, Lands, LandsAt, MayLand, MayMove, Move, nat_tests, None, not_main, on_thread, one_runner, Option, Place, place_of, Places, Placing, Quits, Remains, Scene, set_op_progress, Some, Stay, subtask_under_way, sym, Trip, Turn, ℕ, ◌∙◌, ◌≡◌}
use Rattle.laws_places.proofs.PlaceLaw.{covered_still, Frame, no_cover, runner_there, stay_stand}

-- who comes to a place and runs on is the runner, where that is there
move_next : {a : Scene} (j : ℕ) (r : Place) (s : Core) (k : ℕ) → a.next ≡ Turn.Run k → MayMove a j r s →
    ((i : ℕ) → IsRunner a i → is_none (get s.threads i) ≡ false) → IsRunner a k
move_next j r s k to ok there = grind (arith, there)

answered_apart : (n k v : ℕ) (s : Core) → n ≡ k → subtask_under_way (op_progress_of k (set_op_progress n (OpProgress.Answered v) s)) ≡ None
unfolding set_op_progress on_thread
answered_apart n k v s same = grind (arith, nat_tests, get-change)

module _ {a : Scene} {b : Core} {n : ℕ} {q : Option Place} (f : Frame a b n q) (k m : ℕ) (at : place_of k a.base ≡ Some (Place.Under m))
    (to : a.next ≡ Turn.Run k) where
  -- it isn't the runner
  apart : IsRunner a k → ⊥
  apart is = no_cover f k m is at

  lands_apart : (p : Placing) (s : Core) → MayLand a p s → Stay a b s → ⊥
  lands_apart (Move j r) s ok c = apart (move_next j r s k to ok (λ i is. runner_there f i s is c))
  lands_apart (Enter j i) s ok c =
      let one = one_runner i k (sym ok.1.0 ∙ to) in
      let new = ok.1.1.1.0 in
      let still = covered_still a (stay_stand f.follows c) k m at in absurd (grind arith)
  lands_apart p s ok c = absurd (grind arith)

  pub back_apart : {t : Core} → Trip a b t → subtask_under_way (op_progress_of k t) ≡ None
  back_apart (Remains t c still on) =
      let r = f.running k (still k to) in let home = f.home k in let here = f.follows.start.here in absurd (grind arith)
  back_apart (Lands s p c ok fit halts) = absurd (lands_apart p s ok c)
  back_apart (LandsAt s p j h c ok fit comes halts) = absurd (lands_apart p s ok c)
  back_apart (Quits s t j c leave d halts) = not_main k (sym leave.1.0 ∙ to)
  back_apart (GoesBack s t j i v c is runs next under back d ok) =
      answered_apart i k v (after_primitive (Places (Move i Place.Running)) t) (one_runner i k (sym next ∙ to))
  back_apart (Collapses t over c) = absurd (grind arith)
