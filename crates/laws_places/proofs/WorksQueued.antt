-- Host works have their entries, along the primitives of a step.
use Rattle.laws_places.proofs.Laws.{after_primitive, Allowed, arith, Bool, Core, Doing, doing_of, entries_for, get, High, inl, inr, is_stage_ended, MayAbort, MayRemoveWork, None, Option, option_map_or, refl, same_standing, SameWorks, Scene, Some, stage_of, stand_primitive, true, Primitive, Work, work_came, WorkCame, WorksQueued, WorksStand, ℕ, ◌∙◌, ◌≡◌, ◌≤◌}

pub stands_of : {s : Core} → WorksQueued s → WorksStand (Unit {0}) s
stands_of {s = s} q = record {
  low = λ i. let l = q.low i in grind arith;
  number = λ i there. q.made i (grind arith);
  high = λ i why. high i (get s.works i) refl;
}
  where
    high : (i : ℕ) (o : Option Work) → get s.works i ≡ o → High s i ≡ entries_for (doing_of i s)
    high i None is = let g = q.gone i is in grind arith
    high i (Some w) is = let e = q.each i w is in let p = e.push in let h = e.host in grind arith

queued_of : {s : Core} → WorksStand (Unit {0}) s → WorksQueued s
queued_of q = record {
  each = λ i w at. let h = q.high i (inr (inl tt)) in record { push = grind arith; host = grind arith };
  low = λ i. let l = q.low i in grind arith;
  made = λ i there. q.number i (grind arith);
  gone = λ i none. let h = q.high i (inr (inl tt)) in grind arith;
}

abbrev ended_in : Option Doing → Bool
ended_in o = option_map_or (λ (v : Doing). is_stage_ended v.stage) o true

module _ (a : Scene) (w : Primitive) (s : Core) (ok : Allowed a w s)
    (ends : (i : ℕ) → MayRemoveWork a i s → is_stage_ended (stage_of i s) ≡ true) (q : WorksQueued s) where
  pub works_primitive : WorksQueued (after_primitive w s)
  works_primitive = queued_of (stand_primitive a s (stands_of q) (λ i y. ends i) w ok)

  -- an end stays
  pub ended_primitive : (i : ℕ) → i ≤ s.made.works → is_stage_ended (stage_of i s) ≡ true → is_stage_ended (stage_of i (after_primitive w s)) ≡ true
  ended_primitive i below e = let there = still (work_came a s (stands_of q) (λ i y. ends i) w ok i) (grind arith) in grind arith
    where
      still : {h g : ℕ × ℕ} {o p : Option Doing} → WorkCame (Unit {0}) (MayAbort a i) a s (after_primitive w s).made.works i h g o p →
          ended_in o ≡ true → ended_in p ≡ true
      still came was = grind arith

pub others_move : (s t : Core) → SameWorks s t → t.works ≡ s.works → t.made.works ≡ s.made.works → WorksQueued s → WorksQueued t
others_move s t same works made q = let w = stands_of q in queued_of (record {
  low = λ i. same_standing i _ _ same.low ∙ w.low i;
  number = λ i there. rw made (w.number i (grind arith));
  high = λ i why. same_standing i s.queues.high t.queues.high same.high ∙ (rw works (w.high i (inr (inl tt))));
})
