-- A thread has what its direct call returned from that call's exit to its answer: along the primitives of a step.
use Rattle.laws_states.proofs.Primitives.{after_primitive, Allowed, along, ap, arith, base_at, Core, direct_return, EndPrimitives, op_progress_of, OpProgress, inl, inr, is_answered, Label, MayCome, None, op_came, ops_of, Option, plain, plain_scene, Queues, refl, Scene, Setting, Some, State, task_of, TaskLabel, true, under_of, Walk, Walked, Primitive, ℕ, ⊎_elim, ◌≡◌, ◌⊎◌}
use Rattle.laws_states.proofs.OnceLemmas.{HasValue, ReturnStep}

-- a direct call that returns is read beside the marks
return_at : (s : Core) (q : Queues) (l : Label) (o : Option (ℕ × ℕ)) → direct_return (record s { queues = q }) l ≡ o → direct_return s l ≡ o
unfolding under_of
return_at s q (Label.Task (TaskLabel.Exit n)) o h = h
return_at s q l o h = h

abbrev value_in : OpProgress → Option ℕ
value_in (OpProgress.Answered v) = Some v
value_in _ = None

-- the thread's direct call returns to it in this step
abbrev Returns : Scene → ℕ → Type 0
Returns a n = (k : ℕ) × (direct_return a.base a.label ≡ Some (n, k))

value_primitive : (a : Scene) (w : Primitive) (s : Core) → Allowed a w s → (n : ℕ) → HasValue n (after_primitive w s) → HasValue n s ⊎ Returns a n
value_primitive a w s ok n has = by (op_progress_of n (after_primitive w s)) refl has
  where
    come : (v : ℕ) (g : OpProgress) → MayCome a n g s → value_in g ≡ Some v → Returns a n
    come v (OpProgress.Answered u) may is = (task_of may.0 a.base, may.1.1.1.1)
    come v g may is = absurd (cc)

    by : (f : OpProgress) → op_progress_of n (after_primitive w s) ≡ f → is_answered f ≡ true → HasValue n s ⊎ Returns a n
    by (OpProgress.Answered v) at is = ⊎_elim (λ was. inl (grind (arith, was))) (λ g. inr (come v g.0 g.1.0 g.1.1))
        (op_came value_in v w s ok n refl (ap value_in at))
    by f at is = absurd (cc)

module _ (x : Setting) (s : State) (l : Label) (t : State) (w : Walked x s l t) where
  abbrev a : Scene
  a = plain_scene x s l w.next

  walk : Walk a s.core t.core
  walk = plain {ops = ops_of x.component s.core} x s l w.next (λ c. Walk c s.core t.core) w.walk

  primitives : EndPrimitives a t.core
  primitives = plain {ops = ops_of x.component s.core} x s l w.next (λ b. EndPrimitives b t.core) w.ends.says

  value_came : (n : ℕ) → HasValue n t.core → HasValue n s.core ⊎ Returns a n
  value_came n = along (λ u. HasValue n u → HasValue n s.core ⊎ Returns a n)
      (λ v u ok q has. ⊎_elim q inr (value_primitive a v u ok n has)) inl walk

  pub return_step : ReturnStep (record { before = s; label = l; after = t })
  return_step = record {
    comes = λ n has. ⊎_elim inl (λ r. inr (r.0, return_at s.core (base_at s.turn s.core).queues l _ r.1)) (value_came n has);
    done = primitives.answers;
  }
