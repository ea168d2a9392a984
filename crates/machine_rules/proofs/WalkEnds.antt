-- The end of a task as a chain of primitives.
use Rattle.machine_rules.proofs.Machine.{after_primitive, ap, arith, Bool, Call, CallEnd, Caller, caller_of, cancelled, Core, EndCall, EndTells, false, get, get-change, give_result, GiveResult, Goal, goal_of, if◌then◌else◌, is_over, is_some, is_told, nat_tests, on_call, on_thread, Option, option_map_or, published, Records, refl, result_given, returned, same_map, SaysEnd, Scene, set_end, set_event, set_register, set_result, SetRegister, SetResult, Some, Status, status_of_end, subst, Subtask, sym, task_of, TellsNever, TellsNow, told, true, Walk, ℕ, ◌∙◌, ◌≡◌}
use Rattle.machine_rules.proofs.{CallThreads.LastEnds, ChainLemmas.Keep, ChainLemmas.chain_if, FreeLemmas.published_frees, PlacingLemmas.shifted_calls, PlacingLemmas.shifted_task, PlacingLemmas.shifts_shifted, WalkMoves.ToldSpares, WalkMoves.ToldTo, WalkMoves.published_shifts, WalkMoves.shifted, WalkMoves.told_at, WalkMoves.told_shifts, WalkMoves.primitive}

given_told : (g : Goal) (f : Caller) (k v : ℕ) (e : CallEnd) (s : Core) → is_told k (result_given g f k v (set_end k e s)) ≡ is_told k s
unfolding set_end on_call give_result set_register on_thread set_result
given_told g f k v e s = grind (arith, nat_tests, get-change)

-- the chosen thread is the same
given_to : (g : Goal) (f : Caller) (k v : ℕ) (e : CallEnd) (w : Option ℕ) (s : Core) → ToldTo k w s → ToldTo k w (result_given g f k v (set_end k e s))
unfolding set_end on_call give_result set_register on_thread set_result
given_to g f k v e w s to told y is n at =
    let chosen = to (sym (given_told g f k v e s) ∙ told) y (grind (arith, nat_tests, get-change, is)) n at in grind (arith, nat_tests, get-change, chosen)

given_spares : (g : Goal) (f : Caller) (k v : ℕ) (e : CallEnd) (w : Option ℕ) (s : Core) → ToldSpares k w s → ToldSpares k w (result_given g f k v (set_end k e s))
unfolding set_end on_call give_result set_register on_thread set_result
given_spares g f k v e w s spare told y is none n =
    let free = spare (sym (given_told g f k v e s) ∙ told) y (grind (arith, nat_tests, get-change, is)) none n in grind (arith, nat_tests, get-change, free)

abbrev pub call_ends : ℕ → CallEnd → Core → Core
call_ends k e s = after_primitive (EndCall k e) s

-- where the end is told, the primitive sets both
ends_told : (k : ℕ) (e : CallEnd) (s : Core) → is_told k s ≡ true → (e ≡ CallEnd.StartCancelled → ⊥) →
    set_event (Subtask.Guest k) (Some (status_of_end e)) (set_end k e s) ≡ call_ends k e s
unfolding set_event set_end on_call
ends_told k e s told ran = ap (λ (m : Records Call). record s { calls = m }) (same_map _ _ (λ q. grind (arith, nat_tests, get-change)))

pub ends_untold : (k : ℕ) (e : CallEnd) (s : Core) → is_told k s ≡ false → set_end k e s ≡ call_ends k e s
unfolding set_end on_call
ends_untold k e s untold = ap (λ (m : Records Call). record s { calls = m }) (same_map _ _ (λ q. grind (arith, nat_tests, get-change)))

-- the event may be set before the result is given
told_given : (g : Goal) (f : Caller) (k v : ℕ) (e : Status) (s : Core) →
    set_event (Subtask.Guest k) (Some e) (result_given g f k v s) ≡ result_given g f k v (set_event (Subtask.Guest k) (Some e) s)
unfolding set_event on_call give_result set_register on_thread set_result
told_given Goal.Main f k v e s = refl
told_given (Goal.Register r) (Caller.Thread n) k v e s = refl
told_given Goal.Answer f k v e s = ap (λ (m : Records Call). record s { calls = m }) (same_map _ _ (λ q. grind (arith, nat_tests, get-change)))
told_given _ f k v e s = refl

given_over : (g : Goal) (f : Caller) (k v : ℕ) (e : CallEnd) (n : ℕ) (y : Status) (s : Core) →
    (task_of n (told_at k y (result_given g f k v (set_end k e s))) ≡ task_of n s) × (is_over k (told_at k y (result_given g f k v (set_end k e s))) ≡ true)
unfolding set_event set_end on_call give_result set_register on_thread set_result
given_over g f k v e n y s = (grind (arith, nat_tests, get-change), grind (arith, nat_tests, get-change))

pub ended_last : (n k : ℕ) (e : CallEnd) (s : Core) → task_of n s ≡ k → LastEnds n (set_end k e s)
unfolding set_end on_call
ended_last n k e s is u same gone = grind (arith, nat_tests, get-change, is)

pub returned_last : (n k v : ℕ) (w : Option ℕ) (s : Core) → ToldTo k w s → task_of n s ≡ k → LastEnds n (returned k v w s)
unfolding returned
returned_last n k v w s to is u same gone =
    let t = result_given (goal_of k s) (caller_of k s) k v (set_end k CallEnd.Returned s) in
    let d = shifts_shifted (told_shifts k Status.Returned w t (given_to (goal_of k s) (caller_of k s) k v CallEnd.Returned w s to)) in
    let over = given_over (goal_of k s) (caller_of k s) k v CallEnd.Returned n Status.Returned s in
    subst (λ (j : ℕ). is_over j (told k Status.Returned w t) ≡ true) (sym (shifted_task d n ∙ (over.0 ∙ is)))
    (ap (λ (m : Records Call). option_map_or (λ (c : Call). is_some c.«end») (get m k) true) (shifted_calls d) ∙ over.1)

module _ {a : Scene} {b : Core} where
  result_given_walks : (g : Goal) (f : Caller) (k v : ℕ) {s : Core} → goal_of k s ≡ g → SaysEnd a k Status.Returned → Keep a b s → Keep a b (result_given g f k v s)
  result_given_walks Goal.Main f k v at says c = primitive (GiveResult k v) (says, at) c
  result_given_walks (Goal.Register r) (Caller.Thread n) k v at says c = primitive (SetRegister n r v) tt c
  result_given_walks Goal.Answer f k v at says c = primitive (SetResult k (Some v)) tt c
  result_given_walks (Goal.Register r) Caller.Main k v at says c = c
  result_given_walks _ f k v at says c = c

  -- after the primitive that ends it
  ends_rest : (g : Goal) (f : Caller) (k v : ℕ) (e : CallEnd) (w : Option ℕ) (s : Core) → (e ≡ CallEnd.StartCancelled → ⊥) →
      ToldTo k w s → Keep a b (result_given g f k v (call_ends k e s)) → Keep a b (told k (status_of_end e) w (result_given g f k v (set_end k e s)))
  unfolding told
  ends_rest g f k v e w s ran to c =
      let t = result_given g f k v (set_end k e s) in
      let is = given_told g f k v e s in
      chain_if (is_told k t) (published (Subtask.Guest k) (status_of_end e) w t) t
      (λ told. shifted (published_shifts (Subtask.Guest k) (status_of_end e) w t refl (given_to g f k v e w s to told))
      (subst (λ (u : Core). Keep a b u) (sym (told_given g f k v (status_of_end e) (set_end k e s) ∙ ap (result_given g f k v) (ends_told k e s (sym is ∙ told) ran))) c))
      (λ untold. subst (λ (u : Core). Keep a b u) (sym (ap (result_given g f k v) (ends_untold k e s (sym is ∙ untold)))) c)

  -- where the end is told, who is blocked on the call goes on
  ends_tells : {r : Core} (g : Goal) (f : Caller) (k v : ℕ) (e : CallEnd) (w : Option ℕ) (s : Core) → (e ≡ CallEnd.StartCancelled → ⊥) →
      ToldTo k w s → ToldSpares k w s → b.threads ≡ a.base.threads → is_told k s ≡ is_told k a.base → Keep a b (result_given g f k v (call_ends k e s)) →
      Walk a (told k (status_of_end e) w (result_given g f k v (set_end k e s))) r → EndTells a r (Subtask.Guest k) (status_of_end e)
  unfolding told
  ends_tells {r = r} g f k v e w s ran to spare home base c d = by (is_told k t) refl d
    where
      t : Core
      t = result_given g f k v (set_end k e s)

      is : is_told k t ≡ is_told k s
      is = given_told g f k v e s

      by : (q : Bool) → is_told k t ≡ q → Walk a (if q then published (Subtask.Guest k) (status_of_end e) w t else t) r → EndTells a r (Subtask.Guest k) (status_of_end e)
      by true told d = TellsNow (Subtask.Guest k) (status_of_end e) (published_frees (Subtask.Guest k) (status_of_end e) w t home refl (given_to g f k v e w s to told) (given_spares g f k v e w s spare told)
          (subst (λ (u : Core). Keep a b u) (sym (told_given g f k v (status_of_end e) (set_end k e s) ∙ ap (result_given g f k v) (ends_told k e s (sym is ∙ told) ran))) c) d)
      by false untold d = TellsNever k (status_of_end e) (sym base ∙ (sym is ∙ untold))

  pub returned_tells : {r : Core} (k v : ℕ) (w : Option ℕ) (s : Core) → SaysEnd a k Status.Returned → ToldTo k w s → ToldSpares k w s → b.threads ≡ a.base.threads →
      is_told k s ≡ is_told k a.base → Keep a b (call_ends k CallEnd.Returned s) → Walk a (returned k v w s) r → EndTells a r (Subtask.Guest k) Status.Returned
  unfolding returned on_call
  returned_tells k v w s says to spare home base c d =
      ends_tells (goal_of k s) (caller_of k s) k v CallEnd.Returned w s (λ e. absurd (cc)) to spare home base (result_given_walks (goal_of k s) (caller_of k s) k v (grind (arith, nat_tests, get-change)) says c) d

  pub cancelled_tells : {r : Core} (k : ℕ) (w : Option ℕ) (s : Core) → ToldTo k w s → ToldSpares k w s → b.threads ≡ a.base.threads → is_told k s ≡ is_told k a.base →
      Keep a b (call_ends k CallEnd.ReturnCancelled s) → Walk a (cancelled k w s) r → EndTells a r (Subtask.Guest k) Status.ReturnCancelled
  unfolding cancelled
  cancelled_tells k w s to spare home base c d = ends_tells Goal.Direct Caller.Main k 0 CallEnd.ReturnCancelled w s (λ e. absurd (cc)) to spare home base c d

  pub returned_rest : (k v : ℕ) (w : Option ℕ) (s : Core) → SaysEnd a k Status.Returned → ToldTo k w s → Keep a b (call_ends k CallEnd.Returned s) → Keep a b (returned k v w s)
  unfolding returned on_call
  returned_rest k v w s says to c =
      ends_rest (goal_of k s) (caller_of k s) k v CallEnd.Returned w s (λ e. absurd (cc)) to (result_given_walks (goal_of k s) (caller_of k s) k v (grind (arith, nat_tests, get-change)) says c)

  pub cancelled_rest : (k : ℕ) (w : Option ℕ) (s : Core) → ToldTo k w s → Keep a b (call_ends k CallEnd.ReturnCancelled s) → Keep a b (cancelled k w s)
  unfolding cancelled
  cancelled_rest k w s to c = ends_rest Goal.Direct Caller.Main k 0 CallEnd.ReturnCancelled w s (λ e. absurd (cc)) to c
