-- Before its own finish no call of a pass finds Complete, where all others only aborted.
use Rattle.std.proofs.Common.{◌≡◌, ◌≢◌, ℕ, zero, suc, ◌+◌, ◌≤◌, Bool, true, false, cond, List, [], ◌∷◌, ◌++◌, map, sum_by, refl, sym, ap, ap₂, subst, ◌∙◌, ⊎_elim, arith}
use Rattle.std.proofs.lemmas.List.Sums.{sum_by-cons}
use mathlib.Core.Option.{some, some-injective}
use lib.ListN.{get_elem?}
use Rattle.atomic_table.proofs.Lists.{at_longer}
use Rattle.machine_data.specs.declared.statuses.Phase.{Phase}
use Rattle.machine_data.specs.declared.statuses.Phase.TheVariants.{Running, AbortRequested, Complete}
use Rattle.task_abort.specs.declared.log.PhaseCall.{PhaseCall}
use Rattle.task_abort.specs.declared.log.PhaseCall.TheVariants.{Abort, PollFuture, PollHandle, Finish}
use Rattle.task_abort.specs.declared.log.LogEntry.{LogEntry}
use Rattle.task_abort.specs.declared.log.HandleCaller.{HandleCaller}
use Rattle.task_abort.specs.declared.log.PassView.{PassView}
use Rattle.task_abort.specs.PhaseLog.{after, entry, phase_from, phase, IsLegal, Name, Log, same_name, calls_by, callers}
use Rattle.task_abort.specs.Rule.{named, Knows, AllKnown}
use Rattle.task_abort.specs.Staged.{Aborter, OnlyAborted}
use Rattle.task_abort.proofs.LogLemmas.{not_nil, names, legal_cut, legal_parts, calls_by-append, same_head, same_tail}
use Rattle.task_abort.proofs.CallerLemmas.{at_nothing, named-has, has_own, sum_by-none}
use Rattle.task_abort.proofs.TallyLemmas.{Test, bit, tally, tally-append, tally-callers}

abbrev is_finish : Test
is_finish p Abort = false
is_finish p PollFuture = false
is_finish p PollHandle = false
is_finish p Finish = true

abbrev is_over : Phase → ℕ
is_over Running = 0
is_over AbortRequested = 0
is_over Complete = 1

over_step : (p q : Phase) (c : PhaseCall) → is_over (after c p) ≤ is_over p + bit (is_finish q c)
over_step Running q Abort = omega arith
over_step AbortRequested q Abort = omega arith
over_step Complete q Abort = omega arith
over_step p q PollFuture = omega arith
over_step p q PollHandle = omega arith
over_step p q Finish = omega arith

-- only a finish makes a phase Complete
over_finished : (p : Phase) (log : Log) → is_over (phase_from p log) ≤ is_over p + tally is_finish log
over_finished p [] = omega arith
over_finished p (e ∷ es) = let s = over_step p e.answer e.call in let l = over_finished (after e.call p) es in omega arith

no_finish : (p : Phase) (c : PhaseCall) → c ≢ Finish → bit (is_finish p c) ≡ 0
no_finish p Abort ne = refl
no_finish p PollFuture ne = refl
no_finish p PollHandle ne = refl
no_finish p Finish ne = absurd (ne refl)

none_finished : (xs : Log) → ((m : ℕ) (x : LogEntry Name) → get_elem? xs m ≡ some x → x.call ≢ Finish) → tally is_finish xs ≡ 0
none_finished [] h = refl
none_finished (x ∷ xs) h = let e = no_finish x.answer x.call (h 0 x refl) in let l = none_finished xs (λ m y at. h (suc m) y at) in omega arith

aborts_finish_nothing : (n : Name) (ps : List Phase) → tally is_finish (map (λ p. entry n Abort p) ps) ≡ 0
aborts_finish_nothing n [] = refl
aborts_finish_nothing n (p ∷ ps) = let l = aborts_finish_nothing n ps in omega arith

aborters_finish_nothing : (ds : List HandleCaller) (rest : List Aborter) → OnlyAborted ds rest → (i : ℕ) (d : HandleCaller) → get_elem? ds i ≡ some d → tally is_finish d.calls ≡ 0
aborters_finish_nothing [] rest h i d at = absurd (at_nothing d i at)
aborters_finish_nothing (c ∷ ds) [] h i d at = absurd h
aborters_finish_nothing (c ∷ ds) (a ∷ rest) h zero d at =
    subst (λ (z : HandleCaller). tally is_finish z.calls ≡ 0) (some-injective c d at) (ap (tally is_finish) h.0 ∙ aborts_finish_nothing c.name a.1)
aborters_finish_nothing (c ∷ ds) (a ∷ rest) h (suc i) d at = aborters_finish_nothing ds rest h.1 i d at

-- where a call is among those under a name, the log before it has those before it
abbrev PassHas_at : Name → Log → Log → LogEntry Name → Type 0
PassHas_at n log xs e = (before rest : Log) × (log ≡ before ++ e ∷ rest) × (calls_by n before ≡ xs)

place_of : (n : Name) (log xs ys : Log) (e : LogEntry Name) → calls_by n log ≡ xs ++ e ∷ ys → PassHas_at n log xs e
place_of n [] [] ys e h = absurd (not_nil [] e ys (sym h))
place_of n [] (x ∷ xs) ys e h = absurd (not_nil [] x (xs ++ e ∷ ys) (sym h))
place_of n (z ∷ log) xs ys e h = ⊎_elim
    (λ (t : (z.caller ≡ n) × (same_name z.caller n ≡ true)). mine xs (sym (ap (λ (b : Bool). cond b (z ∷ calls_by n log) (calls_by n log)) t.1) ∙ h) t.1 (λ ws k. place_of n log ws ys e k))
    (λ (t : (z.caller ≢ n) × (same_name z.caller n ≡ false)).
    let r = place_of n log xs ys e (sym (ap (λ (b : Bool). cond b (z ∷ calls_by n log) (calls_by n log)) t.1) ∙ h) in
    (z ∷ r.0, r.1, ap (λ (l : Log). z ∷ l) r.2, ap (λ (b : Bool). cond b (z ∷ calls_by n r.0) (calls_by n r.0)) t.1 ∙ r.3))
    (names z.caller n)
  where
    mine : (ws : Log) → z ∷ calls_by n log ≡ ws ++ e ∷ ys → same_name z.caller n ≡ true → ((vs : Log) → calls_by n log ≡ vs ++ e ∷ ys → PassHas_at n log vs e) → PassHas_at n (z ∷ log) ws e
    mine [] k is rec = ([], log, ap (λ (x : LogEntry Name). x ∷ log) (same_head z e (calls_by n log) ys k), refl)
    mine (w ∷ ws) k is rec =
        let r = rec ws (same_tail z w (calls_by n log) (ws ++ e ∷ ys) k) in let head : z ≡ w = same_head z w (calls_by n log) (ws ++ e ∷ ys) k in
        (z ∷ r.0, r.1, ap (λ (l : Log). z ∷ l) r.2, ap (λ (b : Bool). cond b (z ∷ calls_by n r.0) (calls_by n r.0)) is ∙ ap₂ (λ (a : LogEntry Name) (l : Log). a ∷ l) head r.3)

module _ (w : PassView) (knows : Knows w) (known : AllKnown w) (aborters : List Aborter) (aborts : OnlyAborted w.met aborters) (xs ys : Log) (e : LogEntry Name) (own : w.own.calls ≡ xs ++ e ∷ ys) (running : (m : ℕ) (x : LogEntry Name) → get_elem? xs m ≡ some x → x.call ≢ Finish) where
  pub unfinished : e.answer ≢ Complete
  unfinished is = omega (arith, over_finished Running before, sum_by-cons (λ (c : HandleCaller). tally is_finish (calls_by c.name before)) w.own w.met, all, mine, others, over)
    where
      place : PassHas_at w.own.name w.seen xs e
      place = place_of w.own.name w.seen xs ys e (knows.whole w.own (has_own w) ∙ own)

      before : Log
      before = place.0

      once : (m : ℕ) (x : LogEntry Name) → get_elem? before m ≡ some x → named x.caller (callers w) ≡ 1
      once m x h =
          let t = known m x (subst (λ (z : Log). get_elem? z m ≡ some x) (sym place.2) (at_longer before (e ∷ place.1) m x h)) in
          let least : 1 ≤ named x.caller (callers w) = subst (λ (z : Name). 1 ≤ named z (callers w)) t.2 (named-has w t.0 t.1) in let most = knows.apart x.caller in omega arith

      all : sum_by (λ c. tally is_finish (calls_by c.name before)) (callers w) ≡ tally is_finish before
      all = tally-callers is_finish (callers w) before once

      mine : tally is_finish (calls_by w.own.name before) ≡ 0
      mine = ap (tally is_finish) place.3 ∙ none_finished xs running

      other : (i : ℕ) (d : HandleCaller) → get_elem? w.met i ≡ some d → tally is_finish (calls_by d.name before) ≡ 0
      other i d at =
          let whole : calls_by d.name before ++ calls_by d.name (e ∷ place.1) ≡ d.calls = sym (calls_by-append d.name before (e ∷ place.1)) ∙ ap (calls_by d.name) (sym place.2) ∙ knows.whole d (suc i, at) in
          let none = aborters_finish_nothing w.met aborters aborts i d at in
          omega (arith, tally-append is_finish (calls_by d.name before) (calls_by d.name (e ∷ place.1)), ap (tally is_finish) whole)

      others : sum_by (λ c. tally is_finish (calls_by c.name before)) w.met ≡ 0
      others = sum_by-none (λ (c : HandleCaller). tally is_finish (calls_by c.name before)) w.met other

      over : is_over (phase before) ≡ 1
      over = let legal = (legal_cut Running before (e ∷ place.1) (subst IsLegal place.2 knows.legal)).1 in
          let found = (legal_parts (phase before) e place.1 legal).0 in ap is_over (sym found ∙ is)
