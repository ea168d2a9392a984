-- The lists of a pass that knows the callers of all calls give a legal log.
use Rattle.std.proofs.Common.{◌≡◌, ℕ, zero, suc, ◌+◌, ◌-◌, ◌≤◌, ◌<◌, ◌⊎◌, ◌&&◌, ◌||◌, ◌==◌, Bool, true, false, cond, List, [], ◌∷◌, ◌++◌, map, length, sum_by, refl, sym, ap, subst, ◌∙◌, inl, inr, ⊎_elim, le_refl, le_trans, eqb-true, arith}
use Rattle.std.proofs.lemmas.List.Sums.{sum_by-cons}
use mathlib.Core.Option.{some, some-injective}
use lib.ListN.{get_elem?}
use Rattle.machine_data.specs.declared.statuses.Phase.{Phase}
use Rattle.machine_data.specs.declared.statuses.Phase.TheVariants.{Running, AbortRequested, Complete}
use Rattle.task_abort.specs.declared.log.PhaseCall.{PhaseCall}
use Rattle.task_abort.specs.declared.log.PhaseCall.TheVariants.{Abort, PollFuture, PollHandle, Finish}
use Rattle.task_abort.specs.declared.log.LogEntry.{LogEntry}
use Rattle.task_abort.specs.declared.log.CallMade.{CallMade}
use Rattle.task_abort.specs.declared.log.HandleCaller.{HandleCaller}
use Rattle.task_abort.specs.declared.log.PassView.{PassView}
use Rattle.task_abort.specs.PhaseLog.{code, after, entry, phase_from, phase, is_legal_from, IsLegal, Name, Log, same_name, calls_by, callers}
use Rattle.task_abort.specs.Rule.{named, Knows, AllKnown}
use Rattle.task_abort.specs.Staged.{told_answer, told, Aborter, aborts_of, all_aborts, is_any, any_abort, entered_answer, tells_request, entered, all_entries, staged, OnlyAborted, Lists, LastRound}
use Rattle.task_abort.proofs.LogLemmas.{after_rises, phase_from_rises, legal_parts, legal_cut, calls_by-append}
use Rattle.task_abort.proofs.CallerLemmas.{at_nothing, named-has, has_own}
use Rattle.task_abort.proofs.TallyLemmas.{Test, at_stage, bit, tally, tally-append, tally_bounded, tally_caused, tally-callers, sum_by-same}
use Rattle.task_abort.proofs.StageLemmas.{first_abort, first_finish, stages_legal}

pub either_true : (a b : Bool) → (a || b) ≡ true → (a ≡ true) ⊎ (b ≡ true)
either_true true b h = inl refl
either_true false b h = inr h

pub both_true_parts : (a b : Bool) → (a && b) ≡ true → (a ≡ true) × (b ≡ true)
both_true_parts true b h = (refl, h)
both_true_parts false b h = absurd (grind (arith, h))

either_some : (a b : ℕ) → 0 < a + b → (0 < a) ⊎ (0 < b)
either_some zero b h = inr (omega arith)
either_some (suc a) b h = inl (omega arith)

abbrev is_requested : Test
is_requested Running c = false
is_requested AbortRequested c = true
is_requested Complete c = false

abbrev is_abort : Test
is_abort p Abort = true
is_abort p PollFuture = false
is_abort p PollHandle = false
is_abort p Finish = false

-- a test that passes no poll of the handle that was pending
record Deaf (t : Test) : Type 0 where
  running : t Running PollHandle ≡ false
  requested : t AbortRequested PollHandle ≡ false

entered_same : (t : Test) → Deaf t → (b : Bool) (c : PhaseCall) (p : Phase) → t (entered_answer b (told_answer c p)) c ≡ t p c
entered_same t d b Abort p = refl
entered_same t d b PollFuture p = refl
entered_same t d true PollHandle Running = d.requested ∙ sym d.running
entered_same t d false PollHandle Running = refl
entered_same t d true PollHandle AbortRequested = refl
entered_same t d false PollHandle AbortRequested = d.running ∙ sym d.requested
entered_same t d b PollHandle Complete = refl
entered_same t d b Finish p = refl

tally-entered : (t : Test) → Deaf t → (n : ℕ) (others requested : Bool) (xs : Log) → tally t (entered n others requested (map told xs)) ≡ tally t xs
tally-entered t d n others requested [] = refl
tally-entered t d n others requested (x ∷ xs) =
    let e : bit (t (entered_answer (requested || (others && (n == 0))) (told_answer x.call x.answer)) x.call) ≡ bit (t x.answer x.call) = ap bit (entered_same t d (requested || (others && (n == 0))) x.call x.answer) in
    let l = tally-entered t d (n - 1) others (requested || tells_request x.call (told_answer x.call x.answer)) xs in omega arith

tally-aborts : (t : Test) (k : ℕ) (n : Name) (ps : List Phase) → tally t (map (λ p. entry k Abort p) ps) ≡ tally t (map (λ p. entry n Abort p) ps)
tally-aborts t k n [] = refl
tally-aborts t k n (p ∷ ps) = let l = tally-aborts t k n ps in omega arith

tally-all_aborts : (t : Test) (ds : List HandleCaller) (rest : List Aborter) → OnlyAborted ds rest → tally t (all_aborts rest) ≡ sum_by (λ d. tally t d.calls) ds
tally-all_aborts t [] [] h = refl
tally-all_aborts t [] (a ∷ rest) h = absurd h
tally-all_aborts t (d ∷ ds) [] h = absurd h
tally-all_aborts t (d ∷ ds) (a ∷ rest) h =
    let e : tally t (aborts_of a) ≡ tally t d.calls = tally-aborts t a.0 d.name a.1 ∙ ap (tally t) (sym h.0) in
    let l = tally-all_aborts t ds rest h.1 in omega (arith, tally-append t (aborts_of a) (all_aborts rest), sum_by-cons (λ (c : HandleCaller). tally t c.calls) d ds)

-- each answer is no earlier phase than what the call before left
abbrev pub Rises : ℕ → Log → Type 0
Rises b [] = Unit {0}
Rises b (x ∷ xs) = (b ≤ code x.answer) × Rises (code (after x.call x.answer)) xs

rises_less : (a b : ℕ) (xs : Log) → a ≤ b → Rises b xs → Rises a xs
rises_less a b [] l h = tt
rises_less a b (x ∷ xs) l h = (le_trans l h.0, h.1)

rises_if : (p : Phase) (e : LogEntry Name) (xs : Log) (b : Bool) → e.answer ≡ p → Rises (code (after e.call p)) xs → Rises (code p) (cond b (e ∷ xs) xs)
rises_if p e xs true is h = (subst (λ (z : Phase). code p ≤ code z) (sym is) (le_refl _), subst (λ (z : Phase). Rises (code (after e.call z)) xs) (sym is) h)
rises_if p e xs false is h = rises_less (code p) (code (after e.call p)) xs (after_rises e.call p) h

pub rises_calls : (n : Name) (p : Phase) (log : Log) → is_legal_from p log ≡ true → Rises (code p) (calls_by n log)
rises_calls n p [] h = tt
rises_calls n p (e ∷ es) h = let l = legal_parts p e es h in rises_if p e (calls_by n es) (same_name e.caller n) l.0 (rises_calls n (after e.call p) es l.1)

rises_at : (b : ℕ) (xs : Log) (k : ℕ) (x : LogEntry Name) → Rises b xs → get_elem? xs k ≡ some x → b ≤ code x.answer
rises_at b [] k x h at = absurd (at_nothing x k at)
rises_at b (y ∷ ys) zero x h at = subst (λ (z : LogEntry Name). b ≤ code z.answer) (some-injective y x at) h.0
rises_at b (y ∷ ys) (suc k) x h at = le_trans h.0 (le_trans (after_rises y.call y.answer) (rises_at (code (after y.call y.answer)) ys k x h.1 at))

-- the calls after the first n found a later phase than Running
abbrev pub Late : ℕ → Log → Type 0
Late n xs = (k : ℕ) (x : LogEntry Name) → n ≤ k → get_elem? xs k ≡ some x → 1 ≤ code x.answer

-- what is known of a call by what it found, where `b` says that an abort is known to have come before it, or that it is late
abbrev HeadOf : Bool → Bool → PhaseCall → Phase → Type 0
HeadOf requested late c p = (p ≡ AbortRequested) ⊎ ((first_abort p c ≡ true) ⊎ (((p ≡ Running) × ((requested || late) ≡ true))
    ⊎ ((at_stage 3 (entered_answer (requested || late) (told_answer c p)) c ≡ false) × ((requested || tells_request c (told_answer c p)) ≡ true → (requested ≡ true) ⊎ (code (after c p) ≡ 2)))))

requested_only : (requested : Bool) → (requested || false) ≡ true → requested ≡ true
requested_only true h = refl
requested_only false h = h

head_of : (requested late : Bool) (c : PhaseCall) (p : Phase) → HeadOf requested late c p
head_of requested late c AbortRequested = inl refl
head_of requested late Abort Running = inr (inl refl)
head_of requested late PollFuture Running = inr (inr (inr (refl, λ h. inl (requested_only requested h))))
head_of requested late Finish Running = inr (inr (inr (refl, λ h. inr refl)))
head_of true late PollHandle Running = inr (inr (inl (refl, refl)))
head_of false true PollHandle Running = inr (inr (inl (refl, refl)))
head_of false false PollHandle Running = inr (inr (inr (refl, λ h. inl h)))
head_of requested late Abort Complete = inr (inr (inr (refl, λ h. inr refl)))
head_of requested late PollFuture Complete = inr (inr (inr (refl, λ h. inr refl)))
head_of requested late PollHandle Complete = inr (inr (inr (refl, λ h. inr refl)))
head_of requested late Finish Complete = inr (inr (inr (refl, λ h. inr refl)))

-- what was entered with AbortRequested has a cause W
module _ (W : Type 0) where
  entered_caused : (xs : Log) (n : ℕ) (others requested : Bool) (b : ℕ) → Rises b xs → (others ≡ true → Late n xs) → (requested ≡ true → W ⊎ (2 ≤ b))
      → (0 < tally is_requested xs → W) → (0 < tally first_abort xs → W) → 0 < tally (at_stage 3) (entered n others requested (map told xs)) → W
  entered_caused [] n others requested b rises late asked found aborts any = absurd (omega arith)
  entered_caused (x ∷ xs) n others requested b rises late asked found aborts any =
      ⊎_elim by_found (⊎_elim by_abort (⊎_elim by_pending (λ (t : (at_stage 3 (entered_answer now (told_answer x.call x.answer)) x.call ≡ false) × (next ≡ true → (requested ≡ true) ⊎ (code (after x.call x.answer) ≡ 2))).
      entered_caused xs (n - 1) others next (code (after x.call x.answer)) rises.1 (λ o k y le at. late o (suc k) y (omega arith) at) (asked_next t.1) (λ more. found (omega arith)) (λ more. aborts (omega arith)) (in_rest t.0))))
      (head_of requested (others && (n == 0)) x.call x.answer)
    where
      now : Bool
      now = requested || (others && (n == 0))

      next : Bool
      next = requested || tells_request x.call (told_answer x.call x.answer)

      by_found : x.answer ≡ AbortRequested → W
      by_found e = found (let one : bit (is_requested x.answer x.call) ≡ 1 = ap (λ (p : Phase). bit (is_requested p x.call)) e in omega arith)

      by_abort : first_abort x.answer x.call ≡ true → W
      by_abort e = aborts (let one : bit (first_abort x.answer x.call) ≡ 1 = ap bit e in omega arith)

      by_pending : (x.answer ≡ Running) × (now ≡ true) → W
      by_pending h = let none : code x.answer ≡ 0 = ap code h.0 in let low = rises.0 in
          ⊎_elim (λ (r : requested ≡ true). ⊎_elim (λ (w : W). w) (λ (l : 2 ≤ b). absurd (omega arith)) (asked r))
          (λ (r : (others && (n == 0)) ≡ true). let t = both_true_parts others (n == 0) r in let zero_n : n ≡ 0 = eqb-true n 0 t.1 in
          let l : 1 ≤ code x.answer = late t.0 0 x (omega arith) refl in absurd (omega arith)) (either_true requested (others && (n == 0)) h.1)

      asked_next : (next ≡ true → (requested ≡ true) ⊎ (code (after x.call x.answer) ≡ 2)) → next ≡ true → W ⊎ (2 ≤ code (after x.call x.answer))
      asked_next f r = let low = rises.0 in let up = after_rises x.call x.answer in
          ⊎_elim (λ (t : requested ≡ true). ⊎_elim inl (λ (l : 2 ≤ b). inr (omega arith)) (asked t)) (λ (t : code (after x.call x.answer) ≡ 2). inr (omega arith)) (f r)

      in_rest : at_stage 3 (entered_answer now (told_answer x.call x.answer)) x.call ≡ false → 0 < tally (at_stage 3) (entered (n - 1) others next (map told xs))
      in_rest quiet = let none : bit (at_stage 3 (entered_answer now (told_answer x.call x.answer)) x.call) ≡ 0 = ap bit quiet in omega arith

tally_if : (t : Test) (e : LogEntry Name) (xs : Log) (n : ℕ) (b : Bool) → tally t xs ≤ n → tally t (cond b (e ∷ xs) xs) ≤ bit (t e.answer e.call) + n
tally_if t e xs n true h = omega arith
tally_if t e xs n false h = omega arith

tally-calls_by : (t : Test) (n : Name) (log : Log) → tally t (calls_by n log) ≤ tally t log
tally-calls_by t n [] = omega arith
tally-calls_by t n (e ∷ es) = tally_if t e (calls_by n es) (tally t es) (same_name e.caller n) (tally-calls_by t n es)

abort_leaves : (p q : Phase) (c : PhaseCall) → bit (is_abort q c) ≤ code (after c p)
abort_leaves Running q Abort = omega arith
abort_leaves AbortRequested q Abort = omega arith
abort_leaves Complete q Abort = omega arith
abort_leaves p q PollFuture = omega arith
abort_leaves p q PollHandle = omega arith
abort_leaves p q Finish = omega arith

-- once an abort was made the phase isn't Running
pub aborted : (p : Phase) (log : Log) → 0 < tally is_abort log → 1 ≤ code (phase_from p log)
aborted p [] any = absurd (omega arith)
aborted p (e ∷ es) any =
    let here = abort_leaves p e.answer e.call in let up = phase_from_rises (after e.call p) es in let rest = aborted (after e.call p) es in
    ⊎_elim (λ (h : 0 < bit (is_abort e.answer e.call)). let goal : 1 ≤ code (phase_from (after e.call p) es) = omega arith in goal) rest (either_some (bit (is_abort e.answer e.call)) (tally is_abort es) any)

some_abort : (n : Name) (ps : List Phase) → is_any ps ≡ true → 0 < tally is_abort (map (λ p. entry n Abort p) ps)
some_abort n [] h = absurd (grind (arith, h))
some_abort n (p ∷ ps) h = omega arith

who_aborted : (ds : List HandleCaller) (rest : List Aborter) → OnlyAborted ds rest → any_abort rest ≡ true → (a : ℕ) × (d : HandleCaller) × (get_elem? ds a ≡ some d) × (0 < tally is_abort d.calls)
who_aborted [] [] h any = absurd (grind (arith, any))
who_aborted [] (a ∷ rest) h any = absurd h
who_aborted (d ∷ ds) [] h any = absurd h
who_aborted (d ∷ ds) (a ∷ rest) h any = ⊎_elim
    (λ (t : is_any a.1 ≡ true). (0, d, refl, subst (λ (z : Log). 0 < tally is_abort z) (sym h.0) (some_abort d.name a.1 t)))
    (λ (t : any_abort rest ≡ true). let r = who_aborted ds rest h.1 t in (suc r.0, r.1, r.2, r.3)) (either_true (is_any a.1) (any_abort rest) any)

at_past : {A : Type 0} (xs ys : List A) (k : ℕ) (y : A) → length xs ≤ k → get_elem? (xs ++ ys) k ≡ some y → (j : ℕ) × (get_elem? ys j ≡ some y)
at_past [] ys k y l h = (k, h)
at_past (x ∷ xs) ys zero y l h = absurd (omega arith)
at_past (x ∷ xs) ys (suc k) y l h = at_past xs ys k y (omega arith) h

abbrev most_two : Phase → ℕ
most_two Running = 1
most_two AbortRequested = 0
most_two Complete = 0

abbrev most_four : Phase → ℕ
most_four Running = 1
most_four AbortRequested = 1
most_four Complete = 0

abbrev had_request : Phase → ℕ
had_request Running = 0
had_request AbortRequested = 1
had_request Complete = 0

abbrev had_finish : Phase → ℕ
had_finish Running = 0
had_finish AbortRequested = 0
had_finish Complete = 1

two_step : (p : Phase) (c : PhaseCall) → bit (at_stage 2 p c) + most_two (after c p) ≤ most_two p
two_step Running Abort = omega arith
two_step Running PollFuture = omega arith
two_step Running PollHandle = omega arith
two_step Running Finish = omega arith
two_step AbortRequested Abort = omega arith
two_step AbortRequested PollFuture = omega arith
two_step AbortRequested PollHandle = omega arith
two_step AbortRequested Finish = omega arith
two_step Complete Abort = omega arith
two_step Complete PollFuture = omega arith
two_step Complete PollHandle = omega arith
two_step Complete Finish = omega arith

four_step : (p : Phase) (c : PhaseCall) → bit (at_stage 4 p c) + most_four (after c p) ≤ most_four p
four_step Running Abort = omega arith
four_step Running PollFuture = omega arith
four_step Running PollHandle = omega arith
four_step Running Finish = omega arith
four_step AbortRequested Abort = omega arith
four_step AbortRequested PollFuture = omega arith
four_step AbortRequested PollHandle = omega arith
four_step AbortRequested Finish = omega arith
four_step Complete Abort = omega arith
four_step Complete PollFuture = omega arith
four_step Complete PollHandle = omega arith
four_step Complete Finish = omega arith

request_step : (p : Phase) (c : PhaseCall) → had_request (after c p) ≤ had_request p + bit (first_abort p c)
request_step Running Abort = omega arith
request_step Running PollFuture = omega arith
request_step Running PollHandle = omega arith
request_step Running Finish = omega arith
request_step AbortRequested Abort = omega arith
request_step AbortRequested PollFuture = omega arith
request_step AbortRequested PollHandle = omega arith
request_step AbortRequested Finish = omega arith
request_step Complete Abort = omega arith
request_step Complete PollFuture = omega arith
request_step Complete PollHandle = omega arith
request_step Complete Finish = omega arith

finish_step : (p : Phase) (c : PhaseCall) → had_finish (after c p) ≤ had_finish p + bit (first_finish p c)
finish_step Running Abort = omega arith
finish_step Running PollFuture = omega arith
finish_step Running PollHandle = omega arith
finish_step Running Finish = omega arith
finish_step AbortRequested Abort = omega arith
finish_step AbortRequested PollFuture = omega arith
finish_step AbortRequested PollHandle = omega arith
finish_step AbortRequested Finish = omega arith
finish_step Complete Abort = omega arith
finish_step Complete PollFuture = omega arith
finish_step Complete PollHandle = omega arith
finish_step Complete Finish = omega arith

is_requested_had : (p : Phase) (c : PhaseCall) → bit (is_requested p c) ≤ had_request p
is_requested_had Running c = omega arith
is_requested_had AbortRequested c = omega arith
is_requested_had Complete c = omega arith

three_had : (p : Phase) (c : PhaseCall) → bit (at_stage 3 p c) ≤ had_request p
three_had Running Abort = omega arith
three_had Running PollFuture = omega arith
three_had Running PollHandle = omega arith
three_had Running Finish = omega arith
three_had AbortRequested Abort = omega arith
three_had AbortRequested PollFuture = omega arith
three_had AbortRequested PollHandle = omega arith
three_had AbortRequested Finish = omega arith
three_had Complete c = omega arith

four_had : (p : Phase) (c : PhaseCall) → bit (at_stage 4 p c) ≤ had_request p
four_had Running Abort = omega arith
four_had Running PollFuture = omega arith
four_had Running PollHandle = omega arith
four_had Running Finish = omega arith
four_had AbortRequested Abort = omega arith
four_had AbortRequested PollFuture = omega arith
four_had AbortRequested PollHandle = omega arith
four_had AbortRequested Finish = omega arith
four_had Complete c = omega arith

five_had : (p : Phase) (c : PhaseCall) → bit (at_stage 5 p c) ≤ had_finish p
five_had Running Abort = omega arith
five_had Running PollFuture = omega arith
five_had Running PollHandle = omega arith
five_had Running Finish = omega arith
five_had AbortRequested Abort = omega arith
five_had AbortRequested PollFuture = omega arith
five_had AbortRequested PollHandle = omega arith
five_had AbortRequested Finish = omega arith
five_had Complete c = omega arith

module _ (w : PassView) (knows : Knows w) (known : AllKnown w) (own : List CallMade) (aborters : List Aborter) (n : ℕ) (lists : Lists w own aborters) (round : LastRound w n) where
  abbrev W : Type 0
  W = 0 < tally first_abort w.seen

  once : (m : ℕ) (e : LogEntry Name) → get_elem? w.seen m ≡ some e → named e.caller (callers w) ≡ 1
  once m e h = let t = known m e h in let least : 1 ≤ named e.caller (callers w) = subst (λ (z : Name). 1 ≤ named z (callers w)) t.2 (named-has w t.0 t.1) in let most = knows.apart e.caller in omega arith

  tally-lists : (t : Test) → tally t (all_aborts aborters) + tally t w.own.calls ≡ tally t w.seen
  tally-lists t =
      let each = sum_by-same (λ (c : HandleCaller). tally t c.calls) (λ c. tally t (calls_by c.name w.seen)) (callers w) (λ i c at. ap (tally t) (sym (knows.whole c (i, at)))) in
      let all = tally-callers t (callers w) w.seen once in let met = tally-all_aborts t w.met aborters lists.aborts in
      omega (arith, sum_by-cons (λ (c : HandleCaller). tally t c.calls) w.own w.met)

  tally-run : (t : Test) → tally t (entered n (any_abort aborters) false own) ≡ tally t (entered n (any_abort aborters) false (map told w.own.calls))
  tally-run t = ap (λ (z : List CallMade). tally t (entered n (any_abort aborters) false z)) lists.own_calls

  tally-entries : (t : Test) → Deaf t → tally t (all_entries own aborters n) ≡ tally t w.seen
  tally-entries t d =
      let e = tally-entered t d n (any_abort aborters) false w.own.calls in
      omega (arith, tally-append t (all_aborts aborters) (entered n (any_abort aborters) false own), tally-run t, tally-lists t)

  -- once an aborter has an entry the phase was not Running before the last round
  pub past : any_abort aborters ≡ true → 1 ≤ code (phase round.early)
  past any =
      let who = who_aborted w.met aborters lists.aborts any in
      let asked : 0 < tally is_abort (calls_by who.1.name round.early) = subst (λ (z : Log). 0 < tally is_abort z) (sym (round.others who.0 who.1 who.2)) who.3 in
      aborted Running round.early (omega (arith, tally-calls_by is_abort who.1.name round.early))

  -- and a call after that found no earlier one
  pub later : (k : ℕ) (x : LogEntry Name) → n ≤ k → get_elem? w.own.calls k ≡ some x → code (phase round.early) ≤ code x.answer
  later k x le at =
      let rest = round.begins.0 in
      let calls : w.own.calls ≡ calls_by w.own.name round.early ++ calls_by w.own.name rest = sym (knows.whole w.own (has_own w)) ∙ ap (calls_by w.own.name) round.begins.1 ∙ calls_by-append w.own.name round.early rest in
      let legal = (legal_cut Running round.early rest (subst IsLegal round.begins.1 knows.legal)).1 in
      let count = round.count in
      let there = at_past (calls_by w.own.name round.early) (calls_by w.own.name rest) k x (omega arith) (subst (λ (z : Log). get_elem? z k ≡ some x) calls at) in
      rises_at (code (phase round.early)) (calls_by w.own.name rest) there.0 x (rises_calls w.own.name (phase round.early) rest legal) there.1

  pub late : any_abort aborters ≡ true → Late n w.own.calls
  late any k x le at = le_trans (past any) (later k x le at)

  caused : (t : Test) → ((p : Phase) (c : PhaseCall) → bit (t p c) ≤ had_request p) → 0 < tally t w.seen → W
  caused t now any = let k = tally_caused t first_abort had_request now request_step Running w.seen knows.legal any in omega arith

  requested_caused : 0 < tally (at_stage 3) (entered n (any_abort aborters) false (map told w.own.calls)) → W
  requested_caused = entered_caused W w.own.calls n (any_abort aborters) false 0 rises late (λ never. absurd (grind (arith, never)))
      (λ any. caused is_requested is_requested_had (omega (arith, tally-lists is_requested)))
      by_first
    where
      rises : Rises 0 w.own.calls
      rises = subst (Rises 0) (knows.whole w.own (has_own w)) (rises_calls w.own.name Running w.seen knows.legal)

      by_first : 0 < tally first_abort w.own.calls → W
      by_first any = omega (arith, tally-lists first_abort)

  asked : 0 < tally (at_stage 3) (all_entries own aborters n) + tally (at_stage 4) (all_entries own aborters n) → W
  asked any = ⊎_elim
      (λ (h : 0 < tally (at_stage 3) (all_entries own aborters n)). ⊎_elim
      (λ (g : 0 < tally (at_stage 3) (all_aborts aborters)). caused (at_stage 3) three_had (omega (arith, tally-lists (at_stage 3))))
      (λ (g : 0 < tally (at_stage 3) (entered n (any_abort aborters) false own)). requested_caused (omega (arith, tally-run (at_stage 3))))
      (either_some (tally (at_stage 3) (all_aborts aborters)) (tally (at_stage 3) (entered n (any_abort aborters) false own)) (omega (arith, tally-append (at_stage 3) (all_aborts aborters) (entered n (any_abort aborters) false own)))))
      (λ (h : 0 < tally (at_stage 4) (all_entries own aborters n)). caused (at_stage 4) four_had (omega (arith, tally-entries (at_stage 4) (record { running = refl; requested = refl }))))
      (either_some (tally (at_stage 3) (all_entries own aborters n)) (tally (at_stage 4) (all_entries own aborters n)) any)

  pub staged_legal : IsLegal (staged own aborters n)
  staged_legal = stages_legal (all_entries own aborters n)
      (let l = tally_bounded (at_stage 2) most_two two_step Running w.seen knows.legal in omega (arith, tally-entries (at_stage 2) (record { running = refl; requested = refl })))
      (let l = tally_bounded (at_stage 4) most_four four_step Running w.seen knows.legal in omega (arith, tally-entries (at_stage 4) (record { running = refl; requested = refl })))
      (λ any. let k = asked any in omega (arith, tally-entries first_abort (record { running = refl; requested = refl })))
      (λ any. let k = tally_caused (at_stage 5) first_finish had_finish five_had finish_step Running w.seen knows.legal (omega (arith, tally-entries (at_stage 5) (record { running = refl; requested = refl }))) in
      omega (arith, tally-entries first_finish (record { running = refl; requested = refl })))
