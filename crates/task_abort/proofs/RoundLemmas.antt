-- A log put together by stages has the calls of caller 0 after the last round last.
use Rattle.std.proofs.Common.{◌≡◌, ℕ, zero, suc, ◌-◌, ◌≤◌, ◌<◌, ◌⊎◌, ◌||◌, ◌==◌, Bool, true, false, cond, List, [], ◌∷◌, ◌++◌, map, take, drop, refl, sym, ap, subst, ◌∙◌, inl, inr, ⊎_elim, le_refl, le_trans, append-nil, append_assoc, ne_eqb, arith}
use Rattle.std.proofs.lemmas.Bool.{or_parts}
use Rattle.std.proofs.lemmas.List.{take-append-drop}
use Rattle.std.proofs.lemmas.List.Elements.{filter-append}
use mathlib.Core.Option.{some}
use lib.ListN.{get_elem?}
use Rattle.machine_data.specs.declared.statuses.Phase.{Phase}
use Rattle.machine_data.specs.declared.statuses.Phase.TheVariants.{Running, AbortRequested, Complete}
use Rattle.task_abort.specs.declared.log.PhaseCall.{PhaseCall}
use Rattle.task_abort.specs.declared.log.PhaseCall.TheVariants.{Abort, PollFuture, PollHandle, Finish}
use Rattle.task_abort.specs.declared.log.LogEntry.{LogEntry}
use Rattle.task_abort.specs.declared.log.CallMade.{CallMade}
use Rattle.task_abort.specs.declared.log.HandleCaller.{HandleCaller}
use Rattle.task_abort.specs.declared.log.PassView.{PassView}
use Rattle.task_abort.specs.PhaseLog.{code, after, entry, phase_from, phase, is_legal_from, IsLegal, Name, Log, same_name, calls_by}
use Rattle.task_abort.specs.Rule.{Knows, AllKnown}
use Rattle.task_abort.specs.Staged.{told_answer, told, Aborter, aborts_of, all_aborts, is_any, any_abort, entered_answer, tells_request, entered, stage, in_stage, by_stages, staged, OnlyAborted, Lists, LastRound}
use Rattle.task_abort.proofs.LogLemmas.{after_rises, phase_from_rises, legal_parts, legal_cut}
use Rattle.task_abort.proofs.StagedLemmas.{past, later}
use Rattle.task_abort.proofs.OrderLemmas.{Sorted, sorted_less, none_below, joined_nil, either_right, by_stages-sorted, run_sorted}

below_or : (u t : ℕ) → (u < t) ⊎ (t ≤ u)
below_or u zero = inr (omega arith)
below_or zero (suc t) = inl (omega arith)
below_or (suc u) (suc t) = ⊎_elim (λ (l : u < t). inl (omega arith)) (λ (l : t ≤ u). inr (omega arith)) (below_or u t)

merged : {A : Type 0} (x y v z : List A) → (y ≡ []) ⊎ (v ≡ []) → (x ++ y) ++ (v ++ z) ≡ (x ++ v) ++ (y ++ z)
merged {A} x y v z (inl e) = let P : List A → Type 0 = λ w. (x ++ w) ++ (v ++ z) ≡ (x ++ v) ++ (w ++ z) in subst P (sym e) (ap (λ (w : List A). w ++ (v ++ z)) (append-nil x) ∙ sym (append_assoc x v z))
merged {A} x y v z (inr e) = let P : List A → Type 0 = λ w. (x ++ y) ++ (w ++ z) ≡ (x ++ w) ++ (y ++ z) in subst P (sym e) (append_assoc x y z ∙ sym (ap (λ (w : List A). w ++ (y ++ z)) (append-nil x)))

module _ {C : Type 0} where
  abbrev AllUpTo : ℕ → List (LogEntry C) → Type 0
  AllUpTo t [] = Unit {0}
  AllUpTo t (x ∷ xs) = (stage x.answer x.call ≤ t) × AllUpTo t xs

  abbrev AllFrom : ℕ → List (LogEntry C) → Type 0
  AllFrom t [] = Unit {0}
  AllFrom t (x ∷ xs) = (t ≤ stage x.answer x.call) × AllFrom t xs

  up_to_more : (s t : ℕ) (xs : List (LogEntry C)) → s ≤ t → AllUpTo s xs → AllUpTo t xs
  up_to_more s t [] l h = tt
  up_to_more s t (x ∷ xs) l h = (le_trans h.0 l, up_to_more s t xs l h.1)

  up_to_joined : (t : ℕ) (xs ys : List (LogEntry C)) → AllUpTo t xs → AllUpTo t ys → AllUpTo t (xs ++ ys)
  up_to_joined t [] ys h g = g
  up_to_joined t (x ∷ xs) ys h g = (h.0, up_to_joined t xs ys h.1 g)

  none_above : (u t : ℕ) (xs : List (LogEntry C)) → t < u → AllUpTo t xs → in_stage u xs ≡ []
  none_above u t [] l h = refl
  none_above u t (x ∷ xs) l h = let high = h.0 in
      ap (λ (b : Bool). cond b (x ∷ in_stage u xs) (in_stage u xs)) (ne_eqb (stage x.answer x.call) u (λ e. omega arith)) ∙ none_above u t xs l h.1

  -- where no entry of the one list is after one of the other, which is in order, the other stays last
  by_stages-last : (t : ℕ) (xs ys : List (LogEntry C)) → AllUpTo t xs → Sorted t ys → by_stages (xs ++ ys) ≡ by_stages xs ++ by_stages ys
  by_stages-last t xs ys h g =
      let each = λ (s : ℕ). filter-append (λ (e : LogEntry C). stage e.answer e.call == s) xs ys in
      ap (λ (z : List (LogEntry C)). z ++ (in_stage 2 (xs ++ ys) ++ (in_stage 3 (xs ++ ys) ++ (in_stage 4 (xs ++ ys) ++ in_stage 5 (xs ++ ys))))) (each 1)
      ∙ ap (λ (z : List (LogEntry C)). (x 1 ++ y 1) ++ (z ++ (in_stage 3 (xs ++ ys) ++ (in_stage 4 (xs ++ ys) ++ in_stage 5 (xs ++ ys))))) (each 2)
      ∙ ap (λ (z : List (LogEntry C)). (x 1 ++ y 1) ++ ((x 2 ++ y 2) ++ (z ++ (in_stage 4 (xs ++ ys) ++ in_stage 5 (xs ++ ys))))) (each 3)
      ∙ ap (λ (z : List (LogEntry C)). (x 1 ++ y 1) ++ ((x 2 ++ y 2) ++ ((x 3 ++ y 3) ++ (z ++ in_stage 5 (xs ++ ys))))) (each 4)
      ∙ ap (λ (z : List (LogEntry C)). (x 1 ++ y 1) ++ ((x 2 ++ y 2) ++ ((x 3 ++ y 3) ++ ((x 4 ++ y 4) ++ z)))) (each 5)
      ∙ ap (λ (z : List (LogEntry C)). (x 1 ++ y 1) ++ ((x 2 ++ y 2) ++ ((x 3 ++ y 3) ++ z))) (merged (x 4) (y 4) (x 5) (y 5) (apart 4 (x 5) (λ l. past_t 5 (omega arith))))
      ∙ ap (λ (z : List (LogEntry C)). (x 1 ++ y 1) ++ ((x 2 ++ y 2) ++ z)) (merged (x 3) (y 3) (x 4 ++ x 5) (y 4 ++ y 5) (apart 3 (x 4 ++ x 5) (λ l. joined_nil (x 4) (x 5) (past_t 4 (omega arith)) (past_t 5 (omega arith)))))
      ∙ ap (λ (z : List (LogEntry C)). (x 1 ++ y 1) ++ z) (merged (x 2) (y 2) (x 3 ++ (x 4 ++ x 5)) (y 3 ++ (y 4 ++ y 5))
      (apart 2 (x 3 ++ (x 4 ++ x 5)) (λ l. joined_nil (x 3) (x 4 ++ x 5) (past_t 3 (omega arith)) (joined_nil (x 4) (x 5) (past_t 4 (omega arith)) (past_t 5 (omega arith))))))
      ∙ merged (x 1) (y 1) (x 2 ++ (x 3 ++ (x 4 ++ x 5))) (y 2 ++ (y 3 ++ (y 4 ++ y 5)))
      (apart 1 (x 2 ++ (x 3 ++ (x 4 ++ x 5))) (λ l. joined_nil (x 2) (x 3 ++ (x 4 ++ x 5)) (past_t 2 (omega arith)) (joined_nil (x 3) (x 4 ++ x 5) (past_t 3 (omega arith)) (joined_nil (x 4) (x 5) (past_t 4 (omega arith)) (past_t 5 (omega arith))))))
    where
      x : ℕ → List (LogEntry C)
      x u = in_stage u xs

      y : ℕ → List (LogEntry C)
      y u = in_stage u ys

      past_t : (u : ℕ) → t < u → x u ≡ []
      past_t u l = none_above u t xs l h

      apart : (u : ℕ) (rest : List (LogEntry C)) → (t ≤ u → rest ≡ []) → (y u ≡ []) ⊎ (rest ≡ [])
      apart u rest none = ⊎_elim (λ (l : u < t). inl (none_below u t ys l g)) (λ (l : t ≤ u). inr (none l)) (below_or u t)

  sorted_least : (us : List (LogEntry C)) (y : LogEntry C) (vs : List (LogEntry C)) (s : ℕ) → Sorted s (us ++ y ∷ vs) → s ≤ stage y.answer y.call
  sorted_least [] y vs s h = h.0
  sorted_least (u ∷ us) y vs s h = le_trans h.0 (sorted_least us y vs (stage u.answer u.call) h.1)

  sorted_cut : (us : List (LogEntry C)) (y : LogEntry C) (vs : List (LogEntry C)) (s : ℕ) → Sorted s (us ++ y ∷ vs) → AllUpTo (stage y.answer y.call) us × Sorted (stage y.answer y.call) (y ∷ vs)
  sorted_cut [] y vs s h = (tt, (le_refl _, h.1))
  sorted_cut (u ∷ us) y vs s h = let r = sorted_cut us y vs (stage u.answer u.call) h.1 in ((sorted_least us y vs (stage u.answer u.call) h.1, r.0), r.1)

-- the least stage of a call that is late, where a phase of this number was found before
abbrev floor : ℕ → ℕ
floor zero = 0
floor (suc zero) = 3
floor (suc (suc k)) = 5

floor_most : (m : ℕ) → floor m ≤ 5
floor_most zero = omega arith
floor_most (suc zero) = omega arith
floor_most (suc (suc k)) = omega arith

floor_requested : (m : ℕ) → m ≤ 1 → floor m ≤ 3
floor_requested zero l = omega arith
floor_requested (suc zero) l = omega arith
floor_requested (suc (suc k)) l = absurd (omega arith)

late_head : (m : ℕ) (b : Bool) → b ≡ true → (c : PhaseCall) (p : Phase) → 1 ≤ m → m ≤ code p → floor m ≤ stage (entered_answer b (told_answer c p)) c
late_head m b is c Running one l = absurd (omega arith)
late_head m b is Abort AbortRequested one l = floor_requested m l
late_head m b is PollFuture AbortRequested one l = floor_requested m l
late_head m true is PollHandle AbortRequested one l = floor_requested m l
late_head m false is PollHandle AbortRequested one l = absurd (grind (arith, is))
late_head m b is Finish AbortRequested one l = le_trans (floor_requested m l) (omega arith)
late_head m b is Abort Complete one l = floor_most m
late_head m b is PollFuture Complete one l = floor_most m
late_head m b is PollHandle Complete one l = floor_most m
late_head m b is Finish Complete one l = floor_most m

abbrev From : ℕ → ℕ → Log → Type 0
From m n xs = (k : ℕ) (x : LogEntry Name) → n ≤ k → get_elem? xs k ≡ some x → m ≤ code x.answer

all_late : (m : ℕ) (xs : Log) (requested : Bool) → 1 ≤ m → From m 0 xs → AllFrom (floor m) (entered 0 true requested (map told xs))
all_late m [] requested one h = tt
all_late m (x ∷ xs) requested one h = (
  late_head m (requested || true) (either_right requested true refl) x.call x.answer one (h 0 x (omega arith) refl),
  all_late m xs (requested || tells_request x.call (told_answer x.call x.answer)) one (λ k y l at. h (suc k) y (omega arith) at),
)

drop_late : (m : ℕ) (xs : Log) (n : ℕ) (requested : Bool) → 1 ≤ m → From m n xs → AllFrom (floor m) (drop n (entered n true requested (map told xs)))
drop_late m xs zero requested one h = all_late m xs requested one h
drop_late m [] (suc n) requested one h = tt
drop_late m (x ∷ xs) (suc n) requested one h =
    let next : Bool = requested || tells_request x.call (told_answer x.call x.answer) in
    let P : ℕ → Type 0 = λ k. AllFrom (floor m) (drop n (entered k true (requested || tells_request x.call (told_answer x.call x.answer)) (map told xs))) in
    let e : n ≡ suc n - 1 = omega arith in subst P e (drop_late m xs n (requested || tells_request x.call (told_answer x.call x.answer)) one (λ k y l at. h (suc k) y (omega arith) at))

abort_floor : (p : Phase) (m : ℕ) → 1 ≤ m → code p ≤ m → stage p Abort ≤ floor m
abort_floor p zero one l = absurd (omega arith)
abort_floor Running (suc zero) one l = omega arith
abort_floor AbortRequested (suc zero) one l = omega arith
abort_floor Complete (suc zero) one l = absurd (omega arith)
abort_floor Running (suc (suc k)) one l = omega arith
abort_floor AbortRequested (suc (suc k)) one l = omega arith
abort_floor Complete (suc (suc k)) one l = omega arith

-- no answer is a later phase than this
abbrev UpTo : ℕ → Log → Type 0
UpTo m [] = Unit {0}
UpTo m (x ∷ xs) = (code x.answer ≤ m) × UpTo m xs

legal_up_to : (p : Phase) (log : Log) → is_legal_from p log ≡ true → UpTo (code (phase_from p log)) log
legal_up_to p [] h = tt
legal_up_to p (e ∷ es) h = let l = legal_parts p e es h in
    (subst (λ (q : Phase). code q ≤ code (phase_from (after e.call p) es)) (sym l.0) (le_trans (after_rises e.call p) (phase_from_rises (after e.call p) es)), legal_up_to (after e.call p) es l.1)

up_to_if : (m : ℕ) (e : LogEntry Name) (xs : Log) (b : Bool) → code e.answer ≤ m → UpTo m xs → UpTo m (cond b (e ∷ xs) xs)
up_to_if m e xs true l h = (l, h)
up_to_if m e xs false l h = h

up_to_calls : (m : ℕ) (n : Name) (log : Log) → UpTo m log → UpTo m (calls_by n log)
up_to_calls m n [] h = tt
up_to_calls m n (e ∷ es) h = up_to_if m e (calls_by n es) (same_name e.caller n) h.0 (up_to_calls m n es h.1)

aborts_up_to : (m k : ℕ) (n : Name) (ps : List Phase) → 1 ≤ m → UpTo m (map (λ p. entry n Abort p) ps) → AllUpTo (floor m) (map (λ p. entry k Abort p) ps)
aborts_up_to m k n [] one h = tt
aborts_up_to m k n (p ∷ ps) one h = (abort_floor p m one h.0, aborts_up_to m k n ps one h.1)

all_aborts_up_to : (m : ℕ) (ds : List HandleCaller) (rest : List Aborter) → 1 ≤ m → OnlyAborted ds rest → ((i : ℕ) (d : HandleCaller) → get_elem? ds i ≡ some d → UpTo m d.calls) → AllUpTo (floor m) (all_aborts rest)
all_aborts_up_to m [] [] one h up = tt
all_aborts_up_to m [] (a ∷ rest) one h up = absurd h
all_aborts_up_to m (d ∷ ds) [] one h up = absurd h
all_aborts_up_to m (d ∷ ds) (a ∷ rest) one h up =
    up_to_joined (floor m) (aborts_of a) (all_aborts rest) (aborts_up_to m a.0 d.name a.1 one (subst (UpTo m) h.0 (up 0 d refl))) (all_aborts_up_to m ds rest one h.1 (λ i d at. up (suc i) d at))

no_answers : (k : ℕ) (ps : List Phase) → is_any ps ≡ false → map (λ p. entry k Abort p) ps ≡ []
no_answers k [] h = refl
no_answers k (p ∷ ps) h = absurd (grind (arith, h))

no_aborts : (rest : List Aborter) → any_abort rest ≡ false → all_aborts rest ≡ []
no_aborts [] h = refl
no_aborts (a ∷ rest) h = let t = or_parts (is_any a.1) (any_abort rest) h in joined_nil (aborts_of a) (all_aborts rest) (no_answers a.0 a.1 t.0) (no_aborts rest t.1)

module _ (w : PassView) (knows : Knows w) (known : AllKnown w) (own : List CallMade) (aborters : List Aborter) (n : ℕ) (lists : Lists w own aborters) (round : LastRound w n) where
  abbrev run : List (LogEntry ℕ)
  run = entered n (any_abort aborters) false own

  abbrev before : List (LogEntry ℕ)
  before = all_aborts aborters ++ take n run

  late_stages : any_abort aborters ≡ true → AllFrom (floor (code (phase round.early))) (drop n run)
  late_stages any =
      let P : Bool → Type 0 = λ b. AllFrom (floor (code (phase round.early))) (drop n (entered n b false own)) in
      let Q : List CallMade → Type 0 = λ cs. AllFrom (floor (code (phase round.early))) (drop n (entered n true false cs)) in
      subst P (sym any) (subst Q (sym lists.own_calls) (drop_late (code (phase round.early)) w.own.calls n false (past w knows known own aborters n lists round any) (later w knows known own aborters n lists round)))

  abort_stages : any_abort aborters ≡ true → AllUpTo (floor (code (phase round.early))) (all_aborts aborters)
  abort_stages any =
      let legal = (legal_cut Running round.early round.begins.0 (subst IsLegal round.begins.1 knows.legal)).0 in
      all_aborts_up_to (code (phase round.early)) w.met aborters (past w knows known own aborters n lists round any) lists.aborts
      (λ i d at. subst (UpTo (code (phase round.early))) (round.others i d at) (up_to_calls (code (phase round.early)) d.name round.early (legal_up_to Running round.early legal)))

  aborts_first : (y : LogEntry ℕ) (vs : List (LogEntry ℕ)) → drop n run ≡ y ∷ vs → AllUpTo (stage y.answer y.call) (all_aborts aborters)
  aborts_first y vs is = go (any_abort aborters) refl
    where
      go : (b : Bool) → any_abort aborters ≡ b → AllUpTo (stage y.answer y.call) (all_aborts aborters)
      go true any = let P : List (LogEntry ℕ) → Type 0 = AllFrom (floor (code (phase round.early))) in
          up_to_more (floor (code (phase round.early))) (stage y.answer y.call) (all_aborts aborters) (subst P is (late_stages any)).0 (abort_stages any)
      go false none = let P : List (LogEntry ℕ) → Type 0 = AllUpTo (stage y.answer y.call) in subst P (sym (no_aborts aborters none)) tt

  split_entries : (vs : List (LogEntry ℕ)) → drop n run ≡ vs → staged own aborters n ≡ by_stages (before ++ vs)
  split_entries vs is = ap by_stages (ap (λ (z : List (LogEntry ℕ)). all_aborts aborters ++ z) (sym (take-append-drop n run)) ∙ sym (append_assoc (all_aborts aborters) (take n run) (drop n run)) ∙ ap (λ (z : List (LogEntry ℕ)). before ++ z) is)

  last_part : (vs : List (LogEntry ℕ)) → drop n run ≡ vs → by_stages (before ++ vs) ≡ by_stages before ++ vs
  last_part [] is = ap by_stages (append-nil before) ∙ sym (append-nil (by_stages before))
  last_part (y ∷ vs) is =
      let all : Sorted 1 (take n run ++ y ∷ vs) = let P : List (LogEntry ℕ) → Type 0 = Sorted 1 in subst P (sym (take-append-drop n run) ∙ ap (λ (z : List (LogEntry ℕ)). take n run ++ z) is) (run_sorted w knows known own aborters n lists round) in
      let cut = sorted_cut (take n run) y vs 1 all in
      by_stages-last (stage y.answer y.call) before (y ∷ vs) (up_to_joined (stage y.answer y.call) (all_aborts aborters) (take n run) (aborts_first y vs is) cut.0) cut.1
      ∙ ap (λ (z : List (LogEntry ℕ)). by_stages before ++ z) (by_stages-sorted (y ∷ vs) (sorted_less 1 (stage y.answer y.call) (y ∷ vs) (sorted_least (take n run) y vs 1 all) cut.1))

  pub last_calls : staged own aborters n ≡ by_stages before ++ drop n run
  last_calls = split_entries (drop n run) refl ∙ last_part (drop n run) refl
