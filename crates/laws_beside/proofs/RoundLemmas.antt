-- A run beside aborters, one step more; and the live works that are spawned among those that are polled.
use Rattle.std.proofs.Common.{ap, arith, inl, inr, refl, subst, sym, ◌∙◌}
use Rattle.std.proofs.lemmas.Bool.Decides.{nat_tests}
use Rattle.std.proofs.lemmas.Option.{same_Some}
use Rattle.std.specs.Cmp.{unsigned_tied}
use Rattle.std.specs.FinMap.Entries.{below_all, find as seek, is_sorted}
use Rattle.std.specs.Option.{option_map_or}
use Rattle.std.specs.Ordering.{is_lt, nat_cmp}
use Rattle.std.specs.Prelude.{Bool, List, None, Option, Some, T, [], false, if◌then◌else◌, nat_lt, true, ℕ, ◌&&◌, ◌<◌, ◌==◌, ◌∷◌, ◌≡◌, ◌≤◌}
use Rattle.std.specs.declared.cmp.Ordering.TheVariants as ordering
use Rattle.laws_beside.specs.Rounds.{RoundsGoOn, SpawnsAreNext, StepsGoOn, is_going}
use Rattle.laws_beside.proofs.WideLemmas.{wide_run_goes_on}
use Rattle.laws_beside.specs.Wide.{Due, Going, Made, Never, Round, RoundPolls, StepBeside, Wide, WideStep, is_live_spawn, live_spawns_after, next_spawn, settled, wide}
use Rattle.machine_data.specs.Core.{State}
use Rattle.machine_data.specs.Maps.{get}
use Rattle.machine_data.specs.Read.{is_live}
use Rattle.machine_data.specs.declared.label.Label.{Label}
use Rattle.machine_data.specs.declared.label.Label.TheVariants as label
use Rattle.machine_data.specs.declared.label.LoopLabel.TheVariants as loop_label
use Rattle.machine_data.specs.declared.records.Work.{Work}
use Rattle.machine_rules.specs.MainOps.{is_spawn_caller}
use Rattle.machine_rules.specs.Stalled.{Setting}
use Rattle.machine_rules.specs.Works.{first_number, live_after, next_polled, poll_ends}

-- ---- A step more

wide_step : (x : Setting) (s : State) (r : Round) (l : Label) (t : State) → is_going r ≡ false → StepBeside x s l t → WideStep x (wide s r) l (settled x t r)
unfolding WideStep
wide_step x s Never l t out step = (t, (step, refl))
wide_step x s Due l t out step = (t, (step, refl))
wide_step x s (Going n found) l t out step = absurd (cc)
wide_step x s Made l t out step = (t, (step, refl))

pub steps_go_on : StepsGoOn
steps_go_on x w ls s r l t out run step = wide_run_goes_on x w ls (wide s r) l (settled x t r) run (wide_step x s r l t out step)

round_step : (x : Setting) (s : State) (n i : ℕ) (found : Bool) (l : Label) (v : Wide) → next_spawn n s.core ≡ Some i →
    RoundPolls x s found (Some i) l v → WideStep x (wide s (Going n found)) l v
unfolding WideStep
round_step x s n i found l v next polls = subst (λ (o : Option ℕ). RoundPolls x s found o l v) (sym next) polls

pub rounds_go_on : RoundsGoOn
unfolding RoundsGoOn
rounds_go_on x w ls s n i found next run = (
  wide_run_goes_on x w ls (wide s (Going n found)) (label.Loop (loop_label.FuturePends i)) (settled x s (Going i found)) run
      (round_step x s n i found (label.Loop (loop_label.FuturePends i)) (settled x s (Going i found)) next (inl (refl, refl))),
  λ running. wide_run_goes_on x w ls (wide s (Going n found)) (label.Loop (loop_label.FutureAborted i))
      (settled x (record s { core = poll_ends i None s.core }) (Going i true)) run
      (round_step x s n i found (label.Loop (loop_label.FutureAborted i)) (settled x (record s { core = poll_ends i None s.core }) (Going i true)) next
      (inr (running, (refl, refl)))),
)

-- ---- Which spawned work is next

both_of : (a b : Bool) → T (a && b) → T a × T b
both_of true b p = (tt, p)
both_of false b p = absurd p

less_is : (k j : ℕ) → T (is_lt (nat_cmp k j)) → k < j
less_is k j h = by (nat_lt k j) (k == j) refl h
  where
    by : (b c : Bool) → nat_lt k j ≡ b → T (is_lt (if b then ordering.Less else (if c then ordering.Equal else ordering.Greater))) → k < j
    by true c is h = grind (arith, nat_tests, is)
    by false true is h = absurd h
    by false false is h = absurd h

-- past a number, all entries of higher numbers are the same ones
past : (n k : ℕ) (es : List (ℕ × Work)) → n ≤ k → T (below_all nat_cmp k es) → live_spawns_after n es ≡ live_spawns_after k es
past n k [] le below = refl
past n k (e ∷ es) le below =
    let b = both_of (is_lt (nat_cmp k e.0)) (below_all nat_cmp k es) below in
    let above : k < e.0 = less_is k e.0 b.0 in
    let one : nat_lt n e.0 ≡ true = grind (arith, nat_tests, above, le) in
    let two : nat_lt k e.0 ≡ true = grind (arith, nat_tests, above) in
    let rest = past n k es le b.1 in
    ap (λ (t : Bool). if is_live_spawn e.1 && t then e.0 ∷ live_spawns_after n es else live_spawns_after n es) (one ∙ sym two)
    ∙ ap (λ (is : List ℕ). if is_live_spawn e.1 && nat_lt k e.0 then e.0 ∷ is else is) rest

no_spawn : (w : Work) (n k : ℕ) (is : List ℕ) → (is_live w && nat_lt n k) ≡ false → (if is_live_spawn w && nat_lt n k then k ∷ is else is) ≡ is
no_spawn w n k is none = by (is_live w) (is_spawn_caller w.caller) (nat_lt n k) none
  where
    by : (a b c : Bool) → (a && c) ≡ false → (if (a && b) && c then k ∷ is else is) ≡ is
    by true true true h = absurd (cc)
    by true true false h = refl
    by true false c h = refl
    by false b c h = refl

past_number : (w : Work) (n k : ℕ) (is : List ℕ) → nat_lt n k ≡ false → (if is_live_spawn w && nat_lt n k then k ∷ is else is) ≡ is
past_number w n k is none = by (is_live_spawn w) (nat_lt n k) none
  where
    by : (a c : Bool) → c ≡ false → (if a && c then k ∷ is else is) ≡ is
    by true true h = absurd (cc)
    by true false h = refl
    by false c h = refl

at_number : (w : Work) (n k : ℕ) (is : List ℕ) → (is_live w && nat_lt n k) ≡ true → is_spawn_caller w.caller ≡ true →
    (if is_live_spawn w && nat_lt n k then k ∷ is else is) ≡ k ∷ is
at_number w n k is next spawn = by (is_live w) (is_spawn_caller w.caller) (nat_lt n k) next spawn
  where
    by : (a b c : Bool) → (a && c) ≡ true → b ≡ true → (if (a && b) && c then k ∷ is else is) ≡ k ∷ is
    by true true true h s = refl
    by true true false h s = absurd (cc)
    by true false c h s = absurd (cc)
    by false b c h s = absurd (cc)

not_spawn : (w : Work) (n k : ℕ) (is : List ℕ) → is_spawn_caller w.caller ≡ false → (if is_live_spawn w && nat_lt n k then k ∷ is else is) ≡ is
not_spawn w n k is none = by (is_live w) (is_spawn_caller w.caller) (nat_lt n k) none
  where
    by : (a b c : Bool) → b ≡ false → (if (a && b) && c then k ∷ is else is) ≡ is
    by true true c h = absurd (cc)
    by true false c h = refl
    by false b c h = refl

both_true : (a b : Bool) → (a && b) ≡ true → (a ≡ true) × (b ≡ true)
both_true true b e = (refl, e)
both_true false b e = absurd (cc)

none_next : (n : ℕ) (es : List (ℕ × Work)) → first_number (live_after n es) ≡ None → first_number (live_spawns_after n es) ≡ None
none_next n [] h = refl
none_next n (e ∷ es) h = by (is_live e.1 && nat_lt n e.0) refl h (none_next n es)
  where
    by : (b : Bool) → (is_live e.1 && nat_lt n e.0) ≡ b → first_number (if b then e.0 ∷ live_after n es else live_after n es) ≡ None →
        (first_number (live_after n es) ≡ None → first_number (live_spawns_after n es) ≡ None) → first_number (live_spawns_after n (e ∷ es)) ≡ None
    by true is none rest = absurd (cc)
    by false is none rest = ap first_number (no_spawn e.1 n e.0 (live_spawns_after n es) is) ∙ rest none

-- what the entries say of the one that is found
abbrev found_spawn : (es : List (ℕ × Work)) → ℕ → Bool
found_spawn es i = option_map_or (λ (w : Work). is_spawn_caller w.caller) (seek nat_cmp i es) false

seek_first : (e : ℕ × Work) (es : List (ℕ × Work)) → found_spawn (e ∷ es) e.0 ≡ is_spawn_caller e.1.caller
seek_first e es = let same = unsigned_tied e.0 e.0 in grind (arith, nat_tests)

seek_later : (e : ℕ × Work) (es : List (ℕ × Work)) (i : ℕ) → e.0 < i → found_spawn (e ∷ es) i ≡ found_spawn es i
seek_later e es i above = let same = unsigned_tied i e.0 in grind (arith, nat_tests, above)

above_first : (k n : ℕ) (es : List (ℕ × Work)) (i : ℕ) → T (below_all nat_cmp k es) → first_number (live_after n es) ≡ Some i → k < i
above_first k n [] i below h = absurd (cc)
above_first k n (e ∷ es) i below h =
    let b = both_of (is_lt (nat_cmp k e.0)) (below_all nat_cmp k es) below in
    let here = less_is k e.0 b.0 in
    let rest = above_first k n es i b.1 in
    by (is_live e.1 && nat_lt n e.0) h here rest
  where
    by : (t : Bool) → first_number (if t then e.0 ∷ live_after n es else live_after n es) ≡ Some i → k < e.0 → (first_number (live_after n es) ≡ Some i → k < i) → k < i
    by true is here rest = subst (λ (j : ℕ). k < j) (same_Some _ _ is) here
    by false is here rest = rest is

some_next : (n : ℕ) (es : List (ℕ × Work)) (i : ℕ) → T (is_sorted nat_cmp es) → first_number (live_after n es) ≡ Some i →
    (found_spawn es i ≡ true → first_number (live_spawns_after n es) ≡ Some i)
    × (found_spawn es i ≡ false → first_number (live_spawns_after n es) ≡ first_number (live_spawns_after i es))
some_next n [] i sorted h = absurd (cc)
some_next n (e ∷ es) i sorted h =
    let b = both_of (below_all nat_cmp e.0 es) (is_sorted nat_cmp es) sorted in
    by (is_live e.1 && nat_lt n e.0) refl h b.0 (some_next n es i b.1)
  where
    at_first : (is_live e.1 && nat_lt n e.0) ≡ true → T (below_all nat_cmp e.0 es) →
        (found_spawn (e ∷ es) e.0 ≡ true → first_number (live_spawns_after n (e ∷ es)) ≡ Some e.0)
        × (found_spawn (e ∷ es) e.0 ≡ false → first_number (live_spawns_after n (e ∷ es)) ≡ first_number (live_spawns_after e.0 (e ∷ es)))
    at_first is below =
        let above : nat_lt n e.0 ≡ true = (both_true (is_live e.1) (nat_lt n e.0) is).1 in
        let le : n ≤ e.0 = grind (arith, nat_tests, above) in
        let own : nat_lt e.0 e.0 ≡ false = grind (arith, nat_tests) in (
          λ spawn. ap first_number (at_number e.1 n e.0 (live_spawns_after n es) is (sym (seek_first e es) ∙ spawn)),
          λ other. ap first_number (not_spawn e.1 n e.0 (live_spawns_after n es) (sym (seek_first e es) ∙ other)
              ∙ (past n e.0 es le below ∙ sym (past_number e.1 e.0 e.0 (live_spawns_after e.0 es) own))),
        )

    by : (t : Bool) → (is_live e.1 && nat_lt n e.0) ≡ t → first_number (if t then e.0 ∷ live_after n es else live_after n es) ≡ Some i →
        T (below_all nat_cmp e.0 es) →
        (first_number (live_after n es) ≡ Some i → (found_spawn es i ≡ true → first_number (live_spawns_after n es) ≡ Some i)
        × (found_spawn es i ≡ false → first_number (live_spawns_after n es) ≡ first_number (live_spawns_after i es))) →
        (found_spawn (e ∷ es) i ≡ true → first_number (live_spawns_after n (e ∷ es)) ≡ Some i)
        × (found_spawn (e ∷ es) i ≡ false → first_number (live_spawns_after n (e ∷ es)) ≡ first_number (live_spawns_after i (e ∷ es)))
    by true is next below rest =
        subst (λ (j : ℕ). (found_spawn (e ∷ es) j ≡ true → first_number (live_spawns_after n (e ∷ es)) ≡ Some j)
        × (found_spawn (e ∷ es) j ≡ false → first_number (live_spawns_after n (e ∷ es)) ≡ first_number (live_spawns_after j (e ∷ es)))) (same_Some _ _ next) (at_first is below)
    by false is next below rest =
        let above : e.0 < i = above_first e.0 n es i below next in
        let later : nat_lt i e.0 ≡ false = grind (arith, nat_tests, above) in
        let same = seek_later e es i above in
        let here = no_spawn e.1 n e.0 (live_spawns_after n es) is in
        let found = rest next in (
          λ spawn. ap first_number here ∙ found.0 (sym same ∙ spawn),
          λ other. ap first_number here ∙ (found.1 (sym same ∙ other) ∙ sym (ap first_number (past_number e.1 i e.0 (live_spawns_after i es) later))),
        )

pub spawns_are_next : SpawnsAreNext
unfolding next_polled next_spawn get
spawns_are_next n s = (
  none_next n s.works.list,
  λ i next. some_next n s.works.list i s.works.sorted next,
)
