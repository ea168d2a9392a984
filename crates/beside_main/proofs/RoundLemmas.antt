-- The last round, poll by poll.
use Rattle.laws_beside.proofs.CourseLemmas.{round_ends, round_goes}
use Rattle.laws_beside.proofs.RoundLemmas.{spawns_are_next}
use Rattle.laws_beside.specs.Courses.{InRound, IsOn, Own, at_take, polled_label, with_poll}
use Rattle.laws_beside.specs.Own.{calls_from, if_same, number_of}
use Rattle.laws_beside.specs.Wide.{Made, Wide, next_spawn}
use Rattle.beside_main.proofs.CallLemmas.{adds_as, adds_none}
use Rattle.beside_main.proofs.CellLemmas.{cells_then}
use Rattle.beside_main.proofs.FollowLemmas.{follows_poll, follows_same, follows_then}
use Rattle.beside_main.proofs.StepLemmas.{Polls, last_calls, last_noted}
use Rattle.beside_main.specs.Calls.{Follows, NotesOver, ends_work, finish_if}
use Rattle.beside_main.specs.Same.{same_cells}
use Rattle.beside_main.proofs.CourseLemmas.{same_setting}
use Rattle.beside_main.specs.Cells.{KeepsCells}
use Rattle.beside_main.specs.Course.{Able, course, gated_says, place}
use Rattle.beside_main.specs.Round.{Going, Polled, PolledNext, RoundMade}
use Rattle.beside_main.specs.declared.asked.Cells.{Cells}
use Rattle.beside_main.specs.declared.run.BesideRun.{BesideRun}
use Rattle.std.proofs.Common.{ap, arith, refl, subst, sym, ◌∙◌}
use Rattle.std.proofs.lemmas.Option.{same_Some}
use Rattle.std.specs.List.{last_or}
use Rattle.std.specs.Prelude.{Bool, List, None, Option, Some, [], cond, false, true, ℕ, ◌+◌, ◌++◌, ◌∷◌, ◌≡◌}
use Rattle.laws_states.proofs.PolledWorks.{polled_is_live}
use Rattle.task_abort.specs.declared.log.PhaseCall.TheVariants.{Finish, PollFuture}
use Rattle.task_loop.specs.Beside.{HasAskedNext, HasPolledLast}
use Rattle.task_loop.specs.HasRun.{Keeps, MayTakeTurn, state}
use Rattle.machine_data.specs.Core.{Core, Main, MainPlace, Scripted, State}
use Rattle.machine_data.specs.Maps.{get}
use Rattle.machine_data.specs.Read.{work_caller_of}
use Rattle.machine_data.specs.declared.component.Component.{Component}
use Rattle.machine_data.specs.declared.label.Label.{Label}
use Rattle.machine_data.specs.declared.records.Turn.TheVariants as turn
use Rattle.machine_data.specs.declared.records.Work.{Work}
use Rattle.machine_data.specs.declared.records.WorkCaller.{WorkCaller}
use Rattle.machine_data.specs.declared.records.WorkCaller.TheVariants as callers
use Rattle.machine_rules.specs.MainOps.{is_spawn, is_spawn_caller, spawned_at}
use Rattle.machine_rules.specs.Stalled.{Setting}
use Rattle.machine_rules.specs.Works.{next_polled}
use Rattle.task_run.specs.Script.{part_of, place_of}
use Rattle.ops_turns.specs.Turn.{is_open, runs_in}
use Rattle.core_primitives.specs.Live.{live_work_caller}
use Rattle.core_primitives.specs.Names.{work_caller_in}
use Rattle.core_primitives.specs.StateView.{Tags}
use Rattle.core_primitives.specs.declared.names.WorkCallerId.{WorkCallerId}

-- ---- Which works are the round's

-- a live work is one that main has spawned, or none
pub spawn_by_caller : (n i : ℕ) (s : Core) → next_polled n s ≡ Some i → is_spawn i s ≡ is_spawn_caller (work_caller_of i s)
spawn_by_caller n i s next = by (get s.works i) refl
  where
    by : (o : Option Work) → get s.works i ≡ o → is_spawn i s ≡ is_spawn_caller (work_caller_of i s)
    by None at = absurd (grind (arith, at, polled_is_live n s i next))
    by (Some w) at = grind (arith, at)

pub spawn_next : (n i : ℕ) (s : Core) → next_polled n s ≡ Some i → is_spawn i s ≡ true → next_spawn n s ≡ Some i
spawn_next n i s next spawn = ((spawns_are_next n s).1 i next).0 spawn

pub other_next : (n i : ℕ) (s : Core) → next_polled n s ≡ Some i → is_spawn i s ≡ false → next_spawn n s ≡ next_spawn i s
other_next n i s next other = ((spawns_are_next n s).1 i next).1 other

pub none_next : (n : ℕ) (s : Core) → next_polled n s ≡ None → next_spawn n s ≡ None
none_next n s none = (spawns_are_next n s).0 none

-- a work is a spawn as its id says
pub caller_told : (tags : Tags) (r : WorkCallerId) (w : WorkCaller) (s : Core) → work_caller_in tags r ≡ live_work_caller w s → is_spawn_caller (work_caller_in tags r) ≡ is_spawn_caller w
caller_told tags r callers.Spawn s is = ap is_spawn_caller is
caller_told tags r (callers.Async n q) s is = ap is_spawn_caller is
caller_told tags r (callers.Sync n) s is = ap is_spawn_caller is

module _ {E : Type 0} (c : Component) where
  -- one poll more
  pub polls_on : (x : Setting) (w : Wide) (n i : ℕ) (found ended : Bool) (steps : ℕ) (own : Own) (a b : BesideRun E) → Going c x w n found steps own a →
      next_spawn n a.store.state.core ≡ Some i → Polled c i ended a b →
      Going c x w i (cond ended true found) steps (with_poll x (at_take (state gated_says course c (place a))) (polled_label ended i) own) b
  polls_on x w n i found ended steps own a b going next polled = record {
    round = subst (λ (ls : List Label). InRound x w i (cond ended true found) steps b.left (with_poll x (at_take s) (polled_label ended i) own) ls (state gated_says course c (place b))) (sym polled.trace)
        (round_goes x w n i found ended steps b.left own a.trace s (state gated_says course c (place b))
        (subst (λ (k : ℕ). InRound x w n found steps k own a.trace s) (sym polled.left) going.round) next polled.running
        (ap (λ m. part_of m.script) polled.main) polled.core);
    turn = polled.turn ∙ by ended;
  }
    where
      s : State
      s = state gated_says course c (place a)

      by : (e : Bool) → cond e turn.Main (place a).turn ≡ cond (cond e true found) turn.Main (turn.Take false)
      by true = refl
      by false = going.turn

  pub goes_past : (x : Setting) (w : Wide) (n : ℕ) (found : Bool) (steps : ℕ) (own : Own) (a : BesideRun E) → Going c x w n found steps own a → next_spawn n a.store.state.core ≡ None →
      IsOn x w Made steps a.left own a.trace (state gated_says course c (place a))
  goes_past x w n found steps own a going none = round_ends x w n found steps a.left own a.trace (state gated_says course c (place a)) going.round none going.turn

  -- ---- One poll

  -- it pends, or another thread's abort was found
  pub polled_last : (polled : ℕ) (a b : BesideRun E) (mid : Cells) → (able : Able c a) → b.left + 1 ≡ a.left → b.main ≡ a.main → KeepsCells a.cells.list.items b.cells.list.items →
      Keeps gated_says (place a) (place b) → HasPolledLast gated_says course c (HasAskedNext Polls a.store.state.core (next_polled polled a.store.state.core) a.main a.cells mid) polled (place a) (place b) →
      mid.spawns ≡ a.cells.spawns → b.cells.spawns ≡ mid.spawns → NotesOver (ends_work (last_or None b.trace)) mid b.cells → PolledNext c polled a b
  polled_last polled a b mid able less main cells keeps polls same kept over = (
    polls.number,
    (
      polls.found,
      (
        polls.next,
        record {
          able = record {
            may = record {
              covered = able.may.covered;
              may_turn = subst (λ (x : Setting). MayTakeTurn gated_says course c x (place b)) (sym (same_setting c (place a) (place b) keeps)) polls.may_turn;
              unfinished = ap is_open polls.turn ∙ still_open polls.found;
              few = let more = polls.few in let first = able.few in omega (arith, more, first, less);
            };
            few = let more = polls.few in let first = able.few in omega (arith, more, first, less);
            noted = last_noted c a able polls.number polls.found b mid main same kept over.1 polls.running polls.core;
          };
          cells = cells;
          main = main;
          idle = keeps.idle;
          concurrent = ap (λ (p : Bool × (Bool × ℕ)). p.1.0) keeps.constants;
          left = less;
          trace = polls.trace;
          turn = polls.turn;
          core = polls.core;
          running = polls.running;
          calls = last_calls c a able polled polls.number polls.found b mid polls.next polls.asked polls.trace over;
        },
      ),
    ),
  )
    where
      still_open : (e : Bool) → is_open (cond e turn.Main (place a).turn) ≡ true
      still_open true = refl
      still_open false = able.may.unfinished

-- the calls of a poll are what its label shows
poll_shows : (x : Setting) (s : State) (p : MainPlace) (i : ℕ) (found : Bool) (k : ℕ) → s.main ≡ Scripted p →
    if_same i (spawned_at p k) (PollFuture ∷ finish_if found) ≡ calls_from x k (at_take s) (polled_label found i)
poll_shows x s p i true k main = ap (λ (m : Main). if_same i (number_of k m) (PollFuture ∷ Finish ∷ [])) (sym main)
poll_shows x s p i false k main = ap (λ (m : Main). if_same i (number_of k m) (PollFuture ∷ [])) (sym main)

-- ---- The round, poll by poll

-- the works with numbers up to `polled` were polled, if they are spawns
pub record RoundGoes {E : Type 0} (c : Component) (polled : ℕ) (a b : BesideRun E) : Type 0 where
  pub able : Able c b
  pub beside : runs_in (place b).turn ≡ None
  pub cells : KeepsCells a.cells.list.items b.cells.list.items
  pub main : b.main ≡ a.main
  pub idle : b.run.trap_on_idle ≡ a.run.trap_on_idle
  pub concurrent : b.store.concurrent ≡ a.store.concurrent
  pub on : (x : Setting) (w : Wide) (steps : ℕ) (own : Own) → Going c x w 0 false steps own a →
      (n : ℕ) × ((found : Bool) × ((after : Own) × (Going c x w n found steps after b
      × ((next_spawn n b.store.state.core ≡ next_spawn polled b.store.state.core) × Follows Made own after a.cells.list.items b.cells.list.items))))

module _ {E : Type 0} (c : Component) where
  pub round_starts : (a : BesideRun E) → Able c a → (place a).turn ≡ turn.Take false → RoundGoes c 0 a a
  round_starts a able at = record {
    able = able;
    beside = ap runs_in at;
    cells = same_cells a.cells.list.items;
    main = refl;
    idle = refl;
    concurrent = refl;
    on = λ x w steps own going. (0, (false, (own, (going, (refl, follows_same Made own a.cells.list.items a.cells.list.items (adds_none (λ k. []) 1 a.cells.list.items (λ k le. refl)))))));
  }

  pub round_skips : (polled i : ℕ) (a b : BesideRun E) → RoundGoes c polled a b → next_polled polled b.store.state.core ≡ Some i → is_spawn i b.store.state.core ≡ false → RoundGoes c i a b
  round_skips polled i a b goes next other = record {
    able = goes.able;
    beside = goes.beside;
    cells = goes.cells;
    main = goes.main;
    idle = goes.idle;
    concurrent = goes.concurrent;
    on = λ x w steps own going.
        let q = goes.on x w steps own going in (q.0, (q.1.0, (q.1.1.0, (q.1.1.1.0, (q.1.1.1.1.0 ∙ other_next polled i b.store.state.core next other, q.1.1.1.1.1)))));
  }

  pub round_polls : (polled i : ℕ) (found : Bool) (a b d : BesideRun E) → RoundGoes c polled a b → next_polled polled b.store.state.core ≡ Some i → is_spawn i b.store.state.core ≡ true →
      Polled c i found b d → RoundGoes c i a d
  round_polls polled i found a b d goes next spawn polls = record {
    able = polls.able;
    beside = ap runs_in polls.turn ∙ by found;
    cells = cells_then a.cells.list.items b.cells.list.items d.cells.list.items goes.cells polls.cells;
    main = polls.main ∙ goes.main;
    idle = polls.idle ∙ goes.idle;
    concurrent = polls.concurrent ∙ goes.concurrent;
    on = λ x w steps own going.
        let q = goes.on x w steps own going in
        let here : next_spawn q.0 b.store.state.core ≡ Some i = q.1.1.1.1.0 ∙ spawn_next polled i b.store.state.core next spawn in
        let s = state gated_says course c (place b) in
        let adds = adds_as _ (λ k. calls_from x k (at_take s) (polled_label found i)) 1 b.cells.list.items d.cells.list.items (λ k le. poll_shows x s (place_of b.main.script) i found k refl) polls.calls in
        let after = with_poll x (at_take s) (polled_label found i) q.1.1.0 in (
          i,
          (
            cond found true q.1.0,
            (
              after,
              (
                polls_on c x w q.0 i q.1.0 found steps q.1.1.0 b d q.1.1.1.0 here polls,
                (
                  refl,
                  follows_then Made own q.1.1.0 after a.cells.list.items b.cells.list.items d.cells.list.items q.1.1.1.1.1
                      (follows_poll x (at_take s) (polled_label found i) q.1.1.0 b.cells.list.items d.cells.list.items adds),
                ),
              ),
            ),
          ),
        );
  }
    where
      by : (e : Bool) → runs_in (cond e turn.Main (place b).turn) ≡ None
      by true = refl
      by false = goes.beside

  -- it is the one that is next
  pub round_polls_next : (polled i : ℕ) (a b d : BesideRun E) → RoundGoes c polled a b → next_polled polled b.store.state.core ≡ Some i → is_spawn i b.store.state.core ≡ true →
      PolledNext c polled b d → RoundGoes c i a d
  round_polls_next polled i a b d goes next spawn q =
      let same : q.0 ≡ i = same_Some q.0 i (sym q.1.1.0 ∙ next) in
      round_polls polled i q.1.0 a b d goes next spawn (subst (λ (k : ℕ). Polled c k q.1.0 b d) same q.1.1.1)

  pub round_over : (polled : ℕ) (a b : BesideRun E) → RoundGoes c polled a b → next_polled polled b.store.state.core ≡ None → RoundMade c true a b
  round_over polled a b goes none = record {
    able = goes.able;
    cells = goes.cells;
    main = goes.main;
    idle = goes.idle;
    concurrent = goes.concurrent;
    cut = λ is. absurd (cc);
    on = λ x w steps own going.
        let q = goes.on x w steps own going in
        (q.0, (q.1.0, (q.1.1.0, (q.1.1.1.0, (λ is. q.1.1.1.1.0 ∙ none_next polled b.store.state.core none, (λ is. absurd (cc), q.1.1.1.1.1))))));
  }

  pub round_cut : (polled i : ℕ) (a b : BesideRun E) → RoundGoes c polled a b → next_polled polled b.store.state.core ≡ Some i → is_spawn i b.store.state.core ≡ true → b.left ≡ 0 → RoundMade c false a b
  round_cut polled i a b goes next spawn left = record {
    able = goes.able;
    cells = goes.cells;
    main = goes.main;
    idle = goes.idle;
    concurrent = goes.concurrent;
    cut = λ is. left;
    on = λ x w steps own going.
        let q = goes.on x w steps own going in
        (q.0, (q.1.0, (q.1.1.0, (q.1.1.1.0, (λ is. absurd (cc), (λ is. (i, q.1.1.1.1.0 ∙ spawn_next polled i b.store.state.core next spawn), q.1.1.1.1.1))))));
  }
