-- The calls of one step on the cells, by the turn in which it is made, and the spawns after it.
use Rattle.beside_main.proofs.CallLemmas.{adds_as, adds_none, adds_then, last_append}
use Rattle.beside_main.proofs.SpawnedLemmas.{ended_made}
use Rattle.beside_main.specs.Calls.{Adds, AreNoted, CallsMade, HasPolledCell, IsOpenLast, IsRising, NotesOver, PollsCell, ends_work, finish_if, on_last}
use Rattle.beside_main.specs.Course.{Able, HasNoted, StepCalls, course, gated_says, place}
use Rattle.beside_main.specs.declared.asked.Cells.{Cells}
use Rattle.beside_main.specs.declared.main_task.GatedMain.{GatedMain}
use Rattle.beside_main.specs.declared.run.BesideRun.{BesideRun}
use Rattle.beside_main.specs.declared.spawns.Spawns.{Spawns as Spawned}
use Rattle.beside_works.specs.declared.cells.SharedSpawn.{SharedSpawn}
use Rattle.laws_beside.proofs.OutcomeLemmas.{runs_show_a_label}
use Rattle.laws_beside.proofs.ShownLemmas.{others_call_none, polls_call, scripts_call}
use Rattle.laws_beside.specs.Courses.{polled_label}
use Rattle.laws_beside.specs.Own.{calls_from, if_same, number_of}
use Rattle.laws_beside.specs.Shown.{calls_of_op, finish_of, is_calling}
use Rattle.laws_beside.specs.Wide.{AbortedAt, FindsAbort, FindsRequest, RequestedAt, RequestedBy, StepBeside, is_running_spawn}
use Rattle.laws_order.proofs.LiveLemmas.{next_above}
use Rattle.machine_data.specs.Core.{Core, Main, MainPlace, Scripted, State}
use Rattle.machine_data.specs.declared.component.Component.{Component}
use Rattle.machine_data.specs.declared.label.Label.{Label}
use Rattle.machine_data.specs.declared.outcome.Outcome.{Outcome}
use Rattle.machine_data.specs.declared.records.Turn.{Turn}
use Rattle.machine_data.specs.declared.records.Turn.TheVariants as turn
use Rattle.machine_data.specs.declared.scenario.MainOpDef.{MainOpDef}
use Rattle.machine_data.specs.declared.scenario.MainOpDef.TheVariants as main_op
use Rattle.machine_rules.specs.MainOps.{op_at, spawned_at}
use Rattle.machine_rules.specs.Outcome.{IsOutcome, is_at_rest}
use Rattle.machine_rules.specs.Stalled.{Setting, is_idle, is_stalled}
use Rattle.machine_rules.specs.Step.{FuturesStep, Polled, Step, TurnStep}
use Rattle.machine_rules.specs.Works.{Asked, Ends, FailsNow, Poll, StillPends, next_polled, poll_ends, poll_of}
use Rattle.std.proofs.Common.{ap, arith, inl, inr, refl, subst, sym, ◌∙◌}
use Rattle.std.proofs.lemmas.List.{append-nil}
use Rattle.std.specs.List.{last_or}
use Rattle.std.specs.Prelude.{Bool, List, None, Option, Some, [], cond, false, true, ℕ, ◌++◌, ◌+◌, ◌∷◌, ◌≡◌, ◌≤◌}
use Rattle.task_abort.specs.declared.log.PhaseCall.{PhaseCall}
use Rattle.task_abort.specs.declared.log.PhaseCall.TheVariants.{PollFuture}
use Rattle.task_loop.specs.Beside.{HasAskedAt, HasAskedNext}
use Rattle.task_loop.specs.HasRun.{setting, state}
use Rattle.ops_turns.specs.StepResult.{turn_of}
use Rattle.task_run.specs.Asked.{op_of}
use Rattle.task_run.specs.Script.{place_of}
use Rattle.task_run.specs.declared.script.ScriptMain.{ScriptMain}

-- ---- The label that was added last

last_added : (o : Option Label) (ls : List Label) (l : Label) → last_or o (ls ++ l ∷ []) ≡ Some l
last_added o [] l = refl
last_added o (x ∷ ls) l = last_added (Some x) ls l

ends_added : (ls ks : List Label) (l : Label) → ks ≡ ls ++ l ∷ [] → ends_work (last_or None ks) ≡ ends_work (Some l)
ends_added ls ks l is = ap (λ (es : List Label). ends_work (last_or None es)) is ∙ ap ends_work (last_added None ls l)

-- ---- No turn of main or of polls is at rest

no_rest_main : (y : Setting) (s : State) → s.turn ≡ turn.Main → is_at_rest y s ≡ false
unfolding is_at_rest is_stalled is_idle
no_rest_main y s at = rw at refl

no_rest_polls : (y : Setting) (s : State) (n : ℕ) → s.turn ≡ turn.Futures n → is_at_rest y s ≡ false
unfolding is_at_rest is_stalled is_idle
no_rest_polls y s n at = rw at refl

-- ---- The calls of a step, by its turn

no_call : (o : Option ℕ) (over : Bool) (k : ℕ) → o ≡ None → on_last o (finish_if over) k ≡ []
no_call o over k none = ap (λ (p : Option ℕ). on_last p (finish_if over) k) none

abbrev pub Polls : {E : Type 0} → ℕ → (running found : Bool) → GatedMain E → (a b : Cells) → Type 0
Polls i running found m a b = PollsCell i m.script a b

abbrev pub Turns : {E : Type 0} → GatedMain E → (a b : Cells) → Type 0
Turns m a b = CallsMade (λ k. calls_of_op k (op_of m.script)) a b

-- what was asked in a step of this run
abbrev pub WasAsked : {E : Type 0} → BesideRun E → Cells → Bool → Type 0
WasAsked a mid = HasAskedAt Polls Turns (turn_of a.run.last) a.store.state.core a.main a.cells mid

-- main's turn
request_calls : (x : Setting) (s : State) (p : MainPlace) (o : Option MainOpDef) (l : Label) (t : State) (k : ℕ) → FindsRequest s p o l t → calls_from x k s l ≡ calls_of_op k o
request_calls x s p (Some (main_op.Abort j)) l t k found = ap (calls_from x k s) found.1.0
request_calls x s p o l t k found = absurd found

main_calls : (x : Setting) (s : State) (p : MainPlace) (l : Label) (t : State) (k : ℕ) → s.turn ≡ turn.Main → s.main ≡ Scripted p → StepBeside x s l t → calls_from x k s l ≡ calls_of_op k (op_at x.script p)
unfolding StepBeside
main_calls x s p l t k at main (inl step) = scripts_call x s p l t k at main step
main_calls x s p l t k at main (inr (inl found)) = absurd (subst (λ (u : Turn). AbortedAt s u l t) at found)
main_calls x s p l t k at main (inr (inr found)) =
    let here : RequestedBy x s s.main l t = subst (λ (u : Turn). RequestedAt x s u l t) at found in
    request_calls x s p (op_at x.script p) l t k (subst (λ (m : Main). RequestedBy x s m l t) main here)

-- a turn of polls
polled_none : (x : Setting) (s : State) (n : ℕ) (l : Label) (t : State) → s.turn ≡ turn.Futures n → next_polled n s.core ≡ None → StepBeside x s l t → ⊥
unfolding StepBeside Step
polled_none x s n l t at none (inl step) = subst (λ (o : Option ℕ). FuturesStep s o l t) none (subst (λ (u : Turn). TurnStep x s u l t) at step)
polled_none x s n l t at none (inr (inl found)) = subst (λ (o : Option ℕ). FindsAbort s o l t) none (subst (λ (u : Turn). AbortedAt s u l t) at found)
polled_none x s n l t at none (inr (inr found)) = subst (λ (u : Turn). RequestedAt x s u l t) at found

-- it calls a poll, and that the work is over exactly if its label says so
abbrev IsPollCall : Setting → State → ℕ → Label → Type 0
IsPollCall x s i l = (k : ℕ) → calls_from x k s l ≡ if_same i (number_of k s.main) (PollFuture ∷ finish_if (ends_work (Some l)))

aborted_call : (x : Setting) (s : State) (i : ℕ) (l : Label) (t : State) → FindsAbort s (Some i) l t → IsPollCall x s i l
aborted_call x s i l t found k = subst (λ (m : Label). calls_from x k s m ≡ if_same i (number_of k s.main) (PollFuture ∷ finish_if (ends_work (Some m)))) (sym found.1.0) refl

own_ends : (s : State) (i : ℕ) (p : Poll) (l : Label) (t : State) → Polled s i p l t → finish_of l ≡ finish_if (ends_work (Some l))
own_ends s i (StillPends host) l t is = subst (λ (m : Label). finish_of m ≡ finish_if (ends_work (Some m))) (sym is.0) refl
own_ends s i (Ends v) l t is = subst (λ (m : Label). finish_of m ≡ finish_if (ends_work (Some m))) (sym is.0) refl
own_ends s i FailsNow l t is = subst (λ (m : Label). finish_of m ≡ finish_if (ends_work (Some m))) (sym is.0) refl
own_ends s i (Asked next) l t is = own_ends s i (next is.0) l t is.1

poll_call : (x : Setting) (s : State) (n i : ℕ) (l : Label) (t : State) → s.turn ≡ turn.Futures n → next_polled n s.core ≡ Some i → StepBeside x s l t → IsPollCall x s i l
unfolding StepBeside Step
poll_call x s n i l t at next (inl step) k =
    let polled : Polled s i (poll_of i s.core) l t = subst (λ (o : Option ℕ). FuturesStep s o l t) next (subst (λ (u : Turn). TurnStep x s u l t) at step) in
    polls_call x s n i l t k at next step ∙ ap (λ (cs : List PhaseCall). if_same i (number_of k s.main) (PollFuture ∷ cs)) (own_ends s i (poll_of i s.core) l t polled)
poll_call x s n i l t at next (inr (inl found)) k =
    aborted_call x s i l t (subst (λ (o : Option ℕ). FindsAbort s o l t) next (subst (λ (u : Turn). AbortedAt s u l t) at found)) k
poll_call x s n i l t at next (inr (inr found)) k = absurd (subst (λ (u : Turn). RequestedAt x s u l t) at found)

-- another turn
others_none : (x : Setting) (s : State) (l : Label) (t : State) (k : ℕ) (u : Turn) → s.turn ≡ u → is_calling u ≡ false → StepBeside x s l t → calls_from x k s l ≡ []
unfolding StepBeside
others_none x s l t k u at other (inl step) = others_call_none x s l t k (ap is_calling at ∙ other) step
others_none x s l t k u at other (inr (inl found)) = absurd (none_aborted u other (subst (λ (v : Turn). AbortedAt s v l t) at found))
  where
    none_aborted : (v : Turn) → is_calling v ≡ false → AbortedAt s v l t → ⊥
    none_aborted turn.Main other found = found
    none_aborted (turn.Futures n) other found = absurd (cc)
    none_aborted (turn.Take b) other found = found
    none_aborted (turn.Run n) other found = found
    none_aborted turn.Over other found = found
others_none x s l t k u at other (inr (inr found)) = absurd (none_requested u other (subst (λ (v : Turn). RequestedAt x s v l t) at found))
  where
    none_requested : (v : Turn) → is_calling v ≡ false → RequestedAt x s v l t → ⊥
    none_requested turn.Main other found = absurd (cc)
    none_requested (turn.Futures n) other found = found
    none_requested (turn.Take b) other found = found
    none_requested (turn.Run n) other found = found
    none_requested turn.Over other found = found

module _ {E : Type 0} (c : Component) (a : BesideRun E) (able : Able c a) where
  abbrev x : Setting
  x = setting gated_says course c (place a)

  abbrev s : State
  s = state gated_says course c (place a)

  abbrev m : ScriptMain
  m = a.main.script

  abbrev p : MainPlace
  p = place_of a.main.script

  -- ---- What was asked

  polls_here : (n i : ℕ) (mid : Cells) → next_polled n s.core ≡ Some i → PollsCell i m a.cells mid → HasPolledCell i p a.cells mid
  polls_here n i mid next polls =
      let above = next_above n i s.core next in polls (omega (arith, above)) able.noted.noted s.core.made.works able.noted.rising

  next_open : (n : ℕ) (o : Option ℕ) (mid : Cells) (found : Bool) → next_polled n s.core ≡ o → HasAskedNext Polls s.core o a.main a.cells mid found → IsOpenLast mid.polled mid.list.items
  next_open n None mid found next asked = subst (λ (d : Cells). IsOpenLast d.polled d.list.items) (sym asked) (none_open a.cells.polled able.noted.none)
    where
      none_open : (o : Option ℕ) → o ≡ None → IsOpenLast o a.cells.list.items
      none_open o none = subst (λ (q : Option ℕ). IsOpenLast q a.cells.list.items) (sym none) tt
  next_open n (Some i) mid found next asked = (polls_here n i mid next asked).still

  same_open : (mid : Cells) → mid.polled ≡ a.cells.polled → IsOpenLast mid.polled mid.list.items
  same_open mid same = subst (λ (q : Option ℕ). IsOpenLast q mid.list.items) (sym (same ∙ able.noted.none)) tt

  pub asked_open : (u : Turn) (mid : Cells) (found : Bool) → HasAskedAt Polls Turns u s.core a.main a.cells mid found → IsOpenLast mid.polled mid.list.items
  asked_open turn.Main mid found asked = same_open mid asked.1
  asked_open (turn.Futures n) mid found asked = next_open n (next_polled n s.core) mid found refl asked
  asked_open (turn.Take b) mid found asked = same_open mid (ap (λ (d : Cells). d.polled) asked)
  asked_open (turn.Run n) mid found asked = same_open mid (ap (λ (d : Cells). d.polled) asked)
  asked_open turn.Over mid found asked = same_open mid (ap (λ (d : Cells). d.polled) asked)

  -- ---- The calls of a step

  module _ (mid : Cells) (ls : List Label) (news : List SharedSpawn) (over : Adds (on_last mid.polled (finish_if (ends_work (last_or None ls)))) 1 mid.list.items news) where
    abbrev Made : Label → Type 0
    Made l = Adds (λ k. calls_from x k s l) 1 a.cells.list.items news

    abbrev ends : ℕ → List PhaseCall
    ends k = on_last mid.polled (finish_if (ends_work (last_or None ls))) k

    made_at_main : (l : Label) (t : State) → s.turn ≡ turn.Main → Turns a.main a.cells mid → StepBeside x s l t → Made l
    made_at_main l t at asked step =
        adds_as (λ k. calls_of_op k (op_of m) ++ ends k) (λ k. calls_from x k s l) 1 a.cells.list.items news
        (λ k le. ap (λ (cs : List PhaseCall). calls_of_op k (op_of m) ++ cs) (no_call mid.polled (ends_work (last_or None ls)) k (asked.1 ∙ able.noted.none))
        ∙ (append-nil (calls_of_op k (op_of m)) ∙ sym (main_calls x s p l t k at refl step)))
        (adds_then (λ k. calls_of_op k (op_of m)) ends 1 a.cells.list.items mid.list.items news asked.0 over)

    made_in_polls : (n i : ℕ) (l : Label) (t : State) → s.turn ≡ turn.Futures n → next_polled n s.core ≡ Some i → HasPolledCell i p a.cells mid → ls ≡ a.trace ++ l ∷ [] → StepBeside x s l t → Made l
    made_in_polls n i l t at next polled is step =
        let done : List PhaseCall = finish_if (ends_work (Some l)) in
        adds_as (λ k. on_last mid.polled (PollFuture ∷ []) k ++ ends k) (λ k. calls_from x k s l) 1 a.cells.list.items news
        (λ k le. ap (λ (b : Bool). on_last mid.polled (PollFuture ∷ []) k ++ on_last mid.polled (finish_if b) k) (ends_added a.trace ls l is)
        ∙ (sym (last_append mid.polled (PollFuture ∷ []) done k) ∙ (sym (polled.spawn k (PollFuture ∷ done) le) ∙ sym (poll_call x s n i l t at next step k))))
        (adds_then (on_last mid.polled (PollFuture ∷ [])) ends 1 a.cells.list.items mid.list.items news polled.adds over)

    -- where nothing was asked
    kept : mid ≡ a.cells → Adds (λ k. []) 1 a.cells.list.items news
    kept same =
        adds_as ends (λ k. []) 1 a.cells.list.items news (λ k le. no_call mid.polled (ends_work (last_or None ls)) k (ap (λ (d : Cells). d.polled) same ∙ able.noted.none))
        (subst (λ (d : Cells). Adds ends 1 d.list.items news) same over)

    made_elsewhere : (u : Turn) (l : Label) (t : State) → s.turn ≡ u → is_calling u ≡ false → mid ≡ a.cells → StepBeside x s l t → Made l
    made_elsewhere u l t at other same step = adds_as (λ k. []) (λ k. calls_from x k s l) 1 a.cells.list.items news (λ k le. sym (others_none x s l t k u at other step)) (kept same)

    made_next : (n : ℕ) (o : Option ℕ) (found : Bool) (l : Label) (t : State) → s.turn ≡ turn.Futures n → next_polled n s.core ≡ o → HasAskedNext Polls s.core o a.main a.cells mid found → ls ≡ a.trace ++ l ∷ [] → StepBeside x s l t → Made l
    made_next n None found l t at next asked is step = absurd (polled_none x s n l t at next step)
    made_next n (Some i) found l t at next asked is step = made_in_polls n i l t at next (polls_here n i mid next asked) is step

    made_at : (u : Turn) (found : Bool) → s.turn ≡ u → HasAskedAt Polls Turns u s.core a.main a.cells mid found → (l : Label) (t : State) → StepBeside x s l t → ls ≡ a.trace ++ l ∷ [] → Made l
    made_at turn.Main found at asked l t step is = made_at_main l t at asked step
    made_at (turn.Futures n) found at asked l t step is = made_next n (next_polled n s.core) found l t at refl asked is step
    made_at (turn.Take b) found at asked l t step is = made_elsewhere (turn.Take b) l t at refl asked step
    made_at (turn.Run n) found at asked l t step is = made_elsewhere (turn.Run n) l t at refl asked step
    made_at turn.Over found at asked l t step is = made_elsewhere turn.Over l t at refl asked step

    none_at : (u : Turn) (found : Bool) → s.turn ≡ u → HasAskedAt Polls Turns u s.core a.main a.cells mid found → (o : Outcome) → IsOutcome x s [] 1 o → Adds (λ k. []) 1 a.cells.list.items news
    none_at turn.Main found at asked o is = absurd (runs_show_a_label x s [] o (no_rest_main x s at) refl is)
    none_at (turn.Futures n) found at asked o is = absurd (runs_show_a_label x s [] o (no_rest_polls x s n at) refl is)
    none_at (turn.Take b) found at asked o is = kept asked
    none_at (turn.Run n) found at asked o is = kept asked
    none_at turn.Over found at asked o is = kept asked

  -- so the cells list them
  pub step_calls : (b : BesideRun E) (mid : Cells) (found : Bool) → HasAskedAt Polls Turns s.turn s.core a.main a.cells mid found → NotesOver (ends_work (last_or None b.trace)) mid b.cells → StepCalls c 1 a b
  step_calls b mid found asked over = record {
    one = λ some l t step is. made_at mid b.trace b.cells.list.items over.0 s.turn found refl asked l t step is;
    none = λ o is. none_at mid b.trace b.cells.list.items over.0 s.turn found refl asked o is;
  }

  -- and none, where no step was taken
  pub no_calls : (b : BesideRun E) → b.cells ≡ a.cells → StepCalls c 0 a b
  no_calls b same = record {
    one = λ some. absurd (omega (arith, some));
    none = λ o is. subst (λ (d : Cells). Adds (λ k. []) 1 a.cells.list.items d.list.items) (sym same) (adds_none (λ k. []) 1 a.cells.list.items (λ j le. refl));
  }

  -- ---- A poll of the last round

  found_ends : (found : Bool) (i : ℕ) → ends_work (Some (polled_label found i)) ≡ found
  found_ends true i = refl
  found_ends false i = refl

  pub last_calls : (n i : ℕ) (found : Bool) (b : BesideRun E) (mid : Cells) → next_polled n s.core ≡ Some i → HasAskedNext Polls s.core (next_polled n s.core) a.main a.cells mid found →
      b.trace ≡ a.trace ++ polled_label found i ∷ [] → NotesOver (ends_work (last_or None b.trace)) mid b.cells →
      Adds (λ k. if_same i (spawned_at p k) (PollFuture ∷ finish_if found)) 1 a.cells.list.items b.cells.list.items
  last_calls n i found b mid next asked is over =
      let polled = polls_here n i mid next (subst (λ (o : Option ℕ). HasAskedNext Polls s.core o a.main a.cells mid found) next asked) in
      let ends : ends_work (last_or None b.trace) ≡ found = ends_added a.trace b.trace (polled_label found i) is ∙ found_ends found i in
      adds_as (λ k. on_last mid.polled (PollFuture ∷ []) k ++ on_last mid.polled (finish_if (ends_work (last_or None b.trace))) k) (λ k. if_same i (spawned_at p k) (PollFuture ∷ finish_if found)) 1 a.cells.list.items b.cells.list.items
      (λ k le. ap (λ (e : Bool). on_last mid.polled (PollFuture ∷ []) k ++ on_last mid.polled (finish_if e) k) ends
      ∙ (sym (last_append mid.polled (PollFuture ∷ []) (finish_if found) k) ∙ sym (polled.spawn k (PollFuture ∷ finish_if found) le)))
      (adds_then (on_last mid.polled (PollFuture ∷ [])) (on_last mid.polled (finish_if (ends_work (last_or None b.trace)))) 1 a.cells.list.items mid.list.items b.cells.list.items polled.adds over.0)

  pub last_open : (n : ℕ) (mid : Cells) (found : Bool) → HasAskedNext Polls s.core (next_polled n s.core) a.main a.cells mid found → IsOpenLast mid.polled mid.list.items
  last_open n mid found asked = next_open n (next_polled n s.core) mid found refl asked

  last_made : (i : ℕ) (found : Bool) (core : Core) → (found ≡ true → is_running_spawn i s.core ≡ true) → core ≡ cond found (poll_ends i None s.core) s.core → core.made.works ≡ s.core.made.works
  last_made i true core running is = ap (λ (k : Core). k.made.works) is ∙ ap (λ m. m.works) (ended_made i s.core (running refl))
  last_made i false core running is = ap (λ (k : Core). k.made.works) is

  pub last_noted : (i : ℕ) (found : Bool) (b : BesideRun E) (mid : Cells) → b.main ≡ a.main → mid.spawns ≡ a.cells.spawns → b.cells.spawns ≡ mid.spawns → b.cells.polled ≡ None →
      (found ≡ true → is_running_spawn i s.core ≡ true) → b.store.state.core ≡ cond found (poll_ends i None s.core) s.core → HasNoted b
  last_noted i found b mid main same kept none running is = record {
    noted = subst (λ (t : Spawned). AreNoted b.main.script t) (sym (kept ∙ same)) (subst (λ (k : GatedMain E). AreNoted k.script a.cells.spawns) (sym main) able.noted.noted);
    rising = subst (λ (k : GatedMain E). IsRising 0 (place_of k.script).spawns b.store.state.core.made.works) (sym main)
        (subst (λ (n : ℕ). IsRising 0 p.spawns n) (sym (last_made i found b.store.state.core running is)) able.noted.rising);
    none = none;
  }
