-- The cells of host works stay, but for those that main aborts.
use Rattle.laws_states.proofs.Primitives.{add_call, add_group, add_set, add_thread, add_work, AddGroup, after_primitive, Allowed, along, ap, arith, base_at, call_made, Core, count_work, EndWork, FinishWork, free_handle, free_thread_handle, get, get-change, get-insert, get-remove, give_handle, give_result, give_thread_handle, inl, inr, Label, LaterBy, le_refl, le_trans, made_works_primitive, nat_tests, on_call, on_instance, on_thread, on_work, Option, Pend, poll_pends, push_high, refl, remove_call, remove_group, remove_set, remove_thread, remove_work, Scene, scene_as, set_backpressure, set_cancel_delivered, set_cancelled, set_course, set_do_not_enter, set_do_not_suspend, set_end, set_event, set_exited, set_op_progress, set_join, set_task_event, set_phase, set_position, set_register, set_result, set_saved_callee, set_saved_own, set_script, set_stage, set_started, set_starting_published, set_subtask_handle, set_thread_handle, set_trapped, set_uninteresting, set_memory_cell, Setting, State, step_walks, subst, Subtask, take_result, true, Turn, with_handle, with_thread_handle, Primitive, Work, work_queued, WorkCaller, ℕ, ◌∙◌, ◌≡◌, ◌≤◌, ◌⊎◌}
use Rattle.std.proofs.Common.{cond, sym}
use Rattle.std.specs.Prelude.{Bool, None, Some, false, ◌==◌}
use Rattle.std.proofs.lemmas.Bool.{eqb-true}
use Rattle.std.specs.Option.{option_map, option_map_or}
use Rattle.laws_order.specs.Cells.{CellsStay, CellsStayInside, CellsStayWalked, IsInside, Runs, SameCell, Takes, SpawnedNothing, phase_told}
use Rattle.laws_states.specs.Order.{WorksKnown}
use Rattle.machine_data.specs.Core.{Main, MainPlace, Scripted, Unscripted}
use Rattle.laws_states.proofs.CallsSteps.{base_out}
use Rattle.machine_data.specs.Read.{instance_of, subtask_at, work_caller_of}
use Rattle.machine_data.specs.declared.statuses.Phase.{Phase}
use Rattle.machine_data.specs.declared.statuses.Phase.TheVariants as phases
use Rattle.machine_rules.specs.Allowed.{AbortsOwn, MayAbort, ProgramAborts, ScriptAborts, is_async_work}
use Rattle.machine_rules.specs.MainOps.{spawned_at}
use Rattle.machine_rules.specs.Primitives.{SetPhase}
use Rattle.machine_data.specs.Labels.{choice_of}
use Rattle.machine_data.specs.Read.{next_entry}
use Rattle.machine_data.specs.declared.op.Op.{Op}
use Rattle.machine_data.specs.declared.records.Entry.{Entry}
use Rattle.machine_data.specs.declared.statuses.Mark.{Mark}
use Rattle.machine_rules.specs.Progress.{Asks, Fails, Continues, Never, OneOf, Ordered, Progress, Stops, Traps}
use Rattle.machine_rules.specs.Stalled.{is_unended_take, may_deadlock}
use Rattle.machine_rules.specs.Step.{DeadlockStep, EmptyFor, Progresses, RestStep, Step, TakeStep, TurnStep, did, entry_number}
use Rattle.machine_rules.specs.Scripts.{ops_of}
use Rattle.machine_rules.specs.Takes.{popped, take_rule}
use Rattle.machine_rules.specs.Turns.{at_turn}
use Rattle.machine_rules.specs.Works.{has_moving_work}
use Rattle.std.specs.Prelude.{[], true}
use Rattle.laws_states.proofs.Primitives.{Records}
unfoldable use Rattle.machine_data.specs.Write.{arrive, set_cancel_asked}

-- a call's cell is running, whatever its phase
told_async : (f : WorkCaller) (p : Phase) → is_async_work f ≡ true → phase_told f p ≡ phases.Running
told_async WorkCaller.Spawn p is = absurd (cc)
told_async (WorkCaller.Async n q) p is = refl
told_async (WorkCaller.Sync n) p is = absurd (cc)

-- each work that b has is gone, or has its cell as it was
record Stays (b s : Core) : Type 0 where
  more : b.made.works ≤ s.made.works
  same : (i : ℕ) → i ≤ b.made.works → LaterBy SameCell (get b.works i) (get s.works i)

same_cell : (w : Work) → SameCell w w
same_cell w = record { cell = refl; caller = refl }

stays_same : (b : Core) → Stays b b
stays_same b = record { more = le_refl _; same = λ i below. by (get b.works i) }
  where
    by : (o : Option Work) → LaterBy SameCell o o
    by None = tt
    by (Some w) = same_cell w

-- a change of records that keeps phase and caller
changed : (f : Work → Work) → ((w : Work) → (f w).caller ≡ w.caller) → ((w : Work) → (f w).phase ≡ w.phase) → (o p : Option Work) → LaterBy SameCell o p → LaterBy SameCell o (option_map f p)
changed f caller phase None None q = tt
changed f caller phase None (Some w) q = q
changed f caller phase (Some v) None q = tt
changed f caller phase (Some v) (Some w) q = record {
  cell = ap (λ (g : WorkCaller). phase_told g (f w).phase) (caller w) ∙ (ap (phase_told w.caller) (phase w) ∙ q.cell);
  caller = caller w ∙ q.caller;
}

-- a call's phase may change
of_call : (p : Phase) (o s : Option Work) → is_async_work (option_map_or (λ (w : Work). w.caller) o WorkCaller.Spawn) ≡ true → LaterBy SameCell o s → LaterBy SameCell o (option_map (λ (w : Work). record w { phase = p }) s)
of_call p None None is q = tt
of_call p None (Some w) is q = q
of_call p (Some v) None is q = tt
of_call p (Some v) (Some w) is q = record {
  cell = ap (λ (g : WorkCaller). phase_told g p) q.caller ∙ (told_async v.caller p is ∙ sym (told_async v.caller v.phase is));
  caller = q.caller;
}

module _ (a : Scene) (quiet : (n : ℕ) → a.turn ≡ Turn.Futures n → ⊥) (b : Core) (calls : (j : ℕ) → MayAbort a j → (is_async_work (work_caller_of j b) ≡ true) ⊎ (j ≡ 0)) (none : get b.works 0 ≡ None) where
  phase_primitive : (j : ℕ) (p : Phase) (s : Core) → MayAbort a j → (i : ℕ) → LaterBy SameCell (get b.works i) (get s.works i) → LaterBy SameCell (get b.works i) (get (set_phase j p s).works i)
  unfolding set_phase on_work
  phase_primitive j p s may i q = by (i == j) refl (calls j may)
    where
      set : Option Work → Option Work
      set o = option_map (λ (w : Work). record w { phase = p }) o

      here : (c : Bool) → (i == j) ≡ c → get (set_phase j p s).works i ≡ cond c (set (get s.works i)) (get s.works i)
      here c e = get-change j (λ w. record w { phase = p }) s.works i ∙ ap (λ d. cond d (set (get s.works i)) (get s.works i)) e

      by : (c : Bool) → (i == j) ≡ c → (is_async_work (work_caller_of j b) ≡ true) ⊎ (j ≡ 0) → LaterBy SameCell (get b.works i) (get (set_phase j p s).works i)
      by false e may = subst (λ (o : Option Work). LaterBy SameCell (get b.works i) o) (sym (here false e)) q
      by true e (inl call) = subst (λ (o : Option Work). LaterBy SameCell (get b.works i) o) (sym (here true e))
          (of_call p (get b.works i) (get s.works i) (ap (λ (k : ℕ). is_async_work (work_caller_of k b)) (eqb-true i j e) ∙ call) q)
      by true e (inr zero) = subst (λ (o : Option Work). LaterBy SameCell (get b.works i) o) (sym (here true e)) (nobody (get b.works i) (get s.works i) (ap (get b.works) (eqb-true i j e ∙ zero) ∙ none) q)
        where
          nobody : (o r : Option Work) → o ≡ None → LaterBy SameCell o r → LaterBy SameCell o (set r)
          nobody None None is q = tt
          nobody None (Some w) is q = q
          nobody (Some v) r is q = absurd (cc)

  cell_primitive : (w : Primitive) (s : Core) → Allowed a w s → (i : ℕ) → i ≤ s.made.works → LaterBy SameCell (get b.works i) (get s.works i) →
      LaterBy SameCell (get b.works i) (get (after_primitive w s).works i)
  unfolding arrive set_cancel_asked add_call add_group add_set add_thread add_work call_made count_work free_handle free_thread_handle give_handle give_result give_thread_handle on_call on_instance on_thread on_work poll_pends push_high remove_call remove_group remove_set remove_thread remove_work set_backpressure set_cancel_delivered set_cancelled set_course set_do_not_enter set_do_not_suspend set_end set_event set_exited set_op_progress set_join set_task_event set_phase set_position set_register set_result set_saved_callee set_saved_own set_script set_stage set_started set_starting_published set_subtask_handle set_thread_handle set_trapped set_uninteresting set_memory_cell take_result with_handle with_thread_handle work_queued
  cell_primitive AddGroup s ok i below q = q
  cell_primitive (Pend j host) s ok i below q = absurd (quiet ok.0.0 ok.0.1.0)
  cell_primitive (EndWork j c) s ok i below q = absurd (quiet ok.0.0.0 ok.0.0.1.0)
  cell_primitive (FinishWork j c) s ok i below q = absurd (quiet ok.0.0.0 ok.0.0.1.0)
  cell_primitive (SetPhase j p) s ok i below q = phase_primitive j p s ok.0 i q
  cell_primitive w s ok i below q = first_of (assumption, grind (arith, nat_tests, get-change, get-insert, get-remove))

  stays_primitive : (w : Primitive) (s : Core) → Allowed a w s → Stays b s → Stays b (after_primitive w s)
  stays_primitive w s ok q = record {
    more = le_trans q.more (made_works_primitive a w s);
    same = λ i below. cell_primitive w s ok i (le_trans below q.more) (q.same i below);
  }

scripted_same : (p q : MainPlace) → ◌≡◌ {A = Main} (Scripted p) (Scripted q) → p ≡ q
scripted_same p q is = cc

not_scripted : (p : MainPlace) → ◌≡◌ {A = Main} (Scripted p) Unscripted → ⊥
not_scripted p is = cc

-- which works may be aborted, where main has spawned nothing
may_abort : (ops : ℕ → Op) (x : Setting) (s : State) (l : Label) (next : Turn) → SpawnedNothing s → WorksKnown s.core → (j : ℕ) → MayAbort (scene_as ops x s l next) j → (is_async_work (work_caller_of j s.core) ≡ true) ⊎ (j ≡ 0)
may_abort ops x s l next nothing calls j (AbortsOwn named) =
    let n = named.0 in
    let h = named.1.0 in
    inl (calls.async h j (calls.there (instance_of n (record s.core { queues = (base_at s.turn s.core).queues })) h j
    (base_out (λ (b : Core). subtask_at (instance_of n b) h b ≡ Some (Subtask.Host j)) s.turn s.core named.1.1.1)))
may_abort ops x s l next nothing calls j (ScriptAborts p k main is) =
    let same : nothing.place ≡ p = scripted_same nothing.place p (sym nothing.is ∙ main) in
    inr (is ∙ (ap (λ (q : MainPlace). spawned_at q k) (sym same) ∙ nothing.spawned k))
may_abort ops x s l next nothing calls j (ProgramAborts main spawn) = absurd (not_scripted nothing.place (sym nothing.is ∙ main))

pub cells_stay_walked : CellsStayWalked
unfolding CellsStayWalked
cells_stay_walked ops x s l t w quiet nothing none calls i below =
    (along (Stays s.core) (λ v u ok q. stays_primitive (scene_as ops x s l w.next) quiet s.core (may_abort ops x s l w.next nothing calls) none v u ok q) (stays_same s.core) w.walk).same i below

pub cells_stay : CellsStay
unfolding CellsStay CellsStayWalked
cells_stay x s l t step quiet nothing none calls i below =
    cells_stay_walked (ops_of x.component s.core) x s l t (step_walks x s l t step) quiet nothing none calls i below

-- ---- Whatever main is, where a thread runs or an entry is taken

module _ (m : Main) where
  progress_free : (s : State) (base : Core) (n : ℕ) (p : Progress) (l : Label) (t : State) → Progresses s base n p l t → Progresses (record s { main = m }) base n p l (record t { main = m })
  unfolding at_turn
  progress_free s base n (Continues k new j) l t h = (h.0, ap (λ (u : State). record u { main = m }) h.1)
  progress_free s base n (Stops k new) l t h = (h.0, ap (λ (u : State). record u { main = m }) h.1)
  progress_free s base n (Traps why) l t h = (h.0, ap (λ (u : State). record u { main = m }) h.1)
  progress_free s base n (Fails i) l t h = (h.0, ap (λ (u : State). record u { main = m }) h.1)
  progress_free s base n Never l t h = absurd h
  progress_free s base n (Ordered ns next) l t h = (h.0, (h.1.0, progress_free s base n (next h.0) l t h.1.1))
  progress_free s base n (OneOf ns next) l t h = (h.0, (h.1.0, progress_free s base n (next h.0) l t h.1.1))
  progress_free s base n (Asks next) l t h = (h.0, progress_free s base n (next h.0) l t h.1)

-- a main that has spawned nothing
pub nobody : Main
nobody = Scripted (record { position = 0; registers = []; starts = []; spawns = [] })

spawned_none : (k : ℕ) → spawned_at (record { position = 0; registers = []; starts = []; spawns = [] }) k ≡ 0
spawned_none k = grind arith

pub nothing_spawned : (s : State) → s.main ≡ nobody → SpawnedNothing s
unfolding nobody
nothing_spawned s is = record { place = _; is = is; spawned = spawned_none }

same_works : (s t : Core) → t.works ≡ s.works → (i : ℕ) → LaterBy SameCell (get s.works i) (get t.works i)
same_works s t same i = subst (λ (m : Records Work). LaterBy SameCell (get s.works i) (get m i)) (sym same) (by (get s.works i))
  where
    by : (o : Option Work) → LaterBy SameCell o o
    by None = tt
    by (Some w) = same_cell w

is_inside : Turn → Bool
is_inside (Turn.Run n) = true
is_inside (Turn.Take ended) = true
is_inside p = false

inside_is : (p : Turn) → IsInside p → is_inside p ≡ true
unfolding is_inside
inside_is _ (Runs n) = refl
inside_is _ (Takes ended) = refl

module _ (x : Setting) (s : State) (l : Label) (t : State) (none : get s.core.works 0 ≡ None) (known : WorksKnown s.core) where
  by_free : Step x (record s { main = nobody }) l (record t { main = nobody }) → ((n : ℕ) → s.turn ≡ Turn.Futures n → ⊥) → (i : ℕ) → i ≤ s.core.made.works → LaterBy SameCell (get s.core.works i) (get t.core.works i)
  unfolding CellsStay nobody
  by_free step quiet i below = cells_stay x (record s { main = nobody }) l (record t { main = nobody }) step quiet (record { place = _; is = refl; spawned = spawned_none }) none known i below

  empty_stays : (b : Bool) → EmptyFor x s b l t → (i : ℕ) → LaterBy SameCell (get s.core.works i) (get t.core.works i)
  unfolding at_turn set_trapped
  empty_stays true h i = rests (is_unended_take s.turn) h
    where
      rests : (c : Bool) → RestStep s c l t → LaterBy SameCell (get s.core.works i) (get t.core.works i)
      rests true h = same_works s.core t.core (ap (λ (u : State). u.core.works) h.1) i
      rests false h = absurd h
  empty_stays false h i = dead (may_deadlock x s) h
    where
      dead : (c : Bool) → DeadlockStep s c l t → LaterBy SameCell (get s.core.works i) (get t.core.works i)
      dead true h = same_works s.core t.core (ap (λ (u : State). u.core.works) h.1) i
      dead false h = absurd h

  take_stays : (ended : Bool) → s.turn ≡ Turn.Take ended → (o : Option (Mark × Entry)) → next_entry s.core ≡ o → TakeStep x s o l t → (i : ℕ) → i ≤ s.core.made.works → LaterBy SameCell (get s.core.works i) (get t.core.works i)
  unfolding Step
  take_stays ended is None at h i below = empty_stays (has_moving_work s.core) h i
  take_stays ended is (Some e) at h i below = by_free (subst (λ (p : Turn). TurnStep x (record s { main = nobody }) p l (record t { main = nobody })) (sym is)
      (subst (λ (o : Option (Mark × Entry)). TakeStep x (record s { main = nobody }) o l (record t { main = nobody })) (sym at)
      (progress_free nobody s (popped e.0 s.core) (entry_number e.1) (take_rule e.0 (choice_of l) (popped e.0 s.core) e.1) l t h))) (λ n e. cc) i below

  inside : (p : Turn) → s.turn ≡ p → IsInside p → TurnStep x s p l t → (i : ℕ) → i ≤ s.core.made.works → LaterBy SameCell (get s.core.works i) (get t.core.works i)
  unfolding Step is_inside
  inside (Turn.Run n) is where_in h i below = by_free (subst (λ (p : Turn). TurnStep x (record s { main = nobody }) p l (record t { main = nobody })) (sym is)
      (progress_free nobody s s.core n (did x.component n s.core (choice_of l)) l t h)) (λ n e. cc) i below
  inside (Turn.Take ended) is where_in h i below = take_stays ended is (next_entry s.core) refl h i below
  inside Turn.Main is where_in h i below = absurd (let e = inside_is Turn.Main where_in in cc)
  inside (Turn.Futures n) is where_in h i below = absurd (let e = inside_is (Turn.Futures n) where_in in cc)
  inside Turn.Over is where_in h i below = absurd (let e = inside_is Turn.Over where_in in cc)

pub cells_stay_inside : CellsStayInside
unfolding CellsStayInside Step
cells_stay_inside x s l t step where_in none known i below = inside x s l t none known s.turn refl where_in step i below
