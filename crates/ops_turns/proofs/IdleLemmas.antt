-- What comes of a turn that finds nothing, and of polls.
use Rattle.std.proofs.Common.{ap, ap₂, arith, inl, inr, refl, subst, sym, ◌∙◌}
use Rattle.std.specs.List.{list_any}
use Rattle.std.specs.Option.{option_map_or}
use Rattle.std.specs.Prelude.{Bool, List, None, Option, Some, [], false, is_none, not, suc, true, zero, ℕ, ◌&&◌, ◌<◌, ◌∷◌, ◌≡◌, ◌||◌, ◌⊎◌}
use Rattle.laws_states.proofs.PolledWorks.{none_passes, polled_is_live}
use Rattle.laws_states.specs.Order.{InOrder, WorkEntries, WorksQueued, is_finishing, is_host_of, is_push_of, is_queued, stands}
use Rattle.machine_data.specs.Core.{Core, Main, State}
use Rattle.machine_data.specs.declared.component.Component.{Component}
use Rattle.machine_data.specs.Maps.{get, numbers}
use Rattle.machine_data.specs.Read.{blocked_on, is_at, is_blocked_on, is_live, is_stage_ended, next_entry, or_high, place_of, stage_of}
use Rattle.machine_data.specs.declared.records.Entry.{Entry}
use Rattle.machine_data.specs.declared.records.Entry.TheVariants as entry
use Rattle.machine_data.specs.declared.records.Place.{Place}
use Rattle.machine_data.specs.declared.records.Place.TheVariants as place
use Rattle.machine_data.specs.declared.records.Stage.{Stage}
use Rattle.machine_data.specs.declared.records.Stage.TheVariants as stage
use Rattle.machine_data.specs.declared.records.Subtask.{Subtask}
use Rattle.machine_data.specs.declared.records.Turn.{Turn}
use Rattle.machine_data.specs.declared.records.Turn.TheVariants as turn
use Rattle.machine_data.specs.declared.records.Work.{Work}
use Rattle.laws_places.proofs.IdleLemmas.{stalled_as_idle}
use Rattle.machine_rules.specs.Outcome.{is_at_rest}
use Rattle.machine_rules.proofs.StopLemmas.{find_passes}
use Rattle.machine_rules.specs.Places.{HasPlace, Placed, is_at_high, is_at_low, one_if, says}
use Rattle.machine_rules.specs.Stalled.{Setting, is_idle, is_idle_trap, is_stalled, is_queued_or_finishing, is_unended_take, main_pends, works_rest}
use Rattle.machine_rules.specs.Turns.{queues_are_empty}
use Rattle.machine_rules.specs.Works.{has_live_work, has_moving_work, next_polled}
use Rattle.ops_guests.specs.Steps.{turn_after}
use Rattle.ops_guests.specs.declared.op_result.OpResult.{OpResult}
use Rattle.ops_guests.specs.declared.op_result.OpResult.TheVariants as op_result
use Rattle.ops_turns.specs.Turn.{IsFree, MakesStep, PendsIn, Turns, idle_line_of, state_at}
use Rattle.ops_turns.specs.declared.made.MadeStep.{MadeStep}
use Rattle.core_primitives.specs.Apart.{IsBlockedUnqueued, work_entries}
use Rattle.core_primitives.specs.StateView.{StateView}

-- ---- Nothing is there

none_high : (o : Option ℕ) (h l : List Entry) → or_high o h l ≡ None → h ≡ []
none_high (Some n) h l e = absurd (cc)
none_high None [] l e = refl
none_high None (x ∷ es) l e = absurd (cc)

nothing_high : (s : Core) → next_entry s ≡ None → s.queues.high ≡ []
unfolding next_entry
nothing_high s none = none_high s.queues.switch s.queues.high s.queues.low none

stage_rests : (g : Stage) → 0 ≡ one_if (is_queued g) → 0 ≡ one_if (is_finishing g) → is_queued_or_finishing g ≡ false
stage_rests g push host = grind arith

-- a work that is queued or finishing has its entry
pub rest_of : (s : Core) → WorksQueued s → next_entry s ≡ None → has_moving_work s ≡ false → works_rest s ≡ true
rest_of s q none moving =
    let high = nothing_high s none in
    let off = none_passes (λ (w : Work). is_queued_or_finishing w.stage) s.works (λ i w at. let e : WorkEntries s i w = q.each i w at in
    stage_rests w.stage (sym (ap (stands (is_push_of i)) high) ∙ e.push) (sym (ap (stands (is_host_of i)) high) ∙ e.host)) in
    ap₂ (λ a b. not a && not b) moving off

-- ---- Where nothing can go on

trap_of : (b : Bool) → is_idle_trap (idle_line_of b) ≡ b
trap_of true = refl
trap_of false = refl

none_of : {X : Type 0} (o : Option X) → is_none o ≡ true → o ≡ None
none_of None e = refl
none_of (Some v) e = absurd (cc)

flip : (a b : Bool) → (not a || b) ≡ (b || not a)
flip true true = refl
flip true false = refl
flip false true = refl
flip false false = refl

no_idle : (a b c : Bool) → a ≡ false ⊎ (b ≡ false ⊎ c ≡ false) → (a && (b && c)) ≡ false
no_idle a b c off = grind arith

module _ (x : Setting) (s : Core) (m : Main) where
  -- a state that isn't idle is at no rest
  idle_off : (p : Turn) → (is_unended_take p && main_pends x s m) ≡ false ⊎ (queues_are_empty s ≡ false ⊎ works_rest s ≡ false) → is_idle x (state_at s m p) ≡ false
  unfolding is_idle
  idle_off p off = no_idle (is_unended_take p && main_pends x s m) (queues_are_empty s) (works_rest s) off

  no_rest : (p : Turn) → is_idle x (state_at s m p) ≡ false → is_at_rest x (state_at s m p) ≡ false
  unfolding is_at_rest is_stalled
  no_rest p off = grind (arith, off)

  -- another turn, an entry that is and a work that goes on are no rest
  pub rest_else : (p : Turn) → is_unended_take p ≡ false → is_at_rest x (state_at s m p) ≡ false
  rest_else p other = no_rest p (idle_off p (inl (ap (λ v. v && main_pends x s m) other)))

  pub rest_stands : (p : Turn) → queues_are_empty s ≡ false → is_at_rest x (state_at s m p) ≡ false
  rest_stands p stands = no_rest p (idle_off p (inr (inl stands)))

  pub rest_moves : (p : Turn) → has_moving_work s ≡ true → is_at_rest x (state_at s m p) ≡ false
  rest_moves p moving = no_rest p (idle_off p (inr (inr (ap (λ v. not v && not (list_any (λ e. is_queued_or_finishing e.1.stage) s.works.list)) moving))))

  -- where the state is in order and idle, it is stalled
  pub stalls : (p : Turn) → InOrder x.component (state_at s m p) → is_unended_take p ≡ true → queues_are_empty s ≡ true → has_moving_work s ≡ false → PendsIn x s m p →
      is_stalled x (state_at s m p) ≡ true
  unfolding is_idle
  stalls (turn.Take false) order take none moving pends =
      let rest = rest_of s order.works (none_of (next_entry s) none) moving in
      stalled_as_idle x (state_at s m (turn.Take false)) order ∙ rw none (rw pends (rw rest refl))
  stalls p order take none moving pends = absurd (cc)

  pub rest_take : (b : Bool) → x.idle ≡ idle_line_of b → (p : Turn) → is_unended_take p ≡ true → InOrder x.component (state_at s m p) → queues_are_empty s ≡ true → has_moving_work s ≡ false →
      PendsIn x s m p → is_at_rest x (state_at s m p) ≡ (has_live_work s || not b)
  unfolding is_at_rest
  rest_take b idle p take order none moving pends =
      ap (λ v. v && (not (is_idle_trap x.idle) || has_live_work s)) (stalls p order take none moving pends)
      ∙ (ap (λ v. not v || has_live_work s) (ap is_idle_trap idle ∙ trap_of b) ∙ flip b (has_live_work s))

pub in_order : (x : Setting) (c : Component) (s : State) (m : Main) → x.component ≡ c → InOrder c s → InOrder x.component s
in_order x c s m is h = subst (λ (d : Component). InOrder d s) (sym is) h

-- ---- Polls

pub polled_live : (k i : ℕ) (s : Core) → get s.works 0 ≡ None → next_polled k s ≡ Some i → 0 < i
polled_live k zero s none e = absurd (let l = polled_is_live k s 0 e in let z = ap (λ (o : Option Work). option_map_or is_live o false) none in cc)
polled_live k (suc i) s none e = omega arith

both : (i : ℕ) (es : List Entry) → stands (is_push_of i) es ≡ 0 → stands (is_host_of i) es ≡ 0 → work_entries i es ≡ 0
both i [] push host = refl
both i (entry.Push j ∷ es) push host = let r = both i es in grind arith
both i (entry.Host j ∷ es) push host = let r = both i es in grind arith
both i (entry.Thread n ∷ es) push host = let r = both i es in grind arith

live_stage : (i : ℕ) (s : Core) → WorksQueued s → (o : Option Work) → get s.works i ≡ o → option_map_or is_live o false ≡ true → work_entries i s.queues.high ≡ 0
live_stage i s q None at live = absurd (cc)
live_stage i s q (Some w) at live = let e : WorkEntries s i w = q.each i w at in both i s.queues.high (e.push ∙ not_queued w live) (e.host ∙ not_finishing w live)
  where
    not_queued : (w : Work) → is_live w ≡ true → one_if (is_queued w.stage) ≡ 0
    not_queued w live = grind arith

    not_finishing : (w : Work) → is_live w ≡ true → one_if (is_finishing w.stage) ≡ 0
    not_finishing w live = grind arith

-- a work that has ended has no entry
pub ended_unqueued : (i : ℕ) (s : Core) → WorksQueued s → is_stage_ended (stage_of i s) ≡ true → work_entries i s.queues.high ≡ 0
ended_unqueued i s q over = by (get s.works i) refl over
  where
    not_queued : (g : Stage) → is_stage_ended g ≡ true → one_if (is_queued g) ≡ 0
    not_queued g h = grind arith

    not_finishing : (g : Stage) → is_stage_ended g ≡ true → one_if (is_finishing g) ≡ 0
    not_finishing g h = grind arith

    by : (o : Option Work) → get s.works i ≡ o → is_stage_ended (option_map_or (λ (w : Work). w.stage) o stage.Ended) ≡ true → work_entries i s.queues.high ≡ 0
    by None at h = let e = q.gone i at in both i s.queues.high e.0 e.1
    by (Some w) at h = let e : WorkEntries s i w = q.each i w at in both i s.queues.high (e.push ∙ not_queued w.stage h) (e.host ∙ not_finishing w.stage h)

-- a live work has no entry
pub polled_unqueued : (k i : ℕ) (s : Core) → WorksQueued s → next_polled k s ≡ Some i → work_entries i s.queues.high ≡ 0
polled_unqueued k i s q e = live_stage i s q (get s.works i) refl (polled_is_live k s i e)

apart_from_marks : (sub : Subtask) (o : Option Place) → option_map_or (is_blocked_on sub) o false ≡ true → (says is_at_high o ≡ 0) × (says is_at_low o ≡ 0)
apart_from_marks sub None h = absurd (cc)
apart_from_marks sub (Some (place.Blocked other)) h = (refl, refl)
apart_from_marks sub (Some p) h = absurd (cc)

-- who is blocked has no entry
pub blocked_out : (sub : Subtask) (s : Core) → Placed s → IsBlockedUnqueued sub s
unfolding blocked_on
blocked_out sub s placed n at =
    let p : HasPlace n s = placed n in
    let e = apart_from_marks sub (place_of n s) (find_passes (λ k. is_at k s (is_blocked_on sub)) (numbers s.threads) n at) in
    record { high = p.high ∙ e.0; low = p.low ∙ e.1 }

-- ---- A turn in which main has no part

-- the turn after an op or a taking
pub after_free : (r : OpResult) → IsFree (turn_after r)
after_free (op_result.Continues l n said) x s m = tt
after_free (op_result.Stops l) x s m = tt
after_free (op_result.Traps why) x s m = tt
after_free (op_result.Fails i) x s m = tt

pub free_at : (p q : Turn) → p ≡ q → IsFree q → IsFree p
free_at p q same free = subst (λ (r : Turn). IsFree r) (sym same) free

-- a step that main has no part in
pub makes_turns : (x : Setting) (p : Turn) (s : StateView) (made : MadeStep) (t : StateView) → MakesStep x.component p s made t → (m : Main) → PendsIn x t.core m made.turn → Turns x p m s made m t
makes_turns x p s made t h m pends = record { step = h.step x refl m; picks = h.picks x refl m; running = h.running; over = h.over; pends = pends }
