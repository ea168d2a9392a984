-- What the loop tells after a step, from part to part.
use Rattle.std.proofs.Common.{ap, append-nil, arith, inl, inr, refl, subst, sym, ◌∙◌}
use Rattle.machine_data.specs.Read.{is_nil}
use Rattle.std.specs.Prelude.{Err, IsErr, List, None, Ok, Option, Result, Some, [], false, is_some, not, ℕ, ◌++◌, ◌<◌, ◌∷◌, ◌≡◌}
use Rattle.store_notices.proofs.MoveLemmas.{unhooked_hook_is_ok}
use Rattle.store_notices.specs.Moves.{StopsAt, finishes, moved}
use Rattle.store_notices.specs.declared.tells.GroupsBefore.{GroupsBefore}
use Rattle.task_group.proofs.GroupLemmas.{told-append}
use Rattle.task_loop.proofs.ToldLemmas.{asked_same}
use Rattle.std.specs.Option.{option_map_or}
use Rattle.task_group.specs.Heard.{Heard}
use Rattle.task_group.specs.Listeners.{AnsweredErr, Listeners, ToldListeners, ToldWithHookOk, errors_of}
use Rattle.task_loop.specs.Told.{TellsOut, TellsPart, TellsWhole, current_group, told_by}
use Rattle.machine_data.specs.declared.records.Notice.{Notice}
use Rattle.core_primitives.specs.Groups.{IsAsked, asked, ended_groups}
use Rattle.core_primitives.specs.StateView.{StateView}

pub stops_failed : (ns : List Notice) (l m : Listeners) → StopsAt ns l m → AnsweredErr l m
stops_failed ns l m q = let hook_is_ok = q.hook_is_ok.hook_is_ok in let more = q.answered in omega (arith, hook_is_ok, more)

pub part_failed : (a : GroupsBefore) (t u : StateView) (old new : Listeners) → TellsPart a t u old new → AnsweredErr old new
part_failed a t u old new part = elim part [
  | inl q ↦ stops_failed (moved a (current_group t)) old new q.stops
  | inr q ↦ let hook_is_ok = q.moved.hook_is_ok in let more = q.answered in omega (arith, hook_is_ok, more)
]

module _ (a : GroupsBefore) (t : StateView) (r : ℕ) (is : r ≡ current_group t) where
  -- the hook answered an error to an exit or an enter
  pub out_stopped : {A E : Type 0} (q : Result A E) (old new : Listeners) → IsErr q → StopsAt (moved a r) old new → is_some new.hook ≡ is_some old.hook → TellsOut a q t t old new
  out_stopped (Ok x) old new err stops hook = absurd (cc)
  out_stopped (Err e) old new err stops hook = record {
    whole = tt;
    part = inl (record { same = refl; stops = subst (λ k. StopsAt (moved a k) old new) is stops });
    hook = record { failed = stops_failed (moved a r) old new stops; hook_is_ok = tt; hook = hook };
  }

  module _ (u : StateView) (after : u ≡ asked t) (old between new : Listeners) (with_hook_ok : ToldWithHookOk (moved a r) old between) (same : is_some between.hook ≡ is_some old.hook)
      (told : ToldListeners (finishes (ended_groups t)) between new) where
    moved_with_hook_ok : ToldWithHookOk (moved a (current_group t)) old between
    moved_with_hook_ok = subst (λ k. ToldWithHookOk (moved a k) old between) is with_hook_ok

    -- to a finish
    pub out_broken : {A E : Type 0} (q : Result A E) → IsErr q → AnsweredErr between new → is_some new.hook ≡ is_some between.hook → TellsOut a q t u old new
    out_broken (Ok x) err answered hook = absurd (cc)
    out_broken (Err e) err answered hook = record {
      whole = tt;
      part = inr (record { asked = after; between = between; moved = moved_with_hook_ok; finished = told; answered = answered });
      hook = record { failed = let hook_is_ok = with_hook_ok.hook_is_ok in omega (arith, hook_is_ok, answered); hook_is_ok = tt; hook = hook ∙ same };
    }

    -- or none
    pub out_whole : {A E : Type 0} (x : A) → errors_of new ≡ errors_of between → is_some new.hook ≡ is_some between.hook → TellsOut {E = E} a (Ok x) t u old new
    out_whole x hook_is_ok hook = record {
      whole = record { told = told-append (moved a (current_group t)) (finishes (ended_groups t)) old between new moved_with_hook_ok.told told; asked = after };
      part = tt;
      hook = record { failed = tt; hook_is_ok = hook_is_ok ∙ with_hook_ok.hook_is_ok; hook = hook ∙ same };
    }

-- ---- Where there is no hook

pub never_failed : (a : GroupsBefore) (t u : StateView) (old new : Listeners) → is_some old.hook ≡ false → AnsweredErr old new → is_some new.hook ≡ is_some old.hook → ⊥
never_failed a t u old new none failed same = by old.hook new.hook none same failed
  where
    by : (h k : Option Heard) → is_some h ≡ false → is_some k ≡ is_some h → option_map_or (λ (x : Heard). x.errors) h 0 < option_map_or (λ (x : Heard). x.errors) k 0 → ⊥
    by None None none same failed = omega (arith, failed)
    by None (Some y) none same failed = absurd (cc)
    by (Some x) k none same failed = absurd (cc)

pub quiet_out : {A E : Type 0} (x : A) (a : GroupsBefore) (t u : StateView) (old new : Listeners) → is_some old.hook ≡ false → TellsWhole a t u old new → TellsOut {E = E} a (Ok x) t u old new
quiet_out x a t u old new none whole = record {
  whole = whole;
  part = tt;
  hook = record { failed = tt; hook_is_ok = (unhooked_hook_is_ok (told_by a t) old new none whole.told).hook_is_ok; hook = whole.told.same_hook };
}

-- where no group has ended the exits and enters are all
pub at_once : (a : GroupsBefore) (t : StateView) (r : ℕ) (old new : Listeners) → r ≡ current_group t → not (is_nil (ended_groups t)) ≡ false → IsAsked t → ToldWithHookOk (moved a r) old new → TellsWhole a t t old new
at_once a t r old new is none live told = record {
  told = subst (λ (ns : List Notice). ToldListeners ns old new)
      (ap (moved a) is ∙ (sym (append-nil (moved a (current_group t))) ∙ ap (λ (gs : List ℕ). moved a (current_group t) ++ finishes gs) (sym (nil_is (ended_groups t) none)))) told.told;
  asked = sym (asked_same t live);
}
  where
    nil_is : (gs : List ℕ) → not (is_nil gs) ≡ false → gs ≡ []
    nil_is [] none = refl
    nil_is (g ∷ gs) none = absurd (cc)
