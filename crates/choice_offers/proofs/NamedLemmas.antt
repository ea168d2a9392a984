-- What is offered of a subtask that a handle names, where it may be gone.
use Rattle.core_primitives.specs.Live.{live_subtask}
use Rattle.laws_choices.specs.Offers.{cancel_found_offer, cancel_offer, join_done_offer, join_offer, join_to_offer, nothing, of_found, unless, wakes_new}
use Rattle.machine_data.specs.Core.{Core}
use Rattle.machine_data.specs.Maps.{get}
use Rattle.machine_data.specs.Read.{instance_of, is_watched, set_at, subtask_at}
use Rattle.machine_data.specs.declared.records.Join.{Join}
use Rattle.machine_data.specs.declared.records.OpProgress.TheVariants as op_progress
use Rattle.machine_data.specs.declared.records.Subtask.TheVariants as subtask
use Rattle.machine_data.specs.declared.records.Subtask.{Subtask}
use Rattle.machine_data.specs.declared.statuses.Status.{Status}
use Rattle.ops_subtasks.proofs.SubtaskLemmas.{kept_alike}
use Rattle.ops_subtasks.specs.Named.{NamedCallsThere}
use Rattle.std.proofs.Common.{ap, ap₂, refl, sym, ◌∙◌}
use Rattle.std.specs.Prelude.{Bool, None, Option, Some, if◌then◌else◌, option_map, suc, zero, ℕ, ◌≡◌}

same_some : (a b : Subtask) → Some a ≡ Some b → b ≡ a
same_some a b e = cc

-- a call that a handle names is there, and a work offers nothing
cancel_alike : (i h : ℕ) (s : Core) → NamedCallsThere s → (sub : Subtask) → subtask_at i h s ≡ Some sub → cancel_found_offer s sub ≡ cancel_found_offer s (live_subtask sub s)
cancel_alike i h s there (subtask.Guest k) at = ap (λ (b : Bool). cancel_found_offer s (subtask.Guest (if b then k else 0))) (sym (there i h k at))
cancel_alike i h s there (subtask.Host j) at = refl

pub cancel_named : (n h : ℕ) (q : Subtask) (s : Core) → NamedCallsThere s → Some q ≡ option_map (λ sub. live_subtask sub s) (subtask_at (instance_of n s) h s) →
    cancel_offer n h s op_progress.Fresh ≡ cancel_found_offer s q
cancel_named n h q s there is = by (subtask_at (instance_of n s) h s) refl is
  where
    by : (o : Option Subtask) → subtask_at (instance_of n s) h s ≡ o → Some q ≡ option_map (λ sub. live_subtask sub s) o → of_found o (cancel_found_offer s) ≡ cancel_found_offer s q
    by None at e = absurd (cc)
    by (Some sub) at e = cancel_alike (instance_of n s) h s there sub at ∙ ap (cancel_found_offer s) (same_some q (live_subtask sub s) e)

-- what names no subtask offers nothing
pub cancel_unnamed : (n h : ℕ) (s : Core) → None ≡ option_map (λ sub. live_subtask sub s) (subtask_at (instance_of n s) h s) → nothing ≡ cancel_offer n h s op_progress.Fresh
cancel_unnamed n h s is = by (subtask_at (instance_of n s) h s) is
  where
    by : (o : Option Subtask) → None ≡ option_map (λ sub. live_subtask sub s) o → nothing ≡ of_found o (cancel_found_offer s)
    by None e = refl
    by (Some sub) e = absurd (cc)

done_alike : (sub : Subtask) (s : Core) (x : Option ℕ) → get s.calls 0 ≡ None → get s.works 0 ≡ None → join_done_offer sub s x ≡ join_done_offer (live_subtask sub s) s x
done_alike sub s x calls works =
    let same = kept_alike sub s calls works in
    ap₂ (λ (j : Join) (e : Option Status). unless (is_watched j) (wakes_new e x s)) same.join same.event

to_alike : (n y : ℕ) (s : Core) (sub : Subtask) → get s.calls 0 ≡ None → get s.works 0 ≡ None → join_to_offer n y s sub ≡ join_to_offer n y s (live_subtask sub s)
to_alike n zero s sub calls works = done_alike sub s None calls works
to_alike n (suc h) s sub calls works = by (set_at (instance_of n s) (suc h) s)
  where
    by : (o : Option ℕ) → of_found o (λ x. join_done_offer sub s (Some x)) ≡ of_found o (λ x. join_done_offer (live_subtask sub s) s (Some x))
    by None = refl
    by (Some x) = done_alike sub s (Some x) calls works

pub join_named : (n h y : ℕ) (q : Subtask) (s : Core) → get s.calls 0 ≡ None → get s.works 0 ≡ None → Some q ≡ option_map (λ sub. live_subtask sub s) (subtask_at (instance_of n s) h s) →
    join_offer n h y s ≡ join_to_offer n y s q
join_named n h y q s calls works is = by (subtask_at (instance_of n s) h s) is
  where
    by : (o : Option Subtask) → Some q ≡ option_map (λ sub. live_subtask sub s) o → of_found o (join_to_offer n y s) ≡ join_to_offer n y s q
    by None e = absurd (cc)
    by (Some sub) e = to_alike n y s sub calls works ∙ ap (join_to_offer n y s) (same_some q (live_subtask sub s) e)

pub join_unread : (n h y : ℕ) (s : Core) → None ≡ option_map (λ sub. live_subtask sub s) (subtask_at (instance_of n s) h s) → nothing ≡ join_offer n h y s
join_unread n h y s is = by (subtask_at (instance_of n s) h s) is
  where
    by : (o : Option Subtask) → None ≡ option_map (λ sub. live_subtask sub s) o → nothing ≡ of_found o (join_to_offer n y s)
    by None e = refl
    by (Some sub) e = absurd (cc)
