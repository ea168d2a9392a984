-- The rule of a cancel, where what the handle names may be gone.
use Rattle.std.proofs.Common.{T, ap, arith, refl, subst, sym, ◌∙◌}
use Rattle.std.specs.Option.{option_map_or}
use Rattle.std.specs.Prelude.{Bool, None, Option, Some, false, if◌then◌else◌, is_some, option_and_then, option_map, true, ℕ, ◌<◌, ◌≡◌}
use Rattle.machine_data.specs.Core.{Core}
use Rattle.machine_data.specs.Maps.{get}
use Rattle.machine_data.specs.Read.{is_joined, is_stage_ended, join_of, phase_of, subtask_at, undelivered_end, was_cancelled}
use Rattle.machine_data.specs.Write.{on_work, set_cancelled, set_phase}
use Rattle.machine_data.specs.declared.records.Call.{Call}
use Rattle.machine_data.specs.declared.records.Join.TheVariants as join
use Rattle.machine_data.specs.declared.records.Stage.TheVariants as stage
use Rattle.machine_data.specs.declared.records.Subtask.{Subtask}
use Rattle.machine_data.specs.declared.records.Subtask.TheVariants as subtask
use Rattle.machine_data.specs.declared.records.Work.{Work}
use Rattle.machine_data.specs.declared.trap.Trap.TheVariants as trap
use Rattle.ops_guests.specs.OpResult.{Implements}
use Rattle.ops_guests.specs.declared.op_result.OpResult.{OpResult}
use Rattle.machine_rules.proofs.StandLemmas.{by_number}
use Rattle.machine_rules.specs.Finish.{Doer}
use Rattle.machine_rules.specs.Cancels.{Mode, after_cancel_by, aborted_phase, cancel_aborts_host, cancel_by, cancel_ended_by, cancel_found_by, cancel_host_by, cancel_subtask_by}
use Rattle.machine_rules.specs.Progress.{Traps, trap_if}
use Rattle.core_primitives.specs.Live.{kept_in, live_subtask}
use Rattle.ops_subtasks.proofs.SteadyLemmas.{Steady, cancelled_steady, phase_steady, steady_after}
use Rattle.ops_subtasks.proofs.SubtaskLemmas.{absent_work}
use Rattle.ops_subtasks.specs.Named.{NamedCallsThere}

pub aborts_steady : (i : ℕ) (s : Core) → Steady s (cancel_aborts_host i s)
unfolding cancel_aborts_host
aborts_steady i s = let p = aborted_phase (phase_of i s) in steady_after s (set_phase i p s) (set_cancelled i (set_phase i p s)) (phase_steady i p s) (cancelled_steady i (set_phase i p s))

aborts_gone : (i : ℕ) (s : Core) → get s.works i ≡ None → cancel_aborts_host i s ≡ s
unfolding cancel_aborts_host set_cancelled set_phase
aborts_gone i s gone =
    ap (λ (c : Core). on_work i (λ w. record w { cancelled = true }) c) (absent_work i (λ w. record w { phase = aborted_phase (phase_of i s) }) s gone)
    ∙ absent_work i (λ w. record w { cancelled = true }) s gone

after_gone : (mode : Mode) (n : ℕ) (r : Doer) (i : ℕ) (s : Core) → get s.works i ≡ None → after_cancel_by r mode n (subtask.Host i) s ≡ Traps trap.SubtaskCancelAfterTerminal
after_gone mode n r i s gone =
    ap (λ (o : Option Work). cancel_by r mode n (subtask.Host i) s (is_stage_ended (option_map_or (λ (w : Work). w.stage) o stage.Ended))) gone
    ∙ ap (λ (o : Option Work). cancel_ended_by r mode n (subtask.Host i) s (undelivered_end (option_and_then (λ (w : Work). w.event) o))) gone

found_gone : (mode : Mode) (n : ℕ) (r : Doer) (i : ℕ) (s : Core) → get s.works i ≡ None → cancel_found_by r mode n s (subtask.Host i) ≡ Traps trap.SubtaskCancelAfterTerminal
found_gone mode n r i s gone =
    ap (λ (o : Option Work). trap_if (is_joined (option_map_or (λ (w : Work). w.join) o join.Nowhere)) trap.WaitableSyncAndAsync (cancel_host_by r mode n i s)) gone
    ∙ (ap (λ (o : Option Work). trap_if (option_map_or (λ (w : Work). w.cancelled) o false) trap.SubtaskCancelAfterTerminal (after_cancel_by r mode n (subtask.Host i) (cancel_aborts_host i s))) gone
    ∙ (ap (λ (c : Core). after_cancel_by r mode n (subtask.Host i) c) (aborts_gone i s gone) ∙ after_gone mode n r i s gone))

call_kept : (i h k : ℕ) (s : Core) → NamedCallsThere s → subtask_at i h s ≡ Some (subtask.Guest k) → kept_in s.calls k ≡ k
call_kept i h k s there at = ap (λ (b : Bool). if b then k else 0) (there i h k at)

pub cancel_kept : (mode : Mode) (n : ℕ) (r : Doer) (i h : ℕ) (s : Core) → get s.works 0 ≡ None → NamedCallsThere s → (sub : Subtask) → subtask_at i h s ≡ Some sub → cancel_found_by r mode n s sub ≡ cancel_found_by r mode n s (live_subtask sub s)
cancel_kept mode n r i h s works there (subtask.Guest k) at = ap (λ (j : ℕ). cancel_found_by r mode n s (subtask.Guest j)) (sym (call_kept i h k s there at))
cancel_kept mode n r i h s works there (subtask.Host k) at = go (get s.works k) refl
  where
    go : (o : Option Work) → get s.works k ≡ o → cancel_found_by r mode n s (subtask.Host k) ≡ cancel_found_by r mode n s (subtask.Host (if is_some o then k else 0))
    go None e = found_gone mode n r k s e ∙ sym (found_gone mode n r 0 s works)
    go (Some w) e = refl

-- a call that a handle names is there
pub named_call : (i h k : ℕ) (q : Subtask) (s : Core) → NamedCallsThere s → q ≡ subtask.Guest k → Some q ≡ option_map (λ sub. live_subtask sub s) (subtask_at i h s) → is_some (get s.calls k) ≡ true
named_call i h k q s there is e = go (subtask_at i h s) refl e
  where
    no_both : Some q ≡ None → ⊥
    no_both d = cc

    same_call : (a b : ℕ) → Some (subtask.Guest a) ≡ Some (subtask.Guest b) → a ≡ b
    same_call a b d = cc

    not_host : (a b : ℕ) → Some (subtask.Guest a) ≡ Some (subtask.Host b) → ⊥
    not_host a b d = cc

    go : (o : Option Subtask) → subtask_at i h s ≡ o → Some q ≡ option_map (λ sub. live_subtask sub s) o → is_some (get s.calls k) ≡ true
    go None at d = absurd (no_both d)
    go (Some (subtask.Guest j)) at d =
        let same = same_call k (kept_in s.calls j) (ap (λ (p : Subtask). Some p) (sym is) ∙ d) ∙ call_kept i h j s there at in
        subst (λ (m : ℕ). is_some (get s.calls m) ≡ true) (sym same) (there i h j at)
    go (Some (subtask.Host j)) at d = absurd (not_host k (kept_in s.works j) (ap (λ (p : Subtask). Some p) (sym is) ∙ d))

pub there_live : (k : ℕ) (s : Core) → get s.calls 0 ≡ None → is_some (get s.calls k) ≡ true → 0 < k
there_live k s none h = by_number k 0 (0 < k) (λ e. absurd (subst T (sym (ap (λ (o : Option Call). is_some o) (sym none) ∙ (ap (λ j. is_some (get s.calls j)) (sym e) ∙ h))) tt)) (λ d. grind (arith, d))

pub host_implements : (mode : Mode) (n : ℕ) (r : Doer) (i : ℕ) (s : Core) (c : OpResult) (u : Core) → was_cancelled i s ≡ false → Implements (after_cancel_by r mode n (subtask.Host i) (cancel_aborts_host i s)) s c u → Implements (cancel_host_by r mode n i s) s c u
host_implements mode n r i s c u fresh implements =
    subst (λ (b : Bool). Implements (trap_if b trap.SubtaskCancelAfterTerminal (after_cancel_by r mode n (subtask.Host i) (cancel_aborts_host i s))) s c u) (sym fresh) implements

pub found_row : (mode : Mode) (n : ℕ) (r : Doer) (q : Subtask) (s : Core) → is_joined (join_of q s) ≡ false → cancel_found_by r mode n s q ≡ cancel_subtask_by r mode n s q
found_row mode n r q s apart = ap (λ (b : Bool). trap_if b trap.WaitableSyncAndAsync (cancel_subtask_by r mode n s q)) apart

pub found_implements : (mode : Mode) (n : ℕ) (r : Doer) (q : Subtask) (s : Core) (c : OpResult) (u : Core) → is_joined (join_of q s) ≡ false → Implements (cancel_subtask_by r mode n s q) s c u → Implements (cancel_found_by r mode n s q) s c u
found_implements mode n r q s c u apart implements =
    subst (λ (b : Bool). Implements (trap_if b trap.WaitableSyncAndAsync (cancel_subtask_by r mode n s q)) s c u) (sym apart) implements
