-- The exit of a direct call keeps order, whatever the op at the thread's place is.
use Rattle.laws_order.proofs.EndCounts.{checked_moved, exit_counted}
use Rattle.laws_order.proofs.PieceLemmas.{lead_keeps, piece_keeps, setting_for}
use Rattle.laws_order.specs.Pieces.{ExitKeeps, InOrderForAnyMain, RegisterKeeps, SameInstances}
use Rattle.laws_states.proofs.WakeCounts.{woken_at, woken_place}
use Rattle.machine_data.specs.Labels.{exit_label}
use Rattle.machine_data.specs.Moves.{checked, passes_check}
use Rattle.machine_data.specs.Read.{register_of}
use Rattle.laws_places.proofs.CountedSteps.{counted_stay}
use Rattle.laws_places.proofs.Laws.{Bool, Component, Core, ExportKind, Continues, OpProgress, Label, None, Option, Place, Progress, Some, Trap, Turn, Unscripted, WakesCounted, ap, arith, false, fresh, get-change, goal_of, op_progress_of, inl, instance_of, is_direct, is_explicit, is_waiting_on, kind_of, member_same, nat_tests, not, on_instance, on_thread, option_map_or, place_of, refl, set_do_not_suspend, set_register, shifted_calls, shifted_far, shifted_works, shifts_shifted, subst, sym, task_of, trap_if, true, under_of, under_place, ℕ, ◌∙◌, ◌≡◌}
use Rattle.machine_rules.proofs.WalkMoves.{checked_shifts}
use Rattle.machine_rules.proofs.WalkTask.{Leads, direct_exit_to_leads, seen}
use Rattle.machine_rules.specs.Chains.{NoPrimitive, Then}
use Rattle.machine_rules.specs.Scripts.{ops_of}
use Rattle.machine_rules.specs.Ends.{direct_exit_rule, direct_exit_to, direct_exits, exit_restores}
use Rattle.machine_rules.specs.Primitives.{SetRegister}

-- ---- The exit of a direct call

-- the core that a rule goes on with
abbrev new_in : Core → Progress → Core
new_in s (Continues l t m) = t
new_in s _ = s

module _ (c : Component) (n m : ℕ) (l : Label) (new s : Core) (fresh : op_progress_of n s ≡ OpProgress.Fresh) (h : InOrderForAnyMain c (Turn.Run n) s) where
  abbrev v : ℕ
  v = register_of n 0 s

  abbrev i : ℕ
  i = instance_of n s

  first : WakesCounted s
  first = ((h Unscripted).awake refl).counted

  runs : place_of n s ≡ Some Place.Running
  runs = (h Unscripted).in_place.runs n refl

  abbrev Goes_on : Progress → Type 0
  Goes_on p = p ≡ Continues l new m

  after_flag : (d : ℕ) → under_of n s ≡ Some d → WakesCounted (direct_exits n d v (exit_restores n s))
  unfolding exit_restores set_do_not_suspend on_instance
  after_flag d is = exit_counted n d v s (exit_restores n s) runs fresh (under_place n d s is) (λ j. inl refl) (λ j. refl) refl refl first

  after_check : (d : ℕ) → under_of n s ≡ Some d → WakesCounted (direct_exits n d v (checked i s))
  after_check d is =
      let q = shifts_shifted (checked_shifts i s) in
      exit_counted n d v s (checked i s) runs fresh (under_place n d s is) (checked_moved i s (h Unscripted).in_place.placed) (shifted_far q) (shifted_calls q) (shifted_works q) first

  checks : (d : ℕ) → under_of n s ≡ Some d → (b : Bool) → Goes_on (trap_if b Trap.CannotBlockSyncTask (Continues (exit_label n None) (direct_exits n d v (checked i s)) d)) → WakesCounted new
  checks d is true row = absurd (cc)
  checks d is false row = subst WakesCounted (ap (new_in s) row) (after_check d is)

  exits_counted : (k : ExportKind) (o : Option ℕ) → under_of n s ≡ o → Goes_on (direct_exit_to n k s o) → WakesCounted new
  exits_counted k None is row = absurd (cc)
  exits_counted ExportKind.Sync (Some d) is row = subst WakesCounted (ap (new_in s) row) (after_flag d is)
  exits_counted ExportKind.Blocking (Some d) is row = checks d is (not (passes_check i s)) row
  exits_counted ExportKind.Stackful (Some d) is row = checks d is (not (passes_check i s)) row
  exits_counted ExportKind.Callback (Some d) is row = checks d is (not (passes_check i s)) row

  exits_keep : is_explicit n s ≡ false → is_direct (goal_of (task_of n s) s) ≡ true → Goes_on (direct_exit_rule n s) → InOrderForAnyMain c (Turn.Run m) new × SameInstances s new
  exits_keep implicit direct row = lead_keeps c n l (Turn.Run m) s new
      (λ main. subst (Leads (seen (ops_of c s) (setting_for c) main (Turn.Run n) s n l (Turn.Run m)) s) row
      (direct_exit_to_leads (ops_of c s) (setting_for c) main s n l (Turn.Run m) (kind_of (task_of n s) s) (under_of n s) refl implicit direct) refl refl) refl
      (exits_counted (kind_of (task_of n s) s) (under_of n s) refl row) h

pub exit_keeps : ExitKeeps
unfolding ExitKeeps
exit_keeps c n m l new s implicit direct fresh row h = exits_keep c n m l new s fresh h implicit direct row

-- ---- A register

pub register_keeps : RegisterKeeps
unfolding RegisterKeeps set_register on_thread
register_keeps c n r v s h = piece_keeps c n s (set_register n r v s) (λ m. Then s (SetRegister n r v) NoPrimitive tt)
    (counted_stay
    (λ y j on. ap (λ (o : Option Place). option_map_or (is_waiting_on y) o false) (sym (place j)) ∙ on)
    (λ y sub on. sym (member_same y s t refl refl sub) ∙ on)
    (λ y j on. woken_at y j t ∙ (ap (λ (o : Option Place). woken_place y o (op_progress_of j t)) (place j) ∙ (ap (woken_place y (place_of j s)) (far j) ∙ (sym (woken_at y j s) ∙ on))))
    ((h Unscripted).awake refl).counted) h
  where
    t : Core
    t = set_register n r v s

    place : (j : ℕ) → place_of j t ≡ place_of j s
    place j = grind (arith, nat_tests, get-change)

    far : (j : ℕ) → op_progress_of j t ≡ op_progress_of j s
    far j = grind (arith, nat_tests, get-change)
