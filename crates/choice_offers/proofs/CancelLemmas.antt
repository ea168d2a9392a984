-- What a cancel of a call offers.
use Rattle.laws_choices.specs.Offers.{cancel_offer_by, nothing}
use Rattle.machine_data.specs.Core.{Core}
use Rattle.machine_data.specs.Read.{cancel_was_asked, has_ended, is_at, is_callback_yield, is_nil, is_second, was_started}
use Rattle.machine_rules.specs.Cancels.{AlreadyEnded, AskedBefore, CallbackYields, CancelCase, OtherwiseRuns, StartNotRun, ThreadWaits, cancel_case, cancellable}
use Rattle.std.proofs.Common.{ap, refl, sym, ◌∙◌}
use Rattle.std.specs.Prelude.{Bool, List, [], false, if◌then◌else◌, not, true, ℕ, ◌&&◌, ◌∷◌, ◌≡◌}

module _ (k : ℕ) (s : Core) where
  -- the first of what a cancel finds that holds
  abbrev found : (ended started asked waits yields : Bool) → CancelCase
  found ended started asked waits yields =
      if ended then AlreadyEnded else
      if not started then StartNotRun else
      if asked then AskedBefore else
      if waits then ThreadWaits else
      if yields then CallbackYields else OtherwiseRuns

  abbrev asked_before : Bool
  asked_before = is_second s.version && cancel_was_asked k s

  abbrev waits : Bool
  waits = not (is_nil (cancellable k s))

  abbrev yields : Bool
  yields = is_at k s is_callback_yield

  pub ended_none : has_ended k s ≡ true → nothing ≡ cancel_offer_by k s (cancel_case k s)
  ended_none is = sym (ap (λ (b : Bool). cancel_offer_by k s (found b (was_started k s) asked_before waits yields)) is)

  pub unstarted_none : has_ended k s ≡ false → was_started k s ≡ false → nothing ≡ cancel_offer_by k s (cancel_case k s)
  unstarted_none ended is =
      sym (ap (λ (b : Bool). cancel_offer_by k s (found b (was_started k s) asked_before waits yields)) ended
      ∙ ap (λ (b : Bool). cancel_offer_by k s (found false b asked_before waits yields)) is)

  pub asked_none : has_ended k s ≡ false → was_started k s ≡ true → (is_second s.version && cancel_was_asked k s) ≡ true → nothing ≡ cancel_offer_by k s (cancel_case k s)
  asked_none ended started is =
      sym (ap (λ (b : Bool). cancel_offer_by k s (found b (was_started k s) asked_before waits yields)) ended
      ∙ (ap (λ (b : Bool). cancel_offer_by k s (found false b asked_before waits yields)) started
      ∙ ap (λ (b : Bool). cancel_offer_by k s (found false true b waits yields)) is))

  -- one of the threads that wait, also where none does
  one_taken : cancel_offer_by k s ThreadWaits ≡ cancel_offer_by k s (found false true false waits yields)
  one_taken = by (cancellable k s) refl yields
    where
      by : (ns : List ℕ) → cancellable k s ≡ ns → (y : Bool) → cancel_offer_by k s ThreadWaits ≡ cancel_offer_by k s (found false true false (not (is_nil ns)) y)
      by [] is true = ap (λ (ns : List ℕ). record { waiters = ns; members = []; held = [] }) is
      by [] is false = ap (λ (ns : List ℕ). record { waiters = ns; members = []; held = [] }) is
      by (n ∷ ns) is y = refl

  pub takes_one : has_ended k s ≡ false → was_started k s ≡ true → (is_second s.version && cancel_was_asked k s) ≡ false → cancel_offer_by k s ThreadWaits ≡ cancel_offer_by k s (cancel_case k s)
  takes_one ended started asked =
      one_taken
      ∙ sym (ap (λ (b : Bool). cancel_offer_by k s (found b (was_started k s) asked_before waits yields)) ended
      ∙ (ap (λ (b : Bool). cancel_offer_by k s (found false b asked_before waits yields)) started
      ∙ ap (λ (b : Bool). cancel_offer_by k s (found false true b waits yields)) asked))
