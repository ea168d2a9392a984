-- Whoever is offered to be released is held.
use Rattle.laws_choices.specs.Offer.{Offer}
use Rattle.laws_choices.specs.Offers.{of_found, op_offer, take_offer, turn_offer}
use Rattle.laws_picks.proofs.CountLemmas.{often}
use Rattle.laws_picks.proofs.OfferWalk.{call_has, op_has, take_has}
use Rattle.laws_picks.proofs.OrderLemmas.{kept_once}
use Rattle.laws_picks.specs.Arrival.{is_in}
use Rattle.machine_data.specs.Core.{Core}
use Rattle.machine_data.specs.Maps.{numbers}
use Rattle.machine_data.specs.Moves.{held_why_of}
use Rattle.machine_data.specs.Read.{admitted_held, held_why, is_held_admitted, next_entry, place_of}
use Rattle.machine_data.specs.Write.{on_instance, set_backpressure, set_do_not_enter}
use Rattle.machine_data.specs.declared.records.Entry.{Entry}
use Rattle.machine_data.specs.declared.records.Turn.TheVariants as turn
use Rattle.machine_data.specs.declared.records.Turn.{Turn}
use Rattle.machine_data.specs.declared.records.Why.{Why}
use Rattle.machine_data.specs.declared.statuses.Mark.{Mark}
use Rattle.machine_rules.specs.Ends.{held_by_flag}
use Rattle.machine_rules.specs.Scripts.{op_of}
use Rattle.machine_rules.specs.Stalled.{Setting}
use Rattle.machine_rules.specs.Takes.{popped}
use Rattle.machine_rules.specs.Task.{held_by_counter}
use Rattle.std.proofs.Common.{arith, refl, subst, sym}
use Rattle.std.proofs.lemmas.Bool.Decides.{nat_tests}
use Rattle.std.proofs.lemmas.Bool.{eqb-true}
use Rattle.std.specs.Option.{option_and_then}
use Rattle.std.specs.Prelude.{Bool, List, None, Option, Some, [], false, filter, is_some, true, ℕ, ◌==◌, ◌∷◌, ◌≡◌, ◌≤◌}

-- whoever is left of a list passes the test
kept_passes : (test : ℕ → Bool) (n : ℕ) (ns : List ℕ) → is_in n (filter test ns) ≡ true → test n ≡ true
kept_passes test n [] h = absurd (cc)
kept_passes test n (m ∷ ns) h = by (test m) refl (m == n) refl (kept_passes test n ns)
  where
    by : (b : Bool) → test m ≡ b → (c : Bool) → (m == n) ≡ c → (is_in n (filter test ns) ≡ true → test n ≡ true) → test n ≡ true
    by true on true same again = subst (λ (k : ℕ). test k ≡ true) (eqb-true m n same) on
    by true on false other again = again (grind (arith, nat_tests))
    by false off c e again = again (grind (arith, nat_tests))

admitted_is : (i n : ℕ) (t : Core) (o : Option Why) → is_held_admitted i t n o ≡ true → is_some o ≡ true
admitted_is i n t None h = absurd (cc)
admitted_is i n t (Some w) h = refl

flag_held : (i : ℕ) (s : Core) (n : ℕ) → is_in n (held_by_flag i s) ≡ true → is_some (held_why_of n s) ≡ true
unfolding held_by_flag admitted_held set_do_not_enter on_instance
flag_held i s n h =
    let t = set_do_not_enter i false s in
    admitted_is i n t (option_and_then held_why (place_of n t)) (kept_passes (λ m. is_held_admitted i t m (option_and_then held_why (place_of m t))) n (numbers t.threads) h)

counter_held : (i : ℕ) (s : Core) (n : ℕ) → is_in n (held_by_counter i s) ≡ true → is_some (held_why_of n s) ≡ true
unfolding held_by_counter admitted_held set_backpressure on_instance
counter_held i s n h =
    let t = set_backpressure i 0 s in
    admitted_is i n t (option_and_then held_why (place_of n t)) (kept_passes (λ m. is_held_admitted i t m (option_and_then held_why (place_of m t))) n (numbers t.threads) h)

abbrev AreHeld : Core → Offer → Type 0
AreHeld s o = (n : ℕ) → is_in n o.held ≡ true → is_some (held_why_of n s) ≡ true

op_held : (n : ℕ) (s : Core) (x : Setting) → AreHeld s (op_offer n s (op_of x.component n s))
op_held n s x = op_has (AreHeld s) s (λ m h. absurd (cc)) (λ y m h. absurd (cc)) n (λ y m h. absurd (cc)) (λ i o h. flag_held i s) (λ i o h. counter_held i s) (op_of x.component n s)
    (λ o is. call_has (AreHeld s) s (λ m h. absurd (cc)) (λ y m h. absurd (cc)) (λ k m h. absurd (cc)) n o)

take_none : (s : Core) (e : Entry) → (take_offer s e).held ≡ []
take_none s e = take_has (λ o. o.held ≡ []) s refl (λ y. refl) e (λ n y. refl)

pub offer_held : (x : Setting) (s : Core) (p : Turn) → AreHeld s (turn_offer x s p)
offer_held x s (turn.Run n) = op_held n s x
offer_held x s (turn.Take ended) = by (next_entry s)
  where
    by : (o : Option (Mark × Entry)) → AreHeld s (of_found o (λ e. take_offer (popped e.0 s) e.1))
    by None n h = absurd (cc)
    by (Some e) n h = let bad = subst (λ (ns : List ℕ). is_in n ns ≡ true) (take_none (popped e.0 s) e.1) h in absurd (cc)
offer_held x s _ = λ n h. absurd (cc)

-- ---- Once

flag_once : (i : ℕ) (s : Core) (n : ℕ) → often n (held_by_flag i s) ≤ 1
unfolding held_by_flag admitted_held
flag_once i s n = let t = set_do_not_enter i false s in kept_once (λ m. is_held_admitted i t m (option_and_then held_why (place_of m t))) t.threads n

counter_once : (i : ℕ) (s : Core) (n : ℕ) → often n (held_by_counter i s) ≤ 1
unfolding held_by_counter admitted_held
counter_once i s n = let t = set_backpressure i 0 s in kept_once (λ m. is_held_admitted i t m (option_and_then held_why (place_of m t))) t.threads n

abbrev pub HeldOnce : Offer → Type 0
HeldOnce o = (n : ℕ) → often n o.held ≤ 1

op_held_once : (n : ℕ) (s : Core) (x : Setting) → HeldOnce (op_offer n s (op_of x.component n s))
op_held_once n s x = op_has HeldOnce s (λ m. omega arith) (λ y m. omega arith) n (λ y m. omega arith) (λ i o h. flag_once i s) (λ i o h. counter_once i s) (op_of x.component n s)
    (λ o is. call_has HeldOnce s (λ m. omega arith) (λ y m. omega arith) (λ k m. omega arith) n o)

-- and is offered once
pub offer_once : (x : Setting) (s : Core) (p : Turn) → HeldOnce (turn_offer x s p)
offer_once x s (turn.Run n) = op_held_once n s x
offer_once x s (turn.Take ended) = by (next_entry s)
  where
    by : (o : Option (Mark × Entry)) → HeldOnce (of_found o (λ e. take_offer (popped e.0 s) e.1))
    by None n = omega arith
    by (Some e) n = subst (λ (ns : List ℕ). often n ns ≤ 1) (sym (take_none (popped e.0 s) e.1)) (omega arith)
offer_once x s _ = λ n. omega arith
