-- The foot of a strand stays its foot while other threads are moved.
use Rattle.std.proofs.Common.{ap, arith, refl, subst, sym, ◌∙◌}
use Rattle.std.specs.Prelude.{List, None, Option, Some, [], false, option_and_then, true, ℕ, ◌∷◌, ◌≡◌}
use Rattle.task_table.specs.declared.id.TableId.{TableId}
use Rattle.task_wait.specs.declared.keys.ThreadKey.{ThreadKey}
use Rattle.machine_data.specs.Core.{Core}
use Rattle.machine_data.specs.Moves.{checked, held_why_of, put_high, released, released_one}
use Rattle.machine_data.specs.Read.{foot_of, held_why, place_of}
use Rattle.machine_data.specs.Write.{push_high}
use Rattle.machine_data.specs.declared.records.Place.{Place}
use Rattle.machine_data.specs.declared.records.Place.TheVariants as place
use Rattle.machine_data.specs.declared.records.Why.{Why}
use Rattle.machine_data.specs.declared.statuses.Mark.TheVariants as mark
use Rattle.ops_moves.specs.Stops.{MayStop}
use Rattle.ops_guests.proofs.RunLemmas.{KeepsUnder, foot_is, foot_kept, may_stop}
use Rattle.ops_guests.proofs.BesideLemmas.{checked_place, free_loose, is_busy}
use Rattle.ops_guests.specs.Running.{Stand}
use Rattle.machine_rules.proofs.StandLemmas.{by_number, place_kept}
use Rattle.machine_rules.proofs.StopLemmas.{Untouched}
use Rattle.machine_rules.specs.Places.{one_if}
use Rattle.core_primitives.specs.StateView.{StateView, on_core, thread_of}

pub under_after : (s m t : Core) → KeepsUnder s m → KeepsUnder m t → KeepsUnder s t
under_after s m t a b k x at = b k x (a k x at)

pub quiet_under : (s t : Core) → Untouched s t → KeepsUnder s t
quiet_under s t u k x at = u.places k ∙ at

-- ---- A check

pub checked_under : (n : ℕ) (q : Place) (i : ℕ) (s : Core) → is_busy q ≡ true → Stand n q [] s → KeepsUnder s (checked i s)
checked_under n q i s busy st k x at =
    by_number k n (place_of k (checked i s) ≡ Some (place.Under x))
    (λ e. absurd (not_busy (subst (λ (p : Place). is_busy p ≡ true) (same_place q (place.Under x) (sym st.here ∙ (ap (λ (j : ℕ). place_of j s) (sym e) ∙ at))) busy)))
    (λ e. checked_place k i s (free_loose k (place.Under x) s at refl (st.placed k (let y = ap one_if e in omega (arith, y)))) ∙ at)
  where
    same_place : (p r : Place) → Some p ≡ Some r → p ≡ r
    same_place p r e = cc

    not_busy : false ≡ true → ⊥
    not_busy e = cc

-- ---- A release

pub high_under : (m : ℕ) (w : Why) (s : Core) → ((x : ℕ) → place_of m s ≡ Some (place.Under x) → ⊥) → KeepsUnder s (put_high m w s)
unfolding put_high push_high
high_under m w s apart k x at = by_number k m (place_of k (put_high m w s) ≡ Some (place.Under x)) (λ e. absurd (apart x (ap (λ (j : ℕ). place_of j s) (sym e) ∙ at))) (λ e. place_kept k m (place.Ready mark.High w) s e ∙ at)

held_apart : (m x : ℕ) (w : Why) (s : Core) → held_why_of m s ≡ Some w → place_of m s ≡ Some (place.Under x) → ⊥
held_apart m x w s held at = no_both (sym (ap (option_and_then held_why) at) ∙ held)
  where
    no_both : None ≡ Some w → ⊥
    no_both e = cc

one_under : (m : ℕ) (o : Option Why) (s : Core) → held_why_of m s ≡ o → KeepsUnder s (released_one m o s)
one_under m None s e = λ k x at. at
one_under m (Some w) s e = high_under m w s (λ x at. held_apart m x w s e at)

pub released_under : (ms : List ℕ) (s : Core) → KeepsUnder s (released ms s)
unfolding released
released_under [] s = λ k x at. at
released_under (m ∷ ms) s = under_after s (released_one m (held_why_of m s) s) (released ms (released_one m (held_why_of m s) s)) (one_under m (held_why_of m s) s refl) (released_under ms (released_one m (held_why_of m s) s))

-- ---- As contracts see it

-- the strand with the foot of before may stop
pub foot_may_still : (n f : TableId ThreadKey) (q : Place) (g : Core → Core) (s t : StateView) → is_busy q ≡ true → thread_of s f ≡ foot_of (thread_of s n) s.core → t ≡ on_core g s → KeepsUnder s.core (g s.core) → Stand (thread_of s n) q [] (g s.core) → MayStop (thread_of t f) t.core
foot_may_still n f q g s t busy foot e keeps st =
    let N = thread_of s n in
    let is = foot_kept s.core (g s.core) (foot_of N s.core) N keeps (foot_is N s.core) in
    subst (λ (v : StateView). MayStop (thread_of v f) v.core) (sym e) (subst (λ (k : ℕ). MayStop k (g s.core)) (sym foot) (may_stop N q (g s.core) st (foot_of N s.core) busy is))
