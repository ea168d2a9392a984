-- Where a drive is idle, an entry may be put, and the run goes on.
use Rattle.std.proofs.Common.{arith, refl, subst, sym}
use Rattle.std.specs.Prelude.{Bool, List, None, Option, Some, [], false, length, true, ℕ, ◌∷◌, ◌==◌, ◌≡◌}
use Rattle.machine_data.specs.Core.{Core, State, Unscripted}
use Rattle.machine_data.specs.declared.label.Label.{Label}
use Rattle.machine_data.specs.declared.outcome.Outcome.{Outcome}
use Rattle.machine_data.specs.declared.outcome.Outcome.TheVariants as outcome
use Rattle.machine_data.specs.declared.records.Turn.{Turn}
use Rattle.machine_data.specs.declared.records.Turn.TheVariants as turn
use Rattle.machine_rules.specs.Outcome.{is_at_rest, last_outcome, open_outcome, or_open, outcome_of}
use Rattle.machine_rules.specs.Stalled.{Setting, is_idle, is_stalled, is_unended_take}
use Rattle.ops_turns.proofs.DriveLemmas.{label_ends}
use Rattle.ops_turns.specs.Drive.{Drives}
use Rattle.ops_turns.specs.Turn.{IsSettled, PendsIn, goes_on}

last_ends : (ls : List Label) (o : Outcome) → last_outcome ls ≡ Some o → goes_on o ≡ false
last_ends [] o h = absurd (cc)
last_ends (l ∷ []) o h = label_ends l o h
last_ends (l ∷ m ∷ ls) o h = last_ends (m ∷ ls) o h

rests : (x : Setting) (t : State) (ls : List Label) (steps : ℕ) → outcome_of x t ls steps ≡ Some outcome.Idle → is_at_rest x t ≡ true
unfolding outcome_of
rests x t ls steps h = go (last_outcome ls) refl h
  where
    open_rests : (r used : Bool) → open_outcome r used ≡ Some outcome.Idle → r ≡ true
    open_rests true used h = refl
    open_rests false true h = absurd (cc)
    open_rests false false h = absurd (cc)

    go : (q : Option Outcome) → last_outcome ls ≡ q → or_open q x t ls steps ≡ Some outcome.Idle → is_at_rest x t ≡ true
    go None at h = open_rests (is_at_rest x t) (length ls == steps) h
    go (Some o) at h =
        let same : o ≡ outcome.Idle = cc in
        let no = subst (λ (q : Outcome). goes_on q ≡ false) same (last_ends ls o at) in
        absurd (cc)

unended : (x : Setting) (t : State) → is_at_rest x t ≡ true → is_unended_take t.turn ≡ true
unfolding is_at_rest is_stalled is_idle
unended x t h = grind (arith, h)

take_of : (p : Turn) → is_unended_take p ≡ true → p ≡ turn.Take false
take_of (turn.Take false) h = refl
take_of (turn.Take true) h = absurd (cc)
take_of turn.Main h = absurd (cc)
take_of (turn.Futures n) h = absurd (cc)
take_of (turn.Run n) h = absurd (cc)
take_of turn.Over h = absurd (cc)

pub idle_turn : (x : Setting) (s : State) (before : List Label) (t : State) (after : List Label) (steps : ℕ) (o : Outcome) → Drives x s before t after steps o → o ≡ outcome.Idle → t.turn ≡ turn.Take false
idle_turn x s before t after steps o h is =
    let idle = subst (λ (q : Outcome). Drives x s before t after steps q) is h in
    take_of t.turn (unended x t (rests x t idle.added steps idle.ends))

pub settled_take_of : (s : Core) (p : Turn) → p ≡ turn.Take false → IsSettled s p
settled_take_of s p is = subst (λ (q : Turn). IsSettled s q) (sym is) refl

-- a main that is no script pends in that turn
pub pends_outside : (x : Setting) (s : Core) (p : Turn) → p ≡ turn.Take false → PendsIn x s Unscripted p
pends_outside x s p is = subst (λ (q : Turn). PendsIn x s Unscripted q) (sym is) refl
