-- What a rule shows: the thread goes on or none does, and the label gives no outcome.
use Rattle.machine_data.specs.declared.statuses.HostPoll.{HostPoll}
use Rattle.ops_dispatch.specs.Continues.{OpGoesOn, Shows}
use Rattle.std.proofs.Common.{subst, sym}
use Rattle.std.specs.Prelude.{Bool, List, None, Option, Some, false, true, ℕ, ◌≡◌}
use Rattle.machine_data.specs.Core.{Core}
use Rattle.machine_data.specs.declared.trap.Trap.{Trap}
use Rattle.ops_guests.specs.OpResult.{Implements}
use Rattle.ops_guests.specs.declared.op_result.OpResult.{OpResult}
use Rattle.machine_rules.specs.Outcome.{outcome_of_label}
use Rattle.machine_rules.specs.Progress.{Asks, Fails, Continues, Never, OneOf, Ordered, Progress, Stops, Traps, may, or_never, or_trap, trap_if}
use Rattle.core_primitives.specs.StateView.{StateView}

-- who goes on is so, and the label gives no outcome
abbrev pub ShowsFor : (ℕ → Type 0) → Progress → Type 0
ShowsFor P (Continues l new m) = P m × (outcome_of_label l ≡ None)
ShowsFor P (Stops l new) = outcome_of_label l ≡ None
ShowsFor P (Ordered ns next) = (order : List ℕ) → ShowsFor P (next order)
ShowsFor P (OneOf ns next) = (m : ℕ) → ShowsFor P (next m)
ShowsFor P (Asks next) = (answer : HostPoll) → ShowsFor P (next answer)
ShowsFor P _ = Unit {0}

-- this thread goes on, if one does
abbrev pub here : ℕ → ℕ → Type 0
here n m = m ≡ n

abbrev pub ShowsAs : ℕ → Progress → Type 0
ShowsAs n p = ShowsFor (here n) p

-- no thread goes on
abbrev pub nobody : ℕ → Type 0
nobody m = ⊥

abbrev pub StopsAs : Progress → Type 0
StopsAs p = ShowsFor nobody p

pub shows_of : (n : ℕ) (p : Progress) (s : Core) (r : OpResult) (t : Core) → ShowsAs n p → Implements p s r t → Shows n r
shows_of n (Continues l new m) s r t g h = subst (Shows n) (sym h.0) g
shows_of n (Stops l new) s r t g h = subst (Shows n) (sym h.0) g
shows_of n (Traps why) s r t g h = subst (Shows n) (sym h.0) tt
shows_of n (Fails i) s r t g h = subst (Shows n) (sym h.0) tt
shows_of n Never s r t g h = absurd h
shows_of n (Ordered ns next) s r t g h = shows_of n (next h.0) s r t (g h.0) h.1.1
shows_of n (OneOf ns next) s r t g h = shows_of n (next h.0) s r t (g h.0) h.1.1
shows_of n (Asks next) s r t g h = shows_of n (next h.0) s r t (g h.0) h.1

pub stops_goes : (v : StateView) (p : Progress) (s : Core) (r : OpResult) (t : Core) → StopsAs p → Implements p s r t → OpGoesOn r v
stops_goes v (Continues l new m) s r t g h = absurd g.0
stops_goes v (Stops l new) s r t g h = subst (λ (q : OpResult). OpGoesOn q v) (sym h.0) g
stops_goes v (Traps why) s r t g h = subst (λ (q : OpResult). OpGoesOn q v) (sym h.0) tt
stops_goes v (Fails i) s r t g h = subst (λ (q : OpResult). OpGoesOn q v) (sym h.0) tt
stops_goes v Never s r t g h = absurd h
stops_goes v (Ordered ns next) s r t g h = stops_goes v (next h.0) s r t (g h.0) h.1.1
stops_goes v (OneOf ns next) s r t g h = stops_goes v (next h.0) s r t (g h.0) h.1.1
stops_goes v (Asks next) s r t g h = stops_goes v (next h.0) s r t (g h.0) h.1

pub if_traps : (P : ℕ → Type 0) (b : Bool) (why : Trap) (p : Progress) → ShowsFor P p → ShowsFor P (trap_if b why p)
if_traps P true why p g = tt
if_traps P false why p g = g

pub if_lawful : (P : ℕ → Type 0) (b : Bool) (p : Progress) → ShowsFor P p → ShowsFor P (may b p)
if_lawful P true p g = g
if_lawful P false p g = tt

pub if_found : {X : Type 0} (P : ℕ → Type 0) (o : Option X) (why : Trap) (next : X → Progress) → ((x : X) → ShowsFor P (next x)) → ShowsFor P (or_trap o why next)
if_found P None why next g = tt
if_found P (Some x) why next g = g x

pub if_given : {X : Type 0} (P : ℕ → Type 0) (o : Option X) (next : X → Progress) → ((x : X) → ShowsFor P (next x)) → ShowsFor P (or_never o next)
if_given P None next g = tt
if_given P (Some x) next g = g x

-- after two tests
pub two_traps : (P : ℕ → Type 0) (a b : Bool) (x y : Trap) (p : Progress) → ShowsFor P p → ShowsFor P (trap_if a x (trap_if b y p))
two_traps P a b x y p g = if_traps P a x (trap_if b y p) (if_traps P b y p g)
