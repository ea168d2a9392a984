-- A component of one export, and a store in which its one instance was made.
use Rattle.machine_data.specs.declared.scenario.Version.TheVariants as version
use Rattle.std.proofs.Common.{ap, arith, refl, subst, sym, ◌+◌, ◌∙◌}
use Rattle.std.specs.Prelude.{[], Ok, Option, Some, None, length, option_map, ℕ, ◌≡◌}
use Rattle.machine_data.specs.Core.{Core, Unscripted, fresh}
use Rattle.machine_data.specs.Moves.{put_high}
use Rattle.machine_data.specs.Write.{add_call, add_group, add_thread, on_thread, push_high, set_place}
use Rattle.machine_data.specs.declared.component.Callee.{Callee}
use Rattle.machine_data.specs.declared.component.Component.{Component}
use Rattle.machine_data.specs.declared.records.Turn.{Turn}
use Rattle.machine_data.specs.declared.records.Turn.TheVariants as turn
use Rattle.machine_rules.specs.Calls.{call_made}
use Rattle.machine_rules.specs.MainOps as row
use Rattle.machine_rules.specs.MainOps.{main_started}
use Rattle.machine_rules.specs.Turns.{at_turn}
use Rattle.ops_turns.specs.Main.{Answers}
use Rattle.ops_turns.specs.Turn.{CoreInOrder, given, running_of, runs_in}
use Rattle.ops_turns.specs.Covered.{HasPlainExports}
use Rattle.ops_turns.proofs.CoveredLemmas.{codes_of}
use Rattle.ops_turns.proofs.FreshLemmas.{given_fresh, core_in_order_fresh}
use Rattle.ops_calls.specs.MainCalls.{Starts}
use Rattle.machine_data.specs.declared.trap.Trap.{Trap}
use Rattle.core_records.specs.Seen.{nothing}
use Rattle.core_primitives.specs.StateView.{StateView, thread_of, with_core}
use Rattle.std.specs.Prelude.{List}

-- a start makes a thread and a group
pub started_given : (c : Component) (e : Callee) (words : List ℕ) (s : Core) → given (main_started c e words s) ≡ given s + 2
unfolding main_started put_high push_high set_place on_thread call_made add_thread add_call add_group
started_given c e words s = omega arith

-- a main that is no script may answer
pub answers_now : (c : Component) (s : Core) (v : ℕ) → Answers c [] Unscripted s v Unscripted s
unfolding at_turn
answers_now c s v = record { part = refl; core = refl; step = (0, (row.Answer v, (refl, (refl, refl)))) }

-- a turn in which a thread runs is its
pub turn_of : (p : Turn) (n : ℕ) → runs_in p ≡ Some n → p ≡ turn.Run n
turn_of (turn.Run k) n e = cc
turn_of p n e = absurd (cc)

-- the new store is in order at main's turn
pub opens : (c : Component) → HasPlainExports c → length c.instances ≡ 1 → (s : StateView) → s ≡ with_core (fresh version.One 1 100000 1000000) nothing → CoreInOrder c turn.Main s.core
opens c plain one s is = subst (λ (u : StateView). CoreInOrder c turn.Main u.core) (sym is) (core_in_order_fresh c (codes_of c plain) version.One 1 100000 1000000 (omega (arith, one)))

-- few numbers were given in it
pub opens_given : (s : StateView) → s ≡ with_core (fresh version.One 1 100000 1000000) nothing → given s.core ≡ 0
opens_given s is = ap (λ (u : StateView). given u.core) is ∙ given_fresh version.One 1 100000 1000000

pub opens_current : (s : StateView) → s ≡ with_core (fresh version.One 1 100000 1000000) nothing → running_of s ≡ None
opens_current s is = ap (option_map (λ k. thread_of s k)) (ap (λ (u : StateView). u.current) is)

-- the store after a start: two numbers more were given
pub begun_given : (c : Component) (e : Callee) (words : List ℕ) (s t : StateView) (n : ℕ) (o : Option Trap) → Starts c e words s o (Ok n) t → given t.core ≡ given s.core + 2
begun_given c e words s t n (Some why) k = let refused = k.0 in absurd (cc)
begun_given c e words s t n None k = ap given k.1.core ∙ started_given c e words s.core
