-- The round goes from spawn to spawn.
use Rattle.std.proofs.Common.{ap, arith, sym, ◌∙◌, ◌≡◌}
use Rattle.std.specs.Prelude.{Some, false, true, ℕ}
use Rattle.laws_order.proofs.LiveLemmas.{next_above}
use Rattle.beside_main.proofs.RoundLemmas.{round_cut, round_over, round_polls_next, round_skips, round_starts, spawn_by_caller}
use Rattle.machine_data.specs.Read.{work_caller_of}
use Rattle.machine_rules.specs.MainOps.{is_spawn, is_spawn_caller}
use Rattle.machine_rules.specs.Works.{next_polled}
use Rattle.beside_main.proofs.run.BesideRun.last_round.Goals as goal

pub round-init : goal.round-init
round-init g c = round_starts c.args.component.now c.args.self.now c.requires.able c.requires.turn

pub round-preserved-then-not-is_spawn : goal.round-preserved-then-not-is_spawn
round-preserved-then-not-is_spawn g c =
    let core = c.round.self.store.state.core in
    let i = c.work_number-number.result in
    let next : next_polled c.round.polled core ≡ Some i = sym c.in-Some.ensures ∙ ap (λ (n : ℕ). Some n) (sym c.work_number-number.ensures) in
    let other : is_spawn i core ≡ false = spawn_by_caller c.round.polled i core next ∙ (ap (λ (n : ℕ). is_spawn_caller (work_caller_of n core)) c.work_number-number.ensures ∙ (sym c.is_spawn.ensures ∙ c.if-not-is_spawn.true)) in
    round_skips c.args.component.now c.round.polled i c.args.self.now c.round.self c.round.invariant next other

pub round-smaller-then-not-is_spawn : goal.round-smaller-then-not-is_spawn
round-smaller-then-not-is_spawn g c =
    let core = c.round.self.store.state.core in
    let i = c.work_number-number.result in
    let next : next_polled c.round.polled core ≡ Some i = sym c.in-Some.ensures ∙ ap (λ (n : ℕ). Some n) (sym c.work_number-number.ensures) in
    omega (arith, next_above c.round.polled i core next)

pub returns-then-self-eq0 : goal.returns-then-self-eq0
returns-then-self-eq0 g c =
    let core = c.round.self.store.state.core in
    let i = c.work_number-number.result in
    let next : next_polled c.round.polled core ≡ Some i = sym c.in-Some.ensures ∙ ap (λ (n : ℕ). Some n) (sym c.work_number-number.ensures) in
    let is : is_spawn i core ≡ true = spawn_by_caller c.round.polled i core next ∙ (ap (λ (n : ℕ). is_spawn_caller (work_caller_of n core)) c.work_number-number.ensures ∙ (sym c.is_spawn.ensures ∙ c.if-not-is_spawn.false)) in
    record { round = round_cut c.args.component.now c.round.polled i c.args.self.now c.round.self c.round.invariant next is c.if-self-eq0.true }

pub poll_last-requires-clause-able : goal.poll_last-requires-clause-able
poll_last-requires-clause-able g c = c.round.invariant.able

pub poll_last-requires-clause-beside : goal.poll_last-requires-clause-beside
poll_last-requires-clause-beside g c = c.round.invariant.beside

pub poll_last-requires-clause-next : goal.poll_last-requires-clause-next
poll_last-requires-clause-next g c = (c.work_number-number.result, sym c.in-Some.ensures ∙ ap (λ (n : ℕ). Some n) (sym c.work_number-number.ensures))

pub round-preserved : goal.round-preserved
round-preserved g c =
    let core = c.round.self.store.state.core in
    let i = c.work_number-number.result in
    let next : next_polled c.round.polled core ≡ Some i = sym c.in-Some.ensures ∙ ap (λ (n : ℕ). Some n) (sym c.work_number-number.ensures) in
    let is : is_spawn i core ≡ true = spawn_by_caller c.round.polled i core next ∙ (ap (λ (n : ℕ). is_spawn_caller (work_caller_of n core)) c.work_number-number.ensures ∙ (sym c.is_spawn.ensures ∙ c.if-not-is_spawn.false)) in
    round_polls_next c.args.component.now c.round.polled i c.args.self.now c.round.self c.poll_last.new.self c.round.invariant next is c.in_ok-poll_last.ensures.polls

pub round-smaller : goal.round-smaller
round-smaller g c =
    let core = c.round.self.store.state.core in
    let i = c.work_number-number.result in
    let next : next_polled c.round.polled core ≡ Some i = sym c.in-Some.ensures ∙ ap (λ (n : ℕ). Some n) (sym c.work_number-number.ensures) in
    omega (arith, next_above c.round.polled i core next)

pub returns : goal.returns
returns g c = record { round = round_over c.args.component.now c.round.polled c.args.self.now c.round.self c.round.invariant (sym c.in_default.ensures) }
