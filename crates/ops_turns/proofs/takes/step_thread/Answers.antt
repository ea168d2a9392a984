use Rattle.std.proofs.Common.{arith, refl, subst, sym, ◌≡◌, ◌∙◌}
use Rattle.machine_data.specs.Moves.{why_of}
use Rattle.machine_data.specs.declared.records.Why.TheVariants as why
use Rattle.ops_guests.proofs.CalmLemmas.{picks_implements}
use Rattle.ops_guests.specs.Stays.{StaysAfter}
use Rattle.ops_turns.proofs.ShowLemmas.{taken_unwinds}
use Rattle.ops_turns.proofs.takes.step_thread.Goals as goal
use Rattle.ops_turns.specs.Taken.{TakesThread, Taken}
use Rattle.core_primitives.specs.StateView.{StateView, thread_of}

pub take_thread-requires-clause-taken : goal.take_thread-requires-clause-taken
take_thread-requires-clause-taken g c = subst (λ (u : StateView). Taken c.args.mark (thread_of u c.args.thread) u.core) (sym c.set_current.ensures) c.requires.taken

pub show_taken-requires-clause-unwinds : goal.show_taken-requires-clause-unwinds
show_taken-requires-clause-unwinds g c =
    let v = g.W.View.view in
    taken_unwinds c.args.mark c.in-Ok.op_result c.args.thread (v c.set_current.new.self) (v c.take_thread.new.w)
    (subst (λ (u : StateView). Taken c.args.mark (thread_of u c.args.thread) u.core) (sym c.set_current.ensures) c.requires.taken) c.in-Ok.ensures.stays

pub returns-clause-shown : goal.returns-clause-shown
returns-clause-shown g c made =
    let v = g.W.View.view in
    let s = v c.args.w.now in
    let w = v c.take_thread.new.w in
    let id = c.args.thread in
    let op_result = c.in-Ok.op_result in
    let picks = subst (λ (u : StateView). TakesThread c.args.mark (thread_of u id) u op_result w) c.set_current.ensures c.in-Ok.ensures.picks in
    let stays = subst (λ (u : StateView). StaysAfter op_result u w) c.set_current.ensures c.in-Ok.ensures.stays in
    record { op_result = op_result; left = w; implements = picks_implements picks; picks = picks; stays = stays; shown = c.show_taken.ensures.shown }

pub returns-in_default-clause-wants : goal.returns-in_default-clause-wants
returns-in_default-clause-wants g c unmade =
    subst (λ (u : StateView). why_of (thread_of u c.args.thread) u.core ≡ why.Start) c.set_current.ensures c.in_default.ensures.err

pub returns-clause-wants : goal.returns-clause-wants
returns-clause-wants g c unmade = let no = sym c.show_taken.ensures.made ∙ unmade in absurd (cc)

pub returns-clause-full : goal.returns-clause-full
returns-clause-full g c unmade = let no = sym c.show_taken.ensures.made ∙ unmade in absurd (cc)

pub returns-clause-spare : goal.returns-clause-spare
returns-clause-spare g c = record { most = omega (arith, c.show_taken.ensures.spare); unmade = λ unmade. absurd (let no = sym c.show_taken.ensures.made ∙ unmade in cc) }

pub returns-in_default-clause-spare : goal.returns-in_default-clause-spare
returns-in_default-clause-spare g c = record { most = omega arith; unmade = λ unmade. refl }
