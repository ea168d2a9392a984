use Rattle.std.proofs.Common.{refl, arith}
use Rattle.text_scenario.specs.declared.tree.MainOpText.TheVariants as main
use Rattle.text_scenario.proofs.MainKept.{kept_finish, kept_finish_of_none, kept_other}
use Rattle.text_scenario.proofs.main_lines.MainLines.push.Goals as goal

pub invariant_of-self-then-start-ge1 : goal.invariant_of-self-then-start-ge1
invariant_of-self-then-start-ge1 c =
    let s = c.self.inside in
    let known = rw (c.in-Finish.is, ← c.self.view_is) at c.requires in
    rw c.in_ok-push-in-Finish.ensures.ok (kept_finish s.ops s.starts s.spawns s.finished.items c.self.invariant c.in-Finish.start c.in-Finish.to (omega (arith, c.if-start-ge1.true)) (omega (arith, known, c.self.invariant.starts_are)))

pub invariant_of-self-else-start-ge1 : goal.invariant_of-self-else-start-ge1
invariant_of-self-else-start-ge1 c =
    let s = c.self.inside in
    rw c.in_ok-push-in-Finish.ensures.ok (kept_finish_of_none s.ops s.starts s.spawns s.finished.items c.self.invariant c.in-Finish.start c.in-Finish.to (λ le. absurd (omega (arith, le, c.if-start-ge1.false))))

pub invariant_of-self-in-Abort : goal.invariant_of-self-in-Abort
invariant_of-self-in-Abort c =
    let s = c.self-in-Abort.inside in
    rw c.in_ok-push-in-Abort.ensures.ok (kept_other s.ops s.starts s.spawns s.finished.items c.self-in-Abort.invariant (main.Abort c.in-Abort.spawn) refl refl (λ k. refl))

pub invariant_of-self-in-Await : goal.invariant_of-self-in-Await
invariant_of-self-in-Await c =
    let s = c.self-in-Await.inside in
    rw c.in_ok-push-in-Await.ensures.ok (kept_other s.ops s.starts s.spawns s.finished.items c.self-in-Await.invariant (main.Await c.in-Await.spawn) refl refl (λ k. refl))

pub invariant_of-self-in-Quiet : goal.invariant_of-self-in-Quiet
invariant_of-self-in-Quiet c =
    let s = c.self-in-Quiet.inside in
    rw c.in_ok-push-in-Quiet.ensures.ok (kept_other s.ops s.starts s.spawns s.finished.items c.self-in-Quiet.invariant (main.Quiet) refl refl (λ k. refl))

pub invariant_of-self-in-Ready : goal.invariant_of-self-in-Ready
invariant_of-self-in-Ready c =
    let s = c.self-in-Ready.inside in
    rw c.in_ok-push-in-Ready.ensures.ok (kept_other s.ops s.starts s.spawns s.finished.items c.self-in-Ready.invariant (main.Ready c.in-Ready.callee) refl refl (λ k. refl))
