use Rattle.run_trace.proofs.Marking.{shows_mark, shows_none}
use Rattle.std.proofs.Common.{◌∙◌, arith, sym}
use Rattle.run_trace.proofs.packed.PackedLabels.mark.Goals as goal

pub returns-in-Some : goal.returns-in-Some
returns-in-Some c =
    rw (← c.self.view_is)
    (c.mark_of.ensures ∙ sym (shows_mark c.self.inside.heads.items c.self.inside.numbers.items c.args.place c.in-Some.head.now (omega (arith, c.in-Some.ensures.lookup)) (rw c.deref.ensures.value at c.in-Some.ensures.lookup.1)))

pub returns-in-None : goal.returns-in-None
returns-in-None c = rw (← c.self.view_is) (sym (shows_none c.self.inside.heads.items c.self.inside.numbers.items c.args.place (omega (arith, c.in-None.ensures.lookup))))
