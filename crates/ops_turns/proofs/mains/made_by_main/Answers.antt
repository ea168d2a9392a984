use Rattle.std.proofs.Common.{ap, refl, subst, ◌∙◌}
use Rattle.std.specs.Prelude.{None, Option, Some, is_some, option_map, ◌≡◌}
use Rattle.ops_turns.proofs.MainLemmas.{answers_turns, did_turns, waits_turns}
use Rattle.ops_turns.proofs.mains.made_by_main.Goals as goal
use Rattle.ops_turns.specs.Main.{Steps}
use Rattle.ops_turns.specs.declared.mains.MainStep.{MainStep}

some_named : {X Y : Type 0} (f : X → Y) (o : Option X) → is_some o ≡ is_some (option_map f o)
some_named f None = refl
some_named f (Some x) = refl

pub returns-in-Did-clause-turns : goal.returns-in-Did-clause-turns
returns-in-Did-clause-turns g c x m new s h = did_turns x m s new (g.W.View.view c.args.w.now) c.requires c.in-Did.label (subst (λ (k : MainStep). Steps x.component x.script m s.core k new (g.W.View.view c.args.w.now).core) c.in-Did.is h)

pub returns-in-Pends-clause-turns : goal.returns-in-Pends-clause-turns
returns-in-Pends-clause-turns g c x m new s h =
    waits_turns x m s new (g.W.View.view c.args.w.now) c.requires _ (c.turn_where.ensures (g.W.View.view c.args.w.now).core (c.is_some.ensures ∙ (some_named _ c.next_polled.result ∙ ap is_some c.next_polled.ensures))) (subst (λ (k : MainStep). Steps x.component x.script m s.core k new (g.W.View.view c.args.w.now).core) c.in-Pends.is h)

pub returns-in-Answer-clause-turns : goal.returns-in-Answer-clause-turns
returns-in-Answer-clause-turns g c x m new s h =
    answers_turns x m s new (g.W.View.view c.args.w.now) c.requires c.in-Answer.value (subst (λ (k : MainStep). Steps x.component x.script m s.core k new (g.W.View.view c.args.w.now).core) c.in-Answer.is h)
