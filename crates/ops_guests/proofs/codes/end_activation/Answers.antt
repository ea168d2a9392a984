use Rattle.std.proofs.Common.{◌/◌}
use Rattle.core_primitives.specs.Preferences.{preference}
use Rattle.ops_guests.proofs.CodeLemmas.{by_code}
use Rattle.ops_guests.proofs.codes.end_activation.Goals as goal

pub returns-in-0-clause-picks : goal.returns-in-0-clause-picks
returns-in-0-clause-picks g c = let s = g.W.View.view c.args.w.now in by_code (preference s) c.args.label _ _ c.args.code _ s.core _ _ c.if-code-gt4294967295.false c.in-0.is (c.code_exits.ensures.picks (c.args.code / 16))

pub returns-in-1-clause-picks : goal.returns-in-1-clause-picks
returns-in-1-clause-picks g c = let s = g.W.View.view c.args.w.now in by_code (preference s) c.args.label _ _ c.args.code _ s.core _ _ c.if-code-gt4294967295.false c.in-1.is (c.code_yields.ensures.picks c.args.label c.requires.silent (c.args.code / 16))
