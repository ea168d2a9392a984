-- The turn that a settled one of futures is.
use Rattle.std.proofs.Common.{refl, sym, ◌∙◌}
use Rattle.std.specs.Prelude.{None, Option, Some, false, is_some, true, ℕ, ◌≡◌}
use Rattle.machine_data.specs.Core.{Core}
use Rattle.machine_data.specs.declared.records.Turn.TheVariants as turn
use Rattle.machine_rules.specs.Turns.{settled_futures}
use Rattle.machine_rules.specs.Works.{next_polled}
use Rattle.ops_turns.proofs.settles.turn_where.Goals as goal

where_some : (n : ℕ) (s : Core) (o : Option ℕ) → true ≡ is_some o → turn.Futures n ≡ settled_futures n s o
where_some n s None is = absurd (cc)
where_some n s (Some i) is = refl

where_none : (n : ℕ) (s : Core) (o : Option ℕ) → false ≡ is_some o → turn.Take false ≡ settled_futures n s o
where_none n s None is = refl
where_none n s (Some i) is = absurd (cc)

pub returns-then-more : goal.returns-then-more
returns-then-more c s is = where_some c.args.polled s (next_polled c.args.polled s) (sym c.if-more.true ∙ is)

pub returns-else-more : goal.returns-else-more
returns-else-more c s is = where_none c.args.polled s (next_polled c.args.polled s) (sym c.if-more.false ∙ is)
