use Rattle.core_fields.proofs.groups.if_tracked.Goals as goal
use Rattle.std.proofs.Common.{ap, if◌then◌else◌, sym, ◌∙◌}

pub returns-then-is_tracked : goal.returns-then-is_tracked
returns-then-is_tracked c = ap (λ b. if b then c.args.group else 0) (sym c.if-is_tracked.true ∙ c.is_tracked.ensures)

pub returns-else-is_tracked : goal.returns-else-is_tracked
returns-else-is_tracked c = ap (λ b. if b then c.args.group else 0) (sym c.if-is_tracked.false ∙ c.is_tracked.ensures)
