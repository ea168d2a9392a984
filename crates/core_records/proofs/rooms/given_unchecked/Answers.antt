use Rattle.std.proofs.Common.{sym, ◌∙◌}
use Rattle.core_records.proofs.CountLemmas.{none_given}
use Rattle.std.specs.BTreeMap.{is_at}
use Rattle.std.specs.Ordering.{nat_cmp}
use Rattle.core_records.proofs.rooms.given_unchecked.Goals as goal

pub returns-then-given-eq0 : goal.returns-then-given-eq0
returns-then-given-eq0 c = sym (none_given (is_at (nat_cmp c.args.call)) c.args.rooms.now.entries (sym c.requires ∙ c.if-given-eq0.true))
