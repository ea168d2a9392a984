use Rattle.core_fields.proofs.names.work_join.Goals as goal
use Rattle.core_records.proofs.HomeLemmas.{work_names, place_bare}

pub join_id-requires-clause-at : goal.join_id-requires-clause-at
join_id-requires-clause-at c = place_bare c.args.parts.now _ _ (work_names c.args.parts.now c.requires c.args.work c.in-Some.entry.now c.in-Some.ensures.item).join
