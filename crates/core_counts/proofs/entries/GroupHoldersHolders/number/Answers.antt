use Rattle.task_table.specs.Table.{place_at}
use Rattle.core_counts.proofs.EntryLemmas.{read_nowhere, read_there}
use Rattle.core_counts.proofs.entries.GroupHoldersHolders.number.Goals as goal

pub returns-in-Some : goal.returns-in-Some
returns-in-Some c = read_there (λ group. group.number) (place_at c.args.self.now.groups.now c.args.name) c.in-Some.group.now c.in-Some.ensures

pub returns-in-None : goal.returns-in-None
returns-in-None c = read_nowhere (λ group. group.number) (place_at c.args.self.now.groups.now c.args.name) c.in-None.ensures
