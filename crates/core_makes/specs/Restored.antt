-- What was made and is taken back: each place of a table holds what it held.
use Rattle.std.specs.Prelude.{◌≡◌, ℕ}
use Rattle.core_records.specs.Image.{CoreImage}
use Rattle.task_table.specs.Table.{IsTable, Table, children_of, place_at}

pub record Restores {E : Type 0} (t u : Table E) : Type 0 where
  pub table : IsTable u
  pub places : (rep : ℕ) → place_at u rep ≡ place_at t rep
  pub children : (rep : ℕ) → children_of u rep ≡ children_of t rep

pub record IsRestored (p q : CoreImage) : Type 0 where
  pub threads : Restores p.threads q.threads
  pub calls : Restores p.calls q.calls
  pub works : Restores p.works q.works
  pub sets : Restores p.sets q.sets
  pub groups : Restores p.groups q.groups
  pub rest : q ≡ record p { threads = q.threads; calls = q.calls; works = q.works; sets = q.sets; groups = q.groups }
