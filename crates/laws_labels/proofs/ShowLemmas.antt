-- What the parts of rules show.
use Rattle.laws_labels.specs.Own.{Shows, is_rule_trap}
use Rattle.std.specs.Prelude.{Bool, None, Option, Some, false, true, ◌≡◌}
use Rattle.machine_data.specs.declared.label.Label.{Label}
use Rattle.machine_data.specs.declared.trap.Trap.{Trap}
use Rattle.machine_rules.specs.Progress.{Asks, Fails, Continues, Never, OneOf, Ordered, Progress, Stops, Traps, may, or_never, or_trap, trap_if}

module _ (P : Label → Type 0) where
  pub trap_if_shows : (b : Bool) (t : Trap) (p : Progress) → is_rule_trap t ≡ true → Shows P p → Shows P (trap_if b t p)
  trap_if_shows true t p row h = row
  trap_if_shows false t p row h = h

  pub or_trap_shows : {X : Type 0} (o : Option X) (t : Trap) (next : X → Progress) → is_rule_trap t ≡ true → ((x : X) → Shows P (next x)) → Shows P (or_trap o t next)
  or_trap_shows None t next row h = row
  or_trap_shows (Some x) t next row h = h x

  pub may_shows : (b : Bool) (p : Progress) → Shows P p → Shows P (may b p)
  may_shows true p h = h
  may_shows false p h = tt

  pub or_never_shows : {X : Type 0} (o : Option X) (next : X → Progress) → ((x : X) → Shows P (next x)) → Shows P (or_never o next)
  or_never_shows None next h = tt
  or_never_shows (Some x) next h = h x

-- what shows one kind of label shows a wider one
pub wider : (P Q : Label → Type 0) → ((l : Label) → P l → Q l) → (p : Progress) → Shows P p → Shows Q p
wider P Q leads (Continues l new m) h = leads l h
wider P Q leads (Stops l new) h = leads l h
wider P Q leads (Ordered held next) h = λ order. wider P Q leads (next order) (h order)
wider P Q leads (OneOf held next) h = λ m. wider P Q leads (next m) (h m)
wider P Q leads (Asks next) h = λ answer. wider P Q leads (next answer) (h answer)
wider P Q leads (Traps t) h = h
wider P Q leads (Fails i) h = tt
wider P Q leads Never h = tt
