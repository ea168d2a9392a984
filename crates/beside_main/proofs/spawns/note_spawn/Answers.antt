-- None is behind those that are noted, or one, which is noted then.
use Rattle.std.proofs.Common.{List, ap, arith, length, length-append, map, sym, ◌+◌, ◌-◌, ◌∙◌, ◌≡◌}
use Rattle.std.proofs.lemmas.Option.{slice_get-map}
use Rattle.std.specs.Option.{option_map}
use Rattle.std.specs.Prelude.{None, Option, Some, [], slice_get, ℕ, ◌++◌, ◌∷◌}
use Rattle.beside_main.proofs.RisingLemmas.{none_added, one_added}
use Rattle.beside_main.proofs.spawns.note_spawn.Goals as goal
use Rattle.task_run.specs.Script.{place_of}
use Rattle.task_store.specs.declared.spawn.SpawnHandle.{SpawnHandle}

abbrev number : SpawnHandle → ℕ
number h = h.number

pub returns-in_default-spawned : goal.returns-in_default-spawned
returns-in_default-spawned c =
    let old = c.args.spawns.now in
    let hs = c.args.script.now.spawns.items in
    let at : slice_get hs (c.in-Some.next - 1) ≡ None = sym c.in_default-spawned.ensures.is in
    let here : c.in-Some.next - 1 ≡ length old.numbers.items = (let more = c.in-Some.ensures.1 in let count = c.requires.count in omega (arith, more, count)) in
    let none : slice_get (place_of c.args.script.now).spawns (length old.numbers.items) ≡ None =
    slice_get-map number hs (length old.numbers.items) ∙ ap (option_map number) (ap (slice_get hs) (sym here) ∙ at) in
    record { numbers = sym (none_added old.numbers.items _ c.requires.grows none); count = c.requires.count }

pub returns : goal.returns
returns c =
    let old = c.args.spawns.now in
    let hs = c.args.script.now.spawns.items in
    let x = c.number.result in
    let at : slice_get hs (c.in-Some.next - 1) ≡ Some c.in-Some-spawned.work = sym c.in-Some-spawned.ensures.is in
    let here : c.in-Some.next - 1 ≡ length old.numbers.items = (let more = c.in-Some.ensures.1 in let count = c.requires.count in omega (arith, more, count)) in
    let one : slice_get (place_of c.args.script.now).spawns (length old.numbers.items) ≡ Some x =
    slice_get-map number hs (length old.numbers.items) ∙ (ap (option_map number) (ap (slice_get hs) (sym here) ∙ at) ∙ ap (λ (n : ℕ). Some n) (sym c.number.ensures)) in
    let more = c.in_ok-add.ensures.ok in
    record {
      numbers = more ∙ sym (one_added old.numbers.items _ x c.requires.grows one);
      count = let next = c.in-Some.ensures.1 in let count = c.requires.count in let long = ap length more ∙ length-append old.numbers.items (x ∷ []) in omega (arith, next, count, long);
    }
