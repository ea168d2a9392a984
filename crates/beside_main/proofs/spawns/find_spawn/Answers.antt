use Rattle.std.proofs.Common.{List, subst, sym}
use Rattle.std.specs.List.Sorted.{IsBinarySearchResult}
use Rattle.std.specs.Ordering.{nat_cmp}
use Rattle.std.specs.Prelude.{Err, Ok, Result, ℕ}
use Rattle.beside_main.proofs.RisingLemmas.{place_found, place_none}
use Rattle.beside_main.proofs.spawns.find_spawn.Goals as goal

pub returns-in-Ok : goal.returns-in-Ok
returns-in-Ok c last rises =
    let ns = c.args.spawns.now.numbers.items in
    place_found ns c.args.number last c.in-Ok.place
    (subst (λ (r : Result ℕ ℕ). IsBinarySearchResult (λ y. nat_cmp y c.args.number) ns r) c.in-Ok.is
    (subst (λ (ms : List ℕ). IsBinarySearchResult (λ y. nat_cmp y c.args.number) ms c.binary_search.result) c.as_slice.ensures.value c.binary_search.ensures.position)) rises

pub returns-in-Err : goal.returns-in-Err
returns-in-Err c last rises =
    let ns = c.args.spawns.now.numbers.items in
    place_none ns c.args.number last c.in-Err.field-0
    (subst (λ (r : Result ℕ ℕ). IsBinarySearchResult (λ y. nat_cmp y c.args.number) ns r) c.in-Err.is
    (subst (λ (ms : List ℕ). IsBinarySearchResult (λ y. nat_cmp y c.args.number) ms c.binary_search.result) c.as_slice.ensures.value c.binary_search.ensures.position)) rises
