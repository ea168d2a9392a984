use Rattle.std.proofs.Common.{◌≡◌, ◌-◌, ◌≤◌, ◌++◌, ◌∙◌, ap, arith, drop, length, List, map, reverse, subst, take, ℕ}
use Rattle.std.proofs.lemmas.List.{length-append, length-drop, length-map, length-reverse, length-take-le, take_rest, with_items_is}
use Rattle.std.proofs.lemmas.List.Sorted.{length_permutation}
use Rattle.std.specs.List.Sorted.{IsPermutation}
use Rattle.std.specs.Vec.{with_items}
use Rattle.table_lists.specs.GivenPlaces.{given_each, Places}
use Rattle.table_lists.proofs.PlaceLemmas.{in_order, other_end}
use Rattle.table_lists.proofs.places.TablePlaces.put_in_order.Goals as goal

pub returns : goal.returns
returns g c names before is kept =
    let v = c.self.inside.free in
    let xs : List ℕ = c.deref_mut.result.now in
    let ys : List ℕ = c.name_places.new.names in
    let order : List ℕ = c.sort_names.new.names in
    let place = g.H.Holders.place_of c.args.holders.now in
    let old : record { free = reverse xs; made = c.self.inside.made } ≡ given_each names before = ap (λ (l : List ℕ). record { free = reverse l; made = c.self.inside.made }) c.deref_mut.ensures.value ∙ (c.self.view_is ∙ is) in
    let fits : c.args.kept ≤ length xs = omega (arith, c.requires, ap (λ (p : Places). length p.free) c.self.view_is, length-reverse v.items, ap length c.deref_mut.ensures.value) in
    let moved : IsPermutation (drop c.args.kept xs) order = subst (λ (l : List ℕ). IsPermutation l order) (take_rest xs c.args.kept) c.sort_names.ensures.same in
    let many : length ys ≡ length xs - c.args.kept = ap length c.name_places.ensures ∙ (length-map order place ∙ (length_permutation (drop c.args.kept xs) order moved ∙ length-drop c.args.kept xs)) in
    let ws : List ℕ = take c.args.kept xs ++ (ys ++ drop (length xs - c.args.kept) (drop c.args.kept xs)) in
    let whole : ws ≡ take c.args.kept xs ++ ys = other_end c.args.kept xs ys many in
    let long : length ws ≡ v.len = omega (arith, ap length whole, length-append (take c.args.kept xs) ys, length-take-le c.args.kept xs fits, many, fits, c.deref_mut.ensures.len) in
    let put : (with_items v ws).items ≡ take (length before.free) xs ++ map place order =
    with_items_is v ws long ∙ (whole ∙ (ap (λ (l : List ℕ). take c.args.kept xs ++ l) c.name_places.ensures ∙ ap (λ (n : ℕ). take n xs ++ map place order) kept)) in
    in_order (g.H.Holders.number_of c.args.holders.now) place names before xs (with_items v ws).items order c.self.inside.made old (subst (λ (n : ℕ). IsPermutation (drop n xs) order) kept moved) c.sort_names.ensures.rises put
