-- The tree is well formed.
use Rattle.std.proofs.Common.{◌≡◌, ℕ, zero, suc, ◌+◌, ◌^◌, ◌<◌, ◌≤◌, Bool, true, false, cond, List, [], ◌∷◌, ◌++◌, length, count_by, refl, sym, subst, ◌∙◌, length-append, append-nil, append_assoc, arith}
use Rattle.std.specs.List.{list_any}
use Rattle.std.proofs.lemmas.Bool.{lt-ltb, le-leb, ne_eqb}
use Rattle.std.proofs.lemmas.List.Folds.{list_any-append}
use Rattle.std.proofs.lemmas.List.Sums.{sum_by-append}
use Rattle.text_scenario.specs.declared.tree.MainOpText.{MainOpText}
use Rattle.text_scenario.specs.Placement.{EachIsPlaced, ExportIsPlaced, InstanceIsPlaced, IsWellFormed, MainOpIsPlaced, ScriptIsPlaced, export_opens, finish_opens, finishes, is_start, start_count}
use Rattle.text_scenario.proofs.PlacementLaws.{each_more}
use Rattle.text_report.specs.Generated.{each_to}
use Rattle.text_report.proofs.Tree.{api, db, do_it, do_react, do_start, finish_op, get, get_react, get_start, hosts, instances, req, req_start, start_op, tree}

-- ---- Scripts

get_start_placed : ScriptIsPlaced hosts [] true get_start
get_start_placed = (
  record { room = refl; suits = refl; fits = refl },
  (
    record { room = refl; suits = refl; fits = refl },
    (
      record { room = refl; suits = refl; fits = (refl, omega arith) },
      (
        record { room = refl; suits = refl; fits = refl },
        (
          record { room = refl; suits = refl; fits = refl },
          (
            record { room = refl; suits = refl; fits = refl },
            (
              record { room = refl; suits = refl; fits = refl },
              tt,
            ),
          ),
        ),
      ),
    ),
  ),
)

get_react_placed : ScriptIsPlaced hosts [] true get_react
get_react_placed = (
  record { room = refl; suits = refl; fits = refl },
  (
    record { room = refl; suits = refl; fits = refl },
    (
      record { room = refl; suits = refl; fits = refl },
      (
        record { room = refl; suits = refl; fits = refl },
        (
          record { room = refl; suits = refl; fits = refl },
          (
            record { room = refl; suits = refl; fits = refl },
            tt,
          ),
        ),
      ),
    ),
  ),
)

do_start_placed : ScriptIsPlaced hosts (db ∷ []) true do_start
do_start_placed = (
  record { room = refl; suits = refl; fits = refl },
  (
    record { room = refl; suits = refl; fits = (refl, refl) },
    (
      record { room = refl; suits = refl; fits = refl },
      (
        record { room = refl; suits = refl; fits = refl },
        (
          record { room = refl; suits = refl; fits = refl },
          (
            record { room = refl; suits = refl; fits = refl },
            tt,
          ),
        ),
      ),
    ),
  ),
)

do_react_placed : ScriptIsPlaced hosts (db ∷ []) true do_react
do_react_placed = (
  record { room = refl; suits = refl; fits = refl },
  (
    record { room = refl; suits = refl; fits = refl },
    (
      record { room = refl; suits = refl; fits = refl },
      (
        record { room = refl; suits = refl; fits = refl },
        (
          record { room = refl; suits = refl; fits = refl },
          (
            record { room = refl; suits = refl; fits = refl },
            (
              record { room = refl; suits = refl; fits = refl },
              tt,
            ),
          ),
        ),
      ),
    ),
  ),
)

req_start_placed : ScriptIsPlaced hosts (db ∷ api ∷ []) false req_start
req_start_placed = (
  record { room = refl; suits = refl; fits = (refl, refl) },
  (
    record { room = refl; suits = refl; fits = refl },
    (
      record { room = refl; suits = refl; fits = refl },
      tt,
    ),
  ),
)

-- ---- Instances

get_placed : ExportIsPlaced hosts [] [] get
unfolding export_opens
get_placed = record { name = refl; params = omega arith; opens = refl; start = get_start_placed; react = (refl, get_react_placed) }

do_placed : ExportIsPlaced hosts (db ∷ []) [] do_it
unfolding export_opens
do_placed = record { name = refl; params = omega arith; opens = refl; start = do_start_placed; react = (refl, do_react_placed) }

req_placed : ExportIsPlaced hosts (db ∷ api ∷ []) [] req
unfolding export_opens
req_placed = record { name = refl; params = omega arith; opens = refl; start = req_start_placed; react = tt }

instances_placed : EachIsPlaced (InstanceIsPlaced hosts) [] instances
instances_placed = (
  record { name = refl; opens = refl; parts = (get_placed, tt) },
  (
    record { name = refl; opens = refl; parts = (do_placed, tt) },
    (
      record { name = refl; opens = refl; parts = (req_placed, tt) },
      tt,
    ),
  ),
)

-- ---- Main

length_each : {X : Type 0} (f : ℕ → X) (n : ℕ) → length (each_to f n) ≡ n
length_each f zero = refl
length_each f (suc n) = let before = length_each f n in length-append (each_to f n) (f (suc n) ∷ []) ∙ omega (arith, before)

count_append : {X : Type 0} (p : X → Bool) (xs ys : List X) → count_by p (xs ++ ys) ≡ count_by p xs + count_by p ys
count_append p xs ys = sum_by-append (λ x. cond (p x) 1 0) xs ys

starts_in : (n : ℕ) → start_count (each_to start_op n) ≡ n
starts_in zero = refl
starts_in (suc n) = let before = starts_in n in count_append is_start (each_to start_op n) (start_op (suc n) ∷ []) ∙ omega (arith, before)

starts_among_finishes : (n : ℕ) → start_count (each_to finish_op n) ≡ 0
starts_among_finishes zero = refl
starts_among_finishes (suc n) = let before = starts_among_finishes n in count_append is_start (each_to finish_op n) (finish_op (suc n) ∷ []) ∙ omega (arith, before)

finished_by_starts : (k n : ℕ) → list_any (finishes k) (each_to start_op n) ≡ false
finished_by_starts k zero = refl
finished_by_starts k (suc n) = list_any-append (finishes k) (each_to start_op n) (start_op (suc n) ∷ []) ∙ rw (finished_by_starts k n) refl

finished_later : (k n : ℕ) → n < k → list_any (finishes k) (each_to finish_op n) ≡ false
finished_later k zero lt = refl
finished_later k (suc n) lt =
    list_any-append (finishes k) (each_to finish_op n) (finish_op (suc n) ∷ [])
    ∙ rw (finished_later k n (omega arith), ne_eqb (suc n) k (λ e. absurd (omega (arith, e)))) refl

start_placed : (n : ℕ) → n < 256 → MainOpIsPlaced hosts instances (each_to start_op n) (start_op (suc n))
start_placed n lt = (
  rw (length_each start_op n, starts_in n, lt-ltb n 4095 (omega arith), lt-ltb n 256 lt) refl,
  refl,
  rw (lt-ltb (suc n) (2 ^ 64) (omega arith)) refl,
)

starts_placed : (n : ℕ) → n ≤ 256 → EachIsPlaced (MainOpIsPlaced hosts instances) [] (each_to start_op n)
starts_placed zero le = tt
starts_placed (suc n) le = each_more (MainOpIsPlaced hosts instances) (each_to start_op n) (start_op (suc n)) (starts_placed n (omega arith)) (start_placed n (omega arith))

finish_opens_is : (n k : ℕ) → n ≤ 256 → k < n → finish_opens (each_to start_op n ++ each_to finish_op k) (suc k) ≡ true
finish_opens_is n k le lt =
    let many : length (each_to start_op n ++ each_to finish_op k) ≡ n + k = length-append (each_to start_op n) (each_to finish_op k) ∙ rw (length_each start_op n, length_each finish_op k) refl in
    let starts : start_count (each_to start_op n ++ each_to finish_op k) ≡ n + 0 = count_append is_start (each_to start_op n) (each_to finish_op k) ∙ rw (starts_in n, starts_among_finishes k) refl in
    let none : list_any (finishes (suc k)) (each_to start_op n ++ each_to finish_op k) ≡ false =
    list_any-append (finishes (suc k)) (each_to start_op n) (each_to finish_op k) ∙ rw (finished_by_starts (suc k) n, finished_later (suc k) k (omega arith)) refl in
    rw (many, starts, none, lt-ltb (n + k) 4095 (omega arith), le-leb 1 (suc k) (omega arith), le-leb (suc k) (n + 0) (omega arith)) refl

mains_placed : (n k : ℕ) → n ≤ 256 → k ≤ n → EachIsPlaced (MainOpIsPlaced hosts instances) [] (each_to start_op n ++ each_to finish_op k)
mains_placed n zero few le = subst (λ (ops : List MainOpText). EachIsPlaced (MainOpIsPlaced hosts instances) [] ops) (sym (append-nil (each_to start_op n))) (starts_placed n few)
mains_placed n (suc k) few le =
    subst (λ (ops : List MainOpText). EachIsPlaced (MainOpIsPlaced hosts instances) [] ops) (append_assoc (each_to start_op n) (each_to finish_op k) (finish_op (suc k) ∷ []))
    (each_more (MainOpIsPlaced hosts instances) (each_to start_op n ++ each_to finish_op k) (finish_op (suc k)) (mains_placed n k few (omega arith)) (finish_opens_is n k few (omega arith), refl))

-- ---- The whole

pub tree_placed : (n : ℕ) → n ≤ 256 → IsWellFormed (tree n)
tree_placed n few = record {
  handles = refl;
  table = refl;
  hosts = (record { name = refl; work = refl; opens = refl }, tt);
  instances = instances_placed;
  main = mains_placed n n few (omega arith);
  answer = refl;
  aborters = tt;
}
