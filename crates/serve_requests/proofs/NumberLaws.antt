-- Numbers are taken from operands one after the other, as a loop does.
use Rattle.serve_requests.specs.Reading.{number_in, numbers_in}
use Rattle.std.proofs.Common.{ap, append_assoc, get_or, refl}
use Rattle.std.proofs.lemmas.List.{append-nil, drop_all, drop_more}
use Rattle.std.specs.Prelude.{List, None, Option, Some, [], drop, length, ℕ, ◌++◌, ◌+◌, ◌<◌, ◌∷◌, ◌≡◌, ◌≤◌}
use Rattle.machine_data.specs.declared.op.Operand.{Operand}
use Rattle.text_lines.proofs.Each.{and_more}
use Rattle.text_lines.specs.Tokens.{◌>>=◌}

one_moves : (front : List ℕ) (n : ℕ) (read : Option (List ℕ)) → and_more front (read >>= λ ns. Some (n ∷ ns)) ≡ and_more (front ++ n ∷ []) read
one_moves front n None = refl
one_moves front n (Some ns) = ap (λ (ms : List ℕ). Some ms) (simp append_assoc)

pub takes_number : (xs : List Operand) (i : ℕ) (d : Operand) (front : List ℕ) (n : ℕ) → i < length xs → number_in (get_or xs i d) ≡ Some n → and_more front (numbers_in (drop i xs)) ≡ and_more (front ++ n ∷ []) (numbers_in (drop (i + 1) xs))
unfolding numbers_in
takes_number xs i d front n lt e = rw (drop_more xs i d lt, e) (one_moves front n (numbers_in (drop (i + 1) xs)))

pub refuses_register : (xs : List Operand) (i : ℕ) (d : Operand) (front : List ℕ) → i < length xs → number_in (get_or xs i d) ≡ None → and_more front (numbers_in (drop i xs)) ≡ None
unfolding numbers_in
refuses_register xs i d front lt e = rw (drop_more xs i d lt, e) refl

pub takes_none : (xs : List Operand) (i : ℕ) (front : List ℕ) → length xs ≤ i → and_more front (numbers_in (drop i xs)) ≡ Some front
unfolding numbers_in
takes_none xs i front le = rw (drop_all i xs le) (ap (λ (ms : List ℕ). Some ms) (append-nil front))
