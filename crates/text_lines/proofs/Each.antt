-- Tokens of one kind are read one after the other, as a loop does.
use Rattle.std.proofs.Common.{◌≡◌, ℕ, ◌+◌, ◌<◌, ◌≤◌, List, [], ◌∷◌, ◌++◌, length, get_or, drop, Option, Some, None, Bor, refl, ap, append_assoc}
use Rattle.std.proofs.lemmas.List.{append-nil, drop_more, drop_all}
use Rattle.text_lines.specs.Tokens.{◌>>=◌, each_at}
use Rattle.text_lines.proofs.TokenCounts.{bytes_of}

-- these values, and then those that are still read
abbrev pub and_more : {A : Type 0} → List A → Option (List A) → Option (List A)
and_more front read = read >>= λ xs. Some (front ++ xs)

one_moves : {A : Type 0} (front : List A) (x : A) (read : Option (List A)) → and_more front (read >>= λ xs. Some (x ∷ xs)) ≡ and_more (front ++ x ∷ []) read
one_moves front x None = refl
one_moves {A} front x (Some xs) = ap (λ (ys : List A). Some ys) (simp append_assoc)

pub takes_one : {A : Type 0} (at : List ℕ → Option A) (tokens : List (Bor (List ℕ))) (i : ℕ) (d : Bor (List ℕ)) (front : List A) (x : A) → i < length tokens → at (get_or tokens i d).now ≡ Some x
    → and_more front (each_at at (bytes_of (drop i tokens))) ≡ and_more (front ++ x ∷ []) (each_at at (bytes_of (drop (i + 1) tokens)))
unfolding each_at
takes_one at tokens i d front x lt e = rw (drop_more tokens i d lt, e) (one_moves front x (each_at at (bytes_of (drop (i + 1) tokens))))

pub refuses_one : {A : Type 0} (at : List ℕ → Option A) (tokens : List (Bor (List ℕ))) (i : ℕ) (d : Bor (List ℕ)) (front : List A) → i < length tokens → at (get_or tokens i d).now ≡ None
    → and_more front (each_at at (bytes_of (drop i tokens))) ≡ None
unfolding each_at
refuses_one at tokens i d front lt e = rw (drop_more tokens i d lt, e) refl

pub takes_none : {A : Type 0} (at : List ℕ → Option A) (tokens : List (Bor (List ℕ))) (i : ℕ) (front : List A) → length tokens ≤ i → and_more front (each_at at (bytes_of (drop i tokens))) ≡ Some front
unfolding each_at
takes_none {A} at tokens i front le = rw (drop_all i tokens le) (ap (λ (ys : List A). Some ys) (append-nil front))
