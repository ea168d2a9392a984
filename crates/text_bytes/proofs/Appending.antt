-- What was appended, step by step.
use Rattle.std.proofs.Common.{◌≡◌, ℕ, List, [], ◌++◌, append-nil, append_assoc, sym, ap, ◌∙◌}
use Rattle.std.specs.Prelude.{Option}
use Rattle.text_bytes.specs.Outside.{Appends}
use Rattle.text_bytes.specs.Pump.{IsFront}

pub appends_none : (o : Option (List ℕ)) → Appends o o []
appends_none o now is = (now, (is, sym (append-nil now)))

pub appends_then : (o m n : Option (List ℕ)) (a b : List ℕ) → Appends o m a → Appends m n b → Appends o n (a ++ b)
appends_then o m n a b one two now is =
    let second = two now is in
    let first = one second.0 second.1.0 in
    (first.0, (first.1.0, second.1.1 ∙ ap (λ (bs : List ℕ). bs ++ b) first.1.1 ∙ append_assoc first.0 a b))

-- what was written before a front of a piece, and that front
pub behind : (o m n : Option (List ℕ)) (front piece rest whole : List ℕ) → (front ++ piece) ++ rest ≡ whole → Appends o m front → IsFront m n piece → IsFront o n whole
behind o m n front piece rest whole e before f = record {
  front = front ++ f.front;
  rest = f.rest ++ rest;
  parts =
      append_assoc front f.front (f.rest ++ rest)
      ∙ ap (λ (bs : List ℕ). front ++ bs) (sym (append_assoc f.front f.rest rest) ∙ ap (λ (bs : List ℕ). bs ++ rest) f.parts)
      ∙ sym (append_assoc front piece rest) ∙ e;
  appended = appends_then o m n front f.front before f.appended;
}
