-- Lines whose front is, and whose rest was written behind it.
use Rattle.std.proofs.Common.{◌≡◌, ◌++◌, ◌∙◌, List, ℕ, ap, append_assoc, arith, refl}
use Rattle.std.proofs.lemmas.Fmt.{decimal_digit}
use Rattle.std.specs.Prelude.{codes, decimal}
use Rattle.machine_rules.specs.Texts.{answer_text, op_text}

behind : (old mid new front n what v : List ℕ) → mid ≡ old ++ (front ++ n) → new ≡ mid ++ (what ++ v) → new ≡ old ++ ((front ++ n ++ what) ++ v)
behind old mid new front n what v e f = rw (f, e) (simp append_assoc)

of_thread : (old mid : List ℕ) (f n : ℕ) → f ≡ n → mid ≡ old ++ (codes "thread " ++ decimal f) → mid ≡ old ++ (codes "thread " ++ decimal n)
of_thread old mid f n e h = h ∙ ap (λ (x : ℕ). old ++ (codes "thread " ++ decimal x)) e

-- `thread N`, what it does, and a rest
pub does_more : (old mid new what more : List ℕ) (f n : ℕ) → f ≡ n → mid ≡ old ++ (codes "thread " ++ decimal f) → new ≡ mid ++ (what ++ more) → new ≡ old ++ (op_text n what ++ more)
does_more old mid new what more f n e h k = behind old mid new (codes "thread ") (decimal n) what more (of_thread old mid f n e h) k

-- `thread N` and what it does
pub does : (old mid new what : List ℕ) (f n : ℕ) → f ≡ n → mid ≡ old ++ (codes "thread " ++ decimal f) → new ≡ mid ++ what → new ≡ old ++ op_text n what
does old mid new what f n e h k = rw (k, of_thread old mid f n e h) (simp append_assoc)

-- with a number
pub answers : (old mid new what : List ℕ) (f l n v : ℕ) → f ≡ n → l ≡ v → mid ≡ old ++ (codes "thread " ++ decimal f) → new ≡ mid ++ (what ++ decimal l) → new ≡ old ++ answer_text n what v
answers old mid new what f l n v e g h k = does_more old mid new what (decimal v) f n e h (k ∙ ap (λ (x : ℕ). mid ++ (what ++ decimal x)) g)

-- with a number behind more tokens
pub answers_more : (old mid new what more : List ℕ) (f l n v : ℕ) → f ≡ n → l ≡ v → mid ≡ old ++ (codes "thread " ++ decimal f) → new ≡ mid ++ (what ++ more ++ decimal l) → new ≡ old ++ (op_text n what ++ more ++ decimal v)
answers_more old mid new what more f l n v e g h k =
    let rest = k ∙ ap (λ (x : ℕ). mid ++ (what ++ more ++ decimal x)) g in
    rw (rest, of_thread old mid f n e h) (simp append_assoc)

-- with two numbers
pub answers_two : (old mid new what more : List ℕ) (f l m n v w : ℕ) → f ≡ n → l ≡ v → m ≡ w → mid ≡ old ++ (codes "thread " ++ decimal f) → new ≡ mid ++ (what ++ decimal l ++ more ++ decimal m) → new ≡ old ++ (answer_text n what v ++ more ++ decimal w)
answers_two old mid new what more f l m n v w e g i h k =
    let rest = k ∙ ap (λ (x : ℕ). mid ++ (what ++ decimal x ++ more ++ decimal m)) g ∙ ap (λ (x : ℕ). mid ++ (what ++ decimal v ++ more ++ decimal x)) i in
    rw (rest, of_thread old mid f n e h) (simp append_assoc)

-- more tokens and a rest behind a text
pub then : (old mid new a what more : List ℕ) → mid ≡ old ++ a → new ≡ mid ++ (what ++ more) → new ≡ old ++ (a ++ what ++ more)
then old mid new a what more e f = rw (f, e) (simp append_assoc)

pub nothing_given : codes " " ++ decimal 0 ++ codes " " ++ decimal 0 ++ codes " " ++ decimal 0 ≡ codes " 0 0 0"
nothing_given = rw (decimal_digit 0 (omega arith)) refl

pub cancelled_given : codes " " ++ decimal 6 ++ codes " " ++ decimal 0 ++ codes " " ++ decimal 0 ≡ codes " 6 0 0"
cancelled_given = rw (decimal_digit 0 (omega arith), decimal_digit 6 (omega arith)) refl

pub subtask_given : (handle status : List ℕ) → codes " " ++ decimal 1 ++ codes " " ++ handle ++ codes " " ++ status ≡ codes " 1 " ++ handle ++ codes " " ++ status
subtask_given handle status = rw (decimal_digit 1 (omega arith)) refl
