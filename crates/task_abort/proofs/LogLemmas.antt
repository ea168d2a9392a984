-- Phases, legal logs, beginnings of a log, and the calls under one name.
use Rattle.std.proofs.Common.{◌≡◌, ◌≤◌, ◌≢◌, ◌⊎◌, ◌&&◌, ◌==◌, Bool, true, false, cond, List, [], ◌∷◌, ◌++◌, length, refl, sym, ap, ap₂, ◌∙◌, inl, inr, ⊎_elim, append_assoc, append-nil, length-append, eq-eqb, eqb-true, drop, get_or, le_refl, le_trans, arith}
use Rattle.std.proofs.lemmas.List.{append_cancel_left}
use Rattle.std.proofs.lemmas.List.Elements.{filter-append}
use Rattle.std.specs.Cmp.Derive.{both_true}
use Rattle.std.specs.Cmp.Lexicographic.{same_text, other_text}
use Rattle.machine_data.specs.declared.statuses.Phase.{Phase}
use Rattle.machine_data.specs.declared.statuses.Phase.TheVariants.{Running, AbortRequested, Complete}
use Rattle.task_abort.specs.declared.log.PhaseCall.{PhaseCall}
use Rattle.task_abort.specs.declared.log.PhaseCall.TheVariants.{Abort, PollFuture, PollHandle, Finish}
use Rattle.task_abort.specs.declared.log.LogEntry.{LogEntry}
use Rattle.task_abort.specs.PhaseLog.{code, phase_of_code, after, phase_from, is_legal_from, phase, IsLegal, Name, Log, same_name, calls_by, LogBegins}

pub phase_of_code-code : (p : Phase) → phase_of_code (code p) ≡ p
phase_of_code-code Running = refl
phase_of_code-code AbortRequested = refl
phase_of_code-code Complete = refl

pub code_injective : (p q : Phase) → code p ≡ code q → p ≡ q
code_injective p q e = sym (phase_of_code-code p) ∙ ap phase_of_code e ∙ phase_of_code-code q

both : (a b : Bool) → (a && b) ≡ true → (a ≡ true) × (b ≡ true)
both true b h = (refl, h)
both false b h = absurd (grind (arith, h))

-- no call lowers the phase
pub after_rises : (c : PhaseCall) (p : Phase) → code p ≤ code (after c p)
after_rises Abort Running = omega arith
after_rises Abort AbortRequested = le_refl _
after_rises Abort Complete = le_refl _
after_rises PollFuture p = le_refl _
after_rises PollHandle p = le_refl _
after_rises Finish Running = omega arith
after_rises Finish AbortRequested = omega arith
after_rises Finish Complete = le_refl _

module _ {C : Type 0} where
  pub phase_from_rises : (p : Phase) (es : List (LogEntry C)) → code p ≤ code (phase_from p es)
  phase_from_rises p [] = le_refl _
  phase_from_rises p (e ∷ es) = le_trans (after_rises e.call p) (phase_from_rises (after e.call p) es)

  pub phase_from-append : (p : Phase) (xs ys : List (LogEntry C)) → phase_from p (xs ++ ys) ≡ phase_from (phase_from p xs) ys
  phase_from-append p [] ys = refl
  phase_from-append p (x ∷ xs) ys = phase_from-append (after x.call p) xs ys

  pub legal_parts : (p : Phase) (e : LogEntry C) (es : List (LogEntry C)) → is_legal_from p (e ∷ es) ≡ true → (e.answer ≡ p) × (is_legal_from (after e.call p) es ≡ true)
  legal_parts p e es h = let t = both (code e.answer == code p) (is_legal_from (after e.call p) es) h in (code_injective e.answer p (eqb-true (code e.answer) (code p) t.0), t.1)

  pub legal_one_more : (p : Phase) (e : LogEntry C) (es : List (LogEntry C)) → e.answer ≡ p → is_legal_from (after e.call p) es ≡ true → is_legal_from p (e ∷ es) ≡ true
  legal_one_more p e es a h = both_true (eq-eqb (code e.answer) (code p) (ap code a)) h

  pub legal_joined : (p : Phase) (xs ys : List (LogEntry C)) → is_legal_from p xs ≡ true → is_legal_from (phase_from p xs) ys ≡ true → is_legal_from p (xs ++ ys) ≡ true
  legal_joined p [] ys h g = g
  legal_joined p (x ∷ xs) ys h g = let t = legal_parts p x xs h in legal_one_more p x (xs ++ ys) t.0 (legal_joined (after x.call p) xs ys t.1 g)

  pub legal_cut : (p : Phase) (xs ys : List (LogEntry C)) → is_legal_from p (xs ++ ys) ≡ true → (is_legal_from p xs ≡ true) × (is_legal_from (phase_from p xs) ys ≡ true)
  legal_cut p [] ys h = (refl, h)
  legal_cut p (x ∷ xs) ys h = let t = legal_parts p x (xs ++ ys) h in let u = legal_cut (after x.call p) xs ys t.1 in (legal_one_more p x xs t.0 u.0, u.1)

  pub legal_push : (xs : List (LogEntry C)) (e : LogEntry C) → IsLegal xs → e.answer ≡ phase xs → IsLegal (xs ++ e ∷ [])
  legal_push xs e h a = legal_joined Running xs (e ∷ []) h (legal_one_more (phase xs) e [] a refl)

-- two names are the same or differ, and the test says which
pub names : (m n : Name) → ((m ≡ n) × (same_name m n ≡ true)) ⊎ ((m ≢ n) × (same_name m n ≡ false))
names m n = go (same_name m n) refl
  where
    go : (b : Bool) → same_name m n ≡ b → ((m ≡ n) × (same_name m n ≡ true)) ⊎ ((m ≢ n) × (same_name m n ≡ false))
    go true e = inl (same_text m n (sym e), e)
    go false e = inr (other_text m n (sym e), e)

pub same_name-refl : (m n : Name) → m ≡ n → same_name m n ≡ true
same_name-refl m n e = ⊎_elim (λ (t : (m ≡ n) × (same_name m n ≡ true)). t.1) (λ (t : (m ≢ n) × (same_name m n ≡ false)). absurd (t.0 e)) (names m n)

pub same_name-other : (m n : Name) → m ≢ n → same_name m n ≡ false
same_name-other m n ne = ⊎_elim (λ (t : (m ≡ n) × (same_name m n ≡ true)). absurd (ne t.0)) (λ (t : (m ≢ n) × (same_name m n ≡ false)). t.1) (names m n)

pub calls_by-append : (n : Name) (xs ys : Log) → calls_by n (xs ++ ys) ≡ calls_by n xs ++ calls_by n ys
calls_by-append n xs ys = filter-append (λ e. same_name e.caller n) xs ys

pub calls_by-own : (n : Name) (xs : Log) (e : LogEntry Name) → e.caller ≡ n → calls_by n (xs ++ e ∷ []) ≡ calls_by n xs ++ e ∷ []
calls_by-own n xs e h = calls_by-append n xs (e ∷ []) ∙ ap (λ (b : Bool). calls_by n xs ++ cond b (e ∷ []) []) (same_name-refl e.caller n h)

pub calls_by-other : (n : Name) (xs : Log) (e : LogEntry Name) → e.caller ≢ n → calls_by n (xs ++ e ∷ []) ≡ calls_by n xs
calls_by-other n xs e h = calls_by-append n xs (e ∷ []) ∙ ap (λ (b : Bool). calls_by n xs ++ cond b (e ∷ []) []) (same_name-other e.caller n h) ∙ append-nil (calls_by n xs)

module _ {A : Type 0} where
  pub nothing_left : (xs ys : List A) → xs ≡ xs ++ ys → ys ≡ []
  nothing_left xs ys h = append_cancel_left xs ys [] (sym h ∙ sym (append-nil xs))

  pub both_nil : (xs ys : List A) → xs ++ ys ≡ [] → (xs ≡ []) × (ys ≡ [])
  both_nil [] ys h = (refl, h)
  both_nil (x ∷ xs) ys h = absurd (let l : length (x ∷ (xs ++ ys)) ≡ 0 = ap length h in omega arith)

  pub not_nil : (xs : List A) (y : A) (ys : List A) → xs ++ y ∷ ys ≢ []
  not_nil xs y ys h = let l : length (xs ++ y ∷ ys) ≡ 0 = ap length h in omega (arith, length-append xs (y ∷ ys))

  pub same_head : (x y : A) (xs ys : List A) → x ∷ xs ≡ y ∷ ys → x ≡ y
  same_head x y xs ys h = ap (λ (l : List A). get_or l 0 x) h

  pub same_tail : (x y : A) (xs ys : List A) → x ∷ xs ≡ y ∷ ys → xs ≡ ys
  same_tail x y xs ys h = ap (λ (l : List A). drop 1 l) h

pub begins_refl : (log : Log) → LogBegins log log
begins_refl log = ([], sym (append-nil log))

pub begins_more : (xs log ys : Log) → LogBegins xs log → LogBegins xs (log ++ ys)
begins_more xs log ys h = (h.0 ++ ys, ap (λ (z : Log). z ++ ys) h.1 ∙ append_assoc xs h.0 ys)

-- of two beginnings of one log one begins the other
pub begins_both : (log xs ys : Log) → LogBegins xs log → LogBegins ys log → LogBegins xs ys ⊎ LogBegins ys xs
begins_both log [] ys h g = inl (ys, refl)
begins_both log (x ∷ xs) [] h g = inr (x ∷ xs, refl)
begins_both [] (x ∷ xs) (y ∷ ys) h g = absurd (let l : 0 ≡ length (x ∷ (xs ++ h.0)) = ap length h.1 in omega arith)
begins_both (z ∷ log) (x ∷ xs) (y ∷ ys) h g =
    let e : x ≡ y = sym (same_head z x log (xs ++ h.0) h.1) ∙ same_head z y log (ys ++ g.0) g.1 in
    ⊎_elim (λ (t : LogBegins xs ys). inl (t.0, ap₂ (λ (a : LogEntry Name) (r : Log). a ∷ r) (sym e) t.1)) (λ (t : LogBegins ys xs). inr (t.0, ap₂ (λ (a : LogEntry Name) (r : Log). a ∷ r) e t.1))
    (begins_both log xs ys (h.0, same_tail z x log (xs ++ h.0) h.1) (g.0, same_tail z y log (ys ++ g.0) g.1))

-- two logs that begin each other are one
pub begins_same : (xs ys : Log) → LogBegins xs ys → LogBegins ys xs → xs ≡ ys
begins_same xs ys h g =
    let e : xs ≡ xs ++ (h.0 ++ g.0) = g.1 ∙ ap (λ (z : Log). z ++ g.0) h.1 ∙ append_assoc xs h.0 g.0 in
    sym (append-nil xs) ∙ ap (λ (z : Log). xs ++ z) (sym (both_nil h.0 g.0 (nothing_left xs (h.0 ++ g.0) e)).0) ∙ sym h.1

-- a log between two with the same calls under a name has these too
pub calls_by-between : (n : Name) (xs ys log : Log) → LogBegins xs ys → LogBegins ys log → calls_by n xs ≡ calls_by n log → calls_by n ys ≡ calls_by n xs
calls_by-between n xs ys log h g e =
    let low : calls_by n ys ≡ calls_by n xs ++ calls_by n h.0 = ap (calls_by n) h.1 ∙ calls_by-append n xs h.0 in
    let high : calls_by n log ≡ calls_by n ys ++ calls_by n g.0 = ap (calls_by n) g.1 ∙ calls_by-append n ys g.0 in
    let all : calls_by n xs ≡ calls_by n xs ++ (calls_by n h.0 ++ calls_by n g.0) = e ∙ high ∙ ap (λ (z : Log). z ++ calls_by n g.0) low ∙ append_assoc (calls_by n xs) (calls_by n h.0) (calls_by n g.0) in
    low ∙ ap (λ (z : Log). calls_by n xs ++ z) (both_nil (calls_by n h.0) (calls_by n g.0) (nothing_left (calls_by n xs) (calls_by n h.0 ++ calls_by n g.0) all)).0 ∙ append-nil (calls_by n xs)
