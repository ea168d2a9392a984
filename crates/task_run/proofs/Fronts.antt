-- Fronts of a report's text.
use Rattle.std.proofs.Common.{◌≡◌, ℕ, ◌++◌, List, [], sym, ap, ap₂, ◌∙◌, append_assoc, append-nil, drop, refl, take}
use Rattle.std.proofs.lemmas.List.{take-append-drop}
use Rattle.std.specs.Prelude.{Option}
use Rattle.machine_data.specs.declared.label.Label.{Label}
use Rattle.machine_data.specs.declared.outcome.Outcome.{Outcome}
use Rattle.machine_rules.specs.Texts.{text, line_text, outcome_text}
use Rattle.text_report.specs.Lines.{lines_of}
use Rattle.text_bytes.specs.Outside.{Appends}
use Rattle.text_bytes.specs.Pump.{IsFront}
use Rattle.text_bytes.proofs.Appending.{behind}

-- what was written, a page and the lines that are left, before and after the page was filled
pub filled : (rest left : List Label) (front old new all : List ℕ) → front ++ (old ++ lines_of rest) ≡ all → new ++ lines_of left ≡ old ++ lines_of rest → front ++ (new ++ lines_of left) ≡ all
filled rest left front old new all e f = ap (λ (bs : List ℕ). front ++ bs) f ∙ e

-- and after a full page was written and taken away
pub turned : (left : List Label) (n : ℕ) (front page piece rest all : List ℕ) → front ++ (page ++ lines_of left) ≡ all → piece ≡ take n page → rest ≡ drop n page → (front ++ piece) ++ (rest ++ lines_of left) ≡ all
turned left n front page piece rest all e full behind =
    let parts : piece ++ (rest ++ lines_of left) ≡ page ++ lines_of left =
    sym (append_assoc piece rest (lines_of left)) ∙ ap (λ (bs : List ℕ). bs ++ lines_of left) (ap₂ (λ (xs ys : List ℕ). xs ++ ys) full behind ∙ take-append-drop n page) in
    append_assoc front piece (rest ++ lines_of left) ∙ ap (λ (bs : List ℕ). front ++ bs) parts ∙ e

-- the whole text, with the outcome's line
pub whole : (labels left : List Label) (o : Outcome) (front page last : List ℕ) → left ≡ [] → front ++ (page ++ lines_of left) ≡ lines_of labels → last ≡ page ++ line_text (outcome_text o) → front ++ last ≡ text labels o
whole labels left o front page last none e f =
    ap (λ (bs : List ℕ). front ++ bs) f ∙ sym (append_assoc front page (line_text (outcome_text o)))
    ∙ ap (λ (bs : List ℕ). bs ++ line_text (outcome_text o))
    (ap (λ (bs : List ℕ). front ++ bs) (sym (append-nil page) ∙ ap (λ (ls : List Label). page ++ lines_of ls) (sym none)) ∙ e)

-- a front of a full page was written
pub page_cut : (labels left : List Label) (o : Outcome) (old mid new : Option (List ℕ)) (n : ℕ) (front page piece : List ℕ) → front ++ (page ++ lines_of left) ≡ lines_of labels → piece ≡ take n page → Appends old mid front → IsFront mid new piece → IsFront old new (text labels o)
page_cut labels left o old mid new n front page piece e full before f =
    let last = line_text (outcome_text o) in
    let rest = drop n page ++ lines_of left in
    let parts : (front ++ piece) ++ (rest ++ last) ≡ text labels o =
    sym (append_assoc (front ++ piece) rest last) ∙ ap (λ (bs : List ℕ). bs ++ last) (turned left n front page piece (drop n page) (lines_of labels) e full refl) in
    behind old mid new front piece (rest ++ last) (text labels o) parts before f
