-- A full page, and what is behind it.
use Rattle.std.proofs.Common.{◌≡◌, ◌≤◌, ◌++◌, ◌+◌, ◌-◌, ◌∙◌, ℕ, List, ap, append_assoc, arith, drop, length, sym, take}
use Rattle.std.proofs.Math.Seq.{take-append_seam}
use Rattle.std.proofs.lemmas.List.{drop-take, length-drop, length-take-le, take-take}

pub used_up_to : (page used : ℕ) (items now : List ℕ) → used ≤ length items → take used items ≡ now → page ≤ length now → page ≤ used
used_up_to page used items now room is full = omega (arith, full, ap (λ (bs : List ℕ). length bs) is, length-take-le used items room)

pub filled_page : (page used : ℕ) (items now : List ℕ) → used ≤ length items → take used items ≡ now → page ≤ length now → take page items ≡ take page now
filled_page page used items now room is full = sym (take-take page used items (used_up_to page used items now room is full)) ∙ ap (λ (bs : List ℕ). take page bs) is

-- what is behind a full page was copied to the front of the room
pub turned : (page used room : ℕ) (items new mid more behind now : List ℕ) → page ≤ used → used ≤ length items → used ≤ room → take used items ≡ now → new ≡ take (used - page) (drop page items) → take (used - page) (take room (((new ++ mid) ++ more) ++ behind)) ≡ drop page now
turned page used room items new mid more behind now full short fits is e =
    let left : used - page ≤ length (drop page items) = omega (arith, length-drop page items) in
    let all : page + (used - page) ≡ used = omega arith in
    let len : length new ≡ used - page = ap (λ (bs : List ℕ). length bs) e ∙ length-take-le (used - page) (drop page items) left in
    let parts : ((new ++ mid) ++ more) ++ behind ≡ new ++ (mid ++ (more ++ behind)) = append_assoc (new ++ mid) more behind ∙ append_assoc new mid (more ++ behind) in
    take-take (used - page) room (((new ++ mid) ++ more) ++ behind) (omega arith)
    ∙ ap (λ (bs : List ℕ). take (used - page) bs) parts ∙ ap (λ (k : ℕ). take k (new ++ (mid ++ (more ++ behind)))) (sym len) ∙ take-append_seam new (mid ++ (more ++ behind))
    ∙ (e ∙ sym (drop-take page (used - page) items) ∙ ap (λ (k : ℕ). drop page (take k items)) all ∙ ap (λ (bs : List ℕ). drop page bs) is)
