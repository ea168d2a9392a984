-- The exports among an instance's parts.
use Rattle.std.proofs.Common.{◌≡◌, ℕ, zero, suc, ◌+◌, Bool, ◌||◌, List, [], ◌∷◌, ◌++◌, length, take, Option, Some, refl, sym, ap, subst, ◌∙◌, append_assoc, arith}
use Rattle.std.specs.Prelude.{cond, position, slice_get}
use Rattle.std.specs.List.{list_any}
use Rattle.std.specs.Option.{option_map}
use Rattle.std.specs.Str.{bytes_eq}
use Rattle.std.proofs.lemmas.List.{append-nil}
use Rattle.std.proofs.lemmas.List.Recursion.{is_count_by}
use Rattle.text_lines.proofs.TokenLaws.{some_is}
use Rattle.text_scenario.specs.declared.tree.HostText.{HostText}
use Rattle.text_scenario.specs.declared.tree.ExportText.{ExportText}
use Rattle.text_scenario.specs.declared.tree.InstanceText.{InstanceText}
use Rattle.text_scenario.specs.declared.tree.PartText.{PartText}
use Rattle.text_scenario.specs.declared.tree.PartText.TheVariants as part
use Rattle.text_scenario.specs.Spelling.{exports_in}
use Rattle.text_scenario.specs.Placement.{EachIsPlaced, PartIsPlaced, ExportIsPlaced, is_export, is_export_named, exports_among}

-- ---- Counts and names, part by part

one_counted : (p : PartText) (parts : List PartText) → length (exports_in (p ∷ parts)) ≡ cond (is_export p) (1 + length (exports_in parts)) (length (exports_in parts))
one_counted (part.Export e) parts = omega arith
one_counted (part.Thread s ops) parts = refl
one_counted (part.Bad s) parts = refl

pub exports_counted : (parts : List PartText) → exports_among parts ≡ length (exports_in parts)
exports_counted parts = sym (is_count_by (λ ps. length (exports_in ps)) is_export refl one_counted parts)

pub exports_named : (name : List ℕ) (parts : List PartText) → list_any (is_export_named name) parts ≡ list_any (λ e. bytes_eq e.name name) (exports_in parts)
exports_named name [] = refl
exports_named name (part.Export e ∷ parts) = ap (λ b. bytes_eq e.name name || b) (exports_named name parts)
exports_named name (part.Thread s ops ∷ parts) = exports_named name parts
exports_named name (part.Bad s ∷ parts) = exports_named name parts

-- ---- The export at a place is after those before it

pub exports_append : (xs ys : List PartText) → exports_in (xs ++ ys) ≡ exports_in xs ++ exports_in ys
exports_append [] ys = refl
exports_append (part.Export e ∷ xs) ys = ap (λ es. e ∷ es) (exports_append xs ys)
exports_append (part.Thread s ops ∷ xs) ys = exports_append xs ys
exports_append (part.Bad s ∷ xs) ys = exports_append xs ys

pub record ExportAt (hosts : List HostText) (earlier : List InstanceText) (front : List ExportText) (x : ExportText) : Type 0 where
  pub before : List PartText
  pub is : exports_in before ≡ front
  pub placed : ExportIsPlaced hosts earlier before x

module _ (hosts : List HostText) (earlier : List InstanceText) where
  export_after : (before parts : List PartText) (k : ℕ) (x : ExportText) → EachIsPlaced (PartIsPlaced hosts earlier) before parts → slice_get (exports_in parts) k ≡ Some x
      → ExportAt hosts earlier (exports_in before ++ take k (exports_in parts)) x
  export_after before [] k x each e = absurd cc
  export_after before (part.Export y ∷ parts) zero x each e =
      record { before = before; is = sym (append-nil (exports_in before)); placed = subst (ExportIsPlaced hosts earlier before) (some_is y x e) each.0 }
  export_after before (part.Export y ∷ parts) (suc k) x each e =
      let at = export_after (before ++ part.Export y ∷ []) parts k x each.1 e in
      record {
        before = at.before;
        is = at.is ∙ ap (λ es. es ++ take k (exports_in parts)) (exports_append before (part.Export y ∷ [])) ∙ append_assoc (exports_in before) (y ∷ []) (take k (exports_in parts));
        placed = at.placed;
      }
  export_after before (part.Thread s ops ∷ parts) k x each e =
      let at = export_after (before ++ part.Thread s ops ∷ []) parts k x each.1 e in
      record {
        before = at.before;
        is = at.is ∙ ap (λ es. es ++ take k (exports_in parts)) (exports_append before (part.Thread s ops ∷ []) ∙ append-nil (exports_in before));
        placed = at.placed;
      }
  export_after before (part.Bad s ∷ parts) k x each e =
      let at = export_after (before ++ part.Bad s ∷ []) parts k x each.1 e in
      record {
        before = at.before;
        is = at.is ∙ ap (λ es. es ++ take k (exports_in parts)) (exports_append before (part.Bad s ∷ []) ∙ append-nil (exports_in before));
        placed = at.placed;
      }

  pub export_placed : (parts : List PartText) (k : ℕ) (x : ExportText) → EachIsPlaced (PartIsPlaced hosts earlier) [] parts → slice_get (exports_in parts) k ≡ Some x → ExportAt hosts earlier (take k (exports_in parts)) x
  export_placed parts k x each e = export_after [] parts k x each e

-- ---- Going through the parts, as a loop does

abbrev pub named : List ℕ → ExportText → Bool
named name e = bytes_eq e.name name

-- the place of what is left, after so many
abbrev pub place_from : List ℕ → ℕ → List PartText → Option ℕ
place_from name k parts = option_map (λ j. k + j) (position (named name) (exports_in parts))
