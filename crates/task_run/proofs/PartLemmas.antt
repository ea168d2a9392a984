-- What the parts of an instance represent, part by part.
use Rattle.std.proofs.Common.{◌≡◌, List, [], ◌∷◌, ◌++◌, map, refl, ap, ◌∙◌}
use Rattle.std.proofs.lemmas.List.{map-append}
use Rattle.machine_data.specs.declared.component.Slot.{Slot}
use Rattle.text_scenario.specs.declared.tree.ExportText.{ExportText}
use Rattle.text_scenario.specs.declared.tree.PartText.{PartText}
use Rattle.text_scenario.specs.Spelling.{exports_in}
use Rattle.text_scenario.proofs.ExportLaws.{exports_append}
use Rattle.task_run.specs.Lower.{slots_with, slots_after}

-- one part more
pub slots_more : (slots : List Slot) (ps : List PartText) (p : PartText) → slots_after slots (ps ++ p ∷ []) ≡ slots_with (slots_after slots ps) p
slots_more slots [] p = refl
slots_more slots (q ∷ ps) p = slots_more (slots_with slots q) ps p

pub exports_more : {X : Type 0} (f : ExportText → X) (ps : List PartText) (p : PartText) → map f (exports_in (ps ++ p ∷ [])) ≡ map f (exports_in ps) ++ map f (exports_in (p ∷ []))
exports_more f ps p = ap (map f) (exports_append ps (p ∷ [])) ∙ map-append f (exports_in ps) (exports_in (p ∷ []))
