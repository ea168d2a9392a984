use Rattle.std.proofs.Common.{◌∙◌, ℕ, List, ap, arith, length, sym, take}
use Rattle.std.proofs.lemmas.List.{length-take-le}
use Rattle.text_report.proofs.Pages.{filled_page}
use Rattle.text_report.proofs.page.Page.full.Goals as goal

pub slice_bounds-result-end : goal.slice_bounds-result-end
slice_bounds-result-end c = sym (length-take-le 131072 c.deref.result.now (omega (arith, ap (λ (bs : List ℕ). length bs) c.deref.ensures.value, c.self.invariant.0)))

pub returns : goal.returns
returns c =
    ap (λ (bs : List ℕ). take 131072 bs) c.deref.ensures.value
    ∙ filled_page 131072 c.self.inside.used c.self.inside.bytes.items c.args.self.now (omega (arith, c.self.invariant.0, c.self.invariant.1)) c.self.view_is c.requires
