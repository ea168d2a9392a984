use Rattle.std.proofs.Common.{◌∙◌, ◌-◌, ◌≤◌, ℕ, List, ap, arith, drop, length, take}
use Rattle.text_report.proofs.Pages.{turned, used_up_to}
use Rattle.text_report.proofs.page.Page.take_full.Goals as goal

pub returns-clause-rest : goal.returns-clause-rest
returns-clause-rest c =
    let used = c.self.inside.used in
    let items = c.self.inside.bytes.items in
    let room : used ≤ length items = omega (arith, c.self.invariant.0, c.self.invariant.1) in
    let behind = c.split_at_mut-page.ensures.back ∙ ap (λ (bs : List ℕ). drop 131072 bs) c.as_mut_slice.ensures.value in
    turned 131072 used c.self.inside.bytes.len items c.copy_from_slice.new.self _ _ _ c.args.self.now (used_up_to 131072 used items c.args.self.now room c.self.view_is c.requires) room (omega (arith, c.self.inside.bytes.ok.0, room)) c.self.view_is (c.copy_from_slice.ensures.after ∙ ap (λ (bs : List ℕ). take (used - 131072) bs) behind)
