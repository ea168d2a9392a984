-- A thread stays in its group.
use Rattle.std.proofs.Common.{ap, subst, sym, ◌∙◌, ◌≡◌}
use Rattle.std.specs.Option.{option_map_or}
use Rattle.std.specs.Prelude.{Option, Some, ℕ}
use Rattle.laws_labels.specs.Tells.{GroupStays}
use Rattle.machine_data.specs.Core.{Core}
use Rattle.machine_data.specs.Maps.{get}
use Rattle.machine_data.specs.Read.{call_group, thread_group}
use Rattle.machine_data.specs.declared.records.Call.{Call}
use Rattle.machine_data.specs.declared.records.Thread.{Thread}
use Rattle.machine_rules.specs.Laws.{LaterBy, LaterCall, SameThread}

group_in : (n : ℕ) (s : Core) (a : Thread) (c : Call) → get s.threads n ≡ Some a → get s.calls a.call ≡ Some c → thread_group n s ≡ c.group
group_in n s a c here call =
    ap (λ o. call_group (option_map_or (λ (t : Thread). t.call) o 0) s) here ∙ ap (λ o. option_map_or (λ (k : Call). k.group) o 0) call

later : {X : Type 0} (P : X → X → Type 0) (o p : Option X) (x y : X) → LaterBy P o p → o ≡ Some x → p ≡ Some y → P x y
later P o p x y h e f = subst (λ q. LaterBy P (Some x) q) f (subst (λ q. LaterBy P q p) e h)

pub group_stays : GroupStays
group_stays s t n r a here below known b there c call d after =
    let same : SameThread a b = later SameThread (get s.threads n) (get t.threads n) a b (r.threads n below) here there in
    let kept : LaterCall c d = later LaterCall (get s.calls a.call) (get t.calls a.call) c d (r.calls a.call known) call (ap (get t.calls) same.call ∙ after) in
    group_in n t b d there after ∙ (sym kept.group ∙ sym (group_in n s a c here call))
