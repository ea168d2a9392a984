-- What an op leaves, and what it is inside of.
use Rattle.std.proofs.Common.{ap, refl, subst, sym, ◌∙◌}
use Rattle.ops_dispatch.specs.Fits.{HasInstances}
use Rattle.std.proofs.lemmas.Option.{slice_get_within}
use Rattle.std.specs.Option.{option_and_then, option_map_or}
use Rattle.std.specs.Prelude.{Err, IfOk, None, Ok, Option, Result, Some, false, is_some, slice_get, true, ℕ, ◌==◌, ◌≡◌}
use Rattle.machine_data.specs.Core.{Core}
use Rattle.machine_data.specs.Maps.{get}
use Rattle.machine_data.specs.declared.component.Callee.{Callee}
use Rattle.machine_data.specs.declared.component.Component.{Component}
use Rattle.machine_data.specs.declared.component.ExportDef.{ExportDef}
use Rattle.machine_data.specs.declared.component.InstanceDef.{InstanceDef}
use Rattle.ops_guests.specs.OpResult.{Implements}
use Rattle.ops_guests.specs.Stays.{StaysAfter}
use Rattle.ops_guests.specs.declared.op_result.OpResult.{OpResult}
use Rattle.machine_rules.specs.MainOps.{takes_words}
use Rattle.machine_rules.specs.Progress.{Asks, Fails, Continues, Never, OneOf, Ordered, Progress, Stops, Traps}
use Rattle.core_primitives.specs.StateView.{StateView}

same_view : (s t : StateView) → t.core ≡ s.core → t.tags ≡ s.tags → t.current ≡ s.current → t ≡ s
same_view s t core tags current =
    ap (λ d. let v : StateView = record { core = d; tags = t.tags; current = t.current } in v) core
    ∙ (ap (λ d. let v : StateView = record { core = s.core; tags = d; current = t.current } in v) tags
    ∙ ap (λ d. let v : StateView = record { core = s.core; tags = s.tags; current = d } in v) current)

-- an op that changes no name, and not who is current
pub same_stays : (p : Progress) (s t : StateView) (r : OpResult) → Implements p s.core r t.core → t.tags ≡ s.tags → t.current ≡ s.current → StaysAfter r s t
same_stays (Continues l new m) s t r h tags current = subst (λ (q : OpResult). StaysAfter q s t) (sym h.0) tt
same_stays (Stops l new) s t r h tags current = subst (λ (q : OpResult). StaysAfter q s t) (sym h.0) tt
same_stays (Traps why) s t r h tags current = subst (λ (q : OpResult). StaysAfter q s t) (sym h.0) (same_view s t h.1 tags current)
same_stays (Fails i) s t r h tags current = subst (λ (q : OpResult). StaysAfter q s t) (sym h.0) (same_view s t h.1 tags current)
same_stays Never s t r h tags current = absurd h
same_stays (Ordered ns next) s t r h tags current = same_stays (next h.0) s t r h.1.1 tags current
same_stays (OneOf ns next) s t r h tags current = same_stays (next h.0) s t r h.1.1 tags current
same_stays (Asks next) s t r h tags current = same_stays (next h.0) s t r h.1 tags current

pub ok_then : {X E : Type 0} (P Q : X → Type 0) (r : Result X E) → ((x : X) → P x → Q x) → IfOk r P → IfOk r Q
ok_then P Q (Ok x) f h = f x h
ok_then P Q (Err e) f h = tt

pub ok_both : {X E : Type 0} (P Q R : X → Type 0) (r : Result X E) → ((x : X) → P x → Q x → R x) → IfOk r P → IfOk r Q → IfOk r R
ok_both P Q R (Ok x) f h k = f x h k
ok_both P Q R (Err e) f h k = tt

-- ---- Callees

-- the instance of an export that takes these words is there
pub callee_there : (c : Component) (f : Callee) (n : ℕ) (s : Core) → HasInstances c s → takes_words c f n ≡ true → is_some (get s.instances f.instance) ≡ true
callee_there c f n s has takes = by (slice_get c.instances f.instance) refl takes
  where
    by : (o : Option InstanceDef) → slice_get c.instances f.instance ≡ o → option_map_or (λ (d : ExportDef). d.params == n) (option_and_then (λ (d : InstanceDef). slice_get d.exports f.export) o) false ≡ true → is_some (get s.instances f.instance) ≡ true
    by None e h = absurd (cc)
    by (Some d) e h = has f.instance (slice_get_within c.instances f.instance d e)
