-- Calls name exports, and instances stay, along the primitives of a step.
use Rattle.laws_states.proofs.Primitives.{after_primitive, Allowed, along, arith, call_came, CallAfter, Callee, callee_of_op, Caller, CallsExported, component_of, Core, ExportsExist, get, Grown, HandleTablesStay, InstancesStay, is_some, IsExported, MayCall, NewCall, NoCall, Op, op_in, op_of, ops_at, refl, Scene, scene_of, Some, some_none, step_walks, StepsKeepExports, subst, sym, Primitive, ℕ, ◌∙◌, ◌≡◌}
use Rattle.laws_states.proofs.OneHolder.{instance_stays, op_callee, table_stays}
use Rattle.machine_rules.specs.Allowed as may

module _ (a : Scene) (exist : ExportsExist a.setting) (here : (n : ℕ) → op_in a n ≡ op_of (component_of a) n a.base) where
  callee_exported : (f : Caller) (e : Callee) (group : ℕ) (s : Core) → MayCall a f e group s → IsExported (component_of a) e
  callee_exported f e group s (may.ByScript p o m at callee is same) = exist.starts p.position o e at callee
  callee_exported f e group s (may.ByProgram words m takes is same) = grind arith
  callee_exported f e group s (may.ByThread n r callee is same) = op_callee (component_of a) (IsExported (component_of a)) exist.calls n a.base e (subst (λ (o : Op). callee_of_op o ≡ Some e) (here n) callee)

  exported_primitive : (w : Primitive) (s : Core) → Allowed a w s → CallsExported (component_of a) s → CallsExported (component_of a) (after_primitive w s)
  exported_primitive w s ok q k x at = by (call_came w s ok k)
    where
      by : CallAfter a w s k → IsExported (component_of a) x.callee
      by (Grown c d e f g) = let h = q k c e in let same = g.callee in grind arith
      by (NoCall e r) = some_none (sym at ∙ e)
      by (NewCall f e y g group is l m new) = let h = callee_exported f e group s m.0 in grind arith

pub steps_keep_exports : StepsKeepExports
steps_keep_exports x s l t exist q step =
    let w = step_walks x s l t step in
    along (CallsExported x.component) (exported_primitive (scene_of x s l w.next) exist (λ n. ops_at x.component s.turn s.core n)) q w.walk

pub instances_stay : InstancesStay
instances_stay x s l t step i =
    along (λ u. is_some (get u.instances i) ≡ is_some (get s.core.instances i)) (λ w u ok same. instance_stays w u i ∙ same) refl (step_walks x s l t step).walk

pub handle_tables_stay : HandleTablesStay
handle_tables_stay x s l t step i =
    along (λ u. is_some (get u.handles i) ≡ is_some (get s.core.handles i)) (λ w u ok same. table_stays w u i ∙ same) refl (step_walks x s l t step).walk
