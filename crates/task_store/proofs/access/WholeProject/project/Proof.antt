-- `Whole` hands on the reference that it was passed, so what it lends follows itself. Assumes `Logic`.
use mathlib.Core.Path.{refl}
use Prim.Native.Nat.{ℕ}
use mathlib.Core.List.{[], ◌∷◌}
use seplogic.Ra.Ura.{Ura}
use mir.Syntax.{Args, Fn, named, a_type}
use mir.MapTy.{inst_fn}
use mir.Val.{Val, vptr}
use base.Logic.{SProp, ent}
use base.Fml.{Lft, GName, Share, ftrue, flft}
use prog.Memory.{Memory}
use prog.Routine.{Routine}
use prog.Wp.{Env, Calls, Loops, WpFn, Tables}
use types.Logic.{Logic}
use contract.Lifetimes.{AllOutlive}
use contract.Monad.{Fun}
use contract.Running.{tables, tables_of}
use sound.WpLaws.{WpFn-mono}
use types.Kit.{‵, ◌⊛◌, raw, ◌$◌, ◌∵◌, !, qed, by, move, keep, split, join, fsplit, fjoin, use0, suffices, frame, done}
use types.Run.{stop, addr, returns, enter}
use types.ByLocal.{alloc_all, pass_all, free_all, look_at, through, sets, env}
use borrow.Follows.Kept.{follows_itself}
use denote.Builtin.{RefMutOf}
use denote.Exit.{no}
use denote.Follow.{follows}
use denote.Param.{param, layouts}
use denote.RattleType.{RattleType, owns}
use denote.Ref.{MutBor, MutRef, mut_vals, mut_Tells}
use denote.Signature.{plain}
use denote.Steps.{nothing}
use denote.Triple.Clauses.{Clauses, Ended, closing}
use denote.Triple.Entry.{on_entry}
use denote.Triple.Spec.{Meets, triple_of}
use denote.Triple.Table.{entered}
use denote.Triple.Walked.{says, Stays, stay_dropped, walk_of, ends_at, walked, Goes-spent_ref, walk_Meets}
use Rattle.task_store.specs.contracts.access.WholeProject.project as F
use Rattle.task_store.specs.contracts.access.WholeProject.project.Key.{name as #self}
use Rattle.task_store.proofs.access.WholeProject.project.Statement as stated
use Rattle.task_store.proofs.access.WholeProject.project.Code as code

module _ (X : RattleType) where
  abbrev args : Args
  args = layouts (a_type ∷ []) (X, tt)

  abbrev function : Fn
  function = inst_fn args code.function

  abbrev R : RattleType
  R = param 0 X

  abbrev ended : Ended
  ended = F.ended X

  abbrev stayed : Stays ended.signature.params ended.kept
  stayed = (stay_dropped (RefMutOf (0 ∷ []) tt (plain (λ _. R)) (λ _. tt)) no, tt)

module _ (X : RattleType) {M : Type 1} {𝓤 : Ura M} (𝓛 : Logic 𝓤) (at_mem : Memory → SProp 𝓤) (run : Routine → Fun 𝓤) where
  open 𝓛 use {H}

  abbrev clauses : Clauses 𝓤 (ended X)
  clauses = F.clauses X 𝓛 at_mem run

  module _ (C : Calls 𝓤 H) (Λ : Loops 𝓤 H) (κ κT : Lft) (q qT : Share) (bd : AllOutlive 2 (ended X).signature.outlives (κ, (κT, tt))) (b o : ℕ) (γ : GName) (x : (R X).Denot) where
    abbrev self : MutBor (R X).Denot
    self = record { ref_ptr = (b, o); ghost_name = γ; now = x }

    abbrev bound : (walk_of 𝓛 (ended X) (stayed X) clauses).Ghost
    bound = (((κ, (κT, tt)), (q, (qT, tt)), bd, (self, tt), (mut_vals self, tt)), tt)

    abbrev Post : Val → SProp 𝓤
    Post = (walk_of 𝓛 (ended X) (stayed X) clauses).post bound

    walk : ent 𝓤 (on_entry 𝓛 (ended X).signature (κ, (κT, tt)) (q, (qT, tt)) (self, tt) (mut_vals self, tt)) (WpFn 𝓤 H C Λ (function X) (vptr b o ∷ []) Post)
    walk =
        qed 𝓛 ((‵ (flft κ q) ⊛ ‵ (flft κT qT) ⊛ ‵ ftrue) ∷ ‵ (owns (MutRef (named 0) κ (R X) ∷ []) (self, tt) (mut_vals self, tt)) ∷ []) ∵ enter ! C Λ (function X) (vptr b o ∷ []) _ $
        alloc_all ! (λ l. pass_all ! refl ((tt, tt), tt) $
        let En : Env 𝓤 H = env (function X).locals l in
        sets ! (addr ! (through ! refl (stop !))) refl (tt, tt) $
        split ! $ move ! (2 ∷ []) $ fsplit ! $ move ! (0 ∷ 2 ∷ 3 ∷ []) $
        returns ! (look_at ! 0 refl) $ free_all ! refl $ keep ! (0 ∷ 1 ∷ 2 ∷ []) $
        use0 𝓛 (‵ (follows (R X) (R X) γ γ (λ w. w))) (follows_itself 𝓛 (R X) γ) $ move ! (1 ∷ 2 ∷ 0 ∷ []) $
        suffices ! _ (ends_at 𝓛 (ended X) (stayed X) clauses bound (vptr b o) self (tt, tt) (tt, tt)) $
        nothing ! $ nothing ! $ fjoin ! $ join ! $ move ! (1 ∷ 3 ∷ []) $ join ! $ join ! $ frame ! $ says ! refl $ done !)

  implements : (𝓣 : Tables 𝓤 H) → Meets 𝓛 (ended X).signature (WpFn 𝓤 H 𝓣.C 𝓣.Λ (function X)) (closing 𝓛 (ended X) clauses)
  implements 𝓣 =
      walk_Meets 𝓛 (ended X) (stayed X) (Goes-spent_ref 𝓛 2 (0 ∷ []) tt (plain (λ _. R X)), tt) clauses (WpFn 𝓤 H 𝓣.C 𝓣.Λ (function X)) (WpFn-mono 𝓤 H 𝓛.laws 𝓣 (function X))
      (walked 𝓛 (ended X) (stayed X) clauses (WpFn 𝓤 H 𝓣.C 𝓣.Λ (function X)) (λ κs. (mut_vals, tt)) (λ κs. (mut_Tells (named 0) κs.0 (R X), tt))
      (λ κs qs bounds a g are.
      qed 𝓛 (raw (on_entry 𝓛 (ended X).signature κs qs a (mut_vals a.0, tt)) ∷ raw ((clauses κs a).requires g) ∷ []) ∵
      keep ! (0 ∷ []) $ by ! (walk 𝓣.C 𝓣.Λ κs.0 κs.1.0 qs.0 qs.1.0 bounds a.0.ref_ptr.0 a.0.ref_ptr.1 a.0.ghost_name a.0.now)))

pub project_spec : {M : Type 1} → stated.statement M
unfolding tables_of
project_spec 𝓤 𝓛 𝓜 𝓡 wired X L =
    let 𝓣 : Tables 𝓤 𝓛.H = tables_of 𝓤 𝓛.H 𝓜 (tables 𝓤 𝓛.H 𝓜 𝓡 𝓡.env) in
    entered 𝓤 𝓛.H (triple_of 𝓛 (ended X).signature (F.spec X 𝓛 𝓜.mem 𝓡.returns)) 𝓣.C 𝓣.Λ (#self (args X)) (function X) (code.unfolded 𝓤 𝓛.H 𝓜 𝓡 wired (X, tt))
    (implements X 𝓛 𝓜.mem 𝓡.returns 𝓣)
