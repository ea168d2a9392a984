-- What a run itself calls on its spawned works, label by label.
use Rattle.laws_beside.specs.RunCalls.{Calls, CallsGoOn, NoCalls, early_of}
use Rattle.laws_beside.specs.Own.{calls_from, early_calls, own_calls}
use Rattle.laws_beside.specs.Wide.{Wide, WideStep}
use Rattle.std.proofs.Common.{ap, arith, refl, subst, sym, ◌∙◌}
use Rattle.std.proofs.lemmas.List.{append-nil, append_assoc}
use Rattle.std.specs.Prelude.{List, [], ℕ, ◌+◌, ◌++◌, ◌∷◌, ◌≡◌}
use Rattle.task_abort.specs.declared.log.PhaseCall.{PhaseCall}
use Rattle.machine_data.specs.declared.label.Label.{Label}
use Rattle.machine_rules.specs.Stalled.{Setting}

pub no_calls : NoCalls
no_calls x w = record { run = refl; own_is = λ k. refl; early_is = λ k. refl }

-- a step behind a run, and what both call
abbrev Behind : Setting → Wide → List Label → Wide → Label → Wide → (ℕ → List PhaseCall) → (ℕ → ℕ) → Type 0
Behind x w ls m l v own early = Calls x w (ls ++ l ∷ []) v (λ k. own k ++ calls_from x k m.state l) (λ k. early k + early_of x k m l)

sums : (a b c d e : ℕ) → b ≡ c + d → a + c ≡ e → a + b ≡ e + d
sums a b c d e p q = omega (arith, p, q)

step_behind : (x : Setting) (w : Wide) (ls : List Label) (m : Wide) (l : Label) (v : Wide) (own : ℕ → List PhaseCall) (early : ℕ → ℕ) →
    Calls x w ls m own early → WideStep x m l v → Behind x w ls m l v own early
step_behind x w [] m l v own early q step = record {
  run = (v, (subst (λ (y : Wide). WideStep x y l v) q.run step, refl));
  own_is = λ k. append-nil (calls_from x k w.state l) ∙ (ap (λ (y : Wide). calls_from x k y.state l) (sym q.run) ∙ ap (λ (cs : List PhaseCall). cs ++ calls_from x k m.state l) (q.own_is k));
  early_is = λ k. let first : early_of x k w l ≡ early_of x k m l = ap (λ (y : Wide). early_of x k y l) (sym q.run) in let none : 0 ≡ early k = q.early_is k in omega (arith, first, none);
}
step_behind x w (n ∷ ls) m l v own early q step =
    let more : Behind x q.run.0 ls m l v (λ k. own_calls x k q.run.0 ls m q.run.1.1) (λ k. early_calls x k q.run.0 ls m q.run.1.1) =
    step_behind x q.run.0 ls m l v (λ k. own_calls x k q.run.0 ls m q.run.1.1) (λ k. early_calls x k q.run.0 ls m q.run.1.1)
    (record { run = q.run.1.1; own_is = λ k. refl; early_is = λ k. refl }) step in
    record {
      run = (q.run.0, (q.run.1.0, more.run));
      own_is = λ k. ap (λ (cs : List PhaseCall). calls_from x k w.state n ++ cs) (more.own_is k)
          ∙ (sym (append_assoc (calls_from x k w.state n) (own_calls x k q.run.0 ls m q.run.1.1) (calls_from x k m.state l))
          ∙ ap (λ (cs : List PhaseCall). cs ++ calls_from x k m.state l) (q.own_is k));
      early_is = λ k. let now = q.early_is k in let behind = more.early_is k in sums (early_of x k w n) _ _ _ _ behind now;
    }

pub calls_go_on : CallsGoOn
calls_go_on x w ls m l v own early q step = step_behind x w ls m l v own early q step
