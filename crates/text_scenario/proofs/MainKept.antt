-- What is kept of main's ops stays so with one more.
use Rattle.std.proofs.Common.{◌≡◌, ℕ, ◌+◌, ◌-◌, ◌≤◌, Bool, true, false, ◌&&◌, ◌||◌, cond, List, [], ◌∷◌, ◌++◌, length, set, Some, None, refl, sym, ap, ◌∙◌, subst, arith, inl, inr}
use Rattle.std.specs.Prelude.{nat_le}
use Rattle.std.specs.List.{list_any}
use Rattle.std.proofs.lemmas.Bool.{and_parts, cases_lt, cases_eq, ne_eqb, eq-eqb, leb-true}
use Rattle.std.proofs.lemmas.List.{get_or_append_left, get_or_push, get_or-set_same, get_or-set_other, length-append, length-set}
use Rattle.std.proofs.lemmas.List.Folds.{list_any-append}
use Rattle.std.proofs.lemmas.List.Sums.{sum_by_push, count_by-le-length}
use Rattle.machine_data.specs.declared.component.Callee.{Callee}
use Rattle.machine_data.specs.declared.op.Operand.{Operand}
use Rattle.text_lines.specs.declared.line.NamedOp.{NamedOp}
use Rattle.text_lines.specs.declared.line.NamedOp.TheVariants as named
use Rattle.text_lines.specs.Tokens.{◌>>=◌}
use Rattle.text_lines.proofs.Numbers.{guarded}
use Rattle.text_lines.proofs.TokenLaws.{bind_some}
use Rattle.text_scenario.specs.declared.state.Body.{Body}
use Rattle.text_scenario.specs.declared.tree.MainOpText.{MainOpText}
use Rattle.text_scenario.specs.declared.tree.MainOpText.TheVariants as main
use Rattle.text_scenario.specs.Placement.{is_start, is_spawn, finishes, start_count, spawn_count, main_has_room, start_opens, finish_opens, spawn_opens, spawn_named, params_of}
use Rattle.text_scenario.specs.MainLines.{IsKept, FinishesStart}
use Rattle.text_scenario.specs.State.{fitting_export, callee_of, host_place, start_of, finish_of, spawn_of, ready_of, main_op_of}

or_false : (b : Bool) → (b || false) ≡ b
or_false true = refl
or_false false = refl

or_true : (b : Bool) → (b || true) ≡ true
or_true true = refl
or_true false = refl

pub few_spawns : (ops : List MainOpText) → spawn_count ops ≤ length ops
few_spawns ops = count_by-le-length is_spawn ops

module _ (ops : List MainOpText) (starts spawns : ℕ) (finished : List Bool) (kept : IsKept ops starts spawns finished) where
  any_more : (k : ℕ) (o : MainOpText) → list_any (finishes k) (ops ++ o ∷ []) ≡ (list_any (finishes k) ops || (finishes k o || false))
  any_more k o = list_any-append (finishes k) ops (o ∷ [])

  -- an op that finishes no start
  same_finished : (o : MainOpText) → ((k : ℕ) → finishes k o ≡ false) → (k : ℕ) → list_any (finishes k) (ops ++ o ∷ []) ≡ list_any (finishes k) ops
  same_finished o none k = any_more k o ∙ ap (λ (b : Bool). list_any (finishes k) ops || (b || false)) (none k) ∙ or_false (list_any (finishes k) ops)

  pub kept_start : (f : Callee) (xs : List Operand) → IsKept (ops ++ main.Start f xs ∷ []) (starts + 1) spawns (finished ++ false ∷ [])
  kept_start f xs =
      let same = same_finished (main.Start f xs) (λ k. refl) in
      record {
        starts_are = omega (arith, kept.starts_are, sum_by_push (λ o. cond (is_start o) 1 0) ops (main.Start f xs));
        spawns_are = omega (arith, kept.spawns_are, sum_by_push (λ o. cond (is_spawn o) 1 0) ops (main.Start f xs));
        each = omega (arith, kept.each, length-append finished (false ∷ []));
        finished_is = λ k lt.
            elim (cases_lt k starts) [
              | inl lower ↦ get_or_append_left finished (false ∷ []) false k (omega (arith, lower, kept.each)) ∙ kept.finished_is k lower ∙ sym (same (k + 1))
              | inr here ↦ get_or_push finished false false k (omega (arith, lt, here, kept.each)) ∙ sym (same (k + 1) ∙ kept.later (k + 1) (omega (arith, here)))
            ];
        later = λ k lt. same k ∙ kept.later k (omega (arith, lt));
      }

  pub kept_spawn : (h : ℕ) → IsKept (ops ++ main.Spawn h ∷ []) starts (spawns + 1) finished
  kept_spawn h =
      let same = same_finished (main.Spawn h) (λ k. refl) in
      record {
        starts_are = omega (arith, kept.starts_are, sum_by_push (λ o. cond (is_start o) 1 0) ops (main.Spawn h));
        spawns_are = omega (arith, kept.spawns_are, sum_by_push (λ o. cond (is_spawn o) 1 0) ops (main.Spawn h));
        each = kept.each;
        finished_is = λ k lt. kept.finished_is k lt ∙ sym (same (k + 1));
        later = λ k lt. same k ∙ kept.later k lt;
      }

  -- an op that is no start, no spawn and no finish
  pub kept_other : (o : MainOpText) → is_start o ≡ false → is_spawn o ≡ false → ((k : ℕ) → finishes k o ≡ false) → IsKept (ops ++ o ∷ []) starts spawns finished
  kept_other o no_start no_spawn none =
      let same = same_finished o none in
      record {
        starts_are = omega (arith, kept.starts_are, sum_by_push (λ o. cond (is_start o) 1 0) ops o, ap {B = ℕ} (λ (b : Bool). cond b 1 0) no_start);
        spawns_are = omega (arith, kept.spawns_are, sum_by_push (λ o. cond (is_spawn o) 1 0) ops o, ap {B = ℕ} (λ (b : Bool). cond b 1 0) no_spawn);
        each = kept.each;
        finished_is = λ k lt. kept.finished_is k lt ∙ sym (same (k + 1));
        later = λ k lt. same k ∙ kept.later k lt;
      }

  module _ (k r : ℕ) where
    finishes_none : (j : ℕ) → (k ≡ j → ⊥) → list_any (finishes j) (ops ++ main.Finish k r ∷ []) ≡ list_any (finishes j) ops
    finishes_none j not = any_more j (main.Finish k r) ∙ ap (λ (b : Bool). list_any (finishes j) ops || (b || false)) (ne_eqb k j not) ∙ or_false (list_any (finishes j) ops)

    finishes_it : list_any (finishes k) (ops ++ main.Finish k r ∷ []) ≡ true
    finishes_it = any_more k (main.Finish k r) ∙ ap (λ (b : Bool). list_any (finishes k) ops || (b || false)) (eq-eqb k k refl) ∙ or_true (list_any (finishes k) ops)

    starts_stay : starts ≡ start_count (ops ++ main.Finish k r ∷ [])
    starts_stay = omega (arith, kept.starts_are, sum_by_push (λ o. cond (is_start o) 1 0) ops (main.Finish k r))

    spawns_stay : spawns ≡ spawn_count (ops ++ main.Finish k r ∷ [])
    spawns_stay = omega (arith, kept.spawns_are, sum_by_push (λ o. cond (is_spawn o) 1 0) ops (main.Finish k r))

    pub kept_finish : 1 ≤ k → k ≤ starts → IsKept (ops ++ main.Finish k r ∷ []) starts spawns (set finished (k - 1) true)
    kept_finish some known = record {
      starts_are = starts_stay;
      spawns_are = spawns_stay;
      each = omega (arith, kept.each, length-set finished (k - 1) true);
      finished_is = λ j lt.
          elim (cases_eq j (k - 1)) [
            | inl same ↦
                let it : k ≡ j + 1 = omega (arith, same, some) in
                rw same (get_or-set_same finished (k - 1) true false (omega (arith, kept.each, some, known))) ∙ sym (subst (λ (i : ℕ). list_any (finishes i) (ops ++ main.Finish k r ∷ []) ≡ true) it finishes_it)
            | inr other ↦ get_or-set_other finished (k - 1) j true false other ∙ kept.finished_is j lt ∙ sym (finishes_none (j + 1) (λ e. other (omega (arith, e))))
          ];
      later = λ j lt. finishes_none j (λ e. absurd (omega (arith, e, lt, known))) ∙ kept.later j lt;
    }

    pub kept_finish_of_none : (1 ≤ k → ⊥) → IsKept (ops ++ main.Finish k r ∷ []) starts spawns finished
    kept_finish_of_none none = record {
      starts_are = starts_stay;
      spawns_are = spawns_stay;
      each = kept.each;
      finished_is = λ j lt. kept.finished_is j lt ∙ sym (finishes_none (j + 1) (λ e. none (omega (arith, e))));
      later = λ j lt. finishes_none j (λ e. none (omega (arith, e, lt))) ∙ kept.later j lt;
    }

-- ---- An op that a line of main is finishes no start but an earlier one

module _ (b : Body) (before : List MainOpText) where
  finish_known : (k r : ℕ) (o : MainOpText) → finish_of before k r ≡ Some o → FinishesStart before o
  unfolding finish_of
  finish_known k r o e =
      let g = guarded (finish_opens before k) (main.Finish k r) o e in
      let p = and_parts (main_has_room before && nat_le 1 k && nat_le k (start_count before)) _ g.0 in
      let q = and_parts (main_has_room before && nat_le 1 k) (nat_le k (start_count before)) p.0 in
      subst (FinishesStart before) g.1 (leb-true _ _ q.1)

  start_known : (instance export : List ℕ) (xs : List Operand) (o : MainOpText) → start_of b.instances before instance export xs ≡ Some o → FinishesStart before o
  unfolding start_of
  start_known instance export xs o e =
      let f = bind_some (fitting_export b.instances instance export xs) (λ f. cond (start_opens before) (Some (main.Start f xs)) None) o e in
      let g = guarded (start_opens before) (main.Start f.0 xs) o f.2 in
      subst (FinishesStart before) g.1 tt

  spawn_known : (name : List ℕ) (o : MainOpText) → spawn_of b.hosts before name ≡ Some o → FinishesStart before o
  unfolding spawn_of
  spawn_known name o e =
      let h = bind_some (host_place b.hosts name) (λ h. cond (spawn_opens before) (Some (main.Spawn h)) None) o e in
      let g = guarded (spawn_opens before) (main.Spawn h.0) o h.2 in
      subst (FinishesStart before) g.1 tt

  ready_known : (instance export : List ℕ) (o : MainOpText) → ready_of b.instances before instance export ≡ Some o → FinishesStart before o
  unfolding ready_of
  ready_known instance export o e =
      let f = bind_some (callee_of b.instances instance export) (λ f. params_of b.instances f >>= λ n. cond (main_has_room before) (Some (main.Ready f)) None) o e in
      let n = bind_some (params_of b.instances f.0) (λ n. cond (main_has_room before) (Some (main.Ready f.0)) None) o f.2 in
      let g = guarded (main_has_room before) (main.Ready f.0) o n.2 in
      subst (FinishesStart before) g.1 tt

  pub finishes_known : (l : NamedOp) (o : MainOpText) → main_op_of b before l ≡ Some o → FinishesStart before o
  unfolding main_op_of
  finishes_known (named.Start instance export xs) o e = start_known instance export xs o e
  finishes_known (named.Finish k r) o e = finish_known k r o e
  finishes_known (named.Spawn name) o e = spawn_known name o e
  finishes_known (named.Abort k) o e = subst (FinishesStart before) (guarded (spawn_named before k) (main.Abort k) o e).1 tt
  finishes_known (named.Await k) o e = subst (FinishesStart before) (guarded (spawn_named before k) (main.Await k) o e).1 tt
  finishes_known named.Quiet o e = subst (FinishesStart before) (guarded (main_has_room before) main.Quiet o e).1 tt
  finishes_known (named.Ready instance export) o e = ready_known instance export o e
