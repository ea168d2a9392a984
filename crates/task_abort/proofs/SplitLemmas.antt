-- A split keeps the rule.
use Rattle.std.proofs.Common.{◌≡◌, ℕ, zero, suc, ◌+◌, ◌≤◌, ◌<◌, ◌≢◌, ◌⊎◌, Bool, true, false, cond, List, [], ◌∷◌, ◌++◌, length, set, sum_by, refl, sym, ap, ap₂, subst, ◌∙◌, inl, inr, ⊎_elim, append_assoc, append-nil, le_refl, arith}
use Rattle.std.proofs.lemmas.List.{append_cancel_left}
use Rattle.std.proofs.lemmas.List.Sums.{sum_by-cons, sum_by-append}
use mathlib.Core.Option.{some, some-injective}
use lib.ListN.{get_elem?}
use Rattle.task_abort.specs.declared.log.LogEntry.{LogEntry}
use Rattle.task_abort.specs.declared.log.HandleCaller.{HandleCaller}
use Rattle.task_abort.specs.declared.log.PassView.{PassView}
use Rattle.task_abort.specs.PhaseLog.{Name, Log, same_name, calls_by, IsFirst, split_left, split_right}
use Rattle.task_abort.specs.Rule.{named_at, At, Has, PassHas, NameGoesOn, FitsLog, KeptPass, Knows}
use Rattle.task_abort.proofs.LogLemmas.{names, same_name-other, nothing_left, not_nil, same_head, same_tail}
use Rattle.task_abort.proofs.CallerLemmas.{Stems, at_only, at_last_or, sum_by-none, counts, counts-other, named_at-none, named-one, has_own, met_apart, others_apart, sole, stands_before, among_after, old_log_after, by_place, apart_after}

-- a name that ends in x goes on from ys: it ends there, or what is before x goes on too
cut_last : (xs ys rest : Name) (x k : ℕ) → xs ++ x ∷ [] ≡ ys ++ k ∷ rest → ((xs ≡ ys) × (x ≡ k)) ⊎ ((r : Name) × (xs ≡ ys ++ k ∷ r))
cut_last [] [] rest x k h = inl (refl, same_head x k [] rest h)
cut_last [] (y ∷ ys) rest x k h = absurd (not_nil ys k rest (sym (same_tail x y [] (ys ++ k ∷ rest) h)))
cut_last (a ∷ xs) [] rest x k h = inr (xs, ap (λ (z : ℕ). z ∷ xs) (same_head a k (xs ++ x ∷ []) rest h))
cut_last (a ∷ xs) (y ∷ ys) rest x k h = let e = same_head a y (xs ++ x ∷ []) (ys ++ k ∷ rest) h in
    ⊎_elim (λ (t : (xs ≡ ys) × (x ≡ k)). inl (ap₂ (λ (z : ℕ) (l : Name). z ∷ l) e t.0, t.1))
    (λ (t : (r : Name) × (xs ≡ ys ++ k ∷ r)). inr (t.0, ap₂ (λ (z : ℕ) (l : Name). z ∷ l) e t.1))
    (cut_last xs ys rest x k (same_tail a y (xs ++ x ∷ []) (ys ++ k ∷ rest) h))

calls_by-none : (n : Name) (log : Log) → ((m : ℕ) (e : LogEntry Name) → get_elem? log m ≡ some e → e.caller ≢ n) → calls_by n log ≡ []
calls_by-none n [] h = refl
calls_by-none n (x ∷ xs) h = ap (λ (b : Bool). cond b (x ∷ calls_by n xs) (calls_by n xs)) (same_name-other x.caller n (h 0 x refl)) ∙ calls_by-none n xs (λ m e g. h (suc m) e g)

module _ (v : PassView) where
  abbrev left : PassView
  left = split_left v

  abbrev right : PassView
  right = split_right v

  -- the new name goes on from the pass's with its count of splits, and no name did so before
  fresh : (n rest : Name) → NameGoesOn v.own n → n ≢ right.own.name ++ rest
  fresh n rest g h = let l : v.own.splits < v.own.splits = g v.own.splits rest (h ∙ append_assoc v.own.name (v.own.splits ∷ []) rest) in omega arith

  fresh_end : (n : Name) → NameGoesOn v.own n → n ≢ right.own.name
  fresh_end n g h = fresh n [] g (h ∙ sym (append-nil right.own.name))

  right_only : (c : HandleCaller) → Has right c → right.own ≡ c
  right_only c h = at_only right.own c h.0 h.1

  pub left_has : (P : HandleCaller → Type 0) → P left.own → ((c : HandleCaller) → Has v c → P c) → (c : HandleCaller) → Has left c → P c
  left_has P own others c (zero, h) = subst P (some-injective left.own c h) own
  left_has P own others c (suc a, h) = others c (suc a, h)

  module _ (k : Knows v) where
    pub knows_left : Knows left
    knows_left = record {
      legal = k.legal;
      whole = left_has (λ c. calls_by c.name v.seen ≡ c.calls) (k.whole v.own (has_own v)) k.whole;
      below = λ c m e h g. left_has (λ c. NameGoesOn c e.caller) (λ j rest is. let l : j < v.own.splits = k.below v.own m e (has_own v) g j rest is in omega arith) (λ c h. k.below c m e h g) c h;
      apart = k.apart;
    }

    pub knows_right : Knows right
    knows_right = record {
      legal = k.legal;
      whole = λ c h. subst (λ (z : HandleCaller). calls_by z.name v.seen ≡ z.calls) (right_only c h) (calls_by-none right.own.name v.seen (λ m e g. fresh_end e.caller (k.below v.own m e (has_own v) g)));
      below = λ c m e h g. subst (λ (z : HandleCaller). NameGoesOn z e.caller) (right_only c h) (λ j rest is. absurd (fresh e.caller (j ∷ rest) (k.below v.own m e (has_own v) g) is));
      apart = λ n. named-one n right.own;
    }

  module _ (words : List ℕ) (views : List PassView) (kept : KeptPass words views) (i : ℕ) (at : At views i v) where
    stems : (c : HandleCaller) → Has left c → Stems v c
    stems = left_has (Stems v) (record { from = v.own; has = has_own v; name = refl; splits = omega arith }) (λ c h. record { from = c; has = h; name = refl; splits = le_refl _ })

    abbrev old : List PassView
    old = set views i left

    by_split : (P : ℕ → PassView → Type 0) → ((j : ℕ) (u : PassView) → At old j u → P j u) → P (length old) right → (j : ℕ) (u : PassView) → At (old ++ right ∷ []) j u → P j u
    by_split P before new j u h = ⊎_elim
        (λ (t : get_elem? old j ≡ some u). before j u (t, h.1))
        (λ (t : (j ≡ length old) × (right ≡ u)). subst (λ (z : ℕ). P z u) (sym t.0) (subst (λ (z : PassView). P (length old) z) t.1 new))
        (at_last_or old right u j h.0)

    stands_either : (c : HandleCaller) → PassHas (old ++ right ∷ []) c → PassHas old c ⊎ (right.own ≡ c)
    stands_either c h = by_split (λ j u. Has u c → PassHas old c ⊎ (right.own ≡ c)) (λ j u there has. inl (j, u, there, has)) (λ has. inr (right_only c has)) h.0 h.1 h.2 h.3

    from_own : (c : HandleCaller) → PassHas old c → NameGoesOn v.own c.name
    from_own c h = let c' = stands_before words views kept i v at left stems c h in subst (λ (n : Name). NameGoesOn v.own n) c'.2 (kept.among v.own c'.0 (i, v, at, has_own v) c'.1)

    to_new : (c : HandleCaller) → PassHas views c → c.name ≢ v.own.name → NameGoesOn c right.own.name
    to_new c h ne k rest is = ⊎_elim (λ (t : (v.own.name ≡ c.name) × (v.own.splits ≡ k)). absurd (ne (sym t.0)))
        (λ (t : (r : Name) × (v.own.name ≡ c.name ++ k ∷ r)). kept.among c v.own h (i, v, at, has_own v) k t.0 t.1)
        (cut_last v.own.name c.name rest v.own.splits k is)

    from_left : (c : HandleCaller) → Has left c → NameGoesOn c right.own.name
    from_left c (zero, h) = subst (λ (z : HandleCaller). NameGoesOn z right.own.name) (some-injective left.own c h)
        (λ k rest is. let e : v.own.splits ≡ k = same_head v.own.splits k [] rest (append_cancel_left v.own.name (v.own.splits ∷ []) (k ∷ rest) is) in omega arith)
    from_left c (suc a, h) = to_new c (i, v, at, (suc a, h)) (met_apart words views kept i v at a c h)

    old_to_new : (c : HandleCaller) → PassHas old c → NameGoesOn c right.own.name
    old_to_new c h = by_place words views kept i v at left stems (λ j u. Has u c → NameGoesOn c right.own.name) (from_left c)
        (λ j u ne there has. to_new c (j, u, there, has) (others_apart words views kept i v at j u c ne there has)) h.0 h.1 h.2 h.3

    new_to : (n : Name) → NameGoesOn v.own n → NameGoesOn right.own n
    new_to n g k rest is = absurd (fresh n (k ∷ rest) g is)

    among_split : (c d : HandleCaller) → PassHas (old ++ right ∷ []) c → PassHas (old ++ right ∷ []) d → NameGoesOn c d.name
    among_split c d hc hd = ⊎_elim
        (λ (s : PassHas old c). ⊎_elim (λ (t : PassHas old d). among_after words views kept i v at left stems c d s t)
        (λ (t : right.own ≡ d). subst (λ (z : HandleCaller). NameGoesOn c z.name) t (old_to_new c s)) (stands_either d hd))
        (λ (s : right.own ≡ c). subst (λ (z : HandleCaller). NameGoesOn z d.name) s (⊎_elim (λ (t : PassHas old d). new_to d.name (from_own d t))
        (λ (t : right.own ≡ d). subst (λ (z : HandleCaller). NameGoesOn right.own z.name) t (λ k rest is. absurd (not_nil [] k rest (nothing_left right.own.name (k ∷ rest) is)))) (stands_either d hd)))
        (stands_either c hc)

    in_log_split : (c : HandleCaller) (m : ℕ) (e : LogEntry Name) → PassHas (old ++ right ∷ []) c → get_elem? kept.log m ≡ some e → NameGoesOn c e.caller
    in_log_split c m e hc he = ⊎_elim (λ (s : PassHas old c). old_log_after words views kept i v at left stems c m e s he)
        (λ (s : right.own ≡ c). subst (λ (z : HandleCaller). NameGoesOn z e.caller) s (new_to e.caller (kept.in_log v.own m e (i, v, at, has_own v) he))) (stands_either c hc)

    apart_split : (n : Name) → sum_by (named_at n) (old ++ right ∷ []) ≤ 1
    apart_split n = ⊎_elim
        (λ (t : (right.own.name ≡ n) × (same_name right.own.name n ≡ true)).
        let none : sum_by (named_at n) old ≡ 0 =
        sum_by-none (named_at n) old (λ j u h. named_at-none n u (λ alive c has e. fresh_end c.name (from_own c (j, u, (h, alive), has)) (e ∙ sym t.0))) in
        let one = named-one n right.own in omega (arith, both, sum_by-cons (named_at n) right []))
        (λ (t : (right.own.name ≢ n) × (same_name right.own.name n ≡ false)).
        let zero = counts-other n right.own t.0 in let l = apart_after words views kept i v at left stems (λ n. refl) n in
        omega (arith, both, sum_by-cons (named_at n) right [], sum_by-cons (counts n) right.own []))
        (names right.own.name n)
      where
        both : sum_by (named_at n) (old ++ right ∷ []) ≡ sum_by (named_at n) old + sum_by (named_at n) (right ∷ [])
        both = sum_by-append (named_at n) old (right ∷ [])

    none_yet : calls_by right.own.name kept.log ≡ []
    none_yet = calls_by-none right.own.name kept.log (λ m e h. fresh_end e.caller (kept.in_log v.own m e (i, v, at, has_own v) h))

    fits_left : FitsLog kept.log left
    fits_left = let f = kept.fits i v at in record {
      seen = f.seen;
      heard = f.heard;
      calls = left_has (λ c. calls_by c.name kept.log ≡ c.calls) (f.calls v.own (has_own v)) f.calls;
      held = left_has (λ c. (calls_by c.name v.seen ≡ c.calls) ⊎ (calls_by c.name v.heard ≡ c.calls)) (f.held v.own (has_own v)) f.held;
    }

    fits_right : FitsLog kept.log right
    fits_right = let f = (kept.fits i v at).seen in record {
      seen = f;
      heard = (kept.log, refl);
      calls = λ c h. subst (λ (z : HandleCaller). calls_by z.name kept.log ≡ z.calls) (right_only c h) none_yet;
      held = λ c h. subst (λ (z : HandleCaller). (calls_by z.name v.seen ≡ z.calls) ⊎ (calls_by z.name [] ≡ z.calls)) (right_only c h) (inr refl);
    }

    pub kept_split : KeptPass words (old ++ right ∷ [])
    kept_split = record {
      log = kept.log;
      legal = kept.legal;
      word = kept.word;
      fits = by_split (λ j u. FitsLog kept.log u) (by_place words views kept i v at left stems (λ j u. FitsLog kept.log u) fits_left (λ j u ne there. kept.fits j u there)) fits_right;
      apart = apart_split;
      among = among_split;
      in_log = in_log_split;
      first = by_split (λ j u. IsFirst u → u.seen ≡ kept.log)
          (by_place words views kept i v at left stems (λ j u. IsFirst u → u.seen ≡ kept.log) (λ f. let none : v.own.splits + 1 ≡ 0 = f.1 in absurd (omega arith))
          (λ j u ne there f. absurd (sole words views kept i v at j u ne there f))) (λ f. absurd (not_nil v.own.name v.own.splits [] f.0));
    }
