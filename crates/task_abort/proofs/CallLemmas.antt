-- A call keeps the rule.
use Rattle.std.proofs.Common.{◌≡◌, ℕ, zero, suc, ◌≤◌, ◌≢◌, false, List, [], ◌∷◌, ◌++◌, set, slice_index, max, refl, sym, ap, subst, ◌∙◌, inl, ⊎_elim, le_refl, arith}
use mathlib.Core.Option.{some, some-injective}
use lib.ListN.{get_elem?}
use Rattle.atomic_table.specs.Table.{Me, keeps, Allows}
use Rattle.atomic_table.proofs.Lists.{at_snoc}
use Rattle.machine_data.specs.declared.statuses.Phase.{Phase}
use Rattle.machine_data.specs.declared.statuses.Phase.TheVariants.{Running, AbortRequested, Complete}
use Rattle.task_abort.specs.declared.log.PhaseCall.{PhaseCall}
use Rattle.task_abort.specs.declared.log.PhaseCall.TheVariants.{Abort, Finish}
use Rattle.task_abort.specs.declared.log.LogEntry.{LogEntry}
use Rattle.task_abort.specs.declared.log.HandleCaller.{HandleCaller}
use Rattle.task_abort.specs.declared.log.PassView.{PassView}
use Rattle.task_abort.specs.PhaseLog.{code, phase_of_code, after, entry, phase, Name, Log, calls_by, IsFirst}
use Rattle.task_abort.specs.Rule.{At, Has, PassHas, NameGoesOn, FitsLog, KeptPass, Calls, Called}
use Rattle.task_abort.proofs.LogLemmas.{phase_of_code-code, phase_from-append, phase_from_rises, legal_push, begins_refl, begins_more, calls_by-own, calls_by-other}
use Rattle.task_abort.proofs.CallerLemmas.{Stems, at_written, goes_on_stem, has_own, met_apart, others_apart, sole, stands_before, among_after, old_log_after, by_place, apart_after, named-here}

module _ (words : List ℕ) (views : List PassView) (kept : KeptPass words views) (i : ℕ) (v : PassView) (at : At views i v) (call : PhaseCall) where
  abbrev pub made : LogEntry Name
  made = entry v.own.name call (phase kept.log)

  abbrev pub longer : Log
  longer = kept.log ++ made ∷ []

  abbrev pub caller_now : PassView
  caller_now = record v { own = record v.own { calls = v.own.calls ++ made ∷ [] }; seen = longer }

  stems : (c : HandleCaller) → Has caller_now c → Stems v c
  stems c (zero, h) = let e = some-injective caller_now.own c h in let s : v.own.splits ≡ c.splits = ap (λ (z : HandleCaller). z.splits) e in
      record { from = v.own; has = has_own v; name = ap (λ (z : HandleCaller). z.name) e; splits = omega arith }
  stems c (suc a, h) = record { from = c; has = (suc a, h); name = refl; splits = le_refl _ }

  still : (c : HandleCaller) → c.name ≢ v.own.name → calls_by c.name kept.log ≡ c.calls → calls_by c.name longer ≡ c.calls
  still c ne h = calls_by-other c.name kept.log made (λ e. ne (sym e)) ∙ h

  whole : (c : HandleCaller) → Has caller_now c → calls_by c.name longer ≡ c.calls
  whole c (zero, h) =
      let P : HandleCaller → Type 0 = λ z. calls_by z.name longer ≡ z.calls in
      subst P (some-injective caller_now.own c h) (calls_by-own v.own.name kept.log made refl ∙ ap (λ (z : Log). z ++ made ∷ []) ((kept.fits i v at).calls v.own (has_own v)))
  whole c (suc a, h) = still c (met_apart words views kept i v at a c h) ((kept.fits i v at).calls c (suc a, h))

  fits_here : FitsLog longer caller_now
  fits_here = record {
    seen = begins_refl longer;
    heard = begins_more v.heard kept.log (made ∷ []) (kept.fits i v at).heard;
    calls = whole;
    held = λ c h. inl (whole c h);
  }

  fits_there : (j : ℕ) (u : PassView) → j ≢ i → At views j u → FitsLog longer u
  fits_there j u ne there = let f = kept.fits j u there in record {
    seen = begins_more u.seen kept.log (made ∷ []) f.seen;
    heard = begins_more u.heard kept.log (made ∷ []) f.heard;
    calls = λ c h. still c (others_apart words views kept i v at j u c ne there h) (f.calls c h);
    held = f.held;
  }

  in_longer : (c : HandleCaller) (m : ℕ) (e : LogEntry Name) → PassHas (set views i caller_now) c → get_elem? longer m ≡ some e → NameGoesOn c e.caller
  in_longer c m e hc he = ⊎_elim
      (λ (t : get_elem? kept.log m ≡ some e). old_log_after words views kept i v at caller_now stems c m e hc t)
      (λ (t : made ≡ e). let c' = stands_before words views kept i v at caller_now stems c hc in
      subst (λ (z : LogEntry Name). NameGoesOn c z.caller) t (goes_on_stem c'.0 c v.own.name c'.2 c'.3 (kept.among c'.0 v.own c'.1 (i, v, at, has_own v))))
      (at_snoc kept.log made e m he)

  pub kept_after : (words' : List ℕ) → words' ≡ code (after call (phase kept.log)) ∷ [] → KeptPass words' (set views i caller_now)
  kept_after words' is = record {
    log = longer;
    legal = legal_push kept.log made kept.legal refl;
    word = is ∙ ap (λ (p : Phase). code p ∷ []) (sym (phase_from-append Running kept.log (made ∷ [])));
    fits = by_place words views kept i v at caller_now stems (λ j u. FitsLog longer u) fits_here fits_there;
    apart = apart_after words views kept i v at caller_now stems (λ n. refl);
    among = among_after words views kept i v at caller_now stems;
    in_log = in_longer;
    first = by_place words views kept i v at caller_now stems (λ j u. IsFirst u → u.seen ≡ longer) (λ f. refl) (λ j u ne there f. absurd (sole words views kept i v at j u ne there f));
  }

  pub calls_after : Calls call v (phase kept.log) caller_now
  unfolding kept_after
  calls_after = let f = (kept.fits i v at).seen in let finds : phase kept.log ≡ phase (v.seen ++ f.0) = ap phase f.1 in record {
    between = f.0;
    seen = ap (λ (z : Log). z ++ made ∷ []) f.1;
    finds = finds;
    leaves = phase_from-append Running kept.log (made ∷ []);
    rises = subst (λ (p : Phase). code (phase v.seen) ≤ code p) (sym (finds ∙ phase_from-append Running v.seen f.0)) (phase_from_rises (phase v.seen) f.0);
    stays = subst (λ (p : Phase). code (phase kept.log) ≤ code p) (sym (phase_from-append Running kept.log (made ∷ []))) (phase_from_rises (phase kept.log) (made ∷ []));
    own = refl;
    same = (refl, refl, refl);
    knows = record {
      legal = legal_push kept.log made kept.legal refl;
      whole = whole;
      below = λ c m e h. in_longer c m e (i, caller_now, (at_written views i v caller_now at.0, at.1), h);
      apart = named-here words views kept i v at;
    };
    alone = λ t. let h : v.seen ≡ kept.log = kept.first i v at t in (ap phase (sym h), ap (λ (z : Log). z ++ made ∷ []) (sym h));
  }

-- what the step of each of the four calls asks of the table
pub call_keeps : (call : PhaseCall) (f : ℕ → ℕ) → ((p : Phase) → f (code p) ≡ code (after call p)) → (slots i : ℕ) (m : Me ℕ PassView) → m.0.spent ≡ false
    → Allows {S = ℕ} {V = PassView} (λ s. KeptPass s.words s.views) slots i m 0 f (Called call m)
call_keeps call f computes slots i m alive s kept len there small =
    let at : At s.views i m.0 = (there, alive) in
    let w = caller_now s.words s.views kept i m.0 at call in
    let P : List ℕ → Type 0 = λ ws. KeptPass (set ws 0 (f (slice_index ws 0))) (set s.views i w) × Calls call m.0 (phase_of_code (slice_index ws 0)) w in
    let Q : Phase → Type 0 = λ p. Calls call m.0 p w in
    let done : P s.words = subst P (sym kept.word) (
      kept_after s.words s.views kept i m.0 at call _ (ap (λ (n : ℕ). n ∷ []) (computes (phase kept.log))),
      subst Q (sym (phase_of_code-code (phase kept.log))) (calls_after s.words s.views kept i m.0 at call),
    ) in (w, keeps, tt, done.0, (refl, done.1))

pub abort_computes : (p : Phase) → max (code p) 1 ≡ code (after Abort p)
abort_computes Running = refl
abort_computes AbortRequested = refl
abort_computes Complete = refl

pub finish_computes : (p : Phase) → max (code p) 2 ≡ code (after Finish p)
finish_computes Running = refl
finish_computes AbortRequested = refl
finish_computes Complete = refl
