-- The rule holds of a new cell.
use Rattle.std.proofs.Common.{◌≡◌, [], ◌∷◌, refl, sym, ap, subst, inl, arith}
use Rattle.std.proofs.lemmas.List.Sums.{sum_by-cons}
use Rattle.task_abort.specs.declared.log.HandleCaller.{HandleCaller}
use Rattle.task_abort.specs.declared.log.PassView.{PassView}
use Rattle.task_abort.specs.PhaseLog.{first_view}
use Rattle.task_abort.specs.Rule.{Has, PassHas, NameGoesOn, FitsLog, KeptPass, named_at}
use Rattle.task_abort.proofs.LogLemmas.{not_nil}
use Rattle.task_abort.proofs.CallerLemmas.{at_nothing, at_only, named-one}

only_own : (c : HandleCaller) → Has first_view c → first_view.own ≡ c
only_own c h = at_only first_view.own c h.0 h.1

only_first : (c : HandleCaller) → PassHas (first_view ∷ []) c → first_view.own ≡ c
only_first c h = only_own c (subst (λ (z : PassView). Has z c) (sym (at_only first_view h.1 h.0 h.2.0)) h.3)

goes_on_first : NameGoesOn first_view.own []
goes_on_first k rest h = absurd (not_nil [] k rest (sym h))

fits_first : FitsLog [] first_view
fits_first = record {
  seen = ([], refl);
  heard = ([], refl);
  calls = λ c h. ap (λ (z : HandleCaller). z.calls) (only_own c h);
  held = λ c h. inl (ap (λ (z : HandleCaller). z.calls) (only_own c h));
}

pub kept_first : KeptPass (0 ∷ []) (first_view ∷ [])
kept_first = record {
  log = [];
  legal = refl;
  word = refl;
  fits = λ i v at. subst (FitsLog []) (at_only first_view v i at.0) fits_first;
  apart = λ n. let l = named-one n first_view.own in omega (arith, sum_by-cons (named_at n) first_view []);
  among = λ c d hc hd. subst (λ (z : HandleCaller). NameGoesOn z d.name) (only_first c hc) (subst (λ (z : HandleCaller). NameGoesOn first_view.own z.name) (only_first d hd) goes_on_first);
  in_log = λ c m e hc h. absurd (at_nothing e m h);
  first = λ i v at f. ap (λ (z : PassView). z.seen) (sym (at_only first_view v i at.0));
}
