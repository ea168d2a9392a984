-- The two steps of a meet keep the rule.
use Rattle.std.proofs.Common.{◌≡◌, ℕ, suc, ◌+◌, ◌≤◌, ◌≢◌, ◌⊎◌, false, List, [], ◌∷◌, ◌++◌, length, set, slice_index, sum_by, refl, sym, ap, subst, ◌∙◌, inl, inr, ⊎_elim, le_refl, true≢false, arith}
use Rattle.std.proofs.lemmas.List.Sums.{sum_by-append}
use mathlib.Core.Option.{some}
use lib.ListN.{get_elem?}
use Rattle.atomic_table.specs.Table.{Me, keeps, Allows}
use Rattle.atomic_table.proofs.Lists.{at_set, at_longer, set_else}
use Rattle.machine_data.specs.declared.statuses.Phase.{Phase}
use Rattle.machine_data.specs.declared.statuses.Phase.TheVariants.{Running}
use Rattle.task_abort.specs.declared.log.HandleCaller.{HandleCaller}
use Rattle.task_abort.specs.declared.log.PassView.{PassView}
use Rattle.task_abort.specs.PhaseLog.{code, phase, IsLegal, Name, Log, calls_by, LogBegins, callers, IsFirst, joined, spent_view}
use Rattle.task_abort.specs.Rule.{named, named_at, At, Has, PassHas, FitsLog, KeptPass, Knows, Longer, Settles, Settled, Meets}
use Rattle.task_abort.proofs.LogLemmas.{phase_from_rises, phase_from-append, legal_cut, begins_refl, begins_both, begins_same, calls_by-between}
use Rattle.task_abort.proofs.CallerLemmas.{Stems, at_either, counts, sum_by-written, named_at-alive, among_after, old_log_after, by_place, apart_after, named-here}

module _ (words : List ℕ) (views : List PassView) (kept : KeptPass words views) (i o : ℕ) (v w : PassView) (at : At views i v) (there : At views o w) (other : o ≢ i) (kv : Knows v) (kw : Knows w) where
  abbrev both : PassView
  both = joined v w

  abbrev first_step : List PassView
  first_step = set views i both

  abbrev met : List PassView
  met = set first_step o spent_view

  either : (P : HandleCaller → Type 0) → ((c : HandleCaller) → Has v c → P c) → ((c : HandleCaller) → Has w c → P c) → (c : HandleCaller) → Has both c → P c
  either P mine theirs c h = ⊎_elim (λ (t : get_elem? (callers v) h.0 ≡ some c). mine c (h.0, t)) (λ (t : (j : ℕ) × (get_elem? (callers w) j ≡ some c)). theirs c t) (at_either (callers v) (callers w) h.0 c h.1)

  by_meet : (P : ℕ → PassView → Type 0) → P i both → ((j : ℕ) (u : PassView) → At views j u → P j u) → (j : ℕ) (u : PassView) → At met j u → P j u
  by_meet P here elsewhere j u h = ⊎_elim
      (λ (t : (j ≡ o) × (spent_view ≡ u)). absurd (true≢false (ap (λ (z : PassView). z.spent) t.1 ∙ h.1)))
      (λ (t : (j ≢ o) × (get_elem? first_step j ≡ some u)). ⊎_elim
      (λ (s : (j ≡ i) × (both ≡ u)). subst (λ (z : ℕ). P z u) (sym s.0) (subst (λ (z : PassView). P i z) s.1 here))
      (λ (s : (j ≢ i) × (get_elem? views j ≡ some u)). elsewhere j u (s.1, h.1))
      (at_set views i j both u t.1))
      (at_set first_step o j spent_view u h.0)

  stood : (c : HandleCaller) → PassHas met c → PassHas views c
  stood c h = by_meet (λ j u. Has u c → PassHas views c) (either (PassHas views) (λ c g. (i, v, at, g)) (λ c g. (o, w, there, g)) c) (λ j u before g. (j, u, before, g)) h.0 h.1 h.2 h.3

  fits_both : FitsLog kept.log both
  fits_both = let f = kept.fits i v at in let g = kept.fits o w there in record {
    seen = f.seen;
    heard = g.seen;
    calls = either (λ c. calls_by c.name kept.log ≡ c.calls) f.calls g.calls;
    held = either (λ c. (calls_by c.name v.seen ≡ c.calls) ⊎ (calls_by c.name w.seen ≡ c.calls)) (λ c h. inl (kv.whole c h)) (λ c h. inr (kw.whole c h));
  }

  apart_met : (n : Name) → sum_by (named_at n) met ≤ 1
  apart_met n =
      let e : named_at n both ≡ named n (callers v) + named n (callers w) = named_at-alive n both at.1 ∙ sum_by-append (counts n) (callers v) (callers w) in
      let one = sum_by-written (named_at n) views i v both at.0 in
      let two = sum_by-written (named_at n) first_step o w spent_view (set_else views i o both other ∙ there.0) in
      let l = kept.apart n in omega (arith, named_at-alive n v at.1, named_at-alive n w there.1)

  pub kept_met : KeptPass words met
  kept_met = record {
    log = kept.log;
    legal = kept.legal;
    word = kept.word;
    fits = by_meet (λ j u. FitsLog kept.log u) fits_both kept.fits;
    apart = apart_met;
    among = λ c d hc hd. kept.among c d (stood c hc) (stood d hd);
    in_log = λ c m e hc he. kept.in_log c m e (stood c hc) he;
    first = by_meet (λ j u. IsFirst u → u.seen ≡ kept.log) (kept.first i v at) kept.first;
  }

pub join_keeps : (words : List ℕ) (views : List PassView) → KeptPass words views → (i o : ℕ) (v w : PassView) → At views i v → w.spent ≡ false → o ≢ i → get_elem? (set views i (joined v w)) o ≡ some w → Knows v → Knows w
    → KeptPass words (set (set views i (joined v w)) o spent_view)
join_keeps words views kept i o v w at alive other h kv kw = kept_met words views kept i o v w at (sym (set_else views i o (joined v w) other) ∙ h, alive) other kv kw

module _ (words : List ℕ) (views : List PassView) (kept : KeptPass words views) (i : ℕ) (v : PassView) (at : At views i v) (log : Log) (begins : LogBegins log kept.log) (longer : Longer v.seen v.heard log) where
  abbrev pub settled : PassView
  settled = record v { seen = log; heard = [] }

  stems : (c : HandleCaller) → Has settled c → Stems v c
  stems c h = record { from = c; has = h; name = refl; splits = le_refl _ }

  seen_before : LogBegins v.seen log
  seen_before = ⊎_elim (λ (t : (log ≡ v.seen) × LogBegins v.heard log). subst (LogBegins v.seen) (sym t.0) (begins_refl v.seen)) (λ (t : (log ≡ v.heard) × LogBegins v.seen log). t.1) longer

  heard_before : LogBegins v.heard log
  heard_before = ⊎_elim (λ (t : (log ≡ v.seen) × LogBegins v.heard log). t.1) (λ (t : (log ≡ v.heard) × LogBegins v.seen log). subst (LogBegins v.heard) (sym t.0) (begins_refl v.heard)) longer

  whole : (c : HandleCaller) → Has settled c → calls_by c.name log ≡ c.calls
  whole c h = ⊎_elim (from v.seen seen_before) (from v.heard heard_before) ((kept.fits i v at).held c h)
    where
      from : (xs : Log) → LogBegins xs log → calls_by c.name xs ≡ c.calls → calls_by c.name log ≡ c.calls
      from xs before e = calls_by-between c.name xs log kept.log before begins (e ∙ sym ((kept.fits i v at).calls c h)) ∙ e

  fits_settled : FitsLog kept.log settled
  fits_settled = record { seen = begins; heard = (kept.log, refl); calls = (kept.fits i v at).calls; held = λ c h. inl (whole c h) }

  pub kept_settled : KeptPass words (set views i settled)
  kept_settled = record {
    log = kept.log;
    legal = kept.legal;
    word = kept.word;
    fits = by_place words views kept i v at settled stems (λ j u. FitsLog kept.log u) fits_settled (λ j u ne there. kept.fits j u there);
    apart = apart_after words views kept i v at settled stems (λ n. refl);
    among = among_after words views kept i v at settled stems;
    in_log = old_log_after words views kept i v at settled stems;
    first = by_place words views kept i v at settled stems (λ j u. IsFirst u → u.seen ≡ kept.log)
        (λ f. begins_same log kept.log begins (subst (λ (z : Log). LogBegins z log) (kept.first i v at f) seen_before)) (λ j u ne there. kept.first j u there);
  }

  pub settles : Settles v settled
  settles = record {
    longer = longer;
    same = (refl, refl, refl);
    settled = refl;
    knows = record {
      legal = (legal_cut Running log begins.0 (subst IsLegal begins.1 kept.legal)).0;
      whole = whole;
      below = λ c m e h g. kept.in_log c m e (i, v, at, h) (subst (λ (z : Log). get_elem? z m ≡ some e) (sym begins.1) (at_longer log begins.0 m e g));
      apart = named-here words views kept i v at;
    };
  }

-- what the second step asks of the table
pub settle_keeps : (slots i : ℕ) (m : Me ℕ PassView) → m.0.spent ≡ false → Allows {S = ℕ} {V = PassView} (λ s. KeptPass s.words s.views) slots i m 0 (λ n. n) (λ n. Settled m)
settle_keeps slots i m alive s kept len there small =
    let at : At s.views i m.0 = (there, alive) in
    let P : List ℕ → Type 0 = λ ws. ws ≡ set ws 0 (slice_index ws 0) in
    let same : s.words ≡ set s.words 0 (slice_index s.words 0) = subst P (sym kept.word) refl in
    let f = kept.fits i m.0 at in
    let R : Type 0 = (w : PassView) × KeptPass s.words (set s.views i w) × Settles m.0 w in
    let To : Type 0 = (log : Log) → LogBegins log kept.log → Longer m.0.seen m.0.heard log → R in
    let to : To = λ log b l. (settled s.words s.views kept i m.0 at log b l, kept_settled s.words s.views kept i m.0 at log b l, settles s.words s.views kept i m.0 at log b l) in
    let done : R = ⊎_elim (λ (t : LogBegins m.0.seen m.0.heard). to m.0.heard f.heard (inr (refl, t))) (λ (t : LogBegins m.0.heard m.0.seen). to m.0.seen f.seen (inl (refl, t))) (begins_both kept.log m.0.seen m.0.heard f.seen f.heard) in
    (done.0, keeps, tt, subst (λ (ws : List ℕ). KeptPass ws (set s.views i done.0)) same done.1, (refl, done.2))

at_length : {A : Type 0} (xs ys : List A) (y : A) → get_elem? (xs ++ y ∷ ys) (length xs) ≡ some y
at_length [] ys y = refl
at_length (x ∷ xs) ys y = at_length xs ys y

-- the two steps together
pub meets : (v o w : PassView) → Settles (joined v o) w → Meets v o w
meets v o w h = record {
  longer = h.longer;
  first = first;
  second = ⊎_elim (λ (t : (w.seen ≡ v.seen) × LogBegins o.seen w.seen). t.1) (λ (t : (w.seen ≡ o.seen) × LogBegins v.seen w.seen). subst (LogBegins o.seen) (sym t.0) (begins_refl o.seen)) h.longer;
  rises = subst (λ (p : Phase). code (phase v.seen) ≤ code p) (sym (ap phase first.1 ∙ phase_from-append Running v.seen first.0)) (phase_from_rises (phase v.seen) first.0);
  theirs = h.knows.whole o.own (suc (length v.met), subst (λ (z : List HandleCaller). get_elem? z (length v.met) ≡ some o.own) (sym h.same.1) (at_length v.met o.met o.own));
  own = h.same.0;
  met = h.same.1;
  knows = h.knows;
}
  where
    first : LogBegins v.seen w.seen
    first = ⊎_elim (λ (t : (w.seen ≡ v.seen) × LogBegins o.seen w.seen). subst (LogBegins v.seen) (sym t.0) (begins_refl v.seen)) (λ (t : (w.seen ≡ o.seen) × LogBegins v.seen w.seen). t.1) h.longer
