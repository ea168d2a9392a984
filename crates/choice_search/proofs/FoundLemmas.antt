-- What the run that was made says.
use Rattle.choice_offers.specs.Choices.{chosen_of}
use Rattle.choice_run.specs.Chosen.{EndsAs, StopsOpen}
use Rattle.choice_run.specs.declared.run.ChosenReport.{ChosenReport}
use Rattle.choice_search.proofs.GoneLemmas.{over_reports, over_wrong}
use Rattle.choice_search.proofs.LimitLemmas.{out_uses_up, reports_by, short_by, wrong_by}
use Rattle.choice_search.proofs.WayLemmas.{hosts_answer}
use Rattle.choice_search.specs.Searched.{AnswerAs, IsFound, is_cut, is_of, with_hosts}
use Rattle.choice_search.specs.Searching.{IsAsked, IsBranch, IsGone, IsSought, Open, Over, at_way, def_at}
use Rattle.choice_search.specs.Ways.{hosts_at}
use Rattle.choice_search.specs.declared.kinds.Kinds.{Kinds}
use Rattle.choice_search.specs.declared.search.Asked.{Asked}
use Rattle.choice_search.specs.declared.search.Branch.{Branch}
use Rattle.choice_search.specs.declared.search.Found.{Found}
use Rattle.laws_choices.specs.ChoiceAnswers.{ComesTo, Reports, Short, Wrong}
use Rattle.laws_choices.specs.Offer.{Chosen}
use Rattle.machine_data.specs.declared.component.HostDef.{HostDef}
use Rattle.machine_data.specs.declared.label.Label.{Label}
use Rattle.machine_data.specs.declared.outcome.Outcome.TheVariants as outcomes
use Rattle.machine_data.specs.declared.outcome.Outcome.{Outcome}
use Rattle.machine_data.specs.declared.scenario.ScenarioDef.{ScenarioDef}
use Rattle.machine_rules.specs.Outcome.{IsOutcome}
use Rattle.machine_rules.specs.Run.{opens}
use Rattle.machine_rules.specs.Stalled.{setting_of}
use Rattle.std.proofs.Common.{ap, arith, inl, inr, refl, subst, sym, ◌∙◌}
use Rattle.std.specs.Prelude.{Bool, List, [], false, length, map, min, true, ℕ, ◌++◌, ◌-◌, ◌<◌, ◌∷◌, ◌≡◌, ◌≢◌, ◌≤◌, ◌⊎◌}
use Rattle.task_run.specs.Headline.{machine_scenario}
use Rattle.task_run.specs.declared.scenario.Scenario.{Scenario}

both_ways : (b : Bool) → b ≡ false → b ≡ true → ⊥
both_ways b off on = absurd (cc)

-- what is looked for isn't cut off
wanted_uncut : (k : Kinds) (o : Outcome) → is_of k o ≡ true → o ≢ outcomes.OutOfSteps
wanted_uncut k o wanted is = both_ways (is_of k o) (ap (λ (p : Outcome). is_of k p) is) wanted

other_uncut : (o : Outcome) → is_cut o ≡ false → o ≢ outcomes.OutOfSteps
other_uncut o not is = both_ways (is_cut o) not (ap (λ (p : Outcome). is_cut p) is)

cut_is_out : (o : Outcome) → is_cut o ≡ true → o ≡ outcomes.OutOfSteps
cut_is_out outcomes.OutOfSteps cut = refl
cut_is_out (outcomes.Done v) cut = absurd (cc)
cut_is_out (outcomes.Trap t) cut = absurd (cc)
cut_is_out (outcomes.HostFailed i) cut = absurd (cc)
cut_is_out (outcomes.Deadlock t) cut = absurd (cc)
cut_is_out outcomes.Idle cut = absurd (cc)

module _ (x : Scenario) (a : Asked) (w steps left : ℕ) (limit : steps ≡ min a.steps left) (cs : List Chosen) where
  fewer : steps ≤ a.steps
  fewer = omega (arith, limit)

  module _ (ls : List Label) (o : Outcome) (n : ℕ) (h : ComesTo (setting_of (def_at x a w)) (opens (def_at x a w)) steps cs (Reports ls o n)) where
    -- no more labels were made than may be
    pub few_labels : length ls ≤ left
    few_labels = let same : length h.labels ≡ length ls = ap (λ (ks : List Label). length ks) h.has_come.0 in let within = h.within in omega (arith, limit, same, within)

    -- a run that was cut off has used up what was left
    pub none_left : (steps < a.steps) → is_cut o ≡ true → left - length ls ≡ 0
    none_left less cut =
        let out = out_uses_up (setting_of (def_at x a w)) h.last h.labels steps (subst (λ (p : Outcome). IsOutcome (setting_of (def_at x a w)) h.last h.labels steps p) (cut_is_out o cut) h.has_come.1.0) in
        let same : length h.labels ≡ length ls = ap (λ (ks : List Label). length ks) h.has_come.0 in
        omega (arith, limit, less, out, same)

    whole : o ≢ outcomes.OutOfSteps → ComesTo (setting_of (def_at x a w)) (opens (def_at x a w)) a.steps cs (Reports ls o n)
    whole other = reports_by (setting_of (def_at x a w)) (opens (def_at x a w)) steps a.steps cs fewer ls o n other h

    same_steps : (steps < a.steps → ⊥) → steps ≡ a.steps
    same_steps not = let most : a.steps ≤ steps = omega (arith, not) in let few = fewer in omega (arith, most, few)

    pub whole_run : (steps < a.steps → is_cut o ≡ false) → ComesTo (setting_of (def_at x a w)) (opens (def_at x a w)) a.steps cs (Reports ls o n)
    whole_run uncut = by (is_cut o) refl
      where
        by : (b : Bool) → is_cut o ≡ b → ComesTo (setting_of (def_at x a w)) (opens (def_at x a w)) a.steps cs (Reports ls o n)
        by false e = whole (other_uncut o e)
        by true e = subst (λ (k : ℕ). ComesTo (setting_of (def_at x a w)) (opens (def_at x a w)) k cs (Reports ls o n)) (same_steps (λ less. both_ways (is_cut o) (uncut less) e)) h

    -- the run is looked for
    pub found : (f : Found) → f.hosts ≡ hosts_at a.polls x.component.hosts w → map chosen_of f.choices.items ≡ cs → f.report.trace.labels ≡ ls → f.report.outcome ≡ o → f.report.used ≡ n → is_of a.kinds o ≡ true →
        IsFound (machine_scenario x) a.steps a.polls a.kinds f
    found f hosts choices trace outcome used wanted = record {
      hosts = subst (λ (hs : List HostDef). AnswerAs a.polls x.component.hosts hs) (sym hosts) (hosts_answer a.polls x.component.hosts w);
      comes =
          subst (λ (hs : List HostDef). ComesTo (setting_of (with_hosts hs (machine_scenario x))) (opens (with_hosts hs (machine_scenario x))) a.steps (map chosen_of f.choices.items) (Reports f.report.trace.labels f.report.outcome f.report.used)) (sym hosts)
          (subst (λ (ds : List Chosen). ComesTo (setting_of (def_at x a w)) (opens (def_at x a w)) a.steps ds (Reports f.report.trace.labels f.report.outcome f.report.used)) (sym choices)
          (subst (λ (ks : List Label). ComesTo (setting_of (def_at x a w)) (opens (def_at x a w)) a.steps cs (Reports ks f.report.outcome f.report.used)) (sym trace)
          (subst (λ (p : Outcome). ComesTo (setting_of (def_at x a w)) (opens (def_at x a w)) a.steps cs (Reports ls p f.report.used)) (sym outcome)
          (subst (λ (u : ℕ). ComesTo (setting_of (def_at x a w)) (opens (def_at x a w)) a.steps cs (Reports ls o u)) (sym used) (whole (wanted_uncut a.kinds o wanted))))));
      wanted = ap (λ (p : Outcome). is_of a.kinds p) outcome ∙ wanted;
    }

    -- the run isn't, nor one that goes on from its choices
    pub gone_over : IsAsked x a → (steps < a.steps → is_cut o ≡ false) → is_of a.kinds o ≡ false → (bs : List Branch) → IsGone x a bs w cs bs
    gone_over ok uncut other bs = Over refl (over_reports x a ok w cs ls o n (whole_run uncut) other)

  pub gone_wrong : IsAsked x a → (k : ℕ) → ComesTo (setting_of (def_at x a w)) (opens (def_at x a w)) steps cs (Wrong k) → (bs : List Branch) → IsGone x a bs w cs bs
  gone_wrong ok k h bs = Over refl (over_wrong x a ok w cs k (wrong_by (setting_of (def_at x a w)) (opens (def_at x a w)) steps a.steps cs fewer k h))

  pub gone_open : (b : Branch) → b.way ≡ w → map chosen_of b.choices.items ≡ cs → (k : ℕ) → StopsOpen (def_at x a w) steps cs k b.offer → (bs : List Branch) → IsGone x a bs w cs (bs ++ b ∷ [])
  gone_open b way are k h bs = Open b refl way are (record { labels = k; stops = subst (λ (v : ℕ). StopsOpen (def_at x a v) a.steps (map chosen_of b.choices.items) k b.offer) (sym way) (subst (λ (ds : List Chosen). StopsOpen (def_at x a w) a.steps ds k b.offer) (sym are) whole) })
    where
      whole : StopsOpen (def_at x a w) a.steps cs k b.offer
      whole = record { comes = short_by (setting_of (def_at x a w)) (opens (def_at x a w)) steps a.steps cs fewer k h.comes; waiters = h.waiters; members = h.members; permuted = h.permuted }
