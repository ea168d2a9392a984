-- Each way in which hosts answer has a number, and each number is such a way.
use Rattle.choice_search.proofs.NumberLemmas.{below_both, digits}
use Rattle.choice_search.specs.Searched.{AnswerAs, AnswersAs, EachIsAWay, IsWay}
use Rattle.choice_search.specs.Ways.{host_ways, hosts_at, times, with_polls}
use Rattle.machine_data.specs.declared.component.HostDef.TheVariants as host_def
use Rattle.machine_data.specs.declared.component.HostDef.{HostDef}
use Rattle.std.proofs.Common.{ap, arith, refl, subst, sym, ◌∙◌}
use Rattle.std.proofs.Math.Nat.{mod-lt}
use Rattle.std.specs.Prelude.{List, None, Option, Some, [], ℕ, ◌%◌, ◌*◌, ◌+◌, ◌/◌, ◌<◌, ◌∷◌, ◌≡◌, ◌≤◌}

some_times : (polls : Option ℕ) (d : HostDef) → 0 < times polls d
some_times None d = omega arith
some_times (Some m) (host_def.Settled None v) = omega arith
some_times (Some m) (host_def.Settled (Some n) v) = omega arith
some_times (Some m) host_def.Open = omega arith

-- a host with fewer polls than that answers as the host
one_answers : (polls : Option ℕ) (d : HostDef) (k : ℕ) → k < times polls d → AnswersAs polls d (with_polls polls d k)
one_answers None d k below = refl
one_answers (Some m) (host_def.Settled None v) k below = refl
one_answers (Some m) (host_def.Settled (Some n) v) k below = (k, (omega (arith, below), refl))
one_answers (Some m) host_def.Open k below = refl

pub hosts_answer : (polls : Option ℕ) (ds : List HostDef) (k : ℕ) → AnswerAs polls ds (hosts_at polls ds k)
hosts_answer polls [] k = refl
hosts_answer polls (d ∷ ds) k =
    (with_polls polls d (k % times polls d), (hosts_at polls ds (k / times polls d), (refl, (one_answers polls d (k % times polls d) (mod-lt k (some_times polls d)), hosts_answer polls ds (k / times polls d)))))

-- by which number of polls it does
one_number : (polls : Option ℕ) (d h : HostDef) → AnswersAs polls d h → (k : ℕ) × ((k < times polls d) × (with_polls polls d k ≡ h))
one_number None d h is = (0, (omega arith, sym is))
one_number (Some m) (host_def.Settled None v) h is = (0, (omega arith, sym is))
one_number (Some m) (host_def.Settled (Some n) v) h is = (is.0, (let few = is.1.0 in omega (arith, few), sym is.1.1))
one_number (Some m) host_def.Open h is = (0, (omega arith, sym is))

pub way_number : (polls : Option ℕ) (ds hs : List HostDef) → AnswerAs polls ds hs → IsWay polls ds hs
way_number polls [] hs is = record { number = 0; below = omega arith; is = sym is }
way_number polls (d ∷ ds) hs is =
    let rest = way_number polls ds is.1.0 is.1.1.1.1 in
    let one = one_number polls d is.0 is.1.1.1.0 in
    let two = digits rest.number (times polls d) one.0 one.1.0 in
    record {
      number = rest.number * times polls d + one.0;
      below = below_both rest.number one.0 (host_ways polls ds) (times polls d) rest.below one.1.0;
      is =
          ap (λ (k : ℕ). with_polls polls d k ∷ hosts_at polls ds ((rest.number * times polls d + one.0) / times polls d)) two.0
          ∙ (ap (λ (k : ℕ). with_polls polls d one.0 ∷ hosts_at polls ds k) two.1
          ∙ (ap (λ (h : HostDef). h ∷ hosts_at polls ds rest.number) one.1.1 ∙ (ap (λ (ks : List HostDef). is.0 ∷ ks) rest.is ∙ sym is.1.1.0)));
    }

pub each_is_a_way : EachIsAWay
unfolding EachIsAWay
each_is_a_way polls ds hs = (way_number polls ds hs, λ w. subst (λ (ks : List HostDef). AnswerAs polls ds ks) w.is (hosts_answer polls ds w.number))
