-- What the cells list goes on as the run's calls do.
use Rattle.beside_main.proofs.CallLemmas.{adds_as, adds_none, called_then}
use Rattle.beside_main.specs.Calls.{Adds, AreCalled, Follows, IsEarly, calls_in}
use Rattle.beside_works.specs.declared.cells.SharedSpawn.{SharedSpawn}
use Rattle.laws_beside.specs.Courses.{Own, heard_in, polled_label, with_poll, with_run, with_step}
use Rattle.laws_beside.specs.Own.{calls_at_pends, calls_from, calls_of_label, if_same, is_before, number_of}
use Rattle.laws_beside.specs.Wide.{Due, Going, Made, Never, Round}
use Rattle.machine_data.specs.Core.{Main, MainPlace, Scripted, State, Unscripted}
use Rattle.machine_data.specs.declared.label.Label.{Label}
use Rattle.machine_data.specs.declared.label.Label.TheVariants as label
use Rattle.machine_data.specs.declared.label.LoopLabel.{LoopLabel}
use Rattle.machine_data.specs.declared.label.LoopLabel.TheVariants as loop_label
use Rattle.machine_rules.specs.Stalled.{Setting}
use Rattle.std.proofs.Common.{ap, arith, length, length-append, refl, subst, sym, ◌∙◌}
use Rattle.std.proofs.lemmas.List.{append-nil}
use Rattle.std.specs.Prelude.{Bool, List, [], false, if◌then◌else◌, true, ℕ, ◌++◌, ◌+◌, ◌∷◌, ◌≡◌}
use Rattle.task_abort.specs.declared.log.PhaseCall.{PhaseCall}

pub follows_same : (r : Round) (own : Own) (olds news : List SharedSpawn) → Adds (λ k. []) 1 olds news → Follows r own own olds news
follows_same r own olds news adds = record {
  called = λ called. nothing_more 1 olds news called adds;
  early = λ before early. early;
  late = λ past k. refl;
}
  where
    nothing_more : (k : ℕ) (xs ys : List SharedSpawn) → AreCalled own.calls k xs → Adds (λ j. []) k xs ys → AreCalled own.calls k ys
    nothing_more k [] [] called adds = tt
    nothing_more k [] (y ∷ ys) called adds = absurd adds
    nothing_more k (x ∷ xs) [] called adds = absurd adds
    nothing_more k (x ∷ xs) (y ∷ ys) called adds = (adds.0 ∙ (append-nil (calls_in x) ∙ called.0), nothing_more (k + 1) xs ys called.1 adds.1)

pub follows_then : (r : Round) (own mid after : Own) (olds mids news : List SharedSpawn) → Follows r own mid olds mids → Follows r mid after mids news → Follows r own after olds news
follows_then r own mid after olds mids news p q = record {
  called = λ called. q.called (p.called called);
  early = λ before early. q.early before (p.early before early);
  late = λ past k. q.late past k ∙ p.late past k;
}

pub follows_step : (x : Setting) (r : Round) (s : State) (l : Label) (own : Own) (olds news : List SharedSpawn) → Adds (λ k. calls_from x k s l) 1 olds news →
    Follows r own (with_step x r s l own) olds news
follows_step x r s l own olds news adds = record {
  called = λ called. called_then own.calls (λ k. calls_from x k s l) 1 olds news called adds;
  early = λ before early k. by k (is_before r) before (early k);
  late = λ past k. ap (λ (b : Bool). own.early k + (if b then length (calls_from x k s l) else 0)) past ∙ omega arith;
}
  where
    by : (k : ℕ) (b : Bool) → b ≡ true → own.early k ≡ length (own.calls k) → own.early k + (if b then length (calls_from x k s l) else 0) ≡ length (own.calls k ++ calls_from x k s l)
    by k true before early = let long = length-append (own.calls k) (calls_from x k s l) in omega (arith, early, long)
    by k false before early = absurd (cc)

-- in the last round no call is early
pub follows_poll : (x : Setting) (s : State) (l : Label) (own : Own) (olds news : List SharedSpawn) → Adds (λ k. calls_from x k s l) 1 olds news → Follows Made own (with_poll x s l own) olds news
follows_poll x s l own olds news adds = record {
  called = λ called. called_then own.calls (λ k. calls_from x k s l) 1 olds news called adds;
  early = λ before early. absurd (cc);
  late = λ past k. refl;
}

-- ---- The idle line has no part in the calls

loop_heard : (r : Round) (x : Setting) (k i : ℕ) (m : Main) (l : LoopLabel) → calls_of_label (heard_in r x) k i m (label.Loop l) ≡ calls_of_label x k i m (label.Loop l)
loop_heard Never x k i m l = refl
loop_heard Due x k i (Scripted p) loop_label.MainPends = refl
loop_heard Due x k i Unscripted loop_label.MainPends = refl
loop_heard Due x k i m l = refl
loop_heard (Going n found) x k i m l = refl
loop_heard Made x k i m l = refl

label_heard : (r : Round) (x : Setting) (k i : ℕ) (m : Main) (l : Label) → calls_of_label (heard_in r x) k i m l ≡ calls_of_label x k i m l
label_heard r x k i m (label.Loop l) = loop_heard r x k i m l
label_heard r x k i m l = refl

pub calls_heard : (r : Round) (x : Setting) (k : ℕ) (s : State) (l : Label) → calls_from (heard_in r x) k s l ≡ calls_from x k s l
calls_heard r x k s l = label_heard r x k (number_of k s.main) s.main l

pub adds_heard : (r : Round) (x y : Setting) (s : State) (l : Label) (olds news : List SharedSpawn) → y ≡ heard_in r x → Adds (λ k. calls_from y k s l) 1 olds news → Adds (λ k. calls_from x k s l) 1 olds news
adds_heard r x y s l olds news heard adds =
    adds_as (λ k. calls_from y k s l) (λ k. calls_from x k s l) 1 olds news (λ j le. ap (λ (z : Setting). calls_from z j s l) heard ∙ calls_heard r x j s l) adds
