-- The lists of a spawn's cell are those of its pass, and so its log is legal.
use Rattle.std.proofs.Common.{◌≡◌, ℕ, None, Some, zero, suc, ◌+◌, ◌<◌, List, [], ◌∷◌, ◌++◌, ◌≤◌, length, map, refl, ap, sym, subst, ◌∙◌, arith}
use Rattle.std.proofs.Math.Seq.{set-append_seam}
use Rattle.std.proofs.lemmas.List.{append_assoc, length-map, map-append}
use Rattle.std.specs.Prelude.{slice_set}
use mathlib.Core.Option.{some}
use lib.ListN.{get_elem?}
use Rattle.beside_works.specs.Shared.{aborter_at, aborters_from, aborts_by, listed, phases_in}
use Rattle.beside_works.specs.Views.{HasMetEach, met_list, own_list, spawn_view}
use Rattle.beside_works.specs.declared.log.Found.{Found}
use Rattle.beside_works.specs.declared.cells.SharedSpawn.{SharedSpawn}
use Rattle.task_abort.proofs.KnownLemmas.{known}
use Rattle.task_abort.proofs.LogLemmas.{begins_more, begins_refl}
use Rattle.task_abort.proofs.StagedLemmas.{staged_legal}
use Rattle.task_abort.specs.PhaseLog.{LogBegins, IsLegal, Log, Name, callers, calls_by, entry}
use Rattle.task_abort.specs.Rule.{Calls, HasMetAll, Meets}
use Rattle.task_abort.specs.Cells.{TellsComplete}
use Rattle.task_abort.specs.Staged.{LastRound, Lists, OnlyAborted, made, staged, told}
use Rattle.task_abort.specs.declared.log.HandleCaller.{HandleCaller}
use Rattle.task_abort.specs.declared.log.CallMade.{CallMade}
use Rattle.task_abort.specs.declared.log.PhaseCall.{PhaseCall}
use Rattle.task_abort.specs.declared.log.PhaseCall.TheVariants.{Abort, PollHandle}
use Rattle.task_abort.specs.declared.log.PassView.{PassView}
use Rattle.machine_data.specs.declared.statuses.Phase.{Phase}
use Rattle.machine_data.specs.declared.statuses.Phase.TheVariants.{AbortRequested, Complete, Running}
use Rattle.futures.specs.declared.task.Poll.TheVariants.{Pending, Ready}

-- a pass more is the last one
pub aborters_snoc : (k : ℕ) (pss : List (List Phase)) (ps : List Phase) →
    aborters_from k (pss ++ ps ∷ []) ≡ aborters_from k pss ++ aborter_at (k + length pss) ps ∷ []
aborters_snoc k [] ps = ap (λ (n : ℕ). aborter_at n ps ∷ []) (omega arith)
aborters_snoc k (qs ∷ pss) ps =
    let more : (k + 1) + length pss ≡ k + length (qs ∷ pss) = omega arith in
    ap (λ cs. aborter_at k qs ∷ cs) (aborters_snoc (k + 1) pss ps ∙ ap (λ (n : ℕ). aborters_from (k + 1) pss ++ aborter_at n ps ∷ []) more)

pub phases_snoc : (fs : List Found) (f : Found) → phases_in (fs ++ f ∷ []) ≡ phases_in fs ++ f.found.items ∷ []
phases_snoc [] f = refl
phases_snoc (g ∷ fs) f = ap (λ pss. g.found.items ∷ pss) (phases_snoc fs f)

pub phases_length : (fs : List Found) → length (phases_in fs) ≡ length fs
phases_length [] = refl
phases_length (f ∷ fs) = ap suc (phases_length fs)

-- with one more that was met
pub met_snoc : (fs : List Found) (f : Found) →
    aborters_from 0 (phases_in (fs ++ f ∷ [])) ≡ aborters_from 0 (phases_in fs) ++ aborter_at (length fs) f.found.items ∷ []
met_snoc fs f =
    let here : 0 + length (phases_in fs) ≡ length fs = omega (arith, phases_length fs) in
    ap (λ (pss : List (List Phase)). aborters_from 0 pss) (phases_snoc fs f)
    ∙ (aborters_snoc 0 (phases_in fs) f.found.items
    ∙ ap (λ (n : ℕ). aborters_from 0 (phases_in fs) ++ aborter_at n f.found.items ∷ []) here)

-- each that was met is at its place
aborter_there : (j k : ℕ) (pss : List (List Phase)) → k < length pss → (ps : List Phase) × (get_elem? (aborters_from j pss) k ≡ some (aborter_at (j + k) ps))
aborter_there j k [] lt = absurd (omega arith)
aborter_there j zero (ps ∷ pss) lt = let same : j ≡ j + 0 = omega arith in (ps, ap (λ (n : ℕ). some (aborter_at n ps)) same)
aborter_there j (suc k) (ps ∷ pss) lt =
    let r = aborter_there (j + 1) k pss (omega arith) in
    let same : (j + 1) + k ≡ j + suc k = omega arith in
    (r.0, r.1 ∙ ap (λ (n : ℕ). some (aborter_at n r.0)) same)

pub all_met : (s : SharedSpawn) → HasMetEach s → HasMetAll (spawn_view s)
all_met s each = (s.first, there)
  where
    there : (k : ℕ) → k < (spawn_view s).own.splits →
        (c : HandleCaller) × ((a : ℕ) × (get_elem? (callers (spawn_view s)) a ≡ some c)) × (c.name ≡ k ∷ []) × (c.splits ≡ 0)
    there k lt =
        let few : k < length (phases_in s.met.items) = omega (arith, s.splits, each, phases_length s.met.items) in
        let r = aborter_there 0 k (phases_in s.met.items) few in
        let own : 0 + k ≡ k = omega arith in
        let at : get_elem? (aborters_from 0 (phases_in s.met.items)) k ≡ some (aborter_at k r.0) = r.1 ∙ ap (λ (n : ℕ). some (aborter_at n r.0)) own in
        (aborter_at k r.0, (suc k, subst (λ (cs : List HandleCaller). get_elem? cs k ≡ some (aborter_at k r.0)) (sym s.met_each) at), refl, refl)

only_aborted : (k : ℕ) (fs : List Found) → OnlyAborted (aborters_from k (phases_in fs)) (listed fs)
only_aborted k [] = tt
only_aborted k (f ∷ fs) = (refl, only_aborted (k + 1) fs)

pub lists_of : (s : SharedSpawn) → Lists (spawn_view s) (own_list s) (listed (met_list s))
lists_of s = record { own_calls = s.listed; aborts = subst (λ cs. OnlyAborted cs (listed s.met.items)) (sym s.met_each) (only_aborted 0 s.met.items) }

pub log_legal : (s : SharedSpawn) (n : ℕ) → HasMetEach s → LastRound (spawn_view s) n → IsLegal (staged (own_list s) (listed (met_list s)) n)
log_legal s n each round =
    let knows = s.pass.knows in
    staged_legal (spawn_view s) knows (known (spawn_view s) knows (all_met s each)) (own_list s) (listed (met_list s)) n (lists_of s) round

-- ---- The last round

-- all aborts of the passes that were met were made by now
pub round_now : (s : SharedSpawn) → LastRound (spawn_view s) (length (own_list s))
round_now s = record {
  early = (spawn_view s).seen;
  begins = begins_refl (spawn_view s).seen;
  others = λ a d at. s.pass.knows.whole d (suc a, at);
  count = own;
}
  where
    calls : length (calls_by (spawn_view s).own.name (spawn_view s).seen) ≡ length (own_list s)
    calls = ap length (s.pass.knows.whole (spawn_view s).own (zero, refl)) ∙ (sym (length-map (spawn_view s).own.calls told) ∙ ap length (sym s.listed))

    own : length (calls_by (spawn_view s).own.name (spawn_view s).seen) ≤ length (own_list s)
    own = omega (arith, calls)

-- a call keeps that
pub round_kept : (c : PhaseCall) (v w : PassView) (found : Phase) (n : ℕ) → Calls c v found w → LastRound v n → LastRound w n
round_kept c v w found n call round = record {
  early = round.early;
  begins = begins;
  others = λ a d at. round.others a d (subst (λ ds. get_elem? ds a ≡ some d) call.same.0 at);
  count = subst (λ (m : Name). length (calls_by m round.early) ≤ n) (sym (ap (λ (d : HandleCaller). d.name) call.own)) round.count;
}
  where
    seen : w.seen ≡ v.seen ++ (call.between ++ entry v.own.name c found ∷ [])
    seen = call.seen ∙ append_assoc v.seen call.between (entry v.own.name c found ∷ [])

    begins : LogBegins round.early w.seen
    begins = subst (λ log. LogBegins round.early log) (sym seen) (begins_more round.early v.seen (call.between ++ entry v.own.name c found ∷ []) round.begins)

-- ---- What a call leaves

pub written : {A : Type 0} (xs ys : List A) (n : ℕ) (x y : A) → ys ≡ xs ++ x ∷ [] → n ≡ length xs → slice_set ys n y ≡ xs ++ y ∷ []
written xs ys n x y is at = ap (λ zs. slice_set zs n y) is ∙ (ap (λ (k : ℕ). slice_set (xs ++ x ∷ []) k y) at ∙ set-append_seam xs x [] y)

-- the list of the pass's calls, with the one that was made
pub listed_after : (call : PhaseCall) (v w : PassView) (found : Phase) (old new : List CallMade) (m : CallMade) → Calls call v found w →
    old ≡ map told v.own.calls → told (entry v.own.name call found) ≡ m → new ≡ old ++ m ∷ [] → new ≡ map told w.own.calls
listed_after call v w found old new m made was is now =
    now ∙ (ap (λ (ms : List CallMade). ms ++ m ∷ []) was
    ∙ (ap (λ (k : CallMade). map told v.own.calls ++ k ∷ []) (sym is)
    ∙ (sym (map-append told v.own.calls (entry v.own.name call found ∷ []))
    ∙ ap (λ (c : HandleCaller). map told c.calls) (sym made.own))))

pub name_after : (call : PhaseCall) (v w : PassView) (found : Phase) (n : Name) → Calls call v found w → v.own.name ≡ n → w.own.name ≡ n
name_after call v w found n made is = ap (λ (c : HandleCaller). c.name) made.own ∙ is

pub splits_after : (call : PhaseCall) (v w : PassView) (found : Phase) (n : ℕ) → Calls call v found w → v.own.splits ≡ n → w.own.splits ≡ n
splits_after call v w found n made is = ap (λ (c : HandleCaller). c.splits) made.own ∙ is

pub met_after : (call : PhaseCall) (v w : PassView) (found : Phase) (cs : List HandleCaller) → Calls call v found w → v.met ≡ cs → w.met ≡ cs
met_after call v w found cs made is = made.same.0 ∙ is

-- the aborts of an aborter's pass, with the one that was made
pub aborts_after : (v w : PassView) (found : Phase) (n : Name) (old new : List Phase) → Calls Abort v found w → v.own.name ≡ n →
    v.own.calls ≡ aborts_by n old → new ≡ old ++ found ∷ [] → w.own.calls ≡ aborts_by n new
aborts_after v w found n old new made name was now =
    ap (λ (c : HandleCaller). c.calls) made.own
    ∙ (ap (λ (m : Name). v.own.calls ++ entry m Abort found ∷ []) name
    ∙ (ap (λ (log : Log). log ++ entry n Abort found ∷ []) was
    ∙ (sym (map-append (λ p. entry n Abort p) old (found ∷ []))
    ∙ ap (aborts_by n) (sym now))))

same_caller : (c : HandleCaller) (n : Name) (log : Log) (k : ℕ) → c.name ≡ n → c.calls ≡ log → c.splits ≡ k → c ≡ record { name = n; calls = log; splits = k }
same_caller c n log k a b d = λ i. record { name = a i; calls = b i; splits = d i }

-- with a pass that is met
pub met_more : (v o w : PassView) (fs gs : List Found) (f : Found) (place : ℕ) → Meets v o w → v.met ≡ aborters_from 0 (phases_in fs) → o.met ≡ [] →
    o.own.name ≡ place ∷ [] → o.own.splits ≡ 0 → o.own.calls ≡ aborts_by (place ∷ []) f.found.items → place ≡ length fs → gs ≡ fs ++ f ∷ [] →
    w.met ≡ aborters_from 0 (phases_in gs)
met_more v o w fs gs f place meets was apart name splits calls at now =
    meets.met
    ∙ (ap (λ (cs : List HandleCaller). cs ++ callers o) was
    ∙ (ap (λ (cs : List HandleCaller). aborters_from 0 (phases_in fs) ++ cs) (one ∙ ap (λ (k : ℕ). aborter_at k f.found.items ∷ []) at)
    ∙ (sym (met_snoc fs f)
    ∙ ap (λ (hs : List Found). aborters_from 0 (phases_in hs)) (sym now))))
  where
    one : callers o ≡ aborter_at place f.found.items ∷ []
    one = ap (λ (cs : List HandleCaller). o.own ∷ cs) apart
        ∙ ap (λ (c : HandleCaller). c ∷ []) (same_caller o.own (place ∷ []) (aborts_by (place ∷ []) f.found.items) 0 name calls splits)

-- what a poll of the handle tells
pub told_complete : (n : Name) (found : Phase) → TellsComplete {A = Unit {0}} found (Ready (tt {0})) → told (entry n PollHandle found) ≡ made PollHandle (Some Complete)
told_complete n Running is = absurd (cc)
told_complete n AbortRequested is = absurd (cc)
told_complete n Complete is = refl

pub told_pending : (n : Name) (found : Phase) → TellsComplete {A = Unit {0}} found Pending → told (entry n PollHandle found) ≡ made PollHandle None
told_pending n Running is = refl
told_pending n AbortRequested is = refl
told_pending n Complete is = absurd (is refl)
