use Rattle.core_picks.proofs.CancellableLemmas.{alone, alone_among, alone_first, least_first, many, waiting_among, waiting_positive, wanted_first}
use Rattle.core_picks.proofs.picks.first_cancellable.Goals as goal
use Rattle.core_places.proofs.ThreadLemmas.{same_item}
use Rattle.core_places.proofs.WaitingLemmas.{waits_where}
use Rattle.core_places.specs.Picks.{IsLeastWaiting}
use Rattle.core_primitives.specs.Preferences.{preference}
use Rattle.core_primitives.specs.StateView.{call_of, thread_of}
use Rattle.core_records.proofs.Core.{[], ap, false, IfSome, is_some, List, list_any, None, Option, seen, Some, subst, sym, TableId, ThreadKey, true, ℕ, ◌<◌, ◌∙◌, ◌∷◌, ◌≡◌}
use Rattle.core_records.specs.declared.{call_records.GuestTask.GuestTask}
use Rattle.machine_data.specs.Moves.{waits_cancellable}
use Rattle.machine_rules.specs.Cancels.{is_waiting_of, waiting_callback, waiting_in}
use Rattle.machine_rules.specs.Picks.{cancel_before}
use Rattle.machine_rules.specs.Step.{is_among}
use Rattle.std.specs.Prelude.{IfNone}

pub least_waiting-requires-clause-chain : goal.least_waiting-requires-clause-chain
least_waiting-requires-clause-chain c g is = ap (λ (x : GuestTask). x.waits) (same_item is c.call_there.ensures.item) ∙ c.in-Some.is

pub returns-in-Some-wanted_waiting-clause-some : goal.returns-in-Some-wanted_waiting-clause-some
returns-in-Some-wanted_waiting-clause-some c =
    let a = c.args.parts.now in
    let k = call_of (seen a) c.args.call in
    let t = c.call_there.result.now in
    let kept : waits_cancellable k (seen a).core ≡ true = ap (λ n. waits_cancellable n (seen a).core) (sym c.call_there.ensures.number) ∙ (waits_where a c.requires.sound c.args.call.rep c.args.call.serial t c.call_there.ensures.item ∙ ap is_some c.in-Some.is) in
    ap (is_among (thread_of (seen a) c.in-Some-wanted_waiting.wanted)) (many a c.requires.sound k kept) ∙ waiting_among a c.requires.sound k _ c.in-Some-wanted_waiting.ensures.1

pub returns-in-Some-wanted_waiting-clause-live : goal.returns-in-Some-wanted_waiting-clause-live
returns-in-Some-wanted_waiting-clause-live c = waiting_positive c.args.parts.now c.requires.sound _ _ c.in-Some-wanted_waiting.ensures.1

pub returns-in-Some-wanted_waiting-clause-first : goal.returns-in-Some-wanted_waiting-clause-first
returns-in-Some-wanted_waiting-clause-first c =
    let a = c.args.parts.now in
    let k = call_of (seen a) c.args.call in
    let t = c.call_there.result.now in
    let kept : waits_cancellable k (seen a).core ≡ true = ap (λ n. waits_cancellable n (seen a).core) (sym c.call_there.ensures.number) ∙ (waits_where a c.requires.sound c.args.call.rep c.args.call.serial t c.call_there.ensures.item ∙ ap is_some c.in-Some.is) in
    ap (list_any (λ n. cancel_before (preference (seen a)) n (thread_of (seen a) c.in-Some-wanted_waiting.wanted))) (many a c.requires.sound k kept)
    ∙ wanted_first a c.requires.sound k c.in-Some-wanted_waiting.wanted c.in-Some-wanted_waiting.ensures.0

pub returns-in-None-wanted_waiting-clause-none : goal.returns-in-None-wanted_waiting-clause-none
returns-in-None-wanted_waiting-clause-none c =
    let a = c.args.parts.now in
    let k = call_of (seen a) c.args.call in
    let t = c.call_there.result.now in
    let kept : waits_cancellable k (seen a).core ≡ true = ap (λ n. waits_cancellable n (seen a).core) (sym c.call_there.ensures.number) ∙ (waits_where a c.requires.sound c.args.call.rep c.args.call.serial t c.call_there.ensures.item ∙ ap is_some c.in-Some.is) in
    subst (λ (ns : List ℕ). IfNone c.least_waiting.result (ns ≡ [])) (sym (many a c.requires.sound k kept)) c.least_waiting.ensures.none

pub returns-in-None-wanted_waiting-clause-some : goal.returns-in-None-wanted_waiting-clause-some
returns-in-None-wanted_waiting-clause-some c =
    let a = c.args.parts.now in
    let k = call_of (seen a) c.args.call in
    let t = c.call_there.result.now in
    let kept : waits_cancellable k (seen a).core ≡ true = ap (λ n. waits_cancellable n (seen a).core) (sym c.call_there.ensures.number) ∙ (waits_where a c.requires.sound c.args.call.rep c.args.call.serial t c.call_there.ensures.item ∙ ap is_some c.in-Some.is) in
    subst (λ (ns : List ℕ). IfSome c.least_waiting.result (λ id. is_among (thread_of (seen a) id) ns ≡ true)) (sym (many a c.requires.sound k kept)) (by c.least_waiting.result c.least_waiting.ensures.some)
  where
    by : (r : Option (TableId ThreadKey)) → IfSome r (λ id. is_waiting_of (call_of (seen c.args.parts.now) c.args.call) (seen c.args.parts.now).core (thread_of (seen c.args.parts.now) id) ≡ true)
        → IfSome r (λ id. is_among (thread_of (seen c.args.parts.now) id) (waiting_in (call_of (seen c.args.parts.now) c.args.call) (seen c.args.parts.now).core) ≡ true)
    by None waits = tt
    by (Some id) waits = waiting_among c.args.parts.now c.requires.sound _ _ waits

pub returns-in-None-wanted_waiting-clause-first : goal.returns-in-None-wanted_waiting-clause-first
returns-in-None-wanted_waiting-clause-first c =
    let a = c.args.parts.now in
    let k = call_of (seen a) c.args.call in
    let t = c.call_there.result.now in
    let kept : waits_cancellable k (seen a).core ≡ true = ap (λ n. waits_cancellable n (seen a).core) (sym c.call_there.ensures.number) ∙ (waits_where a c.requires.sound c.args.call.rep c.args.call.serial t c.call_there.ensures.item ∙ ap is_some c.in-Some.is) in
    subst (λ (ns : List ℕ). IfSome c.least_waiting.result (λ id. list_any (λ n. cancel_before (preference (seen a)) n (thread_of (seen a) id)) ns ≡ false)) (sym (many a c.requires.sound k kept))
    (by c.least_waiting.result c.least_waiting.ensures.some c.least_waiting.ensures.live c.least_waiting.ensures.least)
  where
    by : (r : Option (TableId ThreadKey)) → IfSome r (λ id. is_waiting_of (call_of (seen c.args.parts.now) c.args.call) (seen c.args.parts.now).core (thread_of (seen c.args.parts.now) id) ≡ true)
        → IfSome r (λ id. 0 < thread_of (seen c.args.parts.now) id) → IfSome r (λ id. IsLeastWaiting c.args.parts.now (call_of (seen c.args.parts.now) c.args.call) id)
        → IfSome r (λ id. list_any (λ n. cancel_before (preference (seen c.args.parts.now)) n (thread_of (seen c.args.parts.now) id)) (waiting_in (call_of (seen c.args.parts.now) c.args.call) (seen c.args.parts.now).core) ≡ false)
    by None waits live least = tt
    by (Some id) waits live least = least_first c.args.parts.now c.requires.sound _ id c.in-None-wanted_waiting.ensures waits live least

pub returns-in-None-clause-none : goal.returns-in-None-clause-none
returns-in-None-clause-none c =
    let a = c.args.parts.now in
    let k = call_of (seen a) c.args.call in
    let t = c.call_there.result.now in
    let kept : waits_cancellable k (seen a).core ≡ false = ap (λ n. waits_cancellable n (seen a).core) (sym c.call_there.ensures.number) ∙ (waits_where a c.requires.sound c.args.call.rep c.args.call.serial t c.call_there.ensures.item ∙ ap is_some c.in-None.is) in
    subst (λ (ns : List ℕ). IfNone c.waiting_callback.result (ns ≡ [])) (sym (alone a c.requires.sound k kept)) c.waiting_callback.ensures.none

pub returns-in-None-clause-some : goal.returns-in-None-clause-some
returns-in-None-clause-some c =
    let a = c.args.parts.now in
    let k = call_of (seen a) c.args.call in
    let t = c.call_there.result.now in
    let kept : waits_cancellable k (seen a).core ≡ false = ap (λ n. waits_cancellable n (seen a).core) (sym c.call_there.ensures.number) ∙ (waits_where a c.requires.sound c.args.call.rep c.args.call.serial t c.call_there.ensures.item ∙ ap is_some c.in-None.is) in
    subst (λ (ns : List ℕ). IfSome c.waiting_callback.result (λ id. is_among (thread_of (seen a) id) ns ≡ true)) (sym (alone a c.requires.sound k kept)) (by c.waiting_callback.result c.waiting_callback.ensures.some)
  where
    by : (r : Option (TableId ThreadKey)) → IfSome r (λ id. waiting_callback (call_of (seen c.args.parts.now) c.args.call) (seen c.args.parts.now).core ≡ thread_of (seen c.args.parts.now) id ∷ [])
        → IfSome r (λ id. is_among (thread_of (seen c.args.parts.now) id) (waiting_callback (call_of (seen c.args.parts.now) c.args.call) (seen c.args.parts.now).core) ≡ true)
    by None one = tt
    by (Some id) one = alone_among c.args.parts.now c.requires.sound _ _ one

pub returns-in-None-clause-first : goal.returns-in-None-clause-first
returns-in-None-clause-first c =
    let a = c.args.parts.now in
    let k = call_of (seen a) c.args.call in
    let t = c.call_there.result.now in
    let kept : waits_cancellable k (seen a).core ≡ false = ap (λ n. waits_cancellable n (seen a).core) (sym c.call_there.ensures.number) ∙ (waits_where a c.requires.sound c.args.call.rep c.args.call.serial t c.call_there.ensures.item ∙ ap is_some c.in-None.is) in
    subst (λ (ns : List ℕ). IfSome c.waiting_callback.result (λ id. list_any (λ n. cancel_before (preference (seen a)) n (thread_of (seen a) id)) ns ≡ false)) (sym (alone a c.requires.sound k kept)) (by c.waiting_callback.result c.waiting_callback.ensures.some)
  where
    by : (r : Option (TableId ThreadKey)) → IfSome r (λ id. waiting_callback (call_of (seen c.args.parts.now) c.args.call) (seen c.args.parts.now).core ≡ thread_of (seen c.args.parts.now) id ∷ [])
        → IfSome r (λ id. list_any (λ n. cancel_before (preference (seen c.args.parts.now)) n (thread_of (seen c.args.parts.now) id)) (waiting_callback (call_of (seen c.args.parts.now) c.args.call) (seen c.args.parts.now).core) ≡ false)
    by None one = tt
    by (Some id) one = alone_first c.args.parts.now c.requires.sound _ _ one
