-- The calls that a run makes on the cells of its spawns, from step to step.
use Rattle.beside_main.specs.Calls.{Adds, AreCalled, IsOpenAt, calls_in, finish_if, on_last, on_place}
use Rattle.beside_works.specs.SpawnCalls.{FinishesSpawn, PollsSpawn}
use Rattle.beside_works.specs.Views.{is_finished, own_list, spawn_view}
use Rattle.beside_works.specs.declared.cells.SharedSpawn.{SharedSpawn}
use Rattle.laws_beside.specs.Own.{if_same}
use Rattle.machine_data.specs.declared.statuses.Phase.{Phase}
use Rattle.machine_data.specs.declared.statuses.Phase.TheVariants as phase
use Rattle.std.proofs.Common.{ap, arith, eq-eqb, eqb-true, length, map, refl, subst, sym, ◌∙◌}
use Rattle.std.proofs.lemmas.List.{append_assoc, append-nil, map-append}
use Rattle.std.proofs.lemmas.Option.{same_Some}
use Rattle.std.specs.Prelude.{Bool, Err, List, MatchBool, None, Ok, OnOk, Option, Result, Some, [], false, if◌then◌else◌, slice_get, slice_set, suc, true, zero, ℕ, ◌++◌, ◌+◌, ◌==◌, ◌∷◌, ◌≡◌, ◌≤◌}
use Rattle.task_abort.specs.PhaseLog.{Name, entry}
use Rattle.task_abort.specs.Rule.{Calls}
use Rattle.task_abort.specs.Staged.{told}
use Rattle.task_abort.specs.declared.log.CallMade.{CallMade}
use Rattle.task_abort.specs.declared.log.LogEntry.{LogEntry}
use Rattle.task_abort.specs.declared.log.HandleCaller.{HandleCaller}
use Rattle.task_abort.specs.declared.log.PhaseCall.{PhaseCall}
use Rattle.task_abort.specs.declared.log.PhaseCall.TheVariants.{Finish, PollFuture}

-- ---- One call on a cell

abbrev call_of : LogEntry Name → PhaseCall
call_of e = e.call

told_calls : (es : List (LogEntry Name)) → map (λ (m : CallMade). m.call) (map told es) ≡ map call_of es
told_calls [] = refl
told_calls (e ∷ es) = ap (λ (cs : List PhaseCall). e.call ∷ cs) (told_calls es)

viewed : (s : SharedSpawn) → calls_in s ≡ map call_of (spawn_view s).own.calls
viewed s = ap (map (λ (m : CallMade). m.call)) s.listed ∙ told_calls (spawn_view s).own.calls

pub call_added : (call : PhaseCall) (a b : SharedSpawn) (found : Phase) → Calls call (spawn_view a) found (spawn_view b) → calls_in b ≡ calls_in a ++ call ∷ []
call_added call a b found calls =
    viewed b ∙ (ap (λ (h : HandleCaller). map call_of h.calls) calls.own
    ∙ (map-append call_of (spawn_view a).own.calls (entry (spawn_view a).own.name call found ∷ []) ∙ ap (λ (cs : List PhaseCall). cs ++ call ∷ []) (sym (viewed a))))

pub same_calls : (a b : SharedSpawn) → spawn_view b ≡ spawn_view a → calls_in b ≡ calls_in a
same_calls a b same = viewed b ∙ (ap (λ v. map call_of v.own.calls) same ∙ sym (viewed a))

-- a poll of a work that isn't over
pub poll_called : (a b : SharedSpawn) (found : Phase) → PollsSpawn found a b → (found ≡ phase.Complete → ⊥) → (is_finished a ≡ false) × (calls_in b ≡ calls_in a ++ PollFuture ∷ [])
poll_called a b found polls never = by (is_finished a) refl polls
  where
    by : (t : Bool) → is_finished a ≡ t → MatchBool t ((found ≡ phase.Complete) × (spawn_view b ≡ spawn_view a)) (Calls PollFuture (spawn_view a) found (spawn_view b)) →
        (is_finished a ≡ false) × (calls_in b ≡ calls_in a ++ PollFuture ∷ [])
    by true is over = absurd (never over.0)
    by false is calls = (is, call_added PollFuture a b found calls)

pub finish_called : (a b : SharedSpawn) → is_finished a ≡ false → FinishesSpawn a b → calls_in b ≡ calls_in a ++ Finish ∷ []
finish_called a b still finishes =
    let called : (found : Phase) × Calls Finish (spawn_view a) found (spawn_view b) = subst (λ (t : Bool). MatchBool t (spawn_view b ≡ spawn_view a) ((found : Phase) × Calls Finish (spawn_view a) found (spawn_view b))) still finishes in
    call_added Finish a b called.0 called.1

-- ---- On one spawn of several

pub same_at : (m n : ℕ) (cs : List PhaseCall) → m ≡ n → if_same m n cs ≡ cs
same_at m n cs same = ap (λ (b : Bool). if b then cs else []) (eq-eqb m n same)

pub same_here : (m : ℕ) (cs : List PhaseCall) → if_same m m cs ≡ cs
same_here m cs = same_at m m cs refl

pub same_apart : (m n : ℕ) (cs : List PhaseCall) → (m ≡ n → ⊥) → if_same m n cs ≡ []
same_apart m n cs never = by (m == n) refl
  where
    by : (b : Bool) → (m == n) ≡ b → (if b then cs else []) ≡ []
    by true is = absurd (never (eqb-true m n is))
    by false is = refl

pub same_append : (m n : ℕ) (cs ds : List PhaseCall) → if_same m n (cs ++ ds) ≡ if_same m n cs ++ if_same m n ds
same_append m n cs ds = by (m == n)
  where
    by : (b : Bool) → (if b then cs ++ ds else []) ≡ (if b then cs else []) ++ (if b then ds else [])
    by true = refl
    by false = refl

pub last_append : (o : Option ℕ) (cs ds : List PhaseCall) (k : ℕ) → on_last o (cs ++ ds) k ≡ on_last o cs k ++ on_last o ds k
last_append None cs ds k = refl
last_append (Some p) cs ds k = same_append (p + 1) k cs ds

-- ---- Cells with calls more

pub adds_as : (f g : ℕ → List PhaseCall) (k : ℕ) (olds news : List SharedSpawn) → ((j : ℕ) → k ≤ j → f j ≡ g j) → Adds f k olds news → Adds g k olds news
adds_as f g k [] [] same adds = tt
adds_as f g k [] (b ∷ news) same adds = adds
adds_as f g k (a ∷ olds) [] same adds = adds
adds_as f g k (a ∷ olds) (b ∷ news) same adds = (
  adds.0 ∙ ap (λ (cs : List PhaseCall). calls_in a ++ cs) (same k (omega arith)),
  adds_as f g (k + 1) olds news (λ j le. same j (omega (arith, le))) adds.1,
)

pub adds_none : (f : ℕ → List PhaseCall) (k : ℕ) (olds : List SharedSpawn) → ((j : ℕ) → k ≤ j → f j ≡ []) → Adds f k olds olds
adds_none f k [] none = tt
adds_none f k (a ∷ olds) none = (
  sym (append-nil (calls_in a)) ∙ ap (λ (cs : List PhaseCall). calls_in a ++ cs) (sym (none k (omega arith))),
  adds_none f (k + 1) olds (λ j le. none j (omega (arith, le))),
)

pub adds_then : (f g : ℕ → List PhaseCall) (k : ℕ) (olds mids news : List SharedSpawn) → Adds f k olds mids → Adds g k mids news → Adds (λ j. f j ++ g j) k olds news
adds_then f g k [] [] [] p q = tt
adds_then f g k [] [] (c ∷ news) p q = absurd q
adds_then f g k [] (b ∷ mids) news p q = absurd p
adds_then f g k (a ∷ olds) [] news p q = absurd p
adds_then f g k (a ∷ olds) (b ∷ mids) [] p q = absurd q
adds_then f g k (a ∷ olds) (b ∷ mids) (c ∷ news) p q = (
  q.0 ∙ (ap (λ (cs : List PhaseCall). cs ++ g k) p.0 ∙ append_assoc (calls_in a) (f k) (g k)),
  adds_then f g (k + 1) olds mids news p.1 q.1,
)

abbrev kept_if : Bool → List PhaseCall → List PhaseCall
kept_if b cs = if b then cs else []

kept_nothing : (b : Bool) → kept_if b [] ≡ []
kept_nothing true = refl
kept_nothing false = refl

same_nothing : (m n : ℕ) → if_same m n [] ≡ []
same_nothing m n = kept_nothing (m == n)

none_on : (o : Option ℕ) (k : ℕ) → on_last o [] k ≡ []
none_on None k = refl
none_on (Some p) k = same_nothing (p + 1) k

-- where the work isn't over, nothing is said
pub adds_open : (o : Option ℕ) (over : Bool) (olds : List SharedSpawn) → over ≡ false → Adds (on_last o (finish_if over)) 1 olds olds
adds_open o over olds still = adds_none (on_last o (finish_if over)) 1 olds (λ k le. ap (λ (b : Bool). on_last o (finish_if b) k) still ∙ none_on o k)

-- nor where none was polled
pub adds_unpolled : (o : Option ℕ) (calls : List PhaseCall) (olds : List SharedSpawn) → o ≡ None → Adds (on_last o calls) 1 olds olds
adds_unpolled o calls olds none = adds_none (on_last o calls) 1 olds (λ k le. ap (λ (q : Option ℕ). on_last q calls k) none)

-- where it is over, that is said
pub adds_over : (o : Option ℕ) (p : ℕ) (over : Bool) (olds news : List SharedSpawn) → o ≡ Some p → over ≡ true → Adds (on_place p (Finish ∷ [])) 1 olds news → Adds (on_last o (finish_if over)) 1 olds news
adds_over o p over olds news here ends adds =
    subst (λ (q : Option ℕ). Adds (on_last q (finish_if over)) 1 olds news) (sym here)
    (subst (λ (b : Bool). Adds (on_place p (finish_if b)) 1 olds news) (sym ends) adds)

pub ok_both : {A E : Type 0} (P Q R : Type 0) (r : Result A E) → (P → Q) → R → OnOk r P → OnOk r (Q × R)
ok_both P Q R (Ok a) f q p = (f p, q)
ok_both P Q R (Err e) f q p = tt

-- on the cell at one place
adds_at : (p k n : ℕ) (olds : List SharedSpawn) (a b : SharedSpawn) (cs : List PhaseCall) → n ≡ p + k → slice_get olds p ≡ Some a → calls_in b ≡ calls_in a ++ cs →
    Adds (λ j. if_same n j cs) k olds (slice_set olds p b)
adds_at p k n [] a b cs number at is = absurd (cc)
adds_at zero k n (x ∷ olds) a b cs number at is =
    let here : n ≡ k = omega (arith, number) in (
      is ∙ (ap (λ (y : SharedSpawn). calls_in y ++ cs) (sym (same_Some _ _ at)) ∙ ap (λ (ds : List PhaseCall). calls_in x ++ ds) (sym (same_at n k cs here))),
      adds_none (λ j. if_same n j cs) (k + 1) olds (λ j le. same_apart n j cs (λ same. omega (arith, le, same, here))),
    )
adds_at (suc p) k n (x ∷ olds) a b cs number at is = (
  sym (append-nil (calls_in x)) ∙ ap (λ (ds : List PhaseCall). calls_in x ++ ds) (sym (same_apart n k cs (λ same. omega (arith, same, number)))),
  adds_at p (k + 1) n olds a b cs (omega (arith, number)) at is,
)

pub adds_one : (p : ℕ) (olds : List SharedSpawn) (a b : SharedSpawn) (cs : List PhaseCall) → slice_get olds p ≡ Some a → calls_in b ≡ calls_in a ++ cs →
    Adds (on_place p cs) 1 olds (slice_set olds p b)
adds_one p olds a b cs at is = adds_at p 1 (p + 1) olds a b cs refl at is

pub set_here : (p : ℕ) (olds : List SharedSpawn) (a b : SharedSpawn) → slice_get olds p ≡ Some a → slice_get (slice_set olds p b) p ≡ Some b
set_here p [] a b at = absurd (cc)
set_here zero (x ∷ olds) a b at = refl
set_here (suc p) (x ∷ olds) a b at = set_here p olds a b at

pub open_here : (p : ℕ) (olds : List SharedSpawn) (a b : SharedSpawn) → slice_get olds p ≡ Some a → is_finished b ≡ false → IsOpenAt p (slice_set olds p b)
open_here p olds a b at still s here = subst (λ (t : SharedSpawn). is_finished t ≡ false) (same_Some _ _ (sym (set_here p olds a b at) ∙ here)) still

pub open_past : (p : ℕ) (olds : List SharedSpawn) → length olds ≤ p → IsOpenAt p olds
open_past p [] past s at = absurd (cc)
open_past zero (x ∷ olds) past s at = absurd (omega (arith, past))
open_past (suc p) (x ∷ olds) past s at = open_past p olds (omega (arith, past)) s at

pub zero_of : (n : ℕ) → (1 ≤ n → ⊥) → n ≡ 0
zero_of zero never = refl
zero_of (suc n) never = absurd (never (omega arith))

-- where there is no cell
none_past : (p k n : ℕ) (olds : List SharedSpawn) (cs : List PhaseCall) → n ≡ p + k → length olds ≤ p → Adds (λ j. if_same n j cs) k olds olds
none_past p k n [] cs number past = tt
none_past zero k n (x ∷ olds) cs number past = absurd (omega (arith, past))
none_past (suc p) k n (x ∷ olds) cs number past = (
  sym (append-nil (calls_in x)) ∙ ap (λ (ds : List PhaseCall). calls_in x ++ ds) (sym (same_apart n k cs (λ same. omega (arith, same, number)))),
  none_past p (k + 1) n olds cs (omega (arith, number)) (omega (arith, past)),
)

pub adds_past : (p : ℕ) (olds : List SharedSpawn) (cs : List PhaseCall) → length olds ≤ p → Adds (on_place p cs) 1 olds olds
adds_past p olds cs past = none_past p 1 (p + 1) olds cs refl past

-- the same on spawn n, whose cell is one place before it
pub adds_spawn : (n p : ℕ) (olds : List SharedSpawn) (a b : SharedSpawn) (cs : List PhaseCall) → n ≡ p + 1 → slice_get olds p ≡ Some a → calls_in b ≡ calls_in a ++ cs →
    Adds (λ k. if_same n k cs) 1 olds (slice_set olds p b)
adds_spawn n p olds a b cs number at is = adds_at p 1 n olds a b cs number at is

pub spawn_past : (n p : ℕ) (olds : List SharedSpawn) (cs : List PhaseCall) → n ≡ p + 1 → length olds ≤ p → Adds (λ k. if_same n k cs) 1 olds olds
spawn_past n p olds cs number past = none_past p 1 n olds cs number past

pub spawn_none : (n : ℕ) (olds : List SharedSpawn) (cs : List PhaseCall) → n ≡ 0 → Adds (λ k. if_same n k cs) 1 olds olds
spawn_none n olds cs none = adds_none (λ k. if_same n k cs) 1 olds (λ k le. same_apart n k cs (λ same. omega (arith, le, same, none)))

-- ---- All calls

pub called_then : (f g : ℕ → List PhaseCall) (k : ℕ) (olds news : List SharedSpawn) → AreCalled f k olds → Adds g k olds news → AreCalled (λ j. f j ++ g j) k news
called_then f g k [] [] called adds = tt
called_then f g k [] (b ∷ news) called adds = absurd adds
called_then f g k (a ∷ olds) [] called adds = absurd adds
called_then f g k (a ∷ olds) (b ∷ news) called adds = (
  adds.0 ∙ ap (λ (cs : List PhaseCall). cs ++ g k) called.0,
  called_then f g (k + 1) olds news called.1 adds.1,
)

pub called_at : (f : ℕ → List PhaseCall) (k p n : ℕ) (cells : List SharedSpawn) (s : SharedSpawn) → n ≡ p + k → AreCalled f k cells → slice_get cells p ≡ Some s → calls_in s ≡ f n
called_at f k p n [] s number called at = absurd (cc)
called_at f k zero n (x ∷ cells) s number called at =
    let here : k ≡ n = omega (arith, number) in subst (λ (y : SharedSpawn). calls_in y ≡ f n) (same_Some _ _ at) (called.0 ∙ ap f here)
called_at f k (suc p) n (x ∷ cells) s number called at = called_at f (k + 1) p n cells s (omega (arith, number)) called.1 at

abbrev tail_of : List (List CallMade) → List (List CallMade)
tail_of [] = []
tail_of (x ∷ xs) = xs

tails_same : (olds news : List SharedSpawn) (x y : List CallMade) → y ∷ map own_list news ≡ x ∷ map own_list olds → map own_list news ≡ map own_list olds
tails_same olds news x y same = ap tail_of same

-- the same cells, for all that the run lists of them
pub called_same : (f : ℕ → List PhaseCall) (k : ℕ) (olds news : List SharedSpawn) → map own_list news ≡ map own_list olds → AreCalled f k olds → AreCalled f k news
called_same f k [] [] same called = tt
called_same f k [] (b ∷ news) same called = absurd (cc)
called_same f k (a ∷ olds) [] same called = tt
called_same f k (a ∷ olds) (b ∷ news) same called =
    let head : own_list b ≡ own_list a = same_Some _ _ (ap (λ (ls : List (List CallMade)). slice_get ls 0) same) in (
      ap (map (λ (m : CallMade). m.call)) head ∙ called.0,
      called_same f (k + 1) olds news (tails_same olds news (own_list a) (own_list b) same) called.1,
    )
