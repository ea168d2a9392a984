-- The callers of a foot, as they go one after another.
use Rattle.std.proofs.Common.{ap, ap₂, arith, cond, refl, subst, sym, ◌∙◌}
use Rattle.std.specs.Option.{option_map_or}
use Rattle.std.specs.Prelude.{Bool, List, None, Option, Some, [], false, suc, true, unwrap_or, zero, ℕ, ◌++◌, ◌+◌, ◌==◌, ◌∷◌, ◌≡◌, ◌≤◌, length}
use Rattle.task_table.specs.declared.id.TableId.{TableId}
use Rattle.task_wait.specs.declared.keys.ThreadKey.{ThreadKey}
use Rattle.machine_data.proofs.CommuteLemmas.{insert-insert_other, insert-insert_same}
use Rattle.machine_data.specs.Core.{Core, Queues}
use Rattle.machine_data.specs.Maps.{Records, get, get-insert, insert, size}
use Rattle.machine_data.specs.Moves.{behind, behind_one, newest, older, passed_on, put_high, put_switch, resumed_all, stopped}
use Rattle.machine_data.specs.Read.{callers_of, foot_from, foot_of, under_of}
use Rattle.machine_data.specs.Write.{on_thread, push_high, set_callers, set_place, set_switch}
use Rattle.machine_data.specs.declared.records.Entry.TheVariants as entry
use Rattle.machine_data.specs.declared.records.Place.TheVariants as place
use Rattle.machine_data.specs.declared.records.Why.{Why}
use Rattle.machine_data.specs.declared.records.Why.TheVariants as why
use Rattle.machine_data.specs.declared.statuses.Mark.TheVariants as mark
use Rattle.ops_moves.specs.Stops.{AreCallersUnqueued, MayPass, behind_from, resumed_from}
use Rattle.machine_rules.proofs.StandLemmas.{by_number, entries-append, eq_refl, not_eq, times-append, times-newest}
use Rattle.machine_rules.specs.Places.{entries, one_if, times}
use Rattle.machine_rules.specs.Works.{first_number}
use Rattle.core_primitives.specs.Apart.{IsBehindNobody, IsSwitchUnqueued, IsUnqueued, later_of, newest_of, older_of}
use Rattle.core_primitives.specs.StateView.{StateView, on_core, thread_of, with_core}

unwrap_cond : (b : Bool) (ns : List ℕ) (o : Option (List ℕ)) → unwrap_or (cond b (Some ns) o) [] ≡ cond b ns (unwrap_or o [])
unwrap_cond true ns o = refl
unwrap_cond false ns o = refl

pub callers_written : (f g : ℕ) (ns : List ℕ) (s : Core) → callers_of g (set_callers f ns s) ≡ cond (g == f) ns (callers_of g s)
unfolding set_callers
callers_written f g ns s = ap (λ (o : Option (List ℕ)). unwrap_or o []) (get-insert s.callers f ns g) ∙ unwrap_cond (g == f) ns (get s.callers g)

pub callers_own : (f : ℕ) (ns : List ℕ) (s : Core) → callers_of f (set_callers f ns s) ≡ ns
callers_own f ns s = callers_written f f ns s ∙ ap (λ b. cond b ns (callers_of f s)) (eq_refl f)

pub first_listed : (n : ℕ) (ns : List ℕ) → Some n ≡ first_number ns → ns ≡ n ∷ later_of ns
first_listed n [] e = absurd (no_both e)
  where
    no_both : Some n ≡ None → ⊥
    no_both e = cc
first_listed n (m ∷ ns) e = ap (λ (o : Option ℕ). unwrap_or o n ∷ ns) (sym e)

pub none_listed : (ns : List ℕ) → None ≡ first_number ns → ns ≡ []
none_listed [] e = refl
none_listed (m ∷ ns) e = absurd (no_both e)
  where
    no_both : None ≡ Some m → ⊥
    no_both e = cc

-- ---- To high

high_uncalled : (n f : ℕ) (w : Why) (ns : List ℕ) (s : Core) → set_callers f [] (put_high n w (set_callers f ns s)) ≡ put_high n w (set_callers f [] s)
unfolding put_high push_high set_callers set_place on_thread
high_uncalled n f w ns s = ap (λ (m : Records (List ℕ)). put_high n w (record s { callers = m })) (insert-insert_same s.callers f ns [])

high_callers : (n g : ℕ) (w : Why) (s : Core) → callers_of g (put_high n w s) ≡ callers_of g s
unfolding put_high push_high set_place on_thread
high_callers n g w s = refl

one_resumed : (f n : ℕ) (ns : List ℕ) (s : Core) → callers_of f s ≡ n ∷ ns → resumed_from f (put_high n why.Resumption (set_callers f ns s)) ≡ resumed_from f s
unfolding resumed_from
one_resumed f n ns s e = rw (high_uncalled n f why.Resumption ns s, high_callers n f why.Resumption (set_callers f ns s), callers_own f ns s, e) refl

queues_uncalled : (f : ℕ) (ns : List ℕ) (s : Core) → (set_callers f ns s).queues ≡ s.queues
unfolding set_callers
queues_uncalled f ns s = refl

first_unqueued : (f n : ℕ) (s : Core) → Some n ≡ first_number (callers_of f s) → AreCallersUnqueued f s → IsUnqueued n s
first_unqueued f n s e out =
    let x = ap (times n) (first_listed n (callers_of f s) e) in
    let y = ap one_if (eq_refl n) in
    let z = out n in
    record { high = omega (arith, x, y, z); low = omega (arith, x, y, z) }

pub popped_unqueued : (f n : TableId ThreadKey) (s t : StateView) → Some (thread_of s n) ≡ first_number (callers_of (thread_of s f) s.core) → t ≡ on_core (set_callers (thread_of s f) (later_of (callers_of (thread_of s f) s.core))) s → AreCallersUnqueued (thread_of s f) s.core → IsUnqueued (thread_of t n) t.core
unfolding set_callers
popped_unqueued f n s t first e out =
    let at = first_unqueued (thread_of s f) (thread_of s n) s.core first out in
    subst (λ (v : StateView). IsUnqueued (thread_of v n) v.core) (sym e) (record { high = at.high; low = at.low })

high_entries : (k n f : ℕ) (ns : List ℕ) (s : Core) → entries k (put_high n why.Resumption (set_callers f ns s)).queues.high + entries k (put_high n why.Resumption (set_callers f ns s)).queues.low ≡ (entries k s.queues.high + one_if (k == n)) + entries k s.queues.low
unfolding put_high push_high set_callers set_place on_thread
high_entries k n f ns s = ap (λ c. c + entries k s.queues.low) (entries-append k s.queues.high (entry.Thread n))

high_once : (f n : ℕ) (ns : List ℕ) (s : Core) → callers_of f s ≡ n ∷ ns → AreCallersUnqueued f s → AreCallersUnqueued f (put_high n why.Resumption (set_callers f ns s))
high_once f n ns s e out = λ k.
    let x = ap (times k) e in
    let y = ap (times k) (high_callers n f why.Resumption (set_callers f ns s) ∙ callers_own f ns s) in
    let z = high_entries k n f ns s in
    let q = out k in
    omega (arith, x, y, z, q)

-- one more is resumed
pub record Resumed (f : TableId ThreadKey) (s u : StateView) : Type 0 where
  pub live : thread_of u f ≡ thread_of s f
  pub unqueued : AreCallersUnqueued (thread_of s f) s.core → AreCallersUnqueued (thread_of u f) u.core
  pub same : on_core (resumed_from (thread_of u f)) u ≡ on_core (resumed_from (thread_of s f)) s
  pub fewer : length (callers_of (thread_of u f) u.core) + 1 ≤ length (callers_of (thread_of s f) s.core)

resumed_is : (f n : TableId ThreadKey) (s t u : StateView) → t ≡ on_core (set_callers (thread_of s f) (later_of (callers_of (thread_of s f) s.core))) s → u ≡ on_core (put_high (thread_of t n) why.Resumption) t → u ≡ on_core (λ c. put_high (thread_of s n) why.Resumption (set_callers (thread_of s f) (later_of (callers_of (thread_of s f) s.core)) c)) s
resumed_is f n s t u e d = rw (d, e) refl

pub resumed_one : (f n : TableId ThreadKey) (s t u : StateView) → Some (thread_of s n) ≡ first_number (callers_of (thread_of s f) s.core) → t ≡ on_core (set_callers (thread_of s f) (later_of (callers_of (thread_of s f) s.core))) s → u ≡ on_core (put_high (thread_of t n) why.Resumption) t → Resumed f s u
resumed_one f n s t u first e d =
    let F = thread_of s f in
    let N = thread_of s n in
    let is = first_listed N (callers_of F s.core) first in
    subst (Resumed f s) (sym (resumed_is f n s t u e d)) (record {
      live = refl;
      unqueued = λ out. high_once F N (later_of (callers_of F s.core)) s.core is out;
      same = ap (λ (c : Core). with_core c s) (one_resumed F N (later_of (callers_of F s.core)) s.core is);
      fewer = shorter F N (later_of (callers_of F s.core)) s.core is;
    })
  where
    shorter : (f n : ℕ) (ns : List ℕ) (s : Core) → callers_of f s ≡ n ∷ ns → length (callers_of f (put_high n why.Resumption (set_callers f ns s))) + 1 ≤ length (callers_of f s)
    shorter f n ns s e =
        let x = ap (λ (l : List ℕ). length l) e in
        let y = ap (λ (l : List ℕ). length l) (high_callers n f why.Resumption (set_callers f ns s) ∙ callers_own f ns s) in
        omega (arith, x, y)

-- nobody is left
pub resumed_none : (f : TableId ThreadKey) (s t : StateView) → None ≡ first_number (callers_of (thread_of s f) s.core) → t ≡ on_core (set_callers (thread_of s f) (later_of (callers_of (thread_of s f) s.core))) s → t ≡ on_core (resumed_from (thread_of s f)) s
unfolding resumed_from
resumed_none f s t none e =
    let is = none_listed (callers_of (thread_of s f) s.core) none in
    e ∙ rw is refl

-- ---- Behind another thread

behind_callers : (f g n k : ℕ) (ns : List ℕ) (s : Core) → (k == g) ≡ false → callers_of k (behind_one g n (set_callers f ns s)) ≡ callers_of k (set_callers f ns s)
unfolding behind_one set_place on_thread
behind_callers f g n k ns s e = callers_written g k (callers_of g (set_callers f ns s) ++ n ∷ []) (set_place n (place.Behind g) (set_callers f ns s)) ∙ ap (λ b. cond b (callers_of g (set_callers f ns s) ++ n ∷ []) (callers_of k (set_callers f ns s))) e

behind_own : (f g n : ℕ) (ns : List ℕ) (s : Core) → callers_of g (behind_one g n (set_callers f ns s)) ≡ callers_of g (set_callers f ns s) ++ n ∷ []
unfolding behind_one set_place on_thread
behind_own f g n ns s = callers_own g (callers_of g (set_callers f ns s) ++ n ∷ []) (set_place n (place.Behind g) (set_callers f ns s))

flipped : (f g : ℕ) → (g == f) ≡ false → (f == g) ≡ false
flipped f g e = by_number f g ((f == g) ≡ false) (λ d. absurd (not_eq g f e (sym d))) (λ d. d)

kept_callers : (f g : ℕ) (ns : List ℕ) (s : Core) → (g == f) ≡ false → callers_of g (set_callers f ns s) ≡ callers_of g s
kept_callers f g ns s e = callers_written f g ns s ∙ ap (λ b. cond b ns (callers_of g s)) e

behind_uncalled : (f g n : ℕ) (ns : List ℕ) (s : Core) → (g == f) ≡ false → set_callers f [] (behind_one g n (set_callers f ns s)) ≡ behind_one g n (set_callers f [] s)
unfolding behind_one set_callers set_place on_thread
behind_uncalled f g n ns s e =
    let xs = callers_of g s ++ n ∷ [] in
    let t = set_place n (place.Behind g) s in
    ap (λ (l : List ℕ). record t { callers = insert (insert (insert s.callers f ns) g (l ++ n ∷ [])) f [] }) (kept_callers f g ns s e)
    ∙ (ap (λ (m : Records (List ℕ)). record t { callers = m }) (insert-insert_other (insert s.callers f ns) g f xs [] (not_eq g f e) ∙ ap (λ (m : Records (List ℕ)). insert m g xs) (insert-insert_same s.callers f ns []))
    ∙ ap (λ (l : List ℕ). record t { callers = insert (insert s.callers f []) g (l ++ n ∷ []) }) (sym (kept_callers f g [] s e)))

one_passed : (f g n : ℕ) (ns : List ℕ) (s : Core) → (g == f) ≡ false → callers_of f s ≡ n ∷ ns → behind_from f g (behind_one g n (set_callers f ns s)) ≡ behind_from f g s
unfolding behind_from
one_passed f g n ns s apart e =
    ap₂ (λ (l : List ℕ) (c : Core). behind g l c) (behind_callers f g n f ns s (flipped f g apart) ∙ callers_own f ns s) (behind_uncalled f g n ns s apart)
    ∙ ap (λ (l : List ℕ). behind g l (set_callers f [] s)) (sym e)

may_pass_on : (f g n : ℕ) (ns : List ℕ) (s : Core) → callers_of f s ≡ n ∷ ns → MayPass f g s → MayPass f g (behind_one g n (set_callers f ns s))
may_pass_on f g n ns s e may = record {
  apart = may.apart;
  once = λ k. let x = ap (times k) e in let y = ap (times k) left in let z = may.once k in omega (arith, x, y, z);
  alone = λ k h d. by_number h g (times k (callers_of f t) + times k (callers_of h t) ≤ 1) (λ same. own k h d same) (λ other. others k h d other);
}
  where
    t : Core
    t = behind_one g n (set_callers f ns s)

    left : callers_of f t ≡ ns
    left = behind_callers f g n f ns s (flipped f g may.apart) ∙ callers_own f ns s

    own : (k h : ℕ) → (h == f) ≡ false → h ≡ g → times k (callers_of f t) + times k (callers_of h t) ≤ 1
    own k h d same =
        let x = ap (times k) e in
        let y = ap (times k) left in
        let z = ap (λ (j : ℕ). times k (callers_of j t)) same ∙ (ap (times k) (behind_own f g n ns s ∙ ap (λ (l : List ℕ). l ++ n ∷ []) (kept_callers f g ns s may.apart)) ∙ times-append k (callers_of g s) n) in
        let q = may.alone k g may.apart in
        omega (arith, x, y, z, q)

    others : (k h : ℕ) → (h == f) ≡ false → (h == g) ≡ false → times k (callers_of f t) + times k (callers_of h t) ≤ 1
    others k h d other =
        let x = ap (times k) e in
        let y = ap (times k) left in
        let z = ap (times k) (behind_callers f g n h ns s other ∙ kept_callers f h ns s d) in
        let q = may.alone k h d in
        omega (arith, x, y, z, q)

-- who was taken from the callers is behind nobody
first_alone : (f g n : ℕ) (ns : List ℕ) (s : Core) → callers_of f s ≡ n ∷ ns → MayPass f g s → IsBehindNobody n (set_callers f ns s)
first_alone f g n ns s e may = λ h. by_number h f (times n (callers_of h (set_callers f ns s)) ≡ 0) (λ same. own h same) (λ other. others h other)
  where
    one : times n (callers_of f s) ≡ 1 + times n ns
    one = ap (times n) e ∙ ap (λ c. c + times n ns) (ap one_if (eq_refl n))

    own : (h : ℕ) → h ≡ f → times n (callers_of h (set_callers f ns s)) ≡ 0
    own h same =
        let x = ap (λ (j : ℕ). times n (callers_of j (set_callers f ns s))) same ∙ ap (times n) (callers_own f ns s) in
        let y = may.once n in
        omega (arith, one, x, y)

    others : (h : ℕ) → (h == f) ≡ false → times n (callers_of h (set_callers f ns s)) ≡ 0
    others h other =
        let x = ap (times n) (kept_callers f h ns s other) in
        let y = may.alone n h other in
        omega (arith, one, x, y)

pub popped_alone : (f g n : TableId ThreadKey) (s t : StateView) → Some (thread_of s n) ≡ first_number (callers_of (thread_of s f) s.core) → t ≡ on_core (set_callers (thread_of s f) (later_of (callers_of (thread_of s f) s.core))) s → MayPass (thread_of s f) (thread_of s g) s.core → IsBehindNobody (thread_of t n) t.core
popped_alone f g n s t first e may = subst (λ (v : StateView). IsBehindNobody (thread_of v n) v.core) (sym e) (first_alone (thread_of s f) (thread_of s g) (thread_of s n) _ s.core (first_listed _ _ first) may)

-- one more is behind the other thread
pub record Passed (f g : TableId ThreadKey) (s u : StateView) : Type 0 where
  pub foot : thread_of u f ≡ thread_of s f
  pub other : thread_of u g ≡ thread_of s g
  pub may : MayPass (thread_of s f) (thread_of s g) s.core → MayPass (thread_of u f) (thread_of u g) u.core
  pub same : on_core (behind_from (thread_of u f) (thread_of u g)) u ≡ on_core (behind_from (thread_of s f) (thread_of s g)) s
  pub fewer : length (callers_of (thread_of u f) u.core) + 1 ≤ length (callers_of (thread_of s f) s.core)

passed_is : (f g n : TableId ThreadKey) (s t u : StateView) → t ≡ on_core (set_callers (thread_of s f) (later_of (callers_of (thread_of s f) s.core))) s → u ≡ on_core (behind_one (thread_of t g) (thread_of t n)) t → u ≡ on_core (λ c. behind_one (thread_of s g) (thread_of s n) (set_callers (thread_of s f) (later_of (callers_of (thread_of s f) s.core)) c)) s
passed_is f g n s t u e d = rw (d, e) refl

pub passed_one : (f g n : TableId ThreadKey) (s t u : StateView) → MayPass (thread_of s f) (thread_of s g) s.core → Some (thread_of s n) ≡ first_number (callers_of (thread_of s f) s.core) → t ≡ on_core (set_callers (thread_of s f) (later_of (callers_of (thread_of s f) s.core))) s → u ≡ on_core (behind_one (thread_of t g) (thread_of t n)) t → Passed f g s u
passed_one f g n s t u may first e d =
    let F = thread_of s f in
    let G = thread_of s g in
    let N = thread_of s n in
    let ns = later_of (callers_of F s.core) in
    let is = first_listed N (callers_of F s.core) first in
    subst (Passed f g s) (sym (passed_is f g n s t u e d)) (record {
      foot = refl;
      other = refl;
      may = λ m. may_pass_on F G N ns s.core is m;
      same = ap (λ (c : Core). with_core c s) (one_passed F G N ns s.core may.apart is);
      fewer = shorter F G N ns s.core may.apart is;
    })
  where
    shorter : (f g n : ℕ) (ns : List ℕ) (s : Core) → (g == f) ≡ false → callers_of f s ≡ n ∷ ns → length (callers_of f (behind_one g n (set_callers f ns s))) + 1 ≤ length (callers_of f s)
    shorter f g n ns s apart e =
        let x = ap (λ (l : List ℕ). length l) e in
        let y = ap (λ (l : List ℕ). length l) (behind_callers f g n f ns s (flipped f g apart) ∙ callers_own f ns s) in
        omega (arith, x, y)

pub passed_none : (f g : TableId ThreadKey) (s t : StateView) → None ≡ first_number (callers_of (thread_of s f) s.core) → t ≡ on_core (set_callers (thread_of s f) (later_of (callers_of (thread_of s f) s.core))) s → t ≡ on_core (behind_from (thread_of s f) (thread_of s g)) s
unfolding behind_from
passed_none f g s t none e =
    let is = none_listed (callers_of (thread_of s f) s.core) none in
    e ∙ rw is refl

-- ---- The stop

foot_from_uncalled : (k f n : ℕ) (ns : List ℕ) (s : Core) → foot_from k (set_callers f ns s) n ≡ foot_from k s n
unfolding set_callers under_of
foot_from_uncalled zero f n ns s = refl
foot_from_uncalled (suc k) f n ns s = go (under_of n s) (λ m. foot_from_uncalled k f m ns s)
  where
    go : (o : Option ℕ) → ((m : ℕ) → foot_from k (set_callers f ns s) m ≡ foot_from k s m) → option_map_or (foot_from k (set_callers f ns s)) o n ≡ option_map_or (foot_from k s) o n
    go None more = refl
    go (Some m) more = more m

foot_uncalled : (f n : ℕ) (ns : List ℕ) (s : Core) → foot_of n (set_callers f ns s) ≡ foot_of n s
unfolding foot_of set_callers
foot_uncalled f n ns s = foot_from_uncalled (size s.threads) f n ns s

stopped_behind : (f m g : ℕ) (s : Core) → s.queues.switch ≡ Some m → g ≡ foot_of m s → behind_from f g s ≡ stopped f s
unfolding behind_from stopped
stopped_behind f m g s at foot = ap (λ k. behind k (callers_of f s) (set_callers f [] s)) (foot ∙ sym (foot_uncalled f m [] s)) ∙ ap (λ (o : Option ℕ). passed_on o (callers_of f s) (set_callers f [] s)) (sym at)

pub stop_passes : (f n g : TableId ThreadKey) (s t : StateView) → Some (thread_of s n) ≡ s.core.queues.switch → thread_of s g ≡ foot_of (thread_of s n) s.core → t ≡ on_core (behind_from (thread_of s f) (thread_of s g)) s → t ≡ on_core (stopped (thread_of s f)) s
stop_passes f n g s t at foot e = e ∙ ap (λ (c : Core). with_core c s) (stopped_behind (thread_of s f) (thread_of s n) (thread_of s g) s.core (sym at) foot)

last_listed : (n : ℕ) (ns : List ℕ) → Some n ≡ newest_of ns → (m : ℕ) × ((ms : List ℕ) × ((ns ≡ m ∷ ms) × (newest m ms ≡ n)))
last_listed n [] e = absurd (no_both e)
  where
    no_both : Some n ≡ None → ⊥
    no_both e = cc
last_listed n (m ∷ ms) e = (m, (ms, (refl, sym (ap (λ (o : Option ℕ). unwrap_or o n) e))))

switch_uncalled : (f n : ℕ) (ns : List ℕ) (s : Core) → s.queues.switch ≡ None → set_callers f [] (put_switch n why.Resumption (set_callers f ns s)) ≡ put_switch n why.Resumption (set_callers f [] s)
unfolding put_switch set_switch set_callers set_place on_thread
switch_uncalled f n ns s none = rw none (ap (λ (m : Records (List ℕ)). put_switch_as n (record s { callers = m })) (insert-insert_same s.callers f ns []))
  where
    put_switch_as : ℕ → Core → Core
    put_switch_as n c = set_switch (Some n) (set_place n (place.Ready mark.Switch why.Resumption) c)

switch_callers : (g n : ℕ) (w : Why) (s : Core) → s.queues.switch ≡ None → callers_of g (put_switch n w s) ≡ callers_of g s
unfolding put_switch set_switch set_place on_thread
switch_callers g n w s none = rw none refl

switch_high : (n : ℕ) (w : Why) (s : Core) → s.queues.switch ≡ None → (put_switch n w s).queues.high ≡ s.queues.high
unfolding put_switch set_switch set_place on_thread
switch_high n w s none = rw none refl

switch_low : (n : ℕ) (w : Why) (s : Core) → s.queues.switch ≡ None → (put_switch n w s).queues.low ≡ s.queues.low
unfolding put_switch set_switch set_place on_thread
switch_low n w s none = rw none refl

stopped_resumes : (f m : ℕ) (ms : List ℕ) (s : Core) → s.queues.switch ≡ None → callers_of f s ≡ m ∷ ms → resumed_from f (put_switch (newest m ms) why.Resumption (set_callers f (older m ms) s)) ≡ stopped f s
unfolding resumed_from stopped
stopped_resumes f m ms s none e =
    ap₂ (λ (l : List ℕ) (c : Core). resumed_all l c)
    (switch_callers f (newest m ms) why.Resumption (set_callers f (older m ms) s) (ap (λ (q : Queues). q.switch) (queues_uncalled f (older m ms) s) ∙ none) ∙ callers_own f (older m ms) s)
    (switch_uncalled f (newest m ms) (older m ms) s none)
    ∙ ap₂ (λ (o : Option ℕ) (l : List ℕ). passed_on o l (set_callers f [] s)) (sym none) (sym e)

older_unqueued : (f m n : ℕ) (ms : List ℕ) (s : Core) → s.queues.switch ≡ None → callers_of f s ≡ m ∷ ms → AreCallersUnqueued f s → AreCallersUnqueued f (put_switch n why.Resumption (set_callers f (older m ms) s))
older_unqueued f m n ms s none e out = λ k.
    let t = set_callers f (older m ms) s in
    let none_t : t.queues.switch ≡ None = ap (λ (q : Queues). q.switch) (queues_uncalled f (older m ms) s) ∙ none in
    let x = ap (times k) e ∙ times-newest k m ms in
    let y = ap (times k) (switch_callers f n why.Resumption t none_t ∙ callers_own f (older m ms) s) in
    let h = ap (entries k) (switch_high n why.Resumption t none_t ∙ ap (λ (q : Queues). q.high) (queues_uncalled f (older m ms) s)) in
    let l = ap (entries k) (switch_low n why.Resumption t none_t ∙ ap (λ (q : Queues). q.low) (queues_uncalled f (older m ms) s)) in
    let q = out k in
    omega (arith, x, y, h, l, q)

newest_is : (f n : TableId ThreadKey) (s t u : StateView) → t ≡ on_core (set_callers (thread_of s f) (older_of (callers_of (thread_of s f) s.core))) s → u ≡ on_core (put_switch (thread_of t n) why.Resumption) t → u ≡ on_core (λ c. put_switch (thread_of s n) why.Resumption (set_callers (thread_of s f) (older_of (callers_of (thread_of s f) s.core)) c)) s
newest_is f n s t u e d = rw (d, e) refl

pub newest_unqueued : (f n : TableId ThreadKey) (s t u : StateView) → None ≡ s.core.queues.switch → Some (thread_of s n) ≡ newest_of (callers_of (thread_of s f) s.core) → t ≡ on_core (set_callers (thread_of s f) (older_of (callers_of (thread_of s f) s.core))) s → u ≡ on_core (put_switch (thread_of t n) why.Resumption) t → AreCallersUnqueued (thread_of s f) s.core → AreCallersUnqueued (thread_of u f) u.core
newest_unqueued f n s t u none last e d out =
    let F = thread_of s f in
    let N = thread_of s n in
    let is = last_listed N (callers_of F s.core) last in
    subst (λ (v : StateView). AreCallersUnqueued (thread_of v f) v.core) (sym (newest_is f n s t u e d))
    (subst (λ (l : List ℕ). AreCallersUnqueued F (put_switch N why.Resumption (set_callers F (older_of l) s.core))) (sym is.1.1.0) (older_unqueued F is.0 N is.1.0 s.core (sym none) is.1.1.0 out))

pub stop_resumes : (f n : TableId ThreadKey) (s t u v : StateView) → None ≡ s.core.queues.switch → Some (thread_of s n) ≡ newest_of (callers_of (thread_of s f) s.core) → t ≡ on_core (set_callers (thread_of s f) (older_of (callers_of (thread_of s f) s.core))) s → u ≡ on_core (put_switch (thread_of t n) why.Resumption) t → v ≡ on_core (resumed_from (thread_of u f)) u → v ≡ on_core (stopped (thread_of s f)) s
stop_resumes f n s t u v none last e d b =
    let F = thread_of s f in
    let N = thread_of s n in
    let is = last_listed N (callers_of F s.core) last in
    b ∙ (ap (λ (w : StateView). on_core (resumed_from (thread_of w f)) w) (newest_is f n s t u e d)
    ∙ ap (λ (c : Core). with_core c s)
    (ap₂ (λ (l : List ℕ) (k : ℕ). resumed_from F (put_switch k why.Resumption (set_callers F (older_of l) s.core))) is.1.1.0 (sym is.1.1.1) ∙ stopped_resumes F is.0 is.1.0 s.core (sym none) is.1.1.0))

pub stop_ends : (f : TableId ThreadKey) (s t : StateView) → None ≡ s.core.queues.switch → None ≡ newest_of (callers_of (thread_of s f) s.core) → t ≡ on_core (set_callers (thread_of s f) (older_of (callers_of (thread_of s f) s.core))) s → t ≡ on_core (stopped (thread_of s f)) s
unfolding stopped
stop_ends f s t none last e = e ∙ rw (← none, empty (callers_of (thread_of s f) s.core) last) refl
  where
    empty : (ns : List ℕ) → None ≡ newest_of ns → ns ≡ []
    empty [] e = refl
    empty (m ∷ ns) e = absurd (no_both e)
      where
        no_both : None ≡ Some (newest m ns) → ⊥
        no_both e = cc

pub no_switch_queued : (f : TableId ThreadKey) (ns : List ℕ) (s t : StateView) → None ≡ s.core.queues.switch → t ≡ on_core (set_callers (thread_of s f) ns) s → IsSwitchUnqueued t.core
unfolding set_callers
no_switch_queued f ns s t none e = λ m at. absurd (no_both (none ∙ (sym (ap (λ (v : StateView). v.core.queues.switch) e) ∙ at)))
  where
    no_both : {m : ℕ} → None ≡ Some m → ⊥
    no_both e = cc
