-- From facts of each step to all that is once in a run.
use Rattle.laws_states.proofs.Primitives.{[], answering, answers_return, ap, arith, Bool, CallLabel, changes_end, Component, cond, Core, covers_end, direct_answered, direct_return, doing_of, end_code, end_for, EndsOnce, event_of, false, get, handed, handed_by, handed_in, hands_out_written, history, op_progress_of, OpProgress, inl, inr, is_answered, is_end_of, is_known, is_other, is_some, is_written, Label, last_return, List, Moment, nat_tests, no_way, None, not, Option, option_map_or, refl, Run, same_subtask, Setting, Some, State, Status, Step, subst, Subtask, SubtaskEnd, sum_by-cons, sym, sync_answered, true, undelivered_end, with_end, with_return, writes_end, written, ℕ, ⊎_elim, ◌&&◌, ◌+◌, ◌==◌, ◌||◌, ◌∙◌, ◌∷◌, ◌≡◌, ◌≤◌, ◌⊎◌}
use Rattle.std.specs.Prelude.{count_by}
use Rattle.laws_states.proofs.Works.{due_in}

-- ---- The same end

same_is : (a b : Subtask) → same_subtask a b ≡ true → a ≡ b
same_is a b h = grind (arith, nat_tests)

known_now : (o : Option SubtaskEnd) (ends : List SubtaskEnd) (e : SubtaskEnd) → (is_known ends (Some e) ≡ true) ⊎ (o ≡ Some e) →
    is_known (with_end o ends) (Some e) ≡ true
known_now o ends e (inl known) = grind arith
known_now o ends e (inr is) = rw is (grind (arith, nat_tests))

-- the end of which a test speaks
pub end_there : (sub : Subtask) (o : Option SubtaskEnd) → is_end_of sub o ≡ true → (e : Status) × (o ≡ Some (end_for e sub))
end_there sub None h = absurd (cc)
end_there sub (Some x) h = let same = same_is sub x.subtask h in (x.status, rw same)

-- ---- Steps

-- its number was given
abbrev pub Given : Subtask → Core → Type 0
Given (Subtask.Guest k) s = k ≤ s.made.threads
Given (Subtask.Host i) s = i ≤ s.made.works

-- the end of which this is the code has come, or its subtask is gone
abbrev pub is_over_code : Option ℕ → Bool
is_over_code o = option_map_or (λ e. not (e == 0)) o true

-- the subtask was made, and has come to its end or is gone
abbrev pub Over : Subtask → Core → Type 0
Over sub s = Given sub s × (is_over_code (end_code sub s) ≡ true)

-- From s to t a subtask that was there was made, and one that is over stays so, with its end.
pub record Keeps (s t : Core) (sub : Subtask) : Type 0 where
  pub made : is_some (end_code sub s) ≡ true → Given sub s
  pub counted : Given sub s → Given sub t
  pub same : Given sub s → is_over_code (end_code sub s) ≡ true → (end_code sub t ≡ None) ⊎ (end_code sub t ≡ end_code sub s)

module _ {s t : Core} {sub : Subtask} (q : Keeps s t sub) where
  over_same : (o p : Option ℕ) → (p ≡ None) ⊎ (p ≡ o) → is_over_code o ≡ true → (is_over_code p ≡ true) × (is_written o p ≡ false)
  over_same o p h over = grind (arith, nat_tests)

  now_over : (o p : Option ℕ) → is_written o p ≡ true → (is_some o ≡ true) × (is_over_code p ≡ true)
  now_over o p w = grind (arith, nat_tests)

  pub over_stays : Over sub s → Over sub t
  over_stays over = (q.counted over.0, (over_same _ _ (q.same over.0 over.1) over.1).0)

  pub over_changes : is_written (end_code sub s) (end_code sub t) ≡ true → (Over sub s → ⊥) × Over sub t
  over_changes w = let n = now_over _ _ w in
      (λ over. no_way (sym (over_same _ _ (q.same over.0 over.1) over.1).1 ∙ w), (q.counted (q.made n.0), n.1))

-- where each end is the same none is covered
pub covers_none : (o p : Option Status) → ((e f : Status) → o ≡ Some e → p ≡ Some f → e ≡ f) → is_other o p ≡ true → ⊥
covers_none None p same covers = no_way covers
covers_none (Some e) None same covers = no_way covers
covers_none (Some e) (Some f) same covers = let one = same e f refl refl in grind (arith, nat_tests)

-- it has this end to hand out: by its event, as a result for main, or once its work is looked after
abbrev pub Due : Subtask → Status → Core → Type 0
Due (Subtask.Guest k) e s = (undelivered_end (event_of (Subtask.Guest k) s) ≡ Some e) ⊎
    ((e ≡ Status.Returned) × (is_some (get s.results k) ≡ true))
Due (Subtask.Host i) e s = due_in (doing_of i s) ≡ Some e

-- it has ended, and nothing of it is to be handed out
abbrev pub Out : Subtask → Core → Type 0
Out sub s = Over sub s × ((e : Status) → Due sub e s → ⊥)

-- an end that the step hands out or, of a direct call, gives to the thread under it
abbrev pub given : Component → Moment → Option SubtaskEnd
given c m = handed_by c m.before.main m.before.core m.label m.after.core

-- What each step owes of a subtask.
pub record EndStep (c : Component) (m : Moment) (sub : Subtask) : Type 0 where
  pub keeps : Keeps m.before.core m.after.core sub
  pub over : (e : Status) → Due sub e m.before.core → Over sub m.before.core
  pub covers : covers_end sub m ≡ true → ⊥
  pub says : (e : Status) → written c m ≡ Some (end_for e sub) → (Over sub m.before.core → ⊥) × Over sub m.after.core
  pub comes : (e : Status) → Due sub e m.after.core → Due sub e m.before.core ⊎ (written c m ≡ Some (end_for e sub))
  pub hands : (e : Status) → given c m ≡ Some (end_for e sub) →
      (Due sub e m.before.core ⊎ (written c m ≡ Some (end_for e sub))) × ((f : Status) → Due sub f m.after.core → ⊥)

-- the thread has what its direct call returned
abbrev pub HasValue : ℕ → Core → Type 0
HasValue n s = is_answered (op_progress_of n s) ≡ true

-- What each step owes of direct calls: a thread has a value once its direct call has returned to it, and has none once it has answered.
pub record ReturnStep (m : Moment) : Type 0 where
  pub comes : (n : ℕ) → HasValue n m.after.core →
      HasValue n m.before.core ⊎ ((k : ℕ) × (direct_return m.before.core m.label ≡ Some (n, k)))
  pub done : (n : ℕ) → sync_answered m.label ≡ Some n → op_progress_of n m.after.core ≡ OpProgress.Fresh

module _ {c : Component} {m : Moment} {sub : Subtask} (q : EndStep c m sub) where
  writes : writes_end c sub m ≡ true → (Over sub m.before.core → ⊥) × Over sub m.after.core
  writes w = by (either _ _ _ w)
    where
      either : (a b c : Bool) → (a || (b || c)) ≡ true → (a ≡ true) ⊎ ((b ≡ true) ⊎ (c ≡ true))
      either a b c h = grind arith

      by : (is_end_of sub (written c m) ≡ true) ⊎ ((changes_end sub m ≡ true) ⊎ (covers_end sub m ≡ true)) →
          (Over sub m.before.core → ⊥) × Over sub m.after.core
      by (inl h) = let r = end_there sub (written c m) h in q.says r.0 r.1
      by (inr (inl h)) = over_changes q.keeps h
      by (inr (inr h)) = absurd (q.covers h)

  none_comes : Out sub m.before.core → (e : Status) → Due sub e m.before.core ⊎ (written c m ≡ Some (end_for e sub)) → ⊥
  none_comes out e = ⊎_elim (out.1 e) (λ is. (q.says e is).0 out.0)

  out_stays : Out sub m.before.core → Out sub m.after.core
  out_stays out = (over_stays q.keeps out.0, λ e due. none_comes out e (q.comes e due))

  pub due_over : (e : Status) → Due sub e m.before.core ⊎ (written c m ≡ Some (end_for e sub)) → Over sub m.after.core
  due_over e = ⊎_elim (λ due. over_stays q.keeps (q.over e due)) (λ is. (q.says e is).1)

  hands_now : (e : Status) → given c m ≡ Some (end_for e sub) → (Out sub m.before.core → ⊥) × Out sub m.after.core
  hands_now e is = let out = q.hands e is in (λ was. none_comes was e out.0, (due_over e out.0, out.1))

-- ---- Runs

-- one step more, for which b says whether it passes
one_more : {Q R : Type 0} (b : Bool) (n : ℕ) → (b ≡ true → (Q → ⊥) × R) → (Q → R) → (n ≤ 1) × (R → n ≡ 0) →
    (cond b 1 0 + n ≤ 1) × (Q → cond b 1 0 + n ≡ 0)
one_more true n now stays rest = let r = now refl in (omega (arith, rest.1 r.1), λ is. absurd (r.0 is))
one_more false n now stays rest = (omega (arith, rest.0), λ is. omega (arith, rest.1 (stays is)))

-- where each step for which p passes makes Q true, Q stays, and p passes for no step where Q holds, p passes at most once
module _ (x : Setting) (Inv : State → Type 0) (inv_stays : (s : State) (l : Label) (t : State) → Inv s → Step x s l t → Inv t)
    (p : Moment → Bool) (Q : Core → Type 0)
    (facts : (s : State) (l : Label) (t : State) → Inv s → Step x s l t →
    (p (record { before = s; label = l; after = t }) ≡ true → (Q s.core → ⊥) × Q t.core) × (Q s.core → Q t.core)) where
  passes : (s : State) → Inv s → (ls : List Label) (t : State) → (run : Run x s ls t) →
      (count_by p (history x s ls t run) ≤ 1) × (Q s.core → count_by p (history x s ls t run) ≡ 0)
  passes s inv [] t run = (omega arith, λ is. refl)
  passes s inv (l ∷ ls) t run =
      let m : Moment = record { before = s; label = l; after = run.0 } in let f = facts s l run.0 inv run.1.0 in
      rw (sum_by-cons (λ m. cond (p m) 1 0) m (history x run.0 ls t run.1.1))
      (one_more (p m) _ f.0 f.1 (passes run.0 (inv_stays s l run.0 inv run.1.0) ls t run.1.1))

  pub counts_once : (s : State) → Inv s → (ls : List Label) (t : State) → (run : Run x s ls t) → count_by p (history x s ls t run) ≤ 1
  counts_once s inv ls t run = (passes s inv ls t run).0

-- ---- Direct calls

-- the direct call k returned to the thread n, which has its value
abbrev pub IsHeld : List (ℕ × ℕ) → Core → ℕ → ℕ → Type 0
IsHeld rs s n k = HasValue n s × (last_return n rs ≡ Some k)

-- What is so of the direct returns of a run: a thread with a value has it of one of them, which no other thread has; and that call's end
-- was given to it.
pub record Returned (rs : List (ℕ × ℕ)) (s : Core) : Type 0 where
  pub known : (n : ℕ) → HasValue n s → (k : ℕ) × (last_return n rs ≡ Some k)
  pub out : (n k : ℕ) → IsHeld rs s n k → Out (Subtask.Guest k) s
  pub alone : (n m k : ℕ) → IsHeld rs s n k → IsHeld rs s m k → n ≡ m

-- the subtask is none whose value a thread has
abbrev pub NotHeld : List (ℕ × ℕ) → Core → Subtask → Type 0
NotHeld rs s sub = (n k : ℕ) → sub ≡ Subtask.Guest k → IsHeld rs s n k → ⊥

return_given : (c : Component) (m : Moment) (r : ℕ × ℕ) → direct_return m.before.core m.label ≡ Some r →
    (given c m ≡ Some (end_for Status.Returned (Subtask.Guest r.1))) × (written c m ≡ Some (end_for Status.Returned (Subtask.Guest r.1)))
return_given c m r is = (grind (arith, is), grind (arith, is))

-- a step in which a direct call returns answers none
return_apart : (m : Moment) (r : ℕ × ℕ) (n : ℕ) → direct_return m.before.core m.label ≡ Some r → sync_answered m.label ≡ Some n → ⊥
return_apart m r n is answers = grind (arith, is, answers)

answers_of : (s : Core) (l : Label) (n : ℕ) → direct_answered s l ≡ Some n → (sync_answered l ≡ Some n) × HasValue n s
answers_of s l n is = (grind (arith, is), grind (arith, is))

same_in : (d sub : Subtask) (e f : Status) → Some (end_for e d) ≡ Some (end_for f sub) → d ≡ sub
same_in d sub e f is = ap (λ (o : Option SubtaskEnd). option_map_or (λ (x : SubtaskEnd). x.subtask) o d) is

same_status : (d sub : Subtask) (e f : Status) → Some (end_for e d) ≡ Some (end_for f sub) → e ≡ f
same_status d sub e f is = ap (λ (o : Option SubtaskEnd). option_map_or (λ (x : SubtaskEnd). x.status) o e) is

shown_answer : (l : Label) (n : ℕ) → sync_answered l ≡ Some n → (v : ℕ) × (l ≡ Label.Call (CallLabel.CallSync n v))
shown_answer (Label.Call (CallLabel.CallSync j v)) n is = (v, ap (λ (o : Option ℕ). Label.Call (CallLabel.CallSync (option_map_or (λ (i : ℕ). i) o j) v)) is)
shown_answer l n is = absurd (cc)

value_of : (f : OpProgress) → is_answered f ≡ true → (v : ℕ) × (f ≡ OpProgress.Answered v)
value_of (OpProgress.Answered v) is = (v, refl)
value_of f is = absurd (cc)

-- what the label hands out, where no direct call returns
label_hands : (c : Component) (rs : List (ℕ × ℕ)) (m : Moment) → direct_return m.before.core m.label ≡ None → (sub : Subtask) (e : Status) →
    given c m ≡ Some (end_for e sub) → handed c rs m ≡ Some (end_for e sub)
label_hands c rs m none sub e says = grind (arith, none, says)

-- what the answer of a thread with a value hands out
answer_hands : (c : Component) (rs : List (ℕ × ℕ)) (m : Moment) (n k : ℕ) → sync_answered m.label ≡ Some n → HasValue n m.before.core →
    last_return n rs ≡ Some k → handed c rs m ≡ Some (end_for Status.Returned (Subtask.Guest k))
answer_hands c rs m n k answers has last =
    let shown = (shown_answer m.label n answers).1 in let value = (value_of (op_progress_of n m.before.core) has).1 in
    grind (arith, nat_tests, shown, value, last)

-- with the direct call that returns
last_after : (n : ℕ) (o : Option (ℕ × ℕ)) (rs : List (ℕ × ℕ)) (k : ℕ) → last_return n (option_map_or (λ r. r ∷ rs) o rs) ≡ Some k →
    (last_return n rs ≡ Some k) ⊎ (o ≡ Some (n, k))
last_after n None rs k at = inl at
last_after n (Some r) rs k at = by (n == r.0) refl
  where
    by : (b : Bool) → (n == r.0) ≡ b → (last_return n rs ≡ Some k) ⊎ (Some r ≡ Some (n, k))
    by true is = let same : n ≡ r.0 = grind (arith, nat_tests, is) in let one : r.1 ≡ k = grind (arith, is, at) in inr (grind (arith, same, one))
    by false is = inl (grind (arith, is, at))

last_now : (n k : ℕ) (rs : List (ℕ × ℕ)) → last_return n ((n, k) ∷ rs) ≡ Some k
last_now n k rs = grind (arith, nat_tests)

-- what a step makes of the direct returns
module _ {c : Component} {m : Moment} {rs : List (ℕ × ℕ)} (q : (sub : Subtask) → EndStep c m sub) (d : ReturnStep m)
    (h : Returned rs m.before.core) where
  abbrev now : List (ℕ × ℕ)
  now = with_return m rs

  abbrev Returns : ℕ → ℕ → Type 0
  Returns n k = direct_return m.before.core m.label ≡ Some (n, k)

  -- who has a value had it before the step, or its direct call returns in it
  had : (n k : ℕ) → IsHeld now m.after.core n k → IsHeld rs m.before.core n k ⊎ Returns n k
  had n k (has, at) = ⊎_elim
      (λ was. ⊎_elim (λ same. inl (was, same)) inr (last_after n (direct_return m.before.core m.label) rs k at))
      (λ r. inr (r.1 ∙ ap (λ j. Some (n, j)) (one r.0 r.1))) (d.comes n has)
    where
      one : (j : ℕ) → Returns n j → j ≡ k
      one j is = let first : last_return n now ≡ Some j = rw is (last_now n j rs) in grind (arith, first, at)

  -- the call that returns wasn't over
  fresh_return : (n k : ℕ) → Returns n k → (Out (Subtask.Guest k) m.before.core → ⊥) × Out (Subtask.Guest k) m.after.core
  fresh_return n k is = hands_now (q (Subtask.Guest k)) Status.Returned (return_given c m (n, k) is).0

  pub returned_after : Returned now m.after.core
  returned_after = record {
    known = λ n has. ⊎_elim (λ was. last n (h.known n was)) (λ r. (r.0, rw r.1 (last_now n r.0 rs))) (d.comes n has);
    out = λ n k held. ⊎_elim (λ was. out_stays (q (Subtask.Guest k)) (h.out n k was)) (λ r. (fresh_return n k r).1) (had n k held);
    alone = λ n j k held other. both n j k (had n k held) (had j k other);
  }
    where
      last : (n : ℕ) → (k : ℕ) × (last_return n rs ≡ Some k) → (k : ℕ) × (last_return n now ≡ Some k)
      last n r = by (direct_return m.before.core m.label) refl
        where
          by : (o : Option (ℕ × ℕ)) → direct_return m.before.core m.label ≡ o → (k : ℕ) × (last_return n (option_map_or (λ r. r ∷ rs) o rs) ≡ Some k)
          by None is = r
          by (Some p) is = first (n == p.0) refl
            where
              first : (b : Bool) → (n == p.0) ≡ b → (k : ℕ) × (last_return n (p ∷ rs) ≡ Some k)
              first true e = (p.1, rw e refl)
              first false e = (r.0, rw e r.1)

      both : (n j k : ℕ) → IsHeld rs m.before.core n k ⊎ Returns n k → IsHeld rs m.before.core j k ⊎ Returns j k → n ≡ j
      both n j k (inl was) (inl too) = h.alone n j k was too
      both n j k (inl was) (inr now) = absurd ((fresh_return j k now).0 (h.out n k was))
      both n j k (inr now) (inl was) = absurd ((fresh_return n k now).0 (h.out j k was))
      both n j k (inr now) (inr too) = grind (arith, now, too)

  -- ---- What the step hands out

  -- by its label, where no direct call returns; or by the answer of a thread that had a value
  hands_by : (sub : Subtask) → is_end_of sub (handed c rs m) ≡ true →
      ((direct_return m.before.core m.label ≡ None) × ((e : Status) × (given c m ≡ Some (end_for e sub))))
      ⊎ ((n : ℕ) × ((k : ℕ) × ((sub ≡ Subtask.Guest k) × ((sync_answered m.label ≡ Some n) × IsHeld rs m.before.core n k))))
  hands_by sub is = by (direct_return m.before.core m.label) refl
    where
      by : (o : Option (ℕ × ℕ)) → direct_return m.before.core m.label ≡ o →
          ((direct_return m.before.core m.label ≡ None) × ((e : Status) × (given c m ≡ Some (end_for e sub))))
          ⊎ ((n : ℕ) × ((k : ℕ) × ((sub ≡ Subtask.Guest k) × ((sync_answered m.label ≡ Some n) × IsHeld rs m.before.core n k))))
      by (Some r) at = absurd (grind (arith, at, is))
      by None at = label (given c m) refl
        where
          label : (o : Option SubtaskEnd) → given c m ≡ o →
              ((direct_return m.before.core m.label ≡ None) × ((e : Status) × (given c m ≡ Some (end_for e sub))))
              ⊎ ((n : ℕ) × ((k : ℕ) × ((sub ≡ Subtask.Guest k) × ((sync_answered m.label ≡ Some n) × IsHeld rs m.before.core n k))))
          label (Some e) says = inl (at, let r = end_there sub (Some e) (grind (arith, at, says, is)) in (r.0, says ∙ r.1))
          label None says = answer (answering m) refl
            where
              answer : (o : Option ℕ) → answering m ≡ o →
                  ((direct_return m.before.core m.label ≡ None) × ((e : Status) × (given c m ≡ Some (end_for e sub))))
                  ⊎ ((n : ℕ) × ((k : ℕ) × ((sub ≡ Subtask.Guest k) × ((sync_answered m.label ≡ Some n) × IsHeld rs m.before.core n k))))
              answer None none = absurd (grind (arith, at, says, none, is))
              answer (Some n) shows =
                  let a = answers_of m.before.core m.label n shows in
                  let r = h.known n a.1 in
                  let e = end_there sub (Some (end_for Status.Returned (Subtask.Guest r.0))) (let last = r.1 in grind (arith, at, says, shows, last, is)) in
                  inr (n, (r.0, (sym (same_in (Subtask.Guest r.0) sub Status.Returned e.0 e.1), (a.0, (a.1, r.1)))))

  -- after it nothing of the subtask is to be handed out
  pub hands_last : (sub : Subtask) → is_end_of sub (handed c rs m) ≡ true →
      ((Out sub m.before.core × NotHeld rs m.before.core sub) → ⊥) × (Out sub m.after.core × NotHeld now m.after.core sub)
  hands_last sub is = by (hands_by sub is)
    where
      by : ((direct_return m.before.core m.label ≡ None) × ((e : Status) × (given c m ≡ Some (end_for e sub))))
          ⊎ ((n : ℕ) × ((k : ℕ) × ((sub ≡ Subtask.Guest k) × ((sync_answered m.label ≡ Some n) × IsHeld rs m.before.core n k)))) →
          ((Out sub m.before.core × NotHeld rs m.before.core sub) → ⊥) × (Out sub m.after.core × NotHeld now m.after.core sub)
      by (inl (none, (e, says))) =
          let out = hands_now (q sub) e says in (
            λ was. out.0 was.0,
            (
              out.1,
              λ n k same held. ⊎_elim (λ was. out.0 (subst (λ g. Out g m.before.core) (sym same) (h.out n k was)))
                  (λ r. absurd (grind (arith, none, r))) (had n k held),
            ),
          )
      by (inr (n, (k, (same, (answers, held))))) = (
        λ was. was.1 n k same held,
        (
          out_stays (q sub) (subst (λ g. Out g m.before.core) (sym same) (h.out n k held)),
          λ j i other too. ⊎_elim (λ was. gone j (h.alone j n k (again j i other was) held) too.0) (λ r. return_apart m (j, i) n r answers) (had j i too),
        ),
      )
        where
          again : (j i : ℕ) → sub ≡ Subtask.Guest i → IsHeld rs m.before.core j i → IsHeld rs m.before.core j k
          again j i other was = let one : i ≡ k = cc in subst (λ (g : ℕ). IsHeld rs m.before.core j g) one was

          gone : (j : ℕ) → j ≡ n → HasValue j m.after.core → ⊥
          gone j is has = let fresh = d.done n answers in absurd (grind (arith, is, has, fresh))

  pub none_stays : (sub : Subtask) → Out sub m.before.core × NotHeld rs m.before.core sub → Out sub m.after.core × NotHeld now m.after.core sub
  none_stays sub (out, free) = (
    out_stays (q sub) out,
    λ n k same held. ⊎_elim (λ was. free n k same was) (λ r. (fresh_return n k r).0 (subst (λ g. Out g m.before.core) same out)) (had n k held),
  )

module _ (x : Setting) (Inv : State → Type 0)
    (inv_stays : (s : State) (l : Label) (t : State) → Inv s → Step x s l t → Inv t)
    (facts : (s : State) (l : Label) (t : State) → Inv s → Step x s l t → (sub : Subtask) → EndStep x.component
    (record { before = s; label = l; after = t }) sub)
    (returns : (s : State) (l : Label) (t : State) → Inv s → Step x s l t → ReturnStep (record { before = s; label = l; after = t })) where
  -- what is handed out from here on
  hands_once : (sub : Subtask) (rs : List (ℕ × ℕ)) (s : State) → Inv s → Returned rs s.core → (ls : List Label) (t : State) → (run : Run x s ls t) →
      (count_by (is_end_of sub) (handed_in x.component rs (history x s ls t run)) ≤ 1) ×
      (Out sub s.core × NotHeld rs s.core sub → count_by (is_end_of sub) (handed_in x.component rs (history x s ls t run)) ≡ 0)
  hands_once sub rs s inv h [] t run = (omega arith, λ is. refl)
  hands_once sub rs s inv h (l ∷ ls) t run =
      let m : Moment = record { before = s; label = l; after = run.0 } in
      let q : (sub : Subtask) → EndStep x.component m sub = facts s l run.0 inv run.1.0 in
      let d : ReturnStep m = returns s l run.0 inv run.1.0 in
      rw (sum_by-cons (λ e. cond (is_end_of sub e) 1 0) (handed x.component rs m) (handed_in x.component (with_return m rs) (history x run.0 ls t run.1.1)))
      (one_more (is_end_of sub (handed x.component rs m)) _ (hands_last q d h sub) (none_stays q d h sub)
      (hands_once sub (with_return m rs) run.0 (inv_stays s l run.0 inv run.1.0) (returned_after q d h) ls t run.1.1))

  -- the ends that threads have of direct calls are known
  abbrev HeldKnown : List (ℕ × ℕ) → List SubtaskEnd → Core → Type 0
  HeldKnown rs ends s = (n k : ℕ) → IsHeld rs s n k → is_known ends (Some (end_for Status.Returned (Subtask.Guest k))) ≡ true

  all_known : (rs : List (ℕ × ℕ)) (ends : List SubtaskEnd) (s : State) → Inv s → Returned rs s.core → HeldKnown rs ends s.core →
      ((sub : Subtask) (e : Status) → Due sub e s.core → is_known ends (Some (end_for e sub)) ≡ true) → (ls : List Label) (t : State) →
      (run : Run x s ls t) → hands_out_written x.component rs ends (history x s ls t run) ≡ true
  all_known rs ends s inv h held known [] t run = refl
  all_known rs ends s inv h held known (l ∷ ls) t run =
      both_so _ _ _ (each_known (handed x.component rs m) handed_known) (answer_known (answering m) refl)
      (all_known (with_return m rs) known_on run.0 (inv_stays s l run.0 inv run.1.0) (returned_after q d h) held_on (λ sub e due. now sub e ((q sub).comes e due)) ls t run.1.1)
    where
      m : Moment
      m = record { before = s; label = l; after = run.0 }

      q : (sub : Subtask) → EndStep x.component m sub
      q = facts s l run.0 inv run.1.0

      d : ReturnStep m
      d = returns s l run.0 inv run.1.0

      known_on : List SubtaskEnd
      known_on = with_end (written x.component m) ends

      now : (sub : Subtask) (e : Status) → Due sub e s.core ⊎ (written x.component m ≡ Some (end_for e sub)) → is_known known_on (Some (end_for e sub)) ≡ true
      now sub e due = known_now (written x.component m) ends (end_for e sub) (⊎_elim (λ d. inl (known sub e d)) (λ is. inr is) due)

      still : (n k : ℕ) → IsHeld rs s.core n k → is_known known_on (Some (end_for Status.Returned (Subtask.Guest k))) ≡ true
      still n k was = known_now (written x.component m) ends (end_for Status.Returned (Subtask.Guest k)) (inl (held n k was))

      held_on : HeldKnown (with_return m rs) known_on run.0.core
      held_on n k has = ⊎_elim (λ was. still n k was)
          (λ r. known_now (written x.component m) ends (end_for Status.Returned (Subtask.Guest k)) (inr (return_given x.component m (n, k) r).1)) (had q d h n k has)

      handed_known : (sub : Subtask) (e : Status) → handed x.component rs m ≡ Some (end_for e sub) → is_known known_on (Some (end_for e sub)) ≡ true
      handed_known sub e is = by (hands_by q d h sub (ap (is_end_of sub) is ∙ own sub e))
        where
          own : (sub : Subtask) (e : Status) → is_end_of sub (Some (end_for e sub)) ≡ true
          own sub e = grind (arith, nat_tests)

          by : ((direct_return m.before.core m.label ≡ None) × ((f : Status) × (given x.component m ≡ Some (end_for f sub))))
              ⊎ ((n : ℕ) × ((k : ℕ) × ((sub ≡ Subtask.Guest k) × ((sync_answered m.label ≡ Some n) × IsHeld rs m.before.core n k)))) →
              is_known known_on (Some (end_for e sub)) ≡ true
          by (inl (none, (f, says))) =
              let same : f ≡ e = same_status sub sub f e (sym (label_hands x.component rs m none sub f says) ∙ is) in
              now sub e (subst (λ (g : Status). Due sub g s.core ⊎ (written x.component m ≡ Some (end_for g sub))) same ((q sub).hands f says).0)
          by (inr (n, (k, (same, (answers, has))))) =
              let out = answer_hands x.component rs m n k answers has.0 has.1 in
              let returned : Status.Returned ≡ e = same_status (Subtask.Guest k) sub Status.Returned e (sym out ∙ is) in
              subst (λ (g : Status). is_known known_on (Some (end_for g sub)) ≡ true) returned
              (subst (λ (g : Subtask). is_known known_on (Some (end_for Status.Returned g)) ≡ true) (sym same) (still n k has))

      answer_known : (o : Option ℕ) → answering m ≡ o → answers_return rs m ≡ true
      answer_known None is = grind (arith, is)
      answer_known (Some n) is = let r = h.known n (answers_of s.core l n is).1 in let last = r.1 in grind (arith, is, last)

      both_so : (a b c : Bool) → a ≡ true → b ≡ true → c ≡ true → (a && (b && c)) ≡ true
      both_so a b c h k j = grind arith

      each_known : (o : Option SubtaskEnd) → ((sub : Subtask) (e : Status) → o ≡ Some (end_for e sub) → is_known known_on (Some (end_for e sub)) ≡ true) →
          is_known known_on o ≡ true
      each_known None h = refl
      each_known (Some e) h = h e.subtask e.status refl

  pub ends_once : (s : State) → Inv s → ((sub : Subtask) (e : Status) → Due sub e s.core → ⊥) → ((n : ℕ) → HasValue n s.core → ⊥) →
      (ls : List Label) (t : State) → (run : Run x s ls t) → EndsOnce x.component (history x s ls t run)
  ends_once s inv none empty ls t run =
      let first : Returned [] s.core = record {
        known = λ n has. absurd (empty n has);
        out = λ n k held. absurd (empty n held.0);
        alone = λ n m k held other. absurd (empty n held.0);
      } in
      record {
        written_once = λ sub. counts_once x Inv inv_stays (writes_end x.component sub) (Over sub)
            (λ s l t inv step. let q = facts s l t inv step sub in (writes q, over_stays q.keeps)) s inv ls t run;
        handed_once = λ sub. (hands_once sub [] s inv first ls t run).0;
        as_written = all_known [] [] s inv first (λ n k held. absurd (empty n held.0)) (λ sub e due. absurd (none sub e due)) ls t run;
      }
