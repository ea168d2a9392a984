-- What is told, one after another.
use Rattle.std.proofs.lemmas.Bool.{eq-eqb, ne_eqb}
use Rattle.std.proofs.lemmas.Bool.Decides.{nat_tests}
use Rattle.std.proofs.lemmas.List.{map-append, take_all}
use Rattle.std.proofs.Math.Seq.{take-suc}
use Rattle.std.proofs.Common.{ap, ap₂, append-nil, append_assoc, arith, get_or, inl, inr, length, not, refl, subst, suc, sym, take, ◌+◌, ◌||◌, ◌∙◌, ◌≤◌}
use Rattle.std.specs.Prelude.{Bool, Err, IsErr, List, Ok, OnErr, OnOk, Option, None, Result, Some, [], false, if◌then◌else◌, is_some, true, ℕ, ◌++◌, ◌<◌, ◌==◌, ◌↔◌, ◌∷◌, ◌≡◌, ◌⊎◌, ⊤}
use Rattle.store_notices.specs.Moves.{AnswersAsHook, StopsAt, TellsAsFar, finishes, moved, one, switched}
use Rattle.store_notices.specs.declared.tells.GroupsBefore.{GroupsBefore}
use Rattle.std.specs.Option.{option_map_or}
use Rattle.task_group.specs.Heard.{Heard}
use Rattle.task_group.proofs.GroupLemmas.{none_hook_is_ok, still_hook_is_ok, told-append, told-none}
use Rattle.task_group.specs.declared.notice.HookError.{HookError}
use Rattle.task_group.specs.Listeners.{AnsweredErr, Listeners, ToldListeners, ToldWithHookOk, errors_of}
use Rattle.machine_data.specs.declared.records.Notice.{Notice}
use Rattle.machine_data.specs.declared.records.NoticeKind.{NoticeKind}
use Rattle.machine_data.specs.declared.records.NoticeKind.TheVariants as notice
use Rattle.machine_rules.specs.Notices.{around, told_of}

pub with_hook_ok : (ns : List Notice) (a b : Listeners) → ToldListeners ns a b → errors_of b ≡ errors_of a → ToldWithHookOk ns a b
with_hook_ok ns a b told hook_is_ok = record { told = told; hook_is_ok = hook_is_ok }

pub none_told : (a : Listeners) → ToldWithHookOk [] a a
none_told a = with_hook_ok [] a a (told-none a) refl

-- one part after another in which the hook answers no error
pub hook_is_ok_then : (xs ys : List Notice) (a b c : Listeners) → ToldWithHookOk xs a b → ToldWithHookOk ys b c → ToldWithHookOk (xs ++ ys) a c
hook_is_ok_then xs ys a b c p q = with_hook_ok (xs ++ ys) a c (told-append xs ys a b c p.told q.told) (ap₂-hook_is_ok p.hook_is_ok q.hook_is_ok)
  where
    ap₂-hook_is_ok : errors_of b ≡ errors_of a → errors_of c ≡ errors_of b → errors_of c ≡ errors_of a
    ap₂-hook_is_ok e f = cc

-- ---- Where the hook answered an error

-- a notice or none
abbrev pub Single : List Notice → Type 0
Single ns = (ns ≡ []) ⊎ ((n : Notice) × (ns ≡ n ∷ []))

single_if : (b : Bool) (n : Notice) → Single (if b then [] else n ∷ [])
single_if true n = inl refl
single_if false n = inr (n, refl)

pub single_one : (x : NoticeKind) (g : ℕ) → Single (one x g)
single_one x g = single_if (g == 0) (told_of x g)

pub stops_single : (ns : List Notice) (a b : Listeners) → Single ns → ToldListeners ns a b → AnsweredErr a b → StopsAt ns a b
stops_single ns a b single told err = elim single [
  | inl none ↦ absurd (let same = none_hook_is_ok a b (subst (λ (t : List Notice). ToldListeners t a b) none told) in omega (arith, same, err))
  | inr n ↦ record {
    before = [];
    failed = n.0;
    behind = [];
    parts = sym n.1;
    between = a;
    hook_is_ok = none_told a;
    last = subst (λ (t : List Notice). ToldListeners t a b) n.1 told;
    answered = err;
  }
]

pub stops_then : (xs ys : List Notice) (a b c : Listeners) → ToldWithHookOk xs a b → StopsAt ys b c → StopsAt (xs ++ ys) a c
stops_then xs ys a b c p q = record {
  before = xs ++ q.before;
  failed = q.failed;
  behind = q.behind;
  parts = append_assoc xs q.before (q.failed ∷ q.behind) ∙ ap (λ (t : List Notice). xs ++ t) q.parts;
  between = q.between;
  hook_is_ok = hook_is_ok_then xs q.before a b q.between p q.hook_is_ok;
  last = q.last;
  answered = q.answered;
}

pub stops_within : (xs ys : List Notice) (a b : Listeners) → StopsAt xs a b → StopsAt (xs ++ ys) a b
stops_within xs ys a b q = record {
  before = q.before;
  failed = q.failed;
  behind = q.behind ++ ys;
  parts = sym (append_assoc q.before (q.failed ∷ q.behind) ys) ∙ ap (λ (t : List Notice). t ++ ys) q.parts;
  between = q.between;
  hook_is_ok = q.hook_is_ok;
  last = q.last;
  answered = q.answered;
}

-- ---- As far as the hook answers no error

module _ {A E : Type 0} where
  -- a notice or none
  pub one_as_far : (ns : List Notice) (r : Result A E) (a b : Listeners) → Single ns → ToldListeners ns a b → AnswersAsHook r a b → TellsAsFar ns r a b
  one_as_far ns (Ok x) a b single told hook = record { told = with_hook_ok ns a b told hook.hook_is_ok; stops = tt; hook = hook.hook }
  one_as_far ns (Err e) a b single told hook = record { told = tt; stops = stops_single ns a b single told hook.failed; hook = hook.hook }

  -- more, where what came before was told
  pub far_then : (xs ys : List Notice) (r : Result A E) (a b c : Listeners) → ToldWithHookOk xs a b → is_some b.hook ≡ is_some a.hook → TellsAsFar ys r b c → TellsAsFar (xs ++ ys) r a c
  far_then xs ys (Ok x) a b c p same q = record { told = hook_is_ok_then xs ys a b c p q.told; stops = tt; hook = q.hook ∙ same }
  far_then xs ys (Err e) a b c p same q = record { told = tt; stops = stops_then xs ys a b c p q.stops; hook = q.hook ∙ same }

  -- nothing more, where the hook has answered an error
  pub far_stopped : (xs ys : List Notice) (r : Result A E) (a b : Listeners) → IsErr r → StopsAt xs a b → is_some b.hook ≡ is_some a.hook → TellsAsFar (xs ++ ys) r a b
  far_stopped xs ys (Ok x) a b err q same = absurd (cc)
  far_stopped xs ys (Err e) a b err q same = record { told = tt; stops = stops_within xs ys a b q; hook = same }

-- ---- Of a group, and from one group to another

pub one_none : (x : NoticeKind) (g : ℕ) → g ≡ 0 → one x g ≡ []
one_none x g is = ap (λ b. if b then [] else told_of x g ∷ []) (eq-eqb g 0 is)

pub one_some : (x : NoticeKind) (g : ℕ) → (g ≡ 0 → ⊥) → one x g ≡ told_of x g ∷ []
one_some x g other = ap (λ b. if b then [] else told_of x g ∷ []) (ne_eqb g 0 other)

pub switched_none : (o n : ℕ) → o ≡ n → switched o n ≡ []
switched_none o n is = ap (λ b. if b then [] else one notice.Exit o ++ one notice.Enter n) (eq-eqb o n is)

pub switched_some : (o n : ℕ) → (o ≡ n → ⊥) → switched o n ≡ one notice.Exit o ++ one notice.Enter n
switched_some o n other = ap (λ b. if b then [] else one notice.Exit o ++ one notice.Enter n) (ne_eqb o n other)

-- what the listeners answer
pub as_hook : {ns : List Notice} (r : Result ⊤ HookError) (a b : Listeners) → ToldListeners ns a b → (IsErr r ↔ AnsweredErr a b) → AnswersAsHook r a b
as_hook (Ok x) a b told answer = record { failed = tt; hook_is_ok = still_hook_is_ok a b told (λ err. let lacks = answer.1 err in cc); hook = told.same_hook }
as_hook (Err e) a b told answer = record { failed = answer.0 refl; hook_is_ok = tt; hook = told.same_hook }

pub quiet_hook : {A E : Type 0} (x : A) (a : Listeners) → AnswersAsHook {E = E} (Ok x) a a
quiet_hook x a = record { failed = tt; hook_is_ok = refl; hook = refl }

pub quiet_far : {A E : Type 0} (x : A) (ns : List Notice) (a : Listeners) → ns ≡ [] → TellsAsFar {E = E} ns (Ok x) a a
quiet_far x ns a none = record { told = subst (λ (ms : List Notice). ToldWithHookOk ms a a) (sym none) (none_told a); stops = tt; hook = refl }

module _ {A E : Type 0} where
  pub far_same : (xs ys : List Notice) (r : Result A E) (a b : Listeners) → xs ≡ ys → TellsAsFar ys r a b → TellsAsFar xs r a b
  far_same xs ys r a b same far = subst (λ (ns : List Notice). TellsAsFar ns r a b) (sym same) far

  -- a notice or none, and then another
  pub far_two : (xs ys : List Notice) (r : Result A E) (a b c : Listeners) → ToldListeners xs a b → errors_of b ≡ errors_of a → is_some b.hook ≡ is_some a.hook →
      Single ys → ToldListeners ys b c → AnswersAsHook r b c → TellsAsFar (xs ++ ys) r a c
  far_two xs ys r a b c told hook_is_ok same single more hook = far_then xs ys r a b c (with_hook_ok xs a b told hook_is_ok) same (one_as_far ys r b c single more hook)

  pub far_failed : (xs ys : List Notice) (r : Result A E) (a b : Listeners) → IsErr r → Single xs → ToldListeners xs a b → AnsweredErr a b → is_some b.hook ≡ is_some a.hook → TellsAsFar (xs ++ ys) r a b
  far_failed xs ys r a b is single told err same = far_stopped xs ys r a b is (stops_single xs a b single told err) same

-- ---- Where there is no hook

no_errors : (h k : Option Heard) → is_some h ≡ false → is_some k ≡ is_some h → option_map_or (λ (x : Heard). x.errors) k 0 ≡ option_map_or (λ (x : Heard). x.errors) h 0
no_errors None None none same = refl
no_errors None (Some y) none same = absurd (cc)
no_errors (Some x) k none same = absurd (cc)

pub unhooked_hook_is_ok : (ns : List Notice) (a b : Listeners) → is_some a.hook ≡ false → ToldListeners ns a b → ToldWithHookOk ns a b
unhooked_hook_is_ok ns a b none told = with_hook_ok ns a b told (no_errors a.hook b.hook none told.same_hook)

-- ---- What is told at once

pub switched_out : (o n : ℕ) → (o ≡ n → ⊥) → n ≡ 0 → switched o n ≡ told_of notice.Exit o ∷ []
switched_out o n other zero = switched_some o n other ∙ ap₂ (λ (xs ys : List Notice). xs ++ ys) (one_some notice.Exit o (λ is. other (is ∙ sym zero))) (one_none notice.Enter n zero)

pub switched_in : (o n : ℕ) → (o ≡ n → ⊥) → o ≡ 0 → switched o n ≡ told_of notice.Enter n ∷ []
switched_in o n other zero = switched_some o n other ∙ ap₂ (λ (xs ys : List Notice). xs ++ ys) (one_none notice.Exit o zero) (one_some notice.Enter n (λ is. other (zero ∙ sym is)))

pub moved_switch : (a : GroupsBefore) (r : ℕ) → a.worked ≡ None → moved a r ≡ switched a.running r
moved_switch a r none = ap (λ w. switched a.running r ++ around w) none ∙ append-nil (switched a.running r)

pub moved_visit : (a : GroupsBefore) (r g : ℕ) → a.worked ≡ Some g → a.running ≡ 0 → r ≡ 0 → moved a r ≡ around (Some g)
moved_visit a r g some before after = ap (λ w. switched a.running r ++ around w) some ∙ ap₂ (λ o n. switched o n ++ around (Some g)) before after

pub hook_is_ok_same : (ns ms : List Notice) (a b : Listeners) → ms ≡ ns → ToldWithHookOk ns a b → ToldWithHookOk ms a b
hook_is_ok_same ns ms a b same told = subst (λ (ks : List Notice). ToldWithHookOk ks a b) (sym same) told

pub single_told : (x : NoticeKind) (g : ℕ) → Single (told_of x g ∷ [])
single_told x g = inr (told_of x g, refl)

pub hook_is_ok_told : (ns : List Notice) (a b : Listeners) → ToldListeners ns a b → (AnsweredErr a b → ⊥) → ToldWithHookOk ns a b
hook_is_ok_told ns a b told none = with_hook_ok ns a b told (still_hook_is_ok a b told none)

-- ---- Finishes, one after another

module _ (gs : List ℕ) (i z : ℕ) (lt : i < length gs) (a b d : Listeners) where
  pub finished_more : ToldListeners (finishes (take i gs)) a b → ToldListeners (told_of notice.Finish (get_or gs i z) ∷ []) b d → ToldListeners (finishes (take (i + 1) gs)) a d
  finished_more told more =
      let next : suc i ≡ i + 1 = omega arith in
      subst (λ (ns : List Notice). ToldListeners ns a d)
      (sym (map-append (told_of notice.Finish) (take i gs) (get_or gs i z ∷ [])) ∙ ap finishes (sym (take-suc gs i z lt) ∙ ap (λ (j : ℕ). take j gs) next))
      (told-append (finishes (take i gs)) (told_of notice.Finish (get_or gs i z) ∷ []) a b d told more)

pub finished_all : (gs : List ℕ) (i : ℕ) → length gs ≤ i → (a b : Listeners) → ToldListeners (finishes (take i gs)) a b → ToldListeners (finishes gs) a b
finished_all gs i all a b told = subst (λ (ns : List ℕ). ToldListeners (finishes ns) a b) (take_all i gs all) told

-- ---- Where it is told at once, or not at all

pub either_hook : {ns : List Notice} (b : Bool) (old new : Listeners) → (b ≡ true → ToldWithHookOk ns old new) → (b ≡ false → new ≡ old) → is_some new.hook ≡ is_some old.hook
either_hook true old new told none = (told refl).told.same_hook
either_hook false old new told none = ap (λ (l : Listeners). is_some l.hook) (none refl)
