-- What a choice wants, found by numbers and handles among what is listed.
use Rattle.choice_offers.specs.Listings.{AreNamed, AreNamedIn, handles_in, id_in, numbers_of}
use Rattle.choice_offers.specs.declared.held.NamedThread.{NamedThread}
use Rattle.choice_offers.specs.declared.offered.NamedMember.{NamedMember}
use Rattle.core_primitives.specs.Names.{subtask_in}
use Rattle.core_primitives.specs.StateView.{StateView, thread_of}
use Rattle.laws_choices.specs.Offer.{is_one_of}
use Rattle.machine_data.specs.Read.{subtask_at}
use Rattle.std.proofs.Common.{ap, get_or, length, refl, sym, take, ◌++◌, ◌+◌, ◌<◌, ◌∙◌}
use Rattle.std.proofs.lemmas.Bool.{eq-eqb, eqb-true}
use Rattle.std.proofs.lemmas.List.Elements.{All-cons, All-head, All-nil, All-tail, All-weaker, filter_map-append}
use Rattle.std.proofs.lemmas.List.{take_more}
use Rattle.std.proofs.lemmas.List.Sorted.{All-permutation}
use Rattle.std.specs.List.{All, cons_option, filter_map, find, list_any}
use Rattle.std.specs.Prelude.{Bool, IsPermutation, List, None, Option, Some, [], cond, false, map, option_map, true, ℕ, ◌==◌, ◌||◌, ◌∷◌, ◌≡◌}
use Rattle.task_table.specs.declared.id.TableId.{TableId}
use Rattle.task_wait.specs.declared.keys.ThreadKey.{ThreadKey}

-- one more is looked for
pub picked_more : (list : List NamedThread) (ns : List ℕ) (i d : ℕ) → i < length ns →
    filter_map (id_in list) (take (i + 1) ns) ≡ filter_map (id_in list) (take i ns) ++ filter_map (id_in list) (get_or ns i d ∷ [])
picked_more list ns i d within = ap (filter_map (id_in list)) (take_more ns i d within) ∙ filter_map-append (id_in list) (take i ns) (get_or ns i d ∷ [])

-- one that is listed is found, by an id that names it
pub thread_found : (s : StateView) (list : List NamedThread) (n : ℕ) → AreNamed s list → is_one_of (numbers_of list) (Some n) ≡ true →
    option_map (λ id. thread_of s id) (id_in list n) ≡ Some n
thread_found s [] n named there = absurd (cc)
thread_found s (t ∷ ts) n named there = by (t.number == n) refl there (thread_found s ts n (All-tail (λ (k : NamedThread). thread_of s k.id ≡ k.number) t ts named))
  where
    by : (b : Bool) → (t.number == n) ≡ b → (b || list_any (λ m. m == n) (numbers_of ts)) ≡ true → (is_one_of (numbers_of ts) (Some n) ≡ true → option_map (λ id. thread_of s id) (id_in ts n) ≡ Some n) →
        option_map (λ id. thread_of s id) (option_map (λ (k : NamedThread). k.id) (cond b (Some t) (find (λ (k : NamedThread). k.number == n) ts))) ≡ Some n
    by true is here again = ap (λ (m : ℕ). Some m) (All-head (λ (k : NamedThread). thread_of s k.id ≡ k.number) t ts named ∙ eqb-true t.number n is)
    by false is here again = again here

-- so is a member, by a subtask that the instance names by the handle
pub member_found : (s : StateView) (i : ℕ) (list : List NamedMember) (h : ℕ) → AreNamedIn s i list → is_one_of (handles_in list) (Some h) ≡ true →
    option_map (λ sub. subtask_in s.tags sub) (option_map (λ (m : NamedMember). m.subtask) (find (λ (m : NamedMember). m.handle == h) list)) ≡ subtask_at i h s.core
member_found s i [] h named there = absurd (cc)
member_found s i (m ∷ ms) h named there = by (m.handle == h) refl there (member_found s i ms h (All-tail (λ (k : NamedMember). subtask_at i k.handle s.core ≡ Some (subtask_in s.tags k.subtask)) m ms named))
  where
    by : (b : Bool) → (m.handle == h) ≡ b → (b || list_any (λ k. k == h) (handles_in ms)) ≡ true →
        (is_one_of (handles_in ms) (Some h) ≡ true → option_map (λ sub. subtask_in s.tags sub) (option_map (λ (k : NamedMember). k.subtask) (find (λ (k : NamedMember). k.handle == h) ms)) ≡ subtask_at i h s.core) →
        option_map (λ sub. subtask_in s.tags sub) (option_map (λ (k : NamedMember). k.subtask) (cond b (Some m) (find (λ (k : NamedMember). k.handle == h) ms))) ≡ subtask_at i h s.core
    by true is here again = sym (All-head (λ (k : NamedMember). subtask_at i k.handle s.core ≡ Some (subtask_in s.tags k.subtask)) m ms named) ∙ ap (λ (k : ℕ). subtask_at i k s.core) (eqb-true m.handle h is)
    by false is here again = again here

-- each of them is listed
abbrev pub AreListed : List NamedThread → List ℕ → Type 0
AreListed list ns = All (λ n. is_one_of (numbers_of list) (Some n) ≡ true) ns

pub threads_found : (s : StateView) (list : List NamedThread) (ns : List ℕ) → AreNamed s list → AreListed list ns →
    map (λ id. thread_of s id) (filter_map (id_in list) ns) ≡ ns
threads_found s list [] named there = refl
threads_found s list (n ∷ ns) named there =
    by (id_in list n) (thread_found s list n named (All-head (λ m. is_one_of (numbers_of list) (Some m) ≡ true) n ns there))
    (threads_found s list ns named (All-tail (λ m. is_one_of (numbers_of list) (Some m) ≡ true) n ns there))
  where
    same : (a b : ℕ) → Some a ≡ Some b → a ≡ b
    same a b e = cc

    by : (o : Option (TableId ThreadKey)) → option_map (λ id. thread_of s id) o ≡ Some n → map (λ id. thread_of s id) (filter_map (id_in list) ns) ≡ ns →
        map (λ id. thread_of s id) (cons_option o (filter_map (id_in list) ns)) ≡ n ∷ ns
    by None e rest = absurd (cc)
    by (Some id) e rest = ap (λ (m : ℕ). m ∷ map (λ id. thread_of s id) (filter_map (id_in list) ns)) (same (thread_of s id) n e) ∙ ap (λ (ms : List ℕ). n ∷ ms) rest

-- ---- A permutation of what is listed

has_more : (a : ℕ) (xs : List ℕ) (n : ℕ) → list_any (λ m. m == n) xs ≡ true → list_any (λ m. m == n) (a ∷ xs) ≡ true
has_more a xs n there = by (a == n)
  where
    by : (b : Bool) → (b || list_any (λ m. m == n) xs) ≡ true
    by true = refl
    by false = there

each_in : (xs : List ℕ) → All (λ n. list_any (λ m. m == n) xs ≡ true) xs
each_in [] = All-nil (λ n. list_any (λ m. m == n) [] ≡ true)
each_in (x ∷ xs) =
    All-cons (λ n. list_any (λ m. m == n) (x ∷ xs) ≡ true) x xs (ap (λ b. b || list_any (λ m. m == x) xs) (eq-eqb x x refl))
    (All-weaker (λ n. list_any (λ m. m == n) xs ≡ true) (λ n. list_any (λ m. m == n) (x ∷ xs) ≡ true) (has_more x xs) xs (each_in xs))

pub permuted_listed : (list : List NamedThread) (order : List ℕ) → IsPermutation (numbers_of list) order → AreListed list order
permuted_listed list order p = All-permutation (λ n. list_any (λ m. m == n) (numbers_of list) ≡ true) (numbers_of list) order p (each_in (numbers_of list))
