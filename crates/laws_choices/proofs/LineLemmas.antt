-- The lines of labels, and the choices that are read back from them.
use Rattle.laws_choices.proofs.Forms.{choosing}
use Rattle.laws_choices.proofs.ListLemmas.{has, has_not_nil}
use Rattle.laws_choices.proofs.StepLemmas.{step_chooses}
use Rattle.laws_choices.specs.Lines.{EndsIn, EndsInTwo, IsNarrow, LastReadBack, LineShowsMember, LineShowsWaiter, LineTellsChoice, NextReadBack}
use Rattle.laws_choices.specs.Offer.{Chosen, is_one_of}
use Rattle.laws_choices.specs.Offers.{offer}
use Rattle.laws_choices.specs.Steps.{IsChoiceOf, StepChooses, hides_in, told}
use Rattle.std.proofs.Common.{append_assoc, ◌^◌}
use Rattle.std.proofs.lemmas.Bool.{ne_eqb}
use Rattle.std.proofs.lemmas.Fmt.{decimal_injective, decimal_is_IsNumeral}
use Rattle.std.proofs.lemmas.Str.Parse.{digit_from_value}
use Rattle.std.specs.Prelude.{codes, decimal}
use Rattle.std.specs.Str.Parse.{AllDigits}
use Rattle.machine_data.specs.Labels.{handle_given, member_of, member_of_set, member_of_take, woken_of_set, woken_of_take, woken_of_task}
use Rattle.machine_rules.proofs.Machine.{Choice, Given, IfSome, Label, List, None, Option, SetLabel, Some, Status, TakeLabel, TaskLabel, [], ap, ap₂, arith, false, nat_tests, refl, status_code, subst, sym, true, unwrap_or, woken_of, ℕ, ◌++◌, ◌+◌, ◌<◌, ◌==◌, ◌∙◌, ◌∷◌, ◌≡◌, Setting, State, Bool, choice_of}
use Rattle.machine_data.specs.Moves.{given_own}
use Rattle.machine_rules.specs.Texts.{answer_text, event_text, given_text, label_text, op_text, set_text, take_text, taken_text, task_text, wakes}

-- ---- Tokens

spaced : (front ds : List ℕ) → has (front ++ 32 ∷ ds) 32 ≡ true
spaced [] ds = grind (arith, nat_tests)
spaced (a ∷ front) ds = grind (arith, nat_tests, spaced front ds)

digits_spaceless : (ds : List ℕ) → AllDigits 10 ds → has ds 32 ≡ false
digits_spaceless [] d = refl
digits_spaceless (c ∷ cs) d =
    let apart : (c == 32) ≡ false = ne_eqb c 32 (λ e. omega (arith, e, digit_from_value c d.0)) in
    grind (arith, apart, digits_spaceless cs d.1)

number_spaceless : (n : ℕ) → n < 2 ^ 64 → has (decimal n) 32 ≡ false
number_spaceless n small = digits_spaceless (decimal n) (decimal_is_IsNumeral n small).0.1

abbrev head_of : ℕ → List ℕ → ℕ
head_of d [] = d
head_of d (n ∷ ns) = n

abbrev rest_of : List ℕ → List ℕ
rest_of [] = []
rest_of (n ∷ ns) = ns

-- the last token is told by its spacelessness
one_split : (f g ds es : List ℕ) → has ds 32 ≡ false → has es 32 ≡ false → f ++ 32 ∷ ds ≡ g ++ 32 ∷ es → (f ≡ g) × (ds ≡ es)
one_split [] [] ds es one two e = (refl, ap rest_of e)
one_split [] (b ∷ g) ds es one two e = absurd (let tail : ds ≡ g ++ 32 ∷ es = ap rest_of e in let in_it = spaced g es in grind (arith, one, tail, in_it))
one_split (a ∷ f) [] ds es one two e = absurd (let tail : f ++ 32 ∷ ds ≡ es = ap rest_of e in let in_it = spaced f ds in grind (arith, two, tail, in_it))
one_split (a ∷ f) (b ∷ g) ds es one two e =
    let r = one_split f g ds es one two (ap rest_of e) in
    (ap₂ (λ (n : ℕ) (ns : List ℕ). n ∷ ns) (ap (head_of 0) e) r.0, r.1)

pub last_read_back : LastReadBack
unfolding LastReadBack
last_read_back text m n small narrow h k =
    decimal_injective m n small narrow (one_split h.0 k.0 (decimal m) (decimal n) (number_spaceless m small) (number_spaceless n narrow) (sym h.1 ∙ k.1)).1

pub next_read_back : NextReadBack
unfolding NextReadBack
next_read_back text m n v w small narrow short thin h k =
    let fronts = (one_split (h.0 ++ 32 ∷ decimal m) (k.0 ++ 32 ∷ decimal n) (decimal v) (decimal w) (number_spaceless v short) (number_spaceless w thin) (sym h.1 ∙ k.1)).0 in
    decimal_injective m n small narrow (one_split h.0 k.0 (decimal m) (decimal n) (number_spaceless m small) (number_spaceless n narrow) fronts).1

-- ---- The lines of labels

wakes_is : (front : List ℕ) (v : ℕ) → wakes front v ≡ (front ++ codes " wakes") ++ 32 ∷ decimal v
wakes_is front v = append_assoc front (codes " wakes ") (decimal v) ∙ sym (append_assoc front (codes " wakes") (32 ∷ decimal v))

wakes_end : (front : List ℕ) (v w : ℕ) → Some v ≡ Some w → EndsIn (wakes front v) w
wakes_end front v w e = subst (λ n. EndsIn (wakes front v) n) (ap (λ (o : Option ℕ). unwrap_or o 0) e) (front ++ codes " wakes", wakes_is front v)

no_number : {A : Type 0} {w : ℕ} → None ≡ Some w → A
no_number e = absurd (grind (arith, e))

take_waiter : (y : TakeLabel) (w : ℕ) → woken_of_take y ≡ Some w → EndsIn (take_text y) w
take_waiter (TakeLabel.ThreadWakes m n v) w e = wakes_end (taken_text m (codes " thread ") n) v w e
take_waiter (TakeLabel.HeldWakes m n v) w e = wakes_end (taken_text m (codes " thread ") n ++ codes " held") v w e
take_waiter (TakeLabel.EventWakes m g n v) w e = wakes_end (event_text m n (given_own g)) v w e
take_waiter (TakeLabel.HostWakes m i v) w e = wakes_end (taken_text m (codes " host ") i) v w e
take_waiter y w e = no_number e

task_waiter : (y : TaskLabel) (w : ℕ) → woken_of_task y ≡ Some w → EndsIn (task_text y) w
task_waiter (TaskLabel.TaskCancelWakes n v) w e = wakes_end (op_text n (codes " task_cancel")) v w e
task_waiter (TaskLabel.ExitWakes n v) w e = wakes_end (op_text n (codes " exit")) v w e
task_waiter y w e = no_number e

set_waiter : (y : SetLabel) (w : ℕ) → woken_of_set y ≡ Some w → EndsIn (set_text y) w
set_waiter (SetLabel.WaitWakes g n v) w e = wakes_end (op_text n (codes " wait") ++ given_text (given_own g)) v w e
set_waiter (SetLabel.JoinWakes n v) w e = wakes_end (op_text n (codes " join")) v w e
set_waiter y w e = no_number e

shows_waiter : (l : Label) (w : ℕ) → woken_of l ≡ Some w → EndsIn (label_text l) w
shows_waiter (Label.Take y) w e = take_waiter y w e
shows_waiter (Label.Task y) w e = task_waiter y w e
shows_waiter (Label.Set y) w e = set_waiter y w e
shows_waiter (Label.RetWakes n v y) w e = wakes_end (answer_text n (codes " ret ") v) y w e
shows_waiter l w e = no_number e

pub line_shows_waiter : LineShowsWaiter
unfolding LineShowsWaiter
line_shows_waiter = shows_waiter

abbrev ShowsNumber : List ℕ → ℕ → Type 0
ShowsNumber text h = (v : ℕ) × ((v < 2 ^ 64) × EndsInTwo text h v)

small_code : (e : Status) → status_code e < 2 ^ 64
small_code Status.Starting = omega arith
small_code Status.Started = omega arith
small_code Status.Returned = omega arith
small_code Status.StartCancelled = omega arith
small_code Status.ReturnCancelled = omega arith

spelled : (a h v : List ℕ) → (((a ++ codes " ") ++ h) ++ codes " ") ++ v ≡ (a ++ 32 ∷ h) ++ 32 ∷ v
spelled a h v = append_assoc ((a ++ codes " ") ++ h) (codes " ") v ∙ ap (λ ds. ds ++ 32 ∷ v) (append_assoc a (codes " ") h)

fronted : (front a h v : List ℕ) → front ++ ((a ++ h) ++ v) ≡ ((front ++ a) ++ h) ++ v
fronted front a h v = sym (append_assoc front (a ++ h) v) ∙ ap (λ ds. ds ++ v) (sym (append_assoc front a h))

given_is : (front : List ℕ) (e : Status) (j : ℕ) →
    front ++ given_text (Given.Subtask e j) ≡ ((front ++ (codes " " ++ decimal 1)) ++ 32 ∷ decimal j) ++ 32 ∷ decimal (status_code e)
given_is front e j =
    ap (λ ds. front ++ ds) (spelled (codes " " ++ decimal 1) (decimal j) (decimal (status_code e)))
    ∙ fronted front (codes " " ++ decimal 1) (32 ∷ decimal j) (32 ∷ decimal (status_code e))

given_end : (front : List ℕ) (g : Given) (h : ℕ) → handle_given g ≡ Some h → ShowsNumber (front ++ given_text g) h
given_end front (Given.Subtask e j) h is = subst (ShowsNumber (front ++ given_text (Given.Subtask e j))) (ap (λ (o : Option ℕ). unwrap_or o 0) is)
    (status_code e, (small_code e, (front ++ (codes " " ++ decimal 1), given_is front e j)))
given_end front Given.Nothing h is = no_number is
given_end front Given.Cancelled h is = no_number is

take_member : (y : TakeLabel) (h : ℕ) → member_of_take y ≡ Some h → ShowsNumber (take_text y) h
take_member (TakeLabel.Event m g n) h e = given_end (taken_text m (codes " thread ") n ++ codes " event") g h e
take_member y h e = no_number e

set_member : (y : SetLabel) (h : ℕ) → member_of_set y ≡ Some h → ShowsNumber (set_text y) h
set_member (SetLabel.Wait g n) h e = given_end (op_text n (codes " wait")) g h e
set_member (SetLabel.Poll g n) h e = given_end (op_text n (codes " poll")) g h e
set_member y h e = no_number e

shows_member : (l : Label) (h : ℕ) → member_of l ≡ Some h → ShowsNumber (label_text l) h
shows_member (Label.Take y) h e = take_member y h e
shows_member (Label.Set y) h e = set_member y h e
shows_member l h e = no_number e

pub line_shows_member : LineShowsMember
unfolding LineShowsMember
line_shows_member = shows_member

-- ---- Two labels of one line

-- of one list, one is chosen or none
alike : (ns : List ℕ) (v w : Option ℕ) → is_one_of ns v ≡ true → is_one_of ns w ≡ true → ((m n : ℕ) → v ≡ Some m → w ≡ Some n → m ≡ n) → v ≡ w
alike ns None None h k same = refl
alike ns None (Some n) h k same = absurd (let no = has_not_nil ns n k in grind (arith, no, h))
alike ns (Some m) None h k same = absurd (let no = has_not_nil ns m h in grind (arith, no, k))
alike ns (Some m) (Some n) h k same = ap (λ (q : ℕ). Some q) (same m n refl refl)

narrow : (o : Option ℕ) (n : ℕ) → IfSome o (λ w. w < 2 ^ 64) → o ≡ Some n → n < 2 ^ 64
narrow o n small e = subst (λ (q : Option ℕ). IfSome q (λ w. w < 2 ^ 64)) e small

last_back : (text : List ℕ) (m n : ℕ) → m < 2 ^ 64 → n < 2 ^ 64 → EndsIn text m → EndsIn text n → m ≡ n
unfolding LastReadBack
last_back = last_read_back

next_back : (text : List ℕ) (m n v w : ℕ) → m < 2 ^ 64 → n < 2 ^ 64 → v < 2 ^ 64 → w < 2 ^ 64 → EndsInTwo text m v → EndsInTwo text n w → m ≡ n
unfolding NextReadBack
next_back = next_read_back

module _ (x : Setting) (s : State) (l k : Label) (t u : State) (c d : Chosen) (one : IsChoiceOf x s c l t) (two : IsChoiceOf x s d k u) where
  choice_told : IsNarrow (choice_of l) → IsNarrow (choice_of k) → label_text l ≡ label_text k →
      (b : Bool) → choice_of l ≡ told b c → choice_of k ≡ told b d → choice_of l ≡ choice_of k
  choice_told small thin line true a b = a ∙ sym b
  choice_told small thin line false a b =
      let waiter = alike (offer x s).waiters (woken_of l) (woken_of k)
      (ap (λ (ch : Choice). is_one_of (offer x s).waiters ch.woken) a ∙ one.fits.waiter)
      (ap (λ (ch : Choice). is_one_of (offer x s).waiters ch.woken) b ∙ two.fits.waiter)
      (λ m n e f. last_back (label_text k) m n (narrow (woken_of l) m small.0 e) (narrow (woken_of k) n thin.0 f)
      (subst (λ text. EndsIn text m) line (shows_waiter l m e)) (shows_waiter k n f)) in
      let member = alike (offer x s).members (member_of l) (member_of k)
      (ap (λ (ch : Choice). is_one_of (offer x s).members ch.member) a ∙ one.fits.member)
      (ap (λ (ch : Choice). is_one_of (offer x s).members ch.member) b ∙ two.fits.member)
      (λ m n e f. let p = shows_member l m e in let q = shows_member k n f in
      next_back (label_text k) m n p.0 q.0 (narrow (member_of l) m small.1 e) (narrow (member_of k) n thin.1 f) p.1.0 q.1.0
      (subst (λ text. EndsInTwo text m p.0) line p.1.1) q.1.1) in
      ap₂ choosing waiter member

pub line_tells_choice : LineTellsChoice
unfolding LineTellsChoice StepChooses
line_tells_choice x s closed home l k t u step other small thin line =
    let c = step_chooses x s closed home l t step in
    let d = step_chooses x s closed home k u other in
    choice_told x s l k t u c.0 d.0 c.1 d.1 small thin line (hides_in x s s.turn) c.1.shows d.1.shows
