-- The stages of requests are what the labels so far say of them.
use Rattle.serve_requests.specs.HowMany.{how_many}
use Rattle.std.proofs.Common.{ap, arith, cond, eqb, refl, subst, sym, ◌∙◌}
use Rattle.std.proofs.lemmas.List.{append-nil}
use Rattle.std.proofs.lemmas.Bool.{eq-eqb, eqb-true, ne_eqb}
use Rattle.std.proofs.lemmas.List.Elements.{filter-append}
use Rattle.std.proofs.lemmas.Option.{slice_get_within}
use Rattle.std.specs.Prelude.{Bool, List, Some, [], false, length, replicate, slice_get, slice_set, suc, true, zero, ℕ, ◌+◌, ◌++◌, ◌==◌, ◌∷◌, ◌≡◌, ◌≢◌, ◌≤◌}
use Rattle.serve_requests.specs.Served.{decline_label, finish_label, is_finish, is_of, is_start, refuse_label, said, said_at, start_label}
use Rattle.serve_requests.specs.Serving.{Asked, Serves, is_open}
use Rattle.serve_requests.specs.declared.request.Stage.{Stage}
use Rattle.serve_requests.specs.declared.request.Stage.TheVariants.{Answered, Declined, Open, Refused, Waits}
use Rattle.machine_data.specs.Core.{Core}
use Rattle.machine_data.specs.declared.label.Label.{Label}
use Rattle.machine_data.specs.declared.label.Label.TheVariants as label
use Rattle.machine_data.specs.declared.label.LoopLabel.TheVariants as loop_label
use Rattle.machine_data.specs.declared.label.MainLabel.TheVariants as main_label
use Rattle.serve_requests.proofs.ListLemmas.{bit, count_more, count_set, get_other, get_same, length_set}

said_yes : (k : ℕ) (ls : List Label) (l : Label) → is_of k l ≡ true → said k (ls ++ l ∷ []) ≡ said k ls ++ l ∷ []
said_yes k ls l of = filter-append (is_of k) ls (l ∷ []) ∙ ap (λ (b : Bool). said k ls ++ cond b (l ∷ []) []) of

said_no : (k : ℕ) (ls : List Label) (l : Label) → is_of k l ≡ false → said k (ls ++ l ∷ []) ≡ said k ls
said_no k ls l of = filter-append (is_of k) ls (l ∷ []) ∙ (ap (λ (b : Bool). said k ls ++ cond b (l ∷ []) []) of ∙ append-nil (said k ls))

pub record Fits (x : Asked) (past : List Label) (a : List Stage) : Type 0 where
  pub size : length a ≡ length x.requests
  pub says : (i : ℕ) (e : Stage) → slice_get a i ≡ Some e → said (suc i) past ≡ said_at (suc i) e
  pub none : said 0 past ≡ []
  pub beyond : (i : ℕ) → length x.requests ≤ i → said (suc i) past ≡ []
  pub calls : how_many is_start past ≡ how_many is_finish past + how_many is_open a
  pub few : how_many is_open a ≤ x.limit

-- ---- A step that is of no request

module _ (x : Asked) (past : List Label) (a : List Stage) (fits : Fits x past a) where
  pub quiet : (b : List Stage) (l : Label) → ((k : ℕ) → is_of k l ≡ false) → is_start l ≡ false → is_finish l ≡ false → b ≡ a → Fits x (past ++ l ∷ []) b
  quiet b l none start finish same = subst (Fits x (past ++ l ∷ [])) (sym same)
      (record {
        size = fits.size;
        says = λ i e at. said_no (suc i) past l (none (suc i)) ∙ fits.says i e at;
        none = said_no 0 past l (none 0) ∙ fits.none;
        beyond = λ i past_it. said_no (suc i) past l (none (suc i)) ∙ fits.beyond i past_it;
        calls =
            let starts = count_more is_start past l ∙ ap (λ (t : Bool). how_many is_start past + bit t) start in
            let ends = count_more is_finish past l ∙ ap (λ (t : Bool). how_many is_finish past + bit t) finish in
            let calls = fits.calls in
            omega (arith, starts, ends, calls);
        few = fits.few;
      })

  -- ---- A step of one request

  module _ (b : List Stage) (l : Label) (k place : ℕ) (old new : Stage) (number : k ≡ suc place) (was : slice_get a place ≡ Some old) (now : b ≡ slice_set a place new) (of : (j : ℕ) → is_of j l ≡ (k == j)) (more : said_at (suc place) old ++ l ∷ [] ≡ said_at (suc place) new) where
    its : is_of (suc place) l ≡ true
    its = of (suc place) ∙ eq-eqb k (suc place) number

    others : (j : ℕ) → j ≢ suc place → is_of j l ≡ false
    others j other = of j ∙ ne_eqb k j (λ same. other (sym same ∙ number))

    says_here : (e : Stage) → slice_get b place ≡ Some e → said (suc place) (past ++ l ∷ []) ≡ said_at (suc place) e
    says_here e at =
        let set : slice_get b place ≡ Some new = ap (λ (c : List Stage). slice_get c place) now ∙ get_same a place old new was in
        let same : new ≡ e = cc in
        said_yes (suc place) past l its ∙ (ap (λ (ls : List Label). ls ++ l ∷ []) (fits.says place old was) ∙ (more ∙ ap (λ (c : Stage). said_at (suc place) c) same))

    says_there : (i : ℕ) (e : Stage) → place ≢ i → slice_get b i ≡ Some e → said (suc i) (past ++ l ∷ []) ≡ said_at (suc i) e
    says_there i e other at =
        let kept = sym (get_other a place i new other) ∙ (ap (λ (c : List Stage). slice_get c i) (sym now) ∙ at) in
        said_no (suc i) past l (others (suc i) (λ same. other (omega (arith, same)))) ∙ fits.says i e kept

    says_either : (i : ℕ) (e : Stage) (t : Bool) → eqb place i ≡ t → slice_get b i ≡ Some e → said (suc i) (past ++ l ∷ []) ≡ said_at (suc i) e
    says_either i e true same at =
        subst (λ (j : ℕ). slice_get b j ≡ Some e → said (suc j) (past ++ l ∷ []) ≡ said_at (suc j) e) (eqb-true place i same) (says_here e) at
    says_either i e false same at = says_there i e (λ is. let yes = eq-eqb place i is in absurd (cc)) at

    pub moved : bit (is_start l) + bit (is_open old) ≡ bit (is_finish l) + bit (is_open new) → how_many is_open b ≤ x.limit → Fits x (past ++ l ∷ []) b
    moved balance few = record {
      size = ap (λ (c : List Stage). length c) now ∙ (length_set a place new ∙ fits.size);
      says = λ i e at. says_either i e (eqb place i) refl at;
      none = said_no 0 past l (others 0 (λ same. absurd (cc))) ∙ fits.none;
      beyond = λ i past_it.
          let within = slice_get_within a place old was in
          let size = fits.size in
          said_no (suc i) past l (others (suc i) (λ same. absurd (omega (arith, same, within, size, past_it)))) ∙ fits.beyond i past_it;
      calls =
          let starts = count_more is_start past l in
          let ends = count_more is_finish past l in
          let set = ap (λ (c : List Stage). how_many is_open c + bit (is_open old)) now ∙ count_set is_open a place old new was in
          let calls = fits.calls in
          omega (arith, starts, ends, calls, set, balance);
      few = few;
    }

    -- how many are open then
    pub opened : how_many is_open b + bit (is_open old) ≡ how_many is_open a + bit (is_open new)
    opened = ap (λ (c : List Stage). how_many is_open c + bit (is_open old)) now ∙ count_set is_open a place old new was

-- ---- Each step

pub next : (x : Asked) (past : List Label) (a b : List Stage) (s t : Core) (l : Label) → Fits x past a → Serves x a s l b t → Fits x (past ++ l ∷ []) b
next x past a b s t (label.Main (main_label.Start k n)) fits does =
    let m = does.moves in
    let l = start_label k n in
    let more = ap (λ (j : ℕ). start_label j n ∷ []) m.number in
    let room = does.room in
    let opened = opened x past a fits b l k does.place Waits (Open n) m.number m.was m.now (λ j. refl) more in
    moved x past a fits b l k does.place Waits (Open n) m.number m.was m.now (λ j. refl) more refl (omega (arith, room, opened))
next x past a b s t (label.Main (main_label.StartRefused why k)) fits does =
    let m = does.moves in
    let l = decline_label k why in
    let more = ap (λ (j : ℕ). decline_label j why ∷ []) m.number in
    let few = fits.few in
    let opened = opened x past a fits b l k does.place Waits (Declined why) m.number m.was m.now (λ j. refl) more in
    moved x past a fits b l k does.place Waits (Declined why) m.number m.was m.now (λ j. refl) more refl (omega (arith, few, opened))
next x past a b s t (label.Main (main_label.Finish k v)) fits does =
    let m = does.moves in
    let l = finish_label k v in
    let more = ap (λ (j : ℕ). start_label (suc does.place) does.thread ∷ finish_label j v ∷ []) m.number in
    let few = fits.few in
    let opened = opened x past a fits b l k does.place (Open does.thread) (Answered does.thread v) m.number m.was m.now (λ j. refl) more in
    moved x past a fits b l k does.place (Open does.thread) (Answered does.thread v) m.number m.was m.now (λ j. refl) more refl (omega (arith, few, opened))
next x past a b s t (label.Main (main_label.FinishRefused why k)) fits does =
    let m = does.moves in
    let l = refuse_label k why in
    let more = ap (λ (j : ℕ). decline_label (suc does.place) why ∷ refuse_label j why ∷ []) m.number in
    let few = fits.few in
    let opened = opened x past a fits b l k does.place (Declined why) (Refused why) m.number m.was m.now (λ j. refl) more in
    moved x past a fits b l k does.place (Declined why) (Refused why) m.number m.was m.now (λ j. refl) more refl (omega (arith, few, opened))
next x past a b s t (label.Main (main_label.Answer v)) fits does = quiet x past a fits b (label.Main (main_label.Answer v)) (λ k. refl) refl refl does.same
next x past a b s t (label.Main _) fits does = absurd does
next x past a b s t (label.Loop loop_label.MainPends) fits does = quiet x past a fits b (label.Loop loop_label.MainPends) (λ k. refl) refl refl does.same
next x past a b s t l fits does = quiet x past a fits b l (λ k. refl) refl refl does

-- ---- The first stages

all_wait : (n i : ℕ) (e : Stage) → slice_get (replicate n Waits) i ≡ Some e → e ≡ Waits
all_wait zero i e at = absurd (cc)
all_wait (suc n) zero e at = cc
all_wait (suc n) (suc i) e at = all_wait n i e at

none_open : (n : ℕ) → how_many is_open (replicate n Waits) ≡ 0
none_open zero = refl
none_open (suc n) = let rest = none_open n in omega (arith, rest)

all_there : (n : ℕ) → length (replicate n Waits) ≡ n
all_there zero = refl
all_there (suc n) = ap (λ (k : ℕ). suc k) (all_there n)

pub fits_first : (x : Asked) → Fits x [] (replicate (length x.requests) Waits)
fits_first x = record {
  size = all_there (length x.requests);
  says = λ i e at. ap (λ (c : Stage). said_at (suc i) c) (sym (all_wait (length x.requests) i e at));
  none = refl;
  beyond = λ i past_it. refl;
  calls = let none = none_open (length x.requests) in omega (arith, none);
  few = let none = none_open (length x.requests) in omega (arith, none);
}
