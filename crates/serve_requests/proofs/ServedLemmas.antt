-- What a server of requests has served.
use Rattle.serve_requests.proofs.FitsLemmas.{Fits, fits_first, next}
use Rattle.serve_requests.specs.Laws.{ServingServes}
use Rattle.serve_requests.specs.Served.{EachShows, IsTold, PendsRightly, Shows, decline_label, is_finish, is_start, labels_in, reply_at, said, said_at, start_label}
use Rattle.serve_requests.specs.Serving.{Asked, HasToWait, IsCallOf, IsDone, Serves, Serving, is_replied, reply_of}
use Rattle.serve_requests.specs.declared.request.Stage.{Stage}
use Rattle.serve_requests.specs.declared.request.Stage.TheVariants.{Answered, Declined, Open, Refused, Waits}
use Rattle.serve_requests.specs.declared.request.Reply.{Reply}
use Rattle.serve_requests.specs.declared.request.Reply.TheVariants as replies
use Rattle.serve_requests.specs.HowMany.{how_many}
use Rattle.std.proofs.Common.{ap, append_assoc, arith, inl, inr, refl, subst, sym, ⊎_elim, ◌∙◌}
use Rattle.std.proofs.lemmas.List.{append-nil}
use Rattle.std.proofs.lemmas.Option.{slice_get-map, slice_get_within}
use Rattle.std.specs.Option.{option_map}
use Rattle.std.specs.Prelude.{IfSome, List, None, Option, Some, [], false, length, map, slice_get, suc, true, unwrap_or, zero, ℕ, ◌+◌, ◌++◌, ◌<◌, ◌∷◌, ◌≡◌, ◌≢◌, ◌≤◌, ◌⊎◌}
use Rattle.machine_data.specs.Core.{Core}
use Rattle.machine_data.specs.Maps.{get}
use Rattle.machine_data.specs.declared.label.Label.{Label}
use Rattle.machine_data.specs.declared.label.Label.TheVariants as label
use Rattle.machine_data.specs.declared.label.LoopLabel.TheVariants as loop_label
use Rattle.machine_data.specs.declared.label.MainLabel.TheVariants as main_label
use Rattle.machine_data.specs.declared.trap.Trap.{Trap}
use Rattle.machine_rules.specs.History.{Moment}

-- ---- The stage that labels tell

opens_so : (k n : ℕ) (e : Stage) → said_at k e ≡ start_label k n ∷ [] → e ≡ Open n
opens_so k n Waits is = absurd (cc)
opens_so k n (Open m) is = let same : m ≡ n = cc in ap (λ (j : ℕ). Open j) same
opens_so k n (Declined why) is = absurd (cc)
opens_so k n (Answered m v) is = absurd (cc)
opens_so k n (Refused why) is = absurd (cc)

declines_so : (k : ℕ) (why : Trap) (e : Stage) → said_at k e ≡ decline_label k why ∷ [] → e ≡ Declined why
declines_so k why Waits is = absurd (cc)
declines_so k why (Open m) is = absurd (cc)
declines_so k why (Declined other) is = let same : other ≡ why = cc in ap (λ (w : Trap). Declined w) same
declines_so k why (Answered m v) is = absurd (cc)
declines_so k why (Refused other) is = absurd (cc)

waits_so : (k : ℕ) (e : Stage) → said_at k e ≡ [] → e ≡ Waits
waits_so k Waits is = refl
waits_so k (Open m) is = absurd (cc)
waits_so k (Declined why) is = absurd (cc)
waits_so k (Answered m v) is = absurd (cc)
waits_so k (Refused why) is = absurd (cc)

is_short : (k : ℕ) (e : Stage) → is_replied e ≡ false → length (said_at k e) < 2
is_short k Waits h = omega arith
is_short k (Open n) h = omega arith
is_short k (Declined why) h = omega arith
is_short k (Answered n v) h = absurd (cc)
is_short k (Refused why) h = absurd (cc)

is_given : (e : Stage) → is_replied e ≡ true → reply_of e ≢ replies.None
is_given Waits h = absurd (cc)
is_given (Open n) h = absurd (cc)
is_given (Declined why) h = absurd (cc)
is_given (Answered n v) h = λ none. absurd (cc)
is_given (Refused why) h = λ none. absurd (cc)

past_end : {A : Type 0} (xs : List A) (i n : ℕ) → slice_get xs i ≡ None → length xs ≡ n → n ≤ i
past_end [] i n none size = omega (arith, size)
past_end (y ∷ ys) zero n none size = absurd (cc)
past_end (y ∷ ys) (suc i) n none size = let rest = past_end ys i (length ys) none refl in omega (arith, rest, size)

at_place : {A : Type 0} (xs : List A) (i : ℕ) (o : Option A) → slice_get xs i ≡ o → i < length xs → (e : A) × (slice_get xs i ≡ Some e)
at_place xs i (Some e) at within = (e, at)
at_place xs i None at within = let past = past_end xs i (length xs) at refl in absurd (omega (arith, past, within))

-- ---- What a step shows

module _ (x : Asked) (past : List Label) (a : List Stage) (fits : Fits x past a) where
  -- the stage of the request of which the labels say something
  staged : (i : ℕ) (ls : List Label) (o : Option Stage) → slice_get a i ≡ o → said (suc i) past ≡ ls → ls ≢ [] → (e : Stage) × (slice_get a i ≡ Some e) × (said_at (suc i) e ≡ ls)
  staged i ls (Some e) at is some = (e, at, sym (fits.says i e at) ∙ is)
  staged i ls None at is some = absurd (some (sym is ∙ fits.beyond i (past_end a i (length x.requests) at fits.size)))

  none_open : (s : Core) → ((i n : ℕ) → slice_get a i ≡ Some (Open n) → get s.results n ≡ None) → (k n : ℕ) → said k past ≡ start_label k n ∷ [] → get s.results n ≡ None
  none_open s none zero n is = let nothing = fits.none in absurd (cc)
  none_open s none (suc i) n is =
      let e = staged i (start_label (suc i) n ∷ []) (slice_get a i) refl is (λ same. absurd (cc)) in
      none i n (e.1 ∙ ap (λ (c : Stage). Some c) (opens_so (suc i) n e.0 e.2))

  none_declined : ((i : ℕ) (why : Trap) → slice_get a i ≡ Some (Declined why) → ⊥) → (k : ℕ) (why : Trap) → said k past ≡ decline_label k why ∷ [] → ⊥
  none_declined none zero why is = let nothing = fits.none in absurd (cc)
  none_declined none (suc i) why is =
      let e = staged i (decline_label (suc i) why ∷ []) (slice_get a i) refl is (λ same. absurd (cc)) in
      none i why (e.1 ∙ ap (λ (c : Stage). Some c) (declines_so (suc i) why e.0 e.2))

  all_started : ((i : ℕ) → slice_get a i ≡ Some Waits → ⊥) → (k : ℕ) → 1 ≤ k → k ≤ length x.requests → said k past ≢ []
  all_started none zero one within = absurd (omega (arith, one))
  all_started none (suc i) one within = λ is.
      let size = fits.size in
      let e = at_place a i (slice_get a i) refl (omega (arith, within, size)) in
      none i (e.1 ∙ ap (λ (c : Stage). Some c) (waits_so (suc i) e.0 (sym (fits.says i e.0 e.1) ∙ is)))

  pends_rightly : (s : Core) (b : List Stage) → HasToWait x a s b → PendsRightly x past s
  pends_rightly s b h =
      let size = fits.size in
      let calls = fits.calls in
      let within = slice_get_within a h.at h.stage h.there in
      record {
        request = suc h.at;
        one = omega arith;
        within = omega (arith, within, size);
        unreplied = subst (λ (ls : List Label). length ls < 2) (sym (fits.says h.at h.stage h.there)) (is_short (suc h.at) h.stage h.unreplied);
        none_returned = none_open s h.none_returned;
        none_due = none_declined h.none_due;
        busy = ⊎_elim (λ full. inl (omega (arith, full, calls))) (λ none. inr (all_started none)) h.busy;
      }

  start_shows : (s t : Core) (k n place : ℕ) → k ≡ suc place → IfSome (slice_get x.requests place) (λ r. IsCallOf r n t) → Shows x past s (start_label k n) t
  start_shows s t zero n place number call = tt
  start_shows s t (suc i) n place number call =
      let same : place ≡ i = omega (arith, number) in
      subst (λ (j : ℕ). IfSome (slice_get x.requests j) (λ r. IsCallOf r n t)) same call

  shows : (b : List Stage) (s t : Core) (l : Label) → Serves x a s l b t → Shows x past s l t
  shows b s t (label.Main (main_label.Start k n)) does = start_shows s t k n does.place does.moves.number does.call
  shows b s t (label.Main (main_label.StartRefused why k)) does = tt
  shows b s t (label.Main (main_label.Finish k v)) does =
      let m = does.moves in
      record {
        thread = does.thread;
        started = subst (λ (j : ℕ). said j past ≡ start_label j does.thread ∷ []) (sym m.number) (fits.says does.place (Open does.thread) m.was);
        value = does.returned;
      }
  shows b s t (label.Main (main_label.FinishRefused why k)) does = tt
  shows b s t (label.Main (main_label.Answer v)) does = tt
  shows b s t (label.Main _) does = absurd does
  shows b s t (label.Loop loop_label.MainPends) does = pends_rightly s b does
  shows b s t l does = tt

-- ---- All steps

few_open : (x : Asked) (past : List Label) (a : List Stage) → Fits x past a → how_many is_start past ≤ how_many is_finish past + x.limit
few_open x past a fits = let calls = fits.calls in let few = fits.few in omega (arith, calls, few)

each_shows : (x : Asked) (past : List Label) (a b : List Stage) (h : List Moment) → Fits x past a → Serving x a h b → EachShows x past h
each_shows x past a b [] fits serving = tt
each_shows x past a b (m ∷ ms) fits serving =
    let mid = serving.0 in
    let after = next x past a mid m.before.core m.after.core m.label fits serving.1.0 in
    (shows x past a fits mid m.before.core m.after.core m.label serving.1.0, each_shows x (past ++ m.label ∷ []) mid b ms after serving.1.1)

few_always : (x : Asked) (past : List Label) (a b : List Stage) (h : List Moment) (before after : List Label) → Fits x past a → Serving x a h b → labels_in h ≡ before ++ after →
    how_many is_start (past ++ before) ≤ how_many is_finish (past ++ before) + x.limit
few_always x past a b h [] after fits serving is =
    subst (λ (ls : List Label). how_many is_start ls ≤ how_many is_finish ls + x.limit) (sym (append-nil past)) (few_open x past a fits)
few_always x past a b [] (l ∷ ls) after fits serving is = absurd (cc)
few_always x past a b (m ∷ ms) (l ∷ ls) after fits serving is =
    let here : m.label ≡ l = cc in
    let rest : labels_in ms ≡ ls ++ after = cc in
    let next_fits = next x past a serving.0 m.before.core m.after.core m.label fits serving.1.0 in
    let more = few_always x (past ++ m.label ∷ []) serving.0 b ms ls after next_fits serving.1.1 rest in
    subst (λ (q : List Label). how_many is_start q ≤ how_many is_finish q + x.limit) (append_assoc past (m.label ∷ []) ls ∙ ap (λ (q : Label). past ++ q ∷ ls) here) more

last_fits : (x : Asked) (past : List Label) (a b : List Stage) (h : List Moment) → Fits x past a → Serving x a h b → Fits x (past ++ labels_in h) b
last_fits x past a b [] fits serving = subst (λ (ls : List Label). Fits x ls b) (sym (append-nil past)) (subst (Fits x past) (sym serving) fits)
last_fits x past a b (m ∷ ms) fits serving =
    subst (λ (ls : List Label). Fits x ls b) (append_assoc past (m.label ∷ []) (labels_in ms))
    (last_fits x (past ++ m.label ∷ []) serving.0 b ms (next x past a serving.0 m.before.core m.after.core m.label fits serving.1.0) serving.1.1)

told_in : (x : Asked) (ls : List Label) (b : List Stage) → Fits x ls b → (i : ℕ) (o : Option Stage) → slice_get b i ≡ o → IsTold (suc i) ls (reply_at (map reply_of b) (suc i))
told_in x ls b fits i (Some e) at = record {
  stage = e;
  labels = fits.says i e at;
  reply_is = ap (λ (o : Option Reply). unwrap_or o replies.None) (slice_get-map reply_of b i ∙ ap (λ (o : Option Stage). option_map reply_of o) at);
}
told_in x ls b fits i None at =
    record {
      stage = Waits;
      labels = fits.beyond i (past_end b i (length x.requests) at fits.size);
      reply_is = ap (λ (o : Option Reply). unwrap_or o replies.None) (slice_get-map reply_of b i ∙ ap (λ (o : Option Stage). option_map reply_of o) at);
    }

told : (x : Asked) (ls : List Label) (b : List Stage) → Fits x ls b → (k : ℕ) → IsTold k ls (reply_at (map reply_of b) k)
told x ls b fits zero = record { stage = Waits; labels = fits.none; reply_is = refl }
told x ls b fits (suc i) = told_in x ls b fits i (slice_get b i) refl

others_none : (x : Asked) (ls : List Label) (b : List Stage) → Fits x ls b → (k : ℕ) → (k ≡ 0) ⊎ (length x.requests < k) → said k ls ≡ []
others_none x ls b fits zero out = fits.none
others_none x ls b fits (suc i) (inl is) = absurd (cc)
others_none x ls b fits (suc i) (inr past) = fits.beyond i (omega (arith, past))

-- ---- The answer

abbrev AllReplied : List Stage → Type 0
AllReplied a = (i : ℕ) (e : Stage) → slice_get a i ≡ Some e → is_replied e ≡ true

-- where each has its reply, nothing is left to do
stays_so : (x : Asked) (a b : List Stage) (s t : Core) (l : Label) → AllReplied a → Serves x a s l b t → b ≡ a
stays_so x a b s t (label.Main (main_label.Start k n)) all does = let given = all does.place Waits does.moves.was in absurd (cc)
stays_so x a b s t (label.Main (main_label.StartRefused why k)) all does = let given = all does.place Waits does.moves.was in absurd (cc)
stays_so x a b s t (label.Main (main_label.Finish k v)) all does = let given = all does.place (Open does.thread) does.moves.was in absurd (cc)
stays_so x a b s t (label.Main (main_label.FinishRefused why k)) all does = let given = all does.place (Declined why) does.moves.was in absurd (cc)
stays_so x a b s t (label.Main (main_label.Answer v)) all does = does.same
stays_so x a b s t (label.Main _) all does = absurd does
stays_so x a b s t (label.Loop loop_label.MainPends) all does = does.same
stays_so x a b s t l all does = does

still_replied : (x : Asked) (a b : List Stage) (h : List Moment) → AllReplied a → Serving x a h b → AllReplied b
still_replied x a b [] all serving = subst AllReplied (sym serving) all
still_replied x a b (m ∷ ms) all serving =
    still_replied x serving.0 b ms (subst AllReplied (sym (stays_so x a serving.0 m.before.core m.after.core m.label all serving.1.0)) all) serving.1.1

answered_here : (x : Asked) (a b : List Stage) (s t : Core) (l : Label) (v : ℕ) → l ≡ label.Main (main_label.Answer v) → Serves x a s l b t → IsDone x a s v b
answered_here x a b s t l v is does = subst (λ (k : Label). Serves x a s k b t) is does

answered : (x : Asked) (a b : List Stage) (h : List Moment) (v : ℕ) (before after : List Label) → Serving x a h b → labels_in h ≡ before ++ label.Main (main_label.Answer v) ∷ after →
    (v ≡ length x.requests) × AllReplied b
answered x a b [] v [] after serving is = absurd (cc)
answered x a b [] v (l ∷ ls) after serving is = absurd (cc)
answered x a b (m ∷ ms) v [] after serving is =
    let here : m.label ≡ label.Main (main_label.Answer v) = cc in
    let done = answered_here x a serving.0 m.before.core m.after.core m.label v here serving.1.0 in
    (done.number, still_replied x serving.0 b ms (subst AllReplied (sym done.same) done.all) serving.1.1)
answered x a b (m ∷ ms) v (l ∷ ls) after serving is =
    let rest : labels_in ms ≡ ls ++ label.Main (main_label.Answer v) ∷ after = cc in
    answered x serving.0 b ms v ls after serving.1.1 rest

replied_in : (b : List Stage) (i : ℕ) (r : Reply) (o : Option Stage) → AllReplied b → slice_get b i ≡ o → slice_get (map reply_of b) i ≡ Some r → r ≢ replies.None
replied_in b i r None all at is = let none = slice_get-map reply_of b i ∙ ap (λ (o : Option Stage). option_map reply_of o) at in absurd (cc)
replied_in b i r (Some e) all at is =
    let some = slice_get-map reply_of b i ∙ ap (λ (o : Option Stage). option_map reply_of o) at in
    let same : reply_of e ≡ r = cc in
    subst (λ (q : Reply). q ≢ replies.None) same (is_given e (all i e at))

length_mapped : (b : List Stage) → length (map reply_of b) ≡ length b
length_mapped [] = refl
length_mapped (e ∷ es) = ap (λ (k : ℕ). suc k) (length_mapped es)

pub serving_serves : ServingServes
serving_serves x h b serving =
    let first = fits_first x in
    let fits = last_fits x [] _ b h first serving in
    record {
      replies_are = record {
        each = length_mapped b ∙ fits.size;
        told = told x (labels_in h) b fits;
        others = others_none x (labels_in h) b fits;
        few = λ before after is. few_always x [] _ b h before after first serving is;
        done = λ v before after is.
            let all = answered x _ b h v before after serving is in
            (all.0, λ i r at. replied_in b i r (slice_get b i) all.1 refl at);
      };
      shows = each_shows x [] _ b h first serving;
    }
