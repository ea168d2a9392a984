-- What one move makes of what is at the marks.
use Rattle.std.proofs.Common.{ap, ap₂, arith, sym, ◌∙◌}
use Rattle.std.proofs.lemmas.List.{append-nil, append_assoc}
use Rattle.std.proofs.lemmas.List.Elements.{filter-append}
use Rattle.std.specs.List.{filter}
use Rattle.std.specs.Prelude.{Bool, List, None, Option, Some, [], false, if◌then◌else◌, refl, true, ℕ, ◌++◌, ◌==◌, ◌∷◌, ◌≡◌}
use Rattle.machine_data.specs.Core.{Queues}
use Rattle.machine_data.specs.Moves.{has_entry, less, less_switch}
use Rattle.machine_data.specs.Read.{or_high}
use Rattle.machine_data.specs.Write.{with_high, with_low}
use Rattle.machine_data.specs.declared.records.Entry.{Entry}
use Rattle.machine_data.specs.declared.records.Entry.TheVariants as entry
use Rattle.machine_data.specs.declared.statuses.Mark.{Mark}
use Rattle.machine_data.specs.declared.statuses.Mark.TheVariants as mark
use Rattle.machine_rules.proofs.Machine.{nat_tests}
use Rattle.machine_rules.specs.Takes.{rest_of}
use Rattle.laws_order.specs.Moves.{Comes, Lawful, May, Move, Promotes, Spares, SparesMove, SparesSwitch, Takes, Withdraws, after, at, come_to, moved, one_at, same_mark, taken_from, unlined}

-- ---- Moves one after another

pub lawful_more : (vs ws : List Move) (q : Queues) → Lawful vs q → Lawful ws (after vs q) → Lawful (vs ++ ws) q
lawful_more [] ws q p r = r
lawful_more (v ∷ vs) ws q p r = (p.0, lawful_more vs ws (moved v q) p.1 r)

pub after_more : (vs ws : List Move) (q : Queues) → after (vs ++ ws) q ≡ after ws (after vs q)
after_more [] ws q = refl
after_more (v ∷ vs) ws q = after_more vs ws (moved v q)

-- ---- One move and then others

taken_parts : (m : Mark) (v : Move) (vs : List Move) → taken_from m (v ∷ vs) ≡ taken_from m (v ∷ []) ++ taken_from m vs
taken_parts m (Takes k e) vs = by (same_mark m k)
  where
    by : (b : Bool) → (if b then e ∷ taken_from m vs else taken_from m vs) ≡ (if b then e ∷ [] else []) ++ taken_from m vs
    by true = refl
    by false = refl
taken_parts m v vs = refl

come_parts : (m : Mark) (v : Move) (vs : List Move) → come_to m (v ∷ vs) ≡ come_to m (v ∷ []) ++ come_to m vs
come_parts m (Comes k e) vs = by (same_mark m k)
  where
    by : (b : Bool) → (if b then e ∷ come_to m vs else come_to m vs) ≡ (if b then e ∷ [] else []) ++ come_to m vs
    by true = refl
    by false = refl
come_parts m v vs = refl

-- ---- Moves that a test spares

-- what is next is first at its mark
next_is : (m : Mark) (e : Entry) (q : Queues) → or_high q.switch q.high q.low ≡ Some (m, e) → at m q ≡ e ∷ at m (moved (Takes m e) q)
next_is m e q h = by m q.switch q.high q.low refl refl refl h
  where
    first : (f : Entry) (es fs : List Entry) → es ≡ f ∷ fs → f ≡ e → es ≡ e ∷ rest_of es
    first f es fs is same = grind arith

    by : (m : Mark) (o : Option ℕ) (hs ls : List Entry) → q.switch ≡ o → q.high ≡ hs → q.low ≡ ls → or_high o hs ls ≡ Some (m, e) →
        at m q ≡ e ∷ at m (moved (Takes m e) q)
    by mark.Switch (Some k) hs ls a b c h = grind arith
    by mark.High None (f ∷ hs) ls a b c h = first f q.high hs b (grind arith)
    by mark.Low None [] (f ∷ ls) a b c h = first f q.low ls c (grind arith)
    by m o hs ls a b c h = absurd (grind arith)

module _ (test : Entry → Bool) where
  none_less : (n : ℕ) → test (entry.Thread n) ≡ false → (es : List Entry) → filter test (less n es) ≡ filter test es
  none_less n off [] = refl
  none_less n off (entry.Thread m ∷ es) = grind (arith, nat_tests, none_less n off es)
  none_less n off (e ∷ es) = grind (arith, none_less n off es)

  none_at_switch : (o : Option ℕ) → SparesSwitch test o → filter test (one_at o) ≡ []
  none_at_switch None off = refl
  none_at_switch (Some n) off = grind arith

  -- who is at switch after the move is spared too
  pub switch_spared : (v : Move) (q : Queues) → May v q → SparesSwitch test q.switch → SparesMove test v → SparesSwitch test (moved v q).switch
  switch_spared (Takes mark.Switch e) q may off spares = tt
  switch_spared (Comes mark.Switch (entry.Thread n)) q may off spares = spares
  switch_spared (Comes mark.Switch e) q may off spares = tt
  switch_spared (Promotes n) q may off spares = spares
  switch_spared (Withdraws n) q may off spares = less_spared n q.switch off
    where
      if_spared : (b : Bool) (m : ℕ) → SparesSwitch test (Some m) → SparesSwitch test (if b then None else Some m)
      if_spared true m off = tt
      if_spared false m off = off

      less_spared : (n : ℕ) (o : Option ℕ) → SparesSwitch test o → SparesSwitch test (less_switch n o)
      less_spared n None off = tt
      less_spared n (Some m) off = if_spared (n == m) m off
  switch_spared (Takes m e) q may off spares = off
  switch_spared (Comes m e) q may off spares = off

  plain : (es : List Entry) → filter test es ≡ filter test (es ++ [])
  plain es = ap (filter test) (sym (append-nil es))

  unlined_high : (n : ℕ) (q : Queues) → test (entry.Thread n) ≡ false → filter test (unlined n q).high ≡ filter test q.high
  unlined_high n q off = by (has_entry n q.high)
    where
      by : (b : Bool) → filter test (if b then with_high (less n q.high) q else with_low (less n q.low) q).high ≡ filter test q.high
      by true = none_less n off q.high
      by false = refl

  unlined_low : (n : ℕ) (q : Queues) → test (entry.Thread n) ≡ false → filter test (unlined n q).low ≡ filter test q.low
  unlined_low n q off = by (has_entry n q.high)
    where
      by : (b : Bool) → filter test (if b then with_high (less n q.high) q else with_low (less n q.low) q).low ≡ filter test q.low
      by true = refl
      by false = none_less n off q.low

  none_one : (e : Entry) → test e ≡ false → filter test (e ∷ []) ≡ []
  none_one e off = grind arith

  -- one move, at each mark
  pub one_move : (v : Move) (q : Queues) → May v q → SparesSwitch test q.switch → SparesMove test v → (m : Mark) →
      filter test (taken_from m (v ∷ []) ++ at m (moved v q)) ≡ filter test (at m q ++ come_to m (v ∷ []))
  one_move (Takes mark.Switch e) q may off spares mark.Switch = ap (filter test) (sym (next_is mark.Switch e q may)) ∙ plain (one_at q.switch)
  one_move (Takes mark.High e) q may off spares mark.High = ap (filter test) (sym (next_is mark.High e q may)) ∙ plain q.high
  one_move (Takes mark.Low e) q may off spares mark.Low = ap (filter test) (sym (next_is mark.Low e q may)) ∙ plain q.low
  one_move (Comes mark.Switch (entry.Thread n)) q may off spares mark.Switch =
      none_one (entry.Thread n) spares ∙ sym (filter-append test (one_at q.switch) (entry.Thread n ∷ [])
      ∙ ap₂ (λ a b. a ++ b) (none_at_switch q.switch off) (none_one (entry.Thread n) spares))
  one_move (Comes mark.Switch e) q may off spares mark.Switch = absurd (grind arith)
  one_move (Comes mark.Switch e) q may off spares mark.High =
      filter-append test (one_at q.switch) q.high ∙ ap (λ a. a ++ filter test q.high) (none_at_switch q.switch off) ∙ plain q.high
  one_move (Comes mark.High e) q may off spares mark.High = refl
  one_move (Comes mark.Low e) q may off spares mark.Low = refl
  one_move (Promotes n) q may off spares mark.Switch = none_one (entry.Thread n) spares ∙ sym (none_at_switch q.switch off) ∙ plain (one_at q.switch)
  one_move (Promotes n) q may off spares mark.High = unlined_high n q spares ∙ plain q.high
  one_move (Promotes n) q may off spares mark.Low = unlined_low n q spares ∙ plain q.low
  one_move (Withdraws n) q may off spares mark.Switch =
      none_at_switch (less_switch n q.switch) (switch_spared (Withdraws n) q may off spares) ∙ sym (none_at_switch q.switch off) ∙ plain (one_at q.switch)
  one_move (Withdraws n) q may off spares mark.High = unlined_high n q spares ∙ plain q.high
  one_move (Withdraws n) q may off spares mark.Low = unlined_low n q spares ∙ plain q.low
  one_move v q may off spares mark.Switch = plain (one_at q.switch)
  one_move v q may off spares mark.High = plain q.high
  one_move v q may off spares mark.Low = plain q.low

  -- moves one after another
  pub moves_in_turn : (vs : List Move) (q : Queues) → Lawful vs q → SparesSwitch test q.switch → Spares test vs → (m : Mark) →
      filter test (taken_from m vs ++ at m (after vs q)) ≡ filter test (at m q ++ come_to m vs)
  moves_in_turn [] q lawful off spares m = plain (at m q)
  moves_in_turn (v ∷ vs) q lawful off spares m =
      let f = filter test in
      let r = moved v q in
      let first : f (taken_from m (v ∷ []) ++ at m r) ≡ f (at m q ++ come_to m (v ∷ [])) = one_move v q lawful.0 off spares.0 m in
      let later : f (taken_from m vs ++ at m (after vs r)) ≡ f (at m r ++ come_to m vs) =
      moves_in_turn vs r lawful.1 (switch_spared v q lawful.0 off spares.0) spares.1 m in
      ap (λ ns. f (ns ++ at m (after vs r))) (taken_parts m v vs)
      ∙ (ap f (append_assoc (taken_from m (v ∷ [])) (taken_from m vs) (at m (after vs r)))
      ∙ (filter-append test (taken_from m (v ∷ [])) (taken_from m vs ++ at m (after vs r))
      ∙ (ap (λ ns. f (taken_from m (v ∷ [])) ++ ns) later
      ∙ (sym (filter-append test (taken_from m (v ∷ [])) (at m r ++ come_to m vs))
      ∙ (ap f (sym (append_assoc (taken_from m (v ∷ [])) (at m r) (come_to m vs)))
      ∙ (filter-append test (taken_from m (v ∷ []) ++ at m r) (come_to m vs)
      ∙ (ap (λ ns. ns ++ f (come_to m vs)) first
      ∙ (sym (filter-append test (at m q ++ come_to m (v ∷ [])) (come_to m vs))
      ∙ (ap f (append_assoc (at m q) (come_to m (v ∷ [])) (come_to m vs))
      ∙ ap (λ ns. f (at m q ++ ns)) (sym (come_parts m v vs)))))))))))
