-- What is offered after the tests of each rule, in the rule's order.
use Rattle.laws_choices.specs.Offer.{Offer}
use Rattle.laws_choices.specs.Offers.{blocking_exit_offer, delivery_offer, exit_offer, kind_exit_offer, nothing, releases, ret_offer, start_offer, starting_offer, task_cancel_offer, tells, unless}
use Rattle.machine_data.specs.Core.{Core}
use Rattle.machine_data.specs.Read.{at_handle_limit, cancel_was_delivered, goal_of, has_ended, instance_of, is_async_lifted, is_direct, is_explicit, kind_of, task_of}
use Rattle.machine_data.specs.declared.records.Delivery.TheVariants as delivery
use Rattle.machine_data.specs.declared.records.Delivery.{Delivery}
use Rattle.machine_rules.specs.Ends.{held_by_flag, passes_after_return}
use Rattle.machine_rules.specs.Takes.{starting_is_published}
use Rattle.std.proofs.Common.{ap, refl, sym, ◌∙◌}
use Rattle.std.specs.Prelude.{Bool, None, false, if◌then◌else◌, not, true, ℕ, ◌≡◌}

module _ (n : ℕ) (s : Core) where
  abbrev k : ℕ
  k = task_of n s

  -- ---- `ret`

  abbrev ret : (ended async : Bool) → Offer
  ret ended async = unless ended (unless (not async) (tells k s))

  pub ret_ended : has_ended k s ≡ true → nothing ≡ ret_offer n s
  ret_ended is = sym (ap (λ (b : Bool). ret b (is_async_lifted (kind_of k s))) is)

  pub ret_sync : has_ended k s ≡ false → is_async_lifted (kind_of k s) ≡ false → nothing ≡ ret_offer n s
  ret_sync ended is = sym (ap (λ (b : Bool). ret b (is_async_lifted (kind_of k s))) ended ∙ ap (ret false) is)

  pub ret_tells : has_ended k s ≡ false → is_async_lifted (kind_of k s) ≡ true → tells k s ≡ ret_offer n s
  ret_tells ended is = sym (ap (λ (b : Bool). ret b (is_async_lifted (kind_of k s))) ended ∙ ap (ret false) is)

  -- ---- `task_cancel`

  abbrev cancel : (delivered ended : Bool) → Offer
  cancel delivered ended = unless (not delivered) (unless ended (tells k s))

  pub cancel_undelivered : cancel_was_delivered k s ≡ false → nothing ≡ task_cancel_offer n s
  cancel_undelivered is = sym (ap (λ (b : Bool). cancel b (has_ended k s)) is)

  pub cancel_ended : cancel_was_delivered k s ≡ true → has_ended k s ≡ true → nothing ≡ task_cancel_offer n s
  cancel_ended delivered is = sym (ap (λ (b : Bool). cancel b (has_ended k s)) delivered ∙ ap (cancel true) is)

  pub cancel_tells : cancel_was_delivered k s ≡ true → has_ended k s ≡ false → tells k s ≡ task_cancel_offer n s
  cancel_tells delivered is = sym (ap (λ (b : Bool). cancel b (has_ended k s)) delivered ∙ ap (cancel true) is)

  -- ---- Exits

  abbrev blocking : Bool → Offer
  blocking passes = unless (not passes) (releases (held_by_flag (instance_of n s) s) (tells k s))

  pub blocking_none : passes_after_return n None s ≡ false → nothing ≡ blocking_exit_offer n s
  blocking_none is = sym (ap blocking is)

  pub blocking_opens : passes_after_return n None s ≡ true → releases (held_by_flag (instance_of n s) s) (tells k s) ≡ blocking_exit_offer n s
  blocking_opens is = sym (ap blocking is)

  abbrev exit : (explicit direct : Bool) → Offer
  exit explicit direct = if explicit then nothing else if direct then nothing else kind_exit_offer n s (kind_of k s)

  pub explicit_none : is_explicit n s ≡ true → nothing ≡ exit_offer n s
  explicit_none is = sym (ap (λ (b : Bool). exit b (is_direct (goal_of k s))) is)

  pub direct_none : is_explicit n s ≡ false → is_direct (goal_of k s) ≡ true → nothing ≡ exit_offer n s
  direct_none explicit is = sym (ap (λ (b : Bool). exit b (is_direct (goal_of k s))) explicit ∙ ap (exit false) is)

  pub exit_by_kind : is_explicit n s ≡ false → is_direct (goal_of k s) ≡ false → kind_exit_offer n s (kind_of k s) ≡ exit_offer n s
  exit_by_kind explicit is = sym (ap (λ (b : Bool). exit b (is_direct (goal_of k s))) explicit ∙ ap (exit false) is)

  -- ---- Takings

  abbrev start : (explicit limit : Bool) → Offer
  start explicit limit = if explicit then nothing else unless limit (tells k s)

  pub start_explicit : is_explicit n s ≡ true → nothing ≡ start_offer n s true
  start_explicit is = sym (ap (λ (b : Bool). start b (at_handle_limit s)) is)

  pub start_limit : is_explicit n s ≡ false → at_handle_limit s ≡ true → nothing ≡ start_offer n s true
  start_limit explicit is = sym (ap (λ (b : Bool). start b (at_handle_limit s)) explicit ∙ ap (start false) is)

  pub start_tells : is_explicit n s ≡ false → at_handle_limit s ≡ false → tells k s ≡ start_offer n s true
  start_tells explicit is = sym (ap (λ (b : Bool). start b (at_handle_limit s)) explicit ∙ ap (start false) is)

  pub delivery_shut : (d : Delivery) → nothing ≡ delivery_offer n s d false
  delivery_shut (delivery.Set x) = refl
  delivery_shut delivery.Yield = refl
  delivery_shut delivery.Cancel = refl

pub starting_none : (k : ℕ) (s : Core) → starting_is_published k s ≡ true → nothing ≡ starting_offer k s
starting_none k s is = sym (ap (λ (b : Bool). if b then nothing else tells k s) is)

pub starting_tells : (k : ℕ) (s : Core) → starting_is_published k s ≡ false → tells k s ≡ starting_offer k s
starting_tells k s is = sym (ap (λ (b : Bool). if b then nothing else tells k s) is)

-- a yield's delivery, and that of a cancel, choose nothing
pub yield_none : (n : ℕ) (s : Core) (admitted : Bool) → nothing ≡ delivery_offer n s delivery.Yield admitted
yield_none n s true = refl
yield_none n s false = refl

pub cancel_none : (n : ℕ) (s : Core) (admitted : Bool) → nothing ≡ delivery_offer n s delivery.Cancel admitted
cancel_none n s true = refl
cancel_none n s false = refl
