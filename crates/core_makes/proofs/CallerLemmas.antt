-- A node or a chain is made among the callers of threads: every list stays as it is.
use Rattle.core_records.proofs.Core.{ap, callers_chain, callers_in, callers_row, IsFollower, IsRows, IsRows-made, IsSoundCore, List, None, Option, option_map, Records, records, refl, Renames, same_map, seen, Some, Spot, spot_link, sym, Unmade, values, values_are, ℕ, ◌∙◌, ◌≡◌}
use Rattle.core_records.specs.declared.{parts.CoreParts.CoreParts, thread_records.Follower.Follower}
use Rattle.core_makes.proofs.RowLemmas.{keeps_made}
use Rattle.core_queues.proofs.CallerLemmas.{bared, callers_get, callers_sound, numbers_of}

module _ (a : CoreParts) (sound : IsSoundCore a) (new : List (Spot Follower)) (n : ℕ) (is : Spot Follower) (names : Renames a.behind new n Unmade is) (unlinked : spot_link is ≡ None) where
  rows_made : IsRows (callers_chain (bared a)) (λ f. f.node.index) (IsFollower (bared a)) new (callers_row (bared a))
  unfolding IsSoundCore
  rows_made = IsRows-made (callers_chain (bared a)) (λ f. f.node.index) (IsFollower (bared a)) a.behind (callers_row (bared a)) sound.whole.chained.behind new n is names unlinked

  pub caller_made_sound : IsSoundCore (record a { behind = new })
  caller_made_sound = callers_sound a sound new (callers_row (bared a)) rows_made (keeps_made a.behind new n is names)

  rule_same : (m : ℕ) → (o : Option ℕ) → callers_chain (bared a) m ≡ o → option_map (λ c. numbers_of (values new c)) o ≡ option_map (λ c. numbers_of (values a.behind c)) o
  unfolding IsSoundCore
  rule_same m None at = refl
  rule_same m (Some c) at = ap (λ (l : List Follower). Some (numbers_of l))
      (values_are (callers_chain (bared a)) (λ f. f.node.index) (IsFollower (bared a)) new (callers_row (bared a)) rows_made m c at
      ∙ sym (values_are (callers_chain (bared a)) (λ f. f.node.index) (IsFollower (bared a)) a.behind (callers_row (bared a)) sound.whole.chained.behind m c at))

  pub caller_made_seen : seen (record a { behind = new }) ≡ seen a
  unfolding seen
  caller_made_seen = ap (λ (m : Records (List ℕ)). record (seen a) { core = record (seen a).core { callers = m } })
      (same_map (records (callers_in new) a.threads.places) (records (callers_in a.behind) a.threads.places)
      (λ m. callers_get a new m ∙ (rule_same m (callers_chain (bared a) m) refl ∙ sym (callers_get a a.behind m))))
