-- In version 1 nothing is kept of when a thread began to wait; in version 2 how many have come, and with the thread when it came.
use Rattle.core_primitives.specs.StateView.{StateView, on_core, thread_of, with_core}
use Rattle.core_records.proofs.Core.{ap, Bool, cond, Core, false, IsSoundCore, None, Option, option_map, refl, Records, same_map, seen, Some, sym, TableId, Thread, ThreadKey, true, ℕ, ◌==◌, ◌∙◌, ◌≡◌}
use Rattle.core_records.proofs.SoundLemmas.{sound_of_whole}
use Rattle.core_records.specs.declared.parts.CoreParts.{CoreParts}
use Rattle.machine_data.proofs.CommuteLemmas.{get-change}
use Rattle.machine_data.specs.Maps.{change, get}
use Rattle.machine_data.specs.Write.{arrival, arrive, counted_arrival, on_thread}
use Rattle.machine_data.specs.declared.scenario.Version.TheVariants as version
use Rattle.machine_data.specs.declared.scenario.Version.{Version}

still_map : (n : ℕ) (m : Records Thread) → change n (λ (t : Thread). record t { came = t.came }) m ≡ m
still_map n m = same_map _ _ (λ q. get-change n (λ (t : Thread). record t { came = t.came }) m q ∙ by (q == n) (get m q))
  where
    by : (b : Bool) (o : Option Thread) → cond b (option_map (λ (t : Thread). record t { came = t.came }) o) o ≡ o
    by true None = refl
    by true (Some t) = refl
    by false o = refl

pub arrive_first : (n : ℕ) (s : Core) → s.version ≡ version.One → arrive n s ≡ s
unfolding arrive on_thread
arrive_first n s one =
    ap (λ (v : Version). record s { threads = change n (λ (t : Thread). record t { came = arrival v s.arrivals t.came }) s.threads; arrivals = counted_arrival v s.arrivals }) one
    ∙ ap (λ (m : Records Thread). record s { threads = m }) (still_map n s.threads)

pub arrive_second : (n : ℕ) (s : Core) → s.version ≡ version.Two → arrive n s ≡ on_thread n (λ t. record t { came = s.arrivals }) (record s { arrivals = counted_arrival version.Two s.arrivals })
unfolding arrive on_thread
arrive_second n s two = ap (λ (v : Version). record s { threads = change n (λ (t : Thread). record t { came = arrival v s.arrivals t.came }) s.threads; arrivals = counted_arrival v s.arrivals }) two

module _ (a : CoreParts) (sound : IsSoundCore a) (more : ℕ) where
  abbrev pub counted : CoreParts
  counted = record a { arrivals = more }

  pub counted_sound : IsSoundCore counted
  unfolding IsSoundCore
  counted_sound = sound_of_whole a counted refl sound sound.whole

  -- what has the number and the thread is what has arrived
  pub arrives : (id : TableId ThreadKey) → a.version ≡ version.Two → more ≡ counted_arrival version.Two a.arrivals → (t : StateView) → t ≡ on_core (on_thread (thread_of (seen counted) id) (λ t. record t { came = a.arrivals })) (seen counted) → t ≡ on_core (arrive (thread_of (seen a) id)) (seen a)
  unfolding seen
  arrives id second more_is t is =
      is ∙ (ap (λ (m : ℕ). on_core (λ s. on_thread (thread_of (seen a) id) (λ t. record t { came = a.arrivals }) (record s { arrivals = m })) (seen a)) more_is
      ∙ sym (ap (λ (s : Core). with_core s (seen a)) (arrive_second (thread_of (seen a) id) (seen a).core second)))
