use Rattle.core_records.proofs.Core.{ap, Bool, cond, false, get, is_some, IsSoundCore, kept_in, refl, seen, sym, thread_number, ThreadOf, true, ℕ, ◌∙◌, ◌≡◌}
use Rattle.core_records.specs.declared.{thread_records.GuestThread.GuestThread}
use Rattle.core_records.proofs.HomeLemmas.{call_names, place_bare}
use Rattle.core_records.proofs.StandLemmas.{shown_beyond}
use Rattle.core_records.proofs.ids.first_thread.Goals as goal

pub thread_id_at-requires-clause-stands : goal.thread_id_at-requires-clause-stands
thread_id_at-requires-clause-stands c = (place_bare c.args.parts.now c.in-Some.entry.now.first (ThreadOf c.in-Some.entry.now.number) (call_names c.args.parts.now c.requires c.args.call c.in-Some.entry.now c.in-Some.ensures.item).first).1

pub returns-in-Some : goal.returns-in-Some
returns-in-Some c = c.thread_id_at.ensures ∙ ap (kept_in (seen c.args.parts.now).core.threads) c.in-Some.ensures.number

pub returns-in-None : goal.returns-in-None
unfolding seen IsSoundCore thread_number
returns-in-None c =
    let a = c.args.parts.now in
    shown_beyond (λ (g : GuestThread). g.number) (λ (g : GuestThread). g.thread) a.threads c.nowhere.result.rep c.nowhere.result.serial a.made.threads c.requires.tables.threads c.nowhere.ensures
    ∙ sym (ap (kept_in (seen a).core.threads) c.in-None.ensures.nothing ∙ by (is_some (get (seen a).core.threads 0)))
  where
    by : (b : Bool) → cond {A = ℕ} b 0 0 ≡ 0
    by true = refl
    by false = refl
