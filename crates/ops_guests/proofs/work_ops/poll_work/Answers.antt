-- The work does what it told.
use Rattle.std.proofs.Common.{ap, refl, sym, ◌∙◌}
use Rattle.std.specs.Prelude.{Bool, Option, is_some, ℕ, ◌≡◌}
use Rattle.machine_data.specs.Core.{Core}
use Rattle.machine_data.specs.Write.{set_trapped}
use Rattle.machine_data.specs.declared.component.HostDef.{HostDef}
use Rattle.ops_guests.proofs.work_ops.poll_work.Goals as goal
use Rattle.ops_guests.specs.PolledWorks.{PollImplements, PolledTo, TellsPoll, answer_in}
use Rattle.ops_guests.specs.declared.work_ops.Polled.TheVariants as polled
use Rattle.ops_guests.specs.declared.work_ops.PollNews.{PollNews}
use Rattle.ops_guests.specs.declared.work_ops.PollNews.TheVariants as told
use Rattle.machine_rules.specs.Works.{Asked, Ends, FailsNow, Poll, StillPends, next_polled, poll_ends, poll_of, poll_pends}
use Rattle.core_primitives.specs.Polls.{PendsWith}
use Rattle.core_primitives.specs.StateView.{StateView, work_of}

-- the poll that was told of may pend so
found_pending : (r : PollNews) (p : Poll) → r ≡ told.Pends → TellsPoll r p → (left : HostDef) × PendsWith left p
found_pending r (StillPends left) is tells = (left, refl)
found_pending r (Ends v) is tells = absurd (let e = sym is ∙ tells in cc)
found_pending r FailsNow is tells = absurd (let e = sym is ∙ tells in cc)
found_pending r (Asked next) is tells = let q = found_pending r (next (answer_in r)) is tells in (q.0, (answer_in r, q.1))

module _ (i : ℕ) (s t : Core) where
  pending_implements : (r : PollNews) (b : Bool) (p : Poll) (is : r ≡ told.Pends) (tells : TellsPoll r p) → b ≡ is_some (next_polled i t) → t ≡ poll_pends i (found_pending r p is tells).0 s → PollImplements i p s (polled.Pends b) t × PolledTo r i p s t
  unfolding found_pending
  pending_implements r b (StillPends left) is tells more new = ((ap (λ (c : Bool). polled.Pends c) more, new), new)
  pending_implements r b (Ends v) is tells more new = absurd (let e = sym is ∙ tells in cc)
  pending_implements r b FailsNow is tells more new = absurd (let e = sym is ∙ tells in cc)
  pending_implements r b (Asked next) is tells more new = let q = pending_implements r b (next (answer_in r)) is tells more new in ((answer_in r, q.0), q.1)

  end_implements : (r : PollNews) (v : Option ℕ) (p : Poll) → r ≡ told.Ends v → TellsPoll r p → t ≡ poll_ends i v s → PollImplements i p s polled.Ends t × PolledTo r i p s t
  end_implements r v (StillPends left) is tells new = absurd (let e = sym is ∙ tells in cc)
  end_implements r v (Ends w) is tells new =
      let e : told.Ends v ≡ told.Ends w = sym is ∙ tells in
      let same : v ≡ w = cc in
      let core = new ∙ ap (λ (o : Option ℕ). poll_ends i o s) same in
      ((refl, core), core)
  end_implements r v FailsNow is tells new = absurd (let e = sym is ∙ tells in cc)
  end_implements r v (Asked next) is tells new = let q = end_implements r v (next (answer_in r)) is tells new in ((answer_in r, q.0), q.1)

  fail_implements : (r : PollNews) (p : Poll) → r ≡ told.Fails → TellsPoll r p → t ≡ set_trapped s → PollImplements i p s polled.Fails t × PolledTo r i p s t
  fail_implements r (StillPends left) is tells new = absurd (let e = sym is ∙ tells in cc)
  fail_implements r (Ends v) is tells new = absurd (let e = sym is ∙ tells in cc)
  fail_implements r FailsNow is tells new = ((refl, new), new)
  fail_implements r (Asked next) is tells new = let q = fail_implements r (next (answer_in r)) is tells new in ((answer_in r, q.0), q.1)

pub count_poll-more-requires-clause-pends : goal.count_poll-more-requires-clause-pends
count_poll-more-requires-clause-pends g c = found_pending c.args.told (poll_of (work_of (g.W.View.view c.args.w.now) c.args.work) (g.W.View.view c.args.w.now).core) c.in-Pends.is c.requires.told

pub returns-in-Pends-clause-implements : goal.returns-in-Pends-clause-implements
returns-in-Pends-clause-implements g c =
    let s = g.W.View.view c.args.w.now in
    let t = g.W.View.view c.count_poll-more.new.self in
    let i = work_of s c.args.work in
    let e = found_pending c.args.told (poll_of i s.core) c.in-Pends.is c.requires.told in
    (pending_implements i s.core t.core c.args.told c.count_poll-more.result (poll_of i s.core) c.in-Pends.is c.requires.told c.count_poll-more.ensures.more (ap (λ (v : StateView). v.core) (c.count_poll-more.ensures.new e.0 e.1))).0

pub returns-in-Pends-clause-core : goal.returns-in-Pends-clause-core
returns-in-Pends-clause-core g c =
    let s = g.W.View.view c.args.w.now in
    let t = g.W.View.view c.count_poll-more.new.self in
    let i = work_of s c.args.work in
    let e = found_pending c.args.told (poll_of i s.core) c.in-Pends.is c.requires.told in
    (pending_implements i s.core t.core c.args.told c.count_poll-more.result (poll_of i s.core) c.in-Pends.is c.requires.told c.count_poll-more.ensures.more (ap (λ (v : StateView). v.core) (c.count_poll-more.ensures.new e.0 e.1))).1

pub returns-in-Ends-clause-implements : goal.returns-in-Ends-clause-implements
returns-in-Ends-clause-implements g c =
    let s = g.W.View.view c.args.w.now in
    let t = g.W.View.view c.end_work.new.w in
    let i = work_of s c.args.work in
    (end_implements i s.core t.core c.args.told c.in-Ends.value (poll_of i s.core) c.in-Ends.is c.requires.told (ap (λ (v : StateView). v.core) c.end_work.ensures)).0

pub returns-in-Ends-clause-core : goal.returns-in-Ends-clause-core
returns-in-Ends-clause-core g c =
    let s = g.W.View.view c.args.w.now in
    let t = g.W.View.view c.end_work.new.w in
    let i = work_of s c.args.work in
    (end_implements i s.core t.core c.args.told c.in-Ends.value (poll_of i s.core) c.in-Ends.is c.requires.told (ap (λ (v : StateView). v.core) c.end_work.ensures)).1

pub returns-in-Fails-clause-implements : goal.returns-in-Fails-clause-implements
returns-in-Fails-clause-implements g c =
    let s = g.W.View.view c.args.w.now in
    let t = g.W.View.view c.set_trapped.new.self in
    let i = work_of s c.args.work in
    (fail_implements i s.core t.core c.args.told (poll_of i s.core) c.in-Fails.is c.requires.told (ap (λ (v : StateView). v.core) c.set_trapped.ensures)).0

pub returns-in-Fails-clause-core : goal.returns-in-Fails-clause-core
returns-in-Fails-clause-core g c =
    let s = g.W.View.view c.args.w.now in
    let t = g.W.View.view c.set_trapped.new.self in
    let i = work_of s c.args.work in
    (fail_implements i s.core t.core c.args.told (poll_of i s.core) c.in-Fails.is c.requires.told (ap (λ (v : StateView). v.core) c.set_trapped.ensures)).1

pub returns-in-Pends-clause-tags : goal.returns-in-Pends-clause-tags
returns-in-Pends-clause-tags g c =
    let s = g.W.View.view c.args.w.now in
    let e = found_pending c.args.told (poll_of (work_of s c.args.work) s.core) c.in-Pends.is c.requires.told in
    ap (λ (v : StateView). v.tags) (c.count_poll-more.ensures.new e.0 e.1)

pub returns-in-Pends-clause-current : goal.returns-in-Pends-clause-current
returns-in-Pends-clause-current g c =
    let s = g.W.View.view c.args.w.now in
    let e = found_pending c.args.told (poll_of (work_of s c.args.work) s.core) c.in-Pends.is c.requires.told in
    ap (λ (v : StateView). v.current) (c.count_poll-more.ensures.new e.0 e.1)
