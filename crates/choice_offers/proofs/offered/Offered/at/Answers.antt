use Rattle.choice_offers.proofs.offered.Offered.at.Goals as goal

pub returns : goal.returns
returns c = λ n there. record {
  waiters = c.in_ok-waiters.ensures.numbers;
  members = c.in_ok-members.ensures.handles n there.1;
  held = c.in_ok-opened.ensures.numbers;
  names = record { waiters = c.in_ok-waiters.ensures.named; members = c.in_ok-members.ensures.named n there.1; held = c.in_ok-opened.ensures.named };
  rises = c.in_ok-opened.ensures.rises;
}
