-- At first no request was started.
use Rattle.serve_requests.proofs.KeepLemmas.{keeps_first}
use Rattle.serve_main.proofs.server.ServerMain.new.Goals as goal
use Rattle.serve_main.specs.Knows.{IsCall}
use Rattle.serve_requests.specs.declared.request.Stage.TheVariants.{Waits}
use Rattle.std.proofs.Common.{ap, rules, subst, sym}
use Rattle.std.specs.Prelude.{length, replicate, ◌≡◌}
use Rattle.task_nursery.specs.Children.{thread_in}
use Rattle.task_nursery.specs.Scope.{IsOf, Scope}

pub returns-clause-knows : goal.returns-clause-knows
returns-clause-knows c = λ s.
    let items : c.in_ok-vec.field-0.items ≡ replicate (length c.args.requests.now) Waits = search rules in
    record {
      of = subst (λ (n : Scope). IsOf n s) (sym c.new.ensures) (λ i k at. absurd (cc));
      unclosed = ap (λ (n : Scope). n.closed) c.new.ensures;
      keeps = rw (c.new.ensures, items) (keeps_first thread_in IsCall c.args.requests.now c.requires.few);
    }
