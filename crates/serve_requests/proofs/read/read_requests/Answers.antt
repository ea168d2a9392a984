use Rattle.serve_requests.proofs.LoopLemmas.{bad_line, one_more}
use Rattle.serve_requests.proofs.read.read_requests.Goals as goal
use Rattle.std.proofs.Common.{ap}
use Rattle.std.specs.Prelude.{Err}
use Rattle.text_lines.specs.declared.line.LineError.{LineError}

pub returns-in-Err-Bad : goal.returns-in-Err-Bad
returns-in-Err-Bad c =
    let s = c.args.scenario.now in
    record {
      answer = bad_line s.instances c.args.text.now c.args.first c.loop-line.number c.loop-line.rest.now c.in-Some.line.now c.in-Some.more.now c.loop-line.requests.items c.loop-line.invariant c.in-Some.ensures.cases s.hosts c.requires.scenario.instances
          (rw c.as_slice-instances.ensures at (c.in-Err-Bad.ensures.bad (ap (λ (e : LineError). Err e) c.in-Err-Bad.field-0-is)));
    }

pub loop-line-preserved : goal.loop-line-preserved
loop-line-preserved c =
    let s = c.args.scenario.now in
    let k = rw c.as_slice-instances.ensures at c.in-Ok.ensures.ok in
    rw k.2 (one_more s.instances c.args.text.now c.args.first c.loop-line.number c.loop-line.rest.now c.in-Some.line.now c.in-Some.more.now c.loop-line.requests.items c.loop-line.invariant c.in-Some.ensures.cases k.1 c.in-Some.ensures.shorter k.0 k.3)
