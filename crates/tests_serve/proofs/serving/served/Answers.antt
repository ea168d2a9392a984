-- The requests of the lines are taken by the text's component.
use Rattle.serve_requests.specs.declared.request.Request.{Request}
use Rattle.serve_main.proofs.TakenLemmas.{taken_by_text}
use Rattle.serve_main.specs.Knows.{AllTaken}
use Rattle.tests_serve.proofs.serving.served.Goals as goal
use Rattle.std.proofs.Common.{subst, sym}
use Rattle.std.specs.Prelude.{List}

pub serve-requires-clause-taken : goal.serve-requires-clause-taken
serve-requires-clause-taken g c = λ x reads.
    subst (λ (rs : List Request). AllTaken x.component rs) (sym c.as_slice.ensures.value)
    (taken_by_text c.args.text.now c.tree-tree.result x c.in-Ok.requests.items c.tree-tree.ensures reads c.in-Ok.ensures.answer.suited)
