-- The refusal that is due is replied.
use Rattle.serve_requests.specs.declared.request.Stage.{Stage}
use Rattle.serve_requests.specs.declared.request.Stage.TheVariants.{Declined}
use Rattle.serve_main.proofs.StepLemmas.{few_replied, refusal_due, refusal_stepped}
use Rattle.serve_main.proofs.steps.reply_refusal.Goals as goal
use Rattle.std.proofs.Common.{ap, arith, refl, sym, ◌∙◌, ◌-◌}

pub overflow_add-main : goal.overflow_add-main
overflow_add-main g c = let few = few_replied _ _ _ _ _ _ _ c.requires.may.knows.keeps in omega (arith, few)

pub returns : goal.returns
returns g c =
    let m = c.args.main.now in
    let s = c.args.access.now.store.now in
    let d = refusal_due _ _ _ _ _ _ _ c.requires.may.knows.keeps c.requires.due c.index.result.now c.in-Declined.trap c.index.ensures c.in-Declined.is in
    record { step = refusal_stepped g.H.HostWork.course c.args.component.now m _ s s c.requires.may (m.started - 1) c.in-Declined.trap refl c.requires.trapped d.0 d.1 d.2 refl refl refl refl refl refl refl }
