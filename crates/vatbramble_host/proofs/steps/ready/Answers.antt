-- Main waited until the instance took calls.
use Rattle.vatbramble_host.proofs.AskLemmas.{pends_now}
use Rattle.task_loop.proofs.OpenMainLemmas.{did_ready, is_ready}
use Rattle.vatbramble_host.proofs.steps.ready.Goals as goal
use Rattle.vatbramble_host.specs.Asks.{asking_says}
use Rattle.std.proofs.Common.{refl}
use Rattle.task_loop.proofs.MainStepLemmas.{stepped_still}
use Rattle.machine_data.specs.declared.label.Label.TheVariants as label
use Rattle.machine_data.specs.declared.label.MainLabel.TheVariants as main_label
use Rattle.ops_turns.specs.declared.mains.MainStep.TheVariants as step

pub returns : goal.returns
returns g c =
    let s = c.args.access.now.store.now in
    record {
      step = stepped_still asking_says g.H.HostWork.course c.args.component.now (step.Did (label.Main main_label.Ready)) c.args.main.now s _ c.requires.may
          (did_ready c.args.component.now s.state.core c.args.instance.index c.requires.there (is_ready _ c.in-Ready.ensures)) refl refl tt c.requires.may.knows;
    }

pub returns-in_default : goal.returns-in_default
returns-in_default g c =
    let s = c.args.access.now.store.now in
    record { step = stepped_still asking_says g.H.HostWork.course c.args.component.now step.Pends c.args.main.now s _ c.requires.may (pends_now c.args.component.now s.state.core) refl tt tt c.requires.may.knows }
