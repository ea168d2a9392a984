use Rattle.core_queues.proofs.TopLemmas.{host_id, push_id, thread_id, thread_stands}
use Rattle.core_queues.proofs.order_keys.entry_id.Goals as goal

pub thread_at_unchecked-requires : goal.thread_at_unchecked-requires
thread_at_unchecked-requires c = thread_stands c.args.parts.now c.requires.sound c.args.queued c.requires.keyed c.in-Thread.thread c.in-Thread.is

pub returns-in-Thread : goal.returns-in-Thread
returns-in-Thread c = thread_id c.args.parts.now c.requires.sound c.args.queued c.requires.keyed c.in-Thread.thread c.in-Thread.is _ c.thread_at_unchecked.ensures

pub returns-in-Push : goal.returns-in-Push
returns-in-Push c = push_id c.args.parts.now c.requires.sound c.args.queued c.requires.keyed c.in-Push.work c.in-Push.is _ c.work_at.ensures

pub returns-in-Host : goal.returns-in-Host
returns-in-Host c = host_id c.args.parts.now c.requires.sound c.args.queued c.requires.keyed c.in-Host.work c.in-Host.is _ c.work_at-in-Host.ensures
