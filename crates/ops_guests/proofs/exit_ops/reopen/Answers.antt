use Rattle.ops_guests.proofs.ExitLemmas.{open_placed, reopened_in_order}
use Rattle.ops_guests.proofs.exit_ops.reopen.Goals as goal

pub release-requires : goal.release-requires
release-requires g c = open_placed c.args.thread _ (g.W.View.view c.args.w.now) _ c.requires c.set_do_not_enter.ensures

pub returns : goal.returns
returns g c = reopened_in_order _ (g.W.View.view c.args.w.now) (g.W.View.view c.set_do_not_enter.new.self) _ c.set_do_not_enter.ensures c.release.ensures
