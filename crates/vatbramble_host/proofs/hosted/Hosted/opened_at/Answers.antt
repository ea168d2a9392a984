-- What a scenario keeps whose host is opened.
use Rattle.vatbramble_host.proofs.OpenLemmas.{codes_still, formed_still}
use Rattle.vatbramble_host.proofs.hosted.Hosted.opened_at.Goals as goal

pub invariant_of-result : goal.invariant_of-result
invariant_of-result c =
    let component = c.args.self.scenario.component in
    record { handles = c.args.self.handles; few = c.args.self.few; formed = formed_still component _ c.args.self.formed; codes = codes_still component _ c.args.self.codes }
