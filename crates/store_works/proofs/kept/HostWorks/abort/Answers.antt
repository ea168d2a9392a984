-- The work at its place is asked to end.
use Rattle.store_works.proofs.KeptLemmas.{aborted, lent, phase_there}
use Rattle.store_works.proofs.kept.HostWorks.abort.Goals as goal

pub returns-clause-found : goal.returns-clause-found
returns-clause-found g c =
    let course = g.H.HostWork.course in
    let kept = c.args.self.now in
    let at = c.in-Some.ensures.some in
    let w = c.in-Some-get_index_mut.joined.now in
    let unique = c.in-Some-get_index_mut.ensures.unique in
    phase_there course kept c.args.number c.in-Some.place at.0 unique at.1 w c.abort.new.self kept.next (lent course kept c.args.number c.in-Some.place at.0 unique at.1 w c.in-Some-get_index_mut.ensures.value) c.abort.result c.abort.ensures.found

pub returns-clause-held : goal.returns-clause-held
returns-clause-held g c =
    let course = g.H.HostWork.course in
    let kept = c.args.self.now in
    let at = c.in-Some.ensures.some in
    let w = c.in-Some-get_index_mut.joined.now in
    let unique = c.in-Some-get_index_mut.ensures.unique in
    aborted course kept c.args.number c.in-Some.place at.0 unique at.1 w c.abort.new.self kept.next (lent course kept c.args.number c.in-Some.place at.0 unique at.1 w c.in-Some-get_index_mut.ensures.value) c.abort.ensures.work c.abort.ensures.phase
