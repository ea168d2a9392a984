use Rattle.core_records.proofs.ReadLemmas.{work_named}
use Rattle.core_removals.proofs.CountLemmas.{count_seen, count_sound, lives_there, more_at, pending_course, stands_live}
use Rattle.core_removals.proofs.polls.count_poll.Goals as goal

pub get_mut_unchecked-entry-requires : goal.get_mut_unchecked-entry-requires
get_mut_unchecked-entry-requires c = lives_there c.args.parts.now c.requires.sound c.args.work c.requires.live

pub has_more-requires-clause-sound : goal.has_more-requires-clause-sound
has_more-requires-clause-sound c =
    let a = c.args.parts.now in
    let left = c.requires.pends.0 in
    let pends = c.requires.pends.1 in
    count_sound a c.requires.sound c.args.work c.get_mut_unchecked-entry.result.now c.get_mut_unchecked-entry.ensures.value _ left pends (c.count_down.ensures left (pending_course a c.requires.sound c.args.work c.get_mut_unchecked-entry.result.now c.get_mut_unchecked-entry.ensures.value left pends)) _

pub has_more-requires-clause-stands : goal.has_more-requires-clause-stands
has_more-requires-clause-stands c =
    let st = stands_live c.args.parts.now c.requires.sound c.args.work c.get_mut_unchecked-entry.result.now c.get_mut_unchecked-entry.ensures.value c.requires.live in
    record { chain = st.chain; is = st.is; place = st.place; link = st.link }

pub returns-clause-sound : goal.returns-clause-sound
returns-clause-sound c =
    let a = c.args.parts.now in
    let left = c.requires.pends.0 in
    let pends = c.requires.pends.1 in
    count_sound a c.requires.sound c.args.work c.get_mut_unchecked-entry.result.now c.get_mut_unchecked-entry.ensures.value _ left pends (c.count_down.ensures left (pending_course a c.requires.sound c.args.work c.get_mut_unchecked-entry.result.now c.get_mut_unchecked-entry.ensures.value left pends)) _

pub returns-clause-new : goal.returns-clause-new
returns-clause-new c left pends =
    let a = c.args.parts.now in
    count_seen a c.requires.sound c.args.work c.get_mut_unchecked-entry.result.now c.get_mut_unchecked-entry.ensures.value _ left pends (c.count_down.ensures left (pending_course a c.requires.sound c.args.work c.get_mut_unchecked-entry.result.now c.get_mut_unchecked-entry.ensures.value left pends)) _

pub returns-clause-more : goal.returns-clause-more
returns-clause-more c = more_at _ _ _ _ (work_named c.args.parts.now c.args.work c.get_mut_unchecked-entry.result.now c.get_mut_unchecked-entry.ensures.value) c.has_more.ensures
