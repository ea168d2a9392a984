use Rattle.core_counts.proofs.MemberLemmas.{some_member}
use Rattle.core_counts.proofs.member_counts.has_member.Goals as goal
use Rattle.core_records.proofs.Core.{ap, has_member, nat_lt, seen, sym, ◌∙◌}
use Rattle.core_records.proofs.KeptLemmas.{set_members}
use Rattle.core_records.proofs.ReadLemmas.{set_named}

pub returns : goal.returns
returns c =
    let a = c.args.parts.now in
    let x = c.set_there.result.now in
    ap (nat_lt 0) (set_members a c.requires.sound c.args.set x c.set_there.ensures.item)
    ∙ (sym (some_member x.number (seen a).core) ∙ ap (λ n. has_member n (seen a).core) (set_named a c.args.set x c.set_there.ensures.item))
