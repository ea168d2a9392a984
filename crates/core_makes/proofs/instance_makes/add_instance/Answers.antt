use Rattle.core_makes.proofs.AddLemmas.{instance_count, none_named, none_yet}
use Rattle.core_makes.proofs.instance_makes.add_instance.Goals as goal
use Rattle.core_records.proofs.Core.{ap, arith, get, seen, size, ◌<◌, ◌∙◌, ◌≡◌}

pub overflow_cast-number : goal.overflow_cast-number
overflow_cast-number c =
    let count : c.len-number.result ≡ size (seen c.args.parts.now).core.instances = c.len-number.ensures ∙ (c.args.parts.now.instances.ok.0 ∙ instance_count c.args.parts.now) in
    let few : size (seen c.args.parts.now).core.instances < 4294967295 = c.requires.few in
    omega arith

pub returns-in-Ok-clause-number : goal.returns-in-Ok-clause-number
returns-in-Ok-clause-number c = c.len-number.ensures ∙ (c.args.parts.now.instances.ok.0 ∙ instance_count c.args.parts.now)

pub returns-in-Ok-clause-fresh : goal.returns-in-Ok-clause-fresh
returns-in-Ok-clause-fresh c = ap (get (seen c.args.parts.now).core.instances) (c.len-number.ensures ∙ (c.args.parts.now.instances.ok.0 ∙ instance_count c.args.parts.now)) ∙ none_yet c.args.parts.now

pub returns-in-Ok-clause-unnamed : goal.returns-in-Ok-clause-unnamed
returns-in-Ok-clause-unnamed c = ap (get (seen c.args.parts.now).core.handles) (c.len-number.ensures ∙ (c.args.parts.now.instances.ok.0 ∙ instance_count c.args.parts.now)) ∙ none_named c.args.parts.now
