use Rattle.std.proofs.Common.{◌≡◌, length, ap, arith}
use Rattle.std.proofs.lemmas.List.{length-map}
use Rattle.table_links.specs.Rings.{cell_role, next_names, previous_names, role_as, roles_in}
use Rattle.table_links.proofs.Cells.{next_pushed, previous_pushed, roles_pushed}
use Rattle.table_links.proofs.Uses.{Sound-new, Renames-new}
use Rattle.table_links.proofs.links.new_name.Goals as goal

pub returns-clause-sound : goal.returns-clause-sound
returns-clause-sound g c = λ unused sound.
    let ok = c.reserve.new.self.ok in
    let same = ap length c.reserve.ensures.items in
    let long = length-map c.args.cells.now.items cell_role in
    let length_is = c.len-index.ensures in
    let end : c.len-index.result ≡ length (roles_in c.args.cells.now.items) = omega arith in
    rw (c.push_reserved.ensures.items, c.reserve.ensures.items, next_pushed c.args.cells.now.items (record { next = c.len-index.result; previous = c.len-index.result; used = c.args.used; chain = 0; value = c.args.blank }), previous_pushed c.args.cells.now.items (record { next = c.len-index.result; previous = c.len-index.result; used = c.args.used; chain = 0; value = c.args.blank }), roles_pushed c.args.cells.now.items (record { next = c.len-index.result; previous = c.len-index.result; used = c.args.used; chain = 0; value = c.args.blank }))
    (Sound-new (next_names c.args.cells.now.items) (previous_names c.args.cells.now.items) (roles_in c.args.cells.now.items) unused sound c.len-index.result (role_as c.args.used 0 c.args.blank) end c.requires)

pub returns-clause-named : goal.returns-clause-named
returns-clause-named g c = λ unused sound.
    let ok = c.reserve.new.self.ok in
    let same = ap length c.reserve.ensures.items in
    let long = length-map c.args.cells.now.items cell_role in
    let length_is = c.len-index.ensures in
    let end : c.len-index.result ≡ length (roles_in c.args.cells.now.items) = omega arith in
    rw (c.push_reserved.ensures.items, c.reserve.ensures.items, next_pushed c.args.cells.now.items (record { next = c.len-index.result; previous = c.len-index.result; used = c.args.used; chain = 0; value = c.args.blank }), roles_pushed c.args.cells.now.items (record { next = c.len-index.result; previous = c.len-index.result; used = c.args.used; chain = 0; value = c.args.blank }))
    (Renames-new (next_names c.args.cells.now.items) (previous_names c.args.cells.now.items) (roles_in c.args.cells.now.items) unused sound c.len-index.result (role_as c.args.used 0 c.args.blank) end c.requires)
