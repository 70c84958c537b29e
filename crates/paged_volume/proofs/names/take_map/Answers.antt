use Rattle.std.proofs.Common.{◌≡◌, ℕ, ◌*◌, ◌+◌, ◌∙◌, ap, arith, get_or}
use Rattle.volume_parts.specs.Layout.{number_at}
use Rattle.paged_volume.specs.Layout.{maps_at}
use Rattle.paged_volume.specs.Naming.{names_at}
use Rattle.paged_volume.proofs.Bounds.{are_low, skipped_low, skipped_to}
use Rattle.paged_volume.proofs.Naming.{length_free}
use Rattle.paged_volume.proofs.Reading.{at_index, names_at_low, map_taken, map_bad}
use Rattle.paged_volume.proofs.names.take_map.Goals as goal

pub overflow_add-place : goal.overflow_add-place
overflow_add-place c =
    let low = are_low c.args.table.now.committed c.requires.naming.fit in
    let few = low.few in
    let lt = c.requires.within in
    omega (arith, c.skipped.ensures, skipped_low c.args.table.now.committed.depth)

pub read_number-number-requires : goal.read_number-number-requires
read_number-number-requires c =
    let low = are_low c.args.table.now.committed c.requires.naming.fit in
    let few = low.few in
    let lt = c.requires.within in
    omega (arith, c.skipped.ensures, skipped_low c.args.table.now.committed.depth, c.requires.size)

pub overflow_add-at : goal.overflow_add-at
overflow_add-at c =
    let t = c.args.table.now in
    let low = are_low t.committed c.requires.naming.fit in
    let few = low.few in
    let lt = c.requires.within in
    let size = c.requires.naming.names in
    let first = at_index t.named.items 0 c.index.result.now (omega arith) c.index.ensures in
    let at = c.names_at.ensures ∙ ap (λ (n : ℕ). names_at t.committed.second t.committed.depth n) first in
    omega (arith, at, names_at_low t.committed t.map t.named.items c.args.map_page 0 c.requires.naming, c.skipped.ensures, skipped_low t.committed.depth)

pub take_page-requires : goal.take_page-requires
take_page-requires c = let least = c.requires.naming.fit.head.least in omega (arith, length_free c.requires.naming)

pub returns-in-Err-clause-err : goal.returns-in-Err-clause-err
returns-in-Err-clause-err c =
    let t = c.args.table.now in
    let size = c.requires.naming.names in
    let first = at_index t.named.items 0 c.index.result.now (omega arith) c.index.ensures in
    let at = c.names_at.ensures ∙ ap (λ (n : ℕ). names_at t.committed.second t.committed.depth n) first in
    let begins = skipped_to t.committed.second t.committed.depth (get_or t.named.items 0 0) in
    let place : c.names_at.result + (c.skipped.result + 4 * c.args.map_page) ≡ maps_at t.committed.second t.committed.depth (get_or t.named.items 0 0) + 4 * c.args.map_page = omega (arith, at, begins, c.skipped.ensures) in
    map_bad t.committed t.map t.named.items c.args.page.now c.args.map_page c.read_number-number.result _ c.names_at.result (c.skipped.result + 4 * c.args.map_page) _ c.in-Err.damage
    (c.read_number-number.ensures ∙ ap (λ (s : ℕ). number_at (s + 4 * c.args.map_page) 4 c.args.page.now) c.skipped.ensures) c.in-Err.ensures.err.0 c.in-Err.ensures.err.1 place (length_free c.requires.naming)

pub returns-clause-naming : goal.returns-clause-naming
returns-clause-naming c =
    let t = c.args.table.now in
    map_taken t.committed t.map c.take_page.new.map t.named.items c.args.page.now c.args.map_page c.read_number-number.result 0 c.requires.naming c.requires.within c.in-Ok.ensures.ok c.in-Ok.ensures.taken
