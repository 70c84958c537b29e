use Rattle.std.proofs.Common.{ℕ, ◌*◌, ◌+◌, sym, ◌∙◌, ap, arith, take, drop, get_or, set}
use Rattle.page_map.proofs.PageLaws.{within}
use Rattle.paged_volume.proofs.Naming.{length_free, first_set}
use Rattle.paged_volume.proofs.Reading.{names_at_none, names_at_one, index_read, index_fails, index_named, index_first, fails_by, same_damage}
use Rattle.paged_volume.proofs.names.take_index.Goals as goal

pub returns-then-table-eq0-clause-page : goal.returns-then-table-eq0-clause-page
returns-then-table-eq0-clause-page g c = λ bytes now.
    let t = c.args.table.now in
    c.requires.page bytes now ∙ ap (λ (n : ℕ). take 4096 (drop n bytes)) (sym (names_at_none t.committed.second t.committed.depth (get_or t.named.items 0 0) c.if-table-eq0.true))

pub take_page-requires : goal.take_page-requires
take_page-requires g c = let least = c.requires.naming.fit.head.least in omega (arith, length_free c.requires.naming)

pub returns-in-Err-clause-cause : goal.returns-in-Err-clause-cause
returns-in-Err-clause-cause g c =
    let t = c.args.table.now in
    let o = g.H.Host.outside c.args.host.now in
    fails_by o o _ c.fault.result c.in-Err.damage c.fault.ensures (λ bytes now.
    index_fails t.committed t.map t.named.items c.args.page.now c.read_number-number.result c.requires.naming c.read_number-number.ensures c.in-Err.ensures.err.0 c.if-table-eq0.false bytes (c.requires.page bytes now)
    ∙ same_damage c.in-Err.damage _ _ _ _ c.read_number-number.result c.in-Err.ensures.err.1 (ap (λ (n : ℕ). n + 28) c.root_at-at.ensures) (length_free c.requires.naming))

pub read_at-requires : goal.read_at-requires
read_at-requires g c = λ bytes now.
    let low = within c.args.table.now.map.free c.read_number-number.result c.in-Ok.ensures.ok in
    let long = c.requires.long bytes now in
    omega (arith, c.page_at.ensures, length_free c.requires.naming, c.requires.size)

pub returns-in-Ok-read_at-clause-naming : goal.returns-in-Ok-read_at-clause-naming
returns-in-Ok-read_at-clause-naming g c =
    let t = c.args.table.now in
    index_named t.committed t.map t.named.items c.args.page.now c.read_number-number.result c.requires.naming c.read_number-number.ensures c.take_page.new.map c.in-Ok.ensures.ok c.in-Ok.ensures.taken c.if-table-eq0.false

pub returns-in-Ok-read_at-clause-index : goal.returns-in-Ok-read_at-clause-index
returns-in-Ok-read_at-clause-index g c = λ bytes now i lt.
    let t = c.args.table.now in
    let names = c.requires.naming.names in
    let next = set t.named.items 0 c.read_number-number.result in
    index_read t.committed t.map t.named.items c.args.page.now c.read_number-number.result c.requires.naming c.read_number-number.ensures bytes (c.requires.page bytes now)
    ∙ sym (index_first next i ∙ sym (index_first next 0) ∙ first_set t.named.items c.read_number-number.result (omega arith))

pub returns-in-Ok-read_at-clause-page : goal.returns-in-Ok-read_at-clause-page
returns-in-Ok-read_at-clause-page g c = λ bytes now.
    let t = c.args.table.now in
    let names = c.requires.naming.names in
    let next = set t.named.items 0 c.read_number-number.result in
    let first = sym (index_first next 0) ∙ first_set t.named.items c.read_number-number.result (omega arith) in
    c.in-Ok-read_at.ensures.read bytes now
    ∙ (λ i. take (c.requires.size i) (drop (c.page_at.ensures i) bytes))
    ∙ ap (λ (n : ℕ). take 4096 (drop n bytes)) (sym (names_at_one t.committed.second t.committed.depth (get_or next 0 0) c.if-table-eq0.false ∙ ap (λ (n : ℕ). 4096 * n) first))
