use Rattle.std.proofs.Common.{◌≡◌, ℕ, List, ◌+◌, length, sym, ◌∙◌, ap, arith}
use Rattle.paged_volume.specs.Layout.{capacity_pages, map_pages_of}
use Rattle.paged_volume.specs.Standing.{map_count}
use Rattle.paged_volume.specs.declared.committed.Committed.{Committed}
use Rattle.paged_volume.proofs.Bounds.{are_low}
use Rattle.paged_volume.proofs.Looked.{looks_three, root_of_is, refused_names, settled_table_is, says_after}
use Rattle.paged_volume.proofs.finding.look.Goals as goal

pub returns-in-Err-read_names-clause-looked : goal.returns-in-Err-read_names-clause-looked
returns-in-Err-read_names-clause-looked g c =
    let o = g.H.Host.outside in
    let k = c.in-Ok-new_table.table.committed in
    let low = are_low k c.in-Ok-new_table.ensures.naming.fit in
    let few = low.few in
    looks_three (o c.args.host.now) (o c.read_head.new.host) (o c.read_root.new.host) (o c.read_names.new.host) (map_count k) 495 c.read_head.ensures.looks c.read_root.ensures.looks c.read_names.ensures.looks (omega arith)

pub returns-in-Err-read_names-clause-cause : goal.returns-in-Err-read_names-clause-cause
returns-in-Err-read_names-clause-cause g c =
    let o = g.H.Host.outside in
    let k = c.in-Ok-read_root.committed in
    let is = c.in-Ok-read_root.ensures in
    let same = c.read_head.ensures.looks.same in
    refused_names (o c.args.host.now) (o c.read_head.new.host) (o c.read_root.new.host) (o c.read_names.new.host) k c.in-Ok-new_table.table.committed c.in-Err-read_names.fault c.in-Ok-new_table.ensures.committed is.fit
    c.read_head.ensures.looks c.read_root.ensures.looks
    (λ bytes now. root_of_is k c.in-Ok.head.format c.in-Ok.head.pages bytes is.head.0 is.head.1 (c.in-Ok.ensures.says bytes now) (is.selected bytes (same.kept bytes now)) (is.root bytes (same.kept bytes now)))
    c.in-Err-read_names.ensures.cause

pub returns-clause-table : goal.returns-clause-table
returns-clause-table g c =
    let new = c.in-Ok-new_table.table in
    let named : length c.read_names.new.table.named.items ≡ length new.named.items =
    c.in-Ok-read_names.ensures.naming.names ∙ ap (λ (k : Committed). 1 + map_pages_of (capacity_pages k.pages)) c.read_names.ensures.committed ∙ sym c.in-Ok-new_table.ensures.naming.names in
    settled_table_is c.read_names.new.table c.settle.new.self c.deref.result.now c.in-Ok-new_table.table.committed c.read_names.ensures.committed c.in-Ok-read_names.ensures.naming
    (ap (λ (xs : List ℕ). length xs) c.read_names.ensures.next ∙ c.in-Ok-new_table.ensures.next ∙ sym named) (c.read_names.ensures.pins ∙ c.in-Ok-new_table.ensures.pins) c.deref.ensures.value c.settle.ensures

pub returns-clause-says : goal.returns-clause-says
returns-clause-says g c = λ bytes now.
    let k = c.in-Ok-read_root.committed in
    let is = c.in-Ok-read_root.ensures in
    let same = c.read_head.ensures.looks.same in
    says_after c.read_names.new.table c.settle.new.self c.deref.result.now k c.in-Ok-new_table.table.committed bytes c.read_names.ensures.committed c.in-Ok-new_table.ensures.committed
    (root_of_is k c.in-Ok.head.format c.in-Ok.head.pages bytes is.head.0 is.head.1 (c.in-Ok.ensures.says bytes now) (is.selected bytes (same.kept bytes now)) (is.root bytes (same.kept bytes now)))
    (c.in-Ok-read_names.ensures.names bytes (c.read_root.ensures.looks.same.kept bytes (same.kept bytes now))) c.settle.ensures

pub returns-clause-looks : goal.returns-clause-looks
returns-clause-looks g c =
    let o = g.H.Host.outside in
    looks_three (o c.args.host.now) (o c.read_head.new.host) (o c.read_root.new.host) (o c.read_names.new.host) (map_count c.in-Ok-new_table.table.committed) (map_count c.read_names.new.table.committed + 7)
    c.read_head.ensures.looks c.read_root.ensures.looks c.read_names.ensures.looks (omega (arith, ap (λ (k : Committed). map_count k) c.read_names.ensures.committed))
