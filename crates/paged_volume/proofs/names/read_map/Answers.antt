use Rattle.std.proofs.Common.{◌≡◌, ℕ, ◌*◌, ◌+◌, ◌≤◌, sym, ◌∙◌, ap, subst, arith, length, take, drop, get_or, Some}
use Rattle.page_map.specs.Map.{MapView}
use Rattle.paged_volume.specs.Found.{damage, bound_of}
use Rattle.paged_volume.specs.Standing.{maps_of, map_count, logical_of}
use Rattle.paged_volume.specs.Naming.{IsNamingOf}
use Rattle.paged_volume.proofs.Bounds.{are_low}
use Rattle.paged_volume.proofs.Naming.{naming_pages, read_before}
use Rattle.paged_volume.proofs.Reading.{map_at, map_low, count_is, pages_read, pages_fail, page_tests_fail, fails_by, bad_number}
use Rattle.paged_volume.proofs.names.read_map.Goals as goal

pub read_at-requires : goal.read_at-requires
read_at-requires g c = λ bytes now.
    let t = c.args.table.now in
    let low = are_low t.committed c.requires.naming.fit in
    let most = low.maps in
    let lt = c.requires.within in
    let size = c.requires.naming.names in
    let at = map_at t.named.items c.args.map_page c.index.result.now (omega arith) c.index.ensures in
    let long = c.requires.long bytes now in
    omega (arith, c.page_at-at.ensures, at, map_low t.committed t.map t.named.items t.committed.depth (map_count t.committed) (1024 * c.args.map_page) c.args.map_page c.requires.naming c.requires.within)

pub returns-in-Ok-read_map_page-clause-naming : goal.returns-in-Ok-read_map_page-clause-naming
returns-in-Ok-read_map_page-clause-naming g c =
    let t = c.args.table.now in
    let low = are_low t.committed c.requires.naming.fit in
    let within = low.within in
    let is = count_is (logical_of t.committed) c.min-count.result c.args.map_page c.requires.within (c.min-count.ensures ∙ omega (arith, c.logical_of.ensures)) in
    let fits : 1024 * c.args.map_page + c.min-count.result ≤ length t.map.staged = omega (arith, is.0, c.requires.naming.staged) in
    subst (λ (n : ℕ). IsNamingOf t.committed c.read_map_page.new.self t.named.items t.committed.depth (map_count t.committed) n) is.0
    (subst (λ (m : MapView). IsNamingOf t.committed m t.named.items t.committed.depth (map_count t.committed) (1024 * c.args.map_page + c.min-count.result)) (sym c.in-Ok-read_map_page.ensures.read)
    (naming_pages t.committed t.map t.named.items c.read_at.new.into t.committed.depth (map_count t.committed) c.args.map_page c.min-count.result c.requires.naming c.in-Ok-read_map_page.ensures.ok fits))

pub returns-in-Ok-read_map_page-clause-stays : goal.returns-in-Ok-read_map_page-clause-stays
returns-in-Ok-read_map_page-clause-stays g c = λ page lt.
    let t = c.args.table.now in
    let low = are_low t.committed c.requires.naming.fit in
    let within = low.within in
    let is = count_is (logical_of t.committed) c.min-count.result c.args.map_page c.requires.within (c.min-count.ensures ∙ omega (arith, c.logical_of.ensures)) in
    let fits : 1024 * c.args.map_page + c.min-count.result ≤ length t.map.staged = omega (arith, is.0, c.requires.naming.staged) in
    ap (λ (m : MapView). get_or m.staged page 0) c.in-Ok-read_map_page.ensures.read
    ∙ read_before t.committed t.map t.named.items c.read_at.new.into t.committed.depth (map_count t.committed) c.args.map_page c.min-count.result c.requires.naming c.in-Ok-read_map_page.ensures.ok fits page lt

pub returns-in-Ok-read_map_page-clause-pages : goal.returns-in-Ok-read_map_page-clause-pages
returns-in-Ok-read_map_page-clause-pages g c = λ bytes now page from lt.
    let t = c.args.table.now in
    let low = are_low t.committed c.requires.naming.fit in
    let most = low.maps in
    let below = c.requires.within in
    let size = c.requires.naming.names in
    let at = map_at t.named.items c.args.map_page c.index.result.now (omega arith) c.index.ensures in
    let is = count_is (logical_of t.committed) c.min-count.result c.args.map_page c.requires.within (c.min-count.ensures ∙ omega (arith, c.logical_of.ensures)) in
    pages_read t.committed t.map t.named.items c.read_at.new.into c.args.map_page c.min-count.result c.requires.naming (omega (arith, is.0)) c.in-Ok-read_map_page.ensures.ok is.2 bytes
    (c.in-Ok.ensures.read bytes now ∙ ap (λ (n : ℕ). take 4096 (drop n bytes)) (c.page_at-at.ensures ∙ ap (λ (n : ℕ). 4096 * n) at)) page from (omega (arith, is.0))
    ∙ sym (ap (λ (m : MapView). get_or m.staged page 0) c.in-Ok-read_map_page.ensures.read)

pub returns-in-Err-read_map_page-clause-stays : goal.returns-in-Err-read_map_page-clause-stays
returns-in-Err-read_map_page-clause-stays g c = λ page lt.
    let t = c.args.table.now in
    let low = are_low t.committed c.requires.naming.fit in
    let within = low.within in
    let is = count_is (logical_of t.committed) c.min-count.result c.args.map_page c.requires.within (c.min-count.ensures ∙ omega (arith, c.logical_of.ensures)) in
    let bad = bad_number t.map c.args.map_page c.min-count.result c.read_at.new.into c.bad_number-index.result.0 c.bad_number-index.result.1 c.in-Err-read_map_page.fault c.read_map_page.new.self c.in-Err-read_map_page.ensures.bad c.bad_number-index.ensures in
    let below = bad.within in
    let fits : 1024 * c.args.map_page + c.bad_number-index.result.0 ≤ length t.map.staged = omega (arith, is.0, c.requires.naming.staged) in
    ap (λ (m : MapView). get_or m.staged page 0) bad.read
    ∙ read_before t.committed t.map t.named.items c.read_at.new.into t.committed.depth (map_count t.committed) c.args.map_page c.bad_number-index.result.0 c.requires.naming bad.before fits page lt

pub returns-in-Err-read_map_page-clause-cause : goal.returns-in-Err-read_map_page-clause-cause
returns-in-Err-read_map_page-clause-cause g c = λ before.
    let t = c.args.table.now in
    let o = g.H.Host.outside in
    let low = are_low t.committed c.requires.naming.fit in
    let most = low.maps in
    let below_map = c.requires.within in
    let size = c.requires.naming.names in
    let at = map_at t.named.items c.args.map_page c.index.result.now (omega arith) c.index.ensures in
    let is = count_is (logical_of t.committed) c.min-count.result c.args.map_page c.requires.within (c.min-count.ensures ∙ omega (arith, c.logical_of.ensures)) in
    let bad = bad_number t.map c.args.map_page c.min-count.result c.read_at.new.into c.bad_number-index.result.0 c.bad_number-index.result.1 c.in-Err-read_map_page.fault c.read_map_page.new.self c.in-Err-read_map_page.ensures.bad c.bad_number-index.ensures in
    let below = bad.within in
    let few = is.2 in
    let place : 4096 * maps_of t.named.items c.args.map_page ≡ c.page_at-at.result = sym (c.page_at-at.ensures ∙ ap (λ (n : ℕ). 4096 * n) at) in
    fails_by (o c.args.host.now) (o c.read_at.new.self) _ c.fault.result (damage (c.page_at-at.result + 4 * c.bad_number-index.result.0) c.bad_number-index.result.1 c.bound_of.result) c.fault.ensures (λ bytes now.
    page_tests_fail t (map_count t.committed) (logical_of t.committed) bytes _
    (pages_fail t.committed t.map t.named.items c.read_at.new.into c.args.map_page c.bad_number-index.result.0 c.requires.naming (omega (arith, is.0)) bad.before (omega arith) (omega (arith, is.0)) bad.bad bytes
    (c.in-Ok.ensures.read bytes now ∙ ap (λ (n : ℕ). take 4096 (drop n bytes)) (sym place)) (before bytes now)
    ∙ (λ i. Some (damage (place i + 4 * c.bad_number-index.result.0) (sym bad.is i) (bound_of t.committed.pages (sym bad.is i))))
    ∙ ap (λ (n : ℕ). Some (damage (c.page_at-at.result + 4 * c.bad_number-index.result.0) c.bad_number-index.result.1 n)) (sym c.bound_of.ensures)))
