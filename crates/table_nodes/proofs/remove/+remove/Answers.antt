use Rattle.std.proofs.Common.{rules, ◌+◌, ◌*◌, ◌-◌, Ok, refl, sym, ◌∙◌, arith}
use Rattle.avl_trees.specs.Trees.{leaf, node}
use Rattle.avl_trees.specs.Standing.{row_of}
use Rattle.avl_trees.proofs.Standing.{stands_grown}
use Rattle.heap_places.proofs.of_swizzle.ReadingLaws.{leaves-then}
use Rattle.heap_places.proofs.of_swizzle.TouchLaws.{keeps-trans}
use Rattle.table_nodes.specs.Sought.{kind_of, key_in}
use Rattle.table_nodes.specs.Steps.{place, rows_of}
use Rattle.table_nodes.proofs.FetchLaws.{fetches_read}
use Rattle.table_nodes.proofs.BringLaws.{brings_more, brings_none, brings_then, brings_touched, brings_written, keeps_lasts}
use Rattle.table_nodes.proofs.SeenLaws.{fetch_back}
use Rattle.table_nodes.proofs.SoughtLaws.{key_in_kept}
use Rattle.table_nodes.proofs.StepLaws.{place_touched, touches_then}
use Rattle.table_nodes.proofs.Putting.{root_named, no_root, tree_left, tree_right}
use Rattle.table_nodes.proofs.Removal.{removed_as, remove_leaf, opened_kept, left_sides, left_known, left_done, right_sides, right_known, right_done, here_done, here_fault, gone_leaf, gone_left, gone_right, gone_here}
use Rattle.table_nodes.proofs.Sparing.{spares_none, spares_then, spares_touched}
use Rattle.table_nodes.proofs.WingLaws.{wing_held_kept}
use Rattle.table_nodes.proofs.FaultLaws.{node_fault_back, height_tested, the_node}
use Rattle.table_nodes.proofs.SpanLaws.{span_kept}
use Rattle.table_nodes.proofs.NodeLaws.{grows_none, grows_then}
use Rattle.table_nodes.proofs.remove.+remove.Goals as goal

pub returns-in_default-clause-removed : goal.returns-in_default-clause-removed
returns-in_default-clause-removed g t c tree p h within lower =
    remove_leaf (kind_of c.args.key) (key_in c.args.sw.now c.args.key) (place c.args.sw.now (g.V.Vault.outside c.args.vault.now)) c.args.root c.in_default.is tree p h

pub returns-then-height-eq0-clause-removed : goal.returns-then-height-eq0-clause-removed
returns-then-height-eq0-clause-removed g t c leaf p h within lower = absurd (no_root c.args.sw.now c.args.root c.in-Some.at c.in-Some.is h.root_is)
returns-then-height-eq0-clause-removed g t c (node x b y) p h within lower =
    let ks = kind_of c.args.key in
    let key = key_in c.args.sw.now c.args.key in
    let old = place c.args.sw.now (g.V.Vault.outside c.args.vault.now) in
    let named = root_named old.heap c.args.root c.in-Some.at b.name c.in-Some.is h.root_is in
    let e = c.height-height.ensures.some ks c.in-Some.at b.name (row_of x b y) refl named h.stands.0 in
    absurd (grind (arith, e, lower, c.then-height-eq0.either))

pub returns-in-Err-clause-removed : goal.returns-in-Err-clause-removed
returns-in-Err-clause-removed g t c leaf p h within lower = absurd (no_root c.args.sw.now c.args.root c.in-Some.at c.in-Some.is h.root_is)
returns-in-Err-clause-removed g t c (node x b y) p h within lower =
    let ks = kind_of c.args.key in
    let key = key_in c.args.sw.now c.args.key in
    let old = place c.args.sw.now (g.V.Vault.outside c.args.vault.now) in
    let named = root_named old.heap c.args.root c.in-Some.at b.name c.in-Some.is h.root_is in
    let e = c.height-height.ensures.some ks c.in-Some.at b.name (row_of x b y) refl named h.stands.0 in
    c.in-Err.ensures.opens x b y h.stands named h.rising within

pub returns-in-Err-open_right-clause-removed : goal.returns-in-Err-open_right-clause-removed
returns-in-Err-open_right-clause-removed g t c leaf p h within lower = absurd (no_root c.args.sw.now c.args.root c.in-Some.at c.in-Some.is h.root_is)
returns-in-Err-open_right-clause-removed g t c (node x b y) p h within lower =
    let ks = kind_of c.args.key in
    let key = key_in c.args.sw.now c.args.key in
    let old = place c.args.sw.now (g.V.Vault.outside c.args.vault.now) in
    let named = root_named old.heap c.args.root c.in-Some.at b.name c.in-Some.is h.root_is in
    let e = c.height-height.ensures.some ks c.in-Some.at b.name (row_of x b y) refl named h.stands.0 in
    let m0 = place c.open_node.new.sw (g.V.Vault.outside c.open_node.new.vault) in
    let o0 = c.in-Ok.ensures.opens x b y h.stands named h.rising within in
    let s = stands_grown (rows_of ks old) (rows_of ks m0) (c.in-Ok.ensures.grows.rows ks) (node x b y) h.stands in
    fetch_back old.heap m0.heap old.outside m0.outside c.in-Err-open_right.fault c.in-Ok.ensures.grows (c.in-Err-open_right.ensures.wing ks x y s.1 s.2 o0.left o0.right (omega (arith, e)) (omega (arith, e)))

pub returns-in-Ok-remove-clause-removed : goal.returns-in-Ok-remove-clause-removed
returns-in-Ok-remove-clause-removed g t c leaf p h within lower = absurd (no_root c.args.sw.now c.args.root c.in-Some.at c.in-Some.is h.root_is)
returns-in-Ok-remove-clause-removed g t c (node x b y) p h within lower =
    let ks = kind_of c.args.key in
    let key = key_in c.args.sw.now c.args.key in
    let old = place c.args.sw.now (g.V.Vault.outside c.args.vault.now) in
    let named = root_named old.heap c.args.root c.in-Some.at b.name c.in-Some.is h.root_is in
    let e = c.height-height.ensures.some ks c.in-Some.at b.name (row_of x b y) refl named h.stands.0 in
    let m0 = place c.open_node.new.sw (g.V.Vault.outside c.open_node.new.vault) in
    let o0 = c.in-Ok.ensures.opens x b y h.stands named h.rising within in
    let s = stands_grown (rows_of ks old) (rows_of ks m0) (c.in-Ok.ensures.grows.rows ks) (node x b y) h.stands in
    let m = place c.open_right.new.sw (g.V.Vault.outside c.open_right.new.vault) in
    let grows = touches_then old m0 m c.in-Ok.ensures.grows c.in-Ok-open_right.ensures.grows in
    let o = opened_kept ks m0.heap m.heap c.in-Ok-open_right.ensures.grows.named c.in-Ok-open_right.ensures.keeps key x b y c.in-Ok.opened c.in-Ok.ensures.span o0 in
    let ready = c.in-Ok-open_right.ensures.wing ks x y s.1 s.2 o0.left o0.right (omega (arith, e)) (omega (arith, e)) in
    let here = place_touched old m grows p in
    let keeps = keeps-trans old.heap m0.heap m.heap c.in-Ok.ensures.keeps c.in-Ok-open_right.ensures.keeps in
    let same = key_in_kept old.heap m.heap c.args.key keeps c.requires.key in
    let side = tree_left ks old m c.args.root c.in-Ok.opened.left grows x b y h o.left in
    let m1 = place c.remove.new.sw (g.V.Vault.outside c.remove.new.vault) in
    let m2 = place c.balance-root.new.sw (g.V.Vault.outside c.remove.new.vault) in
    let w = removed_as ks m m1 c.in-Ok.opened.left c.in-Ok-open_right.ready.bound (key_in m.heap c.args.key) key c.in-Ok.opened.span (Ok c.in-Ok-remove.left) same c.in-Ok-remove.ensures.removed x here side (o.left_keys c.in-Less.is) ready.1 in
    let came = (fetches_read ks old.heap m0.heap m.heap old.outside m0.outside m.outside c.in-Ok.ensures.grows c.in-Ok-open_right.ensures.grows (c.in-Ok.ensures.fetched x b y h.stands named) (c.in-Ok-open_right.ensures.fetched ks y s.2 o0.right)) in
    let sides = left_sides ks key old m m1 c.in-Some.at c.args.root c.in-Ok.opened grows p x b y h named o came c.in-Ok-remove.left.root c.in-Ok-remove.ensures.held (omega (arith, e, lower, c.requires.bound)) c.in-Less.is w in
    let known = left_known ks key old m m1 c.in-Some.at c.args.root c.in-Ok.opened grows p x b y h named o came c.in-Ok-open_right.ready.wing c.in-Ok-remove.ensures.held ready.0 in
    left_done ks key old m m1 c.in-Some.at c.args.root c.in-Ok.opened grows p x b y h named o came m2 c.in-Ok-remove.left.root c.balance-root.result c.in-Ok-remove.ensures.spares c.balance-root.ensures.spares c.balance-root.ensures.none c.in-Less.is w (c.balance-root.ensures.balanced ks _ _ _ sides known.0 known.1)

pub returns-in-Err-remove-clause-removed : goal.returns-in-Err-remove-clause-removed
returns-in-Err-remove-clause-removed g t c leaf p h within lower = absurd (no_root c.args.sw.now c.args.root c.in-Some.at c.in-Some.is h.root_is)
returns-in-Err-remove-clause-removed g t c (node x b y) p h within lower =
    let ks = kind_of c.args.key in
    let key = key_in c.args.sw.now c.args.key in
    let old = place c.args.sw.now (g.V.Vault.outside c.args.vault.now) in
    let named = root_named old.heap c.args.root c.in-Some.at b.name c.in-Some.is h.root_is in
    let e = c.height-height.ensures.some ks c.in-Some.at b.name (row_of x b y) refl named h.stands.0 in
    let m0 = place c.open_node.new.sw (g.V.Vault.outside c.open_node.new.vault) in
    let o0 = c.in-Ok.ensures.opens x b y h.stands named h.rising within in
    let s = stands_grown (rows_of ks old) (rows_of ks m0) (c.in-Ok.ensures.grows.rows ks) (node x b y) h.stands in
    let m = place c.open_right.new.sw (g.V.Vault.outside c.open_right.new.vault) in
    let grows = touches_then old m0 m c.in-Ok.ensures.grows c.in-Ok-open_right.ensures.grows in
    let o = opened_kept ks m0.heap m.heap c.in-Ok-open_right.ensures.grows.named c.in-Ok-open_right.ensures.keeps key x b y c.in-Ok.opened c.in-Ok.ensures.span o0 in
    let ready = c.in-Ok-open_right.ensures.wing ks x y s.1 s.2 o0.left o0.right (omega (arith, e)) (omega (arith, e)) in
    let here = place_touched old m grows p in
    let keeps = keeps-trans old.heap m0.heap m.heap c.in-Ok.ensures.keeps c.in-Ok-open_right.ensures.keeps in
    let same = key_in_kept old.heap m.heap c.args.key keeps c.requires.key in
    let side = tree_left ks old m c.args.root c.in-Ok.opened.left grows x b y h o.left in
    fetch_back old.heap m.heap old.outside m.outside c.in-Err-remove.fault grows (c.in-Err-remove.ensures.removed x here side (o.left_keys c.in-Less.is) ready.1)

pub returns-in-Err-open_left-clause-removed : goal.returns-in-Err-open_left-clause-removed
returns-in-Err-open_left-clause-removed g t c leaf p h within lower = absurd (no_root c.args.sw.now c.args.root c.in-Some.at c.in-Some.is h.root_is)
returns-in-Err-open_left-clause-removed g t c (node x b y) p h within lower =
    let ks = kind_of c.args.key in
    let key = key_in c.args.sw.now c.args.key in
    let old = place c.args.sw.now (g.V.Vault.outside c.args.vault.now) in
    let named = root_named old.heap c.args.root c.in-Some.at b.name c.in-Some.is h.root_is in
    let e = c.height-height.ensures.some ks c.in-Some.at b.name (row_of x b y) refl named h.stands.0 in
    let m0 = place c.open_node.new.sw (g.V.Vault.outside c.open_node.new.vault) in
    let o0 = c.in-Ok.ensures.opens x b y h.stands named h.rising within in
    let s = stands_grown (rows_of ks old) (rows_of ks m0) (c.in-Ok.ensures.grows.rows ks) (node x b y) h.stands in
    fetch_back old.heap m0.heap old.outside m0.outside c.in-Err-open_left.fault c.in-Ok.ensures.grows (c.in-Err-open_left.ensures.wing ks y x s.2 s.1 o0.right o0.left (omega (arith, e)) (omega (arith, e)))

pub returns-in-Ok-remove-2-clause-removed : goal.returns-in-Ok-remove-2-clause-removed
returns-in-Ok-remove-2-clause-removed g t c leaf p h within lower = absurd (no_root c.args.sw.now c.args.root c.in-Some.at c.in-Some.is h.root_is)
returns-in-Ok-remove-2-clause-removed g t c (node x b y) p h within lower =
    let ks = kind_of c.args.key in
    let key = key_in c.args.sw.now c.args.key in
    let old = place c.args.sw.now (g.V.Vault.outside c.args.vault.now) in
    let named = root_named old.heap c.args.root c.in-Some.at b.name c.in-Some.is h.root_is in
    let e = c.height-height.ensures.some ks c.in-Some.at b.name (row_of x b y) refl named h.stands.0 in
    let m0 = place c.open_node.new.sw (g.V.Vault.outside c.open_node.new.vault) in
    let o0 = c.in-Ok.ensures.opens x b y h.stands named h.rising within in
    let s = stands_grown (rows_of ks old) (rows_of ks m0) (c.in-Ok.ensures.grows.rows ks) (node x b y) h.stands in
    let m = place c.open_left.new.sw (g.V.Vault.outside c.open_left.new.vault) in
    let grows = touches_then old m0 m c.in-Ok.ensures.grows c.in-Ok-open_left.ensures.grows in
    let o = opened_kept ks m0.heap m.heap c.in-Ok-open_left.ensures.grows.named c.in-Ok-open_left.ensures.keeps key x b y c.in-Ok.opened c.in-Ok.ensures.span o0 in
    let ready = c.in-Ok-open_left.ensures.wing ks y x s.2 s.1 o0.right o0.left (omega (arith, e)) (omega (arith, e)) in
    let here = place_touched old m grows p in
    let keeps = keeps-trans old.heap m0.heap m.heap c.in-Ok.ensures.keeps c.in-Ok-open_left.ensures.keeps in
    let same = key_in_kept old.heap m.heap c.args.key keeps c.requires.key in
    let side = tree_right ks old m c.args.root c.in-Ok.opened.right grows x b y h o.right in
    let m1 = place c.remove-in-Greater.new.sw (g.V.Vault.outside c.remove-in-Greater.new.vault) in
    let m2 = place c.balance-root-in-Ok-remove-2.new.sw (g.V.Vault.outside c.remove-in-Greater.new.vault) in
    let w = removed_as ks m m1 c.in-Ok.opened.right c.in-Ok-open_left.ready.bound (key_in m.heap c.args.key) key c.in-Ok.opened.span (Ok c.in-Ok-remove-2.right) same c.in-Ok-remove-2.ensures.removed y here side (o.right_keys c.in-Greater.is) ready.1 in
    let came = (fetches_read ks old.heap m0.heap m.heap old.outside m0.outside m.outside c.in-Ok.ensures.grows c.in-Ok-open_left.ensures.grows (c.in-Ok.ensures.fetched x b y h.stands named) (c.in-Ok-open_left.ensures.fetched ks x s.1 o0.left)) in
    let sides = right_sides ks key old m m1 c.in-Some.at c.args.root c.in-Ok.opened grows p x b y h named o came c.in-Ok-remove-2.right.root c.in-Ok-remove-2.ensures.held (omega (arith, e, lower, c.requires.bound)) c.in-Greater.is w in
    let known = right_known ks key old m m1 c.in-Some.at c.args.root c.in-Ok.opened grows p x b y h named o came c.in-Ok-open_left.ready.wing c.in-Ok-remove-2.ensures.held ready.0 in
    right_done ks key old m m1 c.in-Some.at c.args.root c.in-Ok.opened grows p x b y h named o came m2 c.in-Ok-remove-2.right.root c.balance-root-in-Ok-remove-2.result c.in-Ok-remove-2.ensures.spares c.balance-root-in-Ok-remove-2.ensures.spares c.balance-root-in-Ok-remove-2.ensures.none c.in-Greater.is w (c.balance-root-in-Ok-remove-2.ensures.balanced ks _ _ _ sides known.0 known.1)

pub returns-in-Err-remove-2-clause-removed : goal.returns-in-Err-remove-2-clause-removed
returns-in-Err-remove-2-clause-removed g t c leaf p h within lower = absurd (no_root c.args.sw.now c.args.root c.in-Some.at c.in-Some.is h.root_is)
returns-in-Err-remove-2-clause-removed g t c (node x b y) p h within lower =
    let ks = kind_of c.args.key in
    let key = key_in c.args.sw.now c.args.key in
    let old = place c.args.sw.now (g.V.Vault.outside c.args.vault.now) in
    let named = root_named old.heap c.args.root c.in-Some.at b.name c.in-Some.is h.root_is in
    let e = c.height-height.ensures.some ks c.in-Some.at b.name (row_of x b y) refl named h.stands.0 in
    let m0 = place c.open_node.new.sw (g.V.Vault.outside c.open_node.new.vault) in
    let o0 = c.in-Ok.ensures.opens x b y h.stands named h.rising within in
    let s = stands_grown (rows_of ks old) (rows_of ks m0) (c.in-Ok.ensures.grows.rows ks) (node x b y) h.stands in
    let m = place c.open_left.new.sw (g.V.Vault.outside c.open_left.new.vault) in
    let grows = touches_then old m0 m c.in-Ok.ensures.grows c.in-Ok-open_left.ensures.grows in
    let o = opened_kept ks m0.heap m.heap c.in-Ok-open_left.ensures.grows.named c.in-Ok-open_left.ensures.keeps key x b y c.in-Ok.opened c.in-Ok.ensures.span o0 in
    let ready = c.in-Ok-open_left.ensures.wing ks y x s.2 s.1 o0.right o0.left (omega (arith, e)) (omega (arith, e)) in
    let here = place_touched old m grows p in
    let keeps = keeps-trans old.heap m0.heap m.heap c.in-Ok.ensures.keeps c.in-Ok-open_left.ensures.keeps in
    let same = key_in_kept old.heap m.heap c.args.key keeps c.requires.key in
    let side = tree_right ks old m c.args.root c.in-Ok.opened.right grows x b y h o.right in
    fetch_back old.heap m.heap old.outside m.outside c.in-Err-remove-2.fault grows (c.in-Err-remove-2.ensures.removed y here side (o.right_keys c.in-Greater.is) ready.1)

pub returns-in-Ok-merge_sides-clause-removed : goal.returns-in-Ok-merge_sides-clause-removed
returns-in-Ok-merge_sides-clause-removed g t c leaf p h within lower = absurd (no_root c.args.sw.now c.args.root c.in-Some.at c.in-Some.is h.root_is)
returns-in-Ok-merge_sides-clause-removed g t c (node x b y) p h within lower =
    let ks = kind_of c.args.key in
    let key = key_in c.args.sw.now c.args.key in
    let old = place c.args.sw.now (g.V.Vault.outside c.args.vault.now) in
    let named = root_named old.heap c.args.root c.in-Some.at b.name c.in-Some.is h.root_is in
    let e = c.height-height.ensures.some ks c.in-Some.at b.name (row_of x b y) refl named h.stands.0 in
    let m = place c.open_node.new.sw (g.V.Vault.outside c.open_node.new.vault) in
    let o = c.in-Ok.ensures.opens x b y h.stands named h.rising within in
    let m1 = place c.merge_sides.new.sw (g.V.Vault.outside c.merge_sides.new.vault) in
    here_done ks key old m m1 c.in-Some.at c.args.root c.in-Ok.opened c.in-Ok.ensures.grows p x b y h named o (c.in-Ok.ensures.fetched x b y h.stands named) c.in-Ok-merge_sides.root c.height-height.result c.in-Ok-merge_sides.ensures.spares e c.in-Equal.is c.in-Ok-merge_sides.ensures.merged

pub returns-in-Err-merge_sides-clause-removed : goal.returns-in-Err-merge_sides-clause-removed
returns-in-Err-merge_sides-clause-removed g t c leaf p h within lower = absurd (no_root c.args.sw.now c.args.root c.in-Some.at c.in-Some.is h.root_is)
returns-in-Err-merge_sides-clause-removed g t c (node x b y) p h within lower =
    let ks = kind_of c.args.key in
    let key = key_in c.args.sw.now c.args.key in
    let old = place c.args.sw.now (g.V.Vault.outside c.args.vault.now) in
    let named = root_named old.heap c.args.root c.in-Some.at b.name c.in-Some.is h.root_is in
    let e = c.height-height.ensures.some ks c.in-Some.at b.name (row_of x b y) refl named h.stands.0 in
    let m = place c.open_node.new.sw (g.V.Vault.outside c.open_node.new.vault) in
    let o = c.in-Ok.ensures.opens x b y h.stands named h.rising within in
    let m1 = place c.merge_sides.new.sw (g.V.Vault.outside c.merge_sides.new.vault) in
    here_fault ks key old m m1 c.in-Some.at c.args.root c.in-Ok.opened c.in-Ok.ensures.grows p x b y h named o (c.in-Ok.ensures.fetched x b y h.stands named) c.in-Err-merge_sides.fault c.height-height.result e c.in-Err-merge_sides.ensures.merged

pub returns-in_default-clause-counted : goal.returns-in_default-clause-counted
returns-in_default-clause-counted g t c tree h within lower =
    gone_leaf (kind_of c.args.key) (key_in c.args.sw.now c.args.key) (place c.args.sw.now (g.V.Vault.outside c.args.vault.now)) c.args.root c.in_default.is tree h

pub returns-in-Ok-remove-clause-counted : goal.returns-in-Ok-remove-clause-counted
returns-in-Ok-remove-clause-counted g t c leaf h within lower = absurd (no_root c.args.sw.now c.args.root c.in-Some.at c.in-Some.is h.root_is)
returns-in-Ok-remove-clause-counted g t c (node x b y) h within lower =
    let ks = kind_of c.args.key in
    let key = key_in c.args.sw.now c.args.key in
    let old = place c.args.sw.now (g.V.Vault.outside c.args.vault.now) in
    let named = root_named old.heap c.args.root c.in-Some.at b.name c.in-Some.is h.root_is in
    let e = c.height-height.ensures.some ks c.in-Some.at b.name (row_of x b y) refl named h.stands.0 in
    let m0 = place c.open_node.new.sw (g.V.Vault.outside c.open_node.new.vault) in
    let o0 = c.in-Ok.ensures.opens x b y h.stands named h.rising within in
    let s = stands_grown (rows_of ks old) (rows_of ks m0) (c.in-Ok.ensures.grows.rows ks) (node x b y) h.stands in
    let m = place c.open_right.new.sw (g.V.Vault.outside c.open_right.new.vault) in
    let grows = touches_then old m0 m c.in-Ok.ensures.grows c.in-Ok-open_right.ensures.grows in
    let o = opened_kept ks m0.heap m.heap c.in-Ok-open_right.ensures.grows.named c.in-Ok-open_right.ensures.keeps key x b y c.in-Ok.opened c.in-Ok.ensures.span o0 in
    let ready = c.in-Ok-open_right.ensures.wing ks x y s.1 s.2 o0.left o0.right (omega (arith, e)) (omega (arith, e)) in
    let keeps = keeps-trans old.heap m0.heap m.heap c.in-Ok.ensures.keeps c.in-Ok-open_right.ensures.keeps in
    let same = key_in_kept old.heap m.heap c.args.key keeps c.requires.key in
    gone_left ks key old m c.args.root c.in-Ok.opened.left c.in-Ok-open_right.ready.bound grows x b y h ready.1 (key_in m.heap c.args.key) same c.in-Ok.opened.span c.in-Ok-remove.left c.in-Ok-remove.ensures.counted o.left (o.left_keys c.in-Less.is) (sym o.order ∙ c.in-Less.is)

pub returns-in-Ok-remove-2-clause-counted : goal.returns-in-Ok-remove-2-clause-counted
returns-in-Ok-remove-2-clause-counted g t c leaf h within lower = absurd (no_root c.args.sw.now c.args.root c.in-Some.at c.in-Some.is h.root_is)
returns-in-Ok-remove-2-clause-counted g t c (node x b y) h within lower =
    let ks = kind_of c.args.key in
    let key = key_in c.args.sw.now c.args.key in
    let old = place c.args.sw.now (g.V.Vault.outside c.args.vault.now) in
    let named = root_named old.heap c.args.root c.in-Some.at b.name c.in-Some.is h.root_is in
    let e = c.height-height.ensures.some ks c.in-Some.at b.name (row_of x b y) refl named h.stands.0 in
    let m0 = place c.open_node.new.sw (g.V.Vault.outside c.open_node.new.vault) in
    let o0 = c.in-Ok.ensures.opens x b y h.stands named h.rising within in
    let s = stands_grown (rows_of ks old) (rows_of ks m0) (c.in-Ok.ensures.grows.rows ks) (node x b y) h.stands in
    let m = place c.open_left.new.sw (g.V.Vault.outside c.open_left.new.vault) in
    let grows = touches_then old m0 m c.in-Ok.ensures.grows c.in-Ok-open_left.ensures.grows in
    let o = opened_kept ks m0.heap m.heap c.in-Ok-open_left.ensures.grows.named c.in-Ok-open_left.ensures.keeps key x b y c.in-Ok.opened c.in-Ok.ensures.span o0 in
    let ready = c.in-Ok-open_left.ensures.wing ks y x s.2 s.1 o0.right o0.left (omega (arith, e)) (omega (arith, e)) in
    let keeps = keeps-trans old.heap m0.heap m.heap c.in-Ok.ensures.keeps c.in-Ok-open_left.ensures.keeps in
    let same = key_in_kept old.heap m.heap c.args.key keeps c.requires.key in
    gone_right ks key old m c.args.root c.in-Ok.opened.right c.in-Ok-open_left.ready.bound grows x b y h ready.1 (key_in m.heap c.args.key) same c.in-Ok.opened.span c.in-Ok-remove-2.right c.in-Ok-remove-2.ensures.counted o.right (o.right_keys c.in-Greater.is) (sym o.order ∙ c.in-Greater.is)

pub returns-in-Ok-merge_sides-clause-counted : goal.returns-in-Ok-merge_sides-clause-counted
returns-in-Ok-merge_sides-clause-counted g t c leaf h within lower = absurd (no_root c.args.sw.now c.args.root c.in-Some.at c.in-Some.is h.root_is)
returns-in-Ok-merge_sides-clause-counted g t c (node x b y) h within lower =
    let ks = kind_of c.args.key in
    let key = key_in c.args.sw.now c.args.key in
    let old = place c.args.sw.now (g.V.Vault.outside c.args.vault.now) in
    let named = root_named old.heap c.args.root c.in-Some.at b.name c.in-Some.is h.root_is in
    let e = c.height-height.ensures.some ks c.in-Some.at b.name (row_of x b y) refl named h.stands.0 in
    let m = place c.open_node.new.sw (g.V.Vault.outside c.open_node.new.vault) in
    let o = c.in-Ok.ensures.opens x b y h.stands named h.rising within in
    gone_here ks key x b y (sym o.order ∙ c.in-Equal.is)

pub returns-in_default-clause-spares : goal.returns-in_default-clause-spares
returns-in_default-clause-spares g t c = spares_none c.args.sw.now (g.V.Vault.outside c.args.vault.now)

pub returns-in-Ok-merge_sides-clause-spares : goal.returns-in-Ok-merge_sides-clause-spares
returns-in-Ok-merge_sides-clause-spares g t c = spares_then _ _ _ _ _ _ (spares_touched _ _ _ _ c.in-Ok.ensures.keeps c.in-Ok.ensures.grows) c.in-Ok-merge_sides.ensures.spares

pub returns-in_default-clause-brings : goal.returns-in_default-clause-brings
returns-in_default-clause-brings g t c = brings_none c.args.sw.now _

pub returns-then-height-eq0-clause-brings : goal.returns-then-height-eq0-clause-brings
returns-then-height-eq0-clause-brings g t c = brings_none c.args.sw.now _

pub returns-then-height-eq0-clause-still : goal.returns-then-height-eq0-clause-still
returns-then-height-eq0-clause-still g t c = grows_none c.args.sw.now (g.V.Vault.outside c.args.vault.now) c.sound.ensures

pub returns-in-Err-clause-brings : goal.returns-in-Err-clause-brings
returns-in-Err-clause-brings g t c = brings_more _ _ 2 _ (omega (arith, c.if-height-bound.false)) c.open_node.ensures.brings

pub returns-in-Ok-merge_sides-clause-brings : goal.returns-in-Ok-merge_sides-clause-brings
returns-in-Ok-merge_sides-clause-brings g t c = brings_then _ _ _ 2 (3 * c.height-height.result + 1) _ c.in-Ok-merge_sides.ensures.spares.lasts (omega (arith, c.if-height-bound.false)) c.open_node.ensures.brings c.merge_sides.ensures.brings

pub returns-in-Err-merge_sides-clause-brings : goal.returns-in-Err-merge_sides-clause-brings
returns-in-Err-merge_sides-clause-brings g t c = brings_touched _ _ _ 2 (3 * c.height-height.result + 1) _ c.in-Err-merge_sides.ensures.still.keeps (omega (arith, c.if-height-bound.false)) c.open_node.ensures.brings c.merge_sides.ensures.brings

pub returns-in-Err-merge_sides-clause-still : goal.returns-in-Err-merge_sides-clause-still
returns-in-Err-merge_sides-clause-still g t c = grows_then _ _ _ _ _ _ c.in-Ok.ensures.grows c.in-Err-merge_sides.ensures.still

pub returns-in-Ok-remove-clause-held : goal.returns-in-Ok-remove-clause-held
returns-in-Ok-remove-clause-held g t c = record {
  nodes = λ at h. c.balance-root.ensures.held.nodes at (c.in-Ok-remove.ensures.held.nodes at (c.in-Ok-open_right.ensures.grows.nodes at (c.in-Ok.ensures.grows.nodes at h)));
  named = λ at n h. c.balance-root.ensures.held.named at n (c.in-Ok-remove.ensures.held.named at n (c.in-Ok-open_right.ensures.grows.named at n (c.in-Ok.ensures.grows.named at n h)));
}

pub returns-in-Ok-remove-clause-spares : goal.returns-in-Ok-remove-clause-spares
returns-in-Ok-remove-clause-spares g t c = spares_then _ _ _ _ _ _ (spares_then _ _ _ _ _ _ (spares_touched _ _ _ _ c.in-Ok.ensures.keeps c.in-Ok.ensures.grows) (spares_touched _ _ _ _ c.in-Ok-open_right.ensures.keeps c.in-Ok-open_right.ensures.grows)) (spares_then _ _ _ _ _ _ c.in-Ok-remove.ensures.spares c.balance-root.ensures.spares)

pub returns-in-Err-open_right-clause-brings : goal.returns-in-Err-open_right-clause-brings
returns-in-Err-open_right-clause-brings g t c = brings_touched _ _ _ 2 4 _ c.in-Err-open_right.ensures.still.keeps (omega (arith, c.if-height-eq0.false, c.if-height-bound.false)) c.open_node.ensures.brings c.in-Err-open_right.ensures.brings

pub returns-in-Ok-remove-clause-brings : goal.returns-in-Ok-remove-clause-brings
returns-in-Ok-remove-clause-brings g t c =
    brings_written _ _ _ _ (2 + (3 * c.height-height.result + 1 - 3 * c.in-Ok-open_right.ready.bound)) (3 * c.in-Ok-open_right.ready.bound) _ c.in-Ok-remove.ensures.spares.lasts c.balance-root.ensures.spares.lasts c.balance-root.ensures.none (omega (arith, c.if-height-bound.false, c.in-Ok-open_right.ensures.bound))
    (brings_touched _ _ _ 2 (3 * c.height-height.result + 1 - 3 * c.in-Ok-open_right.ready.bound) (2 + (3 * c.height-height.result + 1 - 3 * c.in-Ok-open_right.ready.bound)) c.in-Ok-open_right.ensures.keeps (omega arith) c.open_node.ensures.brings c.in-Ok-open_right.ensures.brings) c.remove.ensures.brings

pub returns-in-Err-remove-clause-brings : goal.returns-in-Err-remove-clause-brings
returns-in-Err-remove-clause-brings g t c =
    brings_then _ _ _ (2 + (3 * c.height-height.result + 1 - 3 * c.in-Ok-open_right.ready.bound)) (3 * c.in-Ok-open_right.ready.bound) _ (keeps_lasts _ _ c.in-Err-remove.ensures.still.keeps) (omega (arith, c.if-height-bound.false, c.in-Ok-open_right.ensures.bound))
    (brings_touched _ _ _ 2 (3 * c.height-height.result + 1 - 3 * c.in-Ok-open_right.ready.bound) (2 + (3 * c.height-height.result + 1 - 3 * c.in-Ok-open_right.ready.bound)) c.in-Ok-open_right.ensures.keeps (omega arith) c.open_node.ensures.brings c.in-Ok-open_right.ensures.brings) c.remove.ensures.brings

pub returns-in-Err-open_right-clause-still : goal.returns-in-Err-open_right-clause-still
returns-in-Err-open_right-clause-still g t c = grows_then _ _ _ _ _ _ c.in-Ok.ensures.grows c.in-Err-open_right.ensures.still

pub returns-in-Err-remove-clause-still : goal.returns-in-Err-remove-clause-still
returns-in-Err-remove-clause-still g t c = grows_then _ _ _ _ _ _ (grows_then _ _ _ _ _ _ c.in-Ok.ensures.grows c.in-Ok-open_right.ensures.grows) c.in-Err-remove.ensures.still

pub returns-in-Ok-remove-2-clause-held : goal.returns-in-Ok-remove-2-clause-held
returns-in-Ok-remove-2-clause-held g t c = record {
  nodes = λ at h. c.balance-root-in-Ok-remove-2.ensures.held.nodes at (c.in-Ok-remove-2.ensures.held.nodes at (c.in-Ok-open_left.ensures.grows.nodes at (c.in-Ok.ensures.grows.nodes at h)));
  named = λ at n h. c.balance-root-in-Ok-remove-2.ensures.held.named at n (c.in-Ok-remove-2.ensures.held.named at n (c.in-Ok-open_left.ensures.grows.named at n (c.in-Ok.ensures.grows.named at n h)));
}

pub returns-in-Ok-remove-2-clause-spares : goal.returns-in-Ok-remove-2-clause-spares
returns-in-Ok-remove-2-clause-spares g t c = spares_then _ _ _ _ _ _ (spares_then _ _ _ _ _ _ (spares_touched _ _ _ _ c.in-Ok.ensures.keeps c.in-Ok.ensures.grows) (spares_touched _ _ _ _ c.in-Ok-open_left.ensures.keeps c.in-Ok-open_left.ensures.grows)) (spares_then _ _ _ _ _ _ c.in-Ok-remove-2.ensures.spares c.balance-root-in-Ok-remove-2.ensures.spares)

pub returns-in-Err-open_left-clause-brings : goal.returns-in-Err-open_left-clause-brings
returns-in-Err-open_left-clause-brings g t c = brings_touched _ _ _ 2 4 _ c.in-Err-open_left.ensures.still.keeps (omega (arith, c.if-height-eq0.false, c.if-height-bound.false)) c.open_node.ensures.brings c.in-Err-open_left.ensures.brings

pub returns-in-Ok-remove-2-clause-brings : goal.returns-in-Ok-remove-2-clause-brings
returns-in-Ok-remove-2-clause-brings g t c =
    brings_written _ _ _ _ (2 + (3 * c.height-height.result + 1 - 3 * c.in-Ok-open_left.ready.bound)) (3 * c.in-Ok-open_left.ready.bound) _ c.in-Ok-remove-2.ensures.spares.lasts c.balance-root-in-Ok-remove-2.ensures.spares.lasts c.balance-root-in-Ok-remove-2.ensures.none (omega (arith, c.if-height-bound.false, c.in-Ok-open_left.ensures.bound))
    (brings_touched _ _ _ 2 (3 * c.height-height.result + 1 - 3 * c.in-Ok-open_left.ready.bound) (2 + (3 * c.height-height.result + 1 - 3 * c.in-Ok-open_left.ready.bound)) c.in-Ok-open_left.ensures.keeps (omega arith) c.open_node.ensures.brings c.in-Ok-open_left.ensures.brings) c.remove-in-Greater.ensures.brings

pub returns-in-Err-remove-2-clause-brings : goal.returns-in-Err-remove-2-clause-brings
returns-in-Err-remove-2-clause-brings g t c =
    brings_then _ _ _ (2 + (3 * c.height-height.result + 1 - 3 * c.in-Ok-open_left.ready.bound)) (3 * c.in-Ok-open_left.ready.bound) _ (keeps_lasts _ _ c.in-Err-remove-2.ensures.still.keeps) (omega (arith, c.if-height-bound.false, c.in-Ok-open_left.ensures.bound))
    (brings_touched _ _ _ 2 (3 * c.height-height.result + 1 - 3 * c.in-Ok-open_left.ready.bound) (2 + (3 * c.height-height.result + 1 - 3 * c.in-Ok-open_left.ready.bound)) c.in-Ok-open_left.ensures.keeps (omega arith) c.open_node.ensures.brings c.in-Ok-open_left.ensures.brings) c.remove-in-Greater.ensures.brings

pub returns-in-Err-open_left-clause-still : goal.returns-in-Err-open_left-clause-still
returns-in-Err-open_left-clause-still g t c = grows_then _ _ _ _ _ _ c.in-Ok.ensures.grows c.in-Err-open_left.ensures.still

pub returns-in-Err-remove-2-clause-still : goal.returns-in-Err-remove-2-clause-still
returns-in-Err-remove-2-clause-still g t c = grows_then _ _ _ _ _ _ (grows_then _ _ _ _ _ _ c.in-Ok.ensures.grows c.in-Ok-open_left.ensures.grows) c.in-Err-remove-2.ensures.still

pub balance-root-requires-clause-wing : goal.balance-root-requires-clause-wing
balance-root-requires-clause-wing g t c = wing_held_kept c.open_right.new.sw c.remove.new.sw c.in-Ok-remove.ensures.held.nodes c.in-Ok-open_right.ready.wing c.in-Ok-open_right.ensures.held

pub balance-root-requires-in-Ok-remove-2-clause-wing : goal.balance-root-requires-in-Ok-remove-2-clause-wing
balance-root-requires-in-Ok-remove-2-clause-wing g t c = wing_held_kept c.open_left.new.sw c.remove-in-Greater.new.sw c.in-Ok-remove-2.ensures.held.nodes c.in-Ok-open_left.ready.wing c.in-Ok-open_left.ensures.held

pub returns-then-height-eq0-clause-fault : goal.returns-then-height-eq0-clause-fault
returns-then-height-eq0-clause-fault g t c = height_tested (g.V.Vault.outside c.args.vault.now) _ c.args.sw.now c.in-Some.at _ _ _ (the_node c.args.sw.now c.args.root c.in-Some.at c.in-Some.is c.requires.root) (c.height-height.ensures.word c.in-Some.at refl) c.then-height-eq0.either c.damaged.ensures

pub returns-in-Err-open_right-clause-fault : goal.returns-in-Err-open_right-clause-fault
returns-in-Err-open_right-clause-fault g t c = node_fault_back (g.V.Vault.outside c.args.vault.now) (g.V.Vault.outside c.open_node.new.vault) _ _ c.in-Err-open_right.fault c.in-Ok.ensures.grows.leaves c.in-Err-open_right.ensures.fault

pub returns-in-Err-open_left-clause-fault : goal.returns-in-Err-open_left-clause-fault
returns-in-Err-open_left-clause-fault g t c = node_fault_back (g.V.Vault.outside c.args.vault.now) (g.V.Vault.outside c.open_node.new.vault) _ _ c.in-Err-open_left.fault c.in-Ok.ensures.grows.leaves c.in-Err-open_left.ensures.fault

pub returns-in-Err-merge_sides-clause-fault : goal.returns-in-Err-merge_sides-clause-fault
returns-in-Err-merge_sides-clause-fault g t c = node_fault_back (g.V.Vault.outside c.args.vault.now) (g.V.Vault.outside c.open_node.new.vault) _ _ c.in-Err-merge_sides.fault c.in-Ok.ensures.grows.leaves c.in-Err-merge_sides.ensures.fault

pub returns-in-Err-remove-clause-fault : goal.returns-in-Err-remove-clause-fault
returns-in-Err-remove-clause-fault g t c =
    node_fault_back (g.V.Vault.outside c.args.vault.now) (g.V.Vault.outside c.open_node.new.vault) _ _ c.in-Err-remove.fault c.in-Ok.ensures.grows.leaves (node_fault_back (g.V.Vault.outside c.open_node.new.vault) (g.V.Vault.outside c.open_right.new.vault) _ _ c.in-Err-remove.fault c.in-Ok-open_right.ensures.grows.leaves c.in-Err-remove.ensures.fault)

pub returns-in-Err-remove-2-clause-fault : goal.returns-in-Err-remove-2-clause-fault
returns-in-Err-remove-2-clause-fault g t c =
    node_fault_back (g.V.Vault.outside c.args.vault.now) (g.V.Vault.outside c.open_node.new.vault) _ _ c.in-Err-remove-2.fault c.in-Ok.ensures.grows.leaves (node_fault_back (g.V.Vault.outside c.open_node.new.vault) (g.V.Vault.outside c.open_left.new.vault) _ _ c.in-Err-remove-2.fault c.in-Ok-open_left.ensures.grows.leaves c.in-Err-remove-2.ensures.fault)

pub remove-requires : goal.remove-requires
remove-requires g t c =
    let span = span_kept c.open_node.new.sw c.open_right.new.sw c.in-Ok.opened.span c.in-Ok-open_right.ensures.keeps c.in-Ok.ensures.span in
    search (rules, span)

pub remove-requires-in-Greater : goal.remove-requires-in-Greater
remove-requires-in-Greater g t c =
    let span = span_kept c.open_node.new.sw c.open_left.new.sw c.in-Ok.opened.span c.in-Ok-open_left.ensures.keeps c.in-Ok.ensures.span in
    search (rules, span)

pub returns-in-Ok-remove-clause-leaves : goal.returns-in-Ok-remove-clause-leaves
returns-in-Ok-remove-clause-leaves g t c = leaves-then _ _ _ (leaves-then _ _ _ c.in-Ok.ensures.grows.leaves c.in-Ok-open_right.ensures.grows.leaves) c.in-Ok-remove.ensures.leaves

pub returns-in-Ok-remove-2-clause-leaves : goal.returns-in-Ok-remove-2-clause-leaves
returns-in-Ok-remove-2-clause-leaves g t c = leaves-then _ _ _ (leaves-then _ _ _ c.in-Ok.ensures.grows.leaves c.in-Ok-open_left.ensures.grows.leaves) c.in-Ok-remove-2.ensures.leaves
