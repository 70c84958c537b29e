use Rattle.std.proofs.Common.{◌*◌, IfSome, Ok, Err, refl, sym, ◌∙◌, subst, arith, inl, inr}
use Rattle.heap_places.specs.swizzle.Heap.{Heap}
use Rattle.heap_places.proofs.of_swizzle.ReadingLaws.{leaves-then}
use Rattle.heap_places.proofs.of_swizzle.TouchLaws.{keeps-refl}
use Rattle.table_nodes.specs.Nodes.{IsNode, Grows}
use Rattle.avl_trees.specs.Trees.{leaf, node}
use Rattle.avl_trees.specs.Standing.{row_of}
use Rattle.heap_places.specs.swizzle.Joint.{name_at}
use Rattle.table_nodes.specs.Sought.{kind_of, key_in}
use Rattle.table_nodes.specs.Steps.{place}
use Rattle.table_nodes.proofs.BringLaws.{keeps_lasts, brings_none, brings_more, brings_then, brings_written}
use Rattle.table_nodes.proofs.SoughtLaws.{key_in_kept}
use Rattle.table_nodes.proofs.StepLaws.{place_touched, side_map}
use Rattle.table_nodes.proofs.Putting.{root_named, no_root, entered_as, tree_left, tree_right, put_leaf, put_left, put_right, put_here, fault_after, counted_leaf, counted_left, counted_right, counted_here}
use Rattle.table_nodes.proofs.Sparing.{spares_made, spares_then, spares_touched}
use Rattle.table_nodes.proofs.FaultLaws.{change_fault_back, full_here, height_tested, the_node}
use Rattle.table_nodes.proofs.NodeLaws.{grows_none, grows_then}
use Rattle.table_nodes.proofs.enter.+enter.Goals as goal

pub returns-in-Ok-clause-entered : goal.returns-in-Ok-clause-entered
returns-in-Ok-clause-entered g t c tree p h within lower =
    put_leaf (kind_of c.args.key) (key_in c.args.sw.now c.args.key) (name_at c.args.sw.now c.args.value) c.args.sw.now c.make_node.new.sw (g.V.Vault.outside c.args.vault.now) c.args.root (Ok c.in-Ok.root) c.in_default.is c.in-Ok.ensures.made tree p h

pub returns-in-Err-clause-entered : goal.returns-in-Err-clause-entered
returns-in-Err-clause-entered g t c tree p h within lower =
    put_leaf (kind_of c.args.key) (key_in c.args.sw.now c.args.key) (name_at c.args.sw.now c.args.value) c.args.sw.now c.make_node.new.sw (g.V.Vault.outside c.args.vault.now) c.args.root (Err c.in-Err.fault) c.in_default.is c.in-Err.ensures.made tree p h

pub returns-then-height-eq0-clause-entered : goal.returns-then-height-eq0-clause-entered
returns-then-height-eq0-clause-entered g t c leaf p h within lower = absurd (no_root c.args.sw.now c.args.root c.in-Some.at c.in-Some.is h.root_is)
returns-then-height-eq0-clause-entered g t c (node x b y) p h within lower =
    let named = root_named c.args.sw.now c.args.root c.in-Some.at b.name c.in-Some.is h.root_is in
    let e = c.height-height.ensures.some (kind_of c.args.key) c.in-Some.at b.name (row_of x b y) refl named h.stands.0 in
    absurd (grind (arith, e, lower, c.then-height-eq0.either))

pub returns-in-Err-open_node-clause-entered : goal.returns-in-Err-open_node-clause-entered
returns-in-Err-open_node-clause-entered g t c leaf p h within lower = absurd (no_root c.args.sw.now c.args.root c.in-Some.at c.in-Some.is h.root_is)
returns-in-Err-open_node-clause-entered g t c (node x b y) p h within lower =
    let named = root_named c.args.sw.now c.args.root c.in-Some.at b.name c.in-Some.is h.root_is in
    inl (c.in-Err-open_node.ensures.opens x b y h.stands named h.rising within)

pub returns-in-Ok-enter-clause-entered : goal.returns-in-Ok-enter-clause-entered
returns-in-Ok-enter-clause-entered g t c leaf p h within lower = absurd (no_root c.args.sw.now c.args.root c.in-Some.at c.in-Some.is h.root_is)
returns-in-Ok-enter-clause-entered g t c (node x b y) p h within lower =
    let ks = kind_of c.args.key in
    let key = key_in c.args.sw.now c.args.key in
    let value = name_at c.args.sw.now c.args.value in
    let old = place c.args.sw.now (g.V.Vault.outside c.args.vault.now) in
    let m = place c.open_node.new.sw (g.V.Vault.outside c.open_node.new.vault) in
    let m1 = place c.enter.new.sw (g.V.Vault.outside c.enter.new.vault) in
    let m2 = place c.with_left.new.sw (g.V.Vault.outside c.enter.new.vault) in
    let named = root_named old.heap c.args.root c.in-Some.at b.name c.in-Some.is h.root_is in
    let e = c.height-height.ensures.some ks c.in-Some.at b.name (row_of x b y) refl named h.stands.0 in
    let o = c.in-Ok-open_node.ensures.opens x b y h.stands named h.rising within in
    let enters = entered_as ks m m1 c.in-Ok-open_node.opened.left c.height-height.result (key_in m.heap c.args.key) key c.in-Ok-open_node.opened.span (name_at m.heap c.args.value) value (Ok c.in-Ok-enter.left)
    (key_in_kept old.heap m.heap c.args.key c.in-Ok-open_node.ensures.keeps c.requires.key) (c.in-Ok-open_node.ensures.keeps.objects c.args.value c.requires.value).name c.in-Ok-enter.ensures.entered in
    let w = enters x (place_touched old m c.in-Ok-open_node.ensures.grows p) (tree_left ks old m c.args.root c.in-Ok-open_node.opened.left c.in-Ok-open_node.ensures.grows x b y h o.left) (o.left_keys c.in-Less.is) (omega (arith, e)) in
    put_left ks key value old m m1 m2 c.in-Some.at c.args.root c.in-Ok-open_node.opened c.in-Ok-open_node.ensures.grows p x b y h named o (c.in-Ok-open_node.ensures.fetched x b y h.stands named)
    c.in-Ok-enter.left c.with_left.result c.in-Ok-enter.ensures.spares c.with_left.ensures.spares c.with_left.ensures.none c.in-Ok-enter.ensures.held c.with_left.ensures.held w c.with_left.ensures.balanced c.with_left.ensures.plain (omega (arith, e, c.if-height-bound.false, c.requires.bound)) c.in-Less.is

pub returns-in-Err-enter-clause-entered : goal.returns-in-Err-enter-clause-entered
returns-in-Err-enter-clause-entered g t c leaf p h within lower = absurd (no_root c.args.sw.now c.args.root c.in-Some.at c.in-Some.is h.root_is)
returns-in-Err-enter-clause-entered g t c (node x b y) p h within lower =
    let ks = kind_of c.args.key in
    let old = place c.args.sw.now (g.V.Vault.outside c.args.vault.now) in
    let m = place c.open_node.new.sw (g.V.Vault.outside c.open_node.new.vault) in
    let named = root_named old.heap c.args.root c.in-Some.at b.name c.in-Some.is h.root_is in
    let e = c.height-height.ensures.some ks c.in-Some.at b.name (row_of x b y) refl named h.stands.0 in
    let o = c.in-Ok-open_node.ensures.opens x b y h.stands named h.rising within in
    fault_after old.heap m.heap old.outside m.outside c.in-Err-enter.fault c.in-Ok-open_node.ensures.grows
    (c.in-Err-enter.ensures.entered x (place_touched old m c.in-Ok-open_node.ensures.grows p) (tree_left ks old m c.args.root c.in-Ok-open_node.opened.left c.in-Ok-open_node.ensures.grows x b y h o.left) (o.left_keys c.in-Less.is) (omega (arith, e)))

pub returns-in-Equal-clause-entered : goal.returns-in-Equal-clause-entered
returns-in-Equal-clause-entered g t c leaf p h within lower = absurd (no_root c.args.sw.now c.args.root c.in-Some.at c.in-Some.is h.root_is)
returns-in-Equal-clause-entered g t c (node x b y) p h within lower =
    let ks = kind_of c.args.key in
    let key = key_in c.args.sw.now c.args.key in
    let value = name_at c.args.sw.now c.args.value in
    let old = place c.args.sw.now (g.V.Vault.outside c.args.vault.now) in
    let m = place c.open_node.new.sw (g.V.Vault.outside c.open_node.new.vault) in
    let named = root_named old.heap c.args.root c.in-Some.at b.name c.in-Some.is h.root_is in
    let o = c.in-Ok-open_node.ensures.opens x b y h.stands named h.rising within in
    put_here ks key value old m m m c.in-Some.at c.args.root c.in-Ok-open_node.opened c.in-Ok-open_node.ensures.grows p x b y h named o (c.in-Ok-open_node.ensures.fetched x b y h.stands named)
    c.put.new.sw c.args.value _ c.put.ensures.spares c.put.ensures.none refl (c.in-Ok-open_node.ensures.keeps.objects c.args.value c.requires.value).name c.put.ensures.put c.in-Equal.is

pub returns-in-Ok-enter-2-clause-entered : goal.returns-in-Ok-enter-2-clause-entered
returns-in-Ok-enter-2-clause-entered g t c leaf p h within lower = absurd (no_root c.args.sw.now c.args.root c.in-Some.at c.in-Some.is h.root_is)
returns-in-Ok-enter-2-clause-entered g t c (node x b y) p h within lower =
    let ks = kind_of c.args.key in
    let key = key_in c.args.sw.now c.args.key in
    let value = name_at c.args.sw.now c.args.value in
    let old = place c.args.sw.now (g.V.Vault.outside c.args.vault.now) in
    let m = place c.open_node.new.sw (g.V.Vault.outside c.open_node.new.vault) in
    let m1 = place c.enter-in-Greater.new.sw (g.V.Vault.outside c.enter-in-Greater.new.vault) in
    let m2 = place c.with_right.new.sw (g.V.Vault.outside c.enter-in-Greater.new.vault) in
    let named = root_named old.heap c.args.root c.in-Some.at b.name c.in-Some.is h.root_is in
    let e = c.height-height.ensures.some ks c.in-Some.at b.name (row_of x b y) refl named h.stands.0 in
    let o = c.in-Ok-open_node.ensures.opens x b y h.stands named h.rising within in
    let enters = entered_as ks m m1 c.in-Ok-open_node.opened.right c.height-height.result (key_in m.heap c.args.key) key c.in-Ok-open_node.opened.span (name_at m.heap c.args.value) value (Ok c.in-Ok-enter-2.right)
    (key_in_kept old.heap m.heap c.args.key c.in-Ok-open_node.ensures.keeps c.requires.key) (c.in-Ok-open_node.ensures.keeps.objects c.args.value c.requires.value).name c.in-Ok-enter-2.ensures.entered in
    let w = enters y (place_touched old m c.in-Ok-open_node.ensures.grows p) (tree_right ks old m c.args.root c.in-Ok-open_node.opened.right c.in-Ok-open_node.ensures.grows x b y h o.right) (o.right_keys c.in-Greater.is) (omega (arith, e)) in
    put_right ks key value old m m1 m2 c.in-Some.at c.args.root c.in-Ok-open_node.opened c.in-Ok-open_node.ensures.grows p x b y h named o (c.in-Ok-open_node.ensures.fetched x b y h.stands named)
    c.in-Ok-enter-2.right c.with_right.result c.in-Ok-enter-2.ensures.spares c.with_right.ensures.spares c.with_right.ensures.none c.in-Ok-enter-2.ensures.held c.with_right.ensures.held w c.with_right.ensures.balanced c.with_right.ensures.plain (omega (arith, e, c.if-height-bound.false, c.requires.bound)) c.in-Greater.is

pub returns-in-Err-enter-2-clause-entered : goal.returns-in-Err-enter-2-clause-entered
returns-in-Err-enter-2-clause-entered g t c leaf p h within lower = absurd (no_root c.args.sw.now c.args.root c.in-Some.at c.in-Some.is h.root_is)
returns-in-Err-enter-2-clause-entered g t c (node x b y) p h within lower =
    let ks = kind_of c.args.key in
    let old = place c.args.sw.now (g.V.Vault.outside c.args.vault.now) in
    let m = place c.open_node.new.sw (g.V.Vault.outside c.open_node.new.vault) in
    let named = root_named old.heap c.args.root c.in-Some.at b.name c.in-Some.is h.root_is in
    let e = c.height-height.ensures.some ks c.in-Some.at b.name (row_of x b y) refl named h.stands.0 in
    let o = c.in-Ok-open_node.ensures.opens x b y h.stands named h.rising within in
    fault_after old.heap m.heap old.outside m.outside c.in-Err-enter-2.fault c.in-Ok-open_node.ensures.grows
    (c.in-Err-enter-2.ensures.entered y (place_touched old m c.in-Ok-open_node.ensures.grows p) (tree_right ks old m c.args.root c.in-Ok-open_node.opened.right c.in-Ok-open_node.ensures.grows x b y h o.right) (o.right_keys c.in-Greater.is) (omega (arith, e)))

pub returns-in-Ok-clause-counted : goal.returns-in-Ok-clause-counted
returns-in-Ok-clause-counted g t c tree h within lower =
    counted_leaf (kind_of c.args.key) (key_in c.args.sw.now c.args.key) (place c.args.sw.now (g.V.Vault.outside c.args.vault.now)) c.args.root c.in_default.is tree h

pub returns-in-Ok-enter-clause-counted : goal.returns-in-Ok-enter-clause-counted
returns-in-Ok-enter-clause-counted g t c leaf h within lower = absurd (no_root c.args.sw.now c.args.root c.in-Some.at c.in-Some.is h.root_is)
returns-in-Ok-enter-clause-counted g t c (node x b y) h within lower =
    let ks = kind_of c.args.key in
    let key = key_in c.args.sw.now c.args.key in
    let old = place c.args.sw.now (g.V.Vault.outside c.args.vault.now) in
    let named = root_named old.heap c.args.root c.in-Some.at b.name c.in-Some.is h.root_is in
    let e = c.height-height.ensures.some ks c.in-Some.at b.name (row_of x b y) refl named h.stands.0 in
    let m = place c.open_node.new.sw (g.V.Vault.outside c.open_node.new.vault) in
    let o = c.in-Ok-open_node.ensures.opens x b y h.stands named h.rising within in
    let same = key_in_kept old.heap m.heap c.args.key c.in-Ok-open_node.ensures.keeps c.requires.key in
    c.with_left.ensures.made ∙ counted_left ks key old m c.args.root c.in-Ok-open_node.opened.left c.height-height.result c.in-Ok-open_node.ensures.grows x b y h e (key_in m.heap c.args.key) same c.in-Ok-open_node.opened.span c.in-Ok-enter.left c.in-Ok-enter.ensures.counted o.left (o.left_keys c.in-Less.is) (sym o.order ∙ c.in-Less.is)

pub returns-in-Ok-enter-2-clause-counted : goal.returns-in-Ok-enter-2-clause-counted
returns-in-Ok-enter-2-clause-counted g t c leaf h within lower = absurd (no_root c.args.sw.now c.args.root c.in-Some.at c.in-Some.is h.root_is)
returns-in-Ok-enter-2-clause-counted g t c (node x b y) h within lower =
    let ks = kind_of c.args.key in
    let key = key_in c.args.sw.now c.args.key in
    let old = place c.args.sw.now (g.V.Vault.outside c.args.vault.now) in
    let named = root_named old.heap c.args.root c.in-Some.at b.name c.in-Some.is h.root_is in
    let e = c.height-height.ensures.some ks c.in-Some.at b.name (row_of x b y) refl named h.stands.0 in
    let m = place c.open_node.new.sw (g.V.Vault.outside c.open_node.new.vault) in
    let o = c.in-Ok-open_node.ensures.opens x b y h.stands named h.rising within in
    let same = key_in_kept old.heap m.heap c.args.key c.in-Ok-open_node.ensures.keeps c.requires.key in
    c.with_right.ensures.made ∙ counted_right ks key old m c.args.root c.in-Ok-open_node.opened.right c.height-height.result c.in-Ok-open_node.ensures.grows x b y h e (key_in m.heap c.args.key) same c.in-Ok-open_node.opened.span c.in-Ok-enter-2.right c.in-Ok-enter-2.ensures.counted o.right (o.right_keys c.in-Greater.is) (sym o.order ∙ c.in-Greater.is)

pub returns-in-Equal-clause-counted : goal.returns-in-Equal-clause-counted
returns-in-Equal-clause-counted g t c leaf h within lower = absurd (no_root c.args.sw.now c.args.root c.in-Some.at c.in-Some.is h.root_is)
returns-in-Equal-clause-counted g t c (node x b y) h within lower =
    let ks = kind_of c.args.key in
    let key = key_in c.args.sw.now c.args.key in
    let old = place c.args.sw.now (g.V.Vault.outside c.args.vault.now) in
    let named = root_named old.heap c.args.root c.in-Some.at b.name c.in-Some.is h.root_is in
    let e = c.height-height.ensures.some ks c.in-Some.at b.name (row_of x b y) refl named h.stands.0 in
    let m = place c.open_node.new.sw (g.V.Vault.outside c.open_node.new.vault) in
    let o = c.in-Ok-open_node.ensures.opens x b y h.stands named h.rising within in
    counted_here ks key x b y (sym o.order ∙ c.in-Equal.is)

pub returns-in-Ok-enter-clause-held : goal.returns-in-Ok-enter-clause-held
returns-in-Ok-enter-clause-held g t c = record {
  nodes = λ at h. c.with_left.ensures.held.nodes at (c.in-Ok-enter.ensures.held.nodes at (c.in-Ok-open_node.ensures.grows.nodes at h));
  named = λ at n h. c.with_left.ensures.held.named at n (c.in-Ok-enter.ensures.held.named at n (c.in-Ok-open_node.ensures.grows.named at n h));
}

pub returns-in-Ok-enter-clause-spares : goal.returns-in-Ok-enter-clause-spares
returns-in-Ok-enter-clause-spares g t c = spares_then _ _ _ _ _ _ (spares_touched _ _ _ _ c.in-Ok-open_node.ensures.keeps c.in-Ok-open_node.ensures.grows) (spares_then _ _ _ _ _ _ c.in-Ok-enter.ensures.spares c.with_left.ensures.spares)

pub returns-in-Ok-enter-clause-brings : goal.returns-in-Ok-enter-clause-brings
returns-in-Ok-enter-clause-brings g t c = brings_written _ _ _ _ 2 (3 * c.height-height.result) _ c.in-Ok-enter.ensures.spares.lasts c.with_left.ensures.spares.lasts c.with_left.ensures.none (omega (arith, c.if-height-bound.false)) c.open_node.ensures.brings c.enter.ensures.brings

pub returns-in-Err-enter-clause-brings : goal.returns-in-Err-enter-clause-brings
returns-in-Err-enter-clause-brings g t c = brings_then _ _ _ 2 (3 * c.height-height.result) _ (keeps_lasts _ _ c.in-Err-enter.ensures.still.keeps) (omega (arith, c.if-height-bound.false)) c.open_node.ensures.brings c.enter.ensures.brings

pub returns-in-Err-enter-clause-still : goal.returns-in-Err-enter-clause-still
returns-in-Err-enter-clause-still g t c = grows_then _ _ _ _ _ _ c.in-Ok-open_node.ensures.grows c.in-Err-enter.ensures.still

pub with_left-requires-clause-at : goal.with_left-requires-clause-at
with_left-requires-clause-at g t c = c.in-Ok-enter.ensures.held.nodes _ (c.in-Ok-open_node.ensures.grows.nodes _ (subst (λ i. IfSome i (IsNode c.args.sw.now)) c.in-Some.is c.requires.root))

pub returns-in-Ok-enter-2-clause-held : goal.returns-in-Ok-enter-2-clause-held
returns-in-Ok-enter-2-clause-held g t c = record {
  nodes = λ at h. c.with_right.ensures.held.nodes at (c.in-Ok-enter-2.ensures.held.nodes at (c.in-Ok-open_node.ensures.grows.nodes at h));
  named = λ at n h. c.with_right.ensures.held.named at n (c.in-Ok-enter-2.ensures.held.named at n (c.in-Ok-open_node.ensures.grows.named at n h));
}

pub returns-in-Ok-enter-2-clause-spares : goal.returns-in-Ok-enter-2-clause-spares
returns-in-Ok-enter-2-clause-spares g t c = spares_then _ _ _ _ _ _ (spares_touched _ _ _ _ c.in-Ok-open_node.ensures.keeps c.in-Ok-open_node.ensures.grows) (spares_then _ _ _ _ _ _ c.in-Ok-enter-2.ensures.spares c.with_right.ensures.spares)

pub returns-in-Ok-enter-2-clause-brings : goal.returns-in-Ok-enter-2-clause-brings
returns-in-Ok-enter-2-clause-brings g t c = brings_written _ _ _ _ 2 (3 * c.height-height.result) _ c.in-Ok-enter-2.ensures.spares.lasts c.with_right.ensures.spares.lasts c.with_right.ensures.none (omega (arith, c.if-height-bound.false)) c.open_node.ensures.brings c.enter-in-Greater.ensures.brings

pub returns-in-Err-enter-2-clause-brings : goal.returns-in-Err-enter-2-clause-brings
returns-in-Err-enter-2-clause-brings g t c = brings_then _ _ _ 2 (3 * c.height-height.result) _ (keeps_lasts _ _ c.in-Err-enter-2.ensures.still.keeps) (omega (arith, c.if-height-bound.false)) c.open_node.ensures.brings c.enter-in-Greater.ensures.brings

pub returns-in-Err-enter-2-clause-still : goal.returns-in-Err-enter-2-clause-still
returns-in-Err-enter-2-clause-still g t c = grows_then _ _ _ _ _ _ c.in-Ok-open_node.ensures.grows c.in-Err-enter-2.ensures.still

pub with_right-requires-clause-at : goal.with_right-requires-clause-at
with_right-requires-clause-at g t c = c.in-Ok-enter-2.ensures.held.nodes _ (c.in-Ok-open_node.ensures.grows.nodes _ (subst (λ i. IfSome i (IsNode c.args.sw.now)) c.in-Some.is c.requires.root))

pub returns-in-Ok-clause-spares : goal.returns-in-Ok-clause-spares
returns-in-Ok-clause-spares g t c = spares_made _ _ _ _ _ _ _ c.in-Ok.ensures.keeps c.in-Ok.ensures.made

pub returns-in-Equal-clause-spares : goal.returns-in-Equal-clause-spares
returns-in-Equal-clause-spares g t c = spares_then _ _ _ _ _ _ (spares_touched _ _ _ _ c.in-Ok-open_node.ensures.keeps c.in-Ok-open_node.ensures.grows) c.put.ensures.spares

pub returns-in-Ok-clause-brings : goal.returns-in-Ok-clause-brings
returns-in-Ok-clause-brings g t c = brings_more _ _ 1 _ (omega (arith, c.requires.some)) c.make_node.ensures.brings

pub returns-in-Err-clause-brings : goal.returns-in-Err-clause-brings
returns-in-Err-clause-brings g t c = brings_more _ _ 1 _ (omega (arith, c.requires.some)) c.make_node.ensures.brings

pub returns-in-Err-clause-still : goal.returns-in-Err-clause-still
returns-in-Err-clause-still g t c = subst (λ (x : Heap). Grows c.args.sw.now x (g.V.Vault.outside c.args.vault.now) (g.V.Vault.outside c.args.vault.now)) (sym c.in-Err.ensures.made.stays) (grows_none c.args.sw.now (g.V.Vault.outside c.args.vault.now) c.sound.ensures)

pub returns-then-height-eq0-clause-brings : goal.returns-then-height-eq0-clause-brings
returns-then-height-eq0-clause-brings g t c = brings_none c.args.sw.now _

pub returns-then-height-eq0-clause-still : goal.returns-then-height-eq0-clause-still
returns-then-height-eq0-clause-still g t c = grows_none c.args.sw.now (g.V.Vault.outside c.args.vault.now) c.sound.ensures

pub returns-in-Err-open_node-clause-brings : goal.returns-in-Err-open_node-clause-brings
returns-in-Err-open_node-clause-brings g t c = brings_more _ _ 2 _ (omega (arith, c.requires.some)) c.open_node.ensures.brings

pub returns-in-Equal-clause-brings : goal.returns-in-Equal-clause-brings
returns-in-Equal-clause-brings g t c = brings_written _ _ _ _ 2 0 _ (keeps_lasts _ _ (keeps-refl _)) c.put.ensures.spares.lasts c.put.ensures.none (omega (arith, c.requires.some)) c.open_node.ensures.brings (brings_none _ 0)

pub with_left-requires-clause-other : goal.with_left-requires-clause-other
with_left-requires-clause-other g t c = side_map (IsNode c.open_node.new.sw) (IsNode c.enter.new.sw) c.in-Ok-enter.ensures.held.nodes c.in-Ok-open_node.opened.right c.in-Ok-open_node.ensures.right

pub with_right-requires-clause-other : goal.with_right-requires-clause-other
with_right-requires-clause-other g t c = side_map (IsNode c.open_node.new.sw) (IsNode c.enter-in-Greater.new.sw) c.in-Ok-enter-2.ensures.held.nodes c.in-Ok-open_node.opened.left c.in-Ok-open_node.ensures.left

pub returns-in-Err-clause-fault : goal.returns-in-Err-clause-fault
returns-in-Err-clause-fault g t c = inr (full_here _ _ 11 c.in-Err.fault c.in-Err.ensures.made)

pub returns-then-height-eq0-clause-fault : goal.returns-then-height-eq0-clause-fault
returns-then-height-eq0-clause-fault g t c = inl (height_tested (g.V.Vault.outside c.args.vault.now) _ c.args.sw.now c.in-Some.at _ _ _ (the_node c.args.sw.now c.args.root c.in-Some.at c.in-Some.is c.requires.root) (c.height-height.ensures.word c.in-Some.at refl) c.then-height-eq0.either c.damaged.ensures)

pub returns-in-Err-open_node-clause-fault : goal.returns-in-Err-open_node-clause-fault
returns-in-Err-open_node-clause-fault g t c = inl c.in-Err-open_node.ensures.fault

pub returns-in-Err-enter-clause-fault : goal.returns-in-Err-enter-clause-fault
returns-in-Err-enter-clause-fault g t c = change_fault_back (g.V.Vault.outside c.args.vault.now) (g.V.Vault.outside c.open_node.new.vault) _ _ c.in-Err-enter.fault c.in-Ok-open_node.ensures.grows.leaves c.in-Err-enter.ensures.fault

pub returns-in-Err-enter-2-clause-fault : goal.returns-in-Err-enter-2-clause-fault
returns-in-Err-enter-2-clause-fault g t c = change_fault_back (g.V.Vault.outside c.args.vault.now) (g.V.Vault.outside c.open_node.new.vault) _ _ c.in-Err-enter-2.fault c.in-Ok-open_node.ensures.grows.leaves c.in-Err-enter-2.ensures.fault

pub returns-in-Ok-enter-clause-leaves : goal.returns-in-Ok-enter-clause-leaves
returns-in-Ok-enter-clause-leaves g t c = leaves-then _ _ _ c.in-Ok-open_node.ensures.grows.leaves c.in-Ok-enter.ensures.leaves

pub returns-in-Ok-enter-2-clause-leaves : goal.returns-in-Ok-enter-2-clause-leaves
returns-in-Ok-enter-2-clause-leaves g t c = leaves-then _ _ _ c.in-Ok-open_node.ensures.grows.leaves c.in-Ok-enter-2.ensures.leaves
