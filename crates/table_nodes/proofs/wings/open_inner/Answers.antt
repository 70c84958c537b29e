use Rattle.std.proofs.Common.{refl, ℕ, Option, Some, arith, subst}
use Rattle.avl_trees.specs.Trees.{leaf, node}
use Rattle.heap_places.proofs.of_swizzle.TouchLaws.{keeps-refl}
use Rattle.table_nodes.specs.Nodes.{IsLinked}
use Rattle.table_nodes.specs.Steps.{place}
use Rattle.table_nodes.proofs.BringLaws.{brings_none}
use Rattle.table_nodes.proofs.Putting.{root_named, no_root}
use Rattle.table_nodes.proofs.StepLaws.{height_is, touches_none}
use Rattle.table_nodes.proofs.FetchLaws.{fetches_same}
use Rattle.table_nodes.proofs.wings.open_inner.Goals as goal

pub returns-then-height-clause-ends : goal.returns-then-height-clause-ends
returns-then-height-clause-ends g c ks x y s t e f =
    let p = place c.args.sw.now (g.V.Vault.outside c.args.vault.now) in
    let hx = height_is ks p c.args.outer c.height-2.result c.height-2.ensures.none (c.height-2.ensures.some ks) x s e in
    let hy = height_is ks p c.args.inner c.height.result c.height.ensures.none (c.height.ensures.some ks) y t f in
    λ lower. absurd (omega (arith, hx, hy, lower, c.if-height.true))

pub returns-in_default-clause-ends : goal.returns-in_default-clause-ends
returns-in_default-clause-ends g c ks x leaf s t e f = λ lower. absurd (omega (arith, lower))
returns-in_default-clause-ends g c ks x (node u d v) s t e f = absurd (subst (λ (i : Option ℕ). IsLinked c.args.sw.now i (Some d.name)) c.in_default.is f)

pub returns-in-Ok-clause-ends : goal.returns-in-Ok-clause-ends
returns-in-Ok-clause-ends g c ks x leaf s t e f = λ lower. tt
returns-in-Ok-clause-ends g c ks x (node u d v) s t e f = λ lower. c.in-Ok.ensures.ends ks u d v t (root_named c.args.sw.now c.args.inner c.in-Some.middle d.name c.in-Some.is f)

pub returns-in-Err-clause-ends : goal.returns-in-Err-clause-ends
returns-in-Err-clause-ends g c ks x leaf s t e f = absurd (no_root c.args.sw.now c.args.inner c.in-Some.middle c.in-Some.is f)
returns-in-Err-clause-ends g c ks x (node u d v) s t e f = c.in-Err.ensures.ends ks u d v t (root_named c.args.sw.now c.args.inner c.in-Some.middle d.name c.in-Some.is f)

pub returns-then-height-clause-grows : goal.returns-then-height-clause-grows
returns-then-height-clause-grows g c = touches_none (place c.args.sw.now (g.V.Vault.outside c.args.vault.now)) c.sound.ensures

pub returns-in_default-clause-grows : goal.returns-in_default-clause-grows
returns-in_default-clause-grows g c = touches_none (place c.args.sw.now (g.V.Vault.outside c.args.vault.now)) c.sound.ensures

pub returns-then-height-clause-keeps : goal.returns-then-height-clause-keeps
returns-then-height-clause-keeps g c = keeps-refl c.args.sw.now

pub returns-in_default-clause-keeps : goal.returns-in_default-clause-keeps
returns-in_default-clause-keeps g c = keeps-refl c.args.sw.now

pub returns-then-height-clause-brings : goal.returns-then-height-clause-brings
returns-then-height-clause-brings g c = brings_none c.args.sw.now 2

pub returns-in_default-clause-brings : goal.returns-in_default-clause-brings
returns-in_default-clause-brings g c = brings_none c.args.sw.now 2

pub returns-then-height-clause-fetched : goal.returns-then-height-clause-fetched
returns-then-height-clause-fetched g c ks t s f = fetches_same ks c.args.sw.now c.args.sw.now (g.V.Vault.outside c.args.vault.now) refl

pub returns-in_default-clause-fetched : goal.returns-in_default-clause-fetched
returns-in_default-clause-fetched g c ks t s f = fetches_same ks c.args.sw.now c.args.sw.now (g.V.Vault.outside c.args.vault.now) refl

pub returns-in-Ok-clause-fetched : goal.returns-in-Ok-clause-fetched
returns-in-Ok-clause-fetched g c ks leaf s f = absurd (no_root c.args.sw.now c.args.inner c.in-Some.middle c.in-Some.is f)
returns-in-Ok-clause-fetched g c ks (node u d v) s f = c.in-Ok.ensures.fetched ks u d v s (root_named c.args.sw.now c.args.inner c.in-Some.middle d.name c.in-Some.is f)
