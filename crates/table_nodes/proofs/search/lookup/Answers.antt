use Rattle.std.proofs.Common.{◌∙◌, ◌-◌, Option, Ok, Err, ℕ, subst, arith, refl}
use Rattle.heap_places.proofs.of_swizzle.TouchLaws.{keeps-refl, keeps-trans}
use Rattle.avl_trees.specs.Standing.{row_of}
use Rattle.table_nodes.specs.Sought.{kind_of, key_in}
use Rattle.table_nodes.specs.Steps.{place}
use Rattle.table_nodes.specs.Bringing.{Brings}
use Rattle.table_nodes.specs.Searching.{IsDown, IsStep, came_by}
use Rattle.table_nodes.proofs.BringLaws.{brings_more, brings_none, brings_touched}
use Rattle.table_nodes.specs.declared.search.Step.{Step}
use Rattle.table_nodes.specs.declared.search.Step.TheVariants.{Found, Down}
use Rattle.table_nodes.proofs.SeenLaws.{fetch_back}
use Rattle.table_nodes.proofs.FetchLaws.{arrives_none, arrives_then}
use Rattle.table_nodes.proofs.SoughtLaws.{key_held_kept, key_in_kept}
use Rattle.table_nodes.proofs.SpanLaws.{value_found}
use Rattle.table_nodes.proofs.StepLaws.{touches_none, touches_then}
use Rattle.table_nodes.proofs.Seeking.{sought_whole, looked_none, looked_found, Sought, at_node, sought_none, height_read, sought_found, sought_down, value_seen}
use Rattle.table_nodes.proofs.FaultLaws.{node_fault_back, height_tested, the_node}
use Rattle.table_nodes.proofs.NodeLaws.{grows_then}
use Rattle.table_nodes.proofs.search.lookup.Goals as goal

pub returns-then-height-eq0-clause-found : goal.returns-then-height-eq0-clause-found
returns-then-height-eq0-clause-found g c t h low =
    let ks = kind_of c.args.key in
    let wanted = key_in c.args.sw.now c.args.key in
    let old = place c.args.sw.now (g.V.Vault.outside c.args.vault.now) in
    let now = place c.loop-at.sw (g.V.Vault.outside c.loop-at.vault) in
    let s = at_node ks wanted old now c.in-Some.node c.loop-at.span c.loop-at.bound c.args.steps.now c.loop-at.steps t (subst (λ (i : Option ℕ). Sought ks wanted old now i c.loop-at.span c.loop-at.bound c.args.steps.now c.loop-at.steps t) c.in-Some.is (c.loop-at.invariant.sought t h low)) in
    let e = height_read ks wanted old now c.in-Some.node c.loop-at.span c.loop-at.bound c.args.steps.now c.loop-at.steps t s c.height-height.result (c.height-height.ensures.some ks) in
    let lower = s.lower in
    absurd (grind (arith, e, lower, c.then-height-eq0.either))

pub returns-in-Ok-clause-found : goal.returns-in-Ok-clause-found
returns-in-Ok-clause-found g c t h low =
    let ks = kind_of c.args.key in
    let wanted = key_in c.args.sw.now c.args.key in
    let old = place c.args.sw.now (g.V.Vault.outside c.args.vault.now) in
    let now = place c.loop-at.sw (g.V.Vault.outside c.loop-at.vault) in
    let m = place c.look.new.sw (g.V.Vault.outside c.look.new.vault) in
    let new = place c.value.new.sw (g.V.Vault.outside c.value.new.vault) in
    let s = at_node ks wanted old now c.in-Some.node c.loop-at.span c.loop-at.bound c.args.steps.now c.loop-at.steps t (subst (λ (i : Option ℕ). Sought ks wanted old now i c.loop-at.span c.loop-at.bound c.args.steps.now c.loop-at.steps t) c.in-Some.is (c.loop-at.invariant.sought t h low)) in
    let step = subst (λ (w : Step). IsStep ks m.heap (key_in now.heap c.args.key) s.x s.b s.y w) c.in-Ok-Found.field-0-is (c.in-Ok-Found.ensures.steps s.x s.b s.y s.stands s.name s.rising s.within) in
    let found = subst (λ k. IsStep ks m.heap k s.x s.b s.y Found) c.loop-at.invariant.same step in
    sought_found ks wanted old now m c.in-Some.node c.loop-at.span c.loop-at.bound c.args.steps.now c.loop-at.steps t s c.in-Ok-Found.ensures.grows c.loop-at.invariant.grows new found (Ok c.in-Ok.value) c.in-Ok.ensures.read c.in-Ok.ensures.held

pub returns-in-Ok-clause-grows : goal.returns-in-Ok-clause-grows
returns-in-Ok-clause-grows g c =
    let old = place c.args.sw.now (g.V.Vault.outside c.args.vault.now) in
    let now = place c.loop-at.sw (g.V.Vault.outside c.loop-at.vault) in
    let m = place c.look.new.sw (g.V.Vault.outside c.look.new.vault) in
    let new = place c.value.new.sw (g.V.Vault.outside c.value.new.vault) in
    touches_then old m new (touches_then old now m c.loop-at.invariant.grows c.in-Ok-Found.ensures.grows) c.in-Ok.ensures.grows

pub returns-in-Ok-clause-keeps : goal.returns-in-Ok-clause-keeps
returns-in-Ok-clause-keeps g c = keeps-trans c.args.sw.now c.look.new.sw c.value.new.sw (keeps-trans c.args.sw.now c.loop-at.sw c.look.new.sw c.loop-at.invariant.keeps c.in-Ok-Found.ensures.keeps) c.in-Ok.ensures.keeps

pub returns-in-Err-value-clause-found : goal.returns-in-Err-value-clause-found
returns-in-Err-value-clause-found g c t h low =
    let ks = kind_of c.args.key in
    let wanted = key_in c.args.sw.now c.args.key in
    let old = place c.args.sw.now (g.V.Vault.outside c.args.vault.now) in
    let now = place c.loop-at.sw (g.V.Vault.outside c.loop-at.vault) in
    let m = place c.look.new.sw (g.V.Vault.outside c.look.new.vault) in
    let new = place c.value.new.sw (g.V.Vault.outside c.value.new.vault) in
    let s = at_node ks wanted old now c.in-Some.node c.loop-at.span c.loop-at.bound c.args.steps.now c.loop-at.steps t (subst (λ (i : Option ℕ). Sought ks wanted old now i c.loop-at.span c.loop-at.bound c.args.steps.now c.loop-at.steps t) c.in-Some.is (c.loop-at.invariant.sought t h low)) in
    let step = subst (λ (w : Step). IsStep ks m.heap (key_in now.heap c.args.key) s.x s.b s.y w) c.in-Ok-Found.field-0-is (c.in-Ok-Found.ensures.steps s.x s.b s.y s.stands s.name s.rising s.within) in
    let found = subst (λ k. IsStep ks m.heap k s.x s.b s.y Found) c.loop-at.invariant.same step in
    sought_found ks wanted old now m c.in-Some.node c.loop-at.span c.loop-at.bound c.args.steps.now c.loop-at.steps t s c.in-Ok-Found.ensures.grows c.loop-at.invariant.grows new found (Err c.in-Err-value.fault) c.in-Err-value.ensures.read

pub returns-in-Err-clause-found : goal.returns-in-Err-clause-found
returns-in-Err-clause-found g c t h low =
    let ks = kind_of c.args.key in
    let wanted = key_in c.args.sw.now c.args.key in
    let old = place c.args.sw.now (g.V.Vault.outside c.args.vault.now) in
    let now = place c.loop-at.sw (g.V.Vault.outside c.loop-at.vault) in
    let s = at_node ks wanted old now c.in-Some.node c.loop-at.span c.loop-at.bound c.args.steps.now c.loop-at.steps t (subst (λ (i : Option ℕ). Sought ks wanted old now i c.loop-at.span c.loop-at.bound c.args.steps.now c.loop-at.steps t) c.in-Some.is (c.loop-at.invariant.sought t h low)) in
    λ k. fetch_back old.heap now.heap old.outside now.outside c.in-Err.fault c.loop-at.invariant.grows (c.in-Err.ensures.steps s.x s.b s.y s.stands s.name s.rising s.within)

pub loop-at-preserved : goal.loop-at-preserved
loop-at-preserved g c =
    let ks = kind_of c.args.key in
    let wanted = key_in c.args.sw.now c.args.key in
    let old = place c.args.sw.now (g.V.Vault.outside c.args.vault.now) in
    let now = place c.loop-at.sw (g.V.Vault.outside c.loop-at.vault) in
    let m = place c.look.new.sw (g.V.Vault.outside c.look.new.vault) in
    record {
      node = (subst (λ (w : Step). IsDown m.heap c.in-Some.node c.args.key w) c.in-Ok-Down.field-0-is c.in-Ok-Down.ensures.down).0;
      span = (subst (λ (w : Step). IsDown m.heap c.in-Some.node c.args.key w) c.in-Ok-Down.field-0-is c.in-Ok-Down.ensures.down).1;
      some = omega (arith, c.if-height-eq0.false);
      cost = omega (arith, c.tick.ensures, c.loop-at.invariant.cost, c.if-height-bound.false);
      key = key_held_kept now.heap m.heap c.args.key c.in-Ok-Down.ensures.keeps c.loop-at.invariant.key;
      same = key_in_kept now.heap m.heap c.args.key c.in-Ok-Down.ensures.keeps c.loop-at.invariant.key ∙ c.loop-at.invariant.same;
      keeps = keeps-trans old.heap now.heap m.heap c.loop-at.invariant.keeps c.in-Ok-Down.ensures.keeps;
      grows = touches_then old now m c.loop-at.invariant.grows c.in-Ok-Down.ensures.grows;
      more = omega (arith, c.tick.ensures, c.loop-at.invariant.more);
      brings = brings_touched old.heap now.heap m.heap _ 1 _ c.in-Ok-Down.ensures.keeps (omega (arith, c.tick.ensures, c.loop-at.invariant.more)) c.loop-at.invariant.brings
          (subst (λ (w : Step). Brings now.heap m.heap (came_by w)) c.in-Ok-Down.field-0-is c.in-Ok-Down.ensures.brings);
      alive = c.in-Ok-Down.ensures.alive;
      numbers = (c.in-Ok-Down.ensures.numbers.0 ∙ c.loop-at.invariant.numbers.0, c.in-Ok-Down.ensures.numbers.1 ∙ c.loop-at.invariant.numbers.1, c.in-Ok-Down.ensures.numbers.2 ∙ c.loop-at.invariant.numbers.2, c.in-Ok-Down.ensures.numbers.3 ∙ c.loop-at.invariant.numbers.3);
      fetched = λ t h low.
          let s = at_node ks wanted old now c.in-Some.node c.loop-at.span c.loop-at.bound c.args.steps.now c.loop-at.steps t (subst (λ (i : Option ℕ). Sought ks wanted old now i c.loop-at.span c.loop-at.bound c.args.steps.now c.loop-at.steps t) c.in-Some.is (c.loop-at.invariant.sought t h low)) in
          arrives_then old.heap now.heap m.heap old.outside now.outside m.outside c.loop-at.invariant.grows c.in-Ok-Down.ensures.grows (c.loop-at.invariant.fetched t h low) (c.in-Ok-Down.ensures.fetched s.x s.b s.y s.stands s.name);
      sought = λ t h low.
          let s = at_node ks wanted old now c.in-Some.node c.loop-at.span c.loop-at.bound c.args.steps.now c.loop-at.steps t (subst (λ (i : Option ℕ). Sought ks wanted old now i c.loop-at.span c.loop-at.bound c.args.steps.now c.loop-at.steps t) c.in-Some.is (c.loop-at.invariant.sought t h low)) in
          let e = height_read ks wanted old now c.in-Some.node c.loop-at.span c.loop-at.bound c.args.steps.now c.loop-at.steps t s c.height-height.result (c.height-height.ensures.some ks) in
          let step = subst (λ (w : Step). IsStep ks m.heap (key_in now.heap c.args.key) s.x s.b s.y w) c.in-Ok-Down.field-0-is (c.in-Ok-Down.ensures.steps s.x s.b s.y s.stands s.name s.rising s.within) in
          let down = subst (λ k. IsStep ks m.heap k s.x s.b s.y (Down c.in-Ok-Down.way)) c.loop-at.invariant.same step in
          sought_down ks wanted old now m c.in-Some.node c.loop-at.span c.loop-at.bound c.args.steps.now c.loop-at.steps t s c.in-Ok-Down.ensures.grows c.tick.new.self c.tick.ensures c.height-height.result c.in-Ok-Down.way down e;
    }

pub returns-clause-found : goal.returns-clause-found
returns-clause-found g c t h low =
    let ks = kind_of c.args.key in
    let wanted = key_in c.args.sw.now c.args.key in
    let old = place c.args.sw.now (g.V.Vault.outside c.args.vault.now) in
    let now = place c.loop-at.sw (g.V.Vault.outside c.loop-at.vault) in
    sought_none ks wanted old now c.loop-at.sw c.loop-at.span c.loop-at.bound c.args.steps.now c.loop-at.steps t (subst (λ (i : Option ℕ). Sought ks wanted old now i c.loop-at.span c.loop-at.bound c.args.steps.now c.loop-at.steps t) c.in_default.is (c.loop-at.invariant.sought t h low))

pub returns-in-Ok-clause-charged : goal.returns-in-Ok-clause-charged
returns-in-Ok-clause-charged g c t h low =
    let ks = kind_of c.args.key in
    let wanted = key_in c.args.sw.now c.args.key in
    let old = place c.args.sw.now (g.V.Vault.outside c.args.vault.now) in
    let now = place c.loop-at.sw (g.V.Vault.outside c.loop-at.vault) in
    let m = place c.look.new.sw (g.V.Vault.outside c.look.new.vault) in
    let s = at_node ks wanted old now c.in-Some.node c.loop-at.span c.loop-at.bound c.args.steps.now c.loop-at.steps t (subst (λ (i : Option ℕ). Sought ks wanted old now i c.loop-at.span c.loop-at.bound c.args.steps.now c.loop-at.steps t) c.in-Some.is (c.loop-at.invariant.sought t h low)) in
    let step = subst (λ (w : Step). IsStep ks m.heap (key_in now.heap c.args.key) s.x s.b s.y w) c.in-Ok-Found.field-0-is (c.in-Ok-Found.ensures.steps s.x s.b s.y s.stands s.name s.rising s.within) in
    let found = subst (λ k. IsStep ks m.heap k s.x s.b s.y Found) c.loop-at.invariant.same step in
    looked_found ks wanted old now m c.in-Some.node c.loop-at.span c.loop-at.bound c.args.steps.now c.loop-at.steps t s c.in-Ok-Found.ensures.grows c.tick.new.self c.tick.ensures found

pub returns-clause-charged : goal.returns-clause-charged
returns-clause-charged g c t h low =
    let ks = kind_of c.args.key in
    let wanted = key_in c.args.sw.now c.args.key in
    let old = place c.args.sw.now (g.V.Vault.outside c.args.vault.now) in
    let now = place c.loop-at.sw (g.V.Vault.outside c.loop-at.vault) in
    looked_none ks wanted old now c.loop-at.span c.loop-at.bound c.args.steps.now c.loop-at.steps t (subst (λ (i : Option ℕ). Sought ks wanted old now i c.loop-at.span c.loop-at.bound c.args.steps.now c.loop-at.steps t) c.in_default.is (c.loop-at.invariant.sought t h low))

pub returns-then-height-eq0-clause-brings : goal.returns-then-height-eq0-clause-brings
returns-then-height-eq0-clause-brings g c = brings_more _ _ _ _ (omega (arith, c.tick.ensures, c.loop-at.invariant.more)) c.loop-at.invariant.brings

pub returns-in-Ok-clause-brings : goal.returns-in-Ok-clause-brings
returns-in-Ok-clause-brings g c =
    let found = subst (λ (w : Step). Brings c.loop-at.sw c.look.new.sw (came_by w)) c.in-Ok-Found.field-0-is c.in-Ok-Found.ensures.brings in
    brings_touched _ _ _ (c.loop-at.steps - c.args.steps.now) 1 _ c.in-Ok.ensures.keeps (omega (arith, c.tick.ensures, c.loop-at.invariant.more))
    (brings_touched _ _ _ (c.loop-at.steps - c.args.steps.now) 0 _ c.in-Ok-Found.ensures.keeps (omega arith) c.loop-at.invariant.brings found) c.value.ensures.brings

pub returns-in-Err-value-clause-brings : goal.returns-in-Err-value-clause-brings
returns-in-Err-value-clause-brings g c =
    let found = subst (λ (w : Step). Brings c.loop-at.sw c.look.new.sw (came_by w)) c.in-Ok-Found.field-0-is c.in-Ok-Found.ensures.brings in
    brings_touched _ _ _ (c.loop-at.steps - c.args.steps.now) 1 _ c.in-Err-value.ensures.still.keeps (omega (arith, c.tick.ensures, c.loop-at.invariant.more))
    (brings_touched _ _ _ (c.loop-at.steps - c.args.steps.now) 0 _ c.in-Ok-Found.ensures.keeps (omega arith) c.loop-at.invariant.brings found) c.value.ensures.brings

pub returns-in-Err-clause-brings : goal.returns-in-Err-clause-brings
returns-in-Err-clause-brings g c = brings_touched _ _ _ (c.loop-at.steps - c.args.steps.now) 1 _ c.in-Err.ensures.still.keeps (omega (arith, c.tick.ensures, c.loop-at.invariant.more)) c.loop-at.invariant.brings c.in-Err.ensures.brings

pub returns-in-Err-value-clause-still : goal.returns-in-Err-value-clause-still
returns-in-Err-value-clause-still g c = grows_then _ _ _ _ _ _ (grows_then _ _ _ _ _ _ c.loop-at.invariant.grows c.in-Ok-Found.ensures.grows) c.in-Err-value.ensures.still

pub returns-in-Err-clause-still : goal.returns-in-Err-clause-still
returns-in-Err-clause-still g c = grows_then _ _ _ _ _ _ c.loop-at.invariant.grows c.in-Err.ensures.still

pub returns-then-height-eq0-clause-fault : goal.returns-then-height-eq0-clause-fault
returns-then-height-eq0-clause-fault g c =
    height_tested (g.V.Vault.outside c.args.vault.now) _ c.loop-at.sw c.in-Some.node _ _ _ (the_node c.loop-at.sw c.loop-at.at c.in-Some.node c.in-Some.is c.loop-at.invariant.node) (c.height-height.ensures.word c.in-Some.node refl) c.then-height-eq0.either c.damaged.ensures

pub returns-in-Err-clause-fault : goal.returns-in-Err-clause-fault
returns-in-Err-clause-fault g c = node_fault_back (g.V.Vault.outside c.args.vault.now) (g.V.Vault.outside c.loop-at.vault) _ _ c.in-Err.fault c.loop-at.invariant.grows.leaves c.in-Err.ensures.fault

pub returns-in-Err-value-clause-fault : goal.returns-in-Err-value-clause-fault
returns-in-Err-value-clause-fault g c =
    node_fault_back (g.V.Vault.outside c.args.vault.now) (g.V.Vault.outside c.loop-at.vault) _ _ c.in-Err-value.fault c.loop-at.invariant.grows.leaves
    (node_fault_back (g.V.Vault.outside c.loop-at.vault) (g.V.Vault.outside c.look.new.vault) _ _ c.in-Err-value.fault c.in-Ok-Found.ensures.grows.leaves c.in-Err-value.ensures.fault)

pub returns-in-Ok-clause-value : goal.returns-in-Ok-clause-value
returns-in-Ok-clause-value g c =
    let found = subst (λ (w : Step). IsDown c.look.new.sw c.in-Some.node c.args.key w) c.in-Ok-Found.field-0-is c.in-Ok-Found.ensures.down in
    value_found c.look.new.sw c.value.new.sw c.in-Some.node c.in-Ok.value c.args.key c.in-Ok.ensures.keeps (key_held_kept c.loop-at.sw c.look.new.sw c.args.key c.in-Ok-Found.ensures.keeps c.loop-at.invariant.key) found c.in-Ok.ensures.slot

pub loop-at-init : goal.loop-at-init
loop-at-init g c =
    let old = place c.args.sw.now (g.V.Vault.outside c.args.vault.now) in
    record {
      node = c.requires.root;
      span = record { low_is = tt; high_is = tt };
      some = c.requires.bound;
      cost = omega arith;
      key = c.requires.key;
      same = refl;
      keeps = keeps-refl c.args.sw.now;
      grows = touches_none old c.sound.ensures;
      more = omega arith;
      brings = brings_none c.args.sw.now _;
      alive = c.requires.alive;
      numbers = (refl, refl, refl, refl);
      fetched = λ t h low. arrives_none c.args.sw.now old.outside;
      sought = λ t h low. sought_whole (kind_of c.args.key) (key_in c.args.sw.now c.args.key) old c.args.root c.args.bound c.args.steps.now t h low;
    }

pub returns-clause-fetched : goal.returns-clause-fetched
returns-clause-fetched g c t h low seen = c.loop-at.invariant.fetched t h low

pub returns-in-Ok-clause-fetched : goal.returns-in-Ok-clause-fetched
returns-in-Ok-clause-fetched g c t h low seen =
    let ks = kind_of c.args.key in
    let wanted = key_in c.args.sw.now c.args.key in
    let old = place c.args.sw.now (g.V.Vault.outside c.args.vault.now) in
    let now = place c.loop-at.sw (g.V.Vault.outside c.loop-at.vault) in
    let m = place c.look.new.sw (g.V.Vault.outside c.look.new.vault) in
    let new = place c.value.new.sw (g.V.Vault.outside c.value.new.vault) in
    let s = at_node ks wanted old now c.in-Some.node c.loop-at.span c.loop-at.bound c.args.steps.now c.loop-at.steps t (subst (λ (i : Option ℕ). Sought ks wanted old now i c.loop-at.span c.loop-at.bound c.args.steps.now c.loop-at.steps t) c.in-Some.is (c.loop-at.invariant.sought t h low)) in
    let known = value_seen ks wanted old now m c.in-Some.node c.loop-at.span c.loop-at.bound c.args.steps.now c.loop-at.steps t s c.in-Ok-Found.ensures.grows c.loop-at.invariant.grows seen in
    let named = c.in-Ok-Found.ensures.grows.named c.in-Some.node s.b.name s.name in
    let row = c.in-Ok-Found.ensures.grows.rows ks s.b.name (row_of s.x s.b s.y) s.stands.0 in
    let first = arrives_then old.heap now.heap m.heap old.outside now.outside m.outside c.loop-at.invariant.grows c.in-Ok-Found.ensures.grows (c.loop-at.invariant.fetched t h low) (c.in-Ok-Found.ensures.fetched s.x s.b s.y s.stands s.name) in
    arrives_then old.heap m.heap new.heap old.outside m.outside new.outside (touches_then old now m c.loop-at.invariant.grows c.in-Ok-Found.ensures.grows) c.in-Ok.ensures.grows first
    (c.in-Ok.ensures.fetched ks s.b.name (row_of s.x s.b s.y) named row known)
