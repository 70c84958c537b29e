use Rattle.std.proofs.Common.{◌-◌, arith, ◌∙◌, Option, ℕ, subst, refl}
use Rattle.heap_places.proofs.of_swizzle.TouchLaws.{keeps-refl, keeps-trans}
use Rattle.avl_trees.specs.Standing.{seek}
use Rattle.node_rows.specs.Keys.{order_by}
use Rattle.table_nodes.specs.Sought.{kind_of, key_in}
use Rattle.table_nodes.specs.Steps.{place}
use Rattle.table_nodes.specs.Following.{IsTurn}
use Rattle.table_nodes.proofs.BringLaws.{brings_more, brings_none, brings_touched}
use Rattle.table_nodes.proofs.SeenLaws.{fetch_back}
use Rattle.table_nodes.proofs.FetchLaws.{arrives_none, arrives_then}
use Rattle.table_nodes.proofs.SoughtLaws.{key_held_kept, key_in_kept}
use Rattle.table_nodes.proofs.StepLaws.{touches_none, touches_then}
use Rattle.table_nodes.proofs.FollowLaws.{Following, following_whole, at_turn, following_none, height_at, following_on}
use Rattle.table_nodes.proofs.FaultLaws.{node_fault_back, height_tested, the_node}
use Rattle.table_nodes.proofs.NodeLaws.{grows_then}
use Rattle.table_nodes.proofs.follow.next.Goals as goal

pub returns-in-Err-clause-follows : goal.returns-in-Err-clause-follows
returns-in-Err-clause-follows g c t h low =
    let ks = kind_of c.args.key in
    let wanted = key_in c.args.sw.now c.args.key in
    let now = place c.loop-at.sw (g.V.Vault.outside c.loop-at.vault) in
    let s = at_turn ks (seek (order_by ks) wanted) now c.in-Some.node c.loop-at.last c.loop-at.span c.loop-at.bound t (subst (λ (i : Option ℕ). Following ks (seek (order_by ks) wanted) now i c.loop-at.last c.loop-at.span c.loop-at.bound t) c.in-Some.is (c.loop-at.invariant.follows t h low)) in
    fetch_back c.args.sw.now now.heap (g.V.Vault.outside c.args.vault.now) now.outside c.in-Err.fault c.loop-at.invariant.grows (c.in-Err.ensures.turns s.x s.b s.y s.stands s.name s.rising s.within)

pub loop-at-preserved : goal.loop-at-preserved
loop-at-preserved g c =
    let ks = kind_of c.args.key in
    let wanted = key_in c.args.sw.now c.args.key in
    let old = place c.args.sw.now (g.V.Vault.outside c.args.vault.now) in
    let now = place c.loop-at.sw (g.V.Vault.outside c.loop-at.vault) in
    let m = place c.go_on.new.sw (g.V.Vault.outside c.go_on.new.vault) in
    record {
      node = c.in-Ok.ensures.side;
      last = c.in-Ok.ensures.last;
      span = c.in-Ok.ensures.span;
      key = key_held_kept now.heap m.heap c.args.key c.in-Ok.ensures.keeps c.loop-at.invariant.key;
      same = key_in_kept now.heap m.heap c.args.key c.in-Ok.ensures.keeps c.loop-at.invariant.key ∙ c.loop-at.invariant.same;
      keeps = keeps-trans old.heap now.heap m.heap c.loop-at.invariant.keeps c.in-Ok.ensures.keeps;
      grows = touches_then old now m c.loop-at.invariant.grows c.in-Ok.ensures.grows;
      some = omega (arith, c.if-height-eq0.false);
      within = omega (arith, c.if-height-bound.false, c.loop-at.invariant.within);
      brings = brings_touched old.heap now.heap m.heap (c.args.bound - c.loop-at.bound) 1 _ c.in-Ok.ensures.keeps (omega (arith, c.if-height-bound.false, c.loop-at.invariant.within)) c.loop-at.invariant.brings c.go_on.ensures.brings;
      alive = c.in-Ok.ensures.alive;
      numbers = (c.in-Ok.ensures.numbers.0 ∙ c.loop-at.invariant.numbers.0, c.in-Ok.ensures.numbers.1 ∙ c.loop-at.invariant.numbers.1, c.in-Ok.ensures.numbers.2 ∙ c.loop-at.invariant.numbers.2, c.in-Ok.ensures.numbers.3 ∙ c.loop-at.invariant.numbers.3);
      fetched = λ t h low.
          let s = at_turn ks (seek (order_by ks) wanted) now c.in-Some.node c.loop-at.last c.loop-at.span c.loop-at.bound t (subst (λ (i : Option ℕ). Following ks (seek (order_by ks) wanted) now i c.loop-at.last c.loop-at.span c.loop-at.bound t) c.in-Some.is (c.loop-at.invariant.follows t h low)) in
          arrives_then old.heap now.heap m.heap old.outside now.outside m.outside c.loop-at.invariant.grows c.in-Ok.ensures.grows (c.loop-at.invariant.fetched t h low) (c.in-Ok.ensures.fetched s.x s.b s.y s.stands s.name);
      follows = λ t h low.
          let s = at_turn ks (seek (order_by ks) wanted) now c.in-Some.node c.loop-at.last c.loop-at.span c.loop-at.bound t (subst (λ (i : Option ℕ). Following ks (seek (order_by ks) wanted) now i c.loop-at.last c.loop-at.span c.loop-at.bound t) c.in-Some.is (c.loop-at.invariant.follows t h low)) in
          let e = height_at ks (seek (order_by ks) wanted) now c.in-Some.node c.loop-at.last c.loop-at.span c.loop-at.bound t s c.height-height.result (c.height-height.ensures.some ks) in
          let turns = subst (λ k. IsTurn ks m.heap c.in-Some.node c.loop-at.last (order_by ks k s.b.entry.key) s.x s.y c.in-Ok.turn) c.loop-at.invariant.same (c.in-Ok.ensures.turns s.x s.b s.y s.stands s.name s.rising s.within) in
          following_on ks (seek (order_by ks) wanted) now m c.in-Some.node c.loop-at.last c.loop-at.span c.loop-at.bound t s c.in-Ok.ensures.grows c.height-height.result c.in-Ok.turn turns e;
    }

pub returns-clause-follows : goal.returns-clause-follows
returns-clause-follows g c t h low =
    let ks = kind_of c.args.key in
    let wanted = key_in c.args.sw.now c.args.key in
    let now = place c.loop-at.sw (g.V.Vault.outside c.loop-at.vault) in
    following_none ks (seek (order_by ks) wanted) now c.loop-at.last c.loop-at.span c.loop-at.bound t (subst (λ (i : Option ℕ). Following ks (seek (order_by ks) wanted) now i c.loop-at.last c.loop-at.span c.loop-at.bound t) c.in_default.is (c.loop-at.invariant.follows t h low))

pub returns-then-height-eq0-clause-follows : goal.returns-then-height-eq0-clause-follows
returns-then-height-eq0-clause-follows g c t h low =
    let ks = kind_of c.args.key in
    let wanted = key_in c.args.sw.now c.args.key in
    let now = place c.loop-at.sw (g.V.Vault.outside c.loop-at.vault) in
    let s = at_turn ks (seek (order_by ks) wanted) now c.in-Some.node c.loop-at.last c.loop-at.span c.loop-at.bound t (subst (λ (i : Option ℕ). Following ks (seek (order_by ks) wanted) now i c.loop-at.last c.loop-at.span c.loop-at.bound t) c.in-Some.is (c.loop-at.invariant.follows t h low)) in
    let e = height_at ks (seek (order_by ks) wanted) now c.in-Some.node c.loop-at.last c.loop-at.span c.loop-at.bound t s c.height-height.result (c.height-height.ensures.some ks) in
    let lower = s.lower in
    absurd (grind (arith, e, lower, c.then-height-eq0.either))

pub returns-then-height-eq0-clause-brings : goal.returns-then-height-eq0-clause-brings
returns-then-height-eq0-clause-brings g c = brings_more _ _ _ _ (omega (arith, c.loop-at.invariant.some, c.loop-at.invariant.within)) c.loop-at.invariant.brings

pub returns-in-Err-clause-brings : goal.returns-in-Err-clause-brings
returns-in-Err-clause-brings g c = brings_touched _ _ _ (c.args.bound - c.loop-at.bound) 1 _ c.in-Err.ensures.still.keeps (omega (arith, c.if-height-eq0.false, c.if-height-bound.false, c.loop-at.invariant.within)) c.loop-at.invariant.brings c.go_on.ensures.brings

pub returns-in-Err-clause-still : goal.returns-in-Err-clause-still
returns-in-Err-clause-still g c = grows_then _ _ _ _ _ _ c.loop-at.invariant.grows c.in-Err.ensures.still

pub returns-clause-brings : goal.returns-clause-brings
returns-clause-brings g c = brings_more _ _ _ _ (omega (arith, c.loop-at.invariant.some, c.loop-at.invariant.within)) c.loop-at.invariant.brings

pub returns-then-height-eq0-clause-fault : goal.returns-then-height-eq0-clause-fault
returns-then-height-eq0-clause-fault g c =
    height_tested (g.V.Vault.outside c.args.vault.now) _ c.loop-at.sw c.in-Some.node _ _ _ (the_node c.loop-at.sw c.loop-at.at c.in-Some.node c.in-Some.is c.loop-at.invariant.node) (c.height-height.ensures.word c.in-Some.node refl) c.then-height-eq0.either c.damaged.ensures

pub returns-in-Err-clause-fault : goal.returns-in-Err-clause-fault
returns-in-Err-clause-fault g c = node_fault_back (g.V.Vault.outside c.args.vault.now) (g.V.Vault.outside c.loop-at.vault) _ _ c.in-Err.fault c.loop-at.invariant.grows.leaves c.in-Err.ensures.fault

pub loop-at-init : goal.loop-at-init
loop-at-init g c =
    let old = place c.args.sw.now (g.V.Vault.outside c.args.vault.now) in
    record {
      node = c.requires.root;
      last = tt;
      span = record { low_is = tt; high_is = tt };
      key = c.requires.key;
      same = refl;
      keeps = keeps-refl c.args.sw.now;
      grows = touches_none old c.sound.ensures;
      some = c.requires.bound;
      within = omega arith;
      brings = brings_none c.args.sw.now _;
      alive = c.requires.alive;
      numbers = (refl, refl, refl, refl);
      fetched = λ t h low. arrives_none c.args.sw.now old.outside;
      follows = λ t h low. following_whole (kind_of c.args.key) (seek (order_by (kind_of c.args.key)) (key_in c.args.sw.now c.args.key)) old c.args.root c.args.bound t h low;
    }

pub returns-clause-fetched : goal.returns-clause-fetched
returns-clause-fetched g c t h low = c.loop-at.invariant.fetched t h low
