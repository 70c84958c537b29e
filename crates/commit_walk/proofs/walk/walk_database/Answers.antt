use Rattle.std.proofs.Common.{ℕ, sym, ◌∙◌, subst, length}
use Rattle.commit_walk.specs.Walk.{IsWalked, May, StartsAt}
use Rattle.commit_walk.proofs.SteadyLaws.{alike, alike-back, may-alike, starts-alike, walked-alike, homes-back, homes-stay, lists-as, steady-then}
use Rattle.commit_walk.proofs.FromLaws.{searched, from-within}
use Rattle.commit_walk.proofs.walk.walk_database.Goals as goal

pub walk_from-requires : goal.walk_from-requires
walk_from-requires c =
    from-within c.args.sw.now.reached c.reach_root.new.sw.reached c.reach_assigned.new.sw.reached _ _ c.listed-from.result c.listed-from.ensures.count c.reach_root.ensures.grows c.reach_assigned.ensures.grows

pub returns : goal.returns
returns c =
    let s0 = c.args.sw.now in
    let s1 = c.reach_root.new.sw in
    let s2 = c.reach_assigned.new.sw in
    let s3 = c.walk_from.new.sw in
    let one = c.reach_root.ensures in
    let two = c.reach_assigned.ensures in
    let a = alike s0 s1 one.steady in
    let back = alike-back s0 s1 a in
    let stay = homes-stay s0 s1 one.homes in
    let P : ℕ → Type 0 = λ y. StartsAt s1 c.args.number s1.assigned (length s1.assigned) y × May s1 y in
    let Q : ℕ → Type 0 = λ y. StartsAt s0 c.args.number s0.assigned (length s0.assigned) y × May s0 y in
    let lists = one.steady.assigned in
    let over = lists-as s1 s2 P Q two
    (λ y p. (subst (λ l. StartsAt s0 c.args.number l (length l) y) lists (starts-alike s1 s0 back (homes-back s0 s1 a stay) c.args.number s1.assigned (length s1.assigned) y p.0), may-alike s1 s0 back y p.1))
    (λ y p. (subst (λ l. StartsAt s1 c.args.number l (length l) y) (sym lists) (starts-alike s0 s1 a stay c.args.number s0.assigned (length s0.assigned) y p.0), may-alike s0 s1 a y p.1)) in
    let upto = steady-then s0 s1 s2 one.steady two.steady in
    let walked = walked-alike s2 s0 s2.reached c.listed-from.result s3.reached (alike-back s0 s2 (alike s0 s2 upto)) c.walk_from.ensures.walked in
    record {
      steady = steady-then s0 s2 s3 upto c.walk_from.ensures.steady;
      homes = λ y. c.walk_from.ensures.homes y ∙ (two.homes y ∙ one.homes y);
      searched = searched s0 c.args.number c.args.root s0.reached s1.reached s2.reached s3.reached one.grows over.grows
          (subst (λ n. IsWalked s0 s2.reached n s3.reached) c.listed-from.ensures.count walked);
    }
