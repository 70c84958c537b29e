use Rattle.std.proofs.Common.{◌≡◌, ◌<◌, [], ◌∷◌, filter, length, take, get_or, ◌++◌, refl, sym, ap, ◌∙◌, subst, arith, length-append}
use Rattle.commit_images.specs.Images.{is_changed}
use Rattle.commit_images.specs.Staging.{Overwrites, FailsOverwrite}
use Rattle.commit_images.proofs.StagingLaws.{stages-none, stages-then, overwrites-none, overwrites-then, overwrite_fails-then, overwrite_fails-more}
use Rattle.commit_images.proofs.OneLaws.{one-ready-at, one-count, one-few, parts}
use Rattle.reaching.specs.Reaching.{IsIn}
use Rattle.commit_walk.proofs.FromLaws.{index-in}
use Rattle.commit_images.proofs.overwrite.overwrite_all.Goals as goal

pub loop-place-init : goal.loop-place-init
loop-place-init g c = record {
  overwrites = overwrites-none c.args.sw.now (g.V.Vault.outside c.args.vault.now);
  stages = stages-none (g.V.Vault.outside c.args.vault.now);
  used = refl;
  directory = refl;
  most = refl;
  access = refl;
  alive = c.requires.alive;
  counted = refl;
  few = omega arith;
  buffer = refl;
}

pub overwrite_one-requires-clause-ready : goal.overwrite_one-requires-clause-ready
overwrite_one-requires-clause-ready g c =
    let sw = c.args.sw.now in
    let below : c.loop-place.place < length sw.assigned = omega (arith, c.loop-place-test.true, c.assigned_count-count.ensures) in
    let there = subst (λ x. IsIn x sw.assigned) (sym c.assigned_at-object.ensures.is) (index-in sw.assigned c.loop-place.place below) in
    one-ready-at sw (is_changed sw c.args.first) sw.assigned c.assigned_at-object.result there c.requires.ready

pub overflow_add-stored : goal.overflow_add-stored
overflow_add-stored g c =
    let few = c.loop-place.invariant.few in
    let one = one-few c.in-Ok.is_stored in
    omega (arith, few, one, c.from-stored.ensures, c.loop-place-test.true, c.assigned_count-count.type_inv)

pub returns-in-Err-clause-stored : goal.returns-in-Err-clause-stored
returns-in-Err-clause-stored g c =
    let sw = c.args.sw.now in
    let i = c.loop-place.invariant in
    let test = is_changed sw c.args.first in
    let p = parts test sw.assigned c.loop-place.place (omega (arith, c.loop-place-test.true, c.assigned_count-count.ensures)) in
    let before = filter test (take c.loop-place.place sw.assigned) in
    let mine = filter test (get_or sw.assigned c.loop-place.place 0 ∷ []) in
    let a = g.V.Vault.outside c.args.vault.now in
    let b = g.V.Vault.outside c.loop-place.vault in
    let e = g.V.Vault.outside c.overwrite_one.new.vault in
    let one : FailsOverwrite sw mine b e c.in-Err.fault =
    subst (λ x. FailsOverwrite sw (filter test (x ∷ [])) b e c.in-Err.fault) c.assigned_at-object.ensures.is c.in-Err.ensures.stored in
    subst (λ xs. FailsOverwrite sw xs a e c.in-Err.fault) (sym p.whole)
    (overwrite_fails-more sw (before ++ mine) p.rest a e c.in-Err.fault (overwrite_fails-then sw before mine a b e c.in-Err.fault i.stages i.overwrites one))

pub loop-place-preserved : goal.loop-place-preserved
loop-place-preserved g c =
    let sw = c.args.sw.now in
    let i = c.loop-place.invariant in
    let test = is_changed sw c.args.first in
    let p = parts test sw.assigned c.loop-place.place (omega (arith, c.loop-place-test.true, c.assigned_count-count.ensures)) in
    let before = filter test (take c.loop-place.place sw.assigned) in
    let mine = filter test (get_or sw.assigned c.loop-place.place 0 ∷ []) in
    let a = g.V.Vault.outside c.args.vault.now in
    let b = g.V.Vault.outside c.loop-place.vault in
    let e = g.V.Vault.outside c.overwrite_one.new.vault in
    let one : Overwrites sw mine b e = subst (λ x. Overwrites sw (filter test (x ∷ [])) b e) c.assigned_at-object.ensures.is c.in-Ok.ensures.stored.1 in
    let counted = one-count test c.assigned_at-object.result c.in-Ok.is_stored c.in-Ok.ensures.stored.0 in
    let mine_is : length mine ≡ length (filter test (c.assigned_at-object.result ∷ [])) = ap (λ x. length (filter test (x ∷ []))) (sym c.assigned_at-object.ensures.is) in
    let few = one-few c.in-Ok.is_stored in
    record {
      overwrites = subst (λ xs. Overwrites sw xs a e) (sym p.next) (overwrites-then sw before mine a b e i.overwrites one);
      stages = stages-then a b e i.stages c.in-Ok.ensures.stages;
      used = c.in-Ok.ensures.numbers.0 ∙ i.used;
      directory = c.in-Ok.ensures.numbers.1 ∙ i.directory;
      most = c.in-Ok.ensures.numbers.2 ∙ i.most;
      access = c.in-Ok.ensures.numbers.3 ∙ i.access;
      alive = c.in-Ok.ensures.alive;
      counted = omega (arith, i.counted, counted, mine_is, c.from-stored.ensures, ap length p.next, length-append before mine);
      few = omega (arith, i.few, few, c.from-stored.ensures);
      buffer = c.in-Ok.ensures.buffer ∙ i.buffer;
    }
