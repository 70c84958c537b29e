use Rattle.std.proofs.Common.{◌≡◌, ◌<◌, [], ◌∷◌, filter, length, take, get_or, ◌++◌, refl, sym, ap, ◌∙◌, subst, arith, length-append}
use Rattle.commit_images.specs.Images.{is_new}
use Rattle.commit_images.specs.Staging.{Appends, FailsAppend}
use Rattle.commit_images.proofs.StagingLaws.{stages-none, stages-then, appends-none, appends-then, append_fails-then, append_fails-more}
use Rattle.commit_images.proofs.OneLaws.{one-ready-at, one-count, one-few, parts}
use Rattle.reaching.specs.Reaching.{IsIn}
use Rattle.commit_walk.proofs.FromLaws.{index-in}
use Rattle.commit_images.proofs.append.append_all.Goals as goal

pub loop-place-init : goal.loop-place-init
loop-place-init g c = record {
  appends = appends-none c.args.sw.now (g.V.Vault.outside c.args.vault.now) (g.V.Vault.used_words c.args.vault.now) (g.V.Vault.most_words c.args.vault.now);
  stages = stages-none (g.V.Vault.outside c.args.vault.now);
  directory = refl;
  most = refl;
  access = refl;
  alive = c.requires.alive;
  counted = refl;
  few = omega arith;
  buffer = refl;
}

pub append_one-requires-clause-ready : goal.append_one-requires-clause-ready
append_one-requires-clause-ready g c =
    let sw = c.args.sw.now in
    let below : c.loop-place.place < length sw.reached = omega (arith, c.loop-place-test.true, c.listed-count.ensures.count) in
    let there = subst (λ x. IsIn x sw.reached) (sym c.listed_at-object.ensures.is) (index-in sw.reached c.loop-place.place below) in
    one-ready-at sw (is_new sw c.args.first) sw.reached c.listed_at-object.result there c.requires.ready

pub overflow_add-stored : goal.overflow_add-stored
overflow_add-stored g c =
    let few = c.loop-place.invariant.few in
    let one = one-few c.in-Ok.is_stored in
    omega (arith, few, one, c.from-stored.ensures, c.loop-place-test.true, c.listed-count.ensures.below, c.listed-count.type_inv)

pub returns-in-Err-clause-stored : goal.returns-in-Err-clause-stored
returns-in-Err-clause-stored g c =
    let sw = c.args.sw.now in
    let i = c.loop-place.invariant in
    let test = is_new sw c.args.first in
    let p = parts test sw.reached c.loop-place.place (omega (arith, c.loop-place-test.true, c.listed-count.ensures.count)) in
    let before = filter test (take c.loop-place.place sw.reached) in
    let mine = filter test (get_or sw.reached c.loop-place.place 0 ∷ []) in
    let a = g.V.Vault.outside c.args.vault.now in
    let b = g.V.Vault.outside c.loop-place.vault in
    let e = g.V.Vault.outside c.append_one.new.vault in
    let used = g.V.Vault.used_words c.args.vault.now in
    let most = g.V.Vault.most_words c.args.vault.now in
    let one : FailsAppend sw mine b e (g.V.Vault.used_words c.loop-place.vault) most c.in-Err.fault =
    subst (λ n. FailsAppend sw mine b e (g.V.Vault.used_words c.loop-place.vault) n c.in-Err.fault) i.most
    (subst (λ x. FailsAppend sw (filter test (x ∷ [])) b e (g.V.Vault.used_words c.loop-place.vault) (g.V.Vault.most_words c.loop-place.vault) c.in-Err.fault) c.listed_at-object.ensures.is c.in-Err.ensures.stored) in
    subst (λ xs. FailsAppend sw xs a e used most c.in-Err.fault) (sym p.whole)
    (append_fails-more sw (before ++ mine) p.rest a e used most c.in-Err.fault (append_fails-then sw before mine a b e used (g.V.Vault.used_words c.loop-place.vault) most c.in-Err.fault i.stages i.appends one))

pub loop-place-preserved : goal.loop-place-preserved
loop-place-preserved g c =
    let sw = c.args.sw.now in
    let i = c.loop-place.invariant in
    let test = is_new sw c.args.first in
    let p = parts test sw.reached c.loop-place.place (omega (arith, c.loop-place-test.true, c.listed-count.ensures.count)) in
    let before = filter test (take c.loop-place.place sw.reached) in
    let mine = filter test (get_or sw.reached c.loop-place.place 0 ∷ []) in
    let a = g.V.Vault.outside c.args.vault.now in
    let b = g.V.Vault.outside c.loop-place.vault in
    let e = g.V.Vault.outside c.append_one.new.vault in
    let used = g.V.Vault.used_words c.args.vault.now in
    let mid = g.V.Vault.used_words c.loop-place.vault in
    let now = g.V.Vault.used_words c.append_one.new.vault in
    let most = g.V.Vault.most_words c.args.vault.now in
    let one : Appends sw mine b e mid now most =
    subst (λ n. Appends sw mine b e mid now n) i.most
    (subst (λ x. Appends sw (filter test (x ∷ [])) b e mid now (g.V.Vault.most_words c.loop-place.vault)) c.listed_at-object.ensures.is c.in-Ok.ensures.stored.1) in
    let counted = one-count test c.listed_at-object.result c.in-Ok.is_stored c.in-Ok.ensures.stored.0 in
    let mine_is : length mine ≡ length (filter test (c.listed_at-object.result ∷ [])) = ap (λ x. length (filter test (x ∷ []))) (sym c.listed_at-object.ensures.is) in
    let few = one-few c.in-Ok.is_stored in
    record {
      appends = subst (λ xs. Appends sw xs a e used now most) (sym p.next) (appends-then sw before mine a b e used mid now most i.appends one);
      stages = stages-then a b e i.stages c.in-Ok.ensures.stages;
      directory = c.in-Ok.ensures.numbers.0 ∙ i.directory;
      most = c.in-Ok.ensures.numbers.1 ∙ i.most;
      access = c.in-Ok.ensures.numbers.2 ∙ i.access;
      alive = c.in-Ok.ensures.alive;
      counted = omega (arith, i.counted, counted, mine_is, c.from-stored.ensures, ap length p.next, length-append before mine);
      few = omega (arith, i.few, few, c.from-stored.ensures);
      buffer = c.in-Ok.ensures.buffer ∙ i.buffer;
    }
