use Rattle.std.proofs.Common.{◌≡◌, ◌<◌, ◌+◌, ◌-◌, ◌∷◌, ◌∙◌, List, ℕ, suc, length, get_or, drop, drop-cons, arith, sym, ap}
use Rattle.ps_placer.specs.declared.placer.Placer.{Placer}
use Rattle.ps_placer.specs.inside.Tables.{value_at}
use Rattle.ps_placer.specs.inside.Standing.{found_from}
use Rattle.ps_placer.proofs.Spots.{found_one_more, hidden_undone, same_again}
use Rattle.ps_placer.proofs.placer.Placer.enter.Goals as goal

pub loop-position-preserved : goal.loop-position-preserved
loop-position-preserved c =
    let kept = c.args.kept.now in
    let old = c.loop-position.self in
    let new = c.hide.new.self in
    let before = c.args.self.now in
    let here = c.in_ok-hide.ensures in
    let i = c.loop-position.position in
    let p = i - 1 in
    let below : p < length kept = omega (arith, c.loop-position.invariant.within, c.loop-position-test.true) in
    let up : i ≡ p + 1 = omega (arith, c.loop-position-test.true) in
    let next : suc p ≡ i = omega (arith, c.loop-position-test.true) in
    let name = get_or kept p 0 in
    let cut : drop p kept ≡ name ∷ drop i kept = drop-cons kept p 0 below ∙ ap (λ n. name ∷ drop n kept) next in
    let scopes : new.scopes ≡ old.scopes = ap (λ (x : Placer). x.scopes) here.same in
    record {
      within = omega (arith, below);
      same = here.same ∙ ap (λ (x : Placer). record x { spots = new.spots }) c.loop-position.invariant.same;
      outer_scopes = c.loop-position.invariant.outer_scopes;
      found = λ k.
          found_one_more old.scopes p name (drop i kept) (value_at before.spots k) (value_at old.spots k) (value_at new.spots k) k (here.found.each k)
          (c.loop-position.invariant.found k ∙ ap (λ n. found_from old.scopes n (drop i kept) (value_at before.spots k) k) up)
          ∙ ap (λ (names : List ℕ). found_from old.scopes p names (value_at before.spots k) k) (sym cut)
          ∙ ap (λ n. found_from n p (drop p kept) (value_at before.spots k) k) (sym scopes);
      undo = λ k.
          hidden_undone c.loop-position.hidden.items c.hide.new.hidden.items (record { name = name; spot = value_at old.spots name }) (value_at old.spots k) (value_at new.spots k) (value_at before.spots k) k
          here.hidden (c.loop-position.invariant.undo k) (same_again name k (λ n. value_at old.spots n) _ (value_at new.spots k) (here.found.each k));
    }
