-- The test of two types decides whether they are the same.
use Rattle.std.proofs.Common.{◌≡◌, Bool, true, false, ◌&&◌, refl, sym, ap, ◌∙◌}
use Rattle.ps_tree.specs.ps_base.TyView.{TyView, TyViews}
use Rattle.ps_tree.specs.ps_base.TyView as types
use Rattle.ps_typing.specs.Checking.{is_same, are_same}

both : (a b : Bool) → (a && b) ≡ true → (a ≡ true) × (b ≡ true)
both true true h = (refl, refl)
both true false h = (refl, h)
both false b h = absurd cc

mutual
  pub same_is_equal : (a b : TyView) → is_same a b ≡ true → a ≡ b
  same_is_equal types.Int types.Int h = refl
  same_is_equal types.Bool types.Bool h = refl
  same_is_equal types.Str types.Str h = refl
  same_is_equal types.Pntr types.Pntr h = refl
  same_is_equal types.Void types.Void h = refl
  same_is_equal (types.Vector a) (types.Vector b) h = ap types.Vector (same_is_equal a b h)
  same_is_equal (types.Proc ps g) (types.Proc qs k) h =
      let parts = both (are_same ps qs) (is_same g k) h in
      ap (λ l. types.Proc l g) (same_are_equal ps qs parts.0) ∙ ap (types.Proc qs) (same_is_equal g k parts.1)
  same_is_equal a b h = absurd cc

  pub same_are_equal : (ps qs : TyViews) → are_same ps qs ≡ true → ps ≡ qs
  same_are_equal types.none types.none h = refl
  same_are_equal (types.more p ps) (types.more q qs) h =
      let parts = both (is_same p q) (are_same ps qs) h in
      ap (λ t. types.more t ps) (same_is_equal p q parts.0) ∙ ap (types.more q) (same_are_equal ps qs parts.1)
  same_are_equal ps qs h = absurd cc

both_true : (a b : Bool) → a ≡ true → b ≡ true → (a && b) ≡ true
both_true true b h k = k
both_true false b h k = absurd cc

mutual
  itself : (a : TyView) → is_same a a ≡ true
  itself types.Int = refl
  itself types.Bool = refl
  itself types.Str = refl
  itself types.Pntr = refl
  itself types.Void = refl
  itself (types.Vector a) = itself a
  itself (types.Proc ps g) = both_true (are_same ps ps) (is_same g g) (themselves ps) (itself g)

  themselves : (ps : TyViews) → are_same ps ps ≡ true
  themselves types.none = refl
  themselves (types.more p ps) = both_true (is_same p p) (are_same ps ps) (itself p) (themselves ps)

pub equal_is_same : (a b : TyView) → a ≡ b → is_same a b ≡ true
equal_is_same a b e = ap (is_same a) (sym e) ∙ itself a
