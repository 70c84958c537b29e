-- A clause that another one follows.
use Rattle.std.proofs.Common.{◌≡◌, true, false, refl}
use Rattle.ps_base.specs.TyView.{TyView, Void}
use Rattle.ps_base.specs.TyView as types
use Rattle.ps_declared.specs.ps_typing.Checking.{isnt_void, is_same}

pub not_void : (t : TyView) → isnt_void t ≡ true → is_same t Void ≡ false
not_void types.Int is = refl
not_void types.Bool is = refl
not_void types.Str is = refl
not_void types.Pntr is = refl
not_void types.Void is = absurd cc
not_void (types.Vector element) is = refl
not_void (types.Proc ts g) is = refl

pub is_void : (t : TyView) → isnt_void t ≡ false → is_same t Void ≡ true
is_void types.Int is = absurd cc
is_void types.Bool is = absurd cc
is_void types.Str is = absurd cc
is_void types.Pntr is = absurd cc
is_void types.Void is = refl
is_void (types.Vector element) is = absurd cc
is_void (types.Proc ts g) is = absurd cc
