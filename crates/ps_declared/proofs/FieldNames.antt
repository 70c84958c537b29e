-- The name that an only argument is.
use Rattle.std.proofs.Common.{◌≡◌, Bool, false, List, [], ◌∷◌, None, length, refl}
use Rattle.std.specs.Bool.{◌==◌}
use Rattle.ps_tree.specs.PhraseLists.{phrases_in}
use Rattle.ps_tree.specs.declared.rough.Rough.{Rough}
use Rattle.ps_scope.specs.ps_typing.Checking.{field_name}

pub several : (only : Rough) (rest : List Rough) (b : Bool) → b ≡ (length rest == 0) → b ≡ false → field_name (phrases_in (only ∷ rest)) ≡ None
several only [] b is fails = absurd cc
several only (r ∷ rest) b is fails = refl
