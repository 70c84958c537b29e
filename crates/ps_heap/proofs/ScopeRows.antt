-- Names of scopes, so many levels out.
use Rattle.std.proofs.Common.{◌≡◌, [], ◌∷◌, refl, pos, Some, None}
use Rattle.std.specs.Prelude.{codes}
use Rattle.ps_heap.specs.Values.{Num, Text}
use Rattle.ps_heap.specs.Objects.{Heap, Scope}
use Rattle.ps_heap.specs.Scopes.{scope_out, name_in, kept_name}

-- the last scope stands inside the one before it, and that inside the first
abbrev scopes : Heap
scopes = Scope (codes "scope(string a)") None (Text (codes "x") ∷ []) ∷ Scope (codes "scope(int b)") (Some 0) (Num (pos 3) ∷ [])
    ∷ Scope (codes "scope(int c)") (Some 1) (Num (pos 5) ∷ []) ∷ []

own_name : kept_name scopes (Some 2) 0 0 ≡ Num (pos 5)
unfolding scope_out name_in
own_name = refl

one_level_out : kept_name scopes (Some 2) 1 0 ≡ Num (pos 3)
unfolding scope_out name_in
one_level_out = refl

two_levels_out : kept_name scopes (Some 2) 2 0 ≡ Text (codes "x")
unfolding scope_out name_in
two_levels_out = refl
