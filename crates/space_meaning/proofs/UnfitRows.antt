-- Heaps for which no space stands: with the home 0, and with two scopes, each round the other.
use Rattle.std.proofs.Common.{◌≡◌, inl, [], ◌∷◌, refl, arith, pos, Some, None}
use Rattle.std.specs.Prelude.{codes}
use Rattle.heap_meaning.specs.obj_layout.Stored.{Space}
use Rattle.heap_fit.specs.ps_soundness.ps_meaning.ps_base.TyView as types
use Rattle.heap_fit.specs.ps_soundness.ps_program.Node.{body}
use Rattle.heap_fit.specs.ps_soundness.ps_program.Node as node
use Rattle.ps_code_laws.specs.ps_heap.Values.{Num, Procedure, as_written}
use Rattle.heap_fit.specs.ps_heap.reaching.Reaching.{at_start, by_step}
use Rattle.heap_fit.specs.ps_heap.Tables.{by_strings}
use Rattle.heap_fit.specs.ps_heap.Objects.{Structure, Scope, Keyed}
use Rattle.heap_fit.specs.ps_heap.References.{next_in}
use Rattle.heap_fit.specs.ps_heap.Databases.{every_root}
use Rattle.heap_fit.specs.ps_heap.Held.{StoredHeap, home_at}
use Rattle.heap_fit.specs.database_meaning.Same.{IsInHeap}
use Rattle.heap_fit.specs.Heaps.{here, further}
use Rattle.heap_fit.proofs.RoundLaws.{no_own_parent}
use Rattle.space_meaning.specs.Stands.{SpaceStands}

some_same : {A : Type 0} {x y : A} → Some x ≡ Some y → x ≡ y
some_same e = cc

-- a root at home in no database
abbrev homeless : StoredHeap
homeless = record { objects = Keyed (by_strings []) ∷ []; homes = Some 0 ∷ []; directory = record { name = codes "c"; password = []; root = 0 } ∷ [] }

homeless_root : IsInHeap homeless 0
unfolding every_root
homeless_root = at_start 0 (inl refl) tt

home_0 : (space : Space) → SpaceStands space homeless → ⊥
unfolding home_at
home_0 space s =
    let fit = s.fit.each 0 homeless_root in
    let home : 0 ≡ fit.home = some_same fit.home_is in
    omega (arith, home, fit.first)

-- a procedure over a scope that is its own parent's parent
abbrev ringed : StoredHeap
ringed = record {
  objects =
      Keyed (by_strings (record { key = codes "k"; object = 1 } ∷ []))
      ∷ Structure (codes "p(proc(->int) f)") (Procedure (as_written (body [] types.Int (node.Int (pos 3)) None (record { 0 = 1 }))) (Some 2) ∷ [])
      ∷ Scope (codes "scope(int n)") (Some 3) (Num (pos 0) ∷ [])
      ∷ Scope (codes "scope(int n)") (Some 2) (Num (pos 0) ∷ []) ∷ [];
  homes = Some 1 ∷ Some 1 ∷ Some 1 ∷ Some 1 ∷ [];
  directory = record { name = codes "c"; password = []; root = 0 } ∷ [];
}

scope_reached : IsInHeap ringed 2
unfolding every_root next_in
scope_reached = by_step 1 2 (by_step 0 1 (at_start 0 (inl refl) tt) (inl refl) tt) (inl refl) tt

own_grandparent : (space : Space) → SpaceStands space ringed → ⊥
own_grandparent space s =
    no_own_parent ringed 2 1 (codes "scope(int n)") (Some 3) (Num (pos 0) ∷ []) s.fit scope_reached refl (further refl here)
