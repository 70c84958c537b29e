-- The first names of a row, the compiled objects of a heap, and the roots of databases.
use Rattle.std.proofs.Common.{inl, inr, ◌≡◌, ℕ, zero, suc, ◌<◌, Bool, true, false, nat_eq, List, [], ◌∷◌, length, refl, sym, ap, arith, Option, Some, None}
use Rattle.std.specs.Prelude.{take, if◌then◌else◌}
use Rattle.reaching.specs.Reaching.{IsIn}
use Rattle.heap_meaning.specs.obj_layout.declared.reference.Reference.{Reference}
use Rattle.heap_meaning.specs.Paired.{name_in}
use Rattle.heap_fit.specs.ps_heap.Tables.{Table}
use Rattle.heap_fit.specs.ps_heap.Objects.{Heap, Object, Structure, Elements, Scope, Keyed, object_at}
use Rattle.heap_fit.specs.ps_heap.Databases.{Directory, Database, database_from, database_at, every_root}
use Rattle.heap_fit.specs.ps_heap.Held.{row}
use Rattle.ps_code_laws.specs.Compiled.{compiled_object, compiled_heap}

pub name-take : (ns : List Reference) (k id : ℕ) → id < k → name_in (take k ns) id ≡ name_in ns id
name-take ns zero id low = absurd (omega (arith, low))
name-take [] (suc k) id low = refl
name-take (n ∷ ns) (suc k) zero low = refl
name-take (n ∷ ns) (suc k) (suc id) low = name-take ns k id (omega (arith, low))

-- a name of the first ones
pub take-name : (ns : List Reference) (k id : ℕ) (n : Reference) → name_in (take k ns) id ≡ Some n → (id < k) × (name_in ns id ≡ Some n)
take-name ns zero id n is = let bad : None ≡ Some n = is in absurd (cc)
take-name [] (suc k) id n is = let bad : None ≡ Some n = is in absurd (cc)
take-name (m ∷ ns) (suc k) zero n is = (omega arith, is)
take-name (m ∷ ns) (suc k) (suc id) n is = let t = take-name ns k id n is in (omega (arith, t.0), t.1)

pub name-below : (ns : List Reference) (id : ℕ) (n : Reference) → name_in ns id ≡ Some n → id < length ns
name-below [] id n is = let bad : None ≡ Some n = is in absurd (cc)
name-below (m ∷ ns) zero n is = omega arith
name-below (m ∷ ns) (suc id) n is = let low = name-below ns id n is in omega (arith, low)

pub compiled-at : (heap : Heap) (id : ℕ) (o : Object) → object_at heap id ≡ Some o → object_at (compiled_heap heap) id ≡ Some (compiled_object o)
compiled-at [] id o is = let bad : None ≡ Some o = is in absurd (cc)
compiled-at (p ∷ ps) zero o is = let same : p ≡ o = cc in ap (λ (q : Object). Some (compiled_object q)) same
compiled-at (p ∷ ps) (suc id) o is = compiled-at ps id o is

-- a table is compiled from itself
pub keyed-back : (heap : Heap) (id : ℕ) (table : Table) → object_at (compiled_heap heap) id ≡ Some (Keyed table) → object_at heap id ≡ Some (Keyed table)
keyed-back [] id table is = let bad : None ≡ Some (Keyed table) = is in absurd (cc)
keyed-back (Structure class fields ∷ ps) zero table is = absurd (cc)
keyed-back (Elements ty low elements ∷ ps) zero table is = absurd (cc)
keyed-back (Scope text parent names ∷ ps) zero table is = absurd (cc)
keyed-back (Keyed u ∷ ps) zero table is = is
keyed-back (p ∷ ps) (suc id) table is = keyed-back ps id table is

pub row-long : (f : ℕ → Option ℕ) (from n : ℕ) → length (row f from n) ≡ n
unfolding row
row-long f from zero = refl
row-long f from (suc n) = ap suc (row-long f (suc from) n)

root-from : (n : ℕ) (ds : Directory) (number : ℕ) (d : Database) → database_from n ds number ≡ Some d → IsIn d.root (every_root ds)
unfolding database_from every_root
root-from n [] number d is = let bad : None ≡ Some d = is in absurd (cc)
root-from n (e ∷ ds) number d is = by (nat_eq n number) is (λ k. root-from (suc n) ds number d k)
  where
    by : (b : Bool) → (if b then Some e else database_from (suc n) ds number) ≡ Some d → (database_from (suc n) ds number ≡ Some d → IsIn d.root (every_root ds)) → IsIn d.root (every_root (e ∷ ds))
    by true here more = let same : e ≡ d = cc in inl (ap (λ (x : Database). x.root) (sym same))
    by false there more = inr (more there)

-- the root of a database is among all roots
pub root-among : (directory : Directory) (number : ℕ) (d : Database) → database_at directory number ≡ Some d → IsIn d.root (every_root directory)
unfolding database_at
root-among directory number d is = root-from 1 directory number d is
