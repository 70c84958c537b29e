-- A space without a directory stands for the heaps without a database, and for no other.
use Rattle.std.proofs.Common.{◌≡◌, ℕ, List, [], ◌∷◌, length, refl, sym, ap, subst, arith}
use Rattle.std.specs.List.{AllByRecursion}
use Rattle.heap_meaning.specs.obj_layout.declared.reference.Reference.{Reference}
use Rattle.heap_meaning.specs.obj_layout.declared.reference.Reference.TheVariants.{Pid}
use Rattle.heap_meaning.specs.obj_layout.Objects.{Placed, HoldsObjects}
use Rattle.heap_meaning.specs.obj_layout.Stored.{Space}
use Rattle.heap_meaning.proofs.of_obj_layout.StoredLaws.{HasObject-within}
use Rattle.heap_meaning.specs.Paired.{paired}
use Rattle.heap_fit.specs.ps_heap.Databases.{Database, every_root}
use Rattle.heap_fit.specs.ps_heap.Held.{StoredHeap}
use Rattle.heap_fit.specs.database_meaning.Same.{IsInHeap}
use Rattle.heap_fit.specs.ps_heap.reaching.Reaching.{IsIn, at_start, by_step}
use Rattle.heap_fit.specs.Heaps.{IsFitDatabase, AreNamedOnce, IsFitHeap}
use Rattle.space_meaning.specs.Space.{SeenIn}
use Rattle.space_meaning.specs.Stands.{IsDirectoryOf, SpaceStands}

-- where there is no database nothing is reached, so the heap is fit
none-reached : (heap : StoredHeap) (id : ℕ) → heap.directory ≡ [] → IsInHeap heap id → ⊥
unfolding every_root
none-reached heap id none (at_start x is u) = subst (λ ds. IsIn id (every_root ds)) none is
none-reached heap id none (by_step x y before is u) = none-reached heap x none before

fit-without : (heap : StoredHeap) → heap.directory ≡ [] → IsFitHeap heap
fit-without heap none = record {
  few = omega (arith, ap length none);
  databases = subst (AllByRecursion (IsFitDatabase heap.objects)) (sym none) tt;
  once = subst AreNamedOnce (sym none) tt;
  each = λ id there. absurd (none-reached heap id none there);
}

pub stands-without : (space : Space) (objects : List Placed) (heap : StoredHeap) → HoldsObjects space.words objects → space.directory ≡ 0
    → heap.directory ≡ [] → SpaceStands space heap
stands-without space objects heap cut no_directory no_database = record {
  fit = fit-without heap no_database;
  objects = objects;
  cut = cut;
  names = [];
  stands = record {
    directory = subst (λ (ds : List Database). IsDirectoryOf (SeenIn space) (paired []) space.directory ds) (sym no_database) no_directory;
    both = λ pid id p. absurd (cc);
    one_number = λ pid i j p q. absurd (cc);
    tables = record {
      nodes = λ id. [];
      each = λ n id table p is. absurd (none_named n id p.0);
      are_nodes = λ id n a. absurd a;
      apart = λ i j n a b. absurd a;
    };
    plain = λ pid id entries p is n it a there. absurd a;
  };
}
  where
    none_named : (n : Reference) (id : ℕ) → paired [] n id → ⊥
    none_named n id p = cc

no-database : (space : Space) (names : List Reference) (databases : List Database) → space.directory ≡ 0
    → IsDirectoryOf (SeenIn space) (paired names) space.directory databases → databases ≡ []
no-database space names [] none is = refl
no-database space names (d ∷ ds) none is =
    let low = (HasObject-within space is.there.pid is.there.words is.there.there).low in
    let same : Pid space.directory ≡ Pid is.there.pid = is.there.name_is in
    let pid : space.directory ≡ is.there.pid = cc in
    absurd (omega arith)

pub none-without : (space : Space) (heap : StoredHeap) → space.directory ≡ 0 → SpaceStands space heap → heap.directory ≡ []
none-without space heap none s = no-database space s.names heap.directory none s.stands.directory
