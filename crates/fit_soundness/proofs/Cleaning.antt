-- A heap without what no root reaches is the same but for ids, which stay.
use Rattle.std.proofs.Common.{inl, inr, ◌⊎◌, ◌≡◌, ℕ, zero, suc, ◌+◌, ◌<◌, Bool, true, false, [], ◌∷◌, length, refl, sym, ap, ◌∙◌, subst, arith, Option, Some, None}
use Rattle.std.specs.List.{AllByRecursion}
use Rattle.reaching.specs.Reaching.{IsIn, is_in, at_start}
use Rattle.reaching.proofs.Lists.{is_in-in, in-is_in}
use Rattle.ps_heap.specs.Objects.{Heap, Object, Keyed, object_at}
use Rattle.ps_heap.specs.Tables.{without_keys}
use Rattle.ps_heap.specs.References.{object_ids, next_in}
use Rattle.ps_heap.specs.Databases.{Directory, every_root}
use Rattle.ps_heap.specs.Held.{StoredHeap, row, reached_from_roots}
use Rattle.database_meaning.specs.Same.{IsInHeap, IsSame}
use Rattle.database_meaning.specs.SameRuns.{IsAllThere}
use Rattle.database_meaning.specs.Sound.{AreThere}
use Rattle.database_meaning.proofs.RenamedObjects.{object-kept, databases-kept}
use Rattle.database_meaning.proofs.SameStarts.{reached-heap, heap-reached}
use Rattle.database_meaning.proofs.GrownPairs.{there-object}
use Rattle.heap_fit.proofs.Mentioned.{referred}
use Rattle.heap_fit.specs.Heaps.{IsFitDatabase, IsFitHeap}
use Rattle.heap_fit.specs.Kept.{AreFitDatabases}
use Rattle.database_meaning.proofs.SameLaws.{reached-from}
use Rattle.fit_soundness.specs.Cleaned.{if_reached, cleaned}

row_at : (f : ℕ → Object) (from n id : ℕ) → id < n → object_at (row f from n) id ≡ Some (f (from + id))
unfolding row
row_at f from zero id l = absurd (omega (arith, l))
row_at f from (suc n) zero l = ap (λ (k : ℕ). Some (f k)) (omega arith)
row_at f from (suc n) (suc id) l = row_at f (suc from) n id (omega (arith, l)) ∙ ap (λ (k : ℕ). Some (f k)) (omega arith)

row_long : (f : ℕ → Object) (from n : ℕ) → length (row f from n) ≡ n
unfolding row
row_long f from zero = refl
row_long f from (suc n) = ap suc (row_long f (suc from) n)

pub cleaned_long : (stored : StoredHeap) → length (cleaned stored).objects ≡ length stored.objects
cleaned_long stored = row_long (λ id. if_reached (is_in id (reached_from_roots stored)) (object_at stored.objects id)) 0 (length stored.objects)

pub cleaned_at : (stored : StoredHeap) (id : ℕ) → id < length stored.objects →
    object_at (cleaned stored).objects id ≡ Some (if_reached (is_in id (reached_from_roots stored)) (object_at stored.objects id))
cleaned_at stored id l =
    row_at (λ k. if_reached (is_in k (reached_from_roots stored)) (object_at stored.objects k)) 0 (length stored.objects) id l
    ∙ ap (λ (k : ℕ). Some (if_reached (is_in k (reached_from_roots stored)) (object_at stored.objects k))) (omega arith)

-- what is reached is as it was
pub all_there : (stored : StoredHeap) → IsFitHeap stored → IsAllThere stored
all_there stored fit id r = let at = fit.each id r in there-object stored.objects id at.object at.is

pub cleaned_same : (stored : StoredHeap) → IsFitHeap stored → (id : ℕ) → IsInHeap stored id → object_at (cleaned stored).objects id ≡ object_at stored.objects id
cleaned_same stored fit id r =
    let at = fit.each id r in
    cleaned_at stored id (all_there stored fit id r)
    ∙ ap (λ (b : Bool). Some (if_reached b (object_at stored.objects id))) (in-is_in id (reached_from_roots stored) (heap-reached stored (all_there stored fit) id r))
    ∙ ap (λ (o : Option Object). Some (if_reached true o)) at.is ∙ sym at.is

pub same_cleaned : (stored : StoredHeap) → IsFitHeap stored → IsSame stored (cleaned stored)
same_cleaned stored fit = record {
  new = λ x. x;
  back = λ x. x;
  databases = sym (databases-kept (λ x. x) stored.directory (λ x l. refl));
  one = λ id l. refl;
  objects = λ id l. cleaned_same stored fit id l ∙ sym (object-kept (λ x. x) (object_at stored.objects id) (λ x m. refl));
  homes = λ id l. refl;
}

pub reached_too : (stored : StoredHeap) → IsFitHeap stored → (id : ℕ) → IsInHeap (cleaned stored) id → IsInHeap stored id
unfolding same_cleaned
reached_too stored fit id r =
    let f = reached-from stored (cleaned stored) (same_cleaned stored fit) id r in subst (IsInHeap stored) (sym f.is) f.there

-- An object is one that is reached, or an empty table.

some_same : {A : Type 0} {x y : A} → Some x ≡ Some y → x ≡ y
some_same e = cc

pub cleaned_object : (stored : StoredHeap) → IsFitHeap stored → (id : ℕ) (o : Object) → object_at (cleaned stored).objects id ≡ Some o →
    (IsInHeap stored id × (object_at stored.objects id ≡ Some o)) ⊎ (o ≡ Keyed without_keys)
cleaned_object stored fit id o e = go (is_in id (reached_from_roots stored)) refl
  where
    low : id < length stored.objects
    low = subst (λ n. id < n) (cleaned_long stored) (there-object (cleaned stored).objects id o e)

    go : (b : Bool) → is_in id (reached_from_roots stored) ≡ b → (IsInHeap stored id × (object_at stored.objects id ≡ Some o)) ⊎ (o ≡ Keyed without_keys)
    go true is = let r = reached-heap stored id (is_in-in id (reached_from_roots stored) is) in inl (r, sym (cleaned_same stored fit id r) ∙ e)
    go false is = inr (some_same (sym e ∙ (cleaned_at stored id low ∙ ap (λ (b : Bool). Some (if_reached b (object_at stored.objects id))) is)))

-- each reference is to an object that is there
pub cleaned_there : (stored : StoredHeap) → IsFitHeap stored → AreThere (cleaned stored).objects
unfolding next_in
cleaned_there stored fit x y l = go (object_at (cleaned stored).objects x) refl
  where
    none_there : (o : Object) → o ≡ Keyed without_keys → IsIn y (object_ids (Some o)) → ⊥
    none_there o e m = subst (λ (p : Object). IsIn y (object_ids (Some p))) e m

    go : (found : Option Object) → object_at (cleaned stored).objects x ≡ found → y < length (cleaned stored).objects
    go None e = absurd (subst (λ (k : Option Object). IsIn y (object_ids k)) e l)
    go (Some o) e =
        let m = subst (λ (k : Option Object). IsIn y (object_ids k)) e l in
        elim (cleaned_object stored fit x o e) [
          | inl at ↦ subst (λ n. y < n) (sym (cleaned_long stored)) (all_there stored fit y (referred stored x o at.0 at.1 y m))
          | inr empty ↦ absurd (none_there o empty m)
        ]

-- Its databases are fit.
databases_too : (stored : StoredHeap) (objects : Heap) (ds : Directory) → ((x : ℕ) → IsIn x (every_root ds) → object_at objects x ≡ object_at stored.objects x) →
    AllByRecursion (IsFitDatabase stored.objects) ds → AllByRecursion (IsFitDatabase objects) ds
unfolding every_root
databases_too stored objects [] same f = tt
databases_too stored objects (d ∷ ds) same f = (
  record { named = f.0.named; name = f.0.name; password = f.0.password; table = f.0.table; root = same d.root (inl refl) ∙ f.0.root },
  databases_too stored objects ds (λ x l. same x (inr l)) f.1,
)

pub cleaned_databases : (stored : StoredHeap) → IsFitHeap stored → AreFitDatabases (cleaned stored)
cleaned_databases stored fit = record {
  few = fit.few;
  databases = databases_too stored (cleaned stored).objects stored.directory (λ x l. cleaned_same stored fit x (at_start x l tt)) fit.databases;
  once = fit.once;
  homed = λ id r.
      let old = reached_too stored fit id r in
      let at = fit.each id old in
      record {
        there = subst (λ n. id < n) (sym (cleaned_long stored)) (all_there stored fit id old);
        home = at.home;
        home_is = at.home_is;
        number = (at.first, at.last);
      };
}
