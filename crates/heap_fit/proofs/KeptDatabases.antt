-- What a run keeps of its databases: its start, and where objects change.
use Rattle.std.proofs.Common.{inl, inr, ◌≡◌, ℕ, ◌<◌, ◌≤◌, List, [], ◌∷◌, ◌++◌, length, set, refl, sym, ap, ◌∙◌, subst, arith, Option, Some, None}
use Rattle.std.specs.List.{AllByRecursion}
use Rattle.std.proofs.lemmas.Bool.{cases_eq}
use Rattle.reaching.proofs.Lists.{is_in-in}
use Rattle.ps_heap.specs.Values.{Value, Pointer, Routine}
use Rattle.ps_heap.specs.Texts.{Attempt, Yields, Fails}
use Rattle.ps_heap.specs.Tables.{Key, Table, on_yield, entered, looked_up}
use Rattle.ps_heap.specs.Objects.{Object, Structure, Elements, Scope, Keyed, Heap, object_at, table_of, object_of_value}
use Rattle.ps_heap.specs.References.{with_part, value_ids, object_ids, next_in}
use Rattle.ps_heap.specs.ps_base.Limits.{most_databases}
use Rattle.ps_heap.specs.Databases.{Database, Directory, database_at, root_of, every_root}
use Rattle.ps_heap.specs.Held.{Held, Reply, StoredHeap, nothing_stored, home_at, home_if, reached_from_roots, started, counting, with_object, put_part, assigned_part, touching}
use Rattle.ps_heap.specs.Calls.{then_try, table_put, enter_call, directory_known, asks_to_create, asks_to_open}
use Rattle.ps_heap.specs.reaching.Reaching.{IsIn, is_in, at_start, by_step}
use Rattle.database_meaning.specs.Same.{IsInHeap}
use Rattle.database_meaning.specs.Sound.{AreThere, IsRight}
use Rattle.database_meaning.specs.Laws.{RefersThere}
use Rattle.database_meaning.proofs.CommitLaws.{row-at, row-below}
use Rattle.database_meaning.proofs.KeptLaws.{home-if, object-low, object-set, object-other, start-right, made-right, assigned-right, touching-right}
use Rattle.database_meaning.proofs.CallLaws.{table-at, counting-right, enter-right, asks_create-right, asks_open-right}
use Rattle.database_meaning.proofs.GrownPairs.{there-object}
use Rattle.database_meaning.proofs.SameStarts.{reached-heap, home-kept}
use Rattle.heap_fit.specs.Heaps.{IsFitDatabase, AreNamedOnce, IsFitHeap}
use Rattle.heap_fit.specs.Kept.{IsNumber, AreFitDatabases, KeepsDatabases}

-- What is a table stays one.
abbrev pub TablesStay : Heap → Heap → Type 0
TablesStay old new = (id : ℕ) (t : Table) → object_at old id ≡ Some (Keyed t) → (u : Table) × (object_at new id ≡ Some (Keyed u))

database-stays : (old new : Heap) → TablesStay old new → (d : Database) → IsFitDatabase old d → IsFitDatabase new d
database-stays old new stay d f = let now = stay d.root f.table f.root in record { named = f.named; name = f.name; password = f.password; table = now.0; root = now.1 }

pub databases-stay : (old new : Heap) → TablesStay old new → (ds : Directory) → AllByRecursion (IsFitDatabase old) ds → AllByRecursion (IsFitDatabase new) ds
databases-stay old new stay [] are = tt
databases-stay old new stay (d ∷ ds) are = (database-stays old new stay d are.0, databases-stay old new stay ds are.1)

-- where only objects, assigned places and what is counted differ
pub keeps-on : (h new : Held) → KeepsDatabases h → IsRight new → TablesStay h.objects new.objects → new.directory ≡ h.directory → new.homes ≡ h.homes → new.openings ≡ h.openings
    → new.created ≡ h.created → KeepsDatabases new
keeps-on h new k right stay directory homes openings created = record {
  right = right;
  few = subst (λ ds. length ds ≤ most_databases) (sym directory) k.few;
  databases = subst (AllByRecursion (IsFitDatabase new.objects)) (sym directory) (databases-stay h.objects new.objects stay h.directory k.databases);
  once = subst AreNamedOnce (sym directory) k.once;
  homes = λ id n e. subst (λ ds. IsNumber ds n) (sym directory) (k.homes id n (sym (ap (λ hs. home_at hs id) homes) ∙ e));
  openings = subst (λ ds. AllByRecursion (λ opening. IsNumber ds opening.number) new.openings) (sym directory)
      (subst (AllByRecursion (λ opening. IsNumber h.directory opening.number)) (sym openings) k.openings);
  created = subst (λ ds. AllByRecursion (IsNumber ds) new.created) (sym directory) (subst (AllByRecursion (IsNumber h.directory)) (sym created) k.created);
  roots = λ root l. elim (k.roots root (subst (λ ds. IsIn root (every_root ds)) directory l)) [
    | inl c ↦ inl (c.0, ap (λ hs. home_at hs root) homes ∙ c.1)
    | inr n ↦ inr (n.0, subst (IsIn n.0) (sym created) n.1, subst (λ ds. IsIn root (root_of (database_at ds n.0))) (sym directory) n.2)
  ];
}

-- The start.

module _ (weigh : Routine → ℕ) (replies : List Reply) (counted : ℕ) (stored : StoredHeap) (fit : AreFitDatabases stored) (there : AreThere stored.objects) where
  all-there : (id : ℕ) → IsInHeap stored id → id < length stored.objects
  all-there id r = (fit.homed id r).there

  start-homes : (id n : ℕ) → home_at (started weigh replies counted stored).homes id ≡ Some n → IsNumber stored.directory n
  start-homes id n e =
      let l = row-below (λ k. home_if (is_in k (reached_from_roots stored)) (home_at stored.homes k)) 0 (length stored.objects) id n e in
      let here = row-at (λ k. home_if (is_in k (reached_from_roots stored)) (home_at stored.homes k)) 0 (length stored.objects) id l
      ∙ ap (λ k. home_if (is_in k (reached_from_roots stored)) (home_at stored.homes k)) (omega arith) in
      let is = home-if (is_in id (reached_from_roots stored)) (home_at stored.homes id) n (sym here ∙ e) in
      let at = fit.homed id (reached-heap stored id (is_in-in id (reached_from_roots stored) is.0)) in
      let same : at.home ≡ n = some_same (sym at.home_is ∙ is.1) in
      subst (IsNumber stored.directory) same at.number
    where
      some_same : {x y : ℕ} → Some x ≡ Some y → x ≡ y
      some_same e = cc

  pub start-keeps : KeepsDatabases (started weigh replies counted stored)
  start-keeps = record {
    right = start-right weigh replies counted stored there (λ id l. let at = fit.homed id (reached-heap stored id l) in (at.home, at.home_is));
    few = fit.few;
    databases = fit.databases;
    once = fit.once;
    homes = start-homes;
    openings = tt;
    created = tt;
    roots = λ root l. let r : IsInHeap stored root = at_start root l tt in let at = fit.homed root r in inl (at.home, home-kept stored all-there root r ∙ at.home_is);
  }

-- Objects.

pub low-stay : (heap : Heap) (o : Object) → TablesStay heap (heap ++ o ∷ [])
low-stay heap o id t e = (t, object-low heap o id (there-object heap id (Keyed t) e) ∙ e)

pub makes-keeps : (o : Object) (h : Held) → KeepsDatabases h → RefersThere h (object_ids (Some o)) → KeepsDatabases (with_object o h)
makes-keeps o h k low = keeps-on h (with_object o h) k (made-right o h k.right low) (low-stay h.objects o) refl refl refl refl

pub stay-self : (heap : Heap) → TablesStay heap heap
stay-self heap id t e = (t, e)

pub counts-keeps : (bytes : ℕ) (h : Held) → KeepsDatabases h → KeepsDatabases (counting bytes h)
counts-keeps bytes h k = keeps-on h (counting bytes h) k (counting-right bytes h k.right) (stay-self h.objects) refl refl refl refl

pub touches-keeps : (ids : List ℕ) (h : Held) → KeepsDatabases h → KeepsDatabases (touching ids h)
touches-keeps ids h k = keeps-on h (touching ids h) k (touching-right ids h k.right) (stay-self h.objects) refl refl refl refl

-- an object that is no table, or another table, stands in the place of one that is there
set-stay : (heap : Heap) (id : ℕ) (was now : Object) → object_at heap id ≡ Some was → ((t : Table) → was ≡ Keyed t → (u : Table) × (now ≡ Keyed u)) → TablesStay heap (set heap id now)
set-stay heap id was now is same x t e = elim (cases_eq x id) [
  | inl one ↦
      let table = same t (some_same (sym is ∙ (ap (object_at heap) (sym one) ∙ e))) in
      (table.0, ap (object_at (set heap id now)) one ∙ (object-set heap id was now is ∙ ap Some table.1))
  | inr apart ↦ (t, object-other heap id x now apart ∙ e)
]
  where
    some_same : {a b : Object} → Some a ≡ Some b → a ≡ b
    some_same e = cc

part-table : (o : Object) (n : ℕ) (v : Value) (t : Table) → o ≡ Keyed t → (u : Table) × (with_part o n v ≡ Keyed u)
part-table (Structure class fields) n v t e = absurd (cc)
part-table (Elements ty low elements) n v t e = absurd (cc)
part-table (Scope text parent names) n v t e = absurd (cc)
part-table (Keyed table) n v t e = (table, refl)

put-stay : (heap : Heap) (id n : ℕ) (v : Value) → TablesStay heap (put_part (object_at heap id) id n v heap)
put-stay heap id n v = go (object_at heap id) refl
  where
    go : (o : Option Object) → object_at heap id ≡ o → TablesStay heap (put_part o id n v heap)
    go None e = stay-self heap
    go (Some o) e = set-stay heap id o (with_part o n v) e (part-table o n v)

pub assigns-keeps : (id n : ℕ) (v : Value) (h : Held) → KeepsDatabases h → RefersThere h (value_ids v) → KeepsDatabases (assigned_part id n v h)
assigns-keeps id n v h k low = keeps-on h (assigned_part id n v h) k (assigned-right id n v h k.right low) (put-stay h.objects id n v) refl refl refl refl

-- Entering.

pub record IsEntered (key : Key) (table v : Value) (h new : Held) : Type 0 where
  pub id : ℕ
  pub old : Table
  pub now : Table
  pub before : Option ℕ
  pub there : object_at h.objects id ≡ Some (Keyed old)
  pub is : new ≡ table_put (Pointer id) key before (object_of_value v) now h

pub entered-is : (key : Key) (table v : Value) (h new : Held) → enter_call key table v h ≡ Yields new → IsEntered key table v h new
unfolding enter_call
entered-is key table v h new e = first (table_of h.objects table) refl e
  where
    yielded : {a b : Held} → Yields a ≡ Yields b → a ≡ b
    yielded e = cc

    third : (t : Table) (before : Option ℕ) (c : Attempt Table) → table_of h.objects table ≡ Yields t
        → on_yield c (λ n. table_put table key before (object_of_value v) n h) ≡ Yields new → IsEntered key table v h new
    third t before (Yields n) is e =
        let at = table-at h.objects table t is in
        record {
          id = at.id;
          old = t;
          now = n;
          before = before;
          there = at.there;
          is = sym (yielded e) ∙ ap (λ w. table_put w key before (object_of_value v) n h) at.v_is;
        }
    third t before (Fails trap) is e = absurd (cc)

    second : (t : Table) (b : Attempt (Option ℕ)) → table_of h.objects table ≡ Yields t
        → then_try b (λ before. on_yield (entered key (object_of_value v) t) (λ n. table_put table key before (object_of_value v) n h)) ≡ Yields new → IsEntered key table v h new
    second t (Yields before) is e = third t before (entered key (object_of_value v) t) is e
    second t (Fails trap) is e = absurd (cc)

    first : (a : Attempt Table) → table_of h.objects table ≡ a
        → then_try a (λ t. then_try (looked_up key t) (λ before. on_yield (entered key (object_of_value v) t) (λ n. table_put table key before (object_of_value v) n h))) ≡ Yields new
        → IsEntered key table v h new
    first (Yields t) is e = second t (looked_up key t) is e
    first (Fails trap) is e = absurd (cc)

pub enters-keeps : (key : Key) (table v : Value) (h new : Held) → KeepsDatabases h → RefersThere h (value_ids v) → enter_call key table v h ≡ Yields new → KeepsDatabases new
enters-keeps key table v h new k low e =
    let it = entered-is key table v h new e in
    keeps-on h new k (enter-right key table v h new k.right low e)
    (subst (λ n. TablesStay h.objects n.objects) (sym it.is) (set-stay h.objects it.id (Keyed it.old) (Keyed it.now) it.there (λ t same. (it.now, refl))))
    (ap (λ n. n.directory) it.is) (ap (λ n. n.homes) it.is) (ap (λ n. n.openings) it.is) (ap (λ n. n.created) it.is)

-- Asking.

pub asks_create-keeps : (name : List ℕ) (h : Held) → KeepsDatabases h → KeepsDatabases (asks_to_create name h).held
unfolding asks_to_create
asks_create-keeps name h k = keeps-on h (counting 64 (directory_known h)) k (asks_create-right name h k.right) (stay-self h.objects) refl refl refl refl

pub asks_open-keeps : (name mode : List ℕ) (h : Held) → KeepsDatabases h → KeepsDatabases (asks_to_open name mode h).held
unfolding asks_to_open
asks_open-keeps name mode h k = keeps-on h (directory_known h) k (asks_open-right name mode h k.right) (stay-self h.objects) refl refl refl refl

-- Fit heaps.

nothing-reached : (id : ℕ) → IsInHeap nothing_stored id → ⊥
unfolding every_root next_in
nothing-reached id (at_start x is u) = absurd is
nothing-reached id (by_step x y before goes u) = absurd (nothing-reached x before)

pub nothing-fit : IsFitHeap nothing_stored
nothing-fit = record { few = omega arith; databases = tt; once = tt; each = λ id r. absurd (nothing-reached id r) }

pub fit-databases : (stored : StoredHeap) → IsFitHeap stored → AreFitDatabases stored
fit-databases stored fit = record {
  few = fit.few;
  databases = fit.databases;
  once = fit.once;
  homed = λ id r.
      let at = fit.each id r in
      record { there = there-object stored.objects id at.object at.is; home = at.home; home_is = at.home_is; number = (at.first, at.last) };
}
