-- A space that stands for a heap stands for each that is the same but for ids: the row of names is put in the order of the other ids.
use Rattle.std.proofs.Common.{◌≡◌, inl, inr, ℕ, ℤ, zero, suc, ◌+◌, ◌<◌, Bool, true, false, nat_eq, List, [], ◌∷◌, length, map, refl, sym, ◌∙◌, ap, subst, arith, Option, Some, None}
use Rattle.std.specs.Prelude.{if◌then◌else◌, max}
use Rattle.std.specs.Option.{option_map}
use Rattle.std.proofs.lemmas.Bool.{eq-eqb, eqb-true, eqb-false}
use Rattle.reaching.specs.Reaching.{IsIn, at_start, by_step, ReachedIn, reach}
use Rattle.reaching.proofs.WalkLaws.{least-in, in-least}
use Rattle.heap_meaning.specs.obj_layout.declared.reference.Reference.{Reference}
use Rattle.heap_meaning.specs.obj_layout.declared.reference.Reference.TheVariants.{Nil, Pid}
use Rattle.heap_meaning.specs.obj_layout.Stored.{Space}
use Rattle.heap_meaning.specs.node_rows.Nodes.{IsAmong}
use Rattle.heap_meaning.specs.Tables.{IsTable}
use Rattle.heap_meaning.specs.Standing.{Seen, Pairing}
use Rattle.heap_meaning.specs.Paired.{name_in, paired}
use Rattle.heap_fit.specs.ps_heap.Objects.{Heap, Object, Structure, Elements, Scope, Keyed, object_at}
use Rattle.heap_fit.specs.ps_heap.Tables.{Entry, Table, without_keys, by_strings, by_ints}
use Rattle.heap_fit.specs.ps_heap.References.{next_in}
use Rattle.heap_fit.specs.ps_heap.Databases.{Database, every_root}
use Rattle.heap_fit.specs.ps_heap.Held.{StoredHeap, home_at}
use Rattle.heap_fit.specs.database_meaning.Same.{renamed, renamed_table, renamed_database, IsInHeap, IsSame}
use Rattle.heap_fit.specs.Heaps.{IsFitHeap}
use Rattle.space_meaning.specs.Space.{SeenIn}
use Rattle.space_meaning.specs.Stands.{IsHome, Both, AreNamed, IsDirectoryOf, stored, HaveNoKeyTexts, StandsUnder, SpaceStands}
use Rattle.heap_fit.proofs.Mentioned.{referred}
use Rattle.fit_soundness.proofs.FitSame.{fit-same}
use Rattle.space_meaning.proofs.Renamed.{Carries, thing-renamed, table-renamed}

-- All that is reached is listed, where the heap is fit: what is reached is there.

abbrev ids_below : ℕ → List ℕ
ids_below zero = []
ids_below (suc n) = n ∷ ids_below n

among-below : (id n : ℕ) → id < n → IsIn id (ids_below n)
among-below id zero low = absurd (omega arith)
among-below id (suc n) low = by (nat_eq id n) refl (λ less. among-below id n less)
  where
    by : (b : Bool) → nat_eq id n ≡ b → (id < n → IsIn id (ids_below n)) → IsIn id (ids_below (suc n))
    by true is more = inl (eqb-true id n is)
    by false is more = let other = eqb-false id n is in inr (more (omega arith))

there-below : (heap : Heap) (id : ℕ) (o : Object) → object_at heap id ≡ Some o → id < length heap
there-below [] id o is = absurd (cc)
there-below (p ∷ ps) zero o is = omega arith
there-below (p ∷ ps) (suc id) o is = let low = there-below ps id o is in omega arith

pub listed : StoredHeap → List ℕ
listed heap = reach (next_in heap.objects) (ids_below (length heap.objects)) (every_root heap.directory)

reached-among : (heap : StoredHeap) → IsFitHeap heap → (id : ℕ) → IsInHeap heap id
    → ReachedIn (next_in heap.objects) (ids_below (length heap.objects)) (every_root heap.directory) id
reached-among heap fit id (at_start x is u) =
    let at = fit.each id (at_start x is u) in at_start id is (among-below id (length heap.objects) (there-below heap.objects id at.object at.is))
reached-among heap fit id (by_step x y before goes u) =
    let at = fit.each id (by_step x y before goes u) in
    by_step x id (reached-among heap fit x before) goes (among-below id (length heap.objects) (there-below heap.objects id at.object at.is))

among-reached : (heap : StoredHeap) (id : ℕ) → ReachedIn (next_in heap.objects) (ids_below (length heap.objects)) (every_root heap.directory) id → IsInHeap heap id
among-reached heap id (at_start x is u) = at_start id is tt
among-reached heap id (by_step x y before goes u) = by_step x id (among-reached heap x before) goes tt

in-listed : (heap : StoredHeap) → IsFitHeap heap → (id : ℕ) → IsInHeap heap id → IsIn id (listed heap)
unfolding listed
in-listed heap fit id there =
    in-least (next_in heap.objects) (ids_below (length heap.objects)) (every_root heap.directory) id (reached-among heap fit id there)

listed-in : (heap : StoredHeap) (id : ℕ) → IsIn id (listed heap) → IsInHeap heap id
unfolding listed
listed-in heap id l = among-reached heap id (least-in (next_in heap.objects) (ids_below (length heap.objects)) (every_root heap.directory) id l)

-- The name under another id: that of the first listed id of which it is the new one.

abbrev or_nil : Option Reference → Reference
or_nil None = Nil
or_nil (Some n) = n

abbrev found : (ℕ → ℕ) → List Reference → List ℕ → ℕ → Reference
found new names [] j = Nil
found new names (x ∷ xs) j = if nat_eq (new x) j then or_nil (name_in names x) else found new names xs j

-- a listed id of which this is the new one, with its name
record Old (new : ℕ → ℕ) (names : List Reference) (xs : List ℕ) (j pid : ℕ) : Type 0 where
  old : ℕ
  among : IsIn old xs
  is_new : new old ≡ j
  named : paired names (Pid pid) old

or-nil-named : (o : Option Reference) (pid : ℕ) → or_nil o ≡ Pid pid → o ≡ Some (Pid pid)
or-nil-named None pid is = absurd (cc)
or-nil-named (Some n) pid is = ap (λ (m : Reference). Some m) is

found-old : (new : ℕ → ℕ) (names : List Reference) (xs : List ℕ) (j pid : ℕ) → found new names xs j ≡ Pid pid → Old new names xs j pid
found-old new names [] j pid is = absurd (cc)
found-old new names (x ∷ xs) j pid is = by (nat_eq (new x) j) refl is (λ n. found-old new names xs j pid n)
  where
    by : (b : Bool) → nat_eq (new x) j ≡ b → (if b then or_nil (name_in names x) else found new names xs j) ≡ Pid pid
        → (found new names xs j ≡ Pid pid → Old new names xs j pid) → Old new names (x ∷ xs) j pid
    by true same n more = record { old = x; among = inl refl; is_new = eqb-true (new x) j same; named = or-nil-named (name_in names x) pid n }
    by false other n more =
        let o = more n in record { old = o.old; among = inr o.among; is_new = o.is_new; named = o.named }

-- no two of these have one new id
abbrev ArePartedBy : (ℕ → ℕ) → List ℕ → Type 0
ArePartedBy new xs = (x y : ℕ) → IsIn x xs → IsIn y xs → new x ≡ new y → x ≡ y

found-new : (new : ℕ → ℕ) (names : List Reference) (xs : List ℕ) (x : ℕ) (n : Reference) → ArePartedBy new xs → IsIn x xs → paired names n x
    → found new names xs (new x) ≡ n
found-new new names [] x n parted l p = absurd l
found-new new names (y ∷ ys) x n parted l p =
    by (nat_eq (new y) (new x)) refl (λ more. found-new new names ys x n (λ v w i k. parted v w (inr i) (inr k)) more p)
  where
    by : (b : Bool) → nat_eq (new y) (new x) ≡ b → (IsIn x ys → found new names ys (new x) ≡ n) → (if b then or_nil (name_in names y) else found new names ys (new x)) ≡ n
    by true same rest = ap or_nil (ap (name_in names) (parted y x (inl refl) l (eqb-true (new y) (new x) same)) ∙ p)
    by false other rest = elim l [
      | inl is ↦ absurd (eqb-false (new y) (new x) other (ap new (sym is)))
      | inr more ↦ rest more
    ]

-- The row of these names, from an id on.

row : (ℕ → Reference) → ℕ → ℕ → List Reference
row name from zero = []
row name from (suc count) = name from ∷ row name (from + 1) count

row-at : (name : ℕ → Reference) (from count j : ℕ) → j < count → name_in (row name from count) j ≡ Some (name (from + j))
unfolding row
row-at name from zero j low = absurd (omega arith)
row-at name from (suc count) zero low = ap (λ (k : ℕ). Some (name k)) (omega arith)
row-at name from (suc count) (suc j) low =
    let below : j < count = omega arith in
    let next : from + 1 + j ≡ from + suc j = omega arith in
    row-at name (from + 1) count j below ∙ ap (λ (k : ℕ). Some (name k)) next

row-only : (name : ℕ → Reference) (from count j : ℕ) (n : Reference) → name_in (row name from count) j ≡ Some n → name (from + j) ≡ n
unfolding row
row-only name from zero j n is = absurd (cc)
row-only name from (suc count) zero n is = let e : name from ≡ n = cc in ap name (omega arith) ∙ e
row-only name from (suc count) (suc j) n is =
    let next : from + suc j ≡ from + 1 + j = omega arith in
    ap name next ∙ row-only name (from + 1) count j n is

-- as many as there are ids up to the last new one
abbrev count_to : (ℕ → ℕ) → List ℕ → ℕ
count_to new [] = 0
count_to new (x ∷ xs) = max (new x + 1) (count_to new xs)

new-below : (new : ℕ → ℕ) (xs : List ℕ) (x : ℕ) → IsIn x xs → new x < count_to new xs
new-below new [] x l = absurd l
new-below new (y ∷ ys) x (inl is) = let e : new x ≡ new y = ap new is in omega arith
new-below new (y ∷ ys) x (inr l) = let low = new-below new ys x l in omega arith

pub names_new : (ℕ → ℕ) → List Reference → List ℕ → List Reference
names_new new names xs = row (found new names xs) 0 (count_to new xs)

pairs-on : (new : ℕ → ℕ) (names : List Reference) (xs : List ℕ) → ArePartedBy new xs → Carries (paired names) (paired (names_new new names xs)) new xs
unfolding names_new
pairs-on new names xs parted n x l p =
    row-at (found new names xs) 0 (count_to new xs) (new x) (new-below new xs x l)
    ∙ ap (λ (m : Reference). Some m) (ap (found new names xs) (omega arith) ∙ found-new new names xs x n parted l p)

pairs-back : (new : ℕ → ℕ) (names : List Reference) (xs : List ℕ) (j pid : ℕ) → paired (names_new new names xs) (Pid pid) j → Old new names xs j pid
unfolding names_new
pairs-back new names xs j pid p =
    let e : found new names xs (0 + j) ≡ Pid pid = row-only (found new names xs) 0 (count_to new xs) j (Pid pid) p in
    found-old new names xs j pid (ap (found new names xs) (omega arith) ∙ e)

-- The directory.

named-renamed : (seen : Seen) (pair now : Pairing) (new : ℕ → ℕ) (refs : List Reference) (ds : List Database) → Carries pair now new (every_root ds)
    → AreNamed seen pair refs ds → AreNamed seen now refs (map (renamed_database new) ds)
unfolding every_root
named-renamed seen pair now new (name ∷ password ∷ root ∷ more) (d ∷ ds) c s =
    (s.0, s.1, (c root d.root (inl refl) s.2.0, s.2.1), named-renamed seen pair now new more ds (λ n id l. c n id (inr l)) s.3)
named-renamed seen pair now new [] [] c s = tt
named-renamed seen pair now new [] (d ∷ ds) c s = absurd s
named-renamed seen pair now new (name ∷ []) ds c s = absurd s
named-renamed seen pair now new (name ∷ password ∷ []) ds c s = absurd s
named-renamed seen pair now new (name ∷ password ∷ root ∷ more) [] c s = absurd s

directory-renamed : (seen : Seen) (pair now : Pairing) (new : ℕ → ℕ) (pid : ℕ) (ds : List Database) → Carries pair now new (every_root ds)
    → IsDirectoryOf seen pair pid ds → IsDirectoryOf seen now pid (map (renamed_database new) ds)
directory-renamed seen pair now new pid [] c s = s
directory-renamed seen pair now new pid (d ∷ ds) c s = record {
  it = s.it;
  there = s.there;
  kind_is = s.kind_is;
  names = named-renamed seen pair now new s.it.refs (d ∷ ds) c s.names;
}

-- The heaps.

parted : (a b : StoredHeap) (s : IsSame a b) → ArePartedBy s.new (listed a)
parted a b s x y i k e = sym (s.one x (listed-in a x i)) ∙ ap s.back e ∙ s.one y (listed-in a y k)

abbrev pub names_same : (a b : StoredHeap) → IsSame a b → List Reference → List Reference
names_same a b s names = names_new s.new names (listed a)

pub stands-same_under : (space : Space) (a b : StoredHeap) (s : IsSame a b) (names : List Reference) → IsFitHeap a → StandsUnder space a names
    → StandsUnder space b (names_same a b s names)
stands-same_under space a b s names fit stands = record {
  directory = subst (IsDirectoryOf (SeenIn space) (paired (names_same a b s names)) space.directory) (sym s.databases)
      (directory-renamed (SeenIn space) (paired names) (paired (names_same a b s names)) s.new space.directory a.directory (λ n id l p. on n id (at_start id l tt) p) stands.directory);
  both = λ pid j p. both pid j (back pid j p);
  one_number = λ pid i j p q.
      let x = back pid i p in
      let y = back pid j q in
      sym x.is_new ∙ ap s.new (stands.one_number pid x.old y.old x.named y.named) ∙ y.is_new;
  tables = record {
    nodes = nodes;
    each = λ n j table p is. each n j table p is (back p.1 j (subst (λ (m : Reference). paired (names_same a b s names) m j) p.2 p.0));
    are_nodes = λ j n at. stands.tables.are_nodes (s.back j) n (among j n at).1;
    apart = λ i j n at also.
        let x = among i n at in
        let y = among j n also in
        sym x.0 ∙ ap s.new (stands.tables.apart (s.back i) (s.back j) n x.1 y.1) ∙ y.0;
  };
  plain = λ pid j entries p is. plain pid j entries is (back pid j p);
}
  where
    on : (n : Reference) (id : ℕ) → IsInHeap a id → paired names n id → paired (names_same a b s names) n (s.new id)
    on n id there p = pairs-on s.new names (listed a) (parted a b s) n id (in-listed a fit id there) p

    back : (pid j : ℕ) → paired (names_same a b s names) (Pid pid) j → Old s.new names (listed a) j pid
    back pid j p = pairs-back s.new names (listed a) j pid p

    -- a number that no id becomes has no nodes
    nodes : ℕ → List Reference
    nodes j = if nat_eq (s.new (s.back j)) j then stands.tables.nodes (s.back j) else []

    among : (j : ℕ) (n : Reference) → IsAmong n (nodes j) → (s.new (s.back j) ≡ j) × IsAmong n (stands.tables.nodes (s.back j))
    among j n at = by (nat_eq (s.new (s.back j)) j) refl at
      where
        by : (r : Bool) → nat_eq (s.new (s.back j)) j ≡ r → IsAmong n (if r then stands.tables.nodes (s.back j) else []) → (s.new (s.back j) ≡ j) × IsAmong n (stands.tables.nodes (s.back j))
        by true is here = (eqb-true (s.new (s.back j)) j is, here)
        by false is here = absurd here

    nodes-new : (old j : ℕ) → IsInHeap a old → s.new old ≡ j → nodes j ≡ stands.tables.nodes old
    nodes-new old j there is =
        let returns : s.back j ≡ old = ap s.back (sym is) ∙ s.one old there in
        let same : s.new (s.back j) ≡ j = ap s.new returns ∙ is in
        ap (λ (r : Bool). if r then stands.tables.nodes (s.back j) else []) (eq-eqb (s.new (s.back j)) j same) ∙ ap stands.tables.nodes returns

    -- the table of a number there is one here, with other ids
    each : (n : Reference) (j : ℕ) (table : Table) → (p : stored (names_same a b s names) n j) → object_at b.objects j ≡ Some (Keyed table)
        → Old s.new names (listed a) j p.1 → IsTable (SeenIn space) (stored (names_same a b s names)) n table (nodes j)
    each n j table p is x =
        let there = listed-in a x.old x.among in
        let old = stands.both p.1 x.old x.named in
        let means : object_at b.objects j ≡ Some (renamed s.new old.object) =
        ap (object_at b.objects) (sym x.is_new) ∙ s.objects x.old there ∙ ap (option_map (renamed s.new)) old.means in
        of old.object old.means (sym means ∙ is)
      where
        of : (o : Object) → object_at a.objects x.old ≡ Some o → Some (renamed s.new o) ≡ Some (Keyed table) → IsTable (SeenIn space) (stored (names_same a b s names)) n table (nodes j)
        of (Structure class fields) means e = absurd (cc)
        of (Elements ty low elements) means e = absurd (cc)
        of (Scope text parent values) means e = absurd (cc)
        of (Keyed u) means e =
            let same : renamed_table s.new u ≡ table = cc in
            let there = listed-in a x.old x.among in
            let was = stands.tables.each n x.old u (subst (λ (m : Reference). paired names m x.old) (sym p.2) x.named, p.1, p.2) means in
            subst (IsTable (SeenIn space) (stored (names_same a b s names)) n table) (sym (nodes-new x.old j there x.is_new))
            (subst (λ (v : Table). IsTable (SeenIn space) (stored (names_same a b s names)) n v (stands.tables.nodes x.old)) same
            (table-renamed (SeenIn space) (stored names) (stored (names_same a b s names)) s.new n u (stands.tables.nodes x.old)
            (λ m id l q. (on m id (referred a x.old (Keyed u) there means id l) q.0, q.1, q.2)) was))

    -- a table with int keys had int keys
    plain : (pid j : ℕ) (entries : List (Entry ℤ)) → object_at b.objects j ≡ Some (Keyed (by_ints entries)) → Old s.new names (listed a) j pid → HaveNoKeyTexts (SeenIn space) (nodes j)
    plain pid j entries is x =
        let there = listed-in a x.old x.among in
        let old = stands.both pid x.old x.named in
        let means : object_at b.objects j ≡ Some (renamed s.new old.object) =
        ap (object_at b.objects) (sym x.is_new) ∙ s.objects x.old there ∙ ap (option_map (renamed s.new)) old.means in
        of old.object old.means (sym means ∙ is)
      where
        of : (o : Object) → object_at a.objects x.old ≡ Some o → Some (renamed s.new o) ≡ Some (Keyed (by_ints entries)) → HaveNoKeyTexts (SeenIn space) (nodes j)
        of (Structure class fields) means e = absurd (cc)
        of (Elements ty low elements) means e = absurd (cc)
        of (Scope text parent values) means e = absurd (cc)
        of (Keyed without_keys) means e = absurd (cc)
        of (Keyed (by_strings es)) means e = absurd (cc)
        of (Keyed (by_ints es)) means e =
            let there = listed-in a x.old x.among in
            subst (HaveNoKeyTexts (SeenIn space)) (sym (nodes-new x.old j there x.is_new)) (stands.plain pid x.old es x.named means)

    both : (pid j : ℕ) → Old s.new names (listed a) j pid → Both (SeenIn space) b (paired (names_same a b s names)) (Pid pid) j
    both pid j x =
        let old = stands.both pid x.old x.named in
        let there = listed-in a x.old x.among in
        record {
          it = old.it;
          object = renamed s.new old.object;
          there = old.there;
          means = ap (object_at b.objects) (sym x.is_new) ∙ s.objects x.old there ∙ ap (option_map (renamed s.new)) old.means;
          like = thing-renamed (SeenIn space) (paired names) (paired (names_same a b s names)) s.new old.it old.object
              (λ n id l p. on n id (referred a x.old old.object there old.means id l) p) old.like;
          home = subst (IsHome _) (sym (ap (home_at b.homes) (sym x.is_new) ∙ s.homes x.old there)) old.home;
        }

pub stands-same : (space : Space) (a b : StoredHeap) → IsSame a b → SpaceStands space a → SpaceStands space b
stands-same space a b s stands = record {
  fit = fit-same a b s stands.fit;
  objects = stands.objects;
  cut = stands.cut;
  names = names_same a b s stands.names;
  stands = stands-same_under space a b s stands.names stands.fit stands.stands;
}
