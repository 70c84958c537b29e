-- What the calls on tables give, by what the heap has.
use Rattle.std.proofs.Common.{◌≡◌, ℕ, ℤ, [], ◌∷◌, Option, refl, ap, ◌∙◌, subst}
use Rattle.ps_base.specs.declared.line.Line.{Line}
use Rattle.ps_base.specs.declared.trap.Trap.{Trap}
use Rattle.machine_core.specs.ps_heap.Calls.{Answer, answer_of, cardinality_call, enter_call, lookup_call, number_answered, table_put, then_try}
use Rattle.machine_core.specs.ps_heap.Held.{Held, Place, Under, assigning, counting, reading}
use Rattle.machine_core.specs.ps_heap.Library.{Cardinality, MakeTable, heap_call}
use Rattle.machine_core.specs.ps_heap.Objects.{Heap, Keyed, id_of, object_of_value, table_of, value_of_object, with_object}
use Rattle.machine_core.specs.ps_heap.Tables.{Key, Table, without_keys, by_ints, by_strings, cardinality, entered, int_key, looked_up, on_yield, string_key}
use Rattle.machine_core.specs.ps_heap.Texts.{Attempt, Yields, Fails}
use Rattle.machine_core.specs.ps_heap.Values.{Value, Pointer}
use Rattle.machine_core.specs.ps_stepping.Config.{Config}
use Rattle.machine_core.specs.ps_stepping.Steps.{attempted}
use Rattle.machine_core.specs.ps_stepping.Objects.{make}
use Rattle.machine_core.specs.ps_stepping.Library.{answered_by, call_on_heap, gives_num, gives_ref}
use Rattle.joint_tables.specs.Tables.{entries_of, under_key, with_entry}
use Rattle.machine_tables.specs.inside.Operands.{StringAndTable, StringTableEntry, TableAndEntry, int_entered, int_looked_up, string_entered, string_looked_up}
use Rattle.machine_tables.specs.inside.Ends.{found_given, pair_entered}

-- A new table is made.
pub table-made : (line : Line) (c : Config) → call_on_heap MakeTable line c ≡ make Pointer (Keyed without_keys) c
unfolding heap_call
table-made line c = refl

-- What is under a key is read, and pushed.
found-of : (line : Line) (c : Config) (attempt : Attempt (Option ℕ))
    → attempted line (on_yield attempt (λ found. answer_of (value_of_object found) (reading (value_of_object found) c.store.held))) (λ a. gives_ref a c)
    ≡ attempted line attempt (λ found. found_given found c)
found-of line c (Yields found) = refl
found-of line c (Fails trap) = refl

found-in : (key : Key) (h : Held) (t : Attempt Table)
    → then_try t (λ u. on_yield (looked_up key u) (λ found. answer_of (value_of_object found) (reading (value_of_object found) h)))
    ≡ on_yield (then_try t (looked_up key)) (λ found. answer_of (value_of_object found) (reading (value_of_object found) h))
found-in key h (Yields t) = refl
found-in key h (Fails trap) = refl

found-by : (line : Line) (key : Key) (table : Value) (c : Config)
    → attempted line (lookup_call key table c.store.held) (λ a. gives_ref a c)
    ≡ attempted line (under_key c.store.held.objects table key) (λ found. found_given found c)
unfolding lookup_call
found-by line key table c =
    ap (λ (x : Attempt Answer). attempted line x (λ a. gives_ref a c)) (found-in key c.store.held (table_of c.store.held.objects table))
    ∙ found-of line c (under_key c.store.held.objects table key)

pub string-found : (line : Line) (of : StringAndTable) (c : Config)
    → string_looked_up line of c ≡ attempted line (under_key c.store.held.objects of.table (string_key of.bytes)) (λ found. found_given found c)
unfolding heap_call
string-found line of c = found-by line (string_key of.bytes) of.table c

pub int-found : (line : Line) (key : ℤ) (table : Value) (c : Config)
    → int_looked_up line key table c ≡ attempted line (under_key c.store.held.objects table (int_key key)) (λ found. found_given found c)
unfolding heap_call
int-found line key table c = found-by line (int_key key) table c

-- A pair is entered.
pub string-put : (line : Line) (of : StringTableEntry) (c : Config) → string_entered line of c ≡ pair_entered line (string_key of.bytes) of.table of.entry c
unfolding heap_call
string-put line of c = refl

pub int-put : (line : Line) (key : ℤ) (of : TableAndEntry) (c : Config) → int_entered line key of c ≡ pair_entered line (int_key key) of.table of.entry c
unfolding heap_call
int-put line key of c = refl

-- What is held after an enter has the heap in which the pair was entered, with its place assigned, and some bytes counted; and both end in the same trap.
abbrev pub IsPut : Held → Place → Held → Heap → Type 0
IsPut was place h later = (n : ℕ) × (h ≡ counting n (assigning place later was))

abbrev pub AreAlike : Held → Place → Attempt Held → Attempt Heap → Type 0
AreAlike was place (Yields h) (Yields later) = IsPut was place h later
AreAlike was place (Fails t) (Fails u) = t ≡ u
AreAlike was place (Yields h) (Fails u) = ⊥
AreAlike was place (Fails t) (Yields later) = ⊥

alike-in : (key : Key) (table v : Value) (h : Held) (t : Table)
    → AreAlike h (Under (id_of table) key)
    (then_try (looked_up key t) (λ before. on_yield (entered key (object_of_value v) t) (λ new. table_put table key before (object_of_value v) new h)))
    (on_yield (entered key (object_of_value v) t) (λ new. with_object h.objects (id_of table) (Keyed new)))
unfolding looked_up entered
alike-in (string_key bytes) table v h without_keys = (_, refl)
alike-in (string_key bytes) table v h (by_strings entries) = (_, refl)
alike-in (string_key bytes) table v h (by_ints entries) = refl
alike-in (int_key value) table v h without_keys = (_, refl)
alike-in (int_key value) table v h (by_strings entries) = refl
alike-in (int_key value) table v h (by_ints entries) = (_, refl)

pub enters-alike : (key : Key) (table v : Value) (h : Held) → AreAlike h (Under (id_of table) key) (enter_call key table v h) (with_entry h.objects table key v)
unfolding enter_call
enters-alike key table v h = of (table_of h.objects table)
  where
    of : (t : Attempt Table)
        → AreAlike h (Under (id_of table) key)
        (then_try t (λ u. then_try (looked_up key u) (λ before. on_yield (entered key (object_of_value v) u) (λ new. table_put table key before (object_of_value v) new h))))
        (then_try t (λ u. on_yield (entered key (object_of_value v) u) (λ new. with_object h.objects (id_of table) (Keyed new))))
    of (Yields t) = alike-in key table v h t
    of (Fails trap) = refl

pub alike-yields : (was : Held) (place : Place) (a : Attempt Held) (b : Attempt Heap) (later : Heap) → AreAlike was place a b → b ≡ Yields later
    → (h : Held) × (a ≡ Yields h) × IsPut was place h later
alike-yields was place (Yields h) (Yields l) later same is = let e : l ≡ later = cc in (h, refl, subst (IsPut was place h) e same)
alike-yields was place (Yields h) (Fails t) later same is = absurd same
alike-yields was place (Fails t) (Yields l) later same is = absurd same
alike-yields was place (Fails t) (Fails u) later same is = absurd (cc)

pub alike-fails : (was : Held) (place : Place) (a : Attempt Held) (b : Attempt Heap) (t : Trap) → AreAlike was place a b → b ≡ Fails t → a ≡ Fails t
alike-fails was place (Yields h) (Yields l) t same is = absurd (cc)
alike-fails was place (Yields h) (Fails u) t same is = absurd same
alike-fails was place (Fails s) (Yields l) t same is = absurd same
alike-fails was place (Fails s) (Fails u) t same is = let e : u ≡ t = cc in ap Fails (same ∙ e)

-- The pairs of a table are counted, and their number is pushed.
counted-in : (h : Held) (t : Attempt Table)
    → then_try t (λ u. number_answered (cardinality u) h) ≡ then_try (on_yield t cardinality) (λ n. number_answered n h)
counted-in h (Yields t) = refl
counted-in h (Fails trap) = refl

pub pairs-counted : (line : Line) (table : Value) (c : Config)
    → answered_by Cardinality line gives_num (table ∷ []) c
    ≡ attempted line (then_try (entries_of c.store.held.objects table) (λ n. number_answered n c.store.held)) (λ a. gives_num a c)
unfolding heap_call cardinality_call
pairs-counted line table c =
    ap (λ (x : Attempt Answer). attempted line x (λ a. gives_num a c)) (counted-in c.store.held (table_of c.store.held.objects table))
