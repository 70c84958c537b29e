-- A heap that is the same as a fit one but for ids is fit.
use Rattle.std.proofs.Common.{◌≡◌, ◌≢◌, inl, inr, ℕ, ◌+◌, ◌≤◌, true, List, [], ◌∷◌, length, map, refl, sym, ◌∙◌, ap, subst, Option, Some, None}
use Rattle.std.specs.List.{AllByRecursion}
use Rattle.std.specs.Option.{option_map}
use Rattle.std.proofs.lemmas.List.{length-map}
use Rattle.reaching.specs.Reaching.{IsIn, at_start}
use Rattle.reaching.proofs.Lists.{in-front, in-behind}
use Rattle.ps_heap.specs.ps_base.TyView.{TyView}
use Rattle.ps_heap.specs.ps_base.TyView as types
use Rattle.ps_soundness.specs.ps_type_text.Texts.{Field}
use Rattle.ps_heap.specs.ps_base.Limits.{most_databases}
use Rattle.ps_heap.specs.Values.{Value, Num, Flag, Text, Nil, Pointer, Vector, Procedure, Routine, as_written, Nothing}
use Rattle.ps_heap.specs.Tables.{Entry, Table, without_keys, by_strings, by_ints, AreInKeyOrder, IsInKeyOrder}
use Rattle.ps_heap.specs.Objects.{Heap, Object, Structure, Elements, Scope, Keyed, object_at, is_vector}
use Rattle.ps_heap.specs.References.{pointers, values_of, scope_ids, value_ids, values_ids, object_ids}
use Rattle.ps_heap.specs.Databases.{Database, Directory, every_root}
use Rattle.ps_heap.specs.Held.{StoredHeap}
use Rattle.database_meaning.specs.Same.{renamed_value, renamed_entry, renamed_table, renamed, renamed_database, IsInHeap, IsSame}
use Rattle.database_meaning.proofs.SameLaws.{reached-from}
use Rattle.heap_fit.proofs.Mentioned.{referred}
use Rattle.heap_fit.specs.Heaps.{IsPointedAt, at_structure, at_table, AreRound, none_round, one_round, IsFitValue, AreFitValues, IsOut, here, further, HasPart, IsMentioned, AreFitNames, AreFitEntries, IsFitTable, IsFitObject, IsFitDatabase, AreNamedOnce, IsFitAt, IsFitHeap}
use Rattle.std.specs.Ordering.{int_cmp}
use Rattle.std.specs.declared.cmp.Ordering.{Ordering}
use Rattle.std.specs.declared.cmp.Ordering.TheVariants.{Less}
use Rattle.ps_heap.specs.Texts.{order_of}
use Rattle.ps_heap.specs.Scopes.{first_value}
use Rattle.ps_heap.specs.text_forms.Classes.{form_of_type}
use Rattle.ps_heap.specs.text_forms.declared.forms.Form.{Form}
use Rattle.ps_heap.specs.text_forms.declared.forms.Form.TheVariants as form

some_same : {A : Type 0} {x y : A} → Some x ≡ Some y → x ≡ y
some_same e = cc

-- What is reached.

abbrev pub AreReached : StoredHeap → List ℕ → Type 0
AreReached heap ids = (x : ℕ) → IsIn x ids → IsInHeap heap x

at-same : (a b : StoredHeap) (s : IsSame a b) (id : ℕ) (o : Object) → IsInHeap a id → object_at a.objects id ≡ Some o
    → object_at b.objects (s.new id) ≡ Some (renamed s.new o)
at-same a b s id o there is = s.objects id there ∙ ap (option_map (renamed s.new)) is

-- Values.

pointed-same : (a b : StoredHeap) (s : IsSame a b) (id : ℕ) → IsInHeap a id → IsPointedAt a.objects id → IsPointedAt b.objects (s.new id)
pointed-same a b s id there (at_structure class fields is) = at_structure class (map (renamed_value s.new) fields) (at-same a b s id (Structure class fields) there is)
pointed-same a b s id there (at_table table is) = at_table (renamed_table s.new table) (at-same a b s id (Keyed table) there is)

round-same : (a b : StoredHeap) (s : IsSame a b) (scope : Option ℕ) (scopes : List (List Field)) → AreReached a (scope_ids scope) → AreRound a.objects scope scopes
    → AreRound b.objects (option_map s.new scope) scopes
round-same a b s scope scopes there none_round = none_round
round-same a b s scope scopes there (one_round {id} {names} {parent} {values} {more} is named rest) =
    let at = there id (inl refl) in
    one_round (at-same a b s id (Scope _ parent values) at is) named
    (round-same a b s parent more (λ x l. referred a id (Scope _ parent values) at is x (in-front x (scope_ids parent) (values_ids values) l)) rest)

value-same : (a b : StoredHeap) (s : IsSame a b) (ty : TyView) (v : Value) → AreReached a (value_ids v) → IsFitValue a.objects ty v
    → IsFitValue b.objects ty (renamed_value s.new v)
value-same a b s types.Int (Num z) there f = f
value-same a b s types.Bool (Flag b₁) there f = f
value-same a b s types.Str (Text bytes) there f = f
value-same a b s types.Pntr Nil there f = f
value-same a b s types.Pntr (Pointer id) there f = pointed-same a b s id (there id (inl refl)) f
value-same a b s (types.Vector element) (Vector id) there f = record {
  low = f.low;
  elements = map (renamed_value s.new) f.elements;
  is = at-same a b s id (Elements _ f.low f.elements) (there id (inl refl)) f.is;
}
value-same a b s (types.Proc parameters gives) (Procedure (as_written of) scope) there f = record {
  scopes = f.scopes;
  round = round-same a b s scope f.scopes there f.round;
  fit = f.fit;
  ty_is = f.ty_is;
}
value-same a b s ty v there f = absurd f

values-same : (a b : StoredHeap) (s : IsSame a b) (fields : List Field) (vs : List Value) → AreReached a (values_ids vs) → AreFitValues a.objects fields vs
    → AreFitValues b.objects fields (map (renamed_value s.new) vs)
values-same a b s [] [] there f = tt
values-same a b s (field ∷ fields) (v ∷ vs) there f = (
  value-same a b s field.ty v (λ x l. there x (in-front x (value_ids v) (values_ids vs) l)) f.0,
  values-same a b s fields vs (λ x l. there x (in-behind x (value_ids v) (values_ids vs) l)) f.1,
)
values-same a b s [] (v ∷ vs) there f = absurd f
values-same a b s (field ∷ fields) [] there f = absurd f

elements-same : (a b : StoredHeap) (s : IsSame a b) (ty : TyView) (vs : List Value) → AreReached a (values_ids vs) → AllByRecursion (IsFitValue a.objects ty) vs
    → AllByRecursion (IsFitValue b.objects ty) (map (renamed_value s.new) vs)
elements-same a b s ty [] there f = tt
elements-same a b s ty (v ∷ vs) there f = (
  value-same a b s ty v (λ x l. there x (in-front x (value_ids v) (values_ids vs) l)) f.0,
  elements-same a b s ty vs (λ x l. there x (in-behind x (value_ids v) (values_ids vs) l)) f.1,
)

entries-same : {K : Type 0} (a b : StoredHeap) (s : IsSame a b) (IsKey : K → Type 0) (entries : List (Entry K)) → AreReached a (values_ids (pointers entries))
    → AreFitEntries a.objects IsKey entries → AreFitEntries b.objects IsKey (map (renamed_entry s.new) entries)
entries-same a b s IsKey [] there f = tt
entries-same a b s IsKey (e ∷ es) there f =
    ((f.0.0, pointed-same a b s e.object (there e.object (inl refl)) f.0.1), entries-same a b s IsKey es (λ x l. there x (inr l)) f.1)

-- Entries stay in the order of their keys.

above-renamed : {K : Type 0} (order : K → K → Ordering) (new : ℕ → ℕ) (a : Entry K) (entries : List (Entry K))
    → AllByRecursion (λ b. order a.key b.key ≡ Less) entries → AllByRecursion (λ b. order a.key b.key ≡ Less) (map (renamed_entry new) entries)
above-renamed order new a [] s = tt
above-renamed order new a (b ∷ more) s = (s.0, above-renamed order new a more s.1)

order-renamed : {K : Type 0} (order : K → K → Ordering) (new : ℕ → ℕ) (entries : List (Entry K)) → AreInKeyOrder order entries
    → AreInKeyOrder order (map (renamed_entry new) entries)
order-renamed order new [] o = tt
order-renamed order new (a ∷ more) o = (above-renamed order new a more o.0, order-renamed order new more o.1)

pub ordered-renamed : (new : ℕ → ℕ) (table : Table) → IsInKeyOrder table → IsInKeyOrder (renamed_table new table)
ordered-renamed new without_keys o = o
ordered-renamed new (by_strings entries) o = order-renamed order_of new entries o
ordered-renamed new (by_ints entries) o = order-renamed int_cmp new entries o

table-same : (a b : StoredHeap) (s : IsSame a b) (table : Table) → AreReached a (object_ids (Some (Keyed table))) → IsFitTable a.objects table
    → IsFitTable b.objects (renamed_table s.new table)
table-same a b s without_keys there f = f
table-same a b s (by_strings entries) there f = (entries-same a b s _ entries there f.0, ordered-renamed s.new (by_strings entries) f.1)
table-same a b s (by_ints entries) there f = (entries-same a b s _ entries there f.0, ordered-renamed s.new (by_ints entries) f.1)

first-renamed : (new : ℕ → ℕ) (of : Form) → renamed_value new (first_value of) ≡ first_value of
first-renamed new form.Number = refl
first-renamed new form.Flag = refl
first-renamed new form.Reference = refl

-- A procedure that mentions a name has one that mentions it in the other heap.

-- the scope of an object that is a scope with other ids
record OldScope (heap : Heap) (new : ℕ → ℕ) (id : ℕ) (text : List ℕ) (parent : Option ℕ) : Type 0 where
  before : Option ℕ
  values : List Value
  is : object_at heap id ≡ Some (Scope text before values)
  parent_is : parent ≡ option_map new before

old-scope : (heap : Heap) (new : ℕ → ℕ) (id : ℕ) (o : Object) (text : List ℕ) (parent : Option ℕ) (values : List Value) → object_at heap id ≡ Some o
    → Some (renamed new o) ≡ Some (Scope text parent values) → OldScope heap new id text parent
old-scope heap new id (Structure class fields) text parent values is e = absurd (cc)
old-scope heap new id (Elements ty low elements) text parent values is e = absurd (cc)
old-scope heap new id (Keyed table) text parent values is e = absurd (cc)
old-scope heap new id (Scope t p vs) text parent values is e =
    let same : t ≡ text = cc in
    let outer : parent ≡ option_map new p = cc in
    record { before = p; values = vs; is = is ∙ ap (λ (u : List ℕ). Some (Scope u p vs)) same; parent_is = outer }

out-same : (a b : StoredHeap) (s : IsSame a b) → IsFitHeap a → (id : ℕ) → IsInHeap a id → (scope : Option ℕ) (out : ℕ) (before : Option ℕ)
    → scope ≡ option_map s.new before → AreReached a (scope_ids before) → IsOut b.objects (s.new id) scope out → IsOut a.objects id before out
out-same a b s fit id at scope out None e there here = absurd (cc)
out-same a b s fit id at scope out (Some y) e there here =
    let same : s.new id ≡ s.new y = cc in
    let one : id ≡ y = sym (s.one id at) ∙ ap s.back same ∙ s.one y (there y (inl refl)) in
    subst (λ (k : ℕ). IsOut a.objects id (Some k) 0) one here
out-same a b s fit id at scope out None e there (further {other} {out = fewer} {text} {parent} {values} is way) = absurd (cc)
out-same a b s fit id at scope out (Some y) e there (further {other} {out = fewer} {text} {parent} {values} is way) =
    let same : other ≡ s.new y = cc in
    let reached = there y (inl refl) in
    let old = fit.each y reached in
    let found = sym (at-same a b s y old.object reached old.is) ∙ ap (object_at b.objects) (sym same) ∙ is in
    let inner = old-scope a.objects s.new y old.object text parent values old.is found in
    let inside = referred a y (Scope text inner.before inner.values) reached inner.is in
    further inner.is (out-same a b s fit id at parent fewer inner.before inner.parent_is
    (λ x l. inside x (in-front x (scope_ids inner.before) (values_ids inner.values) l)) way)

-- a procedure with its scope among values that have it with other ids
record OldPart (new : ℕ → ℕ) (does : Routine) (scope : Option ℕ) (vs : List Value) : Type 0 where
  before : Option ℕ
  scope_is : scope ≡ option_map new before
  has : HasPart (Procedure does before) vs
  ids : (x : ℕ) → IsIn x (scope_ids before) → IsIn x (values_ids vs)

old-value : (new : ℕ → ℕ) (does : Routine) (scope : Option ℕ) (v : Value) (vs : List Value) → Procedure does scope ≡ renamed_value new v → OldPart new does scope (v ∷ vs)
old-value new does scope (Num z) vs e = absurd (cc)
old-value new does scope (Flag b) vs e = absurd (cc)
old-value new does scope (Text bytes) vs e = absurd (cc)
old-value new does scope Nil vs e = absurd (cc)
old-value new does scope (Pointer id) vs e = absurd (cc)
old-value new does scope (Vector id) vs e = absurd (cc)
old-value new does scope Nothing vs e = absurd (cc)
old-value new does scope (Procedure did before) vs e =
    let same : does ≡ did = cc in
    let outer : scope ≡ option_map new before = cc in
    record { before = before; scope_is = outer; has = inl (ap (λ (d : Routine). Procedure d before) same); ids = λ x l. in-front x (scope_ids before) (values_ids vs) l }

old-part : (new : ℕ → ℕ) (does : Routine) (scope : Option ℕ) (vs : List Value) → HasPart (Procedure does scope) (map (renamed_value new) vs) → OldPart new does scope vs
old-part new does scope [] h = absurd h
old-part new does scope (v ∷ vs) (inl e) = old-value new does scope v vs e
old-part new does scope (v ∷ vs) (inr h) =
    let o = old-part new does scope vs h in
    record { before = o.before; scope_is = o.scope_is; has = inr o.has; ids = λ x l. in-behind x (value_ids v) (values_ids vs) (o.ids x l) }

pointers-renamed : {K : Type 0} (new : ℕ → ℕ) (entries : List (Entry K)) → pointers (map (renamed_entry new) entries) ≡ map (renamed_value new) (pointers entries)
pointers-renamed new [] = refl
pointers-renamed new (e ∷ es) = ap (λ (vs : List Value). Pointer (new e.object) ∷ vs) (pointers-renamed new es)

places-renamed : (new : ℕ → ℕ) (o : Object) → values_of (renamed new o) ≡ map (renamed_value new) (values_of o)
places-renamed new (Structure class fields) = refl
places-renamed new (Elements ty low elements) = refl
places-renamed new (Scope text parent names) = refl
places-renamed new (Keyed without_keys) = refl
places-renamed new (Keyed (by_strings entries)) = pointers-renamed new entries
places-renamed new (Keyed (by_ints entries)) = pointers-renamed new entries

mentioned-same : (a b : StoredHeap) (s : IsSame a b) → IsFitHeap a → (id : ℕ) → IsInHeap a id → (position : ℕ) → IsMentioned b (s.new id) position → IsMentioned a id position
mentioned-same a b s fit id at position m =
    let from = reached-from a b s m.holder m.there in
    let old = fit.each from.old from.there in
    let found : Some (renamed s.new old.object) ≡ Some m.object =
    sym (at-same a b s from.old old.object from.there old.is) ∙ ap (object_at b.objects) (sym from.is) ∙ m.is in
    let parts : values_of m.object ≡ map (renamed_value s.new) (values_of old.object) = ap values_of (sym (some_same found)) ∙ places-renamed s.new old.object in
    let part = old-part s.new (as_written m.of) m.scope (values_of old.object) (subst (HasPart (Procedure (as_written m.of) m.scope)) parts m.has) in
    record {
      holder = from.old;
      there = from.there;
      object = old.object;
      is = old.is;
      of = m.of;
      scope = part.before;
      has = part.has;
      out = m.out;
      round = out-same a b s fit id at m.scope m.out part.before part.scope_is
          (λ x l. referred a from.old old.object from.there old.is x (in-behind x (scope_ids _) (values_ids (values_of old.object)) (part.ids x l))) m.round;
      mentioned = m.mentioned;
    }

names-same : (a b : StoredHeap) (s : IsSame a b) → IsFitHeap a → (id : ℕ) → IsInHeap a id → (position : ℕ) (fields : List Field) (vs : List Value)
    → AreReached a (values_ids vs) → AreFitNames a id position fields vs → AreFitNames b (s.new id) position fields (map (renamed_value s.new) vs)
names-same a b s fit id at position [] [] there f = tt
names-same a b s fit id at position (field ∷ fields) (v ∷ vs) there f = (
  elim f.0 [
    | inl is ↦ inl (value-same a b s field.ty v (λ x l. there x (in-front x (value_ids v) (values_ids vs) l)) is)
    | inr is ↦ inr (ap (renamed_value s.new) is.0 ∙ first-renamed s.new (form_of_type field.ty), λ m. is.1 (mentioned-same a b s fit id at position m))
  ],
  names-same a b s fit id at (position + 1) fields vs (λ x l. there x (in-behind x (value_ids v) (values_ids vs) l)) f.1,
)
names-same a b s fit id at position [] (v ∷ vs) there f = absurd f
names-same a b s fit id at position (field ∷ fields) [] there f = absurd f

-- Objects.

object-same : (a b : StoredHeap) (s : IsSame a b) → IsFitHeap a → (id : ℕ) → IsInHeap a id → (o : Object) → AreReached a (object_ids (Some o))
    → IsFitObject a id o → IsFitObject b (s.new id) (renamed s.new o)
object-same a b s fit id at (Structure class fields) there f = record {
  name = f.name;
  fields = f.fields;
  named = f.named;
  class_is = f.class_is;
  are = values-same a b s f.fields fields there f.are;
}
object-same a b s fit id at (Elements ty low elements) there f = record {
  element = f.element;
  valued = f.valued;
  text_is = f.text_is;
  low_is = f.low_is;
  fits = subst (λ (n : ℕ). is_vector low n ≡ true) (sym (length-map elements (renamed_value s.new))) f.fits;
  are = elements-same a b s f.element elements there f.are;
}
object-same a b s fit id at (Scope text parent values) there f = record {
  names = f.names;
  named = f.named;
  text_is = f.text_is;
  scopes = f.scopes;
  round = round-same a b s parent f.scopes (λ x l. there x (in-front x (scope_ids parent) (values_ids values) l)) f.round;
  are = names-same a b s fit id at 0 f.names values (λ x l. there x (in-behind x (scope_ids parent) (values_ids values) l)) f.are;
}
object-same a b s fit id at (Keyed table) there f = table-same a b s table there f

-- The directory.

databases-same : (a b : StoredHeap) (s : IsSame a b) (ds : List Database) → AreReached a (every_root ds) → AllByRecursion (IsFitDatabase a.objects) ds
    → AllByRecursion (IsFitDatabase b.objects) (map (renamed_database s.new) ds)
unfolding every_root
databases-same a b s [] there f = tt
databases-same a b s (d ∷ ds) there f = (
  record {
    named = f.0.named;
    name = f.0.name;
    password = f.0.password;
    table = renamed_table s.new f.0.table;
    root = at-same a b s d.root (Keyed f.0.table) (there d.root (inl refl)) f.0.root;
  },
  databases-same a b s ds (λ x l. there x (inr l)) f.1,
)

others-same : (new : ℕ → ℕ) (name : List ℕ) (ds : List Database) → AllByRecursion (λ (other : Database). other.name ≢ name) ds
    → AllByRecursion (λ (other : Database). other.name ≢ name) (map (renamed_database new) ds)
others-same new name [] o = tt
others-same new name (d ∷ ds) o = (o.0, others-same new name ds o.1)

once-same : (new : ℕ → ℕ) (ds : List Database) → AreNamedOnce ds → AreNamedOnce (map (renamed_database new) ds)
once-same new [] o = tt
once-same new (d ∷ ds) o = (others-same new d.name ds o.0, once-same new ds o.1)

pub fit-same : (a b : StoredHeap) → IsSame a b → IsFitHeap a → IsFitHeap b
fit-same a b s fit = record {
  few = subst (λ (ds : Directory). length ds ≤ most_databases) (sym s.databases)
      (subst (λ (n : ℕ). n ≤ most_databases) (sym (length-map a.directory (renamed_database s.new))) fit.few);
  databases = subst (AllByRecursion (IsFitDatabase b.objects)) (sym s.databases)
      (databases-same a b s a.directory (λ x l. at_start x l tt) fit.databases);
  once = subst AreNamedOnce (sym s.databases) (once-same s.new a.directory fit.once);
  each = λ id there. let from = reached-from a b s id there in subst (IsFitAt b) (sym from.is) (each from.old from.there);
}
  where
    many : length b.directory ≡ length a.directory
    many = ap length s.databases ∙ length-map a.directory (renamed_database s.new)

    each : (x : ℕ) → IsInHeap a x → IsFitAt b (s.new x)
    each x there =
        let at = fit.each x there in
        record {
          object = renamed s.new at.object;
          is = at-same a b s x at.object there at.is;
          fit = object-same a b s fit x there at.object (referred a x at.object there at.is) at.fit;
          home = at.home;
          home_is = s.homes x there ∙ at.home_is;
          first = at.first;
          last = subst (λ (n : ℕ). at.home ≤ n) (sym many) at.last;
        }
