-- A heap that grows: an object more, or another value in a place of one. Values keep their types, and a typed heap stays typed.
use Rattle.std.proofs.Common.{◌≡◌, ◌⊎◌, ℕ, ℤ, zero, suc, true, List, [], ◌∷◌, ◌++◌, set, Option, Some, None, inl, inr, refl, sym, ap, ◌∙◌, subst}
use Rattle.std.specs.List.{AllByRecursion}
use Rattle.ps_meaning.specs.ps_base.TyView.{TyView}
use Rattle.ps_meaning.specs.ps_base.TyView as types
use Rattle.std.specs.Prelude.{codes}
use Rattle.ps_meaning.specs.ps_program.Node.{BodyNode}
use Rattle.ps_type_text.specs.Texts.{Field, type_text, class_text}
use Rattle.ps_meaning.specs.ps_typing.WellTyped.{Local}
use Rattle.ps_heap.specs.Values.{Value, Num, Flag, Text, Nil, Pointer, Vector, Procedure, as_written, Nothing}
use Rattle.ps_heap.specs.Operators.{is_int}
use Rattle.ps_heap.specs.Texts.{is_string}
use Rattle.ps_heap.specs.Tables.{Entry, Table, without_keys, by_strings, by_ints}
use Rattle.ps_heap.specs.Databases.{Directory}
use Rattle.ps_heap.specs.Objects.{Heap, Object, Structure, Elements, Scope, Keyed, object_at, with_object, with_new, new_number}
use Rattle.ps_meaning.specs.Meaning.{Frame, local_of}
use Rattle.ps_soundness.specs.Over.{AreNames, IsOf, AreOf, IsTypedObject, IsTypedHeap, AreLocals}
use Rattle.ps_soundness.specs.Shapes.{is_given, HasValue, HaveValues, IsScopeAt, AreScopes, IsProcedure, StayGiven, IsPointedAt, at_structure, at_table, IsVectorAt, IsTypedTable, AreRoots, IsSameSort, Stays, Grows}
use Rattle.ps_soundness.proofs.Notion.{Kind}

object_in : Object → Option Object → Object
object_in other (Some object) = object
object_in other None = other

pub one_object : (a b : Object) → Some a ≡ Some b → a ≡ b
unfolding object_in
one_object a b e = ap (object_in a) e

no_object : (a : Object) → None ≡ Some a → ⊥
no_object a e = cc

-- names that hold a value for good
stay_all : (names : List Value) → StayGiven names names
stay_all [] = tt
stay_all (v ∷ vs) = (λ e. e, stay_all vs)

stay_then : (a b c : List Value) → StayGiven a b → StayGiven b c → StayGiven a c
stay_then [] [] c h k = k
stay_then [] (v ∷ vs) c h k = absurd h
stay_then (v ∷ vs) [] c h k = absurd h
stay_then (v ∷ vs) (w ∷ ws) [] h k = absurd k
stay_then (v ∷ vs) (w ∷ ws) (u ∷ us) h k = (λ e. k.0 (h.0 e), stay_then vs ws us h.1 k.1)

pub value_stays : (ty : TyView) (v w : Value) → (is_given v ≡ true → is_given w ≡ true) → HasValue ty v → HasValue ty w
value_stays types.Int v w s h = tt
value_stays types.Bool v w s h = tt
value_stays types.Pntr v w s h = tt
value_stays types.Str v w s h = s h
value_stays types.Void v w s h = s h
value_stays (types.Vector element) v w s h = s h
value_stays (types.Proc parameters gives) v w s h = s h

values_stay : (fields : List Field) (names others : List Value) → StayGiven names others → HaveValues fields names → HaveValues fields others
values_stay [] names others s h = tt
values_stay (field ∷ fields) [] others s h = absurd h
values_stay (field ∷ fields) (v ∷ vs) [] s h = absurd s
values_stay (field ∷ fields) (v ∷ vs) (w ∷ ws) s h = (value_stays field.ty v w s.0 h.0, values_stay fields vs ws s.1 h.1)

same_sort : (object : Object) → IsSameSort object object
same_sort (Structure class values) = refl
same_sort (Elements text low values) = (refl, refl, refl)
same_sort (Scope text parent names) = (refl, refl, stay_all names)
same_sort (Keyed table) = tt

sort_then : (a b c : Object) → IsSameSort a b → IsSameSort b c → IsSameSort a c
sort_then (Structure class values) (Structure second others) (Structure third last) h k = k ∙ h
sort_then (Structure class values) (Structure second others) c h k = absurd k
sort_then (Structure class values) b c h k = absurd h
sort_then (Elements text low values) (Elements second bound others) (Elements third at last) h k = (k.0 ∙ h.0, k.1 ∙ h.1, k.2 ∙ h.2)
sort_then (Elements text low values) (Elements second bound others) c h k = absurd k
sort_then (Elements text low values) b c h k = absurd h
sort_then (Scope text parent names) (Scope second round others) (Scope third up last) h k = (k.0 ∙ h.0, k.1 ∙ h.1, stay_then names others last h.2 k.2)
sort_then (Scope text parent names) (Scope second round others) c h k = absurd k
sort_then (Scope text parent names) b c h k = absurd h
sort_then (Keyed table) (Keyed second) (Keyed third) h k = tt
sort_then (Keyed table) (Keyed second) c h k = absurd k
sort_then (Keyed table) b c h k = absurd h

pub grows_not : (heap : Heap) → Grows heap heap
grows_not heap id object e = record { now = object; is = e; sort = same_sort object }

pub grows_then : (a b c : Heap) → Grows a b → Grows b c → Grows a c
grows_then a b c g k id object e =
    let first = g id object e in
    let second = k id first.now first.is in
    record { now = second.now; is = second.is; sort = sort_then object first.now second.now first.sort second.sort }

-- values of types stay such
structure_kept : (heap : Heap) (id : ℕ) (class : List ℕ) (fields : List Value) (now : Object) → object_at heap id ≡ Some now →
    IsSameSort (Structure class fields) now → IsPointedAt heap id
structure_kept heap id class fields (Structure other others) e h = at_structure other others e
structure_kept heap id class fields now e h = absurd h

table_kept : (heap : Heap) (id : ℕ) (table : Table) (now : Object) → object_at heap id ≡ Some now → IsSameSort (Keyed table) now → IsPointedAt heap id
table_kept heap id table (Keyed other) e h = at_table other e
table_kept heap id table now e h = absurd h

pub pointed_kept : (heap new : Heap) → Grows heap new → (id : ℕ) → IsPointedAt heap id → IsPointedAt new id
pointed_kept heap new g id (at_structure class fields is) =
    let stays = g id (Structure class fields) is in structure_kept new id class fields stays.now stays.is stays.sort
pointed_kept heap new g id (at_table table is) = let stays = g id (Keyed table) is in table_kept new id table stays.now stays.is stays.sort

pub roots_kept : (heap new : Heap) → Grows heap new → (directory : Directory) → AreRoots heap directory → AreRoots new directory
roots_kept heap new g [] h = tt
roots_kept heap new g (d ∷ ds) h = (pointed_kept heap new g d.root h.0, roots_kept heap new g ds h.1)

entries_kept : {K : Type 0} (P : K → Type 0) (heap new : Heap) → Grows heap new → (entries : List (Entry K)) →
    AllByRecursion (λ (entry : Entry K). P entry.key × IsPointedAt heap entry.object) entries →
    AllByRecursion (λ (entry : Entry K). P entry.key × IsPointedAt new entry.object) entries
entries_kept P heap new g [] h = tt
entries_kept P heap new g (entry ∷ entries) h = ((h.0.0, pointed_kept heap new g entry.object h.0.1), entries_kept P heap new g entries h.1)

pub table_typed_kept : (heap new : Heap) → Grows heap new → (table : Table) → IsTypedTable heap table → IsTypedTable new table
table_typed_kept heap new g without_keys h = tt
table_typed_kept heap new g (by_strings entries) h = entries_kept (λ (bytes : List ℕ). is_string bytes ≡ true) heap new g entries h
table_typed_kept heap new g (by_ints entries) h = entries_kept (λ (z : ℤ). is_int z ≡ true) heap new g entries h

vector_kept : (heap : Heap) (ty : TyView) (id : ℕ) (low : _) (elements : List Value) (now : Object) → object_at heap id ≡ Some now →
    IsSameSort (Elements (type_text ty) low elements) now → IsVectorAt heap ty id
vector_kept heap ty id low elements (Elements text bound others) e h =
    record { low = bound; elements = others; is = e ∙ ap (λ (t : List ℕ). Some (Elements t bound others)) h.0 }
vector_kept heap ty id low elements now e h = absurd h

-- scopes stay, with the values of their names
scope_kept : (heap new : Heap) (scope : Option ℕ) (whole fields : List Field) → Grows heap new → (h : IsScopeAt heap scope whole fields) →
    (k : IsScopeAt new scope whole fields) × (k.parent ≡ h.parent)
scope_kept heap new scope whole fields g h =
    let stays = g h.id (Scope (class_text (codes "scope") whole) h.parent h.names) h.is in
    of stays.now stays.is stays.sort
  where
    of : (now : Object) → object_at new h.id ≡ Some now → IsSameSort (Scope (class_text (codes "scope") whole) h.parent h.names) now →
        (k : IsScopeAt new scope whole fields) × (k.parent ≡ h.parent)
    of (Scope other round others) e s = (
      record {
        id = h.id;
        scope_is = h.scope_is;
        parent = round;
        names = others;
        is = e ∙ ap (λ (t : List ℕ). Some (Scope t round others)) s.0;
        named = h.named;
        front = h.front;
        have = values_stay fields h.names others s.2 h.have;
      },
      s.1,
    )
    of now e s = absurd s

pub scopes_kept : (heap new : Heap) → Grows heap new → (wholes scopes : List (List Field)) (scope : Option ℕ) → AreScopes heap scope wholes scopes →
    AreScopes new scope wholes scopes
scopes_kept heap new g [] [] scope h = tt
scopes_kept heap new g [] (fields ∷ scopes) scope h = absurd h
scopes_kept heap new g (whole ∷ wholes) [] scope h = absurd h
scopes_kept heap new g (whole ∷ wholes) (fields ∷ scopes) scope h =
    let k = scope_kept heap new scope whole fields g h.0 in
    (k.0, subst (λ (p : Option ℕ). AreScopes new p wholes scopes) (sym k.1) (scopes_kept heap new g wholes scopes h.0.parent h.1))

pub procedure_kept : (heap new : Heap) → Grows heap new → (ty : TyView) (of : BodyNode) (scope : Option ℕ) → IsProcedure heap ty of scope →
    IsProcedure new ty of scope
procedure_kept heap new g ty of scope h = record {
  wholes = h.wholes;
  scopes = h.scopes;
  typed = h.typed;
  runs = h.runs;
  stand = scopes_kept heap new g h.wholes h.scopes scope h.stand;
  ty_is = h.ty_is;
}

pub of_kept : (kind : Kind) (heap new : Heap) → Grows heap new → (ty : TyView) (v : Value) → IsOf kind.asked heap ty v → IsOf kind.asked new ty v
of_kept kind heap new g types.Int (Num z) h = h
of_kept kind heap new g types.Int v h = absurd h
of_kept kind heap new g types.Bool (Flag b) h = h
of_kept kind heap new g types.Bool v h = absurd h
of_kept kind heap new g types.Str (Text bytes) h = h
of_kept kind heap new g types.Str v h = absurd h
of_kept kind heap new g types.Pntr Nil h = h
of_kept kind heap new g types.Pntr (Pointer id) h = pointed_kept heap new g id h
of_kept kind heap new g types.Pntr v h = absurd h
of_kept kind heap new g (types.Vector element) (Vector id) h =
    let stays = g id _ h.is in
    vector_kept new (types.Vector element) id h.low h.elements stays.now stays.is stays.sort
of_kept kind heap new g (types.Vector element) v h = absurd h
of_kept kind heap new g (types.Proc parameters gives) (Procedure (as_written of) scope) h = kind.kept heap new g (types.Proc parameters gives) of scope h
of_kept kind heap new g (types.Proc parameters gives) v h = absurd h
of_kept kind heap new g types.Void Nothing h = h
of_kept kind heap new g types.Void v h = absurd h

pub are_kept : (kind : Kind) (heap new : Heap) → Grows heap new → (fields : List Field) (values : List Value) → AreOf kind.asked heap fields values → AreOf kind.asked new fields values
are_kept kind heap new g [] [] h = tt
are_kept kind heap new g [] (v ∷ vs) h = absurd h
are_kept kind heap new g (field ∷ fields) [] h = absurd h
are_kept kind heap new g (field ∷ fields) (v ∷ vs) h = (of_kept kind heap new g field.ty v h.0, are_kept kind heap new g fields vs h.1)

pub all_kept : (kind : Kind) (heap new : Heap) → Grows heap new → (ty : TyView) (values : List Value) → AllByRecursion (IsOf kind.asked heap ty) values →
    AllByRecursion (IsOf kind.asked new ty) values
all_kept kind heap new g ty [] h = tt
all_kept kind heap new g ty (v ∷ vs) h = (of_kept kind heap new g ty v h.0, all_kept kind heap new g ty vs h.1)

pub locals_kept : (kind : Kind) (heap new : Heap) → Grows heap new → (frame : Frame) (locals : List Local) → AreLocals kind.asked heap frame locals →
    AreLocals kind.asked new frame locals
locals_kept kind heap new g frame [] h = tt
locals_kept kind heap new g frame (local ∷ locals) h =
    (of_kept kind heap new g local.ty (local_of frame local.ty local.slot) h.0, locals_kept kind heap new g frame locals h.1)

pub names_kept : (kind : Kind) (heap new : Heap) → Grows heap new → (fields : List Field) (names : List Value) → AreNames kind.asked heap fields names → AreNames kind.asked new fields names
names_kept kind heap new g [] [] h = tt
names_kept kind heap new g [] (v ∷ vs) h = absurd h
names_kept kind heap new g (field ∷ fields) [] h = absurd h
names_kept kind heap new g (field ∷ fields) (v ∷ vs) (inl is, h) = (inl (of_kept kind heap new g field.ty v is.0, is.1), names_kept kind heap new g fields vs h)
names_kept kind heap new g (field ∷ fields) (v ∷ vs) (inr e, h) = (inr e, names_kept kind heap new g fields vs h)

pub object_kept : (kind : Kind) (heap new : Heap) → Grows heap new → (object : Object) → IsTypedObject kind.asked heap object → IsTypedObject kind.asked new object
object_kept kind heap new g (Structure class values) h = record {
  name = h.name;
  fields = h.fields;
  named = h.named;
  class_is = h.class_is;
  nonvoid = h.nonvoid;
  are = are_kept kind heap new g h.fields values h.are;
}
object_kept kind heap new g (Elements text low values) h = record {
  element = h.element;
  nonvoid = h.nonvoid;
  text_is = h.text_is;
  low_is = h.low_is;
  fits = h.fits;
  are = all_kept kind heap new g h.element values h.are;
}
object_kept kind heap new g (Scope text parent names) h = record {
  fields = h.fields;
  named = h.named;
  text_is = h.text_is;
  round = kind.round_kept heap new g parent h.round;
  are = names_kept kind heap new g h.fields names h.are;
}
object_kept kind heap new g (Keyed table) h = (table_typed_kept heap new g table h.0, h.1)

-- an object more
at_old : (heap : Heap) (id : ℕ) (new object : Object) → object_at heap id ≡ Some object → object_at (heap ++ new ∷ []) id ≡ Some object
at_old [] id new object e = absurd (no_object object e)
at_old (o ∷ os) zero new object e = e
at_old (o ∷ os) (suc id) new object e = at_old os id new object e

pub at_new : (heap : Heap) (new : Object) → object_at (with_new heap new) (new_number heap) ≡ Some new
at_new [] new = refl
at_new (o ∷ os) new = at_new os new

pub grows_new : (heap : Heap) (new : Object) → Grows heap (with_new heap new)
grows_new heap new id object e = record { now = object; is = at_old heap id new object e; sort = same_sort object }

found_new : (heap : Heap) (id : ℕ) (new object : Object) → object_at (heap ++ new ∷ []) id ≡ Some object →
    (object_at heap id ≡ Some object) ⊎ (object ≡ new)
found_new [] zero new object e = inr (sym (one_object new object e))
found_new [] (suc id) new object e = absurd (no_object object e)
found_new (o ∷ os) zero new object e = inl e
found_new (o ∷ os) (suc id) new object e = found_new os id new object e

typed_found : (kind : Kind) (heap new : Heap) (made object : Object) → Grows heap new → IsTypedObject kind.asked new made → (IsTypedObject kind.asked heap object) ⊎ (object ≡ made) →
    IsTypedObject kind.asked new object
typed_found kind heap new made object g h (inl k) = object_kept kind heap new g object k
typed_found kind heap new made object g h (inr e) = subst (IsTypedObject kind.asked new) (sym e) h

pub typed_new : (kind : Kind) (heap : Heap) (new : Object) → IsTypedHeap kind.asked heap → IsTypedObject kind.asked heap new → IsTypedHeap kind.asked (with_new heap new)
typed_new kind heap new typed h id object e =
    typed_found kind heap (with_new heap new) new object (grows_new heap new) (object_kept kind heap (with_new heap new) (grows_new heap new) new h)
    (of (found_new heap id new object e))
  where
    of : (object_at heap id ≡ Some object) ⊎ (object ≡ new) → (IsTypedObject kind.asked heap object) ⊎ (object ≡ new)
    of (inl k) = inl (typed id object k)
    of (inr k) = inr k

-- another object of the same sort under a number
stays_set : (heap : Heap) (id at : ℕ) (old new object : Object) → object_at heap id ≡ Some old → IsSameSort old new →
    object_at heap at ≡ Some object →
    Stays (set heap id new) at object
stays_set [] id at old new object was sort e = absurd (no_object object e)
stays_set (o ∷ os) zero zero old new object was sort e =
    record { now = new; is = refl; sort = subst (λ (x : Object). IsSameSort x new) (one_object old object (sym was ∙ e)) sort }
stays_set (o ∷ os) zero (suc at) old new object was sort e = record { now = object; is = e; sort = same_sort object }
stays_set (o ∷ os) (suc id) zero old new object was sort e = record { now = object; is = e; sort = same_sort object }
stays_set (o ∷ os) (suc id) (suc at) old new object was sort e =
    let stays = stays_set os id at old new object was sort e in
    record { now = stays.now; is = stays.is; sort = stays.sort }

pub grows_set : (heap : Heap) (id : ℕ) (old new : Object) → object_at heap id ≡ Some old → IsSameSort old new → Grows heap (with_object heap id new)
grows_set heap id old new was sort at object e = stays_set heap id at old new object was sort e

found_set : (heap : Heap) (id at : ℕ) (new object : Object) → object_at (set heap id new) at ≡ Some object →
    (object_at heap at ≡ Some object) ⊎ (object ≡ new)
found_set [] id at new object e = absurd (no_object object e)
found_set (o ∷ os) zero zero new object e = inr (sym (one_object new object e))
found_set (o ∷ os) zero (suc at) new object e = inl e
found_set (o ∷ os) (suc id) zero new object e = inl e
found_set (o ∷ os) (suc id) (suc at) new object e = found_set os id at new object e

-- which is typed in the heap that it makes
pub typed_with : (kind : Kind) (heap : Heap) (id : ℕ) (old new : Object) → object_at heap id ≡ Some old → IsSameSort old new → IsTypedHeap kind.asked heap →
    IsTypedObject kind.asked (with_object heap id new) new → IsTypedHeap kind.asked (with_object heap id new)
typed_with kind heap id old new was sort typed h at object e =
    typed_found kind heap (with_object heap id new) new object (grows_set heap id old new was sort) h (of (found_set heap id at new object e))
  where
    of : (object_at heap at ≡ Some object) ⊎ (object ≡ new) → (IsTypedObject kind.asked heap object) ⊎ (object ≡ new)
    of (inl k) = inl (typed at object k)
    of (inr k) = inr k

pub typed_set : (kind : Kind) (heap : Heap) (id : ℕ) (old new : Object) → object_at heap id ≡ Some old → IsSameSort old new → IsTypedHeap kind.asked heap →
    IsTypedObject kind.asked heap new → IsTypedHeap kind.asked (with_object heap id new)
typed_set kind heap id old new was sort typed h =
    typed_with kind heap id old new was sort typed (object_kept kind heap (with_object heap id new) (grows_set heap id old new was sort) new h)
