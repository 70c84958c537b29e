-- What a run over fit things saves is fit.
use Rattle.std.proofs.Common.{inl, inr, ◌⊎◌, ◌≡◌, ℕ, ◌+◌, true, List, [], ◌∷◌, ◌++◌, length, refl, sym, ap, ◌∙◌, subst, arith, append_assoc, Option, Some}
use Rattle.std.specs.Prelude.{codes, ℤ}
use Rattle.std.specs.List.{AllByRecursion}
use Rattle.std.proofs.lemmas.List.{length-append}
use Rattle.ps_heap.specs.ps_base.TyView.{TyView, TyViews}
use Rattle.ps_heap.specs.ps_base.TyView as types
use Rattle.ps_heap.specs.text_forms.Classes.{form_of_type}
use Rattle.ps_soundness.specs.ps_program.Node.{BodyNode, body}
use Rattle.ps_soundness.specs.ps_type_text.Texts.{Field, type_text, class_text, IsNamed}
use Rattle.ps_soundness.specs.ps_typing.Checking.{isnt_void}
use Rattle.ps_soundness.specs.ps_typing.WellTyped.{At, IsOfType}
use Rattle.ps_heap.specs.Values.{Value, Num, Flag, Text, Nil, Pointer, Vector, Procedure, as_written}
use Rattle.ps_heap.specs.Tables.{Entry, Table, without_keys, by_strings, by_ints, IsInKeyOrder}
use Rattle.ps_heap.specs.Objects.{Heap, Object, Structure, Elements, Scope, Keyed, object_at, value_at, is_vector}
use Rattle.ps_heap.specs.Scopes.{first_value}
use Rattle.ps_heap.specs.References.{pointers, values_of}
use Rattle.ps_heap.specs.Held.{StoredHeap}
use Rattle.ps_soundness.specs.Valued.{IsValued}
use Rattle.ps_soundness.specs.Over.{IsOf, AreOf, AreNames, IsTypedTable, IsTypedObject, IsTypedHeap}
use Rattle.ps_soundness.specs.Shapes.{HasValue, type_of_body}
use Rattle.ps_soundness.proofs.Telling.{Told}
use Rattle.database_meaning.proofs.GrownPairs.{object-there}
use Rattle.heap_fit.specs.Bodies.{Level, HasDeclared, IsFit, IsFitBody}
use Rattle.heap_fit.specs.Bodies as fit
use Rattle.heap_fit.specs.Heaps.{IsFitValue, AreFitValues, IsOut, here, further, HasPart, IsMentioned, AreFitNames, IsFitTable, IsFitObject, IsFitHeap}
use Rattle.heap_fit.specs.Kept.{AreFitDatabases}
use Rattle.heap_fit.proofs.MoreInScope.{literal-fit}
use Rattle.fit_soundness.specs.Levels.{AreLevelsAt, IsProcedure, fitting}
use Rattle.fit_soundness.proofs.Levels.{levels_round, one_type}
use Rattle.fit_soundness.proofs.Mentions.{body_declares}

-- Values.

procedure_fit : (heap : Heap) (ty : TyView) (of : BodyNode) (scope : Option ℕ) → IsProcedure heap ty of scope → IsFitValue heap ty (Procedure (as_written of) scope)
procedure_fit heap ty (body params gives tree text line) scope p =
    subst (λ (t : TyView). IsFitValue heap t (Procedure (as_written (body params gives tree text line)) scope)) (sym p.ty_is)
    (literal-fit heap (record { locals = []; levels = p.levels }) (body params gives tree text line) (type_of_body (body params gives tree text line)) scope
    (fit.literal p.fit) (levels_round heap scope p.levels p.stand))

value_fit : (heap : Heap) (ty : TyView) (v : Value) → isnt_void ty ≡ true → IsOf fitting heap ty v → IsFitValue heap ty v
value_fit heap types.Int (Num z) isnt h = h
value_fit heap types.Int v isnt h = absurd h
value_fit heap types.Bool (Flag b) isnt h = h
value_fit heap types.Bool v isnt h = absurd h
value_fit heap types.Str (Text bytes) isnt h = h
value_fit heap types.Str v isnt h = absurd h
value_fit heap types.Pntr Nil isnt h = h
value_fit heap types.Pntr (Pointer id) isnt h = h
value_fit heap types.Pntr v isnt h = absurd h
value_fit heap types.Void v isnt h = absurd cc
value_fit heap (types.Vector element) (Vector id) isnt h = record { low = h.low; elements = h.elements; is = h.is }
value_fit heap (types.Vector element) v isnt h = absurd h
value_fit heap (types.Proc parameters gives) (Procedure (as_written of) scope) isnt h = procedure_fit heap (types.Proc parameters gives) of scope h
value_fit heap (types.Proc parameters gives) v isnt h = absurd h

fields_fit : (heap : Heap) (fields : List Field) (vs : List Value) → AllByRecursion (λ (field : Field). isnt_void field.ty ≡ true) fields → AreOf fitting heap fields vs →
    AreFitValues heap fields vs
fields_fit heap [] [] isnt h = tt
fields_fit heap [] (v ∷ vs) isnt h = absurd h
fields_fit heap (field ∷ fields) [] isnt h = absurd h
fields_fit heap (field ∷ fields) (v ∷ vs) isnt h = (value_fit heap field.ty v isnt.0 h.0, fields_fit heap fields vs isnt.1 h.1)

elements_fit : (heap : Heap) (ty : TyView) (vs : List Value) → isnt_void ty ≡ true → AllByRecursion (IsOf fitting heap ty) vs → AllByRecursion (IsFitValue heap ty) vs
elements_fit heap ty [] isnt h = tt
elements_fit heap ty (v ∷ vs) isnt h = (value_fit heap ty v isnt h.0, elements_fit heap ty vs isnt h.1)

-- A type that has a value in a place is one of which there are values.

element_of : TyView → TyView
element_of (types.Vector element) = element
element_of other = other

some_element : (heap : Heap) (ty : TyView) (low : ℤ) (vs : List Value) → is_vector low (length vs) ≡ true → AllByRecursion (IsOf fitting heap ty) vs → (v : Value) × IsOf fitting heap ty v
some_element heap ty low [] long h = absurd cc
some_element heap ty low (v ∷ vs) long h = (v, h.0)

body_valued : {levels : List Level} (of : BodyNode) → IsFitBody levels of → IsValued (type_of_body of)
body_valued (body params gives tree text line) (fit.of_params opens takes t valued slots) = valued

module _ (told : Told) (heap : Heap) (typed : IsTypedHeap fitting heap) where
  value_valued : (ty : TyView) (v : Value) → isnt_void ty ≡ true → IsOf fitting heap ty v → IsValued ty
  unfolding element_of
  value_valued types.Int v isnt h = tt
  value_valued types.Bool v isnt h = tt
  value_valued types.Str v isnt h = tt
  value_valued types.Pntr v isnt h = tt
  value_valued types.Void v isnt h = absurd cc
  value_valued (types.Vector element) (Vector id) isnt h =
      let t = typed id (Elements (type_text (types.Vector element)) h.low h.elements) h.is in
      let same : element ≡ t.element = ap element_of (told.types (types.Vector element) (types.Vector t.element) t.text_is) in
      let one = some_element heap element h.low h.elements t.fits (subst (λ (e : TyView). AllByRecursion (IsOf fitting heap e) h.elements) (sym same) t.are) in
      value_valued element one.0 (subst (λ (e : TyView). isnt_void e ≡ true) (sym same) t.nonvoid) one.1
  value_valued (types.Vector element) v isnt h = absurd h
  value_valued (types.Proc parameters gives) (Procedure (as_written of) scope) isnt h = subst IsValued (sym h.ty_is) (body_valued of h.fit)
  value_valued (types.Proc parameters gives) v isnt h = absurd h

-- A procedure in a place of an object.

of_procedure : (heap : Heap) (ty : TyView) (of : BodyNode) (scope : Option ℕ) → IsOf fitting heap ty (Procedure (as_written of) scope) → IsProcedure heap ty of scope
of_procedure heap (types.Proc parameters gives) of scope h = h
of_procedure heap types.Int of scope h = absurd h
of_procedure heap types.Bool of scope h = absurd h
of_procedure heap types.Str of scope h = absurd h
of_procedure heap types.Pntr of scope h = absurd h
of_procedure heap types.Void of scope h = absurd h
of_procedure heap (types.Vector element) of scope h = absurd h

abbrev SomeProcedure : Heap → BodyNode → Option ℕ → Type 0
SomeProcedure heap of scope = (ty : TyView) × IsProcedure heap ty of scope

in_fields : (heap : Heap) (fields : List Field) (vs : List Value) (of : BodyNode) (scope : Option ℕ) → AreOf fitting heap fields vs → HasPart (Procedure (as_written of) scope) vs →
    SomeProcedure heap of scope
in_fields heap fields [] of scope h has = absurd has
in_fields heap [] (v ∷ vs) of scope h has = absurd h
in_fields heap (field ∷ fields) (v ∷ vs) of scope h (inl e) = (field.ty, of_procedure heap field.ty of scope (subst (IsOf fitting heap field.ty) (sym e) h.0))
in_fields heap (field ∷ fields) (v ∷ vs) of scope h (inr has) = in_fields heap fields vs of scope h.1 has

in_elements : (heap : Heap) (ty : TyView) (vs : List Value) (of : BodyNode) (scope : Option ℕ) → AllByRecursion (IsOf fitting heap ty) vs → HasPart (Procedure (as_written of) scope) vs →
    SomeProcedure heap of scope
in_elements heap ty [] of scope h has = absurd has
in_elements heap ty (v ∷ vs) of scope h (inl e) = (ty, of_procedure heap ty of scope (subst (IsOf fitting heap ty) (sym e) h.0))
in_elements heap ty (v ∷ vs) of scope h (inr has) = in_elements heap ty vs of scope h.1 has

no_first : (ty : TyView) (of : BodyNode) (scope : Option ℕ) → Procedure (as_written of) scope ≡ first_value (form_of_type ty) → ⊥
no_first types.Int of scope e = absurd cc
no_first types.Bool of scope e = absurd cc
no_first types.Str of scope e = absurd cc
no_first types.Pntr of scope e = absurd cc
no_first types.Void of scope e = absurd cc
no_first (types.Vector element) of scope e = absurd cc
no_first (types.Proc parameters gives) of scope e = absurd cc

in_names : (heap : Heap) (fields : List Field) (vs : List Value) (of : BodyNode) (scope : Option ℕ) → AreNames fitting heap fields vs → HasPart (Procedure (as_written of) scope) vs →
    SomeProcedure heap of scope
in_names heap fields [] of scope h has = absurd has
in_names heap [] (v ∷ vs) of scope h has = absurd h
in_names heap (field ∷ fields) (v ∷ vs) of scope h (inl e) = elim h.0 [
  | inl is ↦ (field.ty, of_procedure heap field.ty of scope (subst (IsOf fitting heap field.ty) (sym e) is.0))
  | inr first ↦ absurd (no_first field.ty of scope (e ∙ first))
]
in_names heap (field ∷ fields) (v ∷ vs) of scope h (inr has) = in_names heap fields vs of scope h.1 has

in_pointers : {K : Type 0} (entries : List (Entry K)) (of : BodyNode) (scope : Option ℕ) → HasPart (Procedure (as_written of) scope) (pointers entries) → ⊥
in_pointers [] of scope has = has
in_pointers (e ∷ es) of scope (inl same) = absurd cc
in_pointers (e ∷ es) of scope (inr has) = in_pointers es of scope has

in_object : (heap : Heap) (object : Object) (of : BodyNode) (scope : Option ℕ) → IsTypedObject fitting heap object → HasPart (Procedure (as_written of) scope) (values_of object) →
    SomeProcedure heap of scope
in_object heap (Structure class vs) of scope h has = in_fields heap h.fields vs of scope h.are has
in_object heap (Elements text low vs) of scope h has = in_elements heap h.element vs of scope h.are has
in_object heap (Scope text parent vs) of scope h has = in_names heap h.fields vs of scope h.are has
in_object heap (Keyed without_keys) of scope h has = absurd has
in_object heap (Keyed (by_strings entries)) of scope h has = absurd (in_pointers entries of scope has)
in_object heap (Keyed (by_ints entries)) of scope h has = absurd (in_pointers entries of scope has)

-- The scope so many levels out from a procedure.

record IsThere (heap : Heap) (id position : ℕ) (ty : TyView) : Type 0 where
  level : Level
  parent : Option ℕ
  names : List Value
  is : object_at heap id ≡ Some (Scope (class_text (codes "scope") level.names) parent names)
  named : IsNamed (codes "scope") level.names
  at : HasDeclared position ty level
  has : HasValue ty (value_at names position)

some_same : {A : Type 0} {a b : A} → Some a ≡ Some b → a ≡ b
some_same e = cc

parent_same : {text other : List ℕ} {parent round : Option ℕ} {values others : List Value} → Some (Scope text parent values) ≡ Some (Scope other round others) → parent ≡ round
parent_same e = cc

out_there : (heap : Heap) (id : ℕ) (scope : Option ℕ) (out : ℕ) (levels : List Level) (position : ℕ) (ty : TyView) → IsOut heap id scope out → AreLevelsAt heap scope levels →
    At (HasDeclared position ty) levels out → IsThere heap id position ty
out_there heap id scope out [] position ty way stand at = absurd at
out_there heap id scope out (level ∷ levels) position ty here stand (inl at) =
    let s = stand.0 in
    record { level = level; parent = s.parent; names = s.names; is = ap (object_at heap) (some_same s.scope_is) ∙ s.is; named = s.named; at = at.1; has = s.have position ty at.1 }
out_there heap id scope out (level ∷ levels) position ty here stand (inr at) = absurd (omega (arith, at.1))
out_there heap id scope out (level ∷ levels) position ty (further is way) stand (inl at) = absurd (omega (arith, at.0))
out_there heap id scope out (level ∷ levels) position ty (further {other} {out = less} {text} {parent} {values} is way) stand (inr (before, e, at)) =
    let s = stand.0 in
    let outer : parent ≡ s.parent = parent_same (sym is ∙ (ap (object_at heap) (some_same s.scope_is) ∙ s.is)) in
    out_there heap id parent less levels position ty way (subst (λ (p : Option ℕ). AreLevelsAt heap p levels) (sym outer) stand.1)
    (subst (At (HasDeclared position ty) levels) (omega (arith, e)) at)

-- The names of a scope.

at_here : (front : List Field) (field : Field) (rest : List Field) → At (IsOfType field.ty) (front ++ field ∷ rest) (length front)
at_here [] field rest = inl (refl, refl)
at_here (first ∷ front) field rest = inr (length front, omega arith, at_here front field rest)

value_here : (front : List Value) (v : Value) (rest : List Value) → value_at (front ++ v ∷ rest) (length front) ≡ v
value_here [] v rest = refl
value_here (first ∷ front) v rest = value_here front v rest

values_same : {text other : List ℕ} {parent round : Option ℕ} {values others : List Value} → Some (Scope text parent values) ≡ Some (Scope other round others) → values ≡ others
values_same e = cc

text_same : {text other : List ℕ} {parent round : Option ℕ} {values others : List Value} → Some (Scope text parent values) ≡ Some (Scope other round others) → text ≡ other
text_same e = cc

-- a name without its value isn't mentioned
unsaid : (told : Told) (heap : StoredHeap) → IsTypedHeap fitting heap.objects → (id position : ℕ) (fields : List Field) (parent : Option ℕ) (values : List Value) (ty : TyView) →
    object_at heap.objects id ≡ Some (Scope (class_text (codes "scope") fields) parent values) → IsNamed (codes "scope") fields → At (IsOfType ty) fields position →
    value_at values position ≡ Nil → (HasValue ty Nil → ⊥) → IsMentioned heap id position → ⊥
unsaid told heap typed id position fields parent values ty is named at nil none m =
    let p = in_object heap.objects m.object m.of m.scope (typed m.holder m.object m.is) m.has in
    let declared = body_declares p.1.levels m.of p.1.fit m.out position m.mentioned in
    let there = out_there heap.objects id m.scope m.out p.1.levels position declared.0 m.round p.1.stand declared.1 in
    let same = told.classes (codes "scope") (codes "scope") there.level.names fields there.named named (text_same (sym there.is ∙ is)) in
    let type_is : declared.0 ≡ ty = one_type fields position declared.0 ty (subst (λ (fs : List Field). At (IsOfType declared.0) fs position) same.1 there.at.0) at in
    none (subst (λ (t : TyView). HasValue t Nil) type_is
    (subst (HasValue declared.0) nil (subst (λ (vs : List Value). HasValue declared.0 (value_at vs position)) (values_same (sym there.is ∙ is)) there.has)))

first_fit : (told : Told) (heap : StoredHeap) → IsTypedHeap fitting heap.objects → (id position : ℕ) (fields : List Field) (parent : Option ℕ) (values : List Value) (ty : TyView) (v : Value) →
    object_at heap.objects id ≡ Some (Scope (class_text (codes "scope") fields) parent values) → IsNamed (codes "scope") fields → At (IsOfType ty) fields position →
    value_at values position ≡ v → v ≡ first_value (form_of_type ty) →
    IsFitValue heap.objects ty v ⊎ ((v ≡ first_value (form_of_type ty)) × (IsMentioned heap id position → ⊥))
first_fit told heap typed id position fields parent values types.Int v is named at v_is e = inl (subst (IsFitValue heap.objects types.Int) (sym e) refl)
first_fit told heap typed id position fields parent values types.Bool v is named at v_is e = inl (subst (IsFitValue heap.objects types.Bool) (sym e) tt)
first_fit told heap typed id position fields parent values types.Pntr v is named at v_is e = inl (subst (IsFitValue heap.objects types.Pntr) (sym e) tt)
first_fit told heap typed id position fields parent values types.Str v is named at v_is e =
    inr (e, unsaid told heap typed id position fields parent values types.Str is named at (v_is ∙ e) (λ h. absurd cc))
first_fit told heap typed id position fields parent values types.Void v is named at v_is e =
    inr (e, unsaid told heap typed id position fields parent values types.Void is named at (v_is ∙ e) (λ h. absurd cc))
first_fit told heap typed id position fields parent values (types.Vector element) v is named at v_is e =
    inr (e, unsaid told heap typed id position fields parent values (types.Vector element) is named at (v_is ∙ e) (λ h. absurd cc))
first_fit told heap typed id position fields parent values (types.Proc parameters gives) v is named at v_is e =
    inr (e, unsaid told heap typed id position fields parent values (types.Proc parameters gives) is named at (v_is ∙ e) (λ h. absurd cc))

names_fit : (told : Told) (heap : StoredHeap) → IsTypedHeap fitting heap.objects → (id position : ℕ) (parent : Option ℕ) (front fields : List Field) (before vs : List Value) →
    object_at heap.objects id ≡ Some (Scope (class_text (codes "scope") (front ++ fields)) parent (before ++ vs)) → IsNamed (codes "scope") (front ++ fields) →
    length front ≡ position → length before ≡ position → AreNames fitting heap.objects fields vs → AreFitNames heap id position fields vs
names_fit told heap typed id position parent front [] before [] is named long same h = tt
names_fit told heap typed id position parent front [] before (v ∷ vs) is named long same h = absurd h
names_fit told heap typed id position parent front (field ∷ fields) before [] is named long same h = absurd h
names_fit told heap typed id position parent front (field ∷ fields) before (v ∷ vs) is named long same h = (
  elim h.0 [
    | inl value ↦ inl (value_fit heap.objects field.ty v value.1 value.0)
    | inr first ↦ first_fit told heap typed id position (front ++ field ∷ fields) parent (before ++ v ∷ vs) field.ty v is named
        (subst (At (IsOfType field.ty) (front ++ field ∷ fields)) long (at_here front field fields))
        (ap (value_at (before ++ v ∷ vs)) (sym same) ∙ value_here before v vs) first
  ],
  names_fit told heap typed id (position + 1) parent (front ++ field ∷ []) fields (before ++ v ∷ []) vs
      (is ∙ ap (λ (fs : List Field). Some (Scope (class_text (codes "scope") fs) parent (before ++ v ∷ vs))) (sym (append_assoc front (field ∷ []) fields))
      ∙ ap (λ (ws : List Value). Some (Scope (class_text (codes "scope") ((front ++ field ∷ []) ++ fields)) parent ws)) (sym (append_assoc before (v ∷ []) vs)))
      (subst (IsNamed (codes "scope")) (sym (append_assoc front (field ∷ []) fields)) named)
      (omega (arith, long, length-append front (field ∷ []))) (omega (arith, same, length-append before (v ∷ []))) h.1,
)

-- Objects, and the heap.

table_fit : (heap : Heap) (table : Table) → IsTypedTable heap table → IsInKeyOrder table → IsFitTable heap table
table_fit heap without_keys h order = tt
table_fit heap (by_strings entries) h order = (h, order)
table_fit heap (by_ints entries) h order = (h, order)

object_fit : (told : Told) (heap : StoredHeap) → IsTypedHeap fitting heap.objects → (id : ℕ) (object : Object) → object_at heap.objects id ≡ Some object →
    IsTypedObject fitting heap.objects object → IsFitObject heap id object
object_fit told heap typed id (Structure class vs) is h =
    record { name = h.name; fields = h.fields; named = h.named; class_is = h.class_is; are = fields_fit heap.objects h.fields vs h.nonvoid h.are }
object_fit told heap typed id (Elements text low vs) is h = record {
  element = h.element;
  valued = let one = some_element heap.objects h.element low vs h.fits h.are in value_valued told heap.objects typed h.element one.0 h.nonvoid one.1;
  text_is = h.text_is;
  low_is = h.low_is;
  fits = h.fits;
  are = elements_fit heap.objects h.element vs h.nonvoid h.are;
}
object_fit told heap typed id (Scope text parent vs) is h = record {
  names = h.fields;
  named = h.named;
  text_is = h.text_is;
  scopes = h.round.0;
  round = h.round.1;
  are = names_fit told heap typed id 0 parent [] h.fields [] vs (is ∙ ap (λ (t : List ℕ). Some (Scope t parent vs)) h.text_is) h.named refl refl h.are;
}
object_fit told heap typed id (Keyed table) is h = table_fit heap.objects table h.0 h.1

pub saved_fit : (told : Told) (heap : StoredHeap) → AreFitDatabases heap → IsTypedHeap fitting heap.objects → IsFitHeap heap
saved_fit told heap databases typed = record {
  few = databases.few;
  databases = databases.databases;
  once = databases.once;
  each = λ id r.
      let at = databases.homed id r in
      let o = object-there heap.objects id at.there in
      record {
        object = o.0;
        is = o.1;
        fit = object_fit told heap typed id o.0 o.1 (typed id o.0 o.1);
        home = at.home;
        home_is = at.home_is;
        first = at.number.0;
        last = at.number.1;
      };
}
