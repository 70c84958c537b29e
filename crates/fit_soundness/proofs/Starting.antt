-- A run over a fit heap, without what no root reaches, begins with what is fit for it.
use Rattle.std.proofs.Common.{inl, inr, ◌≡◌, ℕ, zero, suc, ◌+◌, ◌<◌, ◌≤◌, Bool, true, false, List, [], ◌∷◌, map, length, refl, sym, ap, ◌∙◌, subst, arith, Option, Some, if◌then◌else◌}
use Rattle.std.specs.Prelude.{codes}
use Rattle.std.specs.List.{AllByRecursion}
use Rattle.std.proofs.lemmas.Bool.{cases_eq}
use Rattle.reaching.specs.Reaching.{IsIn, at_start}
use Rattle.reaching.proofs.Lists.{in-front, in-behind}
use Rattle.ps_heap.specs.ps_base.TyView.{TyView}
use Rattle.ps_heap.specs.ps_base.TyView as types
use Rattle.ps_soundness.specs.ps_program.Node.{BodyNode}
use Rattle.ps_soundness.specs.ps_type_text.Texts.{Field, class_text, IsNamed}
use Rattle.ps_soundness.specs.ps_typing.Checking.{isnt_void}
use Rattle.ps_soundness.specs.ps_typing.WellTyped.{At, IsOfType}
use Rattle.ps_heap.specs.Values.{Value, Num, Flag, Text, Nil, Pointer, Vector, Procedure, as_written}
use Rattle.ps_heap.specs.Tables.{Entry, Table, without_keys, by_strings, by_ints, IsInKeyOrder}
use Rattle.ps_heap.specs.Objects.{Heap, Object, Structure, Elements, Scope, Keyed, object_at, value_at}
use Rattle.ps_heap.specs.References.{pointers, values_of, scope_ids, value_ids, values_ids, object_ids}
use Rattle.ps_heap.specs.Databases.{Directory, every_root}
use Rattle.ps_heap.specs.Held.{StoredHeap}
use Rattle.database_meaning.specs.Same.{IsInHeap}
use Rattle.ps_soundness.specs.Over.{IsOf, AreOf, AreNames, IsTypedTable, IsTypedObject, IsTypedHeap, AreRoots}
use Rattle.ps_soundness.specs.Shapes.{HasValue}
use Rattle.ps_soundness.proofs.Telling.{Told}
use Rattle.ps_soundness.proofs.Rules.{valued_nonvoid}
use Rattle.heap_fit.specs.Slots.{mentions}
use Rattle.heap_fit.specs.Bodies.{Level, whole, HasDeclared}
use Rattle.heap_fit.specs.Heaps.{IsPointedAt, at_structure, at_table, AreRound, none_round, one_round, IsFitProcedure, IsFitValue, AreFitValues, IsOut, here, further, HasPart, AreFitNames, AreFitEntries, IsFitTable, IsFitDatabase, IsFitObject, IsFitHeap}
use Rattle.heap_fit.proofs.Mentioned.{referred, mentioned-holds}
use Rattle.heap_fit.proofs.TypedFits.{at_below}
use Rattle.fit_soundness.specs.Levels.{AreLevelsAt, IsProcedure, fitting}
use Rattle.fit_soundness.specs.Cleaned.{cleaned}
use Rattle.fit_soundness.proofs.Narrowing.{body_where_declared}
use Rattle.fit_soundness.proofs.Cleaning.{cleaned_same, cleaned_object}

-- The positions of a scope that a body mentions.

abbrev pub said_from : ℕ → BodyNode → ℕ → ℕ → List ℕ
said_from out of from zero = []
said_from out of from (suc n) = if mentions out from of then from ∷ said_from out of (suc from) n else said_from out of (suc from) n

said_in : (out : ℕ) (of : BodyNode) (from n position : ℕ) → from ≤ position → position < from + n → mentions out position of ≡ true → IsIn position (said_from out of from n)
said_in out of from zero position low high e = absurd (omega (arith, low, high))
said_in out of from (suc n) position low high e = elim (cases_eq position from) [
  | inl same ↦
      subst (λ b. IsIn position (if b then from ∷ said_from out of (suc from) n else said_from out of (suc from) n)) (sym (ap (λ k. mentions out k of) (sym same) ∙ e)) (inl same)
  | inr apart ↦ behind (mentions out from of) (said_in out of (suc from) n position (omega (arith, low, apart)) (omega (arith, high)) e)
]
  where
    behind : (b : Bool) → IsIn position (said_from out of (suc from) n) → IsIn position (if b then from ∷ said_from out of (suc from) n else said_from out of (suc from) n)
    behind true h = inr h
    behind false h = h

pub in_said : (out : ℕ) (of : BodyNode) (from n position : ℕ) → IsIn position (said_from out of from n) → mentions out position of ≡ true
in_said out of from zero position h = absurd h
in_said out of from (suc n) position h = go (mentions out from of) refl h (λ k. in_said out of (suc from) n position k)
  where
    go : (b : Bool) → mentions out from of ≡ b → IsIn position (if b then from ∷ said_from out of (suc from) n else said_from out of (suc from) n) →
        (IsIn position (said_from out of (suc from) n) → mentions out position of ≡ true) → mentions out position of ≡ true
    go true e (inl same) rest = ap (λ k. mentions out k of) same ∙ e
    go true e (inr k) rest = rest k
    go false e k rest = rest k

-- the scopes round a body, in which what it mentions is declared
abbrev pub levels_said : BodyNode → ℕ → List (List Field) → List Level
levels_said of out [] = []
levels_said of out (names ∷ more) = record { names = names; declared = said_from out of 0 (length names) } ∷ levels_said of (out + 1) more

pub keeps_said : (of : BodyNode) (out : ℕ) (scopes : List (List Field)) (up position : ℕ) (ty : TyView) → At (HasDeclared position ty) (map whole scopes) up →
    mentions (out + up) position of ≡ true → At (HasDeclared position ty) (levels_said of out scopes) up
keeps_said of out [] up position ty at e = absurd at
keeps_said of out (names ∷ more) up position ty (inl h) e =
    inl (
      h.0,
      (
        h.1.0,
        said_in out of 0 (length names) position (omega arith) (omega (arith, at_below (IsOfType ty) names position h.1.0))
            (ap (λ n. mentions n position of) (omega (arith, h.0)) ∙ e),
      ),
    )
keeps_said of out (names ∷ more) up position ty (inr (before, is, h)) e =
    inr (before, is, keeps_said of (out + 1) more before position ty h (ap (λ n. mentions n position of) (omega (arith, is)) ∙ e))

pub out_further : (heap : Heap) (id out x : ℕ) (scope : Option ℕ) (text : List ℕ) (values : List Value) → IsOut heap id scope out → object_at heap id ≡ Some (Scope text (Some x) values) →
    IsOut heap x scope (out + 1)
out_further heap id out x scope text values here is = further is here
out_further heap id out x scope text values (further there way) is = further there (out_further heap id _ x _ text values way is)

fit_has : (heap : Heap) (ty : TyView) (v : Value) → IsFitValue heap ty v → HasValue ty v
fit_has heap types.Int v h = tt
fit_has heap types.Bool v h = tt
fit_has heap types.Pntr v h = tt
fit_has heap types.Str (Text bytes) h = refl
fit_has heap types.Str v h = absurd h
fit_has heap types.Void v h = absurd h
fit_has heap (types.Vector element) (Vector id) h = refl
fit_has heap (types.Vector element) v h = absurd h
fit_has heap (types.Proc parameters gives) (Procedure (as_written of) scope) h = refl
fit_has heap (types.Proc parameters gives) v h = absurd h

fit_nonvoid : (heap : Heap) (ty : TyView) (v : Value) → IsFitValue heap ty v → isnt_void ty ≡ true
fit_nonvoid heap types.Void v h = absurd h
fit_nonvoid heap types.Int v h = refl
fit_nonvoid heap types.Bool v h = refl
fit_nonvoid heap types.Str v h = refl
fit_nonvoid heap types.Pntr v h = refl
fit_nonvoid heap (types.Vector element) v h = refl
fit_nonvoid heap (types.Proc parameters gives) v h = refl

module _ (told : Told) (stored : StoredHeap) (fit : IsFitHeap stored) where
  abbrev Reached : List ℕ → Type 0
  Reached ids = (x : ℕ) → IsIn x ids → IsInHeap stored x

  -- what is so of each name that a body mentions
  abbrev Holds : BodyNode → Option ℕ → Type 0
  Holds of first = (out position id : ℕ) (names : List Field) (parent : Option ℕ) (values : List Value) (ty : TyView) → IsOut stored.objects id first out →
      mentions out position of ≡ true → object_at stored.objects id ≡ Some (Scope (class_text (codes "scope") names) parent values) → IsNamed (codes "scope") names →
      At (IsOfType ty) names position → IsFitValue stored.objects ty (value_at values position)

  stand_said : (of : BodyNode) (first : Option ℕ) → Holds of first → (out : ℕ) (scope : Option ℕ) (scopes : List (List Field)) →
      ((x : ℕ) → scope ≡ Some x → IsOut stored.objects x first out) → Reached (scope_ids scope) → AreRound stored.objects scope scopes →
      AreLevelsAt (cleaned stored).objects scope (levels_said of out scopes)
  stand_said of first holds out scope scopes way there none_round = refl
  stand_said of first holds out scope scopes way there (one_round {id} {names} {parent} {values} {more} is named rest) = (
    record {
      id = id;
      scope_is = refl;
      parent = parent;
      names = values;
      is = cleaned_same stored fit id (there id (inl refl)) ∙ is;
      named = named;
      have = λ position ty d. fit_has stored.objects ty (value_at values position)
          (holds out position id names parent values ty (way id refl) (in_said out of 0 (length names) position d.1) is named d.0);
    },
    stand_said of first holds (out + 1) parent more
        (λ x e. out_further stored.objects id out x first (class_text (codes "scope") names) values (way id refl)
        (is ∙ ap (λ (p : Option ℕ). Some (Scope (class_text (codes "scope") names) p values)) e))
        (λ x l. referred stored id (Scope (class_text (codes "scope") names) parent values) (there id (inl refl)) is x (in-front x (scope_ids parent) (values_ids values) l)) rest,
  )

  round_too : (scope : Option ℕ) (scopes : List (List Field)) → Reached (scope_ids scope) → AreRound stored.objects scope scopes → AreRound (cleaned stored).objects scope scopes
  round_too scope scopes there none_round = none_round
  round_too scope scopes there (one_round {id} {names} {parent} {values} {more} is named rest) =
      one_round (cleaned_same stored fit id (there id (inl refl)) ∙ is) named
      (round_too parent more (λ x l. referred stored id (Scope (class_text (codes "scope") names) parent values) (there id (inl refl)) is x (in-front x (scope_ids parent) (values_ids values) l)) rest)

  pointed_too : (id : ℕ) → IsInHeap stored id → IsPointedAt stored.objects id → IsPointedAt (cleaned stored).objects id
  pointed_too id there (at_structure class fields is) = at_structure class fields (cleaned_same stored fit id there ∙ is)
  pointed_too id there (at_table table is) = at_table table (cleaned_same stored fit id there ∙ is)

  -- Values in the places of an object that is reached.
  module _ (holder : ℕ) (object : Object) (there : IsInHeap stored holder) (is : object_at stored.objects holder ≡ Some object) where
    procedure_too : (ty : TyView) (of : BodyNode) (scope : Option ℕ) → HasPart (Procedure (as_written of) scope) (values_of object) → Reached (scope_ids scope) →
        IsFitProcedure stored.objects ty of scope → IsProcedure (cleaned stored).objects ty of scope
    procedure_too ty of scope has low f = record {
      levels = levels_said of 0 f.scopes;
      fit = body_where_declared (map whole f.scopes) (levels_said of 0 f.scopes) of f.fit
          (λ out position t at e. keeps_said of 0 f.scopes out position t at (ap (λ n. mentions n position of) (omega arith) ∙ e));
      stand = stand_said of scope (λ out position id names parent values t way said scope_is named at.
          mentioned-holds told stored holder object of scope out position id names parent values t fit there is has way said scope_is named at) 0 scope f.scopes
          (λ x e. subst (λ (s : Option ℕ). IsOut stored.objects x s 0) (sym e) here) low f.round;
      ty_is = f.ty_is;
    }

    value_too : (ty : TyView) (v : Value) → HasPart v (values_of object) → Reached (value_ids v) → IsFitValue stored.objects ty v → IsOf fitting (cleaned stored).objects ty v
    value_too types.Int (Num z) has low f = f
    value_too types.Bool (Flag b) has low f = f
    value_too types.Str (Text bytes) has low f = f
    value_too types.Pntr Nil has low f = f
    value_too types.Pntr (Pointer id) has low f = pointed_too id (low id (inl refl)) f
    value_too (types.Vector element) (Vector id) has low f = record { low = f.low; elements = f.elements; is = cleaned_same stored fit id (low id (inl refl)) ∙ f.is }
    value_too (types.Proc parameters gives) (Procedure (as_written of) scope) has low f = procedure_too (types.Proc parameters gives) of scope has low f
    value_too ty v has low f = absurd f

    abbrev Within : List Value → Type 0
    Within vs = (v : Value) → HasPart v vs → HasPart v (values_of object)

    fields_too : (fields : List Field) (vs : List Value) → Within vs → Reached (values_ids vs) → AreFitValues stored.objects fields vs →
        AreOf fitting (cleaned stored).objects fields vs × AllByRecursion (λ (field : Field). isnt_void field.ty ≡ true) fields
    fields_too [] [] within low f = (tt, tt)
    fields_too [] (v ∷ vs) within low f = absurd f
    fields_too (field ∷ fields) [] within low f = absurd f
    fields_too (field ∷ fields) (v ∷ vs) within low f =
        let rest = fields_too fields vs (λ w h. within w (inr h)) (λ x l. low x (in-behind x (value_ids v) (values_ids vs) l)) f.1 in (
          (value_too field.ty v (within v (inl refl)) (λ x l. low x (in-front x (value_ids v) (values_ids vs) l)) f.0, rest.0),
          (fit_nonvoid stored.objects field.ty v f.0, rest.1),
        )

    elements_too : (ty : TyView) (vs : List Value) → Within vs → Reached (values_ids vs) → AllByRecursion (IsFitValue stored.objects ty) vs →
        AllByRecursion (IsOf fitting (cleaned stored).objects ty) vs
    elements_too ty [] within low f = tt
    elements_too ty (v ∷ vs) within low f = (
      value_too ty v (within v (inl refl)) (λ x l. low x (in-front x (value_ids v) (values_ids vs) l)) f.0,
      elements_too ty vs (λ w h. within w (inr h)) (λ x l. low x (in-behind x (value_ids v) (values_ids vs) l)) f.1,
    )

    names_too : (id position : ℕ) (fields : List Field) (vs : List Value) → Within vs → Reached (values_ids vs) → AreFitNames stored id position fields vs →
        AreNames fitting (cleaned stored).objects fields vs
    names_too id position [] [] within low f = tt
    names_too id position [] (v ∷ vs) within low f = absurd f
    names_too id position (field ∷ fields) [] within low f = absurd f
    names_too id position (field ∷ fields) (v ∷ vs) within low f = (
      elim f.0 [
        | inl value ↦ inl (value_too field.ty v (within v (inl refl)) (λ x l. low x (in-front x (value_ids v) (values_ids vs) l)) value, fit_nonvoid stored.objects field.ty v value)
        | inr first ↦ inr first.0
      ],
      names_too id (position + 1) fields vs (λ w h. within w (inr h)) (λ x l. low x (in-behind x (value_ids v) (values_ids vs) l)) f.1,
    )

  entries_too : {K : Type 0} (IsKey : K → Type 0) (entries : List (Entry K)) → Reached (values_ids (pointers entries)) → AreFitEntries stored.objects IsKey entries →
      AllByRecursion (λ (entry : Entry K). IsKey entry.key × IsPointedAt (cleaned stored).objects entry.object) entries
  entries_too IsKey [] low f = tt
  entries_too IsKey (e ∷ es) low f = ((f.0.0, pointed_too e.object (low e.object (inl refl)) f.0.1), entries_too IsKey es (λ x l. low x (inr l)) f.1)

  table_too : (table : Table) → Reached (object_ids (Some (Keyed table))) → IsFitTable stored.objects table → IsTypedTable (cleaned stored).objects table
  table_too without_keys low f = tt
  table_too (by_strings entries) low f = entries_too _ entries low f.0
  table_too (by_ints entries) low f = entries_too _ entries low f.0

  object_too : (id : ℕ) (object : Object) → IsInHeap stored id → object_at stored.objects id ≡ Some object → IsFitObject stored id object → IsTypedObject fitting (cleaned stored).objects object
  object_too id (Structure class vs) there is f =
      let low = referred stored id (Structure class vs) there is in
      let are = fields_too id (Structure class vs) there is f.fields vs (λ w h. h) (λ x l. low x l) f.are in
      record { name = f.name; fields = f.fields; named = f.named; class_is = f.class_is; nonvoid = are.1; are = are.0 }
  object_too id (Elements text low_bound vs) there is f =
      let low = referred stored id (Elements text low_bound vs) there is in
      record {
        element = f.element;
        nonvoid = valued_nonvoid f.element f.valued;
        text_is = f.text_is;
        low_is = f.low_is;
        fits = f.fits;
        are = elements_too id (Elements text low_bound vs) there is f.element vs (λ w h. h) (λ x l. low x l) f.are;
      }
  object_too id (Scope text parent vs) there is f =
      let low = referred stored id (Scope text parent vs) there is in
      record {
        fields = f.names;
        named = f.named;
        text_is = f.text_is;
        round = (f.scopes, round_too parent f.scopes (λ x l. low x (in-front x (scope_ids parent) (values_ids vs) l)) f.round);
        are = names_too id (Scope text parent vs) there is id 0 f.names vs (λ w h. h) (λ x l. low x (in-behind x (scope_ids parent) (values_ids vs) l)) f.are;
      }
  object_too id (Keyed table) there is f = (table_too table (referred stored id (Keyed table) there is) f, ordered table f)
    where
      ordered : (t : Table) → IsFitTable stored.objects t → IsInKeyOrder t
      ordered without_keys h = tt
      ordered (by_strings entries) h = h.1
      ordered (by_ints entries) h = h.1

  pub cleaned_typed : IsTypedHeap fitting (cleaned stored).objects
  cleaned_typed id object e = elim (cleaned_object stored fit id object e) [
    | inl at ↦
        let fits = fit.each id at.0 in
        object_too id object at.0 at.1 (subst (IsFitObject stored id) (some_same (sym fits.is ∙ at.1)) fits.fit)
    | inr empty ↦ subst (IsTypedObject fitting (cleaned stored).objects) (sym empty) (tt, tt)
  ]
    where
      some_same : {a b : Object} → Some a ≡ Some b → a ≡ b
      some_same same = cc

  roots_too : (ds : Directory) → Reached (every_root ds) → AllByRecursion (IsFitDatabase stored.objects) ds → AreRoots (cleaned stored).objects ds
  unfolding every_root
  roots_too [] low f = tt
  roots_too (d ∷ ds) low f = (at_table f.0.table (cleaned_same stored fit d.root (low d.root (inl refl)) ∙ f.0.root), roots_too ds (λ x l. low x (inr l)) f.1)

  pub cleaned_roots : AreRoots (cleaned stored).objects stored.directory
  cleaned_roots = roots_too stored.directory (λ x l. at_start x l tt) fit.databases
