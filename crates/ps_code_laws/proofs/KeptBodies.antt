-- A fit heap that was kept, without what no root reaches, is such a one as a program runs over, where each procedure in it has a unit; and the same is meant over it.
use Rattle.std.proofs.Common.{inl, inr, ◌≡◌, ℕ, zero, suc, ◌+◌, Bool, true, List, [], ◌∷◌, map, length, refl, sym, ap, ◌∙◌, subst, arith, Option, Some}
use Rattle.std.specs.Prelude.{codes}
use Rattle.std.specs.List.{AllByRecursion}
use Rattle.reaching.proofs.Lists.{in-front, in-behind}
use Rattle.ps_gen.specs.ps_base.TyView.{TyView}
use Rattle.ps_gen.specs.ps_base.TyView as types
use Rattle.ps_gen.specs.ps_base.declared.line.Line.{Line}
use Rattle.ps_gen.specs.ps_base.declared.instr.Instr.{Instr}
use Rattle.ps_gen.specs.ps_program.Node.{Node, BodyNode, body}
use Rattle.ps_gen.specs.Units.{HasUnit}
use Rattle.ps_type_text.specs.Texts.{Field, type_text, class_text}
use Rattle.ps_stepping.specs.ps_heap.reaching.Reaching.{IsIn}
use Rattle.ps_stepping.specs.ps_heap.Values.{Value, Num, Flag, Text, Nil, Pointer, Vector, Procedure, as_written, Routine}
use Rattle.ps_stepping.specs.text_forms.Classes.{form_of_type}
use Rattle.ps_stepping.specs.ps_heap.Scopes.{first_value}
use Rattle.ps_stepping.specs.ps_heap.Objects.{Heap, Object, Structure, Elements, Scope, Keyed, object_at, value_at}
use Rattle.ps_stepping.specs.ps_heap.References.{values_of, scope_ids, value_ids, values_ids}
use Rattle.ps_stepping.specs.ps_heap.Held.{StoredHeap}
use Rattle.ps_stepping.specs.ps_meaning.Runs.{Given, events_with}
use Rattle.database_meaning.specs.Same.{IsInHeap}
use Rattle.database_meaning.specs.SameRuns.{AreSameEvents}
use Rattle.ps_soundness.specs.Valued.{IsValued}
use Rattle.ps_soundness.specs.Shapes.{type_of_body}
use Rattle.ps_soundness.proofs.Telling.{Told}
use Rattle.heap_fit.specs.Slots.{mentions}
use Rattle.heap_fit.specs.Bodies.{Level, whole, IsFitBody}
use Rattle.heap_fit.specs.Bodies as fit
use Rattle.heap_fit.specs.Heaps.{AreRound, none_round, one_round, IsFitProcedure, IsFitValue, AreFitValues, AreFitNames, IsFitVector, IsFitObject, IsFitHeap, IsOut, here, HasPart}
use Rattle.heap_fit.proofs.Mentioned.{referred, mentioned-holds}
use Rattle.fit_soundness.specs.Cleaned.{cleaned}
use Rattle.fit_soundness.specs.Laws.{program, without_unreached}
use Rattle.fit_soundness.proofs.Narrowing.{body_where_declared}
use Rattle.fit_soundness.proofs.Cleaning.{cleaned_object}
use Rattle.fit_soundness.proofs.Starting.{levels_said, in_said, keeps_said, out_further, cleaned_typed, cleaned_roots}
use Rattle.fit_soundness.proofs.Runs.{goes_same}
use Rattle.ps_code_laws.specs.Literals.{BodyIs, ValueIs, ValuesAre, ObjectIs, HeapIs, HasUnits, HaveUnits, FitsBy, AreLevelsValued, instrs_of}
use Rattle.ps_code_laws.specs.Compiled.{WeighsUnits}
use Rattle.ps_code_laws.proofs.Naming.{names_in_body}
use Rattle.ps_code_laws.proofs.Bodies.{RunsAsMeant, each_true, program_runs}

-- whichever instruction may run
abbrev pub any_instr : Instr → Bool
any_instr i = true

abbrev Runs : BodyNode → Type 0
Runs = FitsBy any_instr

-- a fit body that has a unit runs
unit_runs : (levels : List Level) (of : BodyNode) → IsFitBody levels of → HasUnit of → Runs of
unit_runs levels (body params gives tree scope line) (fit.of_params opens takes t valued slots) unit =
    record { fits = record { valued = valued; slots = slots.few; unit = unit }; each_may = each_true (instrs_of (body params gives tree scope line)) }

body_runs : {levels : List Level} {of : BodyNode} → IsFitBody levels of → AreLevelsValued levels → BodyIs HasUnit (λ ty. Unit {0}) of → BodyIs Runs IsValued of
body_runs is_body valued units = names_in_body HasUnit Runs unit_runs is_body units valued

body_type : {levels : List Level} {of : BodyNode} → IsFitBody levels of → IsValued (type_of_body of)
body_type {of = body params gives tree scope line} (fit.of_params opens takes t valued slots) = valued

some_same : {A : Type 0} {a b : A} → Some a ≡ Some b → a ≡ b
some_same e = cc

part_ids : (values : List Value) (position x : ℕ) → IsIn x (value_ids (value_at values position)) → IsIn x (values_ids values)
part_ids [] position x l = absurd l
part_ids (v ∷ vs) zero x l = in-front x (value_ids v) (values_ids vs) l
part_ids (v ∷ vs) (suc position) x l = in-behind x (value_ids v) (values_ids vs) (part_ids vs position x l)

-- what a name holds at first is no procedure
first_runs : (ty : TyView) → ValueIs Runs (first_value (form_of_type ty))
first_runs types.Int = tt
first_runs types.Bool = tt
first_runs types.Str = tt
first_runs types.Pntr = tt
first_runs types.Void = tt
first_runs (types.Vector element) = tt
first_runs (types.Proc parameters gives) = tt

element_type : (a b : TyView) → types.Vector a ≡ types.Vector b → a ≡ b
element_type a b e = cc

all_at : (P : Object → Type 0) (heap : Heap) → ((id : ℕ) (object : Object) → object_at heap id ≡ Some object → P object) → AllByRecursion P heap
all_at P [] h = tt
all_at P (object ∷ heap) h = (h zero object refl, all_at P heap (λ id other e. h (suc id) other e))

units_at : (P : Object → Type 0) (heap : Heap) (id : ℕ) (object : Object) → AllByRecursion P heap → object_at heap id ≡ Some object → P object
units_at P [] id object h e = absurd cc
units_at P (first ∷ heap) zero object h e = subst P (some_same e) h.0
units_at P (first ∷ heap) (suc id) object h e = units_at P heap id object h.1 e

module _ (told : Told) (stored : StoredHeap) (fit_heap : IsFitHeap stored) where
  abbrev Reached : List ℕ → Type 0
  Reached ids = (x : ℕ) → IsIn x ids → IsInHeap stored x

  -- a value is of a type that has values
  value_valued : (ty : TyView) (v : Value) → Reached (value_ids v) → IsFitValue stored.objects ty v → IsValued ty
  value_valued types.Int v low f = tt
  value_valued types.Bool v low f = tt
  value_valued types.Str v low f = tt
  value_valued types.Pntr v low f = tt
  value_valued types.Void v low f = absurd f
  value_valued (types.Vector element) (Vector id) low f =
      let found = fit_heap.each id (low id (inl refl)) in
      let is : IsFitVector stored.objects (type_text (types.Vector element)) f.low f.elements
      = subst (IsFitObject stored id) (some_same (sym found.is ∙ f.is)) found.fit in
      subst IsValued (sym (element_type element is.element (told.types (types.Vector element) (types.Vector is.element) is.text_is))) is.valued
  value_valued (types.Vector element) v low f = absurd f
  value_valued (types.Proc parameters gives) (Procedure (as_written of) scope) low f = subst IsValued (sym f.ty_is) (body_type f.fit)
  value_valued (types.Proc parameters gives) v low f = absurd f

  -- A procedure in a place of an object that is reached.
  module _ (holder : ℕ) (object : Object) (there : IsInHeap stored holder) (is : object_at stored.objects holder ≡ Some object) where
    -- each name that it mentions is of a type that has values
    said_valued : (of : BodyNode) (first : Option ℕ) → HasPart (Procedure (as_written of) first) (values_of object) → (out : ℕ) (scope : Option ℕ)
        (scopes : List (List Field)) → ((x : ℕ) → scope ≡ Some x → IsOut stored.objects x first out) → Reached (scope_ids scope) →
        AreRound stored.objects scope scopes → AreLevelsValued (levels_said of out scopes)
    said_valued of first has out scope scopes way low none_round = tt
    said_valued of first has out scope scopes way low (one_round {id} {names} {parent} {values} {more} found named rest) =
        let inside = referred stored id (Scope (class_text (codes "scope") names) parent values) (low id (inl refl)) found in (
          λ position ty d. value_valued ty (value_at values position)
              (λ x l. inside x (in-behind x (scope_ids parent) (values_ids values) (part_ids values position x l)))
              (mentioned-holds told stored holder object of first out position id names parent values ty fit_heap there is has (way id refl)
              (in_said out of 0 (length names) position d.1) found named d.0),
          said_valued of first has (out + 1) parent more
              (λ x e. out_further stored.objects id out x first (class_text (codes "scope") names) values (way id refl)
              (found ∙ ap (λ (p : Option ℕ). Some (Scope (class_text (codes "scope") names) p values)) e))
              (λ x l. inside x (in-front x (scope_ids parent) (values_ids values) l)) rest,
        )

    procedure_runs : (ty : TyView) (of : BodyNode) (scope : Option ℕ) → HasPart (Procedure (as_written of) scope) (values_of object) → Reached (scope_ids scope) →
        IsFitProcedure stored.objects ty of scope → BodyIs HasUnit (λ t. Unit {0}) of → BodyIs Runs IsValued of
    procedure_runs ty of scope has low f units =
        body_runs
        (body_where_declared (map whole f.scopes) (levels_said of 0 f.scopes) of f.fit
        (λ out position t at e. keeps_said of 0 f.scopes out position t at (ap (λ n. mentions n position of) (omega arith) ∙ e)))
        (said_valued of scope has 0 scope f.scopes (λ x e. subst (λ (s : Option ℕ). IsOut stored.objects x s 0) (sym e) here) low f.round) units

    value_runs : (ty : TyView) (v : Value) → HasPart v (values_of object) → Reached (value_ids v) → HasUnits v → IsFitValue stored.objects ty v → ValueIs Runs v
    value_runs (types.Proc parameters gives) (Procedure (as_written of) scope) has low units f = procedure_runs (types.Proc parameters gives) of scope has low f units
    value_runs (types.Proc parameters gives) v has low units f = absurd f
    value_runs types.Int (Num z) has low units f = tt
    value_runs types.Int v has low units f = absurd f
    value_runs types.Bool (Flag b) has low units f = tt
    value_runs types.Bool v has low units f = absurd f
    value_runs types.Str (Text bytes) has low units f = tt
    value_runs types.Str v has low units f = absurd f
    value_runs types.Pntr Nil has low units f = tt
    value_runs types.Pntr (Pointer id) has low units f = tt
    value_runs types.Pntr v has low units f = absurd f
    value_runs types.Void v has low units f = absurd f
    value_runs (types.Vector element) (Vector id) has low units f = tt
    value_runs (types.Vector element) v has low units f = absurd f

    abbrev Within : List Value → Type 0
    Within vs = (v : Value) → HasPart v vs → HasPart v (values_of object)

    fields_run : (fields : List Field) (vs : List Value) → Within vs → Reached (values_ids vs) → AllByRecursion HasUnits vs →
        AreFitValues stored.objects fields vs → ValuesAre Runs vs
    fields_run fields [] within low units f = tt
    fields_run [] (v ∷ vs) within low units f = absurd f
    fields_run (field ∷ fields) (v ∷ vs) within low units f = (
      value_runs field.ty v (within v (inl refl)) (λ x l. low x (in-front x (value_ids v) (values_ids vs) l)) units.0 f.0,
      fields_run fields vs (λ w h. within w (inr h)) (λ x l. low x (in-behind x (value_ids v) (values_ids vs) l)) units.1 f.1,
    )

    elements_run : (ty : TyView) (vs : List Value) → Within vs → Reached (values_ids vs) → AllByRecursion HasUnits vs →
        AllByRecursion (IsFitValue stored.objects ty) vs → ValuesAre Runs vs
    elements_run ty [] within low units f = tt
    elements_run ty (v ∷ vs) within low units f = (
      value_runs ty v (within v (inl refl)) (λ x l. low x (in-front x (value_ids v) (values_ids vs) l)) units.0 f.0,
      elements_run ty vs (λ w h. within w (inr h)) (λ x l. low x (in-behind x (value_ids v) (values_ids vs) l)) units.1 f.1,
    )

    names_run : (id position : ℕ) (fields : List Field) (vs : List Value) → Within vs → Reached (values_ids vs) → AllByRecursion HasUnits vs →
        AreFitNames stored id position fields vs → ValuesAre Runs vs
    names_run id position fields [] within low units f = tt
    names_run id position [] (v ∷ vs) within low units f = absurd f
    names_run id position (field ∷ fields) (v ∷ vs) within low units f = (
      elim f.0 [
        | inl value ↦ value_runs field.ty v (within v (inl refl)) (λ x l. low x (in-front x (value_ids v) (values_ids vs) l)) units.0 value
        | inr first ↦ subst (ValueIs Runs) (sym first.0) (first_runs field.ty)
      ],
      names_run id (position + 1) fields vs (λ w h. within w (inr h)) (λ x l. low x (in-behind x (value_ids v) (values_ids vs) l)) units.1 f.1,
    )

  object_runs : (id : ℕ) (object : Object) → IsInHeap stored id → object_at stored.objects id ≡ Some object → AllByRecursion HasUnits (values_of object) →
      IsFitObject stored id object → ObjectIs Runs object
  object_runs id (Structure class vs) there is units f =
      let low = referred stored id (Structure class vs) there is in
      fields_run id (Structure class vs) there is f.fields vs (λ w h. h) (λ x l. low x l) units f.are
  object_runs id (Elements text low_bound vs) there is units f =
      let low = referred stored id (Elements text low_bound vs) there is in
      elements_run id (Elements text low_bound vs) there is f.element vs (λ w h. h) (λ x l. low x l) units f.are
  object_runs id (Scope text parent vs) there is units f =
      let low = referred stored id (Scope text parent vs) there is in
      names_run id (Scope text parent vs) there is id 0 f.names vs (λ w h. h) (λ x l. low x (in-behind x (scope_ids parent) (values_ids vs) l)) units f.are
  object_runs id (Keyed table) there is units f = tt

  cleaned_runs : HaveUnits stored.objects → HeapIs Runs (cleaned stored).objects
  cleaned_runs units = all_at (ObjectIs Runs) (cleaned stored).objects (λ id object e. elim (cleaned_object stored fit_heap id object e) [
    | inl at ↦
        let fits = fit_heap.each id at.0 in
        object_runs id object at.0 at.1 (units_at (λ (o : Object). AllByRecursion HasUnits (values_of o)) stored.objects id object units at.1)
        (subst (IsFitObject stored id) (some_same (sym fits.is ∙ at.1)) fits.fit)
    | inr empty ↦ subst (ObjectIs Runs) (sym empty) tt
  ])

pub kept_runs : (told : Told) (gives : TyView) (tree : Node) (line : Line) (weigh : Routine → ℕ) (given : Given) → WeighsUnits weigh → IsFitHeap given.heap →
    HaveUnits given.heap.objects → IsFitBody [] (program gives tree line) → BodyIs HasUnit (λ ty. Unit {0}) (program gives tree line) →
    RunsAsMeant any_instr weigh (without_unreached given) (program gives tree line)
    × AreSameEvents (events_with weigh given (program gives tree line)) (events_with weigh (without_unreached given) (program gives tree line))
kept_runs told gives tree line weigh given weighs fit_heap units is_body has = (
  program_runs told any_instr gives tree line weigh (without_unreached given) weighs
      (record { typed = cleaned_typed told given.heap fit_heap; roots = cleaned_roots told given.heap fit_heap; fit = cleaned_runs told given.heap fit_heap units })
      is_body (body_runs is_body tt has),
  goes_same weigh given (program gives tree line) fit_heap,
)
