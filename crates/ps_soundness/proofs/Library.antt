-- A call of the library yields a value of the type that it gives.
use Rattle.std.proofs.Common.{◌≡◌, ℕ, pos, Bool, true, false, List, [], ◌∷◌, length, Option, Some, None, refl, sym, ap, subst}
use Rattle.std.specs.Prelude.{if◌then◌else◌}
use Rattle.std.specs.Str.{bytes_eq}
use Rattle.std.specs.List.{AllByRecursion}
use Rattle.std.specs.Fmt.{signed_decimal}
use Rattle.ps_meaning.specs.ps_base.TyView.{TyView, TyViews}
use Rattle.ps_meaning.specs.ps_base.TyView as types
use Rattle.ps_meaning.specs.ps_base.declared.line.Line.{Line}
use Rattle.ps_meaning.specs.ps_typing.Names.{Declared, lookup, plain, library}
use Rattle.ps_meaning.specs.ps_typing.Names as names
use Rattle.ps_meaning.specs.ps_typing.Library.{procedures, one}
use Rattle.ps_heap.specs.Operators.{is_int}
use Rattle.ps_heap.specs.Texts.{is_string}
use Rattle.ps_heap.specs.Values.{Value, Num, word_of}
use Rattle.ps_heap.specs.Objects.{Heap, value_at}
use Rattle.ps_heap.specs.Library.{CreateDatabase, OpenDatabase, Commit, MakeTable, EnterString, LookUpString, EnterInt, LookUpInt, Cardinality, LibraryProcedure, OnHeap, ReadLine, AtEnd, Length, IntText, library_procedure, text_argument, heap_call}
use Rattle.ps_meaning.specs.Operations.{lib_meant}
use Rattle.ps_soundness.proofs.Notion.{Kind, Notion}
use Rattle.ps_soundness.proofs.Operators.{length_is_int, decimal_is_string}
use Rattle.ps_soundness.proofs.Calling.{ValuesOf, values_kept, sound_read_line, sound_at_end}
use Rattle.ps_soundness.proofs.Combining.{Sound, sound_give, sound_made_text, sound_answered}
use Rattle.ps_soundness.proofs.HeapCalls.{taken_by, given_by, heap_call_typed}
use Rattle.ps_soundness.proofs.Sequences.{int_of, text_of}

-- what a procedure takes and gives
abbrev pub parameters_of : LibraryProcedure → TyViews
parameters_of (OnHeap of) = taken_by of
parameters_of ReadLine = types.none
parameters_of AtEnd = types.none
parameters_of Length = one types.Str
parameters_of IntText = one types.Int

abbrev pub type_given : LibraryProcedure → TyView
type_given (OnHeap of) = given_by of
type_given ReadLine = types.Str
type_given AtEnd = types.Bool
type_given Length = types.Int
type_given IntText = types.Str

-- the types that the library declares for a number are those of its procedure
pub record Fits (code : ℕ) (params : TyViews) (gives : TyView) : Type 0 where
  pub of : LibraryProcedure
  pub by_number : library_procedure code ≡ Some of
  pub takes : params ≡ parameters_of of
  pub gives_it : gives ≡ type_given of

abbrev Tells : names.Meaning → Type 0
Tells (library (plain code params gives)) = Fits code params gives
Tells meaning = Unit {0}

meaning_in : names.Meaning → Option names.Meaning → names.Meaning
meaning_in other (Some meaning) = meaning
meaning_in other None = other

tells_where : (here meaning : names.Meaning) (behind : Option names.Meaning) (b : Bool) → Tells here → (behind ≡ Some meaning → Tells meaning) →
    (if b then Some here else behind) ≡ Some meaning → Tells meaning
unfolding meaning_in
tells_where here meaning behind true h k e = subst Tells (ap (meaning_in here) e) h
tells_where here meaning behind false h k e = k e

tells : (ds : List Declared) (name : List ℕ) (meaning : names.Meaning) → AllByRecursion (λ (d : Declared). Tells d.meaning) ds →
    lookup ds name ≡ Some meaning → Tells meaning
tells [] name meaning h e = absurd cc
tells (d ∷ ds) name meaning h e = tells_where d.meaning meaning (lookup ds name) (bytes_eq d.name name) h.0 (λ k. tells ds name meaning h.1 k) e

library_tells : AllByRecursion (λ (d : Declared). Tells d.meaning) procedures
unfolding library_procedure
library_tells = (record { of = OnHeap CreateDatabase; by_number = refl; takes = refl; gives_it = refl }, (record { of = OnHeap OpenDatabase; by_number = refl; takes = refl; gives_it = refl }, (record { of = OnHeap Commit; by_number = refl; takes = refl; gives_it = refl }, (record { of = OnHeap MakeTable; by_number = refl; takes = refl; gives_it = refl }, (record { of = OnHeap EnterString; by_number = refl; takes = refl; gives_it = refl }, (record { of = OnHeap LookUpString; by_number = refl; takes = refl; gives_it = refl }, (record { of = OnHeap EnterInt; by_number = refl; takes = refl; gives_it = refl }, (record { of = OnHeap LookUpInt; by_number = refl; takes = refl; gives_it = refl }, (record { of = OnHeap Cardinality; by_number = refl; takes = refl; gives_it = refl }, (record { of = ReadLine; by_number = refl; takes = refl; gives_it = refl }, (record { of = AtEnd; by_number = refl; takes = refl; gives_it = refl }, (record { of = Length; by_number = refl; takes = refl; gives_it = refl }, (record { of = IntText; by_number = refl; takes = refl; gives_it = refl }, (tt, (tt, (tt, tt))))))))))))))))

pub library_says : (code : ℕ) (tys : TyViews) (ty : TyView) (name : List ℕ) → lookup procedures name ≡ Some (library (plain code tys ty)) → Fits code tys ty
library_says code tys ty name found = tells procedures name (library (plain code tys ty)) library_tells found

first_text : (kind : Kind) (heap : Heap) (vs : List Value) → ValuesOf kind heap (one types.Str) vs → is_string (text_argument vs 0) ≡ true
first_text kind heap [] h = absurd h
first_text kind heap (v ∷ vs) h = text_of kind heap v h.0

first_int : (kind : Kind) (heap : Heap) (vs : List Value) → ValuesOf kind heap (one types.Int) vs → is_int (word_of (value_at vs 0)) ≡ true
first_int kind heap [] h = absurd h
first_int kind heap (v ∷ vs) h = int_of kind heap v h.0

sound_by_procedure : (notion : Notion) {heap : Heap} {known : notion.Standing} (line : Line) (of : LibraryProcedure) (vs : List Value) → ValuesOf notion.kind heap (parameters_of of) vs →
    Sound notion heap known known (type_given of) (lib_meant line (Some of) vs)
sound_by_procedure notion {heap = heap} line (OnHeap of) vs are =
    sound_answered notion line (heap_call of vs) (λ held g typed. heap_call_typed notion.kind of vs held typed (values_kept notion.kind heap held.objects g (taken_by of) vs are))
sound_by_procedure notion line ReadLine vs are = sound_read_line notion line
sound_by_procedure notion line AtEnd vs are = sound_at_end notion
sound_by_procedure notion {heap = heap} line Length vs are = sound_give notion (Num (pos (length (text_argument vs 0)))) (length_is_int (text_argument vs 0) (first_text notion.kind heap vs are))
sound_by_procedure notion {heap = heap} line IntText vs are =
    sound_made_text notion (signed_decimal (word_of (value_at vs 0))) (decimal_is_string (word_of (value_at vs 0)) (first_int notion.kind heap vs are))

pub sound_library : (notion : Notion) {heap : Heap} {known : notion.Standing} (line : Line) (code : ℕ) (tys : TyViews) (ty : TyView) (name : List ℕ) (vs : List Value) →
    lookup procedures name ≡ Some (library (plain code tys ty)) → ValuesOf notion.kind heap tys vs → Sound notion heap known known ty (lib_meant line (library_procedure code) vs)
sound_library notion {heap = heap} {known = known} line code tys ty name vs found are =
    let told = library_says code tys ty name found in
    subst (λ (t : TyView). Sound notion heap known known t (lib_meant line (library_procedure code) vs)) (sym told.gives_it)
    (subst (λ (of : Option LibraryProcedure). Sound notion heap known known (type_given told.of) (lib_meant line of vs)) (sym told.by_number)
    (sound_by_procedure notion line told.of vs (subst (λ (ts : TyViews). ValuesOf notion.kind heap ts vs) told.takes are)))
