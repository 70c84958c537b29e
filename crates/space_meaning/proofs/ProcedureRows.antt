-- A worked structure with a procedure: its closure refers to the code of the procedure's body, and to no scope. It stands for that body, and not for
-- another one.
use Rattle.std.proofs.Common.{◌≡◌, inl, inr, ℕ, ◌^◌, ◌<◌, FitsSigned, w32, List, [], ◌∷◌, slice_index, refl, ap, subst, arith, pos, None}
use Rattle.std.specs.Prelude.{codes}
use Rattle.std.proofs.lemmas.Int.{fits_signed_from_abs}
use Rattle.heap_meaning.specs.ps_base.TyView as types
use Rattle.heap_meaning.specs.ps_base.Instr.{word}
use Rattle.heap_meaning.specs.ps_base.CodeUnit.{UnitView, unit, text, ConstantsView, no_constants, constant_then}
use Rattle.heap_meaning.specs.ps_base.declared.code_unit.Frame.{Frame}
use Rattle.ps_code_laws.specs.ps_program.Node.{BodyNode, body}
use Rattle.ps_code_laws.specs.ps_program.Node as node
use Rattle.ps_code_laws.specs.ps_gen.Units.{unit_of}
use Rattle.heap_meaning.specs.obj_layout.declared.kind.Kind.TheVariants as kind
use Rattle.heap_meaning.specs.obj_layout.declared.reference.Reference.{Reference}
use Rattle.heap_meaning.specs.obj_layout.declared.reference.Reference.TheVariants.{Nil, Pid}
use Rattle.heap_meaning.specs.obj_layout.Objects.{Placed, IsAmong}
use Rattle.heap_meaning.specs.obj_layout.Objects as contents
use Rattle.heap_meaning.specs.obj_layout.Stored.{Space}
use Rattle.heap_meaning.specs.obj_area.Words.{bytes_of, word_bytes}
use Rattle.heap_meaning.specs.swizzle.Objects.{header_in, reference_at, object_in}
use Rattle.heap_meaning.specs.swizzle.Joint.{Shown, shown_words}
use Rattle.heap_meaning.specs.proc_values.Units.{frame_word}
use Rattle.heap_meaning.specs.proc_values.Loaded.{IsFitUnit}
use Rattle.ps_code_laws.specs.text_forms.Forms.{forms_of, forms_from, form_here, begins}
use Rattle.ps_code_laws.specs.ps_heap.Values.{Value, Procedure, as_written}
use Rattle.ps_code_laws.specs.Compiled.{compiled_routine, compiled_all}
use Rattle.heap_meaning.specs.Units.{IsUnitSeen, shown_code}
use Rattle.heap_meaning.specs.Standing.{AreFor, StandsForProcedure}
use Rattle.heap_meaning.specs.Paired.{paired}
use Rattle.heap_fit.specs.ps_heap.Objects.{Object, Structure}
use Rattle.space_meaning.specs.Space.{IsStored, SeenIn}
use Rattle.space_meaning.specs.Stands.{IsThing}
use Rattle.space_meaning.proofs.Seen.{seen-one}
use Rattle.space_meaning.proofs.Cutting.{each-below}
use Rattle.space_meaning.proofs.Cutting.{pid, at, space_with, is-object, Follow, seen-there, of_text, text-is}

-- The words.

abbrev holder : List ℕ
holder = 0x0000000200000002 ∷ 0 ∷ 1 ∷ 0 ∷ pid 8 ∷ pid 15 ∷ 1 ∷ []

-- "p(proc(->int) f)"
abbrev class : List ℕ
class = 1 ∷ 0 ∷ 0x0000001000000003 ∷ 0 ∷ 0 ∷ 0x2d28636f72702870 ∷ 0x29662029746e693e ∷ []

abbrev closure : List ℕ
closure = 0x0000000200000005 ∷ 0 ∷ 1 ∷ 0 ∷ pid 22 ∷ 0 ∷ 0 ∷ []

-- int 3, return 1
abbrev code : List ℕ
code = 0x0000000100000006 ∷ 0 ∷ 0x0000000a00000004 ∷ 0 ∷ pid 31 ∷ 0 ∷ 0 ∷ 0x00013e0000000301 ∷ 0 ∷ []

-- "proc(->int)"
abbrev type : List ℕ
type = 1 ∷ 0 ∷ 0x0000000b00000003 ∷ 0 ∷ 0 ∷ 0x693e2d28636f7270 ∷ 0x000000000029746e ∷ []

abbrev objects : List Placed
objects = at 1 holder ∷ at 8 class ∷ at 15 closure ∷ at 22 code ∷ at 31 type ∷ []

space : Space
space = space_with objects 0

they-follow : Follow 1 objects
they-follow = (
  refl,
  is-object kind.Structure 2 1 0 (contents.structure 1 0) holder (omega arith) (omega arith) refl refl refl refl tt,
  (
    refl,
    is-object kind.Text 0 3 16 (contents.text 16) class (omega arith) (omega arith) refl refl refl refl tt,
    (
      refl,
      is-object kind.Closure 2 1 0 contents.closure closure (omega arith) (omega arith) refl refl refl refl tt,
      (
        refl,
        is-object kind.Code 1 4 10 (contents.code 1 10) code (omega arith) (omega arith) refl refl refl refl (omega arith),
        (
          refl,
          is-object kind.Text 0 3 11 (contents.text 11) type (omega arith) (omega arith) refl refl refl refl tt,
          tt,
        ),
      ),
    ),
  ),
)

-- What is seen of them.

seen-in : (n : ℕ) (words : List ℕ) (it : Shown) → IsAmong (at n words) objects → IsStored words → it ≡ shown_words words → SeenIn space (Pid n) it
unfolding space
seen-in n words it among stored shown = seen-there objects 0 n words it they-follow among stored shown

abbrev holder_shown : Shown
holder_shown = record { kind = kind.Structure; refs = Pid 8 ∷ Pid 15 ∷ []; nums = 1 ∷ []; bytes = 0 }

abbrev class_shown : Shown
class_shown = of_text 16 (0x2d28636f72702870 ∷ 0x29662029746e693e ∷ [])

abbrev closure_shown : Shown
closure_shown = record { kind = kind.Closure; refs = Pid 22 ∷ Nil ∷ []; nums = 0 ∷ []; bytes = 0 }

abbrev code_shown : Shown
code_shown = record { kind = kind.Code; refs = Pid 31 ∷ []; nums = 0 ∷ 0 ∷ 0x00013e0000000301 ∷ 0 ∷ []; bytes = 10 }

abbrev type_shown : Shown
type_shown = of_text 11 (0x693e2d28636f7270 ∷ 0x000000000029746e ∷ [])

class-seen : SeenIn space (Pid 8) class_shown
unfolding header_in reference_at object_in
class-seen = seen-in 8 class class_shown (inr (inl refl)) (record { flags = refl; pid = refl; chain = refl; refs = tt }) refl

closure-seen : SeenIn space (Pid 15) closure_shown
unfolding header_in reference_at object_in
closure-seen = seen-in 15 closure closure_shown (inr (inr (inl refl)))
    (record { flags = refl; pid = refl; chain = refl; refs = (inr (omega arith), (inl refl, tt)) }) refl

code-seen : SeenIn space (Pid 22) code_shown
unfolding header_in reference_at object_in
code-seen = seen-in 22 code code_shown (inr (inr (inr (inl refl)))) (record { flags = refl; pid = refl; chain = refl; refs = (inr (omega arith), tt) }) refl

type-seen : SeenIn space (Pid 31) type_shown
unfolding header_in reference_at object_in
type-seen = seen-in 31 type type_shown (inr (inr (inr (inr (inl refl))))) (record { flags = refl; pid = refl; chain = refl; refs = tt }) refl

-- The structure of a procedure that gives an int.

abbrev giving : ℕ → BodyNode
giving n = body [] types.Int (node.Int (pos n)) None (record { 0 = 1 })

abbrev values : ℕ → List Value
values n = Procedure (as_written (giving n)) None ∷ []

abbrev holding : ℕ → Object
holding n = Structure (codes "p(proc(->int) f)") (values n)

int-fits : (n : ℕ) → n < 2 ^ 31 → FitsSigned w32 (pos n)
int-fits n low = fits_signed_from_abs w32 (pos n) low

three_is_held : IsThing (SeenIn space) (paired []) holder_shown (holding 3)
unfolding bytes_of word_bytes forms_of forms_from form_here begins compiled_routine IsUnitSeen IsFitUnit frame_word word
three_is_held = (
  record {
    kind_is = refl;
    text_name = Pid 8;
    home = 1;
    names = Pid 15 ∷ [];
    words = [];
    refs = refl;
    nums = refl;
    is_text = text-is (SeenIn space) (Pid 8) 16 (0x2d28636f72702870 ∷ 0x29662029746e693e ∷ []) (codes "p(proc(->int) f)") class-seen refl;
    are = (
      record {
        it = closure_shown;
        there = closure-seen;
        is = record {
          kind_is = refl;
          code_name = Pid 22;
          scope_name = Nil;
          home = 0;
          refs = refl;
          nums = refl;
          is_unit = (
            code_shown,
            code-seen,
            record { kind_is = refl; code_is = refl; frame_is = refl },
            (text-is (SeenIn space) (Pid 31) 11 (0x693e2d28636f7270 ∷ 0x000000000029746e ∷ []) (codes "proc(->int)") type-seen refl, tt),
          );
          fit = (
            each-below 256 (1 ∷ 3 ∷ 0 ∷ 0 ∷ 0 ∷ 62 ∷ 1 ∷ 0 ∷ 0 ∷ 0 ∷ []) (omega arith) refl,
            record { nums = omega arith; refs = omega arith; num_params = omega arith; ref_params = omega arith },
            (each-below 256 (codes "proc(->int)") (omega arith) refl, tt),
          );
          is_scope = refl;
        };
      },
      tt,
    );
  },
  (((int-fits 3 (omega arith), ((omega arith, tt), tt)), tt), tt),
)

procedure-of : (n : ℕ) → IsThing (SeenIn space) (paired []) holder_shown (holding n)
    → StandsForProcedure (SeenIn space) (paired []) (Pid 15) (unit_of (giving n)) None
unfolding forms_of forms_from form_here begins compiled_routine
procedure-of n thing =
    let refs : holder_shown.refs ≡ thing.0.text_name ∷ thing.0.names = thing.0.refs in
    let names : thing.0.names ≡ Pid 15 ∷ [] = cc in
    let forms = forms_of (codes "p(proc(->int) f)") in
    (subst (λ (ns : List Reference). AreFor (SeenIn space) (paired []) forms ns thing.0.words (compiled_all (values n))) names thing.0.are).0

code-of : (of : UnitView) → StandsForProcedure (SeenIn space) (paired []) (Pid 15) of None → IsUnitSeen (SeenIn space) (Pid 22) of
code-of of procedure =
    let it = seen-one space (Pid 15) procedure.it closure_shown procedure.there closure-seen in
    let two = procedure.is.code_name ∷ procedure.is.scope_name ∷ [] in
    let refs : closure_shown.refs ≡ two = subst (λ (shown : Shown). shown.refs ≡ two) it procedure.is.refs in
    let named : procedure.is.code_name ≡ Pid 22 = cc in
    subst (λ (n : Reference). IsUnitSeen (SeenIn space) n of) named procedure.is.is_unit

bytes-of : (bytes : List ℕ) (row : ConstantsView) (frame : Frame) → IsUnitSeen (SeenIn space) (Pid 22) (unit bytes row frame)
    → shown_code code_shown ≡ bytes
unfolding IsUnitSeen
bytes-of bytes row frame of =
    let it = seen-one space (Pid 22) of.0 code_shown of.1 code-seen in
    subst (λ (shown : Shown). shown_code shown ≡ bytes) it of.2.code_is

four_is_another : IsThing (SeenIn space) (paired []) holder_shown (holding 4) → ⊥
unfolding bytes_of word_bytes word
four_is_another thing =
    let of = code-of (unit_of (giving 4)) (procedure-of 4 thing) in
    let frame : Frame = record { nums = 0; refs = 0; num_params = 0; ref_params = 0 } in
    let four = bytes-of (1 ∷ 4 ∷ 0 ∷ 0 ∷ 0 ∷ 62 ∷ 1 ∷ 0 ∷ 0 ∷ 0 ∷ []) (constant_then (text (codes "proc(->int)")) no_constants) frame of in
    let three_four : ◌≡◌ {A = ℕ} 3 4 = ap (λ (bytes : List ℕ). slice_index bytes 1) four in
    absurd (omega arith)
