-- The worked example of docs/formats.md: a class text and a structure are the objects of fifteen used words.
use Rattle.std.proofs.Common.{ℕ, List, [], ◌∷◌, ◌++◌, refl, arith}
use Rattle.obj_layout.specs.declared.kind.Kind.TheVariants.{Text, Structure}
use Rattle.obj_layout.specs.Objects.{text, structure, IsObject, Placed, HoldsObjects}

abbrev class_text : List ℕ
class_text = 1 ∷ 0 ∷ 0x0000000a00000003 ∷ 0 ∷ 0 ∷ 0x20746e6928786f62 ∷ 0x000000000000296e ∷ []

abbrev box : List ℕ
box = 0x0000000100000002 ∷ 0 ∷ 2 ∷ 0 ∷ 0x8000000000000001 ∷ 1 ∷ 4 ∷ []

class_text-object : IsObject class_text
class_text-object =
    record {
      header = record { kind = Text; flags = 0; refs = 0; nums = 3; bytes = 10; pid = 0; chain = 0 };
      contents = text 10;
      fields = record { flags = omega arith; refs = omega arith; nums = omega arith; bytes = omega arith; pid = omega arith; chain = omega arith };
      lengths = record { bytes = omega arith; words = omega arith };
      spelled = refl;
      long = refl;
      holds = record { kind = refl; counted = refl; allowed = tt };
    }

box-object : IsObject box
box-object =
    record {
      header = record { kind = Structure; flags = 0; refs = 1; nums = 2; bytes = 0; pid = 0; chain = 0 };
      contents = structure 0 1;
      fields = record { flags = omega arith; refs = omega arith; nums = omega arith; bytes = omega arith; pid = omega arith; chain = omega arith };
      lengths = record { bytes = omega arith; words = omega arith };
      spelled = refl;
      long = refl;
      holds = record { kind = refl; counted = refl; allowed = tt };
    }

abbrev objects : List Placed
objects = record { pid = 1; words = class_text } ∷ record { pid = 8; words = box } ∷ []

pub worked_out : HoldsObjects (0 ∷ (class_text ++ box)) objects
worked_out = (omega arith, (refl, class_text-object, (box, refl, (refl, box-object, ([], refl, refl)))))
