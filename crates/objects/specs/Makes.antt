-- Classes by which structures are made of the rows of their fields.
use Rattle.std.specs.Prelude.{◌≡◌, ◌⊎◌, ℕ, ℤ, List, [], ◌∷◌, Option, Some, None, Result, Ok, Err}
use Rattle.ps_base.specs.CodeUnit.{ConstantsView, text}
use Rattle.joint_ops.specs.ps_outside.Outside.{Outside}
use Rattle.joint_ops.specs.obj_layout.Stored.{Space}
use Rattle.joint_ops.specs.obj_layout.declared.kind.Kind.TheVariants as kind
use Rattle.joint_ops.specs.obj_layout.declared.reference.Reference as reference
use Rattle.joint_ops.specs.swizzle.Heap as area
use Rattle.joint_ops.specs.swizzle.Heap.{IsHeld, header_at}
use Rattle.joint_ops.specs.swizzle.Text.{text_at}
use Rattle.joint_ops.specs.swizzle.declared.fault.SwizzleFault.{SwizzleFault}
use Rattle.joint_ops.specs.text_forms.declared.forms.Form.{Form}
use Rattle.joint_ops.specs.text_forms.declared.forms.Form.TheVariants as form
use Rattle.joint_ops.specs.text_forms.Forms.{forms_of}
use Rattle.joint_ops.specs.proc_values.Loaded.{constant_numbered}
use Rattle.joint_ops.specs.ps_heap.Values.{Value, Num, Flag, is_one}
use Rattle.joint_ops.specs.World.{DenotesIn}
use Rattle.structure_rows.specs.Marks.{HasTooMany, TellRows}
use Rattle.structure_rows.specs.Rows.{object_in}
use Rattle.objects.specs.declared.class_rows.ClassRows.{ClassRows}
use Rattle.objects.specs.declared.known_makes.KnownMake.{KnownMake}
use Rattle.objects.specs.Fields.{IsConstantText}
use Rattle.objects.specs.Classes.{AnswersClass}

-- The text of a class lies in the area, and names so many fields in each row.
pub record HasRows (here : area.Heap) (class : ClassRows) : Type 0 where
  pub held : IsHeld here class.text
  pub kind : (header_at here class.text).kind ≡ kind.Text
  pub tells : TellRows class.fields (forms_of (text_at here class.text))

-- It has the bytes of the text to which a code object refers as its constant of this number.
pub record IsMadeBy (here : area.Heap) (code constant : ℕ) (class : ClassRows) : Type 0 where
  pub rows : HasRows here class
  pub named : ℕ
  pub is : IsConstantText here code constant named
  pub same : text_at here class.text ≡ text_at here named

-- each entry says what is so, or nothing, where its text is 0
abbrev pub AreSo : area.Heap → List KnownMake → Type 0
AreSo here [] = Unit {0}
AreSo here (known ∷ rest) = ((known.class.text ≡ 0) ⊎ IsMadeBy here known.code known.constant known.class) × AreSo here rest

module _ (old new : area.Heap) (before after : Outside Space) where
  -- The class that is the constant of this number of a unit, or none where it has too many fields; else it fails as that of a class does.
  abbrev pub AnswersRows : ℕ → ConstantsView → ℕ → Result (Option ClassRows) SwizzleFault → Type 0
  AnswersRows code row constant (Ok (Some class)) = constant_numbered row constant ≡ Some (text (text_at new class.text))
  AnswersRows code row constant (Ok None) = (class : List ℕ) × (constant_numbered row constant ≡ Some (text class)) × HasTooMany (forms_of class)
  AnswersRows code row constant (Err fault) = AnswersClass old new before after code row constant (Err fault)

-- Numbers and words, each row in its order, stand for values of fields of these forms: a number for an int, or for whether it is above 0; and a word
-- for what the object denotes that it names.
abbrev pub AreRowsFor : area.Heap → Outside Space → List reference.Reference → List Form → List ℤ → List ℕ → List Value → Type 0
AreRowsFor here outside names [] [] [] [] = Unit {0}
AreRowsFor here outside names (form.Number ∷ fs) (z ∷ zs) ws (v ∷ vs) = (v ≡ Num z) × AreRowsFor here outside names fs zs ws vs
AreRowsFor here outside names (form.Flag ∷ fs) (z ∷ zs) ws (v ∷ vs) = (v ≡ Flag (is_one z)) × AreRowsFor here outside names fs zs ws vs
AreRowsFor here outside names (form.Reference ∷ fs) zs (w ∷ ws) (v ∷ vs) = DenotesIn here outside names (object_in w) v × AreRowsFor here outside names fs zs ws vs
AreRowsFor here outside names _ _ _ _ = ⊥
