-- Which fields of a class lie in each row, and which of its numbers are bools.
use Rattle.std.specs.Prelude.{◌≡◌, ◌⊎◌, ℕ, ◌<◌, ◌≤◌, ◌/◌, ◌%◌, List, [], ◌∷◌}
use Rattle.heap_places.specs.text_forms.declared.forms.Form.{Form}
use Rattle.heap_places.specs.text_forms.declared.forms.Form.TheVariants.{Number, Flag, Reference}
use Rattle.heap_places.specs.text_forms.declared.forms.Rows.{Rows}
use Rattle.heap_places.specs.text_forms.Forms.{rows_of}
use Rattle.structure_rows.specs.declared.marks.FieldRows.{FieldRows}

-- The bits of a number, the lowest first, tell which of the fields that are numbers are bools.
abbrev pub AreMarked : ℕ → List Form → Type 0
AreMarked bits [] = Unit {0}
AreMarked bits (Number ∷ forms) = (bits % 2 ≡ 0) × AreMarked (bits / 2) forms
AreMarked bits (Flag ∷ forms) = (bits % 2 ≡ 1) × AreMarked (bits / 2) forms
AreMarked bits (Reference ∷ forms) = AreMarked bits forms

-- at most 64 are numbers, and 65,535 references
pub record AreFew (rows : Rows) : Type 0 where
  pub nums : rows.nums ≤ 64
  pub refs : rows.refs ≤ 65535

-- more are numbers, or references
abbrev pub HasTooMany : List Form → Type 0
HasTooMany forms = (64 < (rows_of forms).nums) ⊎ (65535 < (rows_of forms).refs)

-- So many of the fields of these forms lie in each row, and of those among the numbers these are bools.
pub record TellRows (fields : FieldRows) (forms : List Form) : Type 0 where
  pub few : AreFew fields.rows
  pub rows : fields.rows ≡ rows_of forms
  pub marked : AreMarked fields.flags.bits forms
