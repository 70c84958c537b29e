-- How the fields of a class are counted, one by one.
use Rattle.std.specs.Prelude.{◌≡◌, ℕ, ◌+◌, ◌^◌}
use Rattle.heap_places.specs.text_forms.declared.forms.Form.{Form}
use Rattle.heap_places.specs.text_forms.declared.forms.Form.TheVariants.{Flag, Reference}
use Rattle.heap_places.specs.text_forms.declared.forms.Rows.{Rows}
use Rattle.heap_places.specs.text_forms.Forms.{one_more}
use Rattle.structure_rows.specs.declared.marks.FieldRows.{FieldRows}
use Rattle.structure_rows.specs.Marks.{AreFew}

-- the bits with the mark of a field of this form, after so many others among the numbers
abbrev pub marked_with : ℕ → ℕ → Form → ℕ
marked_with bits count Flag = bits + 2 ^ count
marked_with bits count _ = bits

-- there is no room for a field of this form in its row
abbrev pub IsFullFor : Form → Rows → Type 0
IsFullFor Reference rows = rows.refs ≡ 65535
IsFullFor _ rows = rows.nums ≡ 64

-- one field more was counted
pub record CountsField (fields : FieldRows) (form : Form) (more : FieldRows) : Type 0 where
  pub rows : more.rows ≡ one_more form fields.rows
  pub bits : more.flags.bits ≡ marked_with fields.flags.bits fields.rows.nums form
  pub few : AreFew more.rows
