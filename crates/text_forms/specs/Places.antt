-- What is so of the place of a number.
use Rattle.std.specs.Prelude.{◌≡◌, ℕ, ◌<◌, List, length, Some}
use Rattle.text_forms.specs.declared.forms.Form.{Form}
use Rattle.text_forms.specs.declared.forms.Place.{Place}
use Rattle.text_forms.specs.declared.forms.Located.{Located}
use Rattle.text_forms.specs.Forms.{form_in, rows_of, count_in, is_number_form}

-- The place of this number: its form, and where it lies among those of its row.
pub record IsPlaceIn (forms : List Form) (number : ℕ) (located : Located) : Type 0 where
  pub inside : number < length forms
  pub form : form_in forms number ≡ Some located.place.form
  pub rows : located.rows ≡ rows_of forms
  pub index : located.place.index < count_in located.place.form located.rows

-- Both lie in one row, and at one index there.
pub record AreOnePlace (a b : Place) : Type 0 where
  pub row : is_number_form a.form ≡ is_number_form b.form
  pub index : a.index ≡ b.index
