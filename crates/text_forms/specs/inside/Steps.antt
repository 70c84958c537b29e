-- The next place of a row.
use Rattle.text_forms.specs.declared.forms.Form.{Form}
use Rattle.text_forms.specs.declared.forms.Place.{Place}
use Rattle.text_forms.specs.declared.forms.Rows.{Rows}
use Rattle.text_forms.specs.Forms.{count_in}

-- where the next place of this form lies, after as many as these
abbrev pub next_place : Form → Rows → Place
next_place form rows = record { form = form; index = count_in form rows }
