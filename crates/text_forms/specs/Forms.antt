-- What a text of a class, of a scope or of a vector's type tells of the places of its objects: what each holds, and where it lies.
use Rattle.std.specs.Prelude.{ℕ, suc, zero, ◌+◌, ◌==◌, Bool, true, false, not, if◌then◌else◌, List, [], ◌∷◌, Option, Some, None, codes}
use Rattle.text_forms.specs.declared.forms.Form.{Form}
use Rattle.text_forms.specs.declared.forms.Form.TheVariants.{Number, Flag, Reference}
use Rattle.text_forms.specs.declared.forms.Rows.{Rows}
use Rattle.text_forms.specs.declared.forms.Located.{Located}

-- the bytes begin with these
unfoldable pub begins : List ℕ → List ℕ → Bool
begins [] bytes = true
begins (c ∷ cs) [] = false
begins (c ∷ cs) (b ∷ bs) = if b == c then begins cs bs else false

-- the form of the field that begins here: its type stands before a blank
unfoldable pub form_here : List ℕ → Form
form_here bytes = if begins (codes "int ") bytes then Number else (if begins (codes "bool ") bytes then Flag else Reference)

-- The forms of the fields from here on. A field begins after a semicolon; the bracket that closes begins none.
unfoldable pub forms_from : Bool → List ℕ → List Form
forms_from begun [] = []
forms_from false (b ∷ bs) = forms_from (b == 59) bs
forms_from true (b ∷ bs) = if b == 41 then [] else form_here (b ∷ bs) ∷ forms_from (b == 59) bs

-- The forms of the fields of a class, or of the names of a scope: the first begins after the opening bracket.
unfoldable pub forms_of : List ℕ → List Form
forms_of [] = []
forms_of (b ∷ bs) = if b == 40 then forms_from true bs else forms_of bs

-- these are all the bytes
unfoldable pub is_text : List ℕ → List ℕ → Bool
is_text [] [] = true
is_text [] (b ∷ bs) = false
is_text (c ∷ cs) [] = false
is_text (c ∷ cs) (b ∷ bs) = if b == c then is_text cs bs else false

-- the form of the elements of a vector whose type has this text
unfoldable pub element_of : List ℕ → Form
element_of text = if is_text (codes "*int") text then Number else (if is_text (codes "*bool") text then Flag else Reference)

-- numbers and flags lie in the row of number words, all else in the row of references
abbrev pub is_number_form : Form → Bool
is_number_form Number = true
is_number_form Flag = true
is_number_form Reference = false

-- how many places of the row in which such a place lies
abbrev pub count_in : Form → Rows → ℕ
count_in form rows = if is_number_form form then rows.nums else rows.refs

-- the rows with one place more
abbrev pub one_more : Form → Rows → Rows
one_more form rows = if is_number_form form then record { refs = rows.refs; nums = rows.nums + 1 } else record { refs = rows.refs + 1; nums = rows.nums }

-- how many places lie in each row
unfoldable pub rows_of : List Form → Rows
rows_of [] = record { refs = 0; nums = 0 }
rows_of (form ∷ forms) = one_more form (rows_of forms)

-- both lie in one row
abbrev pub is_same_row : Form → Form → Bool
is_same_row a b = if is_number_form a then is_number_form b else not (is_number_form b)

-- how many of the first so many places lie in the same row as this form
unfoldable pub before_in : Form → List Form → ℕ → ℕ
before_in form forms zero = 0
before_in form [] (suc n) = 0
before_in form (f ∷ forms) (suc n) = (if is_same_row form f then 1 else 0) + before_in form forms n

-- the form of a place
unfoldable pub form_in : List Form → ℕ → Option Form
form_in [] n = None
form_in (form ∷ forms) zero = Some form
form_in (form ∷ forms) (suc n) = form_in forms n

-- the place of this number, which has this form: how many places of its row come before it, and how many there are in each row
abbrev pub located_as : List Form → ℕ → Option Form → Option Located
located_as forms n None = None
located_as forms n (Some form) = Some (record { place = record { form = form; index = before_in form forms n }; rows = rows_of forms })

-- the place of this number, from 0
unfoldable pub located_in : List Form → ℕ → Option Located
located_in forms n = located_as forms n (form_in forms n)
