-- The forms of texts, computed.
use Rattle.std.specs.Prelude.{◌≡◌, [], ◌∷◌, refl, codes, Some, None}
use Rattle.ps_type_text.specs.ps_base.TyView as ty
use Rattle.ps_type_text.specs.Texts.{is_name_byte}
use Rattle.text_forms.specs.Strict.{IsClassText, IsFormAt, of_field, of_element}
use Rattle.text_forms.specs.declared.forms.Form.TheVariants.{Number, Flag, Reference}
use Rattle.text_forms.specs.Forms.{forms_of, forms_from, form_here, begins, element_of, is_text, located_in, form_in, before_in, rows_of}

person : forms_of (codes "person(string name;int age)") ≡ Reference ∷ Number ∷ []
unfolding forms_of forms_from form_here begins
person = refl

nothing : forms_of (codes "empty()") ≡ []
unfolding forms_of forms_from form_here begins
nothing = refl

scope : forms_of (codes "scope(bool b;*int v;int integer;proc(int,bool->int) f)") ≡ Flag ∷ Reference ∷ Number ∷ Reference ∷ []
unfolding forms_of forms_from form_here begins
scope = refl

age : located_in (forms_of (codes "person(string name;int age;bool old;pntr next)")) 3 ≡ Some
    (record { place = record { form = Reference; index = 1 }; rows = record { refs = 2; nums = 2 } })
unfolding located_in rows_of before_in form_in forms_of forms_from form_here begins
age = refl

old : located_in (forms_of (codes "person(string name;int age;bool old;pntr next)")) 2 ≡ Some
    (record { place = record { form = Flag; index = 1 }; rows = record { refs = 2; nums = 2 } })
unfolding located_in rows_of before_in form_in forms_of forms_from form_here begins
old = refl

beyond : located_in (forms_of (codes "person(string name;int age)")) 2 ≡ None
unfolding located_in rows_of before_in form_in forms_of forms_from form_here begins
beyond = refl

ints : element_of (codes "*int") ≡ Number
unfolding element_of is_text
ints = refl

rows_of_ints : element_of (codes "**int") ≡ Reference
unfolding element_of is_text
rows_of_ints = refl

-- fields before and after, and names that begin as a type does
between : forms_of (codes "row(pntr before;bool flag;int integer;string intern)") ≡ Reference ∷ Flag ∷ Number ∷ Reference ∷ []
unfolding forms_of forms_from form_here begins
between = refl

-- a type that only begins so is none of the two
begins_so : forms_of (codes "row(integer a;boolean b;int;bool)") ≡ Reference ∷ Reference ∷ Reference ∷ Reference ∷ []
unfolding forms_of forms_from form_here begins
begins_so = refl

-- procedures' own brackets and commas are no field's
procedures : forms_of (codes "row(proc(int,proc()) f;int n;proc(->bool) g)") ≡ Reference ∷ Number ∷ Reference ∷ []
unfolding forms_of forms_from form_here begins
procedures = refl

-- without a bracket there is no field
unbracketed : forms_of (codes "person;int a;bool b") ≡ []
unfolding forms_of forms_from form_here begins
unbracketed = refl

-- a text that goes on after the bracket, and one that ends early
further : forms_of (codes "row(int a);int b;") ≡ Number ∷ Number ∷ []
unfolding forms_of forms_from form_here begins
further = refl

cut_off : forms_of (codes "row(;int ") ≡ Reference ∷ Number ∷ []
unfolding forms_of forms_from form_here begins
cut_off = refl

-- the elements' whole type counts
longer : element_of (codes "*integer") ≡ Reference
unfolding element_of is_text
longer = refl

shorter : element_of (codes "*boo") ≡ Reference
unfolding element_of is_text
shorter = refl

flags : element_of (codes "*bool") ≡ Flag
unfolding element_of is_text
flags = refl

-- the strict reading of `p(int n;*bool f)` and of `*bool`
p_text : IsClassText (codes "p(int n;*bool f)")
unfolding is_name_byte
p_text = record {
  name = codes "p";
  fields = record { ty = ty.Int; name = codes "n" } ∷ record { ty = ty.Vector ty.Bool; name = codes "f" } ∷ [];
  proper = record { letter = refl; bytes = (refl, tt) };
  each = (
    record { ty = tt; name = record { letter = refl; bytes = (refl, tt) } },
    (record { ty = tt; name = record { letter = refl; bytes = (refl, tt) } }, tt),
  );
  spelled = refl;
}

strict_field : IsFormAt (codes "p(int n;*bool f)") 1 Reference
unfolding p_text form_in
strict_field = of_field p_text refl

strict_element : IsFormAt (codes "*bool") 0 Flag
strict_element = of_element (record { element = ty.Bool; valued = tt; spelled = refl }) refl refl
