-- The canonical text of a type, and that of a class.
use Rattle.std.specs.Prelude.{◌≡◌, ℕ, Bool, true, ◌||◌, ◌==◌, List, [], ◌∷◌, ◌++◌, codes}
use Rattle.std.specs.Char.{is_ascii_alphanumeric}
use Rattle.std.specs.List.{AllByRecursion}
use Rattle.ps_base.specs.TyView.{TyView, TyViews, none, more}
use Rattle.ps_base.specs.TyView as ty

-- what a procedure gives, after its parameters: an arrow and the type, and nothing where it gives nothing
abbrev pub result_text : TyView → List ℕ → List ℕ
result_text ty.Void text = []
result_text _ text = codes "->" ++ text

-- `int`, `bool`, `string`, `pntr`; `*` before the elements' type; `proc(int,string->bool)`, `proc(->int)`, `proc()`
abbrev mutual
  pub type_text : TyView → List ℕ
  type_text ty.Int = codes "int"
  type_text ty.Bool = codes "bool"
  type_text ty.Str = codes "string"
  type_text ty.Pntr = codes "pntr"
  type_text ty.Void = codes "void"
  type_text (ty.Vector element) = 42 ∷ type_text element
  type_text (ty.Proc parameters gives) = codes "proc(" ++ (parameters_text parameters ++ (result_text gives (type_text gives) ++ codes ")"))

  pub parameters_text : TyViews → List ℕ
  parameters_text none = []
  parameters_text (more first rest) = type_text first ++ further_text rest

  -- each further parameter has a comma before it
  pub further_text : TyViews → List ℕ
  further_text none = []
  further_text (more next rest) = 44 ∷ (type_text next ++ further_text rest)

-- a field of a class: its type, and its name
pub record Field : Type 0 where
  pub ty : TyView
  pub name : List ℕ

-- a field: its type, a blank, its name
abbrev pub field_text : Field → List ℕ
field_text field = type_text field.ty ++ (32 ∷ field.name)

-- each further field has a semicolon before it
abbrev pub further_fields : List Field → List ℕ
further_fields [] = []
further_fields (next ∷ rest) = 59 ∷ (field_text next ++ further_fields rest)

abbrev pub fields_text : List Field → List ℕ
fields_text [] = []
fields_text (first ∷ rest) = field_text first ++ further_fields rest

-- `person(string name;int age)`
abbrev pub class_text : List ℕ → List Field → List ℕ
class_text name fields = name ++ (40 ∷ (fields_text fields ++ codes ")"))

-- letters, digits and dots, as the names of a text have
unfoldable pub is_name_byte : ℕ → Bool
is_name_byte byte = is_ascii_alphanumeric byte || byte == 46

abbrev pub IsName : List ℕ → Type 0
IsName name = AllByRecursion (λ byte. is_name_byte byte ≡ true) name

pub record IsNamed (name : List ℕ) (fields : List Field) : Type 0 where
  pub class : IsName name
  pub each : AllByRecursion (λ field. IsName field.name) fields
