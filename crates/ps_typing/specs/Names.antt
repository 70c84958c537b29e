-- What is in scope at a place of a program: names, and names of fields, which have a space of their own.
use Rattle.std.specs.Prelude.{ℕ, Bool, Option, Some, None, List, [], ◌∷◌, ◌++◌, length, is_some, if◌then◌else◌}
use Rattle.std.specs.Str.{bytes_eq}
use Rattle.ps_tree.specs.ps_base.TyView.{TyView, TyViews}
use Rattle.ps_type_text.specs.Texts.{Field}

-- A library procedure: a plain one has a number, parameters and a result; a scan goes over a table with string keys or int keys.
pub data Procedure : Type 0 where
  plain : (code : ℕ) (params : TyViews) (gives : TyView) → Procedure
  scan : (text : Bool) → Procedure

-- What a name means. A constant, a variable, a parameter or a control is a local, told by its number.
pub data Meaning : Type 0 where
  local : (number : ℕ) (ty : TyView) (variable : Bool) → Meaning
  class : (text : List ℕ) (fields : TyViews) → Meaning
  library : (procedure : Procedure) → Meaning

pub record Declared : Type 0 where
  pub name : List ℕ
  pub meaning : Meaning

-- A field in scope: its class, its position among the fields of the class, and its type.
pub record FieldOf : Type 0 where
  pub name : List ℕ
  pub class : List ℕ
  pub index : ℕ
  pub ty : TyView

-- The names and fields of the block and those of the blocks around it, innermost first; and all locals that were declared so
-- far, in the order of their numbers.
pub record Names : Type 0 where
  pub here : List Declared
  pub around : List Declared
  pub fields_here : List FieldOf
  pub fields_around : List FieldOf
  pub all : List Field

abbrev pub lookup : List Declared → List ℕ → Option Meaning
lookup [] name = None
lookup (d ∷ ds) name = if bytes_eq d.name name then Some d.meaning else lookup ds name

abbrev pub lookup_field : List FieldOf → List ℕ → Option FieldOf
lookup_field [] name = None
lookup_field (f ∷ fs) name = if bytes_eq f.name name then Some f else lookup_field fs name

-- what a name means, and which field it is where a field stands
abbrev pub meant : Names → List ℕ → Option Meaning
meant names name = lookup (names.here ++ names.around) name

abbrev pub field_meant : Names → List ℕ → Option FieldOf
field_meant names name = lookup_field (names.fields_here ++ names.fields_around) name

-- whether the block itself declares a name, or a field
abbrev pub is_declared : Names → List ℕ → Bool
is_declared names name = is_some (lookup names.here name)

abbrev pub is_field_declared : Names → List ℕ → Bool
is_field_declared names name = is_some (lookup_field names.fields_here name)

abbrev pub declare : Names → List ℕ → Meaning → Names
declare names name meaning = record names { here = record { name = name; meaning = meaning } ∷ names.here }

-- a local with the next number
abbrev pub declare_local : Names → List ℕ → TyView → Bool → Names
declare_local names name ty variable =
    record (declare names name (local (length names.all) ty variable)) { all = names.all ++ record { ty = ty; name = name } ∷ [] }

abbrev pub declare_field : Names → FieldOf → Names
declare_field names field = record names { fields_here = field ∷ names.fields_here }

-- where a further block begins, and where it has ended: its names are gone, and their numbers stay taken
abbrev pub inside : Names → Names
inside names = record names { here = []; around = names.here ++ names.around; fields_here = []; fields_around = names.fields_here ++ names.fields_around }

abbrev pub behind : Names → Names → Names
behind before last = record before { all = last.all }
