-- The library: the names that are declared in a block round the program, which a program may declare anew.
use Rattle.std.specs.Prelude.{ℕ, List, [], ◌∷◌, true, false, codes}
use Rattle.ps_tree.specs.ps_base.TyView.{TyView, TyViews, none, more}
use Rattle.ps_tree.specs.ps_base.TyView as ty
use Rattle.ps_type_text.specs.Texts.{Field, class_text}
use Rattle.ps_typing.specs.Names.{plain, scan, library, class, Declared, FieldOf, Names}

abbrev pub one : TyView → TyViews
one a = more a none

abbrev pub two : TyView → TyView → TyViews
two a b = more a (one b)

abbrev pub three : TyView → TyView → TyView → TyViews
three a b c = more a (two b c)

-- the procedure that a scan calls with each key and its value
abbrev pub caller : TyView → TyView
caller key = ty.Proc (two key ty.Pntr) ty.Bool

abbrev pub procedure : List ℕ → ℕ → TyViews → TyView → Declared
procedure name code params gives = record { name = name; meaning = library (plain code params gives) }

abbrev pub error_fields : List Field
error_fields =
    record { ty = ty.Str; name = codes "error.context" }
    ∷ record { ty = ty.Str; name = codes "error.fault" }
    ∷ record { ty = ty.Str; name = codes "error.explain" }
    ∷ []

abbrev pub error_class : List ℕ
error_class = class_text (codes "error.record") error_fields

abbrev pub procedures : List Declared
procedures =
    procedure (codes "create.database") 0 (two ty.Str ty.Str) ty.Pntr
    ∷ procedure (codes "open.database") 1 (three ty.Str ty.Str ty.Str) ty.Pntr
    ∷ procedure (codes "commit") 2 none ty.Pntr
    ∷ procedure (codes "table") 3 none ty.Pntr
    ∷ procedure (codes "s.enter") 4 (three ty.Str ty.Pntr ty.Pntr) ty.Void
    ∷ procedure (codes "s.lookup") 5 (two ty.Str ty.Pntr) ty.Pntr
    ∷ procedure (codes "i.enter") 6 (three ty.Int ty.Pntr ty.Pntr) ty.Void
    ∷ procedure (codes "i.lookup") 7 (two ty.Int ty.Pntr) ty.Pntr
    ∷ procedure (codes "cardinality") 8 (one ty.Pntr) ty.Int
    ∷ procedure (codes "read.a.line") 9 none ty.Str
    ∷ procedure (codes "eof") 10 none ty.Bool
    ∷ procedure (codes "length") 11 (one ty.Str) ty.Int
    ∷ procedure (codes "iformat") 12 (one ty.Int) ty.Str
    ∷ record { name = codes "s.scan"; meaning = library (scan true) }
    ∷ record { name = codes "i.scan"; meaning = library (scan false) }
    ∷ record { name = codes "error.record"; meaning = class error_class (three ty.Str ty.Str ty.Str) }
    ∷ []

abbrev pub error_field : ℕ → List ℕ → FieldOf
error_field index name = record { name = name; class = error_class; index = index; ty = ty.Str }

-- the names before a program begins
abbrev pub library_names : Names
library_names = record {
  here = [];
  around = procedures;
  fields_here = [];
  fields_around = error_field 0 (codes "error.context") ∷ error_field 1 (codes "error.fault") ∷ error_field 2 (codes "error.explain") ∷ [];
  all = [];
}
