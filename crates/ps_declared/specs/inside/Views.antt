-- What the check takes out of the tree of a text, as the rules speak of it.
use Rattle.std.specs.Prelude.{List, map, Option, Some, None}
use Rattle.std.specs.Borrow.{Bor}
use Rattle.ps_base.specs.TyView.{ty_view}
use Rattle.ps_declared.specs.declared.fields.FieldName.{FieldName}
use Rattle.ps_tree.specs.Phrase.{NameAt, GroupAt, MaybePhrase, absent, present, phrase_of, groups_in, named}
use Rattle.ps_tree.specs.declared.rough.Rough.{Rough}
use Rattle.ps_declared.specs.declared.declarators.Declarator.{Declarator}
use Rattle.ps_declared.specs.declared.looks.Literal.{Literal}
use Rattle.ps_declared.specs.inside.Looks.{LiteralAt}

abbrev pub literal_of : Literal → LiteralAt
literal_of literal = record { params = groups_in literal.params.now; gives = ty_view literal.gives.now; s = phrase_of literal.s.now; line = literal.line }

-- a name that is declared, with its type
abbrev pub group_of : Declarator → GroupAt
group_of declarator = record { ty = ty_view declarator.ty.now; name = named declarator.name.now }

abbrev pub groups_of : List Declarator → List GroupAt
groups_of declarators = map group_of declarators

-- a clause that may be left out
abbrev pub maybe_lent : Option (Bor Rough) → MaybePhrase
maybe_lent None = absent
maybe_lent (Some rough) = present (phrase_of rough.now)

-- a name by itself
abbrev pub name_at : FieldName → NameAt
name_at name = record { name = name.name.now; line = name.line }
