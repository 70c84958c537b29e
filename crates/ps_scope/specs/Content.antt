-- What a scope contains: names and fields from the outermost to the innermost, of which so many stand in blocks around, and the
-- locals in the order of their numbers; and the names that it stands for.
use Rattle.std.specs.Prelude.{ℕ, List, map, reverse, take, drop}
use Rattle.ps_type_text.specs.Members.{fields_of}
use Rattle.ps_type_text.specs.declared.classes.Member.{Member}
use Rattle.ps_typing.specs.Names.{Names, Declared}
use Rattle.ps_scope.specs.Views.{meaning_of, field_of}
use Rattle.ps_scope.specs.declared.declaration.Declaration.{Declaration}
use Rattle.ps_scope.specs.declared.field.Field.{Field}

pub record Content : Type 0 where
  pub names : List Declaration
  pub names_around : ℕ
  pub fields : List Field
  pub fields_around : ℕ
  pub locals : List Member

abbrev pub declared_of : Declaration → Declared
declared_of declaration = record { name = declaration.name; meaning = meaning_of declaration.meaning }

abbrev pub names_of : Content → Names
names_of content = record {
  here = map declared_of (reverse (drop content.names_around content.names));
  around = map declared_of (reverse (take content.names_around content.names));
  fields_here = map field_of (reverse (drop content.fields_around content.fields));
  fields_around = map field_of (reverse (take content.fields_around content.fields));
  all = fields_of content.locals;
}
