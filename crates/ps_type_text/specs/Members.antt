-- The fields of a class in code, as fields.
use Rattle.std.specs.Prelude.{List, map}
use Rattle.ps_base.specs.TyView.{ty_view}
use Rattle.ps_type_text.specs.declared.classes.Member.{Member}
use Rattle.ps_type_text.specs.Texts.{Field}

abbrev pub field_of : Member → Field
field_of member = record { ty = ty_view member.ty; name = member.name }

abbrev pub fields_of : List Member → List Field
fields_of members = map field_of members
