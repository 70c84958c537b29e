-- What the code keeps of names and fields, as the rules of scope speak of them.
use Rattle.std.specs.Rc.{rc_value}
use Rattle.ps_base.specs.List.{items_of}
use Rattle.ps_base.specs.TyView.{ty_view, ty_views}
use Rattle.ps_typing.specs.Names.{Declared, FieldOf}
use Rattle.ps_typing.specs.Names as names
use Rattle.ps_scope.specs.declared.field.Field.{Field}
use Rattle.ps_scope.specs.declared.meaning.Class.{Class}
use Rattle.ps_scope.specs.declared.meaning.Local.{Local}
use Rattle.ps_scope.specs.declared.meaning.Meaning.{Meaning}
use Rattle.ps_scope.specs.declared.meaning.Meaning.TheVariants as meaning
use Rattle.ps_scope.specs.declared.meaning.Procedure.{Procedure}
use Rattle.ps_scope.specs.declared.meaning.Procedure.TheVariants as procedure

abbrev pub procedure_of : Procedure → names.Procedure
procedure_of (procedure.Plain code signature) = names.plain code (ty_views (items_of (rc_value signature).parameters)) (ty_view (rc_value signature).gives)
procedure_of (procedure.Scan text) = names.scan text

abbrev pub local_of : Local → names.Meaning
local_of local = names.local local.number (ty_view local.ty) local.variable

abbrev pub class_of : Class → names.Meaning
class_of class = names.class (rc_value class.text) (ty_views (items_of class.fields))

abbrev pub meaning_of : Meaning → names.Meaning
meaning_of (meaning.Local local) = local_of local
meaning_of (meaning.Class class) = class_of (rc_value class)
meaning_of (meaning.Library procedure) = names.library (procedure_of procedure)

abbrev pub field_of : Field → FieldOf
field_of field = record { name = field.name; class = rc_value field.class; index = field.index; ty = ty_view field.ty }
