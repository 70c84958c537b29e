-- What the fields of a class hold, by their types.
use Rattle.ps_type_text.specs.ps_base.TyView.{TyView}
use Rattle.ps_type_text.specs.ps_base.TyView as ty
use Rattle.ps_type_text.specs.Texts.{Field}
use Rattle.text_forms.specs.declared.forms.Form.{Form}
use Rattle.text_forms.specs.declared.forms.Form.TheVariants.{Number, Flag, Reference}

-- what a place of this type holds
abbrev pub form_of_type : TyView → Form
form_of_type ty.Int = Number
form_of_type ty.Bool = Flag
form_of_type _ = Reference

abbrev pub form_of_field : Field → Form
form_of_field field = form_of_type field.ty
