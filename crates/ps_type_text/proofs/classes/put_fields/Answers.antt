use Rattle.std.proofs.Common.{◌++◌, ap, ◌∙◌}
use Rattle.ps_type_text.specs.Texts.{field_text}
use Rattle.ps_type_text.specs.Members.{field_of}
use Rattle.ps_type_text.proofs.Putting.{one_field}
use Rattle.ps_type_text.proofs.classes.put_fields.Goals as goal

pub loop-place-preserved : goal.loop-place-preserved
loop-place-preserved c =
    one_field c.loop-place.place c.index-fields-place.result c.args.fields.now c.args.into.now.items c.loop-place.into.items c.put_semicolon.new.into.items c.put_field.new.into.items
    c.loop-place-test.true c.loop-place.invariant c.in_ok-put_semicolon.ensures (c.in_ok-put_field.ensures ∙ ap (λ m. c.put_semicolon.new.into.items ++ field_text (field_of m)) c.index-fields-place.is)
