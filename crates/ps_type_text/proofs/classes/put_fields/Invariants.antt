use Rattle.std.proofs.Common.{◌≡◌, ◌++◌, take}
use Rattle.ps_type_text.specs.Texts.{fields_text}
use Rattle.ps_type_text.specs.Members.{fields_of}
use Rattle.ps_type_text.proofs.classes.put_fields.Given as goal

-- the texts of the fields before the place were put
abbrev pub invariant-loop-place : goal.invariant-loop-place
invariant-loop-place l = l.into.items ≡ l.initial.into.items ++ fields_text (fields_of (take l.place l.fields))
