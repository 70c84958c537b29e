-- the fields of the names before the place
use Rattle.std.proofs.Common.{◌≡◌, map, take}
use Rattle.ps_type_text.specs.Members.{fields_of}
use Rattle.ps_typing.specs.Placing.{field_at}
use Rattle.ps_placer.proofs.placer.Placer.fields.Given as goal

abbrev pub invariant-loop-name : goal.invariant-loop-name
invariant-loop-name l = fields_of l.fields.items ≡ map (field_at (fields_of l.self.names.items)) (take l.name-index l.kept)
