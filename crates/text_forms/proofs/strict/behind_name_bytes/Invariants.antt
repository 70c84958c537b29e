use Rattle.std.proofs.Common.{◌≡◌, drop}
use Rattle.text_forms.specs.inside.Reading.{drop_name}
use Rattle.text_forms.proofs.strict.behind_name_bytes.Given as goal

-- the bytes of a name stand before the place
abbrev pub invariant-loop-place : goal.invariant-loop-place
invariant-loop-place l = drop_name (drop l.place l.rest) ≡ drop_name l.rest
