use Rattle.heap_places.proofs.FillingLaws.{repeated-refs, repeated-nums}
use Rattle.heap_places.proofs.filling.repeated_rows.Goals as goal

pub returns-in-Ref : goal.returns-in-Ref
returns-in-Ref c = repeated-refs c.args.count c.args.value c.in-Ref.field-0 c.in-Ref.is

pub returns-in_default : goal.returns-in_default
returns-in_default c = repeated-nums c.args.count c.args.value c.in_default.not-Ref
