use Rattle.ps_causes.proofs.Converse.{one_source_fault}
use Rattle.ps_causes.proofs.laws.first_fault_is_unique.Goals as goal

pub returns : goal.returns
returns c text stage other number count line place one two =
    let same = one_source_fault text stage other number count line place one two in
    (same.stages, same.numbers, same.lines)
