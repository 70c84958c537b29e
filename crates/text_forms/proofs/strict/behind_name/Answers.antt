use Rattle.std.proofs.Common.{sym}
use Rattle.text_forms.proofs.Naming.{name-only}
use Rattle.text_forms.proofs.strict.behind_name.Goals as goal

pub returns-in-Some : goal.returns-in-Some
returns-in-Some c =
    name-only c.in-Some.first.now c.args.rest.now c.behind_name_bytes.result.now (c.in-Some.ensures.item.3.1 0) (sym c.if-is_ascii_alphabetic.ensures.value)
    c.behind_name_bytes.ensures
