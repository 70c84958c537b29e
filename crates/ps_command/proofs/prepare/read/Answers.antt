use Rattle.std.proofs.Common.{◌∙◌, ap, subst}
use Rattle.std.specs.Prelude.{Err}
use Rattle.ps_base.specs.Limits.{most_text_bytes as LONGEST_TEXT}
use Rattle.ps_port.specs.Texts.{TooLongFor}
use Rattle.ps_port.specs.declared.shelf.ShelfFault.TheVariants.{TooLong}
use Rattle.ps_causes.specs.Command.{IsUnread}
use Rattle.ps_causes.specs.Steps as steps
use Rattle.ps_command.proofs.Causes.{failed_is, gives_too_long}
use Rattle.ps_command.proofs.prepare.read.Goals as goal

pub returns-in-Err-Failed-clause-unread : goal.returns-in-Err-Failed-clause-unread
returns-in-Err-Failed-clause-unread g c =
    let failed = c.in-Err-Failed.is ∙ ap Err c.in-Err-Failed.field-0-is in
    steps.unread (IsUnread.unreadable (c.text.ensures.named failed) (c.text.ensures.cause failed))

pub returns-in-Err-TooLong-clause-unread : goal.returns-in-Err-TooLong-clause-unread
returns-in-Err-TooLong-clause-unread g c =
    let shelf = c.args.shelf.now in
    let name = c.args.name.now in
    let size = c.in-Err-TooLong.length in
    let is = c.in-Err-TooLong.is ∙ ap Err c.in-Err-TooLong.field-0-is in
    steps.unread (IsUnread.too_long (gives_too_long (g.S.Shelf.holds shelf name) (g.S.Shelf.lacks shelf name) size
    (λ lacking. failed_is c.text.result (TooLong size) is (c.text.ensures.lacking lacking))
    (subst (TooLongFor LONGEST_TEXT (g.S.Shelf.holds shelf name)) c.in-Err-TooLong.field-0-is c.in-Err-TooLong.ensures.long)))

pub returns-clause-unread : goal.returns-clause-unread
returns-clause-unread g c = steps.no_memory
