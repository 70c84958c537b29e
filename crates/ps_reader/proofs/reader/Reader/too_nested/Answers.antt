use Rattle.std.proofs.Common.{sym, ◌∙◌}
use Rattle.ps_reader.proofs.Rows.{too_deep, none_too_deep}
use Rattle.ps_reader.proofs.reader.Reader.too_nested.Goals as goal

pub returns-in-Some : goal.returns-in-Some
returns-in-Some c nested stands = too_deep _ _ _ _ nested c.in-Some.symbol (sym c.in-Some.is ∙ c.symbol_at.ensures) stands

pub returns-in-None : goal.returns-in-None
returns-in-None c nested stands = none_too_deep _ _ _ _ nested _ (sym c.in-None.is ∙ c.symbol_at.ensures) stands
