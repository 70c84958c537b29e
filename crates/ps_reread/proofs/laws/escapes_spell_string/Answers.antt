use Rattle.ps_reread.proofs.Spelt.{string_is_spelled}
use Rattle.ps_reread.proofs.laws.escapes_spell_string.Goals as goal

pub returns : goal.returns
returns c = string_is_spelled
