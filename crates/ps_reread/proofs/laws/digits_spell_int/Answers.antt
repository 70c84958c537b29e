use Rattle.ps_reread.proofs.Spelt.{int_is_spelled}
use Rattle.ps_reread.proofs.laws.digits_spell_int.Goals as goal

pub returns : goal.returns
returns c = int_is_spelled
