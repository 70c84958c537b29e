use Rattle.ps_text_laws.proofs.LetsRead.{lets_are_items}
use Rattle.ps_text_laws.proofs.laws.lets_of_a_text_are_items.Goals as goal

pub returns : goal.returns
returns c = lets_are_items
