use Rattle.fit_soundness.proofs.Mentions.{body_declares}
use Rattle.fit_soundness.proofs.laws.mentioned_names_are_declared.Goals as goal

pub returns : goal.returns
returns c = body_declares
