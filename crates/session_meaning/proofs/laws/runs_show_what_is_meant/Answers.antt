use Rattle.session_meaning.proofs.Showing.{shows}
use Rattle.session_meaning.proofs.laws.runs_show_what_is_meant.Goals as goal

pub returns : goal.returns
returns g c = λ old new owed left size at heap total events result starts reads runs fit seen ran.
    let o = g.V.Vault.outside in shows o (o old) (o new) owed left size at heap total events starts reads runs fit seen result ran
