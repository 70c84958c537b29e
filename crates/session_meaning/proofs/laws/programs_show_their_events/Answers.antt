use Rattle.joint_held.proofs.StoreLaws.{one-store}
use Rattle.session_meaning.proofs.Beginning.{shows-events}
use Rattle.session_meaning.proofs.laws.programs_show_their_events.Goals as goal

pub returns : goal.returns
returns g c = λ old new turns input program owed left space heap empty m result at stands images means loaded ran.
    let o = g.V.Vault.outside in
    shows-events o (o old) (o new)
    (one-store (o old) (g.V.Vault.used_words old) (g.V.Vault.directory_at old) (g.met.V.Vault.one old) (g.met.V.Vault.space old))
    turns input program owed left space heap at stands images means empty m loaded result ran
