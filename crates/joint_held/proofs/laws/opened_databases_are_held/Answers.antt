use Rattle.joint_held.proofs.OpenLaws.{read-run, again-run, opened-run}
use Rattle.joint_held.proofs.laws.opened_databases_are_held.Goals as goal

pub returns-clause-read : goal.returns-clause-read
returns-clause-read g c = λ vault here names writing directory h number asked run. read-run here (g.V.Vault.outside vault) names writing h directory run number asked

pub returns-clause-again : goal.returns-clause-again
returns-clause-again g c = λ vault here names writing directory h number asked l run. again-run here (g.V.Vault.outside vault) names writing h directory run number l asked

pub returns-clause-first : goal.returns-clause-first
returns-clause-first g c = λ vault here names writing directory h number asked fresh run. opened-run here (g.V.Vault.outside vault) names writing h directory run number fresh asked
