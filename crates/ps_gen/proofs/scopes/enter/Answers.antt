use Rattle.std.proofs.Common.{ap}
use Rattle.std.specs.Prelude.{option_map}
use Rattle.ps_gen.proofs.Making.{on_ok, scope_entered, no_scope_entered}
use Rattle.ps_gen.proofs.scopes.enter.Goals as goal

pub returns-in-Some : goal.returns-in-Some
returns-in-Some c = on_ok c.name.result (λ puts. scope_entered _ _ (ap (option_map (λ bytes. bytes.now)) c.in-Some.is) puts) c.name.ensures

pub returns-in-None : goal.returns-in-None
returns-in-None c = no_scope_entered _ _ (ap (option_map (λ bytes. bytes.now)) c.in-None.is)
