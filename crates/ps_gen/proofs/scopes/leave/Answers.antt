use Rattle.std.proofs.Common.{ap}
use Rattle.std.specs.Prelude.{option_map}
use Rattle.ps_gen.proofs.Making.{on_ok, scope_left, no_scope_left}
use Rattle.ps_gen.proofs.scopes.leave.Goals as goal

pub returns-in-Some : goal.returns-in-Some
returns-in-Some c = on_ok c.put.result (λ puts. scope_left _ _ (ap (option_map (λ bytes. bytes.now)) c.in-Some.is) puts) c.put.ensures

pub returns-in-None : goal.returns-in-None
returns-in-None c = no_scope_left _ _ (ap (option_map (λ bytes. bytes.now)) c.in-None.is)
