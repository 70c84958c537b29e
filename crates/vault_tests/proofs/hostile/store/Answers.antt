use Rattle.std.proofs.Common.{sym, subst}
use Rattle.std.proofs.lemmas.Result.{IfOk-weaker}
use Rattle.memory_vault.specs.Memory.{Memory}
use Rattle.vault_tests.specs.Hostile.{HoldsNothing}
use Rattle.vault_tests.proofs.HostileLaws.{holds_nothing}
use Rattle.vault_tests.proofs.hostile.store.Goals as goal

pub returns : goal.returns
returns c =
    IfOk-weaker c.of_words.result _ HoldsNothing (λ (vault : Memory) is. subst HoldsNothing (sym is) (holds_nothing _ _ _)) c.of_words.ensures
