-- The pieces before the next one were written, and the others are pending.
use Rattle.std.proofs.Common.{drop, ◌++◌}
use Rattle.std.specs.Prelude.{Ok}
use Rattle.ps_port.specs.Telling.{joined}
use Rattle.vault_output.specs.obj_layout.Storing.{SameNumbers}
use Rattle.vault_output.specs.Sending.{Sends}
use Rattle.machine_run.proofs.tell.pieces.Given as goal

abbrev pub invariant-loop-part : goal.invariant-loop-part
invariant-loop-part g l =
    let vault = g.V.Vault in
    record {
      sends : Sends {T = Unit {0}} (vault.outside l.initial.vault) (vault.outside l.vault) (l.initial.output ++ joined l.parts) (l.output ++ joined (drop l.part-index l.parts)) (Ok tt);
      numbers : SameNumbers vault.used_words vault.directory_at vault.most_words vault.access l.initial.vault l.vault;
      alive : vault.alive l.vault;
    }
