-- What was due is due still, but for what was put.
use Rattle.std.proofs.Common.{◌≡◌, ◌+◌, ◌++◌, length}
use Rattle.std.specs.Prelude.{Ok, replicate}
use Rattle.vault_output.specs.Sending.{Sends, left_of}
use Rattle.vault_output.proofs.output.Output.fill_pieces.Given as goal

abbrev pub invariant-loop-rest : goal.invariant-loop-rest
invariant-loop-rest g l =
    let vault = g.V.Vault in
    record {
      sends : Sends {T = Unit {0}} (vault.outside l.initial.vault) (vault.outside l.vault) (l.initial.self ++ replicate l.count 32)
          (l.self ++ replicate l.rest 32) (Ok tt);
      left : left_of (length l.self + l.rest) ≡ left_of (length l.initial.self + l.count);
      numbers : (vault.used_words l.vault ≡ vault.used_words l.initial.vault) × (vault.directory_at l.vault ≡ vault.directory_at l.initial.vault)
          × (vault.most_words l.vault ≡ vault.most_words l.initial.vault) × (vault.access l.vault ≡ vault.access l.initial.vault);
      alive : vault.alive l.vault;
    }

-- what is left to be kept
abbrev pub decreases-loop-rest : goal.decreases-loop-rest
decreases-loop-rest g l = length l.self + l.rest
