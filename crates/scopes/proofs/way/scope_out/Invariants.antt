-- The way leads to the scope at hand, and the vault is as it was.
use Rattle.std.proofs.Common.{◌≡◌}
use Rattle.scopes.specs.Way.{LeadsOut}
use Rattle.scopes.proofs.way.scope_out.Given as goal

abbrev pub invariant-loop : goal.invariant-loop
invariant-loop g l =
    let vault = g.V.Vault in
    record {
      led : LeadsOut l.initial.sw l.sw (vault.outside l.initial.vault) (vault.outside l.vault) l.scope l.counter l.at;
      numbers : (vault.used_words l.vault ≡ vault.used_words l.initial.vault) × (vault.directory_at l.vault ≡ vault.directory_at l.initial.vault)
          × (vault.most_words l.vault ≡ vault.most_words l.initial.vault) × (vault.access l.vault ≡ vault.access l.initial.vault);
      alive : vault.alive l.vault;
    }
