-- The databases before this place have other names, and the vault is as it was.
use Rattle.std.proofs.Common.{◌≡◌}
use Rattle.joint_ops.specs.swizzle.Joint.{shown_at}
use Rattle.joint_ops.specs.swizzle.Text.{text_at}
use Rattle.db_dir.specs.Entries.{GainsBy, ReadsSome}
use Rattle.db_dir.specs.Found.{AreOthers}
use Rattle.db_dir.proofs.find.find_in.Given as goal

abbrev pub invariant-loop-place : goal.invariant-loop-place
invariant-loop-place g l =
    let vault = g.V.Vault in
    record {
      reads : ReadsSome l.initial.sw l.sw (vault.outside l.initial.vault) (vault.outside l.vault);
      gains : GainsBy l.initial.sw l.sw (vault.outside l.initial.vault) (vault.outside l.vault) (shown_at l.initial.sw l.directory).refs;
      others : AreOthers l.initial.sw l.sw l.directory l.place (text_at l.initial.sw l.name);
      numbers : (vault.used_words l.vault ≡ vault.used_words l.initial.vault) × (vault.directory_at l.vault ≡ vault.directory_at l.initial.vault)
          × (vault.most_words l.vault ≡ vault.most_words l.initial.vault) × (vault.access l.vault ≡ vault.access l.initial.vault);
      alive : vault.alive l.vault;
    }
