use Rattle.std.proofs.Common.{◌≡◌, ◌≤◌, filter, length, take}
use Rattle.swizzle.specs.obj_layout.Storing.{SameUsers}
use Rattle.commit_images.specs.Images.{is_changed}
use Rattle.commit_images.specs.Staging.{Stages, Overwrites}
use Rattle.commit_images.proofs.overwrite.overwrite_all.Given as goal

abbrev pub invariant-loop-place : goal.invariant-loop-place
invariant-loop-place g l = record {
  overwrites : Overwrites l.sw (filter (is_changed l.sw l.first) (take l.place l.sw.assigned)) (g.V.Vault.outside l.fn.vault) (g.V.Vault.outside l.vault);
  stages : Stages (g.V.Vault.outside l.fn.vault) (g.V.Vault.outside l.vault);
  used : g.V.Vault.used_words l.vault ≡ g.V.Vault.used_words l.fn.vault;
  directory : g.V.Vault.directory_at l.vault ≡ g.V.Vault.directory_at l.fn.vault;
  most : g.V.Vault.most_words l.vault ≡ g.V.Vault.most_words l.fn.vault;
  access : SameUsers (g.V.Vault.access l.fn.vault) (g.V.Vault.access l.vault);
  alive : g.V.Vault.alive l.vault;
  counted : l.stored ≡ length (filter (is_changed l.sw l.first) (take l.place l.sw.assigned));
  few : l.stored ≤ l.place;
  buffer : length l.buffer ≡ length l.fn.buffer;
}
