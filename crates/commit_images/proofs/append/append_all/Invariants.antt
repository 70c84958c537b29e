use Rattle.std.proofs.Common.{◌≡◌, ◌≤◌, filter, length, take}
use Rattle.swizzle.specs.obj_layout.Storing.{SameUsers}
use Rattle.commit_images.specs.Images.{is_new}
use Rattle.commit_images.specs.Staging.{Stages, Appends}
use Rattle.commit_images.proofs.append.append_all.Given as goal

abbrev pub invariant-loop-place : goal.invariant-loop-place
invariant-loop-place g l = record {
  appends : Appends l.sw (filter (is_new l.sw l.first) (take l.place l.sw.reached)) (g.V.Vault.outside l.fn.vault) (g.V.Vault.outside l.vault) (g.V.Vault.used_words l.fn.vault) (g.V.Vault.used_words l.vault) (g.V.Vault.most_words l.fn.vault);
  stages : Stages (g.V.Vault.outside l.fn.vault) (g.V.Vault.outside l.vault);
  directory : g.V.Vault.directory_at l.vault ≡ g.V.Vault.directory_at l.fn.vault;
  most : g.V.Vault.most_words l.vault ≡ g.V.Vault.most_words l.fn.vault;
  access : SameUsers (g.V.Vault.access l.fn.vault) (g.V.Vault.access l.vault);
  alive : g.V.Vault.alive l.vault;
  counted : l.stored ≡ length (filter (is_new l.sw l.first) (take l.place l.sw.reached));
  few : l.stored ≤ l.place;
  buffer : length l.buffer ≡ length l.fn.buffer;
}
