-- The contents of a host in memory are one of the images that a crash may leave.
use Rattle.std.specs.Prelude.{ℕ, true, false, List, [], ◌∷◌, length, refl}
use Rattle.std.proofs.Common.{sym, subst}
use Rattle.memory_host.specs.declared.memory_host.Act.{Act}
use Rattle.memory_host.specs.declared.memory_host.Act.TheVariants.{Looked, Told, Wrote, Synced}
use Rattle.ps_port.specs.DiskLaws.{written_torn, torn_none}
use Rattle.memory_host.specs.Memory.{Event, Memory, contents_after, content_step, IsImage, ImageStep, past, outside_of}

image_step : (act : Act) (bytes contents : List ℕ) (was : List ℕ → Type 0) → was contents → ImageStep act bytes contents was (content_step act bytes contents)
image_step Looked bytes contents was is = is
image_step Told bytes contents was is = is
image_step (Wrote at true) bytes contents was is = record { from = contents; was = is; by = written_torn at bytes contents }
image_step (Wrote at false) bytes contents was is = record { from = contents; was = is; by = torn_none at (length bytes) contents }
image_step (Synced true) bytes contents was is = refl
image_step (Synced false) bytes contents was is = is

pub contents_image : (first : List ℕ) (events : List Event) → IsImage first events (contents_after first events)
contents_image first [] = refl
contents_image first (event ∷ events) = image_step event.act event.bytes (contents_after first events) (IsImage first events) (contents_image first events)

pub is_image : (host : Memory) (bytes : List ℕ) → (outside_of host).contents bytes → (outside_of host).images (outside_of host).clock bytes
is_image host bytes is = subst (λ (image : List ℕ). IsImage host.first (past host.clock host.events) image) (sym is) (contents_image host.first (past host.clock host.events))
