-- What a switch makes of what is held.
use Rattle.std.specs.Prelude.{◌≡◌, ◌⊎◌, ℕ, ◌+◌, ◌/◌, ◌<◌, ◌≤◌, Bool, false, List, map, Option, Result, OnOk}
use Rattle.ps_port.specs.ps_outside.Outside.{Outside, Leaves, TellsNothing, Rose}
use Rattle.page_map.specs.Pages.{held_of}
use Rattle.page_map.specs.Map.{MapView}
use Rattle.volume_parts.specs.Holding.{Held}
use Rattle.volume_parts.specs.Holding.{saved}
use Rattle.volume_parts.specs.Calls.{Was}
use Rattle.paged_volume.specs.Pinning.{outdated, AreLatest}
use Rattle.paged_volume.specs.Standing.{IsTable, Says, with_zeros}
use Rattle.paged_volume.specs.Switching.{next_table}
use Rattle.paged_volume.specs.Planning.{wanted_pages}
use Rattle.paged_volume.specs.declared.table.Table.{Table}
use Rattle.paged_volume.specs.declared.committed.Committed.{Committed}
use Rattle.paged_volume.specs.declared.volume.VolumeFault.{VolumeFault}
use Rattle.paged_volume.specs.declared.volume.VolumeFault.TheVariants.{Device, Full}

-- All that is staged is kept whole, or none of it: at each moment a crash leaves what it could leave before, or what is saved now; and after an
-- answer only that, which is then held with zeros to the last page. Nothing is output.
pub record Switches {T E : Type 0} (old new : Outside (Option Held)) (pages used directory : ℕ) (result : Result T E) : Type 0 where
  pub told : TellsNothing old new
  pub counts : old.device_faults ≤ new.device_faults
  pub output : new.output_faults ≡ old.output_faults
  pub images : Leaves old new (λ found. old.images old.clock found ⊎ Was old (saved used directory) found)
  pub kept : OnOk result ((found : Option Held) → new.images new.clock found → Was old (saved used directory) found)
  pub holds : OnOk result ((found : Option Held) → new.contents found → Was old (λ held. with_zeros pages (saved used directory held)) found)
  pub stays : OnOk result ((found : Option Held) → Was old (λ held. with_zeros pages (saved used directory held)) found → new.contents found)

-- How often the device is called: for each map page that changes, for the index page, and five times more. So it is never more than for all map
-- pages, and six times.
pub record TakesCalls (old new : Outside (List ℕ)) (map : MapView) (next : Committed) (used : ℕ) : Type 0 where
  pub changed : new.device_calls ≤ old.device_calls + (wanted_pages map next + 5)
  pub most : new.device_calls ≤ old.device_calls + ((used + 524287) / 524288 + 6)

-- the pages that are held and those that are wanted are no more than there are
abbrev pub HasRoom : Table → Committed → Type 0
HasRoom table next = held_of table.map.free + wanted_pages table.map next ≤ table.committed.pages

-- Why nothing is committed: the device failed, and the volume isn't alive then; or there are too few pages, since a pin holds an older list,
-- and all is as before.
abbrev pub IsSwitchFault : {H : Type 0} → (H → Outside (List ℕ)) → H → H → Bool → Bool → Table → Table → Committed → VolumeFault → Type 0
IsSwitchFault outside old new lived lives table now next Device = Rose (outside old).device_faults (outside new).device_faults × (lives ≡ false) × HasRoom table next
IsSwitchFault outside old new lived lives table now next (Full held wanted pages) =
    (new ≡ old) × (lives ≡ lived) × (now ≡ table) × (held ≡ held_of table.map.free) × (wanted ≡ wanted_pages table.map next) × (pages ≡ table.committed.pages) × (pages < held + wanted) × ¬ AreLatest table

-- what is committed next is committed, and nothing is staged
pub record IsTurned (old : Table) (next : Committed) (new : Table) : Type 0 where
  pub table : IsTable new
  pub says : (image : List ℕ) → Says (next_table old next) image → Says new image
  pub committed : new.committed ≡ next
  pub blank : new.map.staged ≡ new.map.committed
  pub lists : (new.map.committed ≡ old.map.staged) × (new.map.pins ≡ old.map.pins)
  pub pins : new.pins.items ≡ map outdated old.pins.items
