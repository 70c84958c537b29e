-- How the numbers that name pages are read, one after the other.
use Rattle.std.specs.Prelude.{◌≡◌, ℕ, ◌+◌, ◌*◌, ◌<◌, ◌≤◌, ◌^◌, Bool, List, [], ◌++◌, length, slice_index, nat_eq, Option, Some, if◌then◌else◌}
use Rattle.ps_port.specs.ps_outside.Outside.{Outside, Rose}
use Rattle.page_map.specs.Pages.{no_pages}
use Rattle.page_map.specs.Map.{MapView}
use Rattle.volume_parts.specs.Layout.{number_at, root_at}
use Rattle.volume_parts.specs.declared.open_fault.OpenFault.{OpenFault}
use Rattle.volume_parts.specs.declared.open_fault.OpenFault.TheVariants.{Device, NotAVolume, Damaged, Memory}
use Rattle.paged_volume.specs.Layout.{capacity_pages, map_pages_of}
use Rattle.paged_volume.specs.Found.{damage, numbers_of, unnamed, name_tests}
use Rattle.paged_volume.specs.Standing.{AreUnnamed, IsFit, index_of, maps_of, map_names, place_by}
use Rattle.paged_volume.specs.declared.damage.Damage.{Damage}
use Rattle.paged_volume.specs.declared.committed.Committed.{Committed}
use Rattle.paged_volume.specs.declared.table.Table.{Table}

-- Of what is committed so many numbers were read: of the index page, of map pages, and of logical pages. Each names a page that none before it
-- names; those pages are taken, and no others. The numbers that weren't read are 0.
pub record IsNamingOf (committed : Committed) (map : MapView) (named : List ℕ) (depth maps pages : ℕ) : Type 0 where
  pub fit : IsFit committed
  pub commits : committed.note.commits < 2 ^ 64
  pub names : length named ≡ 1 + map_pages_of (capacity_pages committed.pages)
  pub committed_none : map.committed ≡ no_pages (capacity_pages committed.pages)
  pub staged : length map.staged ≡ capacity_pages committed.pages
  pub pins : map.pins ≡ []
  pub index_once : AreUnnamed committed.pages [] (index_of named) depth
  pub maps_once : AreUnnamed committed.pages (numbers_of (index_of named) depth) (maps_of named) maps
  pub pages_once : AreUnnamed committed.pages (map_names depth named maps) (slice_index map.staged) pages
  pub bare_index : depth ≡ 0 → slice_index named 0 ≡ 0
  pub bare_maps : (map_page : ℕ) → maps ≤ map_page → maps_of named map_page ≡ 0
  pub bare : (page : ℕ) → pages ≤ page → slice_index map.staged page ≡ 0
  pub free : map.free ≡ unnamed committed.pages (map_names depth named maps ++ numbers_of (slice_index map.staged) pages)

abbrev pub IsNaming : Table → ℕ → ℕ → ℕ → Type 0
IsNaming table depth maps pages = IsNamingOf table.committed table.map table.named.items depth maps pages

-- the page in which the numbers of the map pages stand, and where in it they begin
unfoldable pub names_at : Bool → ℕ → ℕ → ℕ
names_at second depth index = if nat_eq depth 0 then root_at second else 4096 * index

unfoldable pub skipped : ℕ → ℕ
skipped depth = if nat_eq depth 0 then 28 else 0

-- these tests give the fault
abbrev pub IsFailed : Option Damage → OpenFault → Type 0
IsFailed tests Device = Unit {0}
IsFailed tests (NotAVolume size gate) = ⊥
IsFailed tests (Damaged at found wanted) = tests ≡ Some (damage at found wanted)
IsFailed tests Memory = Unit {0}

-- the fault is one of the device, or these tests of the contents give it
pub record FailsBy (old new : Outside (List ℕ)) (tests : List ℕ → Option Damage) (fault : OpenFault) : Type 0 where
  pub device : fault ≡ Device → Rose old.device_faults new.device_faults
  pub by : (bytes : List ℕ) → old.contents bytes → IsFailed (tests bytes) fault

-- the tests of the numbers of the logical pages
unfoldable pub page_tests : Table → ℕ → ℕ → List ℕ → Option Damage
page_tests table maps logical image =
    name_tests table.committed.pages (map_names table.committed.depth table.named.items maps) (place_by table.named.items) (λ page. number_at (place_by table.named.items page) 4 image) logical
