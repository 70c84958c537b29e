-- How a page map is kept.
use Rattle.std.specs.Prelude.{◌≡◌, ◌⊎◌, ℕ, ◌<◌, ◌≤◌, true, false, List, length, Option, Some, None}
use Rattle.page_map.specs.declared.page_map.PageMap.TheInside.{Inside}
use Rattle.page_map.specs.Pages.{is_free, names, one_names}
use Rattle.page_map.specs.Map.{MapView, IsMap}

abbrev pub map_of : Inside → MapView
map_of map = record { committed = map.committed; staged = map.staged; pins = map.pins.items; free = map.free }

-- each page from 4 on that is in use is staged, or pinned and not committed, or it is one of these
abbrev pub AreLoose : MapView → Option (List ℕ) → Type 0
AreLoose map None = Unit {0}
AreLoose map (Some loose) =
    (page : ℕ) → 4 ≤ page → page < length map.free → is_free map.free page ≡ false
    → (names map.staged page ≡ true) ⊎ ((names loose page ≡ true) ⊎ ((one_names map.pins page ≡ true) × (names map.committed page ≡ false)))

pub record IsInOrder (map : MapView) (noted : Option (List ℕ)) : Type 0 where
  pub is_map : IsMap map
  pub loose : AreLoose map noted

abbrev pub IsKept : Inside → Type 0
IsKept map = IsInOrder (map_of map) map.loose
