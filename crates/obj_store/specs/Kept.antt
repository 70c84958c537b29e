-- The pages that a store keeps, so that they needn't be read again.
use Rattle.std.specs.Prelude.{◌≡◌, ℕ, ◌%◌, ◌<◌, List, slice_index_or, Option, Some, None}
use Rattle.obj_layout.specs.ps_outside.Outside.{Outside}
use Rattle.volume_parts.specs.Holding.{Held}
use Rattle.paged_volume.specs.Layout.{capacity_pages}
use Rattle.paged_volume.specs.Standing.{seen}
use Rattle.paged_volume.specs.Staging.{page_of}
use Rattle.paged_volume.specs.declared.table.Table.{Table}
use Rattle.obj_store.specs.declared.kept.KeptPage.{KeptPage}

abbrev pub kept_page : ℕ → List ℕ → KeptPage
kept_page number bytes = record { number = number; bytes = bytes }

-- this page is kept with these bytes
pub record IsThere (places : List (Option KeptPage)) (number : ℕ) (bytes : List ℕ) : Type 0 where
  pub place : ℕ
  pub is : slice_index_or places place None ≡ Some (kept_page number bytes)

-- no page is kept
abbrev pub AreNone : List (Option KeptPage) → Type 0
AreNone places = (place : ℕ) → slice_index_or places place None ≡ None

-- A page that is kept has its place, is one of so many, and has the bytes that it has in what is held.
pub record IsAsHeld (count : ℕ) (volume : Outside (Option Held)) (place : ℕ) (page : KeptPage) : Type 0 where
  pub place_is : place ≡ page.number % 8
  pub below : page.number < count
  pub bytes_are : (held : Held) → volume.contents (Some held) → page.bytes ≡ page_of page.number held

-- each page that is kept is as a volume holds it
abbrev pub AreHeld : List (Option KeptPage) → Table → Outside (List ℕ) → Type 0
AreHeld places table outside =
    (place : ℕ) (page : KeptPage) → slice_index_or places place None ≡ Some page → IsAsHeld (capacity_pages table.committed.pages) (seen table outside) place page
