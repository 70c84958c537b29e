-- A volume as a space of words.
use Rattle.std.specs.Prelude.{◌≡◌, ℕ, ◌*◌, ◌%◌, ◌^◌, ◌<◌, ◌≤◌, Bool, true, false, List, [], map, Option, Some, None}
use Rattle.std.specs.List.{range_with_len}
use Rattle.std.specs.Option.{option_map}
use Rattle.obj_layout.specs.ps_outside.Outside.{Outside, After, seen_as}
use Rattle.volume_parts.specs.Layout.{number_at}
use Rattle.paged_volume.specs.Layout.{capacity_of}
use Rattle.volume_parts.specs.Holding.{Held}
use Rattle.paged_volume.specs.Standing.{seen, staged_in, held_in, IsFit}
use Rattle.paged_volume.specs.Pinning.{pinned_bytes}
use Rattle.paged_volume.specs.declared.committed.Committed.{Committed}
use Rattle.paged_volume.specs.declared.table.Table.{Table}
use Rattle.obj_layout.specs.Stored.{Space}
use Rattle.obj_store.specs.declared.source.Source.{Source}
use Rattle.obj_store.specs.declared.source.Source.TheVariants.{Staged, Pinned}

-- the word with this index: the number that its eight bytes spell, the low one first
unfoldable pub word_at : List ℕ → ℕ → ℕ
word_at bytes index = number_at (8 * index) 8 bytes % 2 ^ 64

-- the first so many words
unfoldable pub words_of : ℕ → List ℕ → List ℕ
words_of count bytes = map (word_at bytes) (range_with_len 0 count)

-- what a volume holds, as a space of so many words
abbrev pub space_of : ℕ → Held → Space
space_of used held = record { words = words_of used held.bytes; directory = held.note.directory; file = [] }

-- the space of a file in which no volume is found: no word, and so no directory
abbrev pub no_space : Space
no_space = record { words = []; directory = 0; file = [] }

-- what was found in a file, as a space of the words that are committed
abbrev pub space_found : Option Held → Space
space_found None = no_space
space_found (Some held) = space_of held.note.used held

-- and so what a file holds
abbrev pub space_held : List ℕ → Space
space_held bytes = space_found (held_in bytes)

-- the same with the file itself
abbrev pub space_filed : List ℕ → Space
space_filed bytes = record (space_held bytes) { file = bytes }

-- what was found in a file is this space; where no volume was found it is none
abbrev pub IsSpaceIn : Option Held → Space → Type 0
IsSpaceIn found space = option_map (λ held. space_of held.note.used held) found ≡ Some space

-- what is staged, with so many words used, is this space
abbrev pub IsStaged : ℕ → Option Held → Space → Type 0
IsStaged used found space = option_map (space_of used) found ≡ Some space

-- all pages as a source shows them, under its note
abbrev pub shown_in : Source → Table → List ℕ → Held
shown_in Staged table image = staged_in table image
shown_in (Pinned pin note) table image = record { note = note; bytes = pinned_bytes table pin image }

-- the words that are used by that note, where so many are used as it is staged
abbrev pub used_in : Source → ℕ → ℕ
used_in Staged used = used
used_in (Pinned pin note) used = note.used

-- and the directory by it, where this one is committed
abbrev pub directory_by : Source → ℕ → ℕ
directory_by Staged directory = directory
directory_by (Pinned pin note) directory = note.directory

abbrev pub directory_in : Source → Table → ℕ
directory_in source table = directory_by source table.committed.note.directory

-- whether pages are read as they are staged
abbrev pub is_staged : Source → Bool
is_staged Staged = true
is_staged (Pinned pin note) = false

-- A volume that is read from a source.
abbrev pub shown : Source → Table → Outside (List ℕ) → Outside (Option Held)
shown source table outside = record (seen table outside) {
  contents = λ found. After outside.contents (λ (x : List ℕ) (z : Option Held). Some (shown_in source table x) ≡ z) found;
}

-- So many words can be used in a volume, and the directory is one of them.
pub record IsUsable (used directory : ℕ) (committed : Committed) : Type 0 where
  pub fit : IsFit committed
  pub below : directory < used
  pub within : used ≤ capacity_of committed.pages

-- the same under the directory that is committed
abbrev pub IsInOrder : ℕ → Committed → Type 0
IsInOrder used committed = IsUsable used committed.note.directory committed

-- this space is read from a volume
pub record IsTold (used directory : ℕ) (committed : Committed) (volume : Outside (Option Held)) (space : Space) : Type 0 where
  pub order : IsUsable used directory committed
  pub staged : After volume.contents (IsStaged used) space

-- A volume with so many words, seen as spaces: a crash leaves a file with the space that is committed in it, without a word where no volume is found
-- there; and a read gives the space that the source shows, or none where the words can't be used.
abbrev pub spaces_at : Source → ℕ → Table → Outside (List ℕ) → Outside Space
spaces_at source used table outside =
    let volume = shown source table outside in
    record {
      clock = outside.clock;
      told = outside.told;
      images = (seen_as space_filed outside).images;
      contents = IsTold used (directory_in source table) table.committed volume;
      device_faults = outside.device_faults;
      output_faults = outside.output_faults;
      device_calls = outside.device_calls;
    }

-- the same as its pages are staged
abbrev pub spaces : ℕ → Table → Outside (List ℕ) → Outside Space
spaces used table outside = spaces_at Staged used table outside
