-- What a view of a pin is lent: a store, in which the other pins hold what they held.
use Rattle.std.specs.Prelude.{ℕ, false, nat_eq, if◌then◌else◌, List, length, map, Option, None}
use Rattle.std.specs.List.{range_with_len}
use Rattle.std.specs.Option.{option_map}
use Rattle.volume_parts.specs.declared.note.Note.{Note}
use Rattle.paged_volume.specs.Pinning.{pin_of, pinned_list}
use Rattle.paged_volume.specs.declared.pinned.Pinned.{Pinned}
use Rattle.paged_volume.specs.declared.table.Table.{Table}
use Rattle.obj_layout.specs.Storing.{Access}
use Rattle.obj_store.specs.declared.source.Source.{Source}
use Rattle.obj_store.specs.Spaces.{is_staged}
use Rattle.obj_store.specs.Store.{Store}

-- a commit that a pin holds: its note and its list of pages
pub record Kept : Type 0 where
  pub note : Note
  pub list : List ℕ

-- what a pin holds, if it holds anything; where it was the last commit doesn't matter
abbrev pub kept_by : Table → ℕ → Option Kept
kept_by table pin = option_map (λ (held : Pinned). record { note = held.note; list = pinned_list table pin }) (pin_of table pin)

-- the same of every pin but one
abbrev pub kept_beside : Table → ℕ → ℕ → Option Kept
kept_beside table pin other = if nat_eq other pin then None else kept_by table other

abbrev pub others_of : Table → ℕ → List (Option Kept)
others_of table pin = map (kept_beside table pin) (range_with_len 0 (length table.pins.items))

-- The store, by the name of the reference to it; the pin that is viewed; and what the other pins hold.
pub record Lent : Type 0 where
  pub reference : ℕ
  pub pin : ℕ
  pub others : List (Option Kept)

-- A view may be written where it reads what is staged. It isn't alone.
abbrev pub view_access : {H : Type 0} → ℕ → ℕ → Source → Store H → Access Lent
view_access reference pin source store = record {
  writes = is_staged source;
  alone = false;
  lent = record { reference = reference; pin = pin; others = others_of store.table pin };
  staged = store.staged;
}
