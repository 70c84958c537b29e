-- What attaching a store says.
use Rattle.std.specs.Prelude.{◌≡◌, ℕ, ◌+◌, ◌≤◌, true, false, List, []}
use Rattle.obj_layout.specs.ps_outside.Outside.{Outside, SettlesFrom, After}
use Rattle.paged_volume.specs.Standing.{held_in, map_count}
use Rattle.volume_parts.specs.Calls.{Looks}
use Rattle.paged_volume.specs.Attaching.{IsFound}
use Rattle.obj_layout.specs.Stored.{Space}
use Rattle.obj_store.specs.Spaces.{IsSpaceIn}
use Rattle.obj_store.specs.Store.{Store, outside_of}

-- this space is committed in a file
abbrev pub IsSpaceOf : List ℕ → Space → Type 0
IsSpaceOf bytes space = IsSpaceIn (held_in bytes) space

-- An attached store: it was only looked at, a crash leaves what was looked at, from a moment on before which nothing was output, its calls may be made,
-- it holds what is committed, nothing is staged, and there are no pins. The map pages were read once, and eight calls more were made at most.
pub record IsOpened {H : Type 0} (outside : H → Outside (List ℕ)) (old : Outside (List ℕ)) (store : Store H) : Type 0 where
  pub looks : Looks old (outside store.host) (map_count store.table.committed + 8)
  -- there are no more map pages than in the largest volume
  pub few : map_count store.table.committed ≤ 488
  pub settles : SettlesFrom old (outside store.host)
  pub found : (bytes : List ℕ) → old.contents bytes → IsFound store.table.committed bytes
  pub live : store.live ≡ true
  pub used : store.used ≡ store.table.committed.note.used
  pub unstaged : store.staged ≡ false
  pub unpinned : store.table.pins.items ≡ []
  pub holds : (space : Space) → (outside_of outside store).contents space → After old.contents IsSpaceOf space
  pub stays : (space : Space) → After old.contents IsSpaceOf space → (outside_of outside store).contents space
