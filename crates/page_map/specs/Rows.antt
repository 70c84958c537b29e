-- A volume of 32 pages, as far as its page map: thirteen logical pages, one map page and two pins. It is written, switched and pinned.
use Rattle.std.specs.Prelude.{ℕ, zero, suc, [], ◌∷◌, replicate}
use Rattle.std.specs.List.{position_or_len}
use Rattle.page_map.specs.Pages.{held_of, no_pages}
use Rattle.page_map.specs.Map.{MapView, fresh_map, with_taken, with_staged, with_read, with_pin, with_pins, settled}

-- a new volume: map page 4 names page 5
unfoldable pub new_volume : MapView
new_volume = settled (with_read (with_taken (with_pins (fresh_map 13 32) (replicate 2 (no_pages 13))) 4) 0 (5 ∷ [])) (4 ∷ [])

-- the first free page
unfoldable pub first_free : MapView → ℕ
first_free map = position_or_len (λ b. b) map.free

-- a logical page is put in the first free page
unfoldable pub put : ℕ → MapView → MapView
put page map = with_staged (with_taken map (first_free map)) page (first_free map)

-- this many logical pages are put, the last one first
unfoldable pub put_all : ℕ → MapView → MapView
put_all zero map = map
put_all (suc count) map = put_all count (put count map)

-- what is staged is committed, with the first free page as map page
unfoldable pub switch : MapView → MapView
switch map = settled (with_taken map (first_free map)) (first_free map ∷ [])

-- a pin holds what is committed, or nothing
unfoldable pub pin : ℕ → MapView → MapView
pin number map = with_pin map number map.committed

unfoldable pub unpin : ℕ → MapView → MapView
unpin number map = with_pin map number (no_pages 13)

-- how many pages aren't free
unfoldable pub held : MapView → ℕ
held map = held_of map.free
