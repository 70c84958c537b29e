-- Words in pages, and words that were put in place of others.
use Rattle.std.specs.Prelude.{◌≡◌, ◌≢◌, ◌⊎◌, ℕ, ◌+◌, ◌-◌, ◌<◌, ◌≤◌, List, length, slice_index}
use Rattle.volume_parts.specs.Holding.{Held}
use Rattle.obj_store.specs.Spaces.{word_at}

-- an index outside of a range
abbrev pub IsApart : ℕ → ℕ → ℕ → Type 0
IsApart low high index = (index < low) ⊎ (high ≤ index)

-- A page begins with the word `first`. Of words that lie from `at` on, those of the page that lie from `low` to `high` were read from it; the
-- others are as they were.
pub record IsRead (page : List ℕ) (first low high at : ℕ) (old new : List ℕ) : Type 0 where
  pub long : length new ≡ length old
  pub here : (k : ℕ) → k < length old → low ≤ at + k → at + k < high → slice_index new k ≡ word_at page (at + k - first)
  pub elsewhere : (k : ℕ) → IsApart low high (at + k) → slice_index new k ≡ slice_index old k

-- The words of the page that lie from `low` to `high` are those of `put`, which lie from `at` on; the others are as they were.
pub record IsPut (first low high at : ℕ) (put old new : List ℕ) : Type 0 where
  pub long : length new ≡ length old
  pub here : (index : ℕ) → low ≤ index → index < high → word_at new (index - first) ≡ slice_index put (index - at)
  pub elsewhere : (index : ℕ) → first ≤ index → index < first + 512 → IsApart low high index → word_at new (index - first) ≡ word_at old (index - first)

-- one of those words isn't there yet
pub record Differs (first low high at : ℕ) (put page : List ℕ) : Type 0 where
  pub index : ℕ
  pub low_is : low ≤ index
  pub below : index < high
  pub other : word_at page (index - first) ≢ slice_index put (index - at)

-- The same of what a volume holds: the words from `low` to `high` are those of `put`, which lie from `at` on.
pub record HoldsPut (low high at : ℕ) (put : List ℕ) (old new : Held) : Type 0 where
  pub note : new.note ≡ old.note
  pub long : length new.bytes ≡ length old.bytes
  pub here : (index : ℕ) → low ≤ index → index < high → word_at new.bytes index ≡ slice_index put (index - at)
  pub elsewhere : (index : ℕ) → IsApart low high index → word_at new.bytes index ≡ word_at old.bytes index

-- And of words that were read: those from `low` to `high` were read from what is held, the others are as they were.
pub record HoldsRead (held : Held) (low high at : ℕ) (old new : List ℕ) : Type 0 where
  pub here : (k : ℕ) → k < length old → low ≤ at + k → at + k < high → slice_index new k ≡ word_at held.bytes (at + k)
  pub elsewhere : (k : ℕ) → IsApart low high (at + k) → slice_index new k ≡ slice_index old k
