-- What an area is to its callers: the words that it has given out, and its size.
use Rattle.std.specs.Prelude.{ℕ, ◌+◌, ◌-◌, ◌*◌, ◌/◌, ◌≤◌, ◌^◌, List, [], ◌++◌, length, take, drop, replicate, slice_index, slice_set}
use Rattle.obj_area.specs.Words.{bytes_of, words_of, AreWords, overwritten}

-- the words that are given out, of which the first has index 1, and the index that no word reaches
pub record AreaView : Type 0 where
  pub words : List ℕ
  pub size : ℕ

-- an area of which these bytes are given out
abbrev pub seen_as : List ℕ → ℕ → AreaView
seen_as bytes size = record { words = words_of bytes; size = size }

-- the index of the next word that is given out
abbrev pub top_of : AreaView → ℕ
top_of area = length area.words + 1

-- what is so of every area
pub record IsArea (area : AreaView) : Type 0 where
  pub within : top_of area ≤ area.size
  pub small : area.size ≤ 2 ^ 25 + 1
  pub fits : AreWords area.words

-- so many words from this index on are given out
pub record IsGivenOut (area : AreaView) (at count : ℕ) : Type 0 where
  pub placed : 1 ≤ at
  pub below : at + count ≤ top_of area

-- how many words so many bytes lie in, from the start of one on
abbrev pub words_spanned : ℕ → ℕ
words_spanned bytes = (bytes + 7) / 8

-- an area with nothing given out
abbrev pub fresh_area : ℕ → AreaView
fresh_area size = record { words = []; size = size }

-- the area after so many words, all 0, are given out
abbrev pub with_zeros : AreaView → ℕ → AreaView
with_zeros area count = record area { words = area.words ++ replicate count 0 }

-- the word with this index
abbrev pub word_at : AreaView → ℕ → ℕ
word_at area at = slice_index area.words (at - 1)

-- so many words from this index on
abbrev pub words_at : AreaView → ℕ → ℕ → List ℕ
words_at area at count = take count (drop (at - 1) area.words)

-- so many bytes from this word on
abbrev pub bytes_at : AreaView → ℕ → ℕ → List ℕ
bytes_at area at count = take count (drop (8 * (at - 1)) (bytes_of area.words))

-- the area with this value at that index
abbrev pub with_word : AreaView → ℕ → ℕ → AreaView
with_word area at value = record area { words = slice_set area.words (at - 1) value }

-- the area with these values from that index on
abbrev pub with_words : AreaView → ℕ → List ℕ → AreaView
with_words area at values = record area { words = overwritten area.words (at - 1) values }

-- the area with these bytes from that word on
abbrev pub with_bytes : AreaView → ℕ → List ℕ → AreaView
with_bytes area at bytes =
    record area { words = words_of (overwritten (bytes_of area.words) (8 * (at - 1)) bytes) }

-- so many bytes from this one on, counted over all words
abbrev pub bytes_from : AreaView → ℕ → ℕ → List ℕ
bytes_from area place count = take count (drop place (bytes_of area.words))

-- the area with these bytes from that one on
abbrev pub with_bytes_from : AreaView → ℕ → List ℕ → AreaView
with_bytes_from area place bytes = record area { words = words_of (overwritten (bytes_of area.words) place bytes) }

-- the byte after so many ones of the words from this one on
abbrev pub byte_place : ℕ → ℕ → ℕ
byte_place at skip = 8 * (at - 1) + skip
