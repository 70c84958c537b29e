-- Words of 64 bits and the bytes that spell them: eight bytes a word, low byte first.
use Rattle.std.specs.Prelude.{ℕ, zero, suc, ◌<◌, ◌/◌, ◌^◌, List, [], ◌∷◌, ◌++◌, length, drop, take, slice_index}
use Rattle.std.specs.List.{flat_map}
use Rattle.byteorder.specs.Endian.{little_bytes, little_number}

-- the word that the first eight bytes spell
unfoldable pub first_word : List ℕ → ℕ
first_word bytes = little_number 8 bytes

-- the eight bytes that spell a word
unfoldable pub word_bytes : ℕ → List ℕ
word_bytes word = little_bytes 8 word

-- the bytes that spell words
unfoldable pub bytes_of : List ℕ → List ℕ
bytes_of words = flat_map word_bytes words

-- the first n words that bytes spell
unfoldable pub words_in : ℕ → List ℕ → List ℕ
words_in zero bytes = []
words_in (suc n) bytes = first_word bytes ∷ words_in n (drop 8 bytes)

-- the words that bytes spell; what is less than a word at the end spells none
unfoldable pub words_of : List ℕ → List ℕ
words_of bytes = words_in (length bytes / 8) bytes

-- each of these is below the limit
abbrev pub AreBelow : ℕ → List ℕ → Type 0
AreBelow limit items = (k : ℕ) → slice_index items k < limit

-- each of these is a word
abbrev pub AreWords : List ℕ → Type 0
AreWords words = AreBelow (2 ^ 64) words

-- each of these is a byte
abbrev pub AreBytes : List ℕ → Type 0
AreBytes bytes = AreBelow 256 bytes

-- a list after others were written over it from a place on; its length stays
abbrev pub overwritten : {X : Type 0} → List X → ℕ → List X → List X
overwritten items place others =
    let whole = take place items ++ (others ++ drop (length others) (drop place items)) in
    take (length items) (whole ++ drop (length whole) items)
