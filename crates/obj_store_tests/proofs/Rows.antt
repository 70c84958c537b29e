-- The words that bytes spell, computed.
use Rattle.std.specs.Prelude.{◌≡◌, [], ◌∷◌, refl}
use Rattle.obj_store.specs.Spaces.{word_at, words_of}

-- of the second word the low byte is 2, and of its eight bytes the highest is 1
second : word_at (9 ∷ 0 ∷ 0 ∷ 0 ∷ 0 ∷ 0 ∷ 0 ∷ 0 ∷ 2 ∷ 0 ∷ 0 ∷ 0 ∷ 0 ∷ 0 ∷ 0 ∷ 1 ∷ []) 1 ≡ 72057594037927938
unfolding word_at
second = refl

-- the third word isn't asked for
two_words : words_of 2 (1 ∷ 0 ∷ 0 ∷ 0 ∷ 0 ∷ 0 ∷ 0 ∷ 0 ∷ 0 ∷ 1 ∷ 0 ∷ 0 ∷ 0 ∷ 0 ∷ 0 ∷ 0 ∷ 7 ∷ []) ≡ 1 ∷ 256 ∷ []
unfolding words_of word_at
two_words = refl
