-- Laws of words and of the bytes that spell them.
use Rattle.std.proofs.Common.{◌≡◌, ℕ, zero, suc, ◌+◌, ◌*◌, ◌/◌, ◌^◌, ◌<◌, ◌≤◌, List, [], ◌∷◌, ◌++◌, length, take, drop, set, slice_index, replicate, refl, sym, ap, ◌∙◌, arith, append_assoc, length-append, length-drop}
use Rattle.std.proofs.lemmas.List.{drop-drop, take_at, drop_at, drop-append-le, length-take-le, take-append-drop, length-replicate, get_or-drop, set_split, append-nil, nil_from_length, replicate-append-replicate}
use Rattle.std.proofs.lemmas.List.Concat.{flat_map-append}
use Rattle.std.proofs.lemmas.Nat.{le_bytes_8}
use Rattle.byteorder.specs.Endian.{little_number}
use Rattle.byteorder.specs.Numbers.{little_from-append, little_from-lt, little_number-reads_back, length-bytes_low_first}
use Rattle.obj_area.specs.Words.{AreBytes, first_word, word_bytes, bytes_of, words_in, words_of, AreWords, overwritten}
use Rattle.obj_area.specs.inside.Bytes.{AreWhole}

-- a word reads no byte past its eight
pub first_word-append : (xs ys : List ℕ) → 8 ≤ length xs → first_word (xs ++ ys) ≡ first_word xs
unfolding first_word
first_word-append xs ys h = little_from-append 8 xs ys h

-- eight bytes are below 2 ^ 64
pub first_word-lt : (bs : List ℕ) → AreBytes bs → first_word bs < 2 ^ 64
unfolding first_word
first_word-lt bs h = little_from-lt 0 8 bs h

-- a word is what its bytes spell
pub first_word-bytes : (w : ℕ) (rest : List ℕ) → w < 2 ^ 64 → first_word (word_bytes w ++ rest) ≡ w
unfolding first_word word_bytes
first_word-bytes w rest h = little_number-reads_back 8 w rest h

-- eight bytes are the spelling of the word that they spell
pub bytes-first_word : (bs : List ℕ) → length bs ≡ 8 → AreBytes bs → word_bytes (first_word bs) ≡ bs
unfolding first_word word_bytes
bytes-first_word bs n h = le_bytes_8 bs (little_number 8 bs) n h (omega arith)

-- a word has eight bytes
pub length-word_bytes : (w : ℕ) → length (word_bytes w) ≡ 8
unfolding word_bytes
length-word_bytes w = length-bytes_low_first 0 8 w

pub bytes_of-nil : bytes_of [] ≡ []
unfolding bytes_of
bytes_of-nil = refl

pub bytes_of-cons : (w : ℕ) (ws : List ℕ) → bytes_of (w ∷ ws) ≡ word_bytes w ++ bytes_of ws
unfolding bytes_of
bytes_of-cons w ws = refl

pub bytes_of-append : (xs ys : List ℕ) → bytes_of (xs ++ ys) ≡ bytes_of xs ++ bytes_of ys
unfolding bytes_of
bytes_of-append xs ys = flat_map-append word_bytes xs ys

pub length-bytes_of : (ws : List ℕ) → length (bytes_of ws) ≡ 8 * length ws
length-bytes_of [] = ap length bytes_of-nil
length-bytes_of (w ∷ ws) =
    let one = length-word_bytes w in
    let more = length-bytes_of ws in
    ap length (bytes_of-cons w ws) ∙ length-append (word_bytes w) (bytes_of ws) ∙ omega arith

pub length-words_in : (n : ℕ) (bs : List ℕ) → length (words_in n bs) ≡ n
unfolding words_in
length-words_in zero bs = refl
length-words_in (suc n) bs = ap suc (length-words_in n (drop 8 bs))

pub length-words_of : (bs : List ℕ) → length (words_of bs) ≡ length bs / 8
unfolding words_of
length-words_of bs = length-words_in (length bs / 8) bs

-- the k-th word stands in the eight bytes from 8 k on
pub slice_index-words_in : (n k : ℕ) (bs : List ℕ) → k < n → slice_index (words_in n bs) k ≡ first_word (drop (8 * k) bs)
unfolding words_in
slice_index-words_in zero k bs h = absurd (omega arith)
slice_index-words_in (suc n) zero bs h = refl
slice_index-words_in (suc n) (suc k) bs h =
    let place : 8 + 8 * k ≡ 8 * suc k = omega arith in
    slice_index-words_in n k (drop 8 bs) (omega arith) ∙ ap first_word (drop-drop (8 * k) 8 bs ∙ ap (λ (m : ℕ). drop m bs) place)

pub slice_index-words_of : (k : ℕ) (bs : List ℕ) → 8 * k + 8 ≤ length bs → slice_index (words_of bs) k ≡ first_word (drop (8 * k) bs)
unfolding words_of
slice_index-words_of k bs h = slice_index-words_in (length bs / 8) k bs (omega arith)

pub words_in-add : (m n : ℕ) (bs : List ℕ) → words_in (m + n) bs ≡ words_in m bs ++ words_in n (drop (8 * m) bs)
unfolding words_in
words_in-add zero n bs = ap (λ (i : ℕ). words_in i bs) (omega arith)
words_in-add (suc m) n bs =
    let sum : suc m + n ≡ suc (m + n) = omega arith in
    let place : 8 + 8 * m ≡ 8 * suc m = omega arith in
    ap (λ (i : ℕ). words_in i bs) sum
    ∙ ap (λ (r : List ℕ). first_word bs ∷ r) (words_in-add m n (drop 8 bs) ∙ ap (λ (r : List ℕ). words_in m (drop 8 bs) ++ words_in n r) (drop-drop (8 * m) 8 bs ∙ ap (λ (i : ℕ). drop i bs) place))

pub words_in-append : (m : ℕ) (xs ys : List ℕ) → 8 * m ≤ length xs → words_in m (xs ++ ys) ≡ words_in m xs
unfolding words_in
words_in-append zero xs ys h = refl
words_in-append (suc m) xs ys h =
    let first = first_word-append xs ys (omega arith) in
    let moved = drop-append-le 8 xs ys (omega arith) in
    let rest = words_in-append m (drop 8 xs) ys (omega (arith, length-drop 8 xs)) in
    rw (first, moved, rest) refl

-- words are what their bytes spell
pub words_in-bytes_of : (ws rest : List ℕ) → AreWords ws → words_in (length ws) (bytes_of ws ++ rest) ≡ ws
unfolding words_in
words_in-bytes_of [] rest h = refl
words_in-bytes_of (w ∷ ws) rest h =
    let split : bytes_of (w ∷ ws) ++ rest ≡ word_bytes w ++ (bytes_of ws ++ rest) = ap (λ (r : List ℕ). r ++ rest) (bytes_of-cons w ws) ∙ append_assoc (word_bytes w) (bytes_of ws) rest in
    let first = first_word-bytes w (bytes_of ws ++ rest) (h 0) in
    let moved = drop_at (word_bytes w) (bytes_of ws ++ rest) 8 (length-word_bytes w) in
    let more = words_in-bytes_of ws rest (λ k. h (suc k)) in
    rw (split, first, moved, more) refl

-- the bytes of a part are bytes
pub AreBytes-take : (n : ℕ) (bs : List ℕ) → AreBytes bs → AreBytes (take n bs)
AreBytes-take zero bs h k = omega arith
AreBytes-take (suc n) [] h k = omega arith
AreBytes-take (suc n) (b ∷ bs) h zero = h 0
AreBytes-take (suc n) (b ∷ bs) h (suc k) = AreBytes-take n bs (λ j. h (suc j)) k

pub AreBytes-drop : (n : ℕ) (bs : List ℕ) → AreBytes bs → AreBytes (drop n bs)
AreBytes-drop n bs h k = rw (get_or-drop n bs k 0) (h (n + k))

-- bytes that spell n words are the spelling of those
pub bytes_of-words_in : (n : ℕ) (bs : List ℕ) → length bs ≡ 8 * n → AreBytes bs → bytes_of (words_in n bs) ≡ bs
unfolding words_in
bytes_of-words_in zero bs e h = bytes_of-nil ∙ sym (nil_from_length bs (omega arith))
bytes_of-words_in (suc n) bs e h =
    let front = take 8 bs in
    let long : length front ≡ 8 = length-take-le 8 bs (omega arith) in
    let same : first_word bs ≡ first_word front =
    ap first_word (sym (take-append-drop 8 bs)) ∙ first_word-append front (drop 8 bs) (omega arith) in
    let first : word_bytes (first_word bs) ≡ front =
    ap word_bytes same ∙ bytes-first_word front long (AreBytes-take 8 bs h) in
    let rest = bytes_of-words_in n (drop 8 bs) (omega (arith, length-drop 8 bs)) (AreBytes-drop 8 bs h) in
    bytes_of-cons (first_word bs) (words_in n (drop 8 bs)) ∙ rw (first, rest) (take-append-drop 8 bs)

-- zeros spell words of zero
pub words_in-zeros : (n : ℕ) → words_in n (replicate (8 * n) 0) ≡ replicate n 0
unfolding words_in first_word
words_in-zeros zero = refl
words_in-zeros (suc n) =
    let count : 8 * suc n ≡ 8 + 8 * n = omega arith in
    ap (words_in (suc n)) (ap (λ (m : ℕ). replicate m 0) count ∙ sym (replicate-append-replicate 8 (8 * n) 0))
    ∙ ap (λ (r : List ℕ). 0 ∷ r) (words_in-zeros n)

-- what bytes spell are words
pub AreWords-words_in : (n : ℕ) (bs : List ℕ) → AreBytes bs → AreWords (words_in n bs)
unfolding words_in
AreWords-words_in zero bs h k = omega arith
AreWords-words_in (suc n) bs h zero = first_word-lt bs h
AreWords-words_in (suc n) bs h (suc k) = AreWords-words_in n (drop 8 bs) (AreBytes-drop 8 bs h) k

pub AreWords-words_of : (bs : List ℕ) → AreBytes bs → AreWords (words_of bs)
unfolding words_of
AreWords-words_of bs h = AreWords-words_in (length bs / 8) bs h

pub words_of-nil : words_of [] ≡ []
unfolding words_of words_in
words_of-nil = refl

-- words are what their bytes spell
pub words_of-bytes_of : (ws : List ℕ) → AreWords ws → words_of (bytes_of ws) ≡ ws
unfolding words_of
words_of-bytes_of ws h =
    let long = length-bytes_of ws in
    let count : length (bytes_of ws) / 8 ≡ length ws = omega arith in
    ap (λ (n : ℕ). words_in n (bytes_of ws)) count ∙ ap (words_in (length ws)) (sym (append-nil (bytes_of ws))) ∙ words_in-bytes_of ws [] h

-- bytes that spell whole words are the spelling of those
pub bytes_of-words_of : (bs : List ℕ) → AreWhole bs → AreBytes bs → bytes_of (words_of bs) ≡ bs
unfolding words_of
bytes_of-words_of bs whole h = bytes_of-words_in (length bs / 8) bs whole h

pub words_of-append : (xs ys : List ℕ) → AreWhole xs → words_of (xs ++ ys) ≡ words_of xs ++ words_of ys
unfolding words_of
words_of-append xs ys whole =
    let m = length xs / 8 in
    let both = length-append xs ys in
    let count : length (xs ++ ys) / 8 ≡ m + length ys / 8 = omega arith in
    let first = words_in-append m xs ys (omega arith) in
    let rest = drop_at xs ys (8 * m) whole in
    ap (λ (n : ℕ). words_in n (xs ++ ys)) count ∙ words_in-add m (length ys / 8) (xs ++ ys) ∙ rw (first, rest) refl

-- words of zero come after the others
pub words_of-zeros : (bs : List ℕ) (n : ℕ) → AreWhole bs → words_of (bs ++ replicate (8 * n) 0) ≡ words_of bs ++ replicate n 0
unfolding words_of
words_of-zeros bs n whole =
    let long = length-replicate {A = ℕ} (8 * n) 0 in
    let count : length (replicate (8 * n) 0) / 8 ≡ n = omega arith in
    words_of-append bs (replicate (8 * n) 0) whole
    ∙ ap (λ (r : List ℕ). words_of bs ++ r) (ap (λ (m : ℕ). words_in m (replicate (8 * n) 0)) count ∙ words_in-zeros n)

-- the prefix of the bytes spells the prefix of the words
pub words_of-take : (k : ℕ) (bs : List ℕ) → 8 * k ≤ length bs → words_of (take (8 * k) bs) ≡ take k (words_of bs)
words_of-take k bs h =
    let long = length-take-le (8 * k) bs h in
    let whole : AreWhole (take (8 * k) bs) = omega arith in
    let count : length (words_of (take (8 * k) bs)) ≡ k = length-words_of (take (8 * k) bs) ∙ omega arith in
    sym (take_at (words_of (take (8 * k) bs)) (words_of (drop (8 * k) bs)) k count)
    ∙ ap (take k) (sym (words_of-append (take (8 * k) bs) (drop (8 * k) bs) whole) ∙ ap words_of (take-append-drop (8 * k) bs))

-- the rest of the bytes spells the rest of the words
pub words_of-drop : (k : ℕ) (bs : List ℕ) → 8 * k ≤ length bs → words_of (drop (8 * k) bs) ≡ drop k (words_of bs)
words_of-drop k bs h =
    let long = length-take-le (8 * k) bs h in
    let whole : AreWhole (take (8 * k) bs) = omega arith in
    let count : length (words_of (take (8 * k) bs)) ≡ k = length-words_of (take (8 * k) bs) ∙ omega arith in
    sym (drop_at (words_of (take (8 * k) bs)) (words_of (drop (8 * k) bs)) k count)
    ∙ ap (drop k) (sym (words_of-append (take (8 * k) bs) (drop (8 * k) bs) whole) ∙ ap words_of (take-append-drop (8 * k) bs))

-- where the others fit, the prefix and the back stay
pub overwritten-inside : {X : Type 0} (items : List X) (place : ℕ) (others : List X) → place + length others ≤ length items → overwritten items place others ≡ take place items ++ (others ++ drop (place + length others) items)
overwritten-inside items place others h =
    let front = length-take-le place items (omega arith) in
    let back = length-drop (place + length others) items in
    let moved = drop-drop (length others) place items in
    let whole = take place items ++ (others ++ drop (place + length others) items) in
    let long : length whole ≡ length items = length-append (take place items) (others ++ drop (place + length others) items) ∙ rw (length-append others (drop (place + length others) items)) (omega arith) in
    rw moved (take_at whole (drop (length whole) items) (length items) long)

-- words written over words are their bytes written over bytes
pub words_of-overwritten : (bs : List ℕ) (k : ℕ) (ws : List ℕ) → AreWords ws → 8 * k + 8 * length ws ≤ length bs → words_of (overwritten bs (8 * k) (bytes_of ws)) ≡ overwritten (words_of bs) k ws
words_of-overwritten bs k ws fit h =
    let long = length-bytes_of ws in
    let count = length-words_of bs in
    let end : 8 * k + length (bytes_of ws) ≡ 8 * (k + length ws) = omega arith in
    let front = length-take-le (8 * k) bs (omega arith) in
    let whole : AreWhole (take (8 * k) bs) = omega arith in
    let mid : AreWhole (bytes_of ws) = omega arith in
    ap words_of (overwritten-inside bs (8 * k) (bytes_of ws) (omega arith))
    ∙ words_of-append (take (8 * k) bs) (bytes_of ws ++ drop (8 * k + length (bytes_of ws)) bs) whole
    ∙ ap (λ (r : List ℕ). words_of (take (8 * k) bs) ++ r) (words_of-append (bytes_of ws) (drop (8 * k + length (bytes_of ws)) bs) mid)
    ∙ rw (words_of-take k bs (omega arith), words_of-bytes_of ws fit, end, words_of-drop (k + length ws) bs (omega arith)) (sym (overwritten-inside (words_of bs) k ws (omega arith)))

one_word : (v : ℕ) → v < 2 ^ 64 → AreWords (v ∷ [])
one_word v h zero = h
one_word v h (suc k) = omega arith

-- one word written over is its bytes written over bytes
pub words_of-set : (bs : List ℕ) (k v : ℕ) → v < 2 ^ 64 → 8 * k + 8 ≤ length bs → words_of (take (8 * k) bs ++ (word_bytes v ++ drop (8 * k + 8) bs)) ≡ set (words_of bs) k v
words_of-set bs k v fit h =
    let long = length-word_bytes v in
    let one : bytes_of (v ∷ []) ≡ word_bytes v = bytes_of-cons v [] ∙ ap (λ (r : List ℕ). word_bytes v ++ r) bytes_of-nil ∙ append-nil (word_bytes v) in
    let fits : AreWords (v ∷ []) = one_word v fit in
    let count = length-words_of bs in
    let next : k + 1 ≡ suc k = omega arith in
    let left : overwritten bs (8 * k) (bytes_of (v ∷ [])) ≡ take (8 * k) bs ++ (word_bytes v ++ drop (8 * k + 8) bs) =
    ap (overwritten bs (8 * k)) one ∙ overwritten-inside bs (8 * k) (word_bytes v) (omega arith) ∙ ap (λ (n : ℕ). take (8 * k) bs ++ (word_bytes v ++ drop (8 * k + n) bs)) long in
    let right : overwritten (words_of bs) k (v ∷ []) ≡ set (words_of bs) k v =
    overwritten-inside (words_of bs) k (v ∷ []) (omega arith) ∙ ap (λ (n : ℕ). take k (words_of bs) ++ v ∷ drop n (words_of bs)) next ∙ sym (set_split (words_of bs) k v (omega arith)) in
    sym (ap words_of left) ∙ words_of-overwritten bs k (v ∷ []) fits (omega arith) ∙ right
