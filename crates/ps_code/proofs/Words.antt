-- Words written one after the other into a buffer, and read from bytes.
use Rattle.std.proofs.Common.{◌≡◌, ℕ, zero, suc, ◌+◌, ◌<◌, ◌≤◌, List, [], ◌∷◌, ◌++◌, length, take, drop, get_or, sym, ap, ◌∙◌, arith, append_assoc, length-append}
use Rattle.std.proofs.lemmas.List.{take_at, take-append-drop, drop-drop, length-drop, length-take, length-take-le, drop_all, append-nil}
use Rattle.std.proofs.lemmas.Slice.{drop-append-drop}
use Rattle.std.proofs.lemmas.Nat.{le_bytes_4}
use borrow.Rule.Slice.PartMut.{put_mid, mid_of}
use Rattle.byteorder.specs.Endian.{little_number, little_bytes}
use Rattle.ps_base.specs.Instr.{word}
use Rattle.ps_base.proofs.Spellings.{length-word}

-- a word after what was written before
pub next_word : (front old into new w : List ℕ) (n m : ℕ) → length front ≡ n → n ≤ m → into ≡ front ++ drop n old → new ≡ (take n into ++ w) ++ drop m into → new ≡ (front ++ w) ++ drop m old
next_word front old into new w n m long less before after =
    let whole : take n into ≡ front = ap (take n) before ∙ take_at front (drop n old) n long in
    let rest : drop m into ≡ drop m old = ap (drop m) before ∙ drop-append-drop n old front m less long in
    after ∙ ap (λ (z : List ℕ). (z ++ w) ++ drop m into) whole ∙ ap (λ (z : List ℕ). (front ++ w) ++ z) rest

-- and the same for the second, the third and the fourth word of an instruction
pub second_word : (code a b : ℕ) (old into new : List ℕ) → into ≡ (code ∷ word a) ++ drop 5 old → new ≡ (take 5 into ++ word b) ++ drop 9 into → new ≡ (code ∷ (word a ++ word b)) ++ drop 9 old
second_word code a b old into new before after =
    next_word (code ∷ word a) old into new (word b) 5 9 (omega (arith, length-word a)) (omega arith) before after

pub third_word : (code a b c : ℕ) (old into new : List ℕ) → into ≡ (code ∷ (word a ++ word b)) ++ drop 9 old → new ≡ (take 9 into ++ word c) ++ drop 13 into → new ≡ (code ∷ (word a ++ (word b ++ word c))) ++ drop 13 old
third_word code a b c old into new before after =
    next_word (code ∷ (word a ++ word b)) old into new (word c) 9 13 (omega (arith, length-append (word a) (word b), length-word a, length-word b)) (omega arith) before after
    ∙ ap (λ (z : List ℕ). (code ∷ z) ++ drop 13 old) (append_assoc (word a) (word b) (word c))

pub fourth_word : (code a b c d : ℕ) (old into new : List ℕ) → into ≡ (code ∷ (word a ++ (word b ++ word c))) ++ drop 13 old → new ≡ (take 13 into ++ word d) ++ drop 17 into → new ≡ (code ∷ (word a ++ (word b ++ (word c ++ word d)))) ++ drop 17 old
fourth_word code a b c d old into new before after =
    next_word (code ∷ (word a ++ (word b ++ word c))) old into new (word d) 13 17 (omega (arith, length-append (word a) (word b ++ word c), length-append (word b) (word c), length-word a, length-word b, length-word c)) (omega arith) before after
    ∙ ap (λ (z : List ℕ). (code ∷ z) ++ drop 17 old) (append_assoc (word a) (word b ++ word c) (word d) ∙ ap (λ (z : List ℕ). word a ++ z) (append_assoc (word b) (word c) (word d)))

-- the part of a buffer that a word is written into
pub word_put : (old part : List ℕ) (at k n : ℕ) → k ≡ 4 → at + 4 ≤ length old → part ≡ little_bytes 4 n ++ drop 4 (mid_of at k old) → put_mid at k old part ≡ (take at old ++ word n) ++ drop (at + 4) old
unfolding word
word_put old part at k n four inside written =
    let rest = drop at old in
    let none_left : drop 4 (take k rest) ≡ [] = drop_all 4 (take k rest) (omega (arith, length-take k rest)) in
    let part_is : part ≡ word n = written ∙ ap (λ (z : List ℕ). word n ++ z) none_left ∙ append-nil (word n) in
    let behind : drop k rest ≡ drop (at + 4) old = drop-drop k at old ∙ ap (λ (j : ℕ). drop (at + j) old) four in
    ap (λ (z : List ℕ). take at old ++ (z ++ drop k rest)) part_is ∙ ap (λ (z : List ℕ). take at old ++ (word n ++ z)) behind ∙ sym (append_assoc (take at old) (word n) (drop (at + 4) old))

-- the word that four bytes spell
pub word_is : (bytes : List ℕ) → length bytes ≡ 4 → ((i : ℕ) → get_or bytes i 0 < 256) → word (little_number 4 bytes) ≡ bytes
unfolding word
word_is bytes long small = le_bytes_4 bytes (little_number 4 bytes) long small (omega arith)

small_drop : (n : ℕ) (xs : List ℕ) → ((i : ℕ) → get_or xs i 0 < 256) → (i : ℕ) → get_or (drop n xs) i 0 < 256
small_drop zero xs small i = small i
small_drop (suc n) [] small i = omega arith
small_drop (suc n) (x ∷ xs) small i = small_drop n xs (λ j. small (suc j)) i

small_take : (n : ℕ) (xs : List ℕ) → ((i : ℕ) → get_or xs i 0 < 256) → (i : ℕ) → get_or (take n xs) i 0 < 256
small_take zero xs small i = omega arith
small_take (suc n) [] small i = omega arith
small_take (suc n) (x ∷ xs) small zero = small zero
small_take (suc n) (x ∷ xs) small (suc i) = small_take n xs (λ j. small (suc j)) i

-- the word at a place
pub word_here : (bytes : List ℕ) (at k n : ℕ) → k ≡ 4 → at + 4 ≤ length bytes → ((i : ℕ) → get_or bytes i 0 < 256) → n ≡ little_number 4 (take k (drop at bytes)) → drop at bytes ≡ word n ++ drop (at + 4) bytes
word_here bytes at k n four inside small read =
    let rest = drop at bytes in
    let room : 4 ≤ length rest = omega (arith, length-drop at bytes) in
    let here : word (little_number 4 (take 4 rest)) ≡ take 4 rest = word_is (take 4 rest) (length-take-le 4 rest room) (small_take 4 rest (small_drop at bytes small)) in
    let n_is : n ≡ little_number 4 (take 4 rest) = read ∙ ap (λ j. little_number 4 (take j rest)) four in
    sym (take-append-drop 4 rest) ∙ ap (λ z. z ++ drop 4 rest) (sym (ap word n_is ∙ here)) ∙ ap (λ z. word n ++ z) (drop-drop 4 at bytes)
