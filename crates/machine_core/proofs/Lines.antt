-- Lines of an input.
use Rattle.std.proofs.Common.{◌≡◌, ◌≢◌, ℕ, zero, suc, ◌+◌, ◌<◌, ◌≤◌, Bool, true, false, List, [], ◌∷◌, length, take, drop, get_or, refl, sym, ap, ◌∙◌, arith}
use Rattle.std.specs.Prelude.{nat_eq, if◌then◌else◌}
use Rattle.std.proofs.lemmas.List.{drop_all, drop-drop, length-drop}
use Rattle.std.proofs.lemmas.Bool.{le-leb, lt-leb, eq-eqb, eqb-true}
use Rattle.std.proofs.Math.Dec.{leb-suc-suc}
use lib.Dec.{leb}
use Rattle.ps_stepping.specs.ps_heap.Texts.{line_of, behind_line, is_at_end}

-- a line is the first of its bytes
pub line-is : (bytes : List ℕ) → take (length (line_of bytes)) bytes ≡ line_of bytes
unfolding line_of
line-is [] = refl
line-is (byte ∷ bytes) = of (nat_eq byte 10) (line-is bytes)
  where
    of : (b : Bool) → take (length (line_of bytes)) bytes ≡ line_of bytes
        → take (length (if b then [] else byte ∷ line_of bytes)) (byte ∷ bytes) ≡ (if b then [] else byte ∷ line_of bytes)
    of true rest = refl
    of false rest = ap (λ (xs : List ℕ). byte ∷ xs) rest

-- it is no longer than the bytes
pub line-within : (bytes : List ℕ) → length (line_of bytes) ≤ length bytes
unfolding line_of
line-within [] = omega arith
line-within (byte ∷ bytes) = of (nat_eq byte 10) (line-within bytes)
  where
    of : (b : Bool) → length (line_of bytes) ≤ length bytes → length (if b then [] else byte ∷ line_of bytes) ≤ suc (length bytes)
    of true low = omega arith
    of false low = omega (arith, low)

-- after it stands its newline, or nothing
pub behind-is : (bytes : List ℕ) → behind_line bytes ≡ drop (length (line_of bytes) + 1) bytes
unfolding line_of behind_line
behind-is [] = refl
behind-is (byte ∷ bytes) = of (nat_eq byte 10) (behind-is bytes)
  where
    of : (b : Bool) → behind_line bytes ≡ drop (length (line_of bytes) + 1) bytes
        → (if b then bytes else behind_line bytes) ≡ drop (length (if b then [] else byte ∷ line_of bytes) + 1) (byte ∷ bytes)
    of true rest = refl
    of false rest =
        let next : suc (length (line_of bytes) + 1) ≡ suc (length (line_of bytes)) + 1 = omega arith in
        rest ∙ ap (λ (n : ℕ). drop n (byte ∷ bytes)) next

-- numbers that differ
is-other : (a b : ℕ) → a ≢ b → nat_eq a b ≡ false
is-other a b other = of (nat_eq a b) refl
  where
    of : (r : Bool) → nat_eq a b ≡ r → nat_eq a b ≡ false
    of true is = absurd (other (eqb-true a b is))
    of false is = is

-- a line goes on after a byte that is no newline, and ends at one that is
pub line-goes : (bytes : List ℕ) (k d : ℕ) → k < length bytes → get_or bytes k d ≢ 10
    → length (line_of (drop k bytes)) ≡ length (line_of (drop (k + 1) bytes)) + 1
unfolding line_of
line-goes [] k d low other = absurd (omega arith)
line-goes (byte ∷ bytes) zero d low other =
    let more : suc (length (line_of bytes)) ≡ length (line_of bytes) + 1 = omega arith in
    ap (λ (b : Bool). length (if b then [] else byte ∷ line_of bytes)) (is-other byte 10 other) ∙ more
line-goes (byte ∷ bytes) (suc k) d low other =
    let next : k + 1 ≡ suc k = omega arith in
    let past : suc k + 1 ≡ suc (suc k) = omega arith in
    line-goes bytes k d (omega arith) other
    ∙ ap (λ (n : ℕ). length (line_of (drop n bytes)) + 1) next
    ∙ sym (ap (λ (n : ℕ). length (line_of (drop n (byte ∷ bytes))) + 1) past)

pub line-ends : (bytes : List ℕ) (k d : ℕ) → k < length bytes → get_or bytes k d ≡ 10 → length (line_of (drop k bytes)) ≡ 0
unfolding line_of
line-ends [] k d low is = absurd (omega arith)
line-ends (byte ∷ bytes) zero d low is = ap (λ (b : Bool). length (if b then [] else byte ∷ line_of bytes)) (eq-eqb byte 10 is)
line-ends (byte ∷ bytes) (suc k) d low is = line-ends bytes k d (omega arith) is

-- after all bytes there is no line
pub no-line : (bytes : List ℕ) (k : ℕ) → length bytes ≤ k → length (line_of (drop k bytes)) ≡ 0
unfolding line_of
no-line bytes k low = ap (λ (xs : List ℕ). length (line_of xs)) (drop_all k bytes low)

-- what is left behind the bytes that were read, and the line after them
pub left-behind : (bytes : List ℕ) (read count : ℕ) → read + count < length bytes → count ≡ length (line_of (drop read bytes)) → drop (read + count + 1) bytes ≡ behind_line (drop read bytes)
left-behind bytes read count more is =
    let same : read + count + 1 ≡ read + (length (line_of (drop read bytes)) + 1) = omega (arith, is) in
    ap (λ (n : ℕ). drop n bytes) same ∙ sym (drop-drop (length (line_of (drop read bytes)) + 1) read bytes) ∙ sym (behind-is (drop read bytes))

pub nothing-behind : (bytes : List ℕ) (read count : ℕ) → length bytes ≤ read + count → count ≡ length (line_of (drop read bytes)) → drop (read + count) bytes ≡ behind_line (drop read bytes)
nothing-behind bytes read count less is =
    let long = length-drop read bytes in
    drop_all (read + count) bytes less
    ∙ sym (behind-is (drop read bytes) ∙ drop_all (length (line_of (drop read bytes)) + 1) (drop read bytes) (omega (arith, is, long, less)))

-- at the end nothing is left
pub at-end : (bytes : List ℕ) (read : ℕ) → leb (length bytes) read ≡ is_at_end (drop read bytes)
at-end [] read = le-leb 0 read (omega arith) ∙ ap is_at_end (sym (drop_all read [] (omega arith)))
at-end (byte ∷ bytes) zero = lt-leb (suc (length bytes)) 0 (omega arith)
at-end (byte ∷ bytes) (suc read) = leb-suc-suc (length bytes) read ∙ at-end bytes read
