-- What the bytes of an area say of the words that its callers see.
use Rattle.std.proofs.Common.{◌≡◌, ℕ, ◌+◌, ◌-◌, ◌*◌, ◌/◌, ◌^◌, ◌≤◌, List, ◌++◌, length, take, drop, replicate, sym, ap, ◌∙◌, subst, arith}
use Rattle.std.proofs.lemmas.List.{take_all}
use Rattle.obj_area.specs.Words.{bytes_of, words_of, AreWords, overwritten}
use Rattle.obj_area.specs.inside.Bytes.{AreWhole}
use Rattle.obj_area.specs.Area.{AreaView, IsArea, IsGivenOut, seen_as, bytes_at, with_zeros, with_bytes}
use Rattle.obj_area.proofs.WordLaws.{length-words_of, words_of-zeros}

-- an area's words are as many as its bytes spell
pub length-seen : (bytes : List ℕ) (size : ℕ) (area : AreaView) → seen_as bytes size ≡ area → length area.words ≡ length bytes / 8
length-seen bytes size area e = ap (λ (a : AreaView). length a.words) (sym e) ∙ length-words_of bytes

-- words that are given out lie in the bytes
pub given_out-lies : (bytes : List ℕ) (size : ℕ) (area : AreaView) (at count : ℕ) → seen_as bytes size ≡ area → IsGivenOut area at count → 8 * (at - 1) + 8 * count ≤ length bytes
given_out-lies bytes size area at count e given =
    omega (arith, length-seen bytes size area e, given.placed, given.below)

pub seen-is_area : (bytes : List ℕ) (room : ℕ) (area : AreaView) → seen_as bytes (room + 1) ≡ area → AreWords (words_of bytes) → length bytes ≤ 8 * room → room ≤ 2 ^ 25 → IsArea area
seen-is_area bytes room area e fit within small =
    let size : room + 1 ≡ area.size = ap (λ (a : AreaView). a.size) e in
    let words : words_of bytes ≡ area.words = ap (λ (a : AreaView). a.words) e in
    record {
      within = omega (arith, length-seen bytes (room + 1) area e, size);
      small = omega (arith, size);
      fits = subst AreWords words fit;
    }

-- zeros at the end of the bytes are words of zero at the end
pub seen-zeros : (bytes more : List ℕ) (size : ℕ) (area : AreaView) (words len n : ℕ) → seen_as bytes size ≡ area → AreWhole bytes → len ≡ length bytes → n ≡ len + 8 * words → more ≡ take n bytes ++ replicate (n - len) 0 → seen_as more size ≡ with_zeros area words
seen-zeros bytes more size area words len n e whole long end grown =
    let count : n - len ≡ 8 * words = omega arith in
    let all : more ≡ bytes ++ replicate (8 * words) 0 =
    grown ∙ ap (λ (r : List ℕ). r ++ replicate (n - len) 0) (take_all n bytes (omega arith)) ∙ ap (λ (m : ℕ). bytes ++ replicate m 0) count in
    let words_are : words_of more ≡ words_of bytes ++ replicate words 0 = ap words_of all ∙ words_of-zeros bytes words whole in
    ap (λ (ws : List ℕ). record { words = ws; size = size }) words_are ∙ ap (λ (a : AreaView). with_zeros a words) e

-- a list of this length after others were written over it, as a `Vec` keeps its length beside its items
abbrev pub kept_long : ℕ → List ℕ → ℕ → List ℕ → List ℕ
kept_long len items place others =
    let whole = take place items ++ (others ++ drop (length others) (drop place items)) in
    take len (whole ++ drop (length whole) items)

-- bytes written over an area's bytes are written over the bytes of its words
pub seen-overwritten : (bytes others : List ℕ) (len size : ℕ) (area : AreaView) (at : ℕ) → len ≡ length bytes → seen_as bytes size ≡ area → bytes_of (words_of bytes) ≡ bytes → seen_as (kept_long len bytes (8 * (at - 1)) others) size ≡ with_bytes area at others
seen-overwritten bytes others len size area at long e spelled =
    ap (λ (n : ℕ). seen_as (kept_long n bytes (8 * (at - 1)) others) size) long
    ∙ ap (λ (b : List ℕ). seen_as (overwritten b (8 * (at - 1)) others) size) (sym spelled)
    ∙ ap (λ (a : AreaView). with_bytes a at others) e

-- an area's bytes are those of its words
pub bytes_at-seen : (bytes : List ℕ) (size : ℕ) (area : AreaView) (at count : ℕ) → seen_as bytes size ≡ area → bytes_of (words_of bytes) ≡ bytes → take count (drop (8 * (at - 1)) bytes) ≡ bytes_at area at count
bytes_at-seen bytes size area at count e spelled =
    ap (λ (b : List ℕ). take count (drop (8 * (at - 1)) b)) (sym spelled) ∙ ap (λ (a : AreaView). bytes_at a at count) e
