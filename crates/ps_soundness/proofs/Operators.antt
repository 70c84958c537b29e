-- What the operators give: ints of ints, and strings of strings.
use Rattle.std.proofs.Common.{◌≡◌, ℕ, zero, suc, ◌+◌, ◌^◌, ◌<◌, ◌≤◌, ℤ, pos, negsuc, ◌+ℤ◌, ◌-ℤ◌, ◌*ℤ◌, neg_ℤ, Bool, true, false, true≢false, List, ◌++◌, length, take, drop, refl, sym, ap, ◌∙◌, arith, ltb-true, lt-ltb, length-take, length-drop}
use Rattle.std.specs.Prelude.{nat_lt, ◌&&◌, if◌then◌else◌, unsigned_abs, int_rem, int_div}
use Rattle.std.specs.Fmt.{signed_decimal}
use Rattle.std.specs.Ordering.{is_eq}
use Rattle.std.specs.Int.Signed.{mag}
use Rattle.std.specs.declared.cmp.Ordering.{Ordering}
use Rattle.std.specs.declared.cmp.Ordering.TheVariants.{Less, Equal, Greater}
use Rattle.std.proofs.lemmas.Map.Lookups.{exact_bytes}
use Rattle.std.proofs.lemmas.Int.{rem_below, ints}
use Rattle.std.proofs.lemmas.Fmt.{length_signed_le}
use Rattle.ps_meaning.specs.ps_base.declared.trap.Trap.{Trap}
use Rattle.ps_meaning.specs.ps_base.declared.trap.Trap.TheVariants.{Overflow, ZeroDivisor, TooLong, Substring}
use Rattle.ps_meaning.specs.ps_base.declared.operator.Operator.{Operator}
use Rattle.ps_meaning.specs.ps_base.declared.operator.Operator.TheVariants.{Add, Sub, Mul, Div, Rem}
use Rattle.ps_heap.specs.Operators.{Answer, Gives, Traps, is_int, in_range, is_same, neg_of, arith_of}
use Rattle.ps_heap.specs.Texts.{Attempt, Yields, Fails, is_string, join_of, part_of, order_of, is_same_text}
use Rattle.ps_heap.specs.Objects.{is_vector}

-- what an answer gives is an int
abbrev pub GivesInt : Answer → Type 0
GivesInt (Gives z) = is_int z ≡ true
GivesInt (Traps trap) = Unit {0}

-- what an attempt yields is such
abbrev pub OnYield : {A : Type 0} → (A → Type 0) → Attempt A → Type 0
OnYield P (Yields a) = P a
OnYield P (Fails trap) = Unit {0}

ranged : (trap : Trap) (z : ℤ) (b : Bool) → is_int z ≡ b → GivesInt (if b then Gives z else Traps trap)
ranged trap z true e = e
ranged trap z false e = tt

in_range_gives : (z : ℤ) → GivesInt (in_range z)
in_range_gives z = ranged Overflow z (is_int z) refl

past_zero : (trap : Trap) (b : Bool) (a : Answer) → (b ≡ false → GivesInt a) → GivesInt (if b then Traps trap else a)
past_zero trap true a h = tt
past_zero trap false a h = h refl

not_zero : (b : ℤ) → is_same b (pos 0) ≡ false → 0 < unsigned_abs b
not_zero (pos zero) e = absurd (true≢false e)
not_zero (pos (suc n)) e = omega arith
not_zero (negsuc n) e = omega arith

size_of : (z : ℤ) → is_int z ≡ true → unsigned_abs z ≤ 2 ^ 31
size_of (pos n) h = let k = ltb-true n (2 ^ 31) h in omega arith
size_of (negsuc n) h = let k = ltb-true n (2 ^ 31) h in omega arith

small_is_int : (z : ℤ) → unsigned_abs z < 2 ^ 31 → is_int z ≡ true
small_is_int (pos n) h = lt-ltb n (2 ^ 31) (omega arith)
small_is_int (negsuc n) h = lt-ltb n (2 ^ 31) (omega arith)

rem_is_int : (a b : ℤ) → is_int b ≡ true → is_same b (pos 0) ≡ false → is_int (int_rem a b) ≡ true
rem_is_int a b is_b isnt =
    let below = rem_below a b (not_zero b isnt) in
    let size = size_of b is_b in
    small_is_int (int_rem a b) (omega arith)

pub arith_gives : (op : Operator) (a b : ℤ) → is_int b ≡ true → GivesInt (arith_of op a b)
arith_gives Add a b h = in_range_gives (a +ℤ b)
arith_gives Sub a b h = in_range_gives (a -ℤ b)
arith_gives Mul a b h = in_range_gives (a *ℤ b)
arith_gives Div a b h = past_zero ZeroDivisor (is_same b (pos 0)) (in_range (int_div a b)) (λ e. in_range_gives (int_div a b))
arith_gives Rem a b h = past_zero ZeroDivisor (is_same b (pos 0)) (Gives (int_rem a b)) (λ e. rem_is_int a b h e)

pub neg_gives : (a : ℤ) → GivesInt (neg_of a)
neg_gives a = in_range_gives (neg_ℤ a)

-- the length of a string is an int
pub length_is_int : (bytes : List ℕ) → is_string bytes ≡ true → is_int (pos (length bytes)) ≡ true
length_is_int bytes h = let k = ltb-true (length bytes) (2 ^ 16) h in lt-ltb (length bytes) (2 ^ 31) (omega arith)

is_short : (bytes : List ℕ) → length bytes < 2 ^ 16 → is_string bytes ≡ true
is_short bytes h = lt-ltb (length bytes) (2 ^ 16) h

mag_is_small : (z : ℤ) → is_int z ≡ true → mag z < 2 ^ 31
mag_is_small (pos n) h = ltb-true n (2 ^ 31) h
mag_is_small (negsuc n) h = ltb-true n (2 ^ 31) h

pub decimal_is_string : (z : ℤ) → is_int z ≡ true → is_string (signed_decimal z) ≡ true
decimal_is_string z h =
    let small = mag_is_small z h in
    let few = length_signed_le 10 z (omega arith) (omega arith) in
    is_short (signed_decimal z) (omega arith)

joined : (bytes : List ℕ) (b : Bool) → is_string bytes ≡ b → OnYield (λ (text : List ℕ). is_string text ≡ true)
    (if b then Yields bytes else Fails TooLong)
joined bytes true e = e
joined bytes false e = tt

pub join_yields : (a b : List ℕ) → OnYield (λ (text : List ℕ). is_string text ≡ true) (join_of a b)
join_yields a b = joined (a ++ b) (is_string (a ++ b)) refl

part_is_string : (text : List ℕ) (before count : ℕ) → is_string text ≡ true → is_string (take count (drop before text)) ≡ true
part_is_string text before count h =
    let short = ltb-true (length text) (2 ^ 16) h in
    is_short (take count (drop before text)) (omega (arith, length-take count (drop before text), length-drop before text))

parted : (bytes : List ℕ) (b : Bool) → is_string bytes ≡ true →
    OnYield (λ (text : List ℕ). is_string text ≡ true) (if b then Fails Substring else Yields bytes)
parted bytes true e = tt
parted bytes false e = e

pub part_yields : (text : List ℕ) (from count : ℤ) → is_string text ≡ true →
    OnYield (λ (part : List ℕ). is_string part ≡ true) (part_of text from count)
part_yields text (pos (suc before)) (pos count) h =
    parted (take count (drop before text)) (nat_lt (length text) (before + count)) (part_is_string text before count h)
part_yields text (pos zero) count h = tt
part_yields text (pos (suc before)) (negsuc count) h = tt
part_yields text (negsuc from) count h = tt

equal_is : (o : Ordering) → is_eq o ≡ true → o ≡ Equal
equal_is Less e = absurd (true≢false (sym e))
equal_is Equal e = refl
equal_is Greater e = absurd (true≢false (sym e))

-- texts that compare as the same are the same
pub same_text_is : (a b : List ℕ) → is_same_text a b ≡ true → a ≡ b
same_text_is a b e = exact_bytes a b (equal_is (order_of a b) e)

both_true : (a b : Bool) → (a && b) ≡ true → b ≡ true
both_true true b e = e
both_true false b e = absurd (true≢false (sym e))

high_is : (low : ℤ) (n : ℕ) → low +ℤ (pos (suc n) -ℤ pos 1) ≡ low +ℤ pos n
high_is low n = ap (λ z. low +ℤ z) (omega (arith, ints))

-- the upper bound of a vector is an int
pub high_is_int : (low : ℤ) (count : ℕ) → is_vector low count ≡ true → is_int (low +ℤ (pos count -ℤ pos 1)) ≡ true
high_is_int low zero h = absurd (true≢false (sym h))
high_is_int low (suc n) h = ap is_int (high_is low n) ∙ both_true (nat_lt n (2 ^ 20)) (is_int (low +ℤ pos n)) h
