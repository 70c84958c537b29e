-- What ints and strings are spelled as is read as them.
use Rattle.std.proofs.Common.{◌≡◌, ℕ, ◌+◌, ◌-◌, ◌*◌, ◌/◌, ◌%◌, ◌^◌, ◌==◌, ◌≤◌, ◌<◌, Bool, true, false, List, [], ◌∷◌, ◌++◌, length, refl, sym, ap, ◌∙◌, subst, arith, append_assoc, length-append}
use Rattle.std.specs.Prelude.{flat_map}
use Rattle.std.specs.List.{list_all, AllPass}
use Rattle.std.specs.Char.{is_ascii_digit}
use Rattle.std.proofs.lemmas.Bool.Decides.{nat_tests}
use Rattle.std.proofs.lemmas.Fmt.{decimal_by_steps}
use Rattle.std.proofs.lemmas.List.Elements.{All-nil, All-cons, All-push}
use Rattle.std.proofs.lemmas.List.Sums.{fold_push}
use Rattle.ps_parse.specs.ps_scan.declared.class.Inner.TheVariants.{Plain}
use Rattle.ps_parse.specs.ps_scan.Class.{inner_of, escaped, decimal}
use Rattle.ps_parse.specs.ps_scan.Piece.{Closes, spells, quoted, behind_apostrophe, bytes_of}
use Rattle.ps_parse.proofs.of_ps_scan.Closing.{quoted_plain}
use Rattle.ps_layout.specs.Spellings.{int_text, escaped_byte, string_text}
use Rattle.ps_reread.specs.Spelled.{SpellsInt, can_be_spelled, SpellsString}
use Rattle.ps_reread.proofs.Glued.{both}

-- digits of this value
record Digits (n : ℕ) (digits : List ℕ) : Type 0 where
  some : 1 ≤ length digits
  pass : AllPass is_ascii_digit digits
  value : decimal digits ≡ n

digit_passes : (n : ℕ) → n < 10 → is_ascii_digit (48 + n) ≡ true
digit_passes n small = grind (arith, nat_tests)

one_digit : (n : ℕ) → n < 10 → Digits n ((48 + n) ∷ [])
one_digit n small = record {
  some = omega arith;
  pass = All-cons (λ d. is_ascii_digit d ≡ true) (48 + n) [] (digit_passes n small) (All-nil (λ d. is_ascii_digit d ≡ true));
  value = omega arith;
}

more_digits : (n : ℕ) (digits : List ℕ) → 10 ≤ n → Digits (n / 10) digits → Digits n (digits ++ (48 + n % 10) ∷ [])
more_digits n digits large before =
    let low : n % 10 < 10 = omega arith in
    let pushed = fold_push (λ value digit. 10 * value + (digit - 48)) 0 digits (48 + n % 10) in
    let value = before.value in
    record {
      some = omega (arith, length-append digits ((48 + n % 10) ∷ []));
      pass = All-push (λ d. is_ascii_digit d ≡ true) digits (48 + n % 10) before.pass (digit_passes (n % 10) low);
      value = pushed ∙ ap (λ v. 10 * v + (48 + n % 10 - 48)) value ∙ omega arith;
    }

digits_are : (n : ℕ) → n < 2 ^ 64 → Digits n (int_text n)
digits_are n small = decimal_by_steps Digits one_digit more_digits n small

pub int_is_spelled : (n : ℕ) → n ≤ 2147483647 → SpellsInt n (int_text n)
int_is_spelled n small =
    let d = digits_are n (omega (arith, small)) in
    record {
      is_int = record { size = d.some; digits = d.pass; fits = subst (λ v. v ≤ 2147483647) (sym d.value) small };
      value_is = d.value;
    }

-- a byte as it is spelled in a string
SpellsOne : ℕ → List ℕ → Type 0
SpellsOne byte rest = quoted (escaped_byte byte ++ rest) ≡ spells byte (length (escaped_byte byte)) (quoted rest)

newline_spelled : (rest : List ℕ) → SpellsOne 10 rest
unfolding SpellsOne quoted behind_apostrophe inner_of escaped
newline_spelled rest = refl

tab_spelled : (rest : List ℕ) → SpellsOne 9 rest
unfolding SpellsOne quoted behind_apostrophe inner_of escaped
tab_spelled rest = refl

apostrophe_spelled : (rest : List ℕ) → SpellsOne 39 rest
unfolding SpellsOne quoted behind_apostrophe inner_of escaped
apostrophe_spelled rest = refl

quote_spelled : (rest : List ℕ) → SpellsOne 34 rest
unfolding SpellsOne quoted behind_apostrophe inner_of escaped
quote_spelled rest = refl

is_plain : (byte : ℕ) → (byte == 10) ≡ false → (byte == 9) ≡ false → (byte == 39) ≡ false → (byte == 34) ≡ false → can_be_spelled byte ≡ true → inner_of byte ≡ Plain
unfolding inner_of
is_plain byte a b c d can = grind (arith, nat_tests)

is_itself : (byte : ℕ) → (byte == 10) ≡ false → (byte == 9) ≡ false → (byte == 39) ≡ false → (byte == 34) ≡ false → escaped_byte byte ≡ byte ∷ []
is_itself byte a b c d = rw (a, b, c, d) refl

same_number : (a b : ℕ) → (a == b) ≡ true → b ≡ a
same_number a b e = grind (arith, nat_tests)

byte_spelled : (byte : ℕ) (rest : List ℕ) (ten nine apostrophe quote : Bool) → (byte == 10) ≡ ten → (byte == 9) ≡ nine → (byte == 39) ≡ apostrophe → (byte == 34) ≡ quote → can_be_spelled byte ≡ true → SpellsOne byte rest
unfolding SpellsOne
byte_spelled byte rest true nine apostrophe quote a b c d can = subst (λ k. SpellsOne k rest) (same_number byte 10 a) (newline_spelled rest)
byte_spelled byte rest false true apostrophe quote a b c d can = subst (λ k. SpellsOne k rest) (same_number byte 9 b) (tab_spelled rest)
byte_spelled byte rest false false true quote a b c d can = subst (λ k. SpellsOne k rest) (same_number byte 39 c) (apostrophe_spelled rest)
byte_spelled byte rest false false false true a b c d can = subst (λ k. SpellsOne k rest) (same_number byte 34 d) (quote_spelled rest)
byte_spelled byte rest false false false false a b c d can =
    subst (λ bytes. quoted (bytes ++ rest) ≡ spells byte (length bytes) (quoted rest)) (sym (is_itself byte a b c d)) (quoted_plain byte rest (is_plain byte a b c d can))

bytes_spelled : (bytes : List ℕ) → list_all can_be_spelled bytes ≡ true → quoted (flat_map escaped_byte bytes ++ 34 ∷ []) ≡ Closes bytes (length (flat_map escaped_byte bytes) + 1)
unfolding SpellsOne spells quoted inner_of
bytes_spelled [] can = refl
bytes_spelled (byte ∷ bytes) can =
    let parts = both (can_be_spelled byte) (list_all can_be_spelled bytes) can in
    let more = flat_map escaped_byte bytes in
    let size : length (escaped_byte byte) + (length more + 1) ≡ length (escaped_byte byte ++ more) + 1 = omega (arith, length-append (escaped_byte byte) more) in
    ap quoted (append_assoc (escaped_byte byte) more (34 ∷ []))
    ∙ byte_spelled byte (more ++ 34 ∷ []) (byte == 10) (byte == 9) (byte == 39) (byte == 34) refl refl refl refl parts.0
    ∙ ap (spells byte (length (escaped_byte byte))) (bytes_spelled bytes parts.1)
    ∙ ap (Closes (byte ∷ bytes)) size

pub string_is_spelled : (bytes : List ℕ) → list_all can_be_spelled bytes ≡ true → length bytes ≤ 65535 → SpellsString bytes (string_text bytes)
unfolding bytes_of
string_is_spelled bytes can short =
    let body = bytes_spelled bytes can in
    let more = flat_map escaped_byte bytes in
    let spelled : bytes_of (quoted (more ++ 34 ∷ [])) ≡ bytes = ap bytes_of body in
    let size : length more + 1 ≡ length (string_text bytes) - 1 = omega (arith, length-append more (34 ∷ [])) in
    record {
      is_string = record {
        begins = refl;
        closes = body ∙ ap (Closes bytes) size ∙ ap (λ all. Closes all (length (string_text bytes) - 1)) (sym spelled);
        fits = subst (λ all. length all ≤ 65535) (sym spelled) short;
      };
      bytes_are = spelled;
    }
