-- Names, and what stands after them.
use Rattle.std.proofs.Common.{◌≡◌, ℕ, ◌+◌, ◌<◌, ◌≤◌, Bool, true, false, if◌then◌else◌, List, [], ◌∷◌, ◌++◌, length, drop, get_or, refl, sym, ap, ◌∙◌, subst}
use Rattle.std.proofs.Common.{arith}
use Rattle.std.specs.Prelude.{slice_index}
use Rattle.std.specs.Char.{is_ascii_alphabetic}
use Rattle.std.proofs.lemmas.Bool.Decides.{nat_tests}
use Rattle.std.proofs.lemmas.List.{drop_all}
use Rattle.ps_type_text.specs.Texts.{is_name_byte, IsName}
use Rattle.text_forms.specs.inside.Reading.{IsOnly, BeginsName, drop_name}
use Rattle.text_forms.proofs.Passing.{from_place}

drop-more : (b : ℕ) (bs : List ℕ) → is_name_byte b ≡ true → drop_name (b ∷ bs) ≡ drop_name bs
unfolding drop_name
drop-more b bs h = ap (λ x. if x then drop_name bs else b ∷ bs) h

drop-none : (b : ℕ) (bs : List ℕ) → is_name_byte b ≡ false → drop_name (b ∷ bs) ≡ b ∷ bs
unfolding drop_name
drop-none b bs h = ap (λ x. if x then drop_name bs else b ∷ bs) h

pub passed_name : (place : ℕ) (bytes : List ℕ) → place < length bytes → is_name_byte (get_or bytes place 0) ≡ true
    → drop_name (drop (place + 1) bytes) ≡ drop_name (drop place bytes)
passed_name place bytes inside h = sym (ap drop_name (from_place place bytes inside) ∙ drop-more (get_or bytes place 0) (drop (place + 1) bytes) h)

pub ends_name : (place : ℕ) (bytes : List ℕ) → place < length bytes → is_name_byte (get_or bytes place 0) ≡ false
    → drop place bytes ≡ drop_name (drop place bytes)
ends_name place bytes inside h =
    from_place place bytes inside ∙ sym (ap drop_name (from_place place bytes inside) ∙ drop-none (get_or bytes place 0) (drop (place + 1) bytes) h)

pub all_name : (place : ℕ) (bytes : List ℕ) → length bytes ≤ place → drop_name (drop place bytes) ≡ []
unfolding drop_name
all_name place bytes all = ap drop_name (drop_all place bytes all)

take_name : List ℕ → List ℕ
take_name [] = []
take_name (b ∷ bs) = if is_name_byte b then b ∷ take_name bs else []

record Split (bytes name rest : List ℕ) : Type 0 where
  is_name : IsName name
  ends : is_name_byte (slice_index rest 0) ≡ false
  spelled : bytes ≡ name ++ rest

split-more : (b : ℕ) (bs name rest : List ℕ) → is_name_byte b ≡ true → Split bs name rest → Split (b ∷ bs) (b ∷ name) rest
split-more b bs name rest h s = record { is_name = (h, s.is_name); ends = s.ends; spelled = ap (λ l. b ∷ l) s.spelled }

split-here : (b : ℕ) (bs : List ℕ) → Split bs (take_name bs) (drop_name bs) → (x : Bool) → is_name_byte b ≡ x
    → Split (b ∷ bs) (if x then b ∷ take_name bs else []) (if x then drop_name bs else b ∷ bs)
split-here b bs s true h = split-more b bs (take_name bs) (drop_name bs) h s
split-here b bs s false h = record { is_name = tt; ends = h; spelled = refl }

split_name : (bytes : List ℕ) → Split bytes (take_name bytes) (drop_name bytes)
unfolding take_name drop_name is_name_byte
split_name [] = record { is_name = tt; ends = refl; spelled = refl }
split_name (b ∷ bs) = split-here b bs (split_name bs) (is_name_byte b) refl

letter-name : (b : ℕ) → is_ascii_alphabetic b ≡ true → is_name_byte b ≡ true
unfolding is_name_byte
letter-name b h = grind (arith, nat_tests)

name-dropped : (name rest : List ℕ) → IsName name → is_name_byte (slice_index rest 0) ≡ false → drop_name (name ++ rest) ≡ rest
unfolding drop_name
name-dropped [] [] n ends = refl
name-dropped [] (b ∷ rest) n ends = drop-none b rest ends
name-dropped (b ∷ name) rest n ends = drop-more b (name ++ rest) n.0 ∙ name-dropped name rest n.1 ends

name-taken : (bytes : List ℕ) → is_ascii_alphabetic (slice_index bytes 0) ≡ true → slice_index (take_name bytes) 0 ≡ slice_index bytes 0
unfolding take_name
name-taken [] h = refl
name-taken (b ∷ bs) h = ap (λ x. slice_index (if x then b ∷ take_name bs else []) 0) (letter-name b h)

name-left : (bytes : List ℕ) → is_ascii_alphabetic (slice_index bytes 0) ≡ true → IsOnly (BeginsName bytes) (drop_name bytes)
name-left bytes h =
    let s = split_name bytes in
    record {
      left = record {
        name = take_name bytes;
        proper = record { letter = ap is_ascii_alphabetic (name-taken bytes h) ∙ h; bytes = s.is_name };
        ends =
            s.ends;
        spelled = s.spelled;
      };
      only = λ other b. sym (ap drop_name b.spelled ∙ name-dropped b.name other b.proper.bytes b.ends);
    }

pub name-only : (b : ℕ) (bytes rest : List ℕ) → b ≡ slice_index bytes 0 → is_ascii_alphabetic b ≡ true → rest ≡ drop_name bytes → IsOnly (BeginsName bytes) rest
name-only b bytes rest is letter left = subst (IsOnly (BeginsName bytes)) (sym left) (name-left bytes (sym (ap is_ascii_alphabetic is) ∙ letter))

no-letter : (name bytes rest : List ℕ) → is_ascii_alphabetic (slice_index bytes 0) ≡ false → is_ascii_alphabetic (slice_index name 0) ≡ true
    → bytes ≡ name ++ rest → ⊥
no-letter [] bytes rest other letter e = cc
no-letter (b ∷ name) bytes rest other letter e = let bad : false ≡ true = sym other ∙ ap (λ l. is_ascii_alphabetic (slice_index l 0)) e ∙ letter in cc

pub name-none : (bytes rest : List ℕ) → is_ascii_alphabetic (slice_index bytes 0) ≡ false → BeginsName bytes rest → ⊥
name-none bytes rest other b = no-letter b.name bytes rest other b.proper.letter b.spelled
