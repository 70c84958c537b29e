-- An instruction from its code and its operands, and so what two spellings of one prefix are.
use Rattle.std.proofs.Common.{◌≡◌, ℕ, ◌^◌, ◌<◌, List, [], ◌∷◌, ◌++◌, length, take, drop, get_or, refl, sym, ap, ◌∙◌, arith, lit≤, append_assoc, ◌-◌}
use Rattle.std.specs.Prelude.{slice_index}
use Rattle.std.specs.List.{AllByRecursion}
use Rattle.std.specs.Int.{w32, to_le_bytes, from_le_bytes, cast_signed}
use Rattle.std.proofs.lemmas.Nat.{from_le_bytes-to_le_bytes_4}
use Rattle.std.proofs.lemmas.Int.{to_z-of_z, ints}
use Rattle.ps_base.specs.declared.instr.Instr.{Instr}
use Rattle.ps_base.specs.declared.instr.Instr.TheVariants.{Int, True, False, Text, Nil, GetM, GetP, SetM, SetP, KeptM, KeptP, KeepM, KeepP, Scope, Leave, Jump, JumpFalse, Again, And, Or, Not, Neg, Add, Sub, Mul, Div, Rem, EqM, NeM, LtM, LeM, GtM, GeM, EqP, NeP, EqT, NeT, LtT, LeT, GtT, GeT, Join, Part, Is, Make, FieldM, FieldP, SetFieldM, SetFieldP, FillM, FillP, ListM, ListP, ElemM, ElemP, SetElemM, SetElemP, Lwb, Upb, Closure, Call, Return, Lib, WriteI, WriteB, WriteT, Abort, ForStart, ForNext, ScanT, ScanI, ScanMore, DupM, DupP, DropM, DropP, JumpTrue}
use Rattle.ps_base.specs.Instr.{word, words, parts_of, spelling, IsInstr}
use Rattle.ps_code.specs.Codes.{IsCode, operand_count}

-- for each code from 1 on
makers : List (List ℕ → Instr)
makers = (λ ops. Int (cast_signed w32 (slice_index ops 0))) ∷ (λ ops. True) ∷ (λ ops. False) ∷ (λ ops. Text (slice_index ops 0)) ∷ (λ ops. Nil) ∷ (λ ops. GetM (slice_index ops 0)) ∷ (λ ops. GetP (slice_index ops 0)) ∷ (λ ops. SetM (slice_index ops 0)) ∷ (λ ops. SetP (slice_index ops 0)) ∷ (λ ops. KeptM (slice_index ops 0) (slice_index ops 1)) ∷ (λ ops. KeptP (slice_index ops 0) (slice_index ops 1)) ∷ (λ ops. KeepM (slice_index ops 0) (slice_index ops 1)) ∷ (λ ops. KeepP (slice_index ops 0) (slice_index ops 1)) ∷ (λ ops. Scope (slice_index ops 0)) ∷ (λ ops. Leave) ∷ (λ ops. Jump (slice_index ops 0)) ∷ (λ ops. JumpFalse (slice_index ops 0)) ∷ (λ ops. Again (slice_index ops 0)) ∷ (λ ops. And (slice_index ops 0)) ∷ (λ ops. Or (slice_index ops 0)) ∷ (λ ops. Not) ∷ (λ ops. Neg (record { 0 = slice_index ops 0 })) ∷ (λ ops. Add (record { 0 = slice_index ops 0 })) ∷ (λ ops. Sub (record { 0 = slice_index ops 0 })) ∷ (λ ops. Mul (record { 0 = slice_index ops 0 })) ∷ (λ ops. Div (record { 0 = slice_index ops 0 })) ∷ (λ ops. Rem (record { 0 = slice_index ops 0 })) ∷ (λ ops. EqM) ∷ (λ ops. NeM) ∷ (λ ops. LtM) ∷ (λ ops. LeM) ∷ (λ ops. GtM) ∷ (λ ops. GeM) ∷ (λ ops. EqP) ∷ (λ ops. NeP) ∷ (λ ops. EqT) ∷ (λ ops. NeT) ∷ (λ ops. LtT) ∷ (λ ops. LeT) ∷ (λ ops. GtT) ∷ (λ ops. GeT) ∷ (λ ops. Join (record { 0 = slice_index ops 0 })) ∷ (λ ops. Part (record { 0 = slice_index ops 0 })) ∷ (λ ops. Is (slice_index ops 0)) ∷ (λ ops. Make (slice_index ops 0)) ∷ (λ ops. FieldM (slice_index ops 0) (slice_index ops 1) (record { 0 = slice_index ops 2 })) ∷ (λ ops. FieldP (slice_index ops 0) (slice_index ops 1) (record { 0 = slice_index ops 2 })) ∷ (λ ops. SetFieldM (slice_index ops 0) (slice_index ops 1) (record { 0 = slice_index ops 2 })) ∷ (λ ops. SetFieldP (slice_index ops 0) (slice_index ops 1) (record { 0 = slice_index ops 2 })) ∷ (λ ops. FillM (slice_index ops 0) (record { 0 = slice_index ops 1 })) ∷ (λ ops. FillP (slice_index ops 0) (record { 0 = slice_index ops 1 })) ∷ (λ ops. ListM (slice_index ops 0) (slice_index ops 1) (record { 0 = slice_index ops 2 })) ∷ (λ ops. ListP (slice_index ops 0) (slice_index ops 1) (record { 0 = slice_index ops 2 })) ∷ (λ ops. ElemM (record { 0 = slice_index ops 0 })) ∷ (λ ops. ElemP (record { 0 = slice_index ops 0 })) ∷ (λ ops. SetElemM (record { 0 = slice_index ops 0 })) ∷ (λ ops. SetElemP (record { 0 = slice_index ops 0 })) ∷ (λ ops. Lwb) ∷ (λ ops. Upb) ∷ (λ ops. Closure (slice_index ops 0)) ∷ (λ ops. Call (slice_index ops 0) (record { 0 = slice_index ops 1 })) ∷ (λ ops. Return (slice_index ops 0)) ∷ (λ ops. Lib (slice_index ops 0) (record { 0 = slice_index ops 1 })) ∷ (λ ops. WriteI (slice_index ops 0) (record { 0 = slice_index ops 1 })) ∷ (λ ops. WriteB (slice_index ops 0) (record { 0 = slice_index ops 1 })) ∷ (λ ops. WriteT (slice_index ops 0) (record { 0 = slice_index ops 1 })) ∷ (λ ops. Abort (record { 0 = slice_index ops 0 })) ∷ (λ ops. ForStart (slice_index ops 0) (slice_index ops 1) (record { 0 = slice_index ops 2 })) ∷ (λ ops. ForNext (slice_index ops 0) (slice_index ops 1)) ∷ (λ ops. ScanT (slice_index ops 0) (slice_index ops 1) (slice_index ops 2) (record { 0 = slice_index ops 3 })) ∷ (λ ops. ScanI (slice_index ops 0) (slice_index ops 1) (slice_index ops 2) (record { 0 = slice_index ops 3 })) ∷ (λ ops. ScanMore (slice_index ops 0) (slice_index ops 1)) ∷ (λ ops. DupM) ∷ (λ ops. DupP) ∷ (λ ops. DropM) ∷ (λ ops. DropP) ∷ (λ ops. JumpTrue (slice_index ops 0)) ∷ []

make : ℕ → List ℕ → Instr
make code ops = get_or makers (code - 1) (λ _. True) ops

remade : (instr : Instr) → IsInstr instr → make (parts_of instr).code (parts_of instr).operands ≡ instr
unfolding make makers
remade (Int v) fits = ap Int (to_z-of_z w32 v fits)
remade instr fits = refl

pub counted : (instr : Instr) → length (parts_of instr).operands ≡ operand_count (parts_of instr).code
counted (Int v) = refl
counted instr = refl

pub coded : (instr : Instr) → IsCode (parts_of instr).code
coded (Int v) = (lit≤ tt, lit≤ tt)
coded instr = (lit≤ tt, lit≤ tt)

pub ruleset coding = (counted, coded)

small_operands : (instr : Instr) → IsInstr instr → AllByRecursion (λ n. n < 2 ^ 32) (parts_of instr).operands
small_operands (Int v) fits = (omega (arith, ints), tt)
small_operands instr fits = fits

word_front : (m n : ℕ) (a b : List ℕ) → m < 2 ^ 32 → n < 2 ^ 32 → word m ++ a ≡ word n ++ b → (m ≡ n) × (a ≡ b)
unfolding word
word_front m n a b small_m small_n e =
    let same : to_le_bytes w32 m ≡ to_le_bytes w32 n = ap (take 4) e in
    (sym (from_le_bytes-to_le_bytes_4 m small_m) ∙ ap (from_le_bytes w32) same ∙ from_le_bytes-to_le_bytes_4 n small_n, ap (drop 4) e)

words_front : (xs ys a b : List ℕ) → length xs ≡ length ys → AllByRecursion (λ n. n < 2 ^ 32) xs → AllByRecursion (λ n. n < 2 ^ 32) ys → words xs ++ a ≡ words ys ++ b → (xs ≡ ys) × (a ≡ b)
words_front [] [] a b long small_xs small_ys e = (refl, e)
words_front [] (y ∷ ys) a b long small_xs small_ys e = absurd (omega arith)
words_front (x ∷ xs) [] a b long small_xs small_ys e = absurd (omega arith)
words_front (x ∷ []) (y ∷ []) a b long small_xs small_ys e =
    let first = word_front x y a b small_xs.0 small_ys.0 e in (ap (λ n. n ∷ []) first.0, first.1)
words_front (x ∷ []) (y ∷ y2 ∷ ys) a b long small_xs small_ys e = absurd (omega arith)
words_front (x ∷ x2 ∷ xs) (y ∷ []) a b long small_xs small_ys e = absurd (omega arith)
words_front (x ∷ x2 ∷ xs) (y ∷ y2 ∷ ys) a b long small_xs small_ys e =
    let first = word_front x y (words (x2 ∷ xs) ++ a) (words (y2 ∷ ys) ++ b) small_xs.0 small_ys.0 (sym (append_assoc (word x) (words (x2 ∷ xs)) a) ∙ e ∙ append_assoc (word y) (words (y2 ∷ ys)) b) in
    let rest = words_front (x2 ∷ xs) (y2 ∷ ys) a b (omega arith) small_xs.1 small_ys.1 first.1 in
    (cc, rest.1)

-- the prefix of a spelling is no other spelling
pub one_front : (i j : Instr) (a b : List ℕ) → IsInstr i → IsInstr j → spelling i ++ a ≡ spelling j ++ b → (i ≡ j) × (a ≡ b)
one_front i j a b fits_i fits_j e =
    let same_code : (parts_of i).code ≡ (parts_of j).code = cc in
    let same_count : length (parts_of i).operands ≡ length (parts_of j).operands = counted i ∙ ap operand_count same_code ∙ sym (counted j) in
    let tails : words (parts_of i).operands ++ a ≡ words (parts_of j).operands ++ b = cc in
    let rest = words_front (parts_of i).operands (parts_of j).operands a b same_count (small_operands i fits_i) (small_operands j fits_j) tails in
    (sym (remade i fits_i) ∙ ap (λ code. make code (parts_of i).operands) same_code ∙ ap (make (parts_of j).code) rest.0 ∙ remade j fits_j, rest.1)
