-- What stands at the start of the bytes that were read.
use Rattle.std.proofs.Common.{◌≡◌, ℕ, ◌≤◌, List, ◌∷◌, ◌++◌, length, drop, Option, Some, None, IfSome, MatchOption, sym, ap, subst, ◌∙◌, arith, length-append}
use Rattle.ps_base.specs.declared.instr.Instr.{Instr}
use Rattle.ps_base.specs.Instr.{words, parts_of, spelling, width_of, IsInstr}
use Rattle.ps_base.proofs.Spellings.{length-words, length-spelling}
use Rattle.ps_code.specs.Codes.{IsCode, operand_count}
use Rattle.ps_code.specs.inside.Fronts.{IsShort, IsPrefix}
use Rattle.ps_code.proofs.Makers.{counted, coded, one_front}

-- what a row answers at a code and the bytes after it
abbrev Answers : ℕ → List ℕ → Option (Instr × ℕ) → Type 0
Answers code rest answer = MatchOption answer (IsShort code rest) (λ x. IsPrefix code rest x)

pub front_found : (code : ℕ) (rest : List ℕ) (answer : Option (Instr × ℕ)) → Answers code rest answer → IfSome answer (λ x. code ∷ rest ≡ spelling x.0 ++ drop x.1 (code ∷ rest))
front_found code rest None is = tt
front_found code rest (Some x) is = is.0

pub front_width : (code : ℕ) (rest : List ℕ) (answer : Option (Instr × ℕ)) → Answers code rest answer → IfSome answer (λ x. x.1 ≡ width_of x.0)
front_width code rest None is = tt
front_width code rest (Some x) is = is.1

-- no spelling is longer than the bytes that it stands in
pub front_within : (code : ℕ) (rest : List ℕ) (answer : Option (Instr × ℕ)) → Answers code rest answer → IfSome answer (λ x. x.1 ≤ length (code ∷ rest))
front_within code rest None is = tt
front_within code rest (Some x) is =
    let width = is.1 in
    omega (arith, ap length is.0, length-append (spelling x.0) (drop x.1 (code ∷ rest)), length-spelling x.0)

pub front_fits : (code : ℕ) (rest : List ℕ) (answer : Option (Instr × ℕ)) → Answers code rest answer → IfSome answer (λ x. IsInstr x.0)
front_fits code rest None is = tt
front_fits code rest (Some x) is = is.2

-- the one instruction that is spelled at the start is answered
pub front_is : (code : ℕ) (rest : List ℕ) (answer : Option (Instr × ℕ)) → Answers code rest answer → (i : Instr) (after : List ℕ) → IsInstr i → code ∷ rest ≡ spelling i ++ after → answer ≡ Some (i, width_of i)
front_is code rest None none i after is_instr e =
    let same : code ≡ (parts_of i).code = cc in
    let tail : rest ≡ words (parts_of i).operands ++ after = cc in
    let short = none (subst IsCode (sym same) (coded i)) in
    let count : length (parts_of i).operands ≡ operand_count code = counted i ∙ ap operand_count (sym same) in
    absurd (omega (arith, short, count, ap length tail, length-append (words (parts_of i).operands) after, length-words (parts_of i).operands))
front_is code rest (Some x) is i after is_instr e =
    let same = (one_front x.0 i (drop x.1 (code ∷ rest)) after is.2 is_instr (sym is.0 ∙ e)).0 in
    let long : x.1 ≡ width_of i = is.1 ∙ ap width_of same in
    ap (λ (j : Instr). Some (j, x.1)) same ∙ ap (λ (n : ℕ). Some (i, n)) long
