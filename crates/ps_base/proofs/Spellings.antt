-- How long the spellings are.
use Rattle.std.proofs.Common.{◌≡◌, ℕ, ◌*◌, List, [], ◌∷◌, length, refl, arith, length-append}
use Rattle.ps_base.specs.declared.instr.Instr.{Instr}
use Rattle.ps_base.specs.Instr.{word, words, parts_of, spelling, width_of}

pub length-word : (n : ℕ) → length (word n) ≡ 4
unfolding word
length-word n = refl

pub length-words : (ns : List ℕ) → length (words ns) ≡ 4 * length ns
length-words [] = refl
length-words (n ∷ []) = length-word n
length-words (n ∷ m ∷ rest) =
    let rest_is = length-words (m ∷ rest) in
    omega (arith, length-append (word n) (words (m ∷ rest)), length-word n)

pub length-spelling : (instr : Instr) → length (spelling instr) ≡ width_of instr
length-spelling instr = let e = length-words (parts_of instr).operands in omega arith
