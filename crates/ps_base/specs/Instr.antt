-- The instructions and the one spelling of each.
use Rattle.std.specs.Prelude.{ℕ, ◌+◌, ◌*◌, ◌<◌, ◌^◌, List, [], ◌∷◌, ◌++◌, length, FitsSigned}
use Rattle.std.specs.List.{AllByRecursion}
use Rattle.std.specs.Int.{w32, to_le_bytes, cast_unsigned}
use Rattle.ps_base.specs.declared.instr.Instr.{Instr}
use Rattle.ps_base.specs.declared.instr.Instr.TheVariants.{Int, True, False, Text, Nil, GetM, GetP, SetM, SetP, KeptM, KeptP, KeepM, KeepP, Scope, Leave, Jump, JumpFalse, Again, And, Or, Not, Neg, Add, Sub, Mul, Div, Rem, EqM, NeM, LtM, LeM, GtM, GeM, EqP, NeP, EqT, NeT, LtT, LeT, GtT, GeT, Join, Part, Is, Make, FieldM, FieldP, SetFieldM, SetFieldP, FillM, FillP, ListM, ListP, ElemM, ElemP, SetElemM, SetElemP, Lwb, Upb, Closure, Call, Return, Lib, WriteI, WriteB, WriteT, Abort, ForStart, ForNext, ScanT, ScanI, ScanMore, DupM, DupP, DropM, DropP, JumpTrue}

-- what is spelled: the number of the instruction, and the numbers that follow it
pub record Parts : Type 0 where
  pub code : ℕ
  pub operands : List ℕ

abbrev pub parts : ℕ → List ℕ → Parts
parts code operands = record { code = code; operands = operands }

-- an int is spelled as its two's complement, a line as its number
abbrev pub parts_of : Instr → Parts
parts_of (Int v) = parts 1 (cast_unsigned w32 v ∷ [])
parts_of True = parts 2 []
parts_of False = parts 3 []
parts_of (Text c) = parts 4 (c ∷ [])
parts_of Nil = parts 5 []
parts_of (GetM s) = parts 6 (s ∷ [])
parts_of (GetP s) = parts 7 (s ∷ [])
parts_of (SetM s) = parts 8 (s ∷ [])
parts_of (SetP s) = parts 9 (s ∷ [])
parts_of (KeptM u i) = parts 10 (u ∷ i ∷ [])
parts_of (KeptP u i) = parts 11 (u ∷ i ∷ [])
parts_of (KeepM u i) = parts 12 (u ∷ i ∷ [])
parts_of (KeepP u i) = parts 13 (u ∷ i ∷ [])
parts_of (Scope c) = parts 14 (c ∷ [])
parts_of Leave = parts 15 []
parts_of (Jump t) = parts 16 (t ∷ [])
parts_of (JumpFalse t) = parts 17 (t ∷ [])
parts_of (Again t) = parts 18 (t ∷ [])
parts_of (And t) = parts 19 (t ∷ [])
parts_of (Or t) = parts 20 (t ∷ [])
parts_of Not = parts 21 []
parts_of (Neg line) = parts 22 (line.0 ∷ [])
parts_of (Add line) = parts 23 (line.0 ∷ [])
parts_of (Sub line) = parts 24 (line.0 ∷ [])
parts_of (Mul line) = parts 25 (line.0 ∷ [])
parts_of (Div line) = parts 26 (line.0 ∷ [])
parts_of (Rem line) = parts 27 (line.0 ∷ [])
parts_of EqM = parts 28 []
parts_of NeM = parts 29 []
parts_of LtM = parts 30 []
parts_of LeM = parts 31 []
parts_of GtM = parts 32 []
parts_of GeM = parts 33 []
parts_of EqP = parts 34 []
parts_of NeP = parts 35 []
parts_of EqT = parts 36 []
parts_of NeT = parts 37 []
parts_of LtT = parts 38 []
parts_of LeT = parts 39 []
parts_of GtT = parts 40 []
parts_of GeT = parts 41 []
parts_of (Join line) = parts 42 (line.0 ∷ [])
parts_of (Part line) = parts 43 (line.0 ∷ [])
parts_of (Is c) = parts 44 (c ∷ [])
parts_of (Make c) = parts 45 (c ∷ [])
parts_of (FieldM c i line) = parts 46 (c ∷ i ∷ line.0 ∷ [])
parts_of (FieldP c i line) = parts 47 (c ∷ i ∷ line.0 ∷ [])
parts_of (SetFieldM c i line) = parts 48 (c ∷ i ∷ line.0 ∷ [])
parts_of (SetFieldP c i line) = parts 49 (c ∷ i ∷ line.0 ∷ [])
parts_of (FillM c line) = parts 50 (c ∷ line.0 ∷ [])
parts_of (FillP c line) = parts 51 (c ∷ line.0 ∷ [])
parts_of (ListM c n line) = parts 52 (c ∷ n ∷ line.0 ∷ [])
parts_of (ListP c n line) = parts 53 (c ∷ n ∷ line.0 ∷ [])
parts_of (ElemM line) = parts 54 (line.0 ∷ [])
parts_of (ElemP line) = parts 55 (line.0 ∷ [])
parts_of (SetElemM line) = parts 56 (line.0 ∷ [])
parts_of (SetElemP line) = parts 57 (line.0 ∷ [])
parts_of Lwb = parts 58 []
parts_of Upb = parts 59 []
parts_of (Closure c) = parts 60 (c ∷ [])
parts_of (Call n line) = parts 61 (n ∷ line.0 ∷ [])
parts_of (Return k) = parts 62 (k ∷ [])
parts_of (Lib k line) = parts 63 (k ∷ line.0 ∷ [])
parts_of (WriteI w line) = parts 64 (w ∷ line.0 ∷ [])
parts_of (WriteB w line) = parts 65 (w ∷ line.0 ∷ [])
parts_of (WriteT w line) = parts 66 (w ∷ line.0 ∷ [])
parts_of (Abort line) = parts 67 (line.0 ∷ [])
parts_of (ForStart s t line) = parts 68 (s ∷ t ∷ line.0 ∷ [])
parts_of (ForNext s t) = parts 69 (s ∷ t ∷ [])
parts_of (ScanT q s t line) = parts 70 (q ∷ s ∷ t ∷ line.0 ∷ [])
parts_of (ScanI q s t line) = parts 71 (q ∷ s ∷ t ∷ line.0 ∷ [])
parts_of (ScanMore s t) = parts 72 (s ∷ t ∷ [])
parts_of DupM = parts 73 []
parts_of DupP = parts 74 []
parts_of DropM = parts 75 []
parts_of DropP = parts 76 []
parts_of (JumpTrue t) = parts 77 (t ∷ [])

-- four bytes, the lowest first
unfoldable pub word : ℕ → List ℕ
word n = to_le_bytes w32 n

-- one word after the other
abbrev pub words : List ℕ → List ℕ
words [] = []
words (n ∷ []) = word n
words (n ∷ m ∷ rest) = word n ++ words (m ∷ rest)

-- a byte for the instruction, and a word for each operand
abbrev pub spelling : Instr → List ℕ
spelling instr = (parts_of instr).code ∷ words (parts_of instr).operands

-- how many bytes that is
abbrev pub width_of : Instr → ℕ
width_of instr = 1 + 4 * length (parts_of instr).operands

-- instructions one after the other
abbrev pub spelled : List Instr → List ℕ
spelled [] = []
spelled (instr ∷ []) = spelling instr
spelled (instr ∷ next ∷ rest) = spelling instr ++ spelled (next ∷ rest)

-- what the fields of an instruction can hold: an int, and else numbers of 32 bits
abbrev pub IsInstr : Instr → Type 0
IsInstr (Int v) = FitsSigned w32 v
IsInstr instr = AllByRecursion (λ n. n < 2 ^ 32) (parts_of instr).operands
