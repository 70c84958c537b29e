-- Pieces of code, one after the other. What was made of a body so far is a state: its bytes, its constants, and the locals taken
-- so far. A piece puts instructions, constants and locals after it.
use Rattle.std.specs.Prelude.{◌≡◌, ℕ, ◌+◌, List, [], ◌∷◌, ◌++◌, length, map, take, drop}
use Rattle.std.specs.List.{AllByRecursion}
use Rattle.ps_base.specs.Instr.{spelled, spelling, width_of, IsInstr}
use Rattle.ps_base.specs.CodeUnit.{ConstantView, constant_view}
use Rattle.ps_base.specs.declared.instr.Instr.{Instr}
use Rattle.ps_emitter.specs.declared.emitter.Emitter.{Emitter}

pub record State : Type 0 where
  pub code : List ℕ
  pub constants : List ConstantView
  pub nums : ℕ
  pub refs : ℕ

abbrev pub state_of : Emitter → State
state_of e = record { code = e.code.items; constants = map constant_view e.constants.items; nums = e.nums; refs = e.refs }

-- The offset where a piece ends and the number of the next constant there, from those where it begins; the constants that it puts,
-- how many locals it takes on each stack, and the instructions of each literal among the constants, with those inside them.
pub record Shape : Type 0 where
  pub ends : ℕ → ℕ
  pub names : ℕ → ℕ
  pub constants : List ConstantView
  pub nums : ℕ
  pub refs : ℕ
  pub literals : List (List Instr)

-- the instructions, from the offset of the first and the number of the first constant
pub record Piece : Type 0 where
  pub shape : Shape
  pub instrs : ℕ → ℕ → List Instr

abbrev pub join : Shape → Shape → Shape
join s t = record { ends = λ at. t.ends (s.ends at); names = λ k. t.names (s.names k); constants = s.constants ++ t.constants; nums = s.nums + t.nums; refs = s.refs + t.refs; literals = s.literals ++ t.literals }

infixr 20 ◌▷◌
unfoldable pub ◌▷◌ : Piece → Piece → Piece
p ▷ q = record { shape = join p.shape q.shape; instrs = λ at k. p.instrs at k ++ q.instrs (p.shape.ends at) (p.shape.names k) }

abbrev pub bytes_alone : ℕ → Shape
bytes_alone size = record { ends = λ at. at + size; names = λ k. k; constants = []; nums = 0; refs = 0; literals = [] }

unfoldable pub empty : Piece
empty = record { shape = record { ends = λ at. at; names = λ k. k; constants = []; nums = 0; refs = 0; literals = [] }; instrs = λ at k. [] }

-- an instruction
unfoldable pub one : Instr → Piece
one i = record { shape = bytes_alone (width_of i); instrs = λ at k. i ∷ [] }

-- a constant, which an instruction before it names
unfoldable pub constant : ConstantView → Piece
constant c = record { shape = record { ends = λ at. at; names = λ k. k + 1; constants = c ∷ []; nums = 0; refs = 0; literals = [] }; instrs = λ at k. [] }

-- locals
unfoldable pub takes : ℕ → ℕ → Piece
takes nums refs = record { shape = record { ends = λ at. at; names = λ k. k; constants = []; nums = nums; refs = refs; literals = [] }; instrs = λ at k. [] }

abbrev pub at_end : State → ℕ
at_end s = length s.code

abbrev pub next : State → ℕ
next s = length s.constants

-- each of these instructions can be spelled
abbrev pub AreInstrs : List Instr → Type 0
AreInstrs is = AllByRecursion IsInstr is

pub record Puts (p : Piece) (a b : State) : Type 0 where
  pub code : b.code ≡ a.code ++ spelled (p.instrs (at_end a) (next a))
  pub long : at_end b ≡ p.shape.ends (at_end a)
  pub constants : b.constants ≡ a.constants ++ p.shape.constants
  pub counted : next b ≡ p.shape.names (next a)
  pub nums : b.nums ≡ a.nums + p.shape.nums
  pub refs : b.refs ≡ a.refs + p.shape.refs
  pub units : AllByRecursion AreInstrs p.shape.literals
  pub are : AreInstrs (p.instrs (at_end a) (next a))

-- bytes written over others
abbrev pub over : ℕ → List ℕ → List ℕ → List ℕ
over at bytes code = (take at code ++ bytes) ++ drop (at + length bytes) code

-- the same at each of these places
abbrev pub filled : List ℕ → List ℕ → List ℕ → List ℕ
filled bytes [] code = code
filled bytes (hole ∷ holes) code = filled bytes holes (over hole bytes code)

abbrev pub fill : List ℕ → List ℕ → State → State
fill bytes holes s = record s { code = filled bytes holes s.code }

-- A piece with holes, in which jumps to one place are missing: where all are filled, it is the piece that jumps there.
pub record Opens (jump : ℕ → Instr) (p : ℕ → Piece) (holes : List ℕ) (a b : State) : Type 0 where
  pub puts : Puts (p 0) a b
  pub shape : (t : ℕ) → (p t).shape ≡ (p 0).shape
  pub fills : (t : ℕ) (pre post : List ℕ) → length pre ≡ at_end a → filled (spelling (jump t)) holes (pre ++ (spelled ((p 0).instrs (at_end a) (next a)) ++ post)) ≡ pre ++ (spelled ((p t).instrs (at_end a) (next a)) ++ post)
  pub wide : (t : ℕ) → at_end a + length (spelled ((p t).instrs (at_end a) (next a))) ≡ (p t).shape.ends (at_end a)
  pub are : (t : ℕ) → IsInstr (jump t) → AreInstrs ((p t).instrs (at_end a) (next a))

-- where the jumps go to the end of what follows the piece
unfoldable pub to_behind : (ℕ → ℕ) → (ℕ → Piece) → Piece
to_behind behind p = record { shape = (p 0).shape; instrs = λ at k. (p (behind ((p 0).shape.ends at))).instrs at k }

-- what depends on the offset at which it begins
unfoldable pub from_begin : (ℕ → Piece) → Piece
from_begin p = record { shape = (p 0).shape; instrs = λ at k. (p at).instrs at k }

-- the same instructions, offsets, constants and locals
pub record Same (p q : Piece) : Type 0 where
  pub ends : (at : ℕ) → p.shape.ends at ≡ q.shape.ends at
  pub names : (k : ℕ) → p.shape.names k ≡ q.shape.names k
  pub constants : p.shape.constants ≡ q.shape.constants
  pub nums : p.shape.nums ≡ q.shape.nums
  pub refs : p.shape.refs ≡ q.shape.refs
  pub literals : p.shape.literals ≡ q.shape.literals
  pub instrs : (at k : ℕ) → p.instrs at k ≡ q.instrs at k

-- a piece whose offset is known, and such a piece after another
pub record Hole (p : Piece) (at : ℕ) (a b : State) : Type 0 where
  pub puts : Puts p a b
  pub is : at ≡ at_end a

pub record Halfway (p q : Piece) (at : ℕ) (a b : State) : Type 0 where
  pub mid : State
  pub first : Puts p a mid
  pub second : Puts q mid b
  pub is : at ≡ at_end mid

-- what is left to put makes the whole
pub record Left (rest whole : Piece) (start now : State) : Type 0 where
  pub goes : (end : State) → Puts rest now end → Puts whole start end

-- the same, where jumps are missing
pub record LeftOpen (jump : ℕ → Instr) (rest whole : ℕ → Piece) (holes : List ℕ) (start now : State) : Type 0 where
  pub goes : (end : State) (others : List ℕ) → Opens jump rest others now end → Opens jump whole (holes ++ others) start end
