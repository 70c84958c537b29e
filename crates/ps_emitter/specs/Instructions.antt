-- Pieces of single instructions, and of those that stand between two clauses.
use Rattle.std.specs.Prelude.{ℕ, ◌+◌, pos, Bool, true, false, [], ◌∷◌, if◌then◌else◌}
use Rattle.ps_base.specs.TyView.{TyView, ty_view}
use Rattle.ps_base.specs.Instr.{width_of}
use Rattle.ps_base.specs.CodeUnit.{ConstantView}
use Rattle.ps_base.specs.declared.line.Line.{Line}
use Rattle.ps_base.specs.declared.instr.Instr.{Instr}
use Rattle.ps_base.specs.declared.instr.Instr.TheVariants as instr
use Rattle.ps_program.specs.declared.place.Place.{Place}
use Rattle.ps_typing.specs.Locals.{taken_on}
use Rattle.ps_emitter.specs.Choices as choice
use Rattle.ps_emitter.specs.Giving.{element_of}
use Rattle.ps_emitter.specs.declared.forward.Forward.{Forward}
use Rattle.ps_emitter.specs.declared.forward.Forward.TheVariants as forward
use Rattle.ps_emitter.specs.declared.naming.Naming.{Naming}
use Rattle.ps_emitter.specs.declared.naming.Naming.TheVariants as name
use Rattle.ps_emitter.specs.Pieces.{Piece, ◌▷◌, one, takes, to_behind, from_begin}

-- an instruction that names a constant
unfoldable pub naming : (ℕ → Instr) → ConstantView → Piece
naming f c = record { shape = record { ends = λ at. at + width_of (f 0); names = λ k. k + 1; constants = c ∷ []; nums = 0; refs = 0; literals = [] }; instrs = λ at k. f k ∷ [] }

-- the locals of a name that is declared at a place
abbrev pub taking : Place → TyView → Piece
taking place ty = takes (taken_on true ty place) (taken_on false ty place)

-- a jump over a clause
abbrev pub jump_of : Forward → ℕ → Instr
jump_of forward.And t = instr.And t
jump_of forward.Or t = instr.Or t
jump_of forward.JumpFalse t = instr.JumpFalse t
jump_of forward.Jump t = instr.Jump t

-- the instruction that names the constant of a number
abbrev pub named_by : Naming → ℕ → Instr
named_by name.Text c = instr.Text c
named_by name.Scope c = instr.Scope c
named_by name.Is c = instr.Is c
named_by name.Make c = instr.Make c
named_by name.Closure c = instr.Closure c
named_by (name.Field index ty line) c = choice.by_type (ty_view ty.now) (instr.FieldM c index line) (instr.FieldP c index line)
named_by (name.SetField index ty line) c = choice.by_type (ty_view ty.now) (instr.SetFieldM c index line) (instr.SetFieldP c index line)
named_by (name.Fill ty line) c = choice.by_type (element_of (ty_view ty.now)) (instr.FillM c line) (instr.FillP c line)
named_by (name.List ty count line) c = choice.by_type (element_of (ty_view ty.now)) (instr.ListM c count line) (instr.ListP c count line)

-- the code of a scan after its table and its procedure
abbrev pub turns : Bool → ℕ → ℕ → Line → Piece
turns string q s line =
    from_begin (λ begin. to_behind (λ end. end) (λ t. one (choice.scan string q s t line) ▷ (one (instr.Call (if string then 2 else 1) line) ▷ one (instr.ScanMore s begin)))) ▷ one (instr.GetM s)

-- three locals, of which this is the first, are set to zero
abbrev pub zeros : ℕ → Piece
zeros s = one (instr.Int (pos 0)) ▷ (one (instr.SetM s) ▷ (one (instr.Int (pos 0)) ▷ (one (instr.SetM (s + 1)) ▷ (one (instr.Int (pos 0)) ▷ one (instr.SetM (s + 2))))))
