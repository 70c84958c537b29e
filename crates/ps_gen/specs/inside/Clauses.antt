-- The code of each form, made of pieces.
use Rattle.std.specs.Prelude.{ℕ, ◌+◌, Bool, true, false, List, [], ◌∷◌, Option, if◌then◌else◌}
use Rattle.ps_base.specs.TyView.{TyView}
use Rattle.ps_base.specs.TyView as types
use Rattle.ps_base.specs.CodeUnit.{text, literal}
use Rattle.ps_base.specs.declared.line.Line.{Line}
use Rattle.ps_base.specs.declared.operator.Relation.TheVariants.{Equal}
use Rattle.ps_base.specs.declared.instr.Instr.TheVariants as instr
use Rattle.ps_program.specs.declared.place.Place.{Place}
use Rattle.ps_program.specs.Node.{Param, Node, Nodes, none, more, Arms, no_arms, more_arms, arm, BodyNode, body}
use Rattle.ps_program.specs.Node as node
use Rattle.ps_emitter.specs.ps_type_text.Texts.{type_text}
use Rattle.ps_emitter.specs.ps_typing.Locals.{taken_in}
use Rattle.ps_emitter.specs.Giving.{element_of}
use Rattle.ps_emitter.specs.Choices as choice
use Rattle.ps_gen.specs.Emission.{size, size_all, size_arms, size_labels, size_entered, size_left, count, count_all, count_arms, count_scope, entered, left, items_in, emit, emit_all, emit_arms, emit_labels}
use Rattle.ps_gen.specs.Units.{constants, constants_of_all, constants_of_arms, scope_constants, unit_of, kept_at, size_kept_at, keeps, size_keeps}
use Rattle.ps_emitter.specs.ps_typing.Placing.{is_number}
use Rattle.ps_emitter.specs.declared.forward.Forward.{Forward}
use Rattle.ps_emitter.specs.declared.forward.Forward.TheVariants as forward
use Rattle.ps_gen.specs.inside.Literals.{literals_in, literals_in_all, literals_in_arms}
use Rattle.ps_emitter.specs.Pieces.{Piece, ◌▷◌, empty, one, takes, to_behind, from_begin}
use Rattle.ps_emitter.specs.Instructions.{naming, taking, jump_of, turns, zeros}

abbrev pub taken_all : Bool → Nodes → ℕ
taken_all stack none = 0
taken_all stack (more first rest) = taken_in stack first + taken_all stack rest

abbrev pub taken_arms : Bool → Arms → ℕ
taken_arms stack no_arms = 0
taken_arms stack (more_arms (arm labels a) rest) = taken_all stack labels + (taken_in stack a + taken_arms stack rest)

-- the code of a clause, of clauses one after the other
unfoldable pub clause : Node → Piece
clause n = record { shape = record { ends = λ at. at + size n; names = λ k. k + count n; constants = constants n; nums = taken_in true n; refs = taken_in false n; literals = literals_in n }; instrs = emit n }

unfoldable pub clauses : Nodes → Piece
clauses ns = record { shape = record { ends = λ at. at + size_all ns; names = λ k. k + count_all ns; constants = constants_of_all ns; nums = taken_all true ns; refs = taken_all false ns; literals = literals_in_all ns }; instrs = emit_all ns }

-- of the labels of an arm that is chosen at this offset, and of the arms of a `case` that ends at this one
unfoldable pub labels_of : TyView → Nodes → ℕ → Piece
labels_of ty ns t = record { shape = record { ends = λ at. at + size_labels ns; names = λ k. k + count_all ns; constants = constants_of_all ns; nums = taken_all true ns; refs = taken_all false ns; literals = literals_in_all ns }; instrs = emit_labels ty t ns }

unfoldable pub arms_of : TyView → Arms → ℕ → Piece
arms_of ty ns t = record { shape = record { ends = λ at. at + size_arms ns; names = λ k. k + count_arms ns; constants = constants_of_arms ns; nums = taken_arms true ns; refs = taken_arms false ns; literals = literals_in_arms ns }; instrs = emit_arms ty t ns }

unfoldable pub entering : Option (List ℕ) → Piece
entering scope = record { shape = record { ends = λ at. at + size_entered scope; names = λ k. k + count_scope scope; constants = scope_constants scope; nums = 0; refs = 0; literals = [] }; instrs = λ at k. entered scope k }

unfoldable pub leaving : Option (List ℕ) → Piece
leaving scope = record { shape = record { ends = λ at. at + size_left scope; names = λ k. k; constants = []; nums = 0; refs = 0; literals = [] }; instrs = λ at k. left scope }

-- over a clause, to its end
abbrev pub jumping : Forward → Piece → Piece
jumping jump p = to_behind (λ end. end) (λ t. one (jump_of jump t) ▷ p)

-- the code after the first part, which is of this type
abbrev pub behind_of : TyView → Node → Piece
behind_of before (node.SetName place ty e) = one (choice.set place ty)
behind_of before (node.Let place ty e) = one (choice.set place ty) ▷ taking place ty
behind_of before (node.And a b) = jumping forward.And (clause b)
behind_of before (node.Or a b) = jumping forward.Or (clause b)
behind_of before (node.Not e) = one instr.Not
behind_of before (node.Neg e line) = one (instr.Neg line)
behind_of before (node.Plus e) = empty
behind_of before (node.Arith op a b line) = clause b ▷ one (choice.arith op line)
behind_of before (node.Compare op ty a b) = clause b ▷ one (choice.compare op ty)
behind_of before (node.Is e class) = naming instr.Is (text class)
behind_of before (node.Join a b line) = clause b ▷ one (instr.Join line)
behind_of before (node.Part a i n line) = clause i ▷ (clause n ▷ one (instr.Part line))
behind_of before (node.Field e class index ty line) = naming (λ c. choice.by_type ty (instr.FieldM c index line) (instr.FieldP c index line)) (text class)
behind_of before (node.SetField p class index ty e line) = clause e ▷ naming (λ c. choice.by_type ty (instr.SetFieldM c index line) (instr.SetFieldP c index line)) (text class)
behind_of before (node.Element v i ty line) = clause i ▷ one (choice.by_type ty (instr.ElemM line) (instr.ElemP line))
behind_of before (node.SetElement v i e ty line) = clause i ▷ (clause e ▷ one (choice.by_type ty (instr.SetElemM line) (instr.SetElemP line)))
behind_of before (node.Bound v upper) = one (choice.bound upper)
behind_of before (node.Call f args line) = clauses args ▷ one (instr.Call (choice.reference_arguments before) line)
behind_of before _ = empty

-- the code of a `for` after its limits
abbrev pub loop : ℕ → Option (List ℕ) → Place → Node → Line → Piece
loop slot scope control s line =
    from_begin (λ begin. to_behind (λ end. end) (λ t. one (instr.ForStart slot t line) ▷ (entering scope ▷ (one (instr.GetM slot) ▷ (one (choice.set control types.Int) ▷ (clause s ▷ (leaving scope ▷ one (instr.ForNext slot (begin + 13)))))))))

-- a procedure of a body
unfoldable pub closing : BodyNode → Piece
closing of =
    record { shape = record (naming instr.Closure (literal (unit_of of))).shape { literals = literals_in (node.Proc of) }; instrs = λ at k. instr.Closure k ∷ [] }

-- the code of a clause that has no such first part
abbrev pub made : Node → Piece
made (node.Int v) = one (instr.Int v)
made (node.Flag b) = one (choice.flag b)
made (node.Text bytes) = naming instr.Text (text bytes)
made node.Nil = one instr.Nil
made (node.Name place ty) = one (choice.get place ty)
made (node.Block scope items) = entering scope ▷ (clauses items ▷ leaving scope)
made (node.IfDo c a) = clause c ▷ jumping forward.JumpFalse (clause a)
made (node.IfElse c a b) = clause c ▷ (to_behind (λ end. end + 5) (λ t. one (instr.JumpFalse t) ▷ clause a) ▷ jumping forward.Jump (clause b))
made (node.While c a) = from_begin (λ begin. jumping forward.Jump (clause a) ▷ (clause c ▷ one (instr.Again (begin + 5))))
made (node.Repeat a c b) = from_begin (λ begin. jumping forward.Jump (clause b) ▷ (clause a ▷ (clause c ▷ one (instr.Again (begin + 5)))))
made (node.For slot a b c scope control s line) =
    takes 3 0 ▷ (taking control types.Int ▷ (clause a ▷ (one (instr.SetM slot) ▷ (clause b ▷ (one (instr.SetM (slot + 1)) ▷ (clause c ▷ (one (instr.SetM (slot + 2)) ▷ loop slot scope control s line)))))))
made (node.Case e arms d ty) = clause e ▷ (to_behind (λ end. end + 1 + size d) (arms_of ty arms) ▷ (one (choice.by_type ty instr.DropM instr.DropP) ▷ clause d))
made (node.Make class args) = clauses args ▷ naming instr.Make (text class)
made (node.Fill l u e ty line) =
    clause l ▷ (clause u ▷ (clause e ▷ naming (λ c. choice.by_type (element_of ty) (instr.FillM c line) (instr.FillP c line)) (text (type_text ty))))
made (node.Elems l items ty line) =
    clause l ▷ (clauses items ▷ naming (λ c. choice.by_type (element_of ty) (instr.ListM c (items_in items) line) (instr.ListP c (items_in items) line)) (text (type_text ty)))
made (node.Proc of) = closing of
made (node.Lib code args line) = clauses args ▷ one (instr.Lib code line)
made (node.Scan string a f q s line) =
    takes 3 3 ▷ (clause a ▷ (one (instr.SetP q) ▷ (clause f ▷ (one (instr.SetP (q + 1)) ▷ (zeros s ▷ turns string q s line)))))
made (node.Write e w wide ty line) = clause e ▷ (clause w ▷ one (choice.write ty wide line))
made (node.Abort line) = one (instr.Abort line)
made _ = empty

-- a label of an arm that is chosen at this offset, and an arm of a `case` that ends at this one
abbrev pub label_of : TyView → Node → ℕ → Piece
label_of ty label t = one (choice.by_type ty instr.DupM instr.DupP) ▷ (clause label ▷ (one (choice.compare Equal ty) ▷ one (instr.JumpTrue t)))

abbrev pub arm_of : TyView → Nodes → Node → ℕ → Piece
arm_of ty labels a t =
    to_behind (λ end. end + 5) (labels_of ty labels)
    ▷ (to_behind (λ end. end + 5) (λ next. one (instr.Jump next) ▷ (one (choice.by_type ty instr.DropM instr.DropP) ▷ clause a)) ▷ one (instr.Jump t))

-- what keeps the parameters, after so many on each stack
unfoldable pub keeping : List Param → ℕ → ℕ → Piece
keeping params nums refs = record { shape = record { ends = λ at. at + size_keeps params; names = λ k. k; constants = []; nums = 0; refs = 0; literals = [] }; instrs = λ at k. keeps params nums refs }

abbrev pub keep_one : Param → ℕ → ℕ → Piece
keep_one param nums refs = record {
  shape = record { ends = λ at. at + size_kept_at param.place; names = λ k. k; constants = []; nums = 0; refs = 0; literals = [] };
  instrs = λ at k. if is_number param.ty then kept_at param.place (instr.GetM nums) (λ u i. instr.KeepM u i) else kept_at param.place (instr.GetP refs) (λ u i. instr.KeepP u i);
}
