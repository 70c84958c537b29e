-- What a token is to the grammar.
use Rattle.std.specs.Prelude.{Bool, true, false, Option, Some, None, slice_get, unwrap_or, is_some}
use Rattle.ps_base.specs.declared.operator.Operator.TheVariants.{Add, Sub, Mul}
use Rattle.ps_base.specs.declared.operator.Operator.TheVariants as arith
use Rattle.ps_base.specs.declared.operator.Relation.TheVariants as order
use Rattle.ps_scan.specs.declared.token.TokenKind.{TokenKind}
use Rattle.ps_scan.specs.declared.token.TokenKind.TheVariants.{Word, Mark}
use Rattle.ps_scan.specs.declared.token.TokenKind.TheVariants as scanned
use Rattle.ps_symbols.specs.declared.kind.Kind.{Kind}
use Rattle.ps_symbols.specs.declared.kind.Kind.TheVariants as kind
use Rattle.ps_symbols.specs.declared.kind.Level.{Level}
use Rattle.ps_symbols.specs.declared.kind.Level.TheVariants.{Disjunction, Conjunction, Sum, Product}
use Rattle.ps_symbols.specs.declared.kind.Operation.{Operation}
use Rattle.ps_symbols.specs.declared.kind.Operation.TheVariants as operation
use Rattle.ps_symbols.specs.declared.kind.Opening.{Opening}
use Rattle.ps_symbols.specs.declared.kind.Opening.TheVariants as opening
use Rattle.ps_symbols.specs.declared.kind.Relating.{Relating}
use Rattle.ps_symbols.specs.declared.kind.Relating.TheVariants.{Compares, IsOf}
use Rattle.ps_symbols.specs.declared.kind.Start.{Start}
use Rattle.ps_symbols.specs.declared.kind.Start.TheVariants as start
use Rattle.ps_symbols.specs.declared.kind.TypeStart.{TypeStart}
use Rattle.ps_symbols.specs.declared.kind.TypeStart.TheVariants as typed
use Rattle.ps_symbols.specs.declared.kind.TheConstants.{WORDS, MARKS}

-- the kind of a token: a word's and a mark's stands in its place
abbrev pub kind_of : TokenKind → Kind
kind_of scanned.Name = kind.Name
kind_of scanned.Int = kind.Int
kind_of scanned.Text = kind.Text
kind_of (Word place) = unwrap_or (slice_get WORDS place) kind.Stray
kind_of (Mark place) = unwrap_or (slice_get MARKS place) kind.Stray

-- the operators of each level
abbrev pub operation_of : Level → Kind → Option Operation
operation_of Disjunction kind.Or = Some operation.Or
operation_of Conjunction kind.And = Some operation.And
operation_of Sum kind.Plus = Some (operation.Arith Add)
operation_of Sum kind.Minus = Some (operation.Arith Sub)
operation_of Sum kind.Concatenate = Some operation.Join
operation_of Product kind.Times = Some (operation.Arith Mul)
operation_of Product kind.Div = Some (operation.Arith arith.Div)
operation_of Product kind.Rem = Some (operation.Arith arith.Rem)
operation_of _ _ = None

-- what may stand after a sum: a comparison, or `is` and `isnt`
abbrev pub relating_of : Kind → Option Relating
relating_of kind.Equals = Some (Compares order.Equal)
relating_of kind.NotEquals = Some (Compares order.NotEqual)
relating_of kind.Less = Some (Compares order.Less)
relating_of kind.LessEqual = Some (Compares order.LessEqual)
relating_of kind.Greater = Some (Compares order.Greater)
relating_of kind.GreaterEqual = Some (Compares order.GreaterEqual)
relating_of kind.Is = Some (IsOf false)
relating_of kind.Isnt = Some (IsOf true)
relating_of _ = None

-- how a clause goes on that begins with this token; none where it can't begin so
abbrev pub opening_of : Kind → Option Opening
opening_of kind.If = Some opening.Condition
opening_of kind.While = Some opening.Repetition
opening_of kind.Repeat = Some opening.Repeating
opening_of kind.For = Some opening.Counting
opening_of kind.Case = Some opening.Choosing
opening_of kind.Write = Some opening.Writing
opening_of kind.Abort = Some opening.Aborting
opening_of kind.Proc = Some opening.Procedure
opening_of kind.Vector = Some opening.Filling
opening_of kind.Name = Some opening.Expression
opening_of kind.Int = Some opening.Expression
opening_of kind.Text = Some opening.Expression
opening_of kind.True = Some opening.Expression
opening_of kind.False = Some opening.Expression
opening_of kind.Nil = Some opening.Expression
opening_of kind.Begin = Some opening.Expression
opening_of kind.OpenRound = Some opening.Expression
opening_of kind.OpenCurly = Some opening.Expression
opening_of kind.Lwb = Some opening.Expression
opening_of kind.Upb = Some opening.Expression
opening_of kind.At = Some opening.Expression
opening_of kind.Tilde = Some opening.Expression
opening_of kind.Plus = Some opening.Expression
opening_of kind.Minus = Some opening.Expression
opening_of _ = None

-- what a primary is that begins with this token; none where it can't begin so
abbrev pub start_of : Kind → Option Start
start_of kind.Name = Some start.Name
start_of kind.Int = Some start.Int
start_of kind.Text = Some start.Text
start_of kind.True = Some (start.Flag true)
start_of kind.False = Some (start.Flag false)
start_of kind.Nil = Some start.Nil
start_of kind.OpenRound = Some start.Round
start_of kind.Begin = Some (start.Block kind.End)
start_of kind.OpenCurly = Some (start.Block kind.CloseCurly)
start_of kind.Lwb = Some (start.Bound false)
start_of kind.Upb = Some (start.Bound true)
start_of kind.At = Some start.Elements
start_of _ = None

-- which type begins with this token; none where none does
abbrev pub type_start_of : Kind → Option TypeStart
type_start_of kind.IntType = Some typed.Int
type_start_of kind.BoolType = Some typed.Bool
type_start_of kind.StringType = Some typed.Str
type_start_of kind.PntrType = Some typed.Pntr
type_start_of kind.Times = Some typed.Vector
type_start_of kind.Proc = Some typed.Proc
type_start_of _ = None

abbrev pub begins_type : Kind → Bool
begins_type kind = is_some (type_start_of kind)

-- the tokens with which an item can begin
abbrev pub begins_item : Kind → Bool
begins_item kind.Let = true
begins_item kind.Structure = true
begins_item kind.Procedure = true
begins_item kind = is_some (opening_of kind)
