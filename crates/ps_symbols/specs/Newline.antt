-- The two lists of the newline rule: what a clause can end with, and what it can go on with.
use Rattle.std.specs.Prelude.{Bool, true, false}
use Rattle.ps_symbols.specs.declared.kind.Kind.{Kind}
use Rattle.ps_symbols.specs.declared.kind.Kind.TheVariants as kind

-- a name, an int, a string, `true`, `false`, `nil`, `abort`, `)`, `]`, `}` and `end`; nothing else
abbrev pub can_end : Kind → Bool
can_end kind.Name = true
can_end kind.Int = true
can_end kind.Text = true
can_end kind.True = true
can_end kind.False = true
can_end kind.Nil = true
can_end kind.Abort = true
can_end kind.CloseRound = true
can_end kind.CloseSquare = true
can_end kind.CloseCurly = true
can_end kind.End = true
can_end _ = false

-- closing brackets, `[`, what stands between two parts, what joins two operands, and the words that
-- stand inside a clause or close one; nothing else
abbrev pub can_continue : Kind → Bool
can_continue kind.CloseRound = true
can_continue kind.CloseSquare = true
can_continue kind.CloseCurly = true
can_continue kind.OpenSquare = true
can_continue kind.Comma = true
can_continue kind.Semicolon = true
can_continue kind.Colon = true
can_continue kind.DoubleColon = true
can_continue kind.Becomes = true
can_continue kind.Equals = true
can_continue kind.NotEquals = true
can_continue kind.Less = true
can_continue kind.LessEqual = true
can_continue kind.Greater = true
can_continue kind.GreaterEqual = true
can_continue kind.Plus = true
can_continue kind.Minus = true
can_continue kind.Concatenate = true
can_continue kind.Times = true
can_continue kind.Arrow = true
can_continue kind.Question = true
can_continue kind.Bar = true
can_continue kind.And = true
can_continue kind.Or = true
can_continue kind.Div = true
can_continue kind.Rem = true
can_continue kind.Is = true
can_continue kind.Isnt = true
can_continue kind.Then = true
can_continue kind.Else = true
can_continue kind.Do = true
can_continue kind.Of = true
can_continue kind.To = true
can_continue kind.By = true
can_continue kind.End = true
can_continue _ = false
