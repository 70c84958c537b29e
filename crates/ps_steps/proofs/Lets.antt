-- A declaration whose initial clause is a literal, and one whose clause is none.
use Rattle.std.proofs.Common.{◌≡◌, ◌+◌, Bool, Option, Some, None, refl, ap}
use Rattle.ps_base.specs.declared.line.Line.{Line}
use Rattle.ps_tree.specs.Phrase.{NameAt, Phrase, at}
use Rattle.ps_tree.specs.Phrase as form
use Rattle.ps_checked.specs.ps_typing.Names.{Names}
use Rattle.ps_checked.specs.ps_typing.Checking.{check_form}
use Rattle.ps_checked.specs.inside.Forms.{check_initial, check_named}
use Rattle.ps_checked.specs.inside.Weights.{weight}
use Rattle.ps_checked.specs.ps_declared.inside.Looks.{LiteralAt, literal_in}

abbrev or_other : LiteralAt → Option LiteralAt → LiteralAt
or_other other (Some l) = l
or_other other None = other

pub let_literal : (names : Names) (line : Line) (name : NameAt) (variable : Bool) (e : Phrase) (l : LiteralAt) → literal_in e ≡ Some l → check_form names line (form.Let name variable e) ≡ check_named names name variable l
let_literal names line name variable (at (form.Proc params gives s) e_line) l is = ap (λ o. check_named names name variable (or_other l o)) is
let_literal names line name variable (at (form.Sequence a) e_line) l is = absurd cc
let_literal names line name variable (at (form.Let a b c) e_line) l is = absurd cc
let_literal names line name variable (at (form.Structure a b) e_line) l is = absurd cc
let_literal names line name variable (at (form.IfDo a b) e_line) l is = absurd cc
let_literal names line name variable (at (form.IfElse a b c) e_line) l is = absurd cc
let_literal names line name variable (at (form.While a b) e_line) l is = absurd cc
let_literal names line name variable (at (form.Repeat a b c) e_line) l is = absurd cc
let_literal names line name variable (at (form.For a b c d e) e_line) l is = absurd cc
let_literal names line name variable (at (form.Case a b c) e_line) l is = absurd cc
let_literal names line name variable (at (form.Write a) e_line) l is = absurd cc
let_literal names line name variable (at form.Abort e_line) l is = absurd cc
let_literal names line name variable (at (form.Vector a b c) e_line) l is = absurd cc
let_literal names line name variable (at (form.Assign a b) e_line) l is = absurd cc
let_literal names line name variable (at (form.Or a b) e_line) l is = absurd cc
let_literal names line name variable (at (form.And a b) e_line) l is = absurd cc
let_literal names line name variable (at (form.Not a) e_line) l is = absurd cc
let_literal names line name variable (at (form.Compare a b c) e_line) l is = absurd cc
let_literal names line name variable (at (form.Is a b c) e_line) l is = absurd cc
let_literal names line name variable (at (form.Join a b) e_line) l is = absurd cc
let_literal names line name variable (at (form.Arith a b c) e_line) l is = absurd cc
let_literal names line name variable (at (form.Plus a) e_line) l is = absurd cc
let_literal names line name variable (at (form.Neg a) e_line) l is = absurd cc
let_literal names line name variable (at (form.Apply a b) e_line) l is = absurd cc
let_literal names line name variable (at (form.Part a b c) e_line) l is = absurd cc
let_literal names line name variable (at (form.Name a) e_line) l is = absurd cc
let_literal names line name variable (at (form.Int a) e_line) l is = absurd cc
let_literal names line name variable (at (form.Text a) e_line) l is = absurd cc
let_literal names line name variable (at (form.Flag a) e_line) l is = absurd cc
let_literal names line name variable (at form.Nil e_line) l is = absurd cc
let_literal names line name variable (at (form.Bound a b) e_line) l is = absurd cc
let_literal names line name variable (at (form.Elems a b c) e_line) l is = absurd cc

pub let_other : (names : Names) (line : Line) (name : NameAt) (variable : Bool) (e : Phrase) → literal_in e ≡ None → check_form names line (form.Let name variable e) ≡ check_initial names name variable e
let_other names line name variable (at (form.Proc params gives s) e_line) is = absurd cc
let_other names line name variable (at (form.Sequence a) e_line) is = refl
let_other names line name variable (at (form.Let a b c) e_line) is = refl
let_other names line name variable (at (form.Structure a b) e_line) is = refl
let_other names line name variable (at (form.IfDo a b) e_line) is = refl
let_other names line name variable (at (form.IfElse a b c) e_line) is = refl
let_other names line name variable (at (form.While a b) e_line) is = refl
let_other names line name variable (at (form.Repeat a b c) e_line) is = refl
let_other names line name variable (at (form.For a b c d e) e_line) is = refl
let_other names line name variable (at (form.Case a b c) e_line) is = refl
let_other names line name variable (at (form.Write a) e_line) is = refl
let_other names line name variable (at form.Abort e_line) is = refl
let_other names line name variable (at (form.Vector a b c) e_line) is = refl
let_other names line name variable (at (form.Assign a b) e_line) is = refl
let_other names line name variable (at (form.Or a b) e_line) is = refl
let_other names line name variable (at (form.And a b) e_line) is = refl
let_other names line name variable (at (form.Not a) e_line) is = refl
let_other names line name variable (at (form.Compare a b c) e_line) is = refl
let_other names line name variable (at (form.Is a b c) e_line) is = refl
let_other names line name variable (at (form.Join a b) e_line) is = refl
let_other names line name variable (at (form.Arith a b c) e_line) is = refl
let_other names line name variable (at (form.Plus a) e_line) is = refl
let_other names line name variable (at (form.Neg a) e_line) is = refl
let_other names line name variable (at (form.Apply a b) e_line) is = refl
let_other names line name variable (at (form.Part a b c) e_line) is = refl
let_other names line name variable (at (form.Name a) e_line) is = refl
let_other names line name variable (at (form.Int a) e_line) is = refl
let_other names line name variable (at (form.Text a) e_line) is = refl
let_other names line name variable (at (form.Flag a) e_line) is = refl
let_other names line name variable (at form.Nil e_line) is = refl
let_other names line name variable (at (form.Bound a b) e_line) is = refl
let_other names line name variable (at (form.Elems a b c) e_line) is = refl

-- a literal has one clause more than what stands in it
pub literal_weight : (e : Phrase) (l : LiteralAt) → literal_in e ≡ Some l → weight e ≡ weight l.s + 1
literal_weight (at (form.Proc params gives s) e_line) l is = ap (λ o. weight (or_other l o).s + 1) is
literal_weight (at (form.Sequence a) e_line) l is = absurd cc
literal_weight (at (form.Let a b c) e_line) l is = absurd cc
literal_weight (at (form.Structure a b) e_line) l is = absurd cc
literal_weight (at (form.IfDo a b) e_line) l is = absurd cc
literal_weight (at (form.IfElse a b c) e_line) l is = absurd cc
literal_weight (at (form.While a b) e_line) l is = absurd cc
literal_weight (at (form.Repeat a b c) e_line) l is = absurd cc
literal_weight (at (form.For a b c d e) e_line) l is = absurd cc
literal_weight (at (form.Case a b c) e_line) l is = absurd cc
literal_weight (at (form.Write a) e_line) l is = absurd cc
literal_weight (at form.Abort e_line) l is = absurd cc
literal_weight (at (form.Vector a b c) e_line) l is = absurd cc
literal_weight (at (form.Assign a b) e_line) l is = absurd cc
literal_weight (at (form.Or a b) e_line) l is = absurd cc
literal_weight (at (form.And a b) e_line) l is = absurd cc
literal_weight (at (form.Not a) e_line) l is = absurd cc
literal_weight (at (form.Compare a b c) e_line) l is = absurd cc
literal_weight (at (form.Is a b c) e_line) l is = absurd cc
literal_weight (at (form.Join a b) e_line) l is = absurd cc
literal_weight (at (form.Arith a b c) e_line) l is = absurd cc
literal_weight (at (form.Plus a) e_line) l is = absurd cc
literal_weight (at (form.Neg a) e_line) l is = absurd cc
literal_weight (at (form.Apply a b) e_line) l is = absurd cc
literal_weight (at (form.Part a b c) e_line) l is = absurd cc
literal_weight (at (form.Name a) e_line) l is = absurd cc
literal_weight (at (form.Int a) e_line) l is = absurd cc
literal_weight (at (form.Text a) e_line) l is = absurd cc
literal_weight (at (form.Flag a) e_line) l is = absurd cc
literal_weight (at form.Nil e_line) l is = absurd cc
literal_weight (at (form.Bound a b) e_line) l is = absurd cc
literal_weight (at (form.Elems a b c) e_line) l is = absurd cc
