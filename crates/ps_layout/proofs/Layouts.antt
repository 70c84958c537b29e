-- Trees and what they are printed as.
use Rattle.std.proofs.Common.{◌≡◌, ℕ, List, [], ◌∷◌, false, refl}
use Rattle.std.specs.Prelude.{codes}
use Rattle.ps_base.specs.TyView as ty
use Rattle.ps_base.specs.declared.operator.Operator.TheVariants as arith
use Rattle.ps_tree.specs.ps_scan.Tokens.{line_of}
use Rattle.ps_tree.specs.Phrase.{NameAt, GroupAt, Phrase, at, Form, Phrases, none, more, absent, present, no_arms, more_arms, arm, item, no_items, more_items}
use Rattle.ps_tree.specs.Phrase as form
use Rattle.ps_layout.specs.Lexemes.{text_of}
use Rattle.ps_layout.specs.Layout.{printed}

abbrev p : Form → Phrase
p f = at f (line_of 1)

abbrev name : List ℕ → NameAt
name bytes = record { name = bytes; line = line_of 1 }

abbrev n : List ℕ → Phrase
n bytes = p (form.Name bytes)

-- a procedure with a block, and a sum that needs brackets
procedure_printed : printed (p (form.Sequence (more (p (form.Let (name (codes "f")) false (p (form.Proc (record { ty = ty.Int; name = name (codes "a") } ∷ []) ty.Int (p (form.Sequence (more (p (form.Arith arith.Mul (p (form.Arith arith.Add (n (codes "a")) (n (codes "b")))) (n (codes "c")))) none))))))) none))) ≡ codes "procedure f(int a -> int); {\n  (a + b) * c;\n};\n"
unfolding text_of
procedure_printed = refl

-- the `repeat` without `do` stands in brackets before one
loop_printed : printed (p (form.Sequence (more (p (form.While (p (form.IfDo (n (codes "x")) (p (form.Repeat (n (codes "a")) (n (codes "b")) absent)))) (p (form.Sequence none)))) none))) ≡ codes "while if x do (repeat a while b) do {};\n"
unfolding text_of
loop_printed = refl
