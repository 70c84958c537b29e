-- What the tree of a program returns: slot counts may be tested before its names have their places.
use Rattle.std.proofs.Common.{◌≡◌, [], sym, ap, ◌∙◌, None}
use Rattle.std.specs.Prelude.{Option, List}
use Rattle.ps_base.specs.TyView.{TyView, Void}
use Rattle.ps_base.specs.declared.line.Line.{Line}
use Rattle.ps_tree.specs.Phrase.{Phrase}
use Rattle.ps_program.specs.Node.{Node, BodyNode, body}
use Rattle.ps_type_text.specs.Texts.{Field}
use Rattle.ps_slots.specs.ps_typing.Fault.{Fault}
use Rattle.ps_slots.specs.ps_typing.Library.{library_names}
use Rattle.ps_slots.specs.ps_typing.Names.{Names}
use Rattle.ps_slots.specs.ps_typing.Checking.{Outcome, Gives, Refuses, check, wants, is_same}
use Rattle.ps_slots.specs.ps_typing.Placed.{placed_program}
use Rattle.ps_slots.specs.ps_typing.Program.{check_program, verdict_of, measured, bodies, first_complex, end_line}
use Rattle.ps_checker.proofs.Blocks.{unpassed}
use Rattle.ps_typing_laws.proofs.SameCounts.{program_complex}

-- a program before its names have places
abbrev pub unplaced : Node → BodyNode
unplaced tree = body [] Void tree None (record { 0 = 1 })

-- a clause that is void is the tree that was tested
abbrev tree_in : Node → Outcome Node → Node
tree_in other (Gives tree ty names) = tree
tree_in other (Refuses fault) = other

pub same_tree : (line : Line) (tree other : Node) (ty : TyView) (names last : Names) → wants Void line (Gives tree ty names) ≡ Gives other Void last → tree ≡ other
same_tree line tree other ty names last is = ap (tree_in other) (unpassed (λ found. is_same found Void) Void line (Gives tree ty names) other Void last is)

pub verdict_is : (p : Phrase) (tree : Node) (names : Names) (fields : List Field) (program : BodyNode) (found : Option Fault)
    → wants Void (end_line p) (check library_names p) ≡ Gives tree Void names → names.all ≡ fields → program ≡ unplaced tree → first_complex (bodies program) ≡ found
    → check_program p ≡ measured (placed_program fields program) found
verdict_is p tree names fields program found is all same complex =
    ap verdict_of is
    ∙ ap (λ fs. measured (placed_program fs (unplaced tree)) (first_complex (bodies (placed_program fs (unplaced tree))))) all
    ∙ ap (λ b. measured (placed_program fields b) (first_complex (bodies (placed_program fields b)))) (sym same)
    ∙ ap (measured (placed_program fields program)) (program_complex fields program ∙ complex)
