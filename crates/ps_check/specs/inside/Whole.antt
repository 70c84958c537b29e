-- A program before its names have places.
use Rattle.std.specs.Prelude.{◌≡◌, Option, None, Some, Result, MatchResult}
use Rattle.std.specs.declared.alloc.Global.{Global}
use Rattle.std.specs.declared.vec.Vec.{Vec}
use Rattle.ps_base.specs.TyView.{Void, ty_view}
use Rattle.ps_base.specs.declared.line.Line.{Line}
use Rattle.ps_tree.specs.declared.rough.Rough.{Rough}
use Rattle.ps_tree.specs.Phrase.{Phrase, at, Sequence}
use Rattle.ps_tree.specs.PhraseLists.{phrases_in}
use Rattle.ps_program.specs.Node.{Node, Nodes}
use Rattle.ps_program.specs.NodeView.{node_of, nodes_in}
use Rattle.ps_checker.specs.ps_scope.Content.{Content, names_of}
use Rattle.ps_type_text.specs.Members.{fields_of}
use Rattle.ps_slots.specs.ps_typing.Names.{Names}
use Rattle.ps_slots.specs.ps_typing.Checking.{Outcome, Gives}
use Rattle.ps_check.specs.declared.check.Whole.{Whole}
use Rattle.ps_check.specs.declared.program.Measured.{Measured}
use Rattle.ps_check.specs.declared.program.MeasuredItems.{MeasuredItems}
use Rattle.ps_checker.specs.ps_declared.declared.fault.CheckFault.{CheckFault}
use Rattle.ps_checker.specs.ps_declared.inside.Answers.{IsFault}
use Rattle.ps_slots.specs.inside.Sizes.{size, size_of, size_items}

-- its tree, its names by their numbers, and how large the tree is
abbrev pub IsWhole : Outcome Node → Result Whole CheckFault → Type 0
IsWhole outcome result =
    MatchResult result (λ whole. (names : Names) × (outcome ≡ Gives (node_of whole.tree) Void names) × (names.all ≡ fields_of whole.names.items) × (size_of whole.sizes ≡ size (node_of whole.tree))) (IsFault outcome)

-- a program on this line out of which the items were taken, where it is a sequence
abbrev pub taken_from : Line → Phrase → Option (Vec Rough Global) → Phrase
taken_from line program None = program
taken_from line program (Some items) = at (Sequence (phrases_in items.items)) line

-- its clause, and how large it is
abbrev pub IsMeasured : Outcome Node → Result Measured CheckFault → Content → Type 0
IsMeasured outcome result scope =
    MatchResult result (λ it. (outcome ≡ Gives (node_of it.clause.tree) (ty_view it.clause.ty) (names_of scope)) × (size_of it.sizes ≡ size (node_of it.clause.tree))) (IsFault outcome)

-- its items, the type of the last, and how large they are
abbrev pub AreMeasured : Outcome Nodes → Result MeasuredItems CheckFault → Content → Type 0
AreMeasured outcome result scope =
    MatchResult result (λ it. (outcome ≡ Gives (nodes_in it.trees.items) (ty_view it.ty) (names_of scope)) × (size_of it.sizes ≡ size_items (nodes_in it.trees.items))) (IsFault outcome)
