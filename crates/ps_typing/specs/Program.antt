-- The program that a tree of the grammar is, or its first fault.
use Rattle.std.specs.Prelude.{ℕ, nat_lt, Option, Some, None, List, [], ◌∷◌, ◌++◌, if◌then◌else◌}
pub use Rattle.ps_tree.specs.ps_base.Limits.{most_slots}
use Rattle.ps_tree.specs.ps_base.TyView as ty
use Rattle.ps_tree.specs.ps_base.declared.line.Line.{Line}
use Rattle.ps_tree.specs.Phrase.{Phrase, at, Phrases, none, more}
use Rattle.ps_tree.specs.Phrase as form
use Rattle.ps_program.specs.Node.{Node, BodyNode, body}
use Rattle.ps_program.specs.Node as node
use Rattle.ps_program.specs.Parts.{Part, operand, label, branch, literal, fold}
use Rattle.ps_program.specs.Slots.{slot_count}
use Rattle.ps_typing.specs.Placed.{placed_program}
use Rattle.ps_typing.specs.Fault.{Fault, TooComplex}
use Rattle.ps_typing.specs.Library.{library_names}
use Rattle.ps_typing.specs.Checking.{Outcome, Gives, Refuses, check, wants, line_of}

abbrev pub bodies_of : List (Part (List BodyNode)) → List BodyNode
bodies_of [] = []
bodies_of (operand found ∷ rest) = found ++ bodies_of rest
bodies_of (label found ∷ rest) = found ++ bodies_of rest
bodies_of (branch found ∷ rest) = found ++ bodies_of rest
bodies_of (literal found ∷ rest) = found ++ bodies_of rest

abbrev pub own_body : Node → List BodyNode
own_body (node.Proc of) = of ∷ []
own_body _ = []

-- of a clause whose parts have these bodies in them
abbrev pub bodies_with : Node → List (Part (List BodyNode)) → List BodyNode
bodies_with clause parts = own_body clause ++ bodies_of parts

-- the bodies of the literals of a clause, with those in them
abbrev pub bodies_in : Node → List BodyNode
bodies_in = fold bodies_with

-- the bodies in a body, itself first, in the order of their first tokens
abbrev pub bodies : BodyNode → List BodyNode
bodies (body params gives tree scope line) = body params gives tree scope line ∷ bodies_in tree

abbrev pub line_of_body : BodyNode → Line
line_of_body (body params gives tree scope line) = line

abbrev pub first_complex : List BodyNode → Option Fault
first_complex [] = None
first_complex (b ∷ bs) = if nat_lt most_slots (slot_count b) then Some (TooComplex (line_of_body b) (slot_count b)) else first_complex bs

-- the line of the last item, or this one where there is none
abbrev pub last_line : Line → Phrases → Line
last_line line none = line
last_line line (more clause rest) = last_line (line_of clause) rest

abbrev pub end_line : Phrase → Line
end_line (at (form.Sequence items) line) = last_line line items
end_line (at other line) = line

pub data Verdict : Type 0 where
  Typed : (program : BodyNode) → Verdict
  Fails : (fault : Fault) → Verdict

-- slot counts are tested last
abbrev pub measured : BodyNode → Option Fault → Verdict
measured program (Some fault) = Fails fault
measured program None = Typed program

abbrev pub verdict_of : Outcome Node → Verdict
verdict_of (Gives tree t names) =
    let program = placed_program names.all (body [] ty.Void tree None (record { 0 = 1 })) in
    measured program (first_complex (bodies program))
verdict_of (Refuses fault) = Fails fault

abbrev pub check_program : Phrase → Verdict
check_program program = verdict_of (wants ty.Void (end_line program) (check library_names program))
