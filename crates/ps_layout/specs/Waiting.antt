-- What is still to be printed, as lexemes, and how much it is.
use Rattle.std.specs.Prelude.{◌≡◌, ℕ, ◌+◌, ◌<◌, Bool, true, false, List, [], ◌∷◌, ◌++◌, reverse}
use Rattle.ps_base.specs.TyView.{ty_view, ty_views}
use Rattle.ps_tree.specs.ps_scan.declared.word.TheConstants as word
use Rattle.ps_tree.specs.ps_scan.declared.token.TokenKind.TheVariants as scanned
use Rattle.ps_tree.specs.Phrase.{NameAt, Phrase, at, Form, Sequence, none, form_of, phrase_of, arm_of, item_of, of_type, names_in, groups_in}
use Rattle.ps_tree.specs.Phrase as form
use Rattle.ps_tree.specs.PhraseLists.{phrases_in, arms_in, items_in}
use Rattle.ps_layout.specs.Lexemes.{Gap, nothing, blank, newline, Lexeme, text_of}
use Rattle.ps_layout.specs.Layout.{Behind, other, before_do, before_comma, before_colon, Tightness, loosest, disjunction, conjunction, negation, comparison, sum, product, signed, application, primary, lexeme, the_word, the_mark, name_lexeme, becomes, form_lexemes, clause_lexemes, operand_lexemes, lines_lexemes, clauses_lexemes, more_clauses_lexemes, arms_lexemes, arm_lexemes, items_lexemes, more_items_lexemes, item_lexemes, type_lexemes, types_lexemes, more_types_lexemes, behind_arrow, groups_lexemes, more_groups_lexemes, group_lexemes, heading_lexemes}
use Rattle.ps_layout.specs.Spellings.{int_text, string_text}
use Rattle.ps_layout.specs.Weights.{weight, weight_form, weight_all, weight_arms, weight_arm, weight_items, weight_item, weight_ty, weight_tys, weight_groups, weight_group, weight_heading}
use Rattle.ps_layout.specs.declared.piece.Gap.{Gap as CodeGap}
use Rattle.ps_layout.specs.declared.piece.Gap.TheVariants as gap
use Rattle.ps_layout.specs.declared.piece.Behind.{Behind as CodeBehind}
use Rattle.ps_layout.specs.declared.piece.Behind.TheVariants as behind
use Rattle.ps_layout.specs.declared.piece.Tightness.{Tightness as CodeTightness}
use Rattle.ps_layout.specs.declared.piece.Tightness.TheVariants as tight
use Rattle.ps_layout.specs.declared.piece.Spot.{Spot}
use Rattle.ps_layout.specs.declared.piece.Piece.{Piece}
use Rattle.ps_layout.specs.declared.piece.Piece.TheVariants as piece
use Rattle.ps_layout.specs.declared.pending.Pending.{Pending}

abbrev pub gap_of : CodeGap → Gap
gap_of gap.Nothing = nothing
gap_of gap.Blank = blank
gap_of (gap.Newline indent) = newline indent

abbrev pub behind_of : CodeBehind → Behind
behind_of behind.Other = other
behind_of behind.BeforeDo = before_do
behind_of behind.BeforeComma = before_comma
behind_of behind.BeforeColon = before_colon

abbrev pub tightness_of : CodeTightness → Tightness
tightness_of tight.Loosest = loosest
tightness_of tight.Disjunction = disjunction
tightness_of tight.Conjunction = conjunction
tightness_of tight.Negation = negation
tightness_of tight.Comparison = comparison
tightness_of tight.Sum = sum
tightness_of tight.Product = product
tightness_of tight.Signed = signed
tightness_of tight.Application = application
tightness_of tight.Primary = primary

-- the lexemes of a form at a spot
abbrev pub spot_lexemes : Spot → Form → List Lexeme
spot_lexemes spot form = form_lexemes spot.indent (behind_of spot.behind) (gap_of spot.gap) form

abbrev pub piece_lexemes : Piece → List Lexeme
piece_lexemes (piece.Word gap place) = the_word (gap_of gap) place ∷ []
piece_lexemes (piece.Mark gap place) = the_mark (gap_of gap) place ∷ []
piece_lexemes (piece.Name gap name) = name_lexeme (gap_of gap) name.now ∷ []
piece_lexemes (piece.Int gap value) = lexeme (gap_of gap) scanned.Int (int_text value) ∷ []
piece_lexemes (piece.Text gap bytes) = lexeme (gap_of gap) scanned.Text (string_text bytes.now) ∷ []
piece_lexemes (piece.Form spot form) = spot_lexemes spot (form_of form.now)
piece_lexemes (piece.Clause spot clause) = clause_lexemes spot.indent (behind_of spot.behind) (gap_of spot.gap) (phrase_of clause.now)
piece_lexemes (piece.Operand needed indent gap clause) = operand_lexemes indent (tightness_of needed) (gap_of gap) (phrase_of clause.now)
piece_lexemes (piece.Lines indent items) = lines_lexemes indent (phrases_in items.now)
piece_lexemes (piece.Clauses spot items) = clauses_lexemes spot.indent (gap_of spot.gap) (behind_of spot.behind) (phrases_in items.now)
piece_lexemes (piece.MoreClauses indent last items) = more_clauses_lexemes indent (behind_of last) (phrases_in items.now)
piece_lexemes (piece.Arms indent arms) = arms_lexemes indent (arms_in arms.now)
piece_lexemes (piece.Arm indent arm) = arm_lexemes indent (arm_of arm.now)
piece_lexemes (piece.Items indent last items) = items_lexemes indent (behind_of last) (items_in items.now)
piece_lexemes (piece.MoreItems indent last items) = more_items_lexemes indent (behind_of last) (items_in items.now)
piece_lexemes (piece.Item indent last item) = item_lexemes indent (behind_of last) (item_of item.now)
piece_lexemes (piece.Type gap ty) = type_lexemes (gap_of gap) (ty_view ty.now)
piece_lexemes (piece.Types tys) = types_lexemes nothing (ty_views tys.now)
piece_lexemes (piece.MoreTypes tys) = more_types_lexemes (ty_views tys.now)
piece_lexemes (piece.Gives ty) = behind_arrow (ty_view ty.now) (type_lexemes blank (ty_view ty.now))
piece_lexemes (piece.Groups groups) = groups_lexemes (groups_in groups.now)
piece_lexemes (piece.MoreGroups ty names groups) = more_groups_lexemes (names_in (ty_view ty.now) names.now ++ groups_in groups.now)
piece_lexemes (piece.Named gap ty name) = group_lexemes (gap_of gap) (of_type (ty_view ty.now) name.now)
piece_lexemes (piece.Heading params gives) = heading_lexemes (groups_in params.now) (ty_view gives.now)

-- the lexemes of a `let` at a spot, where it isn't written with `procedure`
abbrev pub let_lexemes : Spot → NameAt → Bool → Phrase → List Lexeme
let_lexemes spot name variable e =
    the_word (gap_of spot.gap) word.LET ∷ name_lexeme blank name.name ∷ becomes variable ∷ clause_lexemes spot.indent (behind_of spot.behind) blank e

abbrev pub piece_weight : Piece → ℕ
piece_weight (piece.Word gap place) = 1
piece_weight (piece.Mark gap place) = 1
piece_weight (piece.Name gap name) = 1
piece_weight (piece.Int gap value) = 1
piece_weight (piece.Text gap bytes) = 1
piece_weight (piece.Form spot form) = weight_form (form_of form.now)
piece_weight (piece.Clause spot clause) = weight (phrase_of clause.now)
piece_weight (piece.Operand needed indent gap clause) = weight (phrase_of clause.now)
piece_weight (piece.Lines indent items) = weight_all (phrases_in items.now)
piece_weight (piece.Clauses spot items) = weight_all (phrases_in items.now)
piece_weight (piece.MoreClauses indent last items) = weight_all (phrases_in items.now)
piece_weight (piece.Arms indent arms) = weight_arms (arms_in arms.now)
piece_weight (piece.Arm indent arm) = weight_arm (arm_of arm.now)
piece_weight (piece.Items indent last items) = weight_items (items_in items.now)
piece_weight (piece.MoreItems indent last items) = weight_items (items_in items.now)
piece_weight (piece.Item indent last item) = weight_item (item_of item.now)
piece_weight (piece.Type gap ty) = weight_ty (ty_view ty.now)
piece_weight (piece.Types tys) = weight_tys (ty_views tys.now)
piece_weight (piece.MoreTypes tys) = weight_tys (ty_views tys.now)
piece_weight (piece.Gives ty) = weight_ty (ty_view ty.now) + 2
piece_weight (piece.Groups groups) = weight_groups (groups_in groups.now)
piece_weight (piece.MoreGroups ty names groups) = weight_groups (names_in (ty_view ty.now) names.now ++ groups_in groups.now)
piece_weight (piece.Named gap ty name) = weight_group (of_type (ty_view ty.now) name.now)
piece_weight (piece.Heading params gives) = weight_heading (groups_in params.now) (ty_view gives.now)

-- the pieces, the next one first
abbrev pub waiting : Pending → List Piece
waiting pending = reverse pending.last_first.items

abbrev pub lexemes_of : List Piece → List Lexeme
lexemes_of [] = []
lexemes_of (piece ∷ pieces) = piece_lexemes piece ++ lexemes_of pieces

abbrev pub weight_of : List Piece → ℕ
weight_of [] = 0
weight_of (piece ∷ pieces) = piece_weight piece + weight_of pieces

-- Before the old pieces stand new ones, of these lexemes, that weigh less than this.
pub record Adds (old : List Piece) (lexemes : List Lexeme) (weight : ℕ) (new : List Piece) : Type 0 where
  pub added : lexemes_of new ≡ lexemes ++ lexemes_of old
  pub lighter : weight_of new < weight + weight_of old

-- before the old pieces stand new ones in place of this
abbrev pub AddsPiece : List Piece → Piece → List Piece → Type 0
AddsPiece old piece new = Adds old (piece_lexemes piece) (piece_weight piece) new

-- before the old pieces stand those of a form
abbrev pub AddsForm : List Piece → Spot → Form → List Piece → Type 0
AddsForm old spot form new = Adds old (spot_lexemes spot form) (weight_form form) new

-- whether a `let` of this is written with `procedure`
abbrev pub is_procedure : Bool → Phrase → Bool
is_procedure false (at (form.Proc params gives s) line) = true
is_procedure _ _ = false

-- a program without items, of which nothing is printed
abbrev pub is_empty_program : Phrase → Bool
is_empty_program (at (Sequence none) line) = true
is_empty_program _ = false

-- After a step the text, and what is then still to be printed after it, are what they were together.
pub record Prints (text : List ℕ) (old : List Piece) (text' : List ℕ) (new : List Piece) : Type 0 where
  pub same : text' ++ text_of (lexemes_of new) ≡ text ++ text_of (lexemes_of old)
  pub lighter : weight_of new < weight_of old
