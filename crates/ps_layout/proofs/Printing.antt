-- What is put for a form is laid out as that form.
use Rattle.std.proofs.Common.{◌≡◌, ℕ, Bool, true, false, ◌+◌, ◌<◌, List, [], ◌∷◌, ◌++◌, refl, sym, ap, ◌∙◌, subst, arith}
use Rattle.std.specs.Prelude.{Result, Ok, Err, OnOk}
use Rattle.ps_base.specs.declared.line.Line.{Line}
use Rattle.ps_tree.specs.declared.rough.RoughForm.{RoughForm}
use Rattle.ps_tree.specs.declared.rough.RoughForm.TheBlock.{struct-RoughRange}
use Rattle.ps_tree.specs.declared.rough.RoughForm.TheVariants as code
use Rattle.ps_tree.specs.Phrase.{NameAt, Phrase, at, Form, Let, form_of}
use Rattle.ps_tree.specs.Phrase as form
use Rattle.ps_layout.specs.Lexemes.{Lexeme, text_of, printed as printed_as}
use Rattle.ps_layout.specs.Weights.{weight}
use Rattle.ps_layout.specs.declared.piece.Piece.{Piece}
use Rattle.ps_layout.specs.declared.piece.Spot.{Spot}
use Rattle.ps_layout.specs.Waiting.{piece_lexemes, piece_weight, lexemes_of, weight_of, spot_lexemes, let_lexemes, is_procedure, Adds, AddsForm}

-- one piece that is put is laid out as it is
pub puts_one : {A E : Type 0} {lexemes : List Lexeme} {weight : ℕ} (piece : Piece) (old new : List Piece) (result : Result A E) → OnOk result (new ≡ (piece ∷ []) ++ old) → piece_lexemes piece ≡ lexemes → piece_weight piece < weight → OnOk result (Adds old lexemes weight new)
puts_one piece old new (Ok x) put is light = record {
  added = ap lexemes_of put ∙ ap (λ (ls : List Lexeme). ls ++ lexemes_of old) is;
  lighter = omega (arith, ap weight_of put, light);
}
puts_one piece old new (Err e) put is light = put

-- what is put for a form, where this is that form
pub puts_form : {A E : Type 0} (old new : List Piece) (spot : Spot) (whole : RoughForm) (f : Form) (result : Result A E) → form_of whole ≡ f → OnOk result (AddsForm old spot f new) → OnOk result (AddsForm old spot (form_of whole) new)
puts_form old new spot whole f result is put = subst (λ (g : Form). OnOk result (AddsForm old spot g new)) (sym is) put

-- a `let` of another than a procedure
pub let_plain : (spot : Spot) (name : NameAt) (variable : Bool) (e : Phrase) → is_procedure variable e ≡ false → let_lexemes spot name variable e ≡ spot_lexemes spot (Let name variable e)
let_plain spot name true (at f line) plain = refl
let_plain spot name false (at (form.Proc params gives s) line) plain = absurd (cc)
let_plain spot name false (at _ line) plain = refl

pub puts_let : {A E : Type 0} (spot : Spot) (name : NameAt) (variable : Bool) (e : Phrase) (old new : List Piece) (result : Result A E) → is_procedure variable e ≡ false → OnOk result (Adds old (let_lexemes spot name variable e) (weight e + 8) new) → OnOk result (AddsForm old spot (Let name variable e) new)
puts_let spot name variable e old new (Ok x) plain put = subst (λ xs. Adds old xs (weight e + 8) new) (let_plain spot name variable e plain) put
puts_let spot name variable e old new (Err x) plain put = put

pub is_no_procedure : (f : RoughForm) (line : Line) → ((params : _) (gives : _) (s : _) → f ≡ code.Proc params gives s → ⊥) → is_procedure false (at (form_of f) line) ≡ false
is_no_procedure (code.Proc' params gives p s s_line) line is_not = absurd (is_not params gives _ refl)
is_no_procedure (code.For' name o (struct-RoughRange p a a_line q b b_line c) r s s_line) line is_not = refl
is_no_procedure _ line is_not = refl

-- a text of some lexemes has a newline at the end
pub printed_is : (front : List Lexeme) (lexeme : Lexeme) (back : List Lexeme) → printed_as (front ++ lexeme ∷ back) ≡ text_of (front ++ lexeme ∷ back) ++ 10 ∷ []
printed_is [] lexeme back = refl
printed_is (first ∷ front) lexeme back = refl
