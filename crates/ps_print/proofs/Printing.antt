-- A lexeme is written where it stood first, pieces put before others are printed before them, and what is printed in all.
use Rattle.std.proofs.Common.{◌≡◌, ℕ, true, false, List, [], ◌∷◌, ◌++◌, refl, sym, ap, ◌∙◌, arith, append_assoc, append-nil}
use Rattle.std.specs.Prelude.{Result, Ok, Err, OnOk}
use Rattle.ps_tree.specs.Phrase.{Phrase, at}
use Rattle.ps_tree.specs.Phrase as form
use Rattle.ps_type_pieces.specs.ps_layout.Lexemes.{Lexeme, nothing, blank, gap_bytes, text_of}
use Rattle.ps_type_pieces.specs.ps_layout.Layout.{other, disjunction, conjunction, negation, sum, product, application, left_of, right_of, semicolon, becomes, is_word, sign_of_relation, sign_of_operator, clause_lexemes, operand_lexemes, lines_lexemes, layout, printed}
use Rattle.ps_type_pieces.specs.ps_layout.Weights.{weight}
use Rattle.ps_type_pieces.specs.ps_layout.declared.piece.Piece.{Piece}
use Rattle.ps_type_pieces.specs.ps_layout.Waiting.{piece_lexemes, piece_weight, lexemes_of, is_empty_program, Adds, AddsPiece, Prints}
use Rattle.ps_type_pieces.proofs.of_ps_layout.Printing.{printed_is}

-- a lexeme is written where it stood first
pub prints_lexeme : {A E : Type 0} (text text' : List ℕ) (piece : Piece) (old : List Piece) (lexeme : Lexeme) (result : Result A E) → piece_lexemes piece ≡ lexeme ∷ [] → piece_weight piece ≡ 1 → OnOk result (text' ≡ text ++ (gap_bytes lexeme.gap ++ lexeme.spelling)) → OnOk result (Prints text (piece ∷ old) text' old)
unfolding text_of
prints_lexeme text text' piece old lexeme (Ok x) is one written = record {
  same =
      let rest = text_of (lexemes_of old) in
      ap (λ t. t ++ rest) written ∙ append_assoc text (gap_bytes lexeme.gap ++ lexeme.spelling) rest
      ∙ ap (λ t. text ++ t) (append_assoc (gap_bytes lexeme.gap) lexeme.spelling rest)
      ∙ ap (λ xs. text ++ text_of (xs ++ lexemes_of old)) (sym is);
  lighter = omega (arith, one);
}
prints_lexeme text text' piece old lexeme (Err e) is one written = written

-- what a piece is made of stands in its place
pub prints_put : {A E : Type 0} (text : List ℕ) (piece made : Piece) (old new : List Piece) (result : Result A E) → piece ≡ made → OnOk result (AddsPiece old made new) → OnOk result (Prints text (piece ∷ old) text new)
unfolding text_of
prints_put text piece made old new (Ok x) is put =
    let added = ap (λ (p : Piece). piece_lexemes p ++ lexemes_of old) (sym is) in
    record {
      same = ap (λ (ls : List Lexeme). text ++ text_of ls) (put.added ∙ added);
      lighter = omega (arith, ap piece_weight is, put.lighter);
    }
prints_put text piece made old new (Err e) is put = put

-- where no piece is left, all is printed
pub all_printed : (text text' : List ℕ) (pieces : List Piece) → pieces ≡ [] → text' ++ text_of (lexemes_of pieces) ≡ text → text' ≡ text
unfolding text_of
all_printed text text' pieces none same = sym (append-nil text') ∙ ap (λ ps. text' ++ text_of (lexemes_of ps)) (sym none) ∙ same

-- a tree that isn't empty has a lexeme, so its text has a newline at the end
pub printed_some : (tree : Phrase) → is_empty_program tree ≡ false → printed tree ≡ text_of (layout tree) ++ 10 ∷ []
printed_some (at (form.Sequence form.none) line) some = absurd (cc)
printed_some (at (form.Sequence (form.more first rest)) line) some = printed_is (clause_lexemes 0 other nothing first) semicolon (lines_lexemes 0 rest)
printed_some (at (form.Let name false (at (form.Proc params gives s) l)) line) some = refl
printed_some (at (form.Let name false (at _ l)) line) some = refl
printed_some (at (form.Let name true e) line) some = refl
printed_some (at (form.Repeat a c form.absent) line) some = refl
printed_some (at (form.Repeat a c (form.present b)) line) some = refl
printed_some (at (form.For name a b form.absent s) line) some = refl
printed_some (at (form.For name a b (form.present c) s) line) some = refl
printed_some (at (form.Assign x e) line) some = printed_is (operand_lexemes 0 disjunction nothing x) (becomes true) (clause_lexemes 0 other blank e)
printed_some (at (form.Or a b) line) some = printed_is (operand_lexemes 0 disjunction nothing a) _ (operand_lexemes 0 conjunction blank b)
printed_some (at (form.And a b) line) some = printed_is (operand_lexemes 0 conjunction nothing a) _ (operand_lexemes 0 negation blank b)
printed_some (at (form.Compare op a b) line) some = printed_is (operand_lexemes 0 sum nothing a) (sign_of_relation op) (operand_lexemes 0 sum blank b)
printed_some (at (form.Is e class negated) line) some = printed_is (operand_lexemes 0 sum nothing e) (is_word negated) _
printed_some (at (form.Join a b) line) some = printed_is (operand_lexemes 0 sum nothing a) _ (operand_lexemes 0 product blank b)
printed_some (at (form.Arith op a b) line) some = printed_is (operand_lexemes 0 (left_of op) nothing a) (sign_of_operator op) (operand_lexemes 0 (right_of op) blank b)
printed_some (at (form.Apply f args) line) some = printed_is (operand_lexemes 0 application nothing f) _ _
printed_some (at (form.Part s i m) line) some = printed_is (operand_lexemes 0 application nothing s) _ _
printed_some (at _ line) some = refl

-- what the whole text is
pub print_made : (tree : Phrase) (text' end : List ℕ) (new old : List Piece) (weight : ℕ) → is_empty_program tree ≡ false → old ≡ [] → Adds old (layout tree) weight new → text' ≡ [] ++ text_of (lexemes_of new) → end ≡ text' ++ 10 ∷ [] → end ≡ printed tree
print_made tree text' end new old weight some none put written ends =
    ends ∙ ap (λ t. t ++ 10 ∷ []) (written ∙ ap text_of (put.added ∙ ap (λ ps. layout tree ++ lexemes_of ps) none ∙ append-nil (layout tree)))
    ∙ sym (printed_some tree some)
