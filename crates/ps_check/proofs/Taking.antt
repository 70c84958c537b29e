-- The clauses of a list that are taken from its end, once it is reversed; and a program out of which its items were taken.
use Rattle.std.proofs.Common.{◌≡◌, ◌∙◌, List, [], ◌∷◌, ◌++◌, Some, None, length, reverse, refl, sym, ap, arith}
use Rattle.std.specs.Prelude.{Option, IfSome}
use Rattle.std.specs.declared.alloc.Global.{Global}
use Rattle.std.specs.declared.vec.Vec.{Vec}
use Rattle.std.proofs.lemmas.List.{reverse-append, reverse-reverse}
use Rattle.ps_tree.specs.declared.rough.Rough.{Rough}
use Rattle.ps_base.specs.declared.line.Line.{Line}
use Rattle.ps_tree.specs.Phrase.{Phrase, at, Sequence, more, none, phrase_of}
use Rattle.ps_tree.specs.PhraseLists.{phrases_in}
use Rattle.ps_check.specs.inside.Whole.{taken_from}

-- all of them are left at first
pub all_left : (clauses rest : List Rough) → rest ≡ reverse clauses → phrases_in (reverse rest) ≡ phrases_in clauses
all_left clauses rest is = ap (λ (rs : List Rough). phrases_in (reverse rs)) is ∙ ap phrases_in (reverse-reverse clauses)

-- the last one is the next
pub next_taken : (rest left : List Rough) (item : Rough) → rest ≡ left ++ item ∷ [] → phrases_in (reverse rest) ≡ more (phrase_of item) (phrases_in (reverse left))
next_taken rest left item is = ap (λ (rs : List Rough). phrases_in (reverse rs)) is ∙ ap phrases_in (reverse-append left (item ∷ []))

pub none_left : (rest : List Rough) → length rest ≡ 0 → phrases_in (reverse rest) ≡ none
none_left [] empty = refl
none_left (item ∷ rest) empty = absurd (omega arith)

-- what was taken out and what is left are the program
pub same_program : (line : Line) (whole left : Phrase) (items : Option (Vec Rough Global)) → IfSome items (λ taken. whole ≡ at (Sequence (phrases_in taken.items)) line) → (items ≡ None → left ≡ whole) → taken_from line left items ≡ whole
same_program line whole left (Some items) taken kept = sym taken
same_program line whole left None taken kept = kept refl
