-- A printed text is read as the tree that was printed, but for lines.
use Rattle.std.specs.Prelude.{◌≡◌, ℕ, List}
use Rattle.ps_parse.specs.ps_scan.declared.token.Token.{Token}
use Rattle.ps_parse.specs.ps_scan.Tokens.{HasTokens}
use Rattle.ps_layout.specs.ps_tree.Phrase.{Phrase}
use Rattle.ps_parse.specs.Program.{IsProgram}
use Rattle.ps_layout.specs.ps_symbols.Symbols.{symbols}
use Rattle.ps_layout.specs.Layout.{printed}
use Rattle.ps_reread.specs.Bare.{bare}

-- the text is that of a program with a tree that is this one but for lines, with at most so many
-- clauses and types inside one another
pub record ReadsBack (text : List ℕ) (nesting : ℕ) (tree : Phrase) : Type 0 where
  pub tokens : List Token
  pub again : Phrase
  pub scanned : HasTokens text tokens
  pub read : IsProgram text nesting (symbols tokens) again
  pub same : bare again ≡ bare tree

-- whatever text has the tree, it is read back from what it is printed as, and nothing in it stands
-- deeper
abbrev pub PrintsBack : Phrase → Type 0
PrintsBack tree =
    (text : List ℕ) (tokens : List Token) (nesting : ℕ) → HasTokens text tokens → IsProgram text nesting (symbols tokens) tree →
    ReadsBack (printed tree) nesting tree
