-- Which text is typed as which program.
use Rattle.std.specs.Prelude.{◌≡◌, ℕ, List}
use Rattle.ps_leaf_laws.specs.ps_scan.declared.token.Token.{Token}
use Rattle.ps_leaf_laws.specs.ps_scan.Tokens.{HasTokens}
use Rattle.ps_leaf_laws.specs.ps_tree.Phrase.{Phrase}
use Rattle.ps_leaf_laws.specs.ps_parse.Program.{ReadsAs}
use Rattle.ps_unit_laws.specs.ps_program.Node.{BodyNode}
use Rattle.ps_unit_laws.specs.ps_typing.Program.{check_program, Typed}

-- The text has tokens, they read as a tree, and that tree is this program by the typing rules.
pub record IsTypedAs (text : List ℕ) (program : BodyNode) : Type 0 where
  pub tokens : List Token
  pub phrase : Phrase
  pub scanned : HasTokens text tokens
  pub read : ReadsAs text tokens phrase
  pub typed : check_program phrase ≡ Typed program
