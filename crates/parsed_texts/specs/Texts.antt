-- Which tree a text has, and why a text has none.
use Rattle.std.specs.Prelude.{◌≢◌, ℕ, ◌<◌, ◌≤◌, List, length}
use Rattle.ps_base.specs.Limits.{most_text_bytes}
use Rattle.ps_parse.specs.ps_scan.declared.token.Token.{Token}
use Rattle.ps_parse.specs.ps_scan.declared.fault.ScanFault.{ScanFault}
use Rattle.ps_parse.specs.ps_scan.declared.fault.ScanFault.TheVariants as scan_fault
use Rattle.ps_parse.specs.ps_scan.Tokens.{HasTokens, HasFault}
use Rattle.ps_tree.specs.declared.fault.ParseFault.{ParseFault}
use Rattle.ps_tree.specs.declared.fault.ParseFault.TheVariants as parse_fault
use Rattle.ps_tree.specs.Phrase.{Phrase}
use Rattle.ps_parse.specs.Program.{ReadsAs, IsParseFault}
use Rattle.parsed_texts.specs.declared.fault.TextFault.{TextFault}
use Rattle.parsed_texts.specs.declared.fault.TextFault.TheVariants.{TooLong, Scan, Parse}

-- the text is not too long, and its tokens are read as this tree
pub record HasTree (text : List ℕ) (tree : Phrase) : Type 0 where
  pub short : length text ≤ most_text_bytes
  pub tokens : List Token
  pub scanned : HasTokens text tokens
  pub read : ReadsAs text tokens tree

-- the text is not too long, and this is its first fault; want of memory says nothing of it
pub record LacksTokens (text : List ℕ) (fault : ScanFault) : Type 0 where
  pub short : length text ≤ most_text_bytes
  pub first : fault ≢ scan_fault.Memory → HasFault text fault

-- the text is not too long, and this is the first fault of its tokens; want of memory says nothing of it
pub record LacksPhrase (text : List ℕ) (fault : ParseFault) : Type 0 where
  pub short : length text ≤ most_text_bytes
  pub tokens : List Token
  pub scanned : HasTokens text tokens
  pub first : fault ≢ parse_fault.Memory → IsParseFault text tokens fault

-- why the text has no tree
abbrev pub LacksTree : List ℕ → TextFault → Type 0
LacksTree text TooLong = most_text_bytes < length text
LacksTree text (Scan fault) = LacksTokens text fault
LacksTree text (Parse fault) = LacksPhrase text fault
