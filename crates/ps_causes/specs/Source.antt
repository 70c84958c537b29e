-- Which text is a program, and where the first fault of one that isn't stands.
use Rattle.std.specs.Prelude.{◌≡◌, ℕ, List, Some, codes}
use Rattle.ps_meaning.specs.ps_base.declared.line.Line.{Line}
use Rattle.ps_args.specs.ps_scan.declared.token.Token.{Token}
use Rattle.ps_args.specs.ps_scan.declared.fault.ScanFault.{ScanFault}
use Rattle.ps_args.specs.ps_scan.Tokens.{HasTokens, HasFault}
use Rattle.ps_args.specs.ps_scan.Fault as scanning
use Rattle.ps_parse.specs.ps_tree.declared.fault.ParseFault.{ParseFault}
use Rattle.ps_parse.specs.ps_tree.Phrase.{Phrase}
use Rattle.ps_parse.specs.Program.{ReadsAs, IsParseFault}
use Rattle.ps_parse.specs.ps_tree.Fault as parsing
use Rattle.ps_meaning.specs.ps_typing.ps_program.Node.{BodyNode}
use Rattle.ps_meaning.specs.ps_typing.Fault.{Fault}
use Rattle.ps_meaning.specs.ps_typing.Fault as fault
use Rattle.ps_meaning.specs.ps_typing.Program.{check_program, Typed, Fails}

-- The text has these tokens, they read as a tree, and it is typed: this program.
pub record IsProgram (text : List ℕ) (program : BodyNode) : Type 0 where
  pub tokens : List Token
  pub phrase : Phrase
  pub scanned : HasTokens text tokens
  pub read : ReadsAs text tokens phrase
  pub typed : check_program phrase ≡ Typed program

-- the number and the line of a fault of the typing rules
abbrev pub number_of : Fault → ℕ
number_of (fault.Unknown line) = 1
number_of (fault.Twice line) = 2
number_of (fault.Mismatch line found wanted) = 3
number_of (fault.NotAssignable line) = 4
number_of (fault.NotApplicable line) = 5
number_of (fault.Limit line count) = 6
number_of (fault.TooComplex line count) = 7

abbrev pub line_of : Fault → Line
line_of (fault.Unknown line) = line
line_of (fault.Twice line) = line
line_of (fault.Mismatch line found wanted) = line
line_of (fault.NotAssignable line) = line
line_of (fault.NotApplicable line) = line
line_of (fault.Limit line count) = line
line_of (fault.TooComplex line count) = line

-- The first fault of a tree in the check, with its number and its line.
pub data IsCheckFault (phrase : Phrase) : ℕ → Line → Type 0 where
  mistyped : {fault : Fault} → check_program phrase ≡ Fails fault → IsCheckFault phrase (number_of fault) (line_of fault)

-- The first stage at which the text is refused, with the number and the line of the first fault.
pub data IsSourceFault (text : List ℕ) : List ℕ → ℕ → Line → Type 0 where
  in_scan : {fault : ScanFault} {number : ℕ} {line : Line} → HasFault text fault → scanning.number_of fault ≡ Some number →
      scanning.line_of_fault fault ≡ Some line → IsSourceFault text (codes "scan") number line
  in_parse : {tokens : List Token} {fault : ParseFault} {number : ℕ} {line : Line} → HasTokens text tokens → IsParseFault text tokens fault →
      parsing.number_of fault ≡ Some number → parsing.line_of_fault fault ≡ Some line → IsSourceFault text (codes "parse") number line
  in_check : {tokens : List Token} {phrase : Phrase} {number : ℕ} {line : Line} → HasTokens text tokens → ReadsAs text tokens phrase →
      IsCheckFault phrase number line → IsSourceFault text (codes "check") number line
