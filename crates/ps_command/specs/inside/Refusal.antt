-- What an answer of the compiler says of the text.
use Rattle.std.specs.Prelude.{◌≡◌, ◌≢◌, ℕ, List, Some, None, Option}
use Rattle.ps_base.specs.declared.line.Line.{Line}
use Rattle.ps_causes.specs.ps_scan.declared.token.Token.{Token}
use Rattle.ps_causes.specs.ps_scan.declared.fault.ScanFault.TheVariants as scan_fault
use Rattle.ps_causes.specs.ps_scan.Tokens.{HasTokens, HasFault}
use Rattle.ps_causes.specs.ps_scan.Fault as scanning
use Rattle.ps_tree.specs.declared.fault.ParseFault.TheVariants as parse_fault
use Rattle.ps_tree.specs.Phrase.{Phrase}
use Rattle.ps_causes.specs.ps_parse.Program.{ReadsAs, IsParseFault}
use Rattle.ps_tree.specs.Fault as parsing
use Rattle.ps_program.specs.Node.{BodyNode}
use Rattle.ps_causes.specs.ps_typing.Fault.{Fault}
use Rattle.ps_causes.specs.ps_typing.Program.{check_program, Typed}
use Rattle.ps_check.specs.ps_declared.Faults as checking
use Rattle.ps_causes.specs.Source.{IsCheckFault}
use Rattle.ps_causes.specs.Source as rules
use Rattle.ps_causes.specs.ps_reports.declared.report.Stage.{Stage}
use Rattle.ps_causes.specs.ps_reports.declared.report.Stage.TheVariants.{Scan, Parse, Check}
use Rattle.ps_command.specs.declared.source_fault.SourceFault.{SourceFault}
use Rattle.ps_command.specs.declared.source_fault.SourceFault.TheVariants as source

-- the tree is typed: this program
abbrev pub IsChecked : Phrase → BodyNode → Type 0
IsChecked phrase program = check_program phrase ≡ Typed program

-- the text is read, and its tree has this fault in the check
pub record Checked (text : List ℕ) (number : ℕ) (line : Line) : Type 0 where
  pub tokens : List Token
  pub phrase : Phrase
  pub scanned : HasTokens text tokens
  pub read : ReadsAs text tokens phrase
  pub fault : IsCheckFault phrase number line

-- the fault is that of the tree; want of memory says nothing
abbrev pub RefusesTree : Phrase → SourceFault → Type 0
RefusesTree phrase (source.Scan fault) = ⊥
RefusesTree phrase (source.Parse fault) = ⊥
RefusesTree phrase (source.Check fault) = (told : Fault) → checking.fault_of fault ≡ Some told → IsCheckFault phrase (rules.number_of told) (rules.line_of told)
RefusesTree phrase source.Memory = Unit {0}

-- the fault is that of the text; want of memory says nothing
abbrev pub Refuses : List ℕ → SourceFault → Type 0
Refuses text (source.Scan fault) = fault ≢ scan_fault.Memory → HasFault text fault
Refuses text (source.Parse fault) = fault ≢ parse_fault.Memory → (tokens : List Token) × HasTokens text tokens × IsParseFault text tokens fault
Refuses text (source.Check fault) = (told : Fault) → checking.fault_of fault ≡ Some told → Checked text (rules.number_of told) (rules.line_of told)
Refuses text source.Memory = Unit {0}

abbrev pub stage_of : SourceFault → Stage
stage_of (source.Scan fault) = Scan
stage_of (source.Parse fault) = Parse
stage_of (source.Check fault) = Check
stage_of source.Memory = Check

abbrev pub number_of : SourceFault → Option ℕ
number_of (source.Scan fault) = scanning.number_of fault
number_of (source.Parse fault) = parsing.number_of fault
number_of (source.Check fault) = checking.number_of fault
number_of source.Memory = None

abbrev pub line_of_fault : SourceFault → Option Line
line_of_fault (source.Scan fault) = scanning.line_of_fault fault
line_of_fault (source.Parse fault) = parsing.line_of_fault fault
line_of_fault (source.Check fault) = checking.line_of_fault fault
line_of_fault source.Memory = None
