-- A fault's number and line.
use Rattle.std.specs.Prelude.{ℕ, Option, Some, None}
use Rattle.ps_base.specs.declared.line.Line.{Line}
use Rattle.ps_scan.specs.declared.fault.ScanFault.{ScanFault}
use Rattle.ps_scan.specs.declared.fault.ScanFault.TheVariants.{BadByte, OpenString, IntTooLarge, BadEscape, NameTooLong, StringTooLong, Memory}

abbrev pub number_of : ScanFault → Option ℕ
number_of (BadByte line byte) = Some 1
number_of (OpenString line) = Some 2
number_of (IntTooLarge line) = Some 3
number_of (BadEscape line byte) = Some 4
number_of (NameTooLong line length) = Some 5
number_of (StringTooLong line length) = Some 6
number_of Memory = None

abbrev pub line_of_fault : ScanFault → Option Line
line_of_fault (BadByte line byte) = Some line
line_of_fault (OpenString line) = Some line
line_of_fault (IntTooLarge line) = Some line
line_of_fault (BadEscape line byte) = Some line
line_of_fault (NameTooLong line length) = Some line
line_of_fault (StringTooLong line length) = Some line
line_of_fault Memory = None
