-- What is reported of words that aren't read.
use Rattle.ps_causes.specs.ps_args.declared.words.ArgsFault.{ArgsFault}
use Rattle.ps_causes.specs.ps_args.declared.words.ArgsFault.TheVariants as words
use Rattle.ps_causes.specs.ps_reports.declared.report.Report.{Report}
use Rattle.ps_causes.specs.ps_reports.declared.report.Report.TheVariants as reports

abbrev pub report_of : ArgsFault → Report
report_of words.Usage = reports.Usage
report_of words.Memory = reports.NoMemory
