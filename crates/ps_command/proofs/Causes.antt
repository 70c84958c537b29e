-- Why each end of a command comes.
use Rattle.std.proofs.Common.{◌≡◌, ℕ, ◌≤◌, ◌↔◌, inl, inr, List, [], ◌∷◌, Option, Some, None, refl, sym, ap, ◌∙◌, subst, arith}
use Rattle.std.specs.Prelude.{Result, Ok, Err, IfErr, IsErrOf, IsErrAnd, codes, map}
use Rattle.std.proofs.lemmas.Result.{err_from_is_err_and}
use Rattle.ps_base.specs.Limits.{most_text_bytes as LONGEST_TEXT}
use Rattle.ps_program.specs.Node.{BodyNode}
use Rattle.ps_base.specs.declared.line.Line.{Line}
use Rattle.ps_port.specs.ps_outside.Outside.{Rose, Outside}
use Rattle.ps_port.specs.Texts.{TooLongFor}
use Rattle.ps_port.specs.declared.shelf.ShelfFault.{ShelfFault}
use Rattle.ps_port.specs.declared.shelf.ShelfFault.TheVariants.{Failed, TooLong}
use Rattle.ps_port.specs.Telling.{LeavesDevice}
use Rattle.ps_port.specs.DiskLaws.{torn_none}
use Rattle.ps_port.proofs.Telling.{all_none, device_none}
use Rattle.ps_port.proofs.of_ps_outside.Moments.{along_weaker}
use Rattle.ps_causes.specs.ps_scan.Fault as scanning
use Rattle.ps_tree.specs.Fault as parsing
use Rattle.ps_causes.specs.ps_typing.Fault.{Fault}
use Rattle.ps_causes.specs.ps_typing.Fault as fault
use Rattle.ps_check.specs.ps_declared.declared.fault.CheckFault.{CheckFault}
use Rattle.ps_check.specs.ps_declared.declared.fault.CheckFault.TheVariants.{Unknown, Twice, Mismatch, NotAssignable, NotApplicable, Limit, TooComplex, Memory as NoMemory}
use Rattle.ps_check.specs.ps_declared.Faults as checking
use Rattle.ps_command.specs.declared.source_fault.SourceFault.{SourceFault}
use Rattle.ps_command.specs.declared.source_fault.SourceFault.TheVariants as source
use Rattle.ps_causes.specs.ps_args.Words.{RunOf, CommandOf, a_run, a_text, a_volume}
use Rattle.ps_causes.specs.ps_args.Reading.{ReadsAs, command_in}
use Rattle.ps_causes.specs.ps_args.declared.words.ArgsFault.{ArgsFault}
use Rattle.ps_causes.specs.ps_args.declared.words.ArgsFault.TheVariants as words
use Rattle.ps_causes.specs.ps_reports.declared.status.Status.{Status}
use Rattle.ps_causes.specs.ps_reports.declared.status.Status.TheVariants.{Done}
use Rattle.ps_causes.specs.ps_reports.declared.report.Report.{Report}
use Rattle.ps_causes.specs.ps_reports.declared.report.Report.TheVariants as reports
use Rattle.ps_causes.specs.ps_reports.Reporting.{line_of, status_of, name_of}
use Rattle.ps_causes.specs.ps_reports.Statuses.{number_of as number_of_status}
use Rattle.ps_causes.specs.ps_reports.Reports.{fault_line}
use Rattle.ps_causes.specs.ps_reports.Answering.{Answers, ended, reported, whole}
use Rattle.ps_causes.proofs.of_ps_reports.Behind.{told_none, reports_alone}
use Rattle.ps_causes.specs.ps_volumes.paged_volume.Opening.{not_shut}
use Rattle.ps_causes.specs.ps_volumes.Attaching.{report_for, IsUnattached}
use Rattle.ps_causes.specs.ps_volumes.Making.{Makes}
use Rattle.ps_causes.proofs.of_ps_volumes.Settled.{device_kept, held_kept}
use Rattle.ps_causes.specs.Source.{IsProgram, IsSourceFault, in_scan, in_parse, in_check}
use Rattle.ps_causes.specs.Source as told
use Rattle.ps_causes.specs.Command.{Gives, GivesTooLong, GivesInput, GivesProgram, IsUnread, Unready, Due, LeavesAsAsked, carried_out, run_done}
use Rattle.ps_causes.specs.Steps.{RefusalWhy, ProgramWhy, UnreadWhy, WhyEnds}
use Rattle.ps_causes.specs.Steps as steps
use Rattle.ps_command.specs.inside.Refusal.{Refuses, stage_of, number_of, line_of_fault}
use Rattle.ps_command.specs.inside.Steps.{IsInputUnread}
use Rattle.ps_command.specs.inside.Words.{report_of}

-- a number says that the refusal is no want of memory
none_is_some : {A : Type 0} (x : A) → None ≡ Some x → ⊥
none_is_some x e = cc

-- a fault of the check in code that has a number and a line stands for one of the rules
record Told (fault : CheckFault) (number : ℕ) (line : Line) : Type 0 where
  rule : Fault
  stands : checking.fault_of fault ≡ Some rule
  has_number : told.number_of rule ≡ number
  has_line : told.line_of rule ≡ line

told_by : (found : CheckFault) (number : ℕ) (line : Line) → checking.number_of found ≡ Some number → checking.line_of_fault found ≡ Some line → Told found number line
told_by (Unknown at) number line n l = record { rule = fault.Unknown at; stands = refl; has_number = cc; has_line = cc }
told_by (Twice at) number line n l = record { rule = fault.Twice at; stands = refl; has_number = cc; has_line = cc }
told_by (Mismatch at found wanted) number line n l = record { rule = fault.Mismatch at _ _; stands = refl; has_number = cc; has_line = cc }
told_by (NotAssignable at) number line n l = record { rule = fault.NotAssignable at; stands = refl; has_number = cc; has_line = cc }
told_by (NotApplicable at) number line n l = record { rule = fault.NotApplicable at; stands = refl; has_number = cc; has_line = cc }
told_by (Limit at count) number line n l = record { rule = fault.Limit at count; stands = refl; has_number = cc; has_line = cc }
told_by (TooComplex at count) number line n l = record { rule = fault.TooComplex at count; stands = refl; has_number = cc; has_line = cc }
told_by NoMemory number line n l = absurd (none_is_some number n)

-- a fault has the number and the line that it is told with
at_line : {text : List ℕ} {n number : ℕ} {k line : Line} → n ≡ number → k ≡ line → IsSourceFault text (codes "check") n k →
    IsSourceFault text (codes "check") number line
at_line {text} {n} {number} {k} {line} one two fault =
    subst (λ (i : ℕ). IsSourceFault text (codes "check") i line) one (subst (λ (x : Line). IsSourceFault text (codes "check") n x) two fault)

pub fault_found : (text : List ℕ) (fault : SourceFault) (number : ℕ) (line : Line) → number_of fault ≡ Some number → line_of_fault fault ≡ Some line → Refuses text fault → IsSourceFault text (name_of (stage_of fault)) number line
fault_found text (source.Scan fault) number line n l h = in_scan (h (λ e. none_is_some number (ap scanning.number_of (sym e) ∙ n))) n l
fault_found text (source.Parse fault) number line n l h = let is = h (λ e. none_is_some number (ap parsing.number_of (sym e) ∙ n)) in in_parse is.1 is.2 n l
fault_found text (source.Check fault) number line n l h =
    let found = told_by fault number line n l in
    let is = h found.rule found.stands in
    at_line found.has_number found.has_line (in_check is.scanned is.read is.fault)
fault_found text source.Memory number line n l h = absurd (none_is_some number n)

-- a shelf that answered Ok, or another fault, didn't answer that it failed
pub not_failed : (r : Result Unit ShelfFault) (x : Unit) → r ≡ Ok x → IsErrOf r Failed → ⊥
not_failed r x is failed = let e : Ok x ≡ Err Failed = sym is ∙ failed in cc

pub failed_is : (r : Result Unit ShelfFault) (fault : ShelfFault) → r ≡ Err fault → IsErrOf r Failed → fault ≡ Failed
failed_is r fault is failed = let e : Err fault ≡ Err Failed = sym is ∙ failed in cc

-- what `?` hands on is the report that came
pub exits : {T : Type 0} (r : Result T Report) (P : Report → Type 0) (report : Report) → IsErrAnd r (λ y. y ≡ report) → P report → IfErr r P
exits r P report is h =
    let p = err_from_is_err_and r is in
    subst (λ (x : Result _ Report). IfErr x P) (sym (p.1 ∙ ap (λ (y : Report). Err y) p.2)) h

-- the report of a fault is that of the text
pub fault_told : (file text : List ℕ) (fault : SourceFault) (number : ℕ) (line : Line) → number_of fault ≡ Some number → line_of_fault fault ≡ Some line → Refuses text fault
    → RefusalWhy file text (fault_line file (name_of (stage_of fault)) number line) 2
fault_told file text fault number line n l h = steps.fault (fault_found text fault number line n l h)

too_long_is_other : (size : ℕ) → TooLong size ≡ Failed → ⊥
too_long_is_other size e = cc

-- a shelf that answered that a text is too long gives one that is
pub gives_too_long : (holds : List ℕ → Type 0) (lacks : Type 0) (size : ℕ) → (lacks → TooLong size ≡ Failed) → TooLongFor LONGEST_TEXT holds (TooLong size) → GivesTooLong holds lacks size
gives_too_long holds lacks size lacking long = record { there = λ l. too_long_is_other size (lacking l); given = long.1; long = long.0 }

-- Two shelves that hold the same texts, lack the same names, and may fail to read the same.
module _ (holds holds' : List ℕ → List ℕ → Type 0) (lacks lacks' may_fail may_fail' : List ℕ → Type 0) (same : (q t : List ℕ) → holds q t ↔ holds' q t)
    (also : (q : List ℕ) → lacks q ↔ lacks' q) (may_too : (q : List ℕ) → may_fail q ↔ may_fail' q) where
  pub gives_on : (name text : List ℕ) → Gives (holds name) (lacks name) text → Gives (holds' name) (lacks' name) text
  gives_on name text g = record { there = λ l. g.there ((also name).1 l); given = λ t h. g.given t ((same name t).1 h); short = g.short }

  too_long_on : (name : List ℕ) (size : ℕ) → GivesTooLong (holds name) (lacks name) size → GivesTooLong (holds' name) (lacks' name) size
  too_long_on name size g = record { there = λ l. g.there ((also name).1 l); given = λ t h. g.given t ((same name t).1 h); long = g.long }

  pub input_on : (input : Option (List ℕ)) (bytes : List ℕ) → GivesInput holds lacks input bytes → GivesInput holds' lacks' input bytes
  input_on None bytes g = g
  input_on (Some name) bytes g = gives_on name bytes g

  module _ (failed failed' : Type 0) (so : failed → failed') where
    unread_on : (name bytes : List ℕ) (status : ℕ) → UnreadWhy (holds name) (lacks name) (may_fail name) failed name bytes status
        → UnreadWhy (holds' name) (lacks' name) (may_fail' name) failed' name bytes status
    unread_on name bytes status (steps.unread (IsUnread.unreadable may rose)) = steps.unread (IsUnread.unreadable ((may_too name).0 may) (so rose))
    unread_on name bytes status (steps.unread (IsUnread.too_long {size = size} g)) = steps.unread (IsUnread.too_long (too_long_on name size g))
    unread_on name bytes status steps.no_memory = steps.no_memory

    pub input_unread_on : (input : Option (List ℕ)) (bytes : List ℕ) (status : ℕ) → IsInputUnread holds lacks may_fail failed input bytes status
        → IsInputUnread holds' lacks' may_fail' failed' input bytes status
    input_unread_on None bytes status is = is
    input_unread_on (Some name) bytes status is = unread_on name bytes status is

-- what rose before calls that count rose in all of them, and what rose after them too
pub rose_from : (before middle after : ℕ) → before ≤ middle → Rose middle after → Rose before after
rose_from before middle after counted (inl less) = inl (omega (arith, less, counted))
rose_from before middle after counted (inr last) = inr last

-- Why a run isn't begun.
module _ (run : RunOf) (holds : List ℕ → List ℕ → Type 0) (lacks may_fail : List ℕ → Type 0) (failed : Type 0) where
  pub unready_by_text : (bytes : List ℕ) (status : ℕ) → UnreadWhy (holds run.file) (lacks run.file) (may_fail run.file) failed run.file bytes status → Unready run holds lacks may_fail failed bytes status
  unready_by_text bytes status (steps.unread is) = Unready.no_text is
  unready_by_text bytes status steps.no_memory = Unready.no_memory

  pub unready_by_fault : (text bytes : List ℕ) (status : ℕ) → Gives (holds run.file) (lacks run.file) text → RefusalWhy run.file text bytes status → Unready run holds lacks may_fail failed bytes status
  unready_by_fault text bytes status gives (steps.fault is) = Unready.refused gives is
  unready_by_fault text bytes status gives steps.no_memory = Unready.no_memory

  of_input : (program : BodyNode) (input : Option (List ℕ)) (bytes : List ℕ) (status : ℕ) → GivesProgram holds lacks run program → run.input ≡ input
      → IsInputUnread holds lacks may_fail failed input bytes status → Unready run holds lacks may_fail failed bytes status
  of_input program None bytes status gives named is = absurd is
  of_input program (Some name) bytes status gives named (steps.unread is) = Unready.no_input gives named is
  of_input program (Some name) bytes status gives named steps.no_memory = Unready.no_memory

  pub unready_by_input : (program : BodyNode) (bytes : List ℕ) (status : ℕ) → GivesProgram holds lacks run program → IsInputUnread holds lacks may_fail failed run.input bytes status
      → Unready run holds lacks may_fail failed bytes status
  unready_by_input program bytes status gives is = of_input program run.input bytes status gives refl is

-- calls of the output alone leave the device as any command does
left_alone : (asked : Option CommandOf) (old new : Outside (List ℕ)) → LeavesDevice old new → LeavesAsAsked asked old new
left_alone None old new is = device_kept old new is
left_alone (Some (a_run run)) old new is = held_kept old new (device_kept old new is)
left_alone (Some (a_text text)) old new is = device_kept old new is
left_alone (Some (a_volume pages)) old new is = (
  along_weaker is.images (λ image at. inl (record { from = image; was = at; by = torn_none 0 1 image })),
  not_shut (along_weaker is.images (λ image at. record { from = image; was = at; by = torn_none 0 1 image })),
)

-- a run of one text is carried out
pub one_done : {A : Type 0} (run : RunOf) (name : A → List ℕ) (files : List A) → files ≡ [] → run_done run (map name files) ≡ Some (a_run run)
one_done run name [] none = refl
one_done run name (file ∷ files) none = cc

-- a run of more than one text isn't carried out
pub many_none : {A : Type 0} (run : RunOf) (name : A → List ℕ) (files : List A) → (files ≡ [] → ⊥) → run_done run (map name files) ≡ None
many_none run name [] some = absurd (some refl)
many_none run name (file ∷ files) some = refl

-- Why a command ends as it does.
module _ (holds : List ℕ → List ℕ → Type 0) (lacks may_fail : List ℕ → Type 0) (failed : Type 0) where
  pub ends_in_usage : (old : Outside (List ℕ)) → WhyEnds old old None holds lacks may_fail failed (Err reports.Usage)
  ends_in_usage old = steps.by_words (Due.no_command refl (device_none old)) (reported (all_none old)) (device_kept old old (device_none old))

  -- there was no memory to read the words
  ends_without_memory : (asked : Option CommandOf) (old : Outside (List ℕ)) → WhyEnds old old asked holds lacks may_fail failed (Err reports.NoMemory)
  ends_without_memory asked old = steps.by_words (Due.no_memory (device_none old)) (reported (all_none old)) (left_alone asked old old (device_none old))

  -- the words weren't read
  pub ends_refused : (fault : ArgsFault) (asked : Option CommandOf) (old : Outside (List ℕ)) → ReadsAs command_in asked (Err fault)
      → WhyEnds old old (carried_out asked) holds lacks may_fail failed (Err (report_of fault))
  ends_refused words.Usage asked old is =
      subst (λ (a : Option CommandOf). WhyEnds old old a holds lacks may_fail failed (Err reports.Usage)) (sym (ap carried_out is)) (ends_in_usage old)
  ends_refused words.Memory asked old is = ends_without_memory (carried_out asked) old

  -- a text that tells of the program
  pub ends_told : (old new : Outside (List ℕ)) (text : List ℕ) (status : Status) → Answers old new text 0 (number_of_status status) → LeavesDevice old new
      → WhyEnds old new (Some (a_text text)) holds lacks may_fail failed (Ok status)
  ends_told old new text status is left = steps.by_words (Due.told refl left) (ended is) (left_alone (Some (a_text text)) old new left)

  pub ends_unready : (old : Outside (List ℕ)) (run : RunOf) (report : Report) → Unready run holds lacks may_fail failed (line_of report) (number_of_status (status_of report))
      → WhyEnds old old (Some (a_run run)) holds lacks may_fail failed (Err report)
  ends_unready old run report why = steps.by_words (Due.unready refl why (device_none old)) (reported (all_none old)) (held_kept old old (device_kept old old (device_none old)))

  pub ends_made : (old new : Outside (List ℕ)) (pages : ℕ) (done : Unit {0}) → Makes pages old new (Ok done) → WhyEnds old new (Some (a_volume pages)) holds lacks may_fail failed (Ok Done)
  ends_made old new pages done is = steps.by_words (Due.making refl is.due) (ended (whole (told_none old new is.told is.calm))) (is.any_moment, is.gate)

  pub ends_not_made : (old new : Outside (List ℕ)) (pages : ℕ) (report : Report) → Makes pages old new (Err report) → WhyEnds old new (Some (a_volume pages)) holds lacks may_fail failed (Err report)
  ends_not_made old new pages report is = steps.by_words (Due.making refl is.due) (reports_alone old new is.told is.calm report) (is.any_moment, is.gate)

  -- there was no volume
  ends_unattached : (old new : Outside (List ℕ)) (run : RunOf) (input : List ℕ) (program : BodyNode) (report : Report) → GivesProgram holds lacks run program → GivesInput holds lacks run.input input
      → IsUnattached old new report → WhyEnds old new (Some (a_run run)) holds lacks may_fail failed (Err report)
  ends_unattached old new run input program report gives given is =
      subst (λ (r : Report). WhyEnds old new (Some (a_run run)) holds lacks may_fail failed (Err r)) (sym is.report_is) (steps.by_words (Due.unattached input {cause = is.cause} refl gives given is.why is.keeps) (reports_alone old new is.told is.calm (report_for is.cause)) is.keeps)

  -- the program was run, or there was no volume
  pub ends_run : {H : Type 0} (outside : H → Outside (List ℕ)) (old new : H) (run : RunOf) (input : List ℕ) (program : BodyNode) (end : Result Status Report) → GivesProgram holds lacks run program
      → GivesInput holds lacks run.input input → ProgramWhy outside old new run input program end → WhyEnds (outside old) (outside new) (Some (a_run run)) holds lacks may_fail failed end
  ends_run outside old new run input program end gives given (steps.ran is) = steps.by_run refl gives given is
  ends_run {H} outside old new run input program end gives given (steps.no_memory same) =
      subst (λ (h : H). WhyEnds (outside old) (outside h) (Some (a_run run)) holds lacks may_fail failed (Err reports.NoMemory)) (sym same) (ends_unready (outside old) run reports.NoMemory Unready.no_memory)
  ends_run outside old new run input program end gives given (steps.no_volume {report = report} is) =
      ends_unattached (outside old) (outside new) run input program report gives given is
