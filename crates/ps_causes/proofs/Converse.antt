-- What the causes of an answer exclude.
use Rattle.std.proofs.Common.{◌≡◌, ℕ, Bool, ◌<◌, ◌≤◌, inl, inr, List, [], length, Some, None, Option, refl, sym, ap, ◌∙◌, subst, arith}
use Rattle.ps_port.specs.ps_outside.Outside.{Outside, Rose}
use Rattle.ps_meaning.specs.ps_base.Limits.{most_text_bytes as LONGEST_TEXT}
use Rattle.ps_meaning.specs.ps_typing.ps_program.Node.{BodyNode}
use Rattle.ps_meaning.specs.ps_base.declared.line.Line.{Line}
use Rattle.ps_args.specs.ps_scan.declared.token.Token.{Token}
use Rattle.ps_args.specs.ps_scan.Fault as scanning
use Rattle.ps_args.proofs.of_ps_scan.Laws.{same_tokens, same_fault, never_both}
use Rattle.ps_parse.specs.ps_tree.Phrase.{Phrase}
use Rattle.ps_parse.specs.ps_tree.declared.fault.ParseFault.{ParseFault}
use Rattle.ps_parse.specs.ps_tree.Fault as parsing
use Rattle.ps_parse.specs.Program.{ReadsAs, IsParseFault}
use Rattle.ps_parse.proofs.Unique.{one_tree}
use Rattle.ps_parse.proofs.Faults.{no_fault_of_tree, one_fault}
use Rattle.ps_meaning.specs.ps_typing.Fault.{Fault}
use Rattle.ps_meaning.specs.ps_typing.Program.{Verdict, check_program, Typed, Fails}
use Rattle.ps_volumes.specs.volume_parts.Holding.{Held}
use Rattle.ps_volumes.specs.paged_volume.Found.{Found, no_volume, damaged, damage, found_in}
use Rattle.ps_volumes.specs.paged_volume.Found as found
use Rattle.ps_volumes.specs.volume_parts.Making.{IsNone}
use Rattle.ps_volumes.specs.paged_volume.declared.damage.Damage.{Damage}
use Rattle.ps_volumes.specs.volume_parts.declared.open_fault.OpenFault.{OpenFault}
use Rattle.ps_volumes.specs.volume_parts.declared.open_fault.OpenFault.TheVariants as cause
use Rattle.ps_args.specs.Words.{RunOf, CommandOf, a_run, a_text, a_volume}
use Rattle.ps_volumes.specs.ps_reports.Reports.{usage_line, memory_line, unreadable_line, too_long_line, fault_line, not_a_volume_line, damaged_line, already_line}
use Rattle.ps_volumes.specs.ps_reports.Answering.{Answers, whole, cut}
use Rattle.ps_volumes.specs.Attaching.{HasVolume, IsWhyNone, line_of as line_of_cause, status_of as status_of_cause}
use Rattle.ps_volumes.specs.Making.{IsMakingDue, IsOpen}
use Rattle.ps_volumes.specs.Making as making
use Rattle.ps_causes.specs.Source.{IsProgram, number_of, line_of, IsCheckFault, mistyped, IsSourceFault, in_scan, in_parse, in_check}
use Rattle.ps_causes.specs.Command.{Answered, Gives, GivesTooLong, GivesInput, HoldsInput, GivesProgram, IsUnread, Unready, Due, Why, IsRead, Gets, GetsOrLacks, GetsOrFails, GetsRun}
use Rattle.ps_causes.specs.Runs.{Ran}

not_both : {A : Type 0} (x : Option A) (v : A) → x ≡ None → x ≡ Some v → ⊥
not_both x v none some = let e : None ≡ Some v = sym none ∙ some in cc

same_some : {A : Type 0} (x : Option A) (v w : A) → x ≡ Some v → x ≡ Some w → v ≡ w
same_some x v w one two = let e : Some v ≡ Some w = sym one ∙ two in cc

typed_same : (v : Verdict) (p q : BodyNode) → v ≡ Typed p → v ≡ Typed q → p ≡ q
typed_same v p q one two = let e : Typed p ≡ Typed q = sym one ∙ two in cc

fails_same : (v : Verdict) (f g : Fault) → v ≡ Fails f → v ≡ Fails g → f ≡ g
fails_same v f g one two = let e : Fails f ≡ Fails g = sym one ∙ two in cc

typed_not_fails : (v : Verdict) (p : BodyNode) (f : Fault) → v ≡ Typed p → v ≡ Fails f → ⊥
typed_not_fails v p f one two = let e : Typed p ≡ Fails f = sym one ∙ two in cc

-- what is checked in a text is one tree
one_phrase : (text : List ℕ) (tokens others : List Token) (phrase other : Phrase) → tokens ≡ others → ReadsAs text tokens phrase → ReadsAs text others other → phrase ≡ other
one_phrase text tokens others phrase other same read read' = one_tree text others phrase other (subst (λ (ts : List Token). ReadsAs text ts phrase) same read) read'

one_verdict : (text : List ℕ) (tokens others : List Token) (phrase other : Phrase) (v : Verdict) → tokens ≡ others → ReadsAs text tokens phrase → ReadsAs text others other → check_program phrase ≡ v → check_program other ≡ v
one_verdict text tokens others phrase other v same read read' is = subst (λ (ph : Phrase). check_program ph ≡ v) (one_phrase text tokens others phrase other same read read') is

one_program : (text : List ℕ) (p q : BodyNode) → IsProgram text p → IsProgram text q → p ≡ q
one_program text p q one two =
    typed_same (check_program two.phrase) p q (one_verdict text one.tokens two.tokens one.phrase two.phrase (Typed p) (same_tokens one.scanned two.scanned) one.read two.read one.typed) two.typed

-- and its fault in the check is that of the one tree
of_one_phrase : {text : List ℕ} {tokens others : List Token} {phrase other : Phrase} {number : ℕ} {line : Line} → tokens ≡ others →
    ReadsAs text tokens phrase → ReadsAs text others other → IsCheckFault phrase number line → IsCheckFault other number line
of_one_phrase {text} {tokens} {others} {phrase} {other} {number} {line} same read read' fault =
    subst (λ (ph : Phrase). IsCheckFault ph number line) (one_phrase text tokens others phrase other same read read') fault

-- a tree that is typed has no fault in the check
no_check_fault : (phrase : Phrase) (p : BodyNode) (number : ℕ) (line : Line) → check_program phrase ≡ Typed p → IsCheckFault phrase number line → ⊥
no_check_fault phrase p number line typed (mistyped {fault = fault} fails) = typed_not_fails (check_program phrase) p fault typed fails

-- and a tree has one first fault
one_check_fault : (phrase : Phrase) (n m : ℕ) (k l : Line) → IsCheckFault phrase n k → IsCheckFault phrase m l → (n ≡ m) × (k ≡ l)
one_check_fault phrase n m k l (mistyped {fault = f} fails) (mistyped {fault = g} fails') =
    let same : f ≡ g = fails_same (check_program phrase) f g fails fails' in (ap number_of same, ap line_of same)

no_parse_fault : (text : List ℕ) (tokens others : List Token) (phrase : Phrase) (fault : ParseFault) → tokens ≡ others → ReadsAs text tokens phrase → IsParseFault text others fault → ⊥
no_parse_fault text tokens others phrase fault same read has = no_fault_of_tree text others phrase fault (subst (λ (ts : List Token). ReadsAs text ts phrase) same read) has

pub no_fault : (text stage : List ℕ) (p : BodyNode) (number : ℕ) (line : Line) → IsProgram text p → IsSourceFault text stage number line → ⊥
no_fault text stage p number line is (in_scan has a b) = never_both is.scanned has
no_fault text stage p number line is (in_parse {tokens = tokens} {fault = fault} scanned has a b) = no_parse_fault text is.tokens tokens is.phrase fault (same_tokens is.scanned scanned) is.read has
no_fault text stage p number line is (in_check scanned read fault) =
    no_check_fault is.phrase p number line is.typed (of_one_phrase (same_tokens scanned is.scanned) read is.read fault)

-- Two first faults are one, with its stage, its number and its line.
pub record IsOne (stage stage' : List ℕ) (number number' : ℕ) (line line' : Line) : Type 0 where
  pub stages : stage ≡ stage'
  pub numbers : number ≡ number'
  pub lines : line ≡ line'

-- equal faults of a stage have one number and one line
is_one : {F : Type 0} (stage : List ℕ) (number_of : F → Option ℕ) (line_of : F → Option Line) (f g : F) (n m : ℕ) (k l : Line) → f ≡ g → number_of f ≡ Some n → line_of f ≡ Some k → number_of g ≡ Some m → line_of g ≡ Some l → IsOne stage stage n m k l
is_one stage number_of line_of f g n m k l same n_is k_is m_is l_is = record {
  stages = refl;
  numbers = same_some (number_of g) n m (ap number_of (sym same) ∙ n_is) m_is;
  lines = same_some (line_of g) k l (ap line_of (sym same) ∙ k_is) l_is;
}

pub one_source_fault : (text stage stage' : List ℕ) (n m : ℕ) (k l : Line) → IsSourceFault text stage n k → IsSourceFault text stage' m l → IsOne stage stage' n m k l
one_source_fault text stage stage' n m k l (in_scan {fault = f} has a b) (in_scan {fault = g} has' c d) = is_one _ scanning.number_of scanning.line_of_fault f g n m k l (same_fault has has') a b c d
one_source_fault text stage stage' n m k l (in_scan has a b) (in_parse scanned has' c d) = absurd (never_both scanned has)
one_source_fault text stage stage' n m k l (in_scan has a b) (in_check scanned read fault) = absurd (never_both scanned has)
one_source_fault text stage stage' n m k l (in_parse scanned has a b) (in_scan has' c d) = absurd (never_both scanned has')
one_source_fault text stage stage' n m k l (in_parse {tokens = ts} {fault = f} scanned has a b) (in_parse {tokens = us} {fault = g} scanned' has' c d) =
    is_one _ parsing.number_of parsing.line_of_fault f g n m k l (one_fault text us (subst (λ (xs : List Token). IsParseFault text xs f) (same_tokens scanned scanned') has) has') a b c d
one_source_fault text stage stage' n m k l (in_parse {tokens = ts} {fault = f} scanned has a b) (in_check {tokens = us} {phrase = ph} scanned' read fault) = absurd (no_parse_fault text us ts ph f (same_tokens scanned' scanned) read has)
one_source_fault text stage stage' n m k l (in_check scanned read fault) (in_scan has' c d) = absurd (never_both scanned has')
one_source_fault text stage stage' n m k l (in_check {tokens = ts} {phrase = ph} scanned read fault) (in_parse {tokens = us} {fault = g} scanned' has' c d) = absurd (no_parse_fault text ts us ph g (same_tokens scanned scanned') read has')
one_source_fault text stage stage' n m k l (in_check scanned read fault) (in_check {phrase = ph} scanned' read' fault') =
    let one = one_check_fault ph n m k l (of_one_phrase (same_tokens scanned scanned') read read' fault) fault' in
    record { stages = refl; numbers = one.0; lines = one.1 }

same_line : (file stage stage' : List ℕ) (n m : ℕ) (k l : Line) → IsOne stage stage' n m k l → fault_line file stage n k ≡ fault_line file stage' m l
same_line file stage stage' n m k l one = ap (λ (s : List ℕ). fault_line file s n k) one.stages ∙ ap (λ (i : ℕ). fault_line file stage' i k) one.numbers ∙ ap (λ (i : Line). fault_line file stage' m i) one.lines

-- one run is asked for
same_run : (asked : Option CommandOf) (r run : RunOf) → asked ≡ Some (a_run r) → asked ≡ Some (a_run run) → r ≡ run
same_run asked r run one two = let e : Some (a_run r) ≡ Some (a_run run) = sym one ∙ two in cc

run_or_volume : (asked : Option CommandOf) (run : RunOf) (pages : ℕ) → asked ≡ Some (a_run run) → asked ≡ Some (a_volume pages) → ⊥
run_or_volume asked run pages one two = let e : Some (a_run run) ≡ Some (a_volume pages) = sym one ∙ two in cc

run_or_text : (asked : Option CommandOf) (run : RunOf) (text : List ℕ) → asked ≡ Some (a_run run) → asked ≡ Some (a_text text) → ⊥
run_or_text asked run text one two = let e : Some (a_run run) ≡ Some (a_text text) = sym one ∙ two in cc

volume_or_text : (asked : Option CommandOf) (pages : ℕ) (text : List ℕ) → asked ≡ Some (a_volume pages) → asked ≡ Some (a_text text) → ⊥
volume_or_text asked pages text one two = let e : Some (a_volume pages) ≡ Some (a_text text) = sym one ∙ two in cc

-- one text is asked for
same_text : (asked : Option CommandOf) (t text : List ℕ) → asked ≡ Some (a_text t) → asked ≡ Some (a_text text) → t ≡ text
same_text asked t text one two = let e : Some (a_text t) ≡ Some (a_text text) = sym one ∙ two in cc

-- what is found in a content is one of three
a_volume_or_none : (f : Found) (pages : ℕ) (second : Bool) (held : Held) (size gate : ℕ) → f ≡ found.a_volume pages second held → f ≡ no_volume size gate → ⊥
a_volume_or_none f pages second held size gate one two = let e : found.a_volume pages second held ≡ no_volume size gate = sym one ∙ two in cc

a_volume_or_damaged : (f : Found) (pages : ℕ) (second : Bool) (held : Held) (d : Damage) → f ≡ found.a_volume pages second held → f ≡ damaged d → ⊥
a_volume_or_damaged f pages second held d one two = let e : found.a_volume pages second held ≡ damaged d = sym one ∙ two in cc

none_or_open : (content : List ℕ) → IsNone content → IsOpen content → ⊥
none_or_open content (inl short) opens = let long = opens.long in omega arith
none_or_open content (inr shut) opens = shut opens.opened

module _ (asked : Option CommandOf) (holds : List ℕ → List ℕ → Type 0) (lacks may_fail : List ℕ → Type 0) (failed : Type 0) (old new : Outside (List ℕ)) where
  abbrev Dues : List ℕ → ℕ → Type 0
  Dues bytes status = Due asked holds lacks may_fail failed old new bytes status

  -- a fault of the device was counted
  abbrev Faulted : Type 0
  Faulted = Rose old.device_faults new.device_faults

  own_at : (read : List ℕ → Type 0) (by : Type 0) (told bytes : List ℕ) (due status : ℕ) → told ≡ bytes → due ≡ status → Gets read may_fail failed by told due bytes status
  own_at read by told bytes due status one two = subst (λ (bs : List ℕ). Gets read may_fail failed by told due bs status) one (subst (λ (n : ℕ). Gets read may_fail failed by told due told n) two Gets.own)

  abbrev Whys : ℕ → Type 0
  Whys answered = Why old new asked holds lacks may_fail failed answered

  -- where words ask for no run, what is due decides
  on_words : (P : List ℕ → ℕ → Type 0) (answered : ℕ) → ((bytes : List ℕ) (status : ℕ) → Dues bytes status → P bytes status) → ((run : RunOf) → asked ≡ Some (a_run run) → ⊥) → Whys answered →
      Answered old new P answered
  on_words P answered by none (Why.by_words {bytes = bytes} {status = status} due is left) = (bytes, status, by bytes status due, is)
  on_words P answered by none (Why.by_run {run = run} is gives given ran) = absurd (none run is)

  -- and so it does where this run can't have been
  on_run : (run : RunOf) → asked ≡ Some (a_run run) → (P : List ℕ → ℕ → Type 0) (answered : ℕ) → ((bytes : List ℕ) (status : ℕ) → Dues bytes status → P bytes status) →
      ((program : BodyNode) (input : List ℕ) → GivesProgram holds lacks run program → GivesInput holds lacks run.input input → Ran run input program old new answered → ⊥) → Whys answered →
      Answered old new P answered
  on_run run is P answered by none (Why.by_words {bytes = bytes} {status = status} due answers left) = (bytes, status, by bytes status due, answers)
  on_run run is P answered by none (Why.by_run {run = r} {program = program} {input = input} is' gives given ran) =
      absurd (subst (λ (x : RunOf). (program : BodyNode) (input : List ℕ) → GivesProgram holds lacks x program → GivesInput holds lacks x.input input → Ran x input program old new answered → ⊥)
      (same_run asked run r is is') none program input gives given ran)

  no_command_due : (bytes : List ℕ) (status : ℕ) → asked ≡ None → Dues bytes status → GetsOrLacks usage_line 1 bytes status
  no_command_due bytes status none (Due.no_command is left) = GetsOrLacks.own
  no_command_due bytes status none (Due.no_memory left) = GetsOrLacks.no_memory
  no_command_due bytes status none (Due.told {text = text} is left) = absurd (not_both asked (a_text text) none is)
  no_command_due bytes status none (Due.unready {run = run} is why left) = absurd (not_both asked (a_run run) none is)
  no_command_due bytes status none (Due.unattached {run = run} input is gives given why left) = absurd (not_both asked (a_run run) none is)
  no_command_due bytes status none (Due.making {pages = pages} is due) = absurd (not_both asked (a_volume pages) none is)

  pub no_command : (answered : ℕ) → asked ≡ None → Whys answered → Answered old new (GetsOrLacks usage_line 1) answered
  no_command answered none = on_words (GetsOrLacks usage_line 1) answered (λ bytes status due. no_command_due bytes status none due) (λ run is. not_both asked (a_run run) none is)

  text_told_due : (text bytes : List ℕ) (status : ℕ) → asked ≡ Some (a_text text) → Dues bytes status → GetsOrLacks text 0 bytes status
  text_told_due text bytes status is (Due.no_command none left) = absurd (not_both asked (a_text text) none is)
  text_told_due text bytes status is (Due.no_memory left) = GetsOrLacks.no_memory
  text_told_due text bytes status is (Due.told {text = t} is' left) = subst (λ (bs : List ℕ). GetsOrLacks text 0 bs 0) (same_text asked text t is is') GetsOrLacks.own
  text_told_due text bytes status is (Due.unready {run = run} is' why left) = absurd (run_or_text asked run text is' is)
  text_told_due text bytes status is (Due.unattached {run = run} input is' gives given why left) = absurd (run_or_text asked run text is' is)
  text_told_due text bytes status is (Due.making {pages = pages} is' due) = absurd (volume_or_text asked pages text is' is)

  pub text_told : (text : List ℕ) (answered : ℕ) → asked ≡ Some (a_text text) → Whys answered → Answered old new (GetsOrLacks text 0) answered
  text_told text answered is = on_words (GetsOrLacks text 0) answered (λ bytes status due. text_told_due text bytes status is due) (λ run is'. run_or_text asked run text is' is)

  -- the cases of a command that is a run
  record Cases (P : List ℕ → ℕ → Type 0) (run : RunOf) : Type 0 where
    memory : P memory_line 5
    unread : may_fail run.file → failed → P (unreadable_line run.file) 7
    long : (size : ℕ) → GivesTooLong (holds run.file) (lacks run.file) size → P (too_long_line run.file size) 13
    refused : (text stage : List ℕ) (number : ℕ) (line : Line) → Gives (holds run.file) (lacks run.file) text → IsSourceFault text stage number line → P (fault_line run.file stage number line) 2
    no_input : (program : BodyNode) (name : List ℕ) → GivesProgram holds lacks run program → run.input ≡ Some name → may_fail name → failed → P (unreadable_line name) 7
    long_input : (program : BodyNode) (name : List ℕ) (size : ℕ) → GivesProgram holds lacks run program → run.input ≡ Some name → GivesTooLong (holds name) (lacks name) size → P (too_long_line name size) 13
    unattached : (program : BodyNode) (input : List ℕ) (cause : OpenFault) → GivesProgram holds lacks run program → GivesInput holds lacks run.input input → IsWhyNone old new cause →
        P (line_of_cause cause) (status_of_cause cause)

  of_unready : (P : List ℕ → ℕ → Type 0) (run : RunOf) (bytes : List ℕ) (status : ℕ) → Cases P run → Unready run holds lacks may_fail failed bytes status → P bytes status
  of_unready P run bytes status cases (Unready.no_text (IsUnread.unreadable may rose)) = cases.unread may rose
  of_unready P run bytes status cases (Unready.no_text (IsUnread.too_long {size = size} gives)) = cases.long size gives
  of_unready P run bytes status cases (Unready.refused {text = text} {stage = stage} {number = number} {line = line} gives fault) = cases.refused text stage number line gives fault
  of_unready P run bytes status cases (Unready.no_input {program = program} {name = name} g named (IsUnread.unreadable may rose)) = cases.no_input program name g named may rose
  of_unready P run bytes status cases (Unready.no_input {program = program} {name = name} g named (IsUnread.too_long {size = size} long)) =
      cases.long_input program name size g named long
  of_unready P run bytes status cases Unready.no_memory = cases.memory

  by_cases : (P : List ℕ → ℕ → Type 0) (run : RunOf) (bytes : List ℕ) (status : ℕ) → asked ≡ Some (a_run run) → Cases P run → Dues bytes status → P bytes status
  by_cases P run bytes status is cases (Due.no_command none left) = absurd (not_both asked (a_run run) none is)
  by_cases P run bytes status is cases (Due.no_memory left) = cases.memory
  by_cases P run bytes status is cases (Due.told {text = text} is' left) = absurd (run_or_text asked run text is is')
  by_cases P run bytes status is cases (Due.unready {run = r} is' why left) = of_unready P r bytes status (subst (Cases P) (same_run asked run r is is') cases) why
  by_cases P run bytes status is cases (Due.unattached {run = r} {program = program} input {cause = why} is' gives given none left) =
      (subst (Cases P) (same_run asked run r is is') cases).unattached program input why gives given none
  by_cases P run bytes status is cases (Due.making {pages = pages} is' due) = absurd (run_or_volume asked run pages is is')

  -- over a volume that is told nothing but the device or want of memory comes in the way
  over_a_volume : (run : RunOf) (input : List ℕ) (program : BodyNode) (why : OpenFault) (answered : ℕ) → IsWhyNone old new why → (content : List ℕ) → old.contents content → HasVolume content →
      Answers old new (line_of_cause why) (status_of_cause why) answered → GetsRun run input program may_fail failed old new answered
  over_a_volume run input program cause.Device answered none content told has is = GetsRun.no_device (none.device refl) is
  over_a_volume run input program (cause.NotAVolume size gate) answered none content told has is =
      absurd (a_volume_or_none (found_in content) _ _ _ size gate has.found (none.found content told))
  over_a_volume run input program (cause.Damaged at found wanted) answered none content told has is =
      absurd (a_volume_or_damaged (found_in content) _ _ _ (damage at found wanted) has.found (none.found content told))
  over_a_volume run input program cause.Memory answered none content told has is = GetsRun.no_memory is

  -- the line of a file that is no volume, and of a damaged one
  over_none : (read : List ℕ → Type 0) (why : OpenFault) → IsWhyNone old new why → (content : List ℕ) (size gate : ℕ) → old.contents content → found_in content ≡ no_volume size gate →
      Gets read may_fail failed Faulted (not_a_volume_line size gate) 9 (line_of_cause why) (status_of_cause why)
  over_none read cause.Device none content size gate told is = Gets.no_device (none.device refl)
  over_none read (cause.NotAVolume s g) none content size gate told is =
      let e : no_volume size gate ≡ no_volume s g = sym is ∙ none.found content told in
      let one : size ≡ s = cc in
      let two : gate ≡ g = cc in
      own_at read Faulted _ _ _ _ (ap (λ (n : ℕ). not_a_volume_line n gate) one ∙ ap (λ (n : ℕ). not_a_volume_line s n) two) refl
  over_none read (cause.Damaged at found wanted) none content size gate told is =
      absurd (let e : no_volume size gate ≡ damaged (damage at found wanted) = sym is ∙ none.found content told in cc)
  over_none read cause.Memory none content size gate told is = Gets.no_memory

  over_damaged : (read : List ℕ → Type 0) (why : OpenFault) → IsWhyNone old new why → (content : List ℕ) (at found wanted : ℕ) → old.contents content →
      found_in content ≡ damaged (damage at found wanted) → Gets read may_fail failed Faulted (damaged_line at found wanted) 10 (line_of_cause why) (status_of_cause why)
  over_damaged read cause.Device none content at found wanted told is = Gets.no_device (none.device refl)
  over_damaged read (cause.NotAVolume s g) none content at found wanted told is =
      absurd (let e : damaged (damage at found wanted) ≡ no_volume s g = sym is ∙ none.found content told in cc)
  over_damaged read (cause.Damaged a f w) none content at found wanted told is =
      let e : damaged (damage at found wanted) ≡ damaged (damage a f w) = sym is ∙ none.found content told in
      let d : damage at found wanted ≡ damage a f w = cc in
      let one = ap (λ (d : Damage). d.at) d in
      let two = ap (λ (d : Damage). d.found) d in
      let three = ap (λ (d : Damage). d.wanted) d in
      own_at read Faulted _ _ _ _ (ap (λ (n : ℕ). damaged_line n found wanted) one ∙ ap (λ (n : ℕ). damaged_line a n wanted) two ∙ ap (λ (n : ℕ). damaged_line a f n) three) refl
  over_damaged read cause.Memory none content at found wanted told is = Gets.no_memory

  -- the case of a command that makes a volume
  of_making : (P : List ℕ → ℕ → Type 0) (pages : ℕ) (bytes : List ℕ) (status : ℕ) → asked ≡ Some (a_volume pages) → P memory_line 5 →
      ((p : ℕ) (bs : List ℕ) (n : ℕ) → IsMakingDue p old new bs n → P bs n) → Dues bytes status → P bytes status
  of_making P pages bytes status is lacks made (Due.no_command none left) = absurd (not_both asked (a_volume pages) none is)
  of_making P pages bytes status is lacks made (Due.no_memory left) = lacks
  of_making P pages bytes status is lacks made (Due.told {text = text} is' left) = absurd (volume_or_text asked pages text is is')
  of_making P pages bytes status is lacks made (Due.unready {run = run} is' why left) = absurd (run_or_volume asked run pages is' is)
  of_making P pages bytes status is lacks made (Due.unattached {run = run} input is' gives given why left) = absurd (run_or_volume asked run pages is' is)
  of_making P pages bytes status is lacks made (Due.making {pages = p} is' due) = made p bytes status due

  volume_made_due : (pages : ℕ) (content bytes : List ℕ) (status : ℕ) → asked ≡ Some (a_volume pages) → old.contents content → IsNone content → Dues bytes status →
      GetsOrFails Faulted [] 0 bytes status
  volume_made_due pages content bytes status is told none due =
      of_making (λ bs n. GetsOrFails Faulted [] 0 bs n) pages bytes status is GetsOrFails.no_memory (λ p bs n d. made_of p bs n d) due
    where
      made_of : (p : ℕ) (bs : List ℕ) (n : ℕ) → IsMakingDue p old new bs n → GetsOrFails Faulted [] 0 bs n
      made_of p bs n (making.made was stands) = GetsOrFails.own
      made_of p bs n (making.failed rose) = GetsOrFails.no_device rose
      made_of p bs n (making.there_is_one opens keeps) = absurd (none_or_open content none (opens content told))

  pub volume_made : (pages : ℕ) (content : List ℕ) (answered : ℕ) → asked ≡ Some (a_volume pages) → old.contents content → IsNone content → Whys answered →
      Answered old new (GetsOrFails Faulted [] 0) answered
  volume_made pages content answered is told none =
      on_words (GetsOrFails Faulted [] 0) answered (λ bytes status due. volume_made_due pages content bytes status is told none due) (λ run is'. run_or_volume asked run pages is' is)

  volume_kept_due : (pages : ℕ) (content bytes : List ℕ) (status : ℕ) → asked ≡ Some (a_volume pages) → old.contents content → IsOpen content → Dues bytes status →
      GetsOrFails Faulted already_line 14 bytes status
  volume_kept_due pages content bytes status is told opens due =
      of_making (λ bs n. GetsOrFails Faulted already_line 14 bs n) pages bytes status is GetsOrFails.no_memory (λ p bs n d. kept_of p bs n d) due
    where
      kept_of : (p : ℕ) (bs : List ℕ) (n : ℕ) → IsMakingDue p old new bs n → GetsOrFails Faulted already_line 14 bs n
      kept_of p bs n (making.made was stands) = absurd (none_or_open content (was content told) opens)
      kept_of p bs n (making.failed rose) = GetsOrFails.no_device rose
      kept_of p bs n (making.there_is_one opened keeps) = GetsOrFails.own

  pub volume_kept : (pages : ℕ) (content : List ℕ) (answered : ℕ) → asked ≡ Some (a_volume pages) → old.contents content → IsOpen content → Whys answered →
      Answered old new (GetsOrFails Faulted already_line 14) answered
  volume_kept pages content answered is told opens =
      on_words (GetsOrFails Faulted already_line 14) answered (λ bytes status due. volume_kept_due pages content bytes status is told opens due) (λ run is'. run_or_volume asked run pages is' is)

  lacked_name_due : (run : RunOf) (bytes : List ℕ) (status : ℕ) → asked ≡ Some (a_run run) → lacks run.file → Dues bytes status →
      Gets (λ name. name ≡ run.file) may_fail failed ⊥ (unreadable_line run.file) 7 bytes status
  lacked_name_due run bytes status is lacking due = by_cases (λ bs n. Gets (λ name. name ≡ run.file) may_fail failed ⊥ (unreadable_line run.file) 7 bs n) run bytes status is record {
    memory = Gets.no_memory;
    unread = λ may rose. Gets.own;
    long = λ size gives. absurd (gives.there lacking);
    refused = λ text stage number line gives fault. absurd (gives.there lacking);
    no_input = λ program name g named may rose. absurd (g.gives.there lacking);
    long_input = λ program name size g named long. absurd (g.gives.there lacking);
    unattached = λ program input why g given none. absurd (g.gives.there lacking);
  } due

  pub lacked_name : (run : RunOf) (answered : ℕ) → asked ≡ Some (a_run run) → lacks run.file → Whys answered →
      Answered old new (Gets (λ name. name ≡ run.file) may_fail failed ⊥ (unreadable_line run.file) 7) answered
  lacked_name run answered is lacking =
      on_run run is (Gets (λ name. name ≡ run.file) may_fail failed ⊥ (unreadable_line run.file) 7) answered (λ bytes status due. lacked_name_due run bytes status is lacking due)
      (λ program input g given ran. g.gives.there lacking)

  module _ (run : RunOf) (text : List ℕ) (is : asked ≡ Some (a_run run)) (held : holds run.file text) where
    not_long : (size : ℕ) → length text ≤ LONGEST_TEXT → GivesTooLong (holds run.file) (lacks run.file) size → ⊥
    not_long size short gives = let e = gives.given text held in let long = gives.long in omega arith

    not_short : (other : List ℕ) → LONGEST_TEXT < length text → Gives (holds run.file) (lacks run.file) other → ⊥
    not_short other long gives = let e = ap length (gives.given text held) in let short = gives.short in omega arith

    -- the text that is given is this one, and no fault where it is a program
    no_refusal : (program : BodyNode) (other stage : List ℕ) (number : ℕ) (line : Line) → IsProgram text program → Gives (holds run.file) (lacks run.file) other → IsSourceFault other stage number line → ⊥
    no_refusal program other stage number line prog gives fault =
        no_fault text stage program number line prog (subst (λ (t : List ℕ). IsSourceFault t stage number line) (gives.given text held) fault)

    no_program : (program : BodyNode) (stage : List ℕ) (number : ℕ) (line : Line) → IsSourceFault text stage number line → GivesProgram holds lacks run program → ⊥
    no_program program stage number line fault g =
        no_fault text stage program number line (subst (λ (t : List ℕ). IsProgram t program) (g.gives.given text held) g.is) fault

    same_given : (program other : BodyNode) → IsProgram text program → GivesProgram holds lacks run other → other ≡ program
    same_given program other prog g = one_program text other program (subst (λ (t : List ℕ). IsProgram t other) (g.gives.given text held) g.is) prog

    first_fault_due : (stage : List ℕ) (number : ℕ) (line : Line) (bytes : List ℕ) (status : ℕ) → length text ≤ LONGEST_TEXT → IsSourceFault text stage number line → Dues bytes status →
        Gets (λ name. name ≡ run.file) may_fail failed ⊥ (fault_line run.file stage number line) 2 bytes status
    first_fault_due stage number line bytes status short fault due =
        by_cases (λ bs n. Gets (λ name. name ≡ run.file) may_fail failed ⊥ (fault_line run.file stage number line) 2 bs n) run bytes status is record {
          memory = Gets.no_memory;
          unread = λ may rose. Gets.unreadable refl may rose;
          long = λ size gives. absurd (not_long size short gives);
          refused = λ other stage' number' line' gives fault'.
              let one = one_source_fault text stage stage' number number' line line' fault (subst (λ (t : List ℕ). IsSourceFault t stage' number' line') (gives.given text held) fault') in
              own_at _ _ _ _ _ _ (same_line run.file stage stage' number number' line line' one) refl;
          no_input = λ program name g named may rose. absurd (no_program program stage number line fault g);
          long_input = λ program name size g named long. absurd (no_program program stage number line fault g);
          unattached = λ program input why g given none. absurd (no_program program stage number line fault g);
        } due

    pub first_fault_is_told : (stage : List ℕ) (number : ℕ) (line : Line) (answered : ℕ) → length text ≤ LONGEST_TEXT → IsSourceFault text stage number line → Whys answered →
        Answered old new (Gets (λ name. name ≡ run.file) may_fail failed ⊥ (fault_line run.file stage number line) 2) answered
    first_fault_is_told stage number line answered short fault =
        on_run run is (Gets (λ name. name ≡ run.file) may_fail failed ⊥ (fault_line run.file stage number line) 2) answered
        (λ bytes status due. first_fault_due stage number line bytes status short fault due) (λ program input g given ran. no_program program stage number line fault g)

    long_text_due : (bytes : List ℕ) (status : ℕ) → LONGEST_TEXT < length text → Dues bytes status →
        Gets (λ name. name ≡ run.file) may_fail failed ⊥ (too_long_line run.file (length text)) 13 bytes status
    long_text_due bytes status long due =
        by_cases (λ bs n. Gets (λ name. name ≡ run.file) may_fail failed ⊥ (too_long_line run.file (length text)) 13 bs n) run bytes status is record {
          memory = Gets.no_memory;
          unread = λ may rose. Gets.unreadable refl may rose;
          long = λ size gives. own_at _ _ _ _ _ _ (ap (λ (n : ℕ). too_long_line run.file n) (sym (gives.given text held))) refl;
          refused = λ other stage number line gives fault. absurd (not_short other long gives);
          no_input = λ program name g named may rose. absurd (not_short g.text long g.gives);
          long_input = λ program name size g named too_long. absurd (not_short g.text long g.gives);
          unattached = λ program input why g given none. absurd (not_short g.text long g.gives);
        } due

    pub long_text : (answered : ℕ) → LONGEST_TEXT < length text → Whys answered →
        Answered old new (Gets (λ name. name ≡ run.file) may_fail failed ⊥ (too_long_line run.file (length text)) 13) answered
    long_text answered long =
        on_run run is (Gets (λ name. name ≡ run.file) may_fail failed ⊥ (too_long_line run.file (length text)) 13) answered
        (λ bytes status due. long_text_due bytes status long due) (λ program input g given ran. not_short g.text long g.gives)

    module _ (program : BodyNode) (short : length text ≤ LONGEST_TEXT) (prog : IsProgram text program) where
      -- the input that is given is the one that is held
      same_input : (name : Option (List ℕ)) (input other : List ℕ) → HoldsInput holds name input → GivesInput holds lacks name other → other ≡ input
      same_input None input other one two = two ∙ sym one
      same_input (Some name) input other one two = two.given input one.0

      no_long_input : (name : Option (List ℕ)) (input given : List ℕ) (size : ℕ) → name ≡ Some given → HoldsInput holds name input → GivesTooLong (holds given) (lacks given) size → ⊥
      no_long_input name input given size named one long =
          let h = subst (λ (n : Option (List ℕ)). HoldsInput holds n input) named one in
          let few = h.1 in let many = long.long in let e = long.given input h.0 in omega arith

      program_due : (input content bytes : List ℕ) (status answered : ℕ) → HoldsInput holds run.input input → old.contents content → HasVolume content → Dues bytes status →
          Answers old new bytes status answered → GetsRun run input program may_fail failed old new answered
      program_due input content bytes status answered has told has_one due =
          by_cases (λ bs n. Answers old new bs n answered → GetsRun run input program may_fail failed old new answered) run bytes status is record {
            memory = λ answers. GetsRun.no_memory answers;
            unread = λ may rose answers. GetsRun.unreadable IsRead.text may rose answers;
            long = λ size gives. absurd (not_long size short gives);
            refused = λ other stage number line gives fault. absurd (no_refusal program other stage number line prog gives fault);
            no_input = λ other name g named may rose answers. GetsRun.unreadable (IsRead.input named) may rose answers;
            long_input = λ other name size g named long. absurd (no_long_input run.input input name size named has long);
            unattached = λ other read why g given none answers. over_a_volume run input program why answered none content told has_one answers;
          } due

      -- it is run with this input
      own_run : (input : List ℕ) (answered : ℕ) → HoldsInput holds run.input input → (r : RunOf) (other : BodyNode) (read : List ℕ) → r ≡ run → GivesProgram holds lacks r other →
          GivesInput holds lacks r.input read → Ran r read other old new answered → Ran run input program old new answered
      own_run input answered has r other read same g given ran =
          let g' = subst (λ (x : RunOf). GivesProgram holds lacks x other) same g in
          let given' = subst (λ (x : RunOf). GivesInput holds lacks x.input read) same given in
          let ran' = subst (λ (x : RunOf). Ran x read other old new answered) same ran in
          subst (λ (p : BodyNode). Ran run input p old new answered) (same_given program other prog g')
          (subst (λ (i : List ℕ). Ran run i other old new answered) (same_input run.input input read has given') ran')

      pub program_is_run : (input content : List ℕ) (answered : ℕ) → HoldsInput holds run.input input → old.contents content → HasVolume content → Whys answered →
          GetsRun run input program may_fail failed old new answered
      program_is_run input content answered has told has_one (Why.by_words {bytes = bytes} {status = status} due answers left) =
          program_due input content bytes status answered has told has_one due answers
      program_is_run input content answered has told has_one (Why.by_run {run = r} {program = other} {input = read} is' g given ran) =
          GetsRun.own (own_run input answered has r other read (same_run asked r run is' is) g given ran)

      -- where no volume is told
      module _ (input content : List ℕ) (has : HoldsInput holds run.input input) (told : old.contents content) where
        not_over : (line : List ℕ) (number : ℕ) (bytes : List ℕ) (status : ℕ) → ((why : OpenFault) → IsWhyNone old new why → Gets (IsRead run) may_fail failed Faulted line number (line_of_cause why) (status_of_cause why))
            → (HasVolume content → ⊥) → Dues bytes status → Gets (IsRead run) may_fail failed Faulted line number bytes status
        not_over line number bytes status by none due = by_cases (λ bs n. Gets (IsRead run) may_fail failed Faulted line number bs n) run bytes status is record {
          memory = Gets.no_memory;
          unread = λ may rose. Gets.unreadable IsRead.text may rose;
          long = λ size gives. absurd (not_long size short gives);
          refused = λ other stage number line gives fault. absurd (no_refusal program other stage number line prog gives fault);
          no_input = λ other name g named may rose. Gets.unreadable (IsRead.input named) may rose;
          long_input = λ other name size g named long. absurd (no_long_input run.input input name size named has long);
          unattached = λ other read why g given is_why. by why is_why;
        } due

        no_volume_due : (size gate : ℕ) (bytes : List ℕ) (status : ℕ) → found_in content ≡ no_volume size gate → Dues bytes status →
            Gets (IsRead run) may_fail failed Faulted (not_a_volume_line size gate) 9 bytes status
        no_volume_due size gate bytes status found due =
            not_over (not_a_volume_line size gate) 9 bytes status (λ why none. over_none (IsRead run) why none content size gate told found)
            (λ has_one. a_volume_or_none (found_in content) _ _ _ size gate has_one.found found) due

        pub no_volume_refused : (size gate : ℕ) (answered : ℕ) → found_in content ≡ no_volume size gate → Whys answered →
            Answered old new (Gets (IsRead run) may_fail failed Faulted (not_a_volume_line size gate) 9) answered
        no_volume_refused size gate answered found =
            on_run run is (Gets (IsRead run) may_fail failed Faulted (not_a_volume_line size gate) 9) answered (λ bytes status due. no_volume_due size gate bytes status found due)
            (λ other read g given ran. let has_one = ran.found content told in a_volume_or_none (found_in content) _ _ _ size gate has_one.found found)

        damaged_due : (at number wanted : ℕ) (bytes : List ℕ) (status : ℕ) → found_in content ≡ damaged (damage at number wanted) → Dues bytes status →
            Gets (IsRead run) may_fail failed Faulted (damaged_line at number wanted) 10 bytes status
        damaged_due at number wanted bytes status found due =
            not_over (damaged_line at number wanted) 10 bytes status (λ why none. over_damaged (IsRead run) why none content at number wanted told found)
            (λ has_one. a_volume_or_damaged (found_in content) _ _ _ (damage at number wanted) has_one.found found) due

        pub damaged_refused : (at number wanted : ℕ) (answered : ℕ) → found_in content ≡ damaged (damage at number wanted) → Whys answered →
            Answered old new (Gets (IsRead run) may_fail failed Faulted (damaged_line at number wanted) 10) answered
        damaged_refused at number wanted answered found =
            on_run run is (Gets (IsRead run) may_fail failed Faulted (damaged_line at number wanted) 10) answered (λ bytes status due. damaged_due at number wanted bytes status found due)
            (λ other read g given ran. let has_one = ran.found content told in a_volume_or_damaged (found_in content) _ _ _ (damage at number wanted) has_one.found found)

      module _ (name : List ℕ) (named : run.input ≡ Some name) where
        same_name : (other : List ℕ) → run.input ≡ Some other → other ≡ name
        same_name other is' = same_some run.input other name is' named

        given_here : (input : List ℕ) → GivesInput holds lacks run.input input → Gives (holds name) (lacks name) input
        given_here input given = subst (λ (n : Option (List ℕ)). GivesInput holds lacks n input) named given

        lacked_input_due : (bytes : List ℕ) (status : ℕ) → lacks name → Dues bytes status → Gets (IsRead run) may_fail failed ⊥ (unreadable_line name) 7 bytes status
        lacked_input_due bytes status lacking due = by_cases (λ bs n. Gets (IsRead run) may_fail failed ⊥ (unreadable_line name) 7 bs n) run bytes status is record {
          memory = Gets.no_memory;
          unread = λ may rose. Gets.unreadable IsRead.text may rose;
          long = λ size gives. absurd (not_long size short gives);
          refused = λ other stage number line gives fault. absurd (no_refusal program other stage number line prog gives fault);
          no_input = λ other name' g named' may rose. Gets.unreadable (IsRead.input named') may rose;
          long_input = λ other name' size g named' long. absurd (long.there (subst lacks (sym (same_name name' named')) lacking));
          unattached = λ other read why g given none. absurd ((given_here read given).there lacking);
        } due

        pub lacked_input : (answered : ℕ) → lacks name → Whys answered → Answered old new (Gets (IsRead run) may_fail failed ⊥ (unreadable_line name) 7) answered
        lacked_input answered lacking =
            on_run run is (Gets (IsRead run) may_fail failed ⊥ (unreadable_line name) 7) answered (λ bytes status due. lacked_input_due bytes status lacking due)
            (λ other read g given ran. (given_here read given).there lacking)

        -- a text of this name that is too long isn't given, and its size is told
        not_given : (input other : List ℕ) → holds name input → LONGEST_TEXT < length input → Gives (holds name) (lacks name) other → ⊥
        not_given input other has long gives = let e = ap length (gives.given input has) in let few = gives.short in omega arith

        size_told : (input other : List ℕ) (size : ℕ) → holds name input → other ≡ name → GivesTooLong (holds other) (lacks other) size →
            too_long_line name (length input) ≡ too_long_line other size
        size_told input other size has same long =
            let here = subst (λ (n : List ℕ). GivesTooLong (holds n) (lacks n) size) same long in
            ap (λ (n : ℕ). too_long_line name n) (sym (here.given input has)) ∙ ap (λ (n : List ℕ). too_long_line n size) (sym same)

        long_input_due : (input bytes : List ℕ) (status : ℕ) → holds name input → LONGEST_TEXT < length input → Dues bytes status →
            Gets (IsRead run) may_fail failed ⊥ (too_long_line name (length input)) 13 bytes status
        long_input_due input bytes status has many due = by_cases (λ bs n. Gets (IsRead run) may_fail failed ⊥ (too_long_line name (length input)) 13 bs n) run bytes status is record {
          memory = Gets.no_memory;
          unread = λ may rose. Gets.unreadable IsRead.text may rose;
          long = λ size gives. absurd (not_long size short gives);
          refused = λ other stage number line gives fault. absurd (no_refusal program other stage number line prog gives fault);
          no_input = λ other name' g named' may rose. Gets.unreadable (IsRead.input named') may rose;
          long_input = λ other name' size g named' long. own_at _ _ _ _ _ _ (size_told input name' size has (same_name name' named') long) refl;
          unattached = λ other read why g given none. absurd (not_given input read has many (given_here read given));
        } due

        pub long_input : (input : List ℕ) (answered : ℕ) → holds name input → LONGEST_TEXT < length input → Whys answered →
            Answered old new (Gets (IsRead run) may_fail failed ⊥ (too_long_line name (length input)) 13) answered
        long_input input answered has many =
            on_run run is (Gets (IsRead run) may_fail failed ⊥ (too_long_line name (length input)) 13) answered
            (λ bytes status due. long_input_due input bytes status has many due) (λ other read g given ran. not_given input read has many (given_here read given))

-- What the count of the output's faults says of an answer.
pub counted_faults : (old new : Outside (List ℕ)) (due : List ℕ) (status answered : ℕ) → Answers old new due status answered → (old.output_faults ≤ new.output_faults) × (old.output_faults < new.output_faults → answered ≡ 8)
counted_faults old new due status answered (whole all) = let e = all.calm in (omega arith, λ rose. absurd (omega arith))
counted_faults old new due status answered (cut fails) = let le = fails.counts in (omega arith, λ rose. refl)
