-- What is read of words in code.
use Rattle.std.specs.Prelude.{◌≡◌, ◌≤◌, List, Option, Some, None, Result, Ok, Err, map, option_map, ⊤}
use Rattle.clap.specs.Words.{Row, found_of, rows_of}
use Rattle.clap.specs.declared.parser.matches.ArgMatches.{ArgMatches}
use Rattle.ps_args.specs.Words.{RunOf, CommandOf, a_run, a_text, a_volume}
use Rattle.ps_args.specs.declared.words.ArgsFault.{ArgsFault}
use Rattle.ps_args.specs.declared.words.ArgsFault.TheVariants.{Usage, Memory}
use Rattle.ps_args.specs.declared.words.Command.{Command}
use Rattle.ps_args.specs.declared.words.Command.TheVariants.{Run, Format, Tell}
use Rattle.ps_args.specs.declared.words.RunWords.{RunWords}

-- the run that the words in code stand for
abbrev pub run_in : RunWords → RunOf
run_in run = record { area = run.area_kib; turns = run.turns; input = option_map (λ name. name.now) run.input; file = run.file.now; further = map (λ name. name.now) run.further.items }

-- and so the command
abbrev pub command_in : Command → CommandOf
command_in (Run run) = a_run (run_in run)
command_in (Format pages) = a_volume pages
command_in (Tell text) = a_text text.now

-- what was read is what is meant, in this sense of code; or there was no memory
abbrev pub ReadsAs : {A B : Type 0} → (A → B) → Option B → Result A ArgsFault → Type 0
ReadsAs meant asked (Ok read) = asked ≡ Some (meant read)
ReadsAs meant asked (Err Usage) = asked ≡ None
ReadsAs meant asked (Err Memory) = ⊤

-- the entries of what `clap` read
abbrev pub rows_in : ArgMatches → List Row
rows_in matches = rows_of (found_of matches)

-- the area of a run has its words
pub record IsArea (run : RunOf) : Type 0 where
  pub some : 1 ≤ run.area
  pub few : run.area ≤ 262144

-- the numbers of a command are in their bounds
abbrev pub IsWithin : CommandOf → Type 0
IsWithin (a_run run) = IsArea run
IsWithin (a_volume pages) = (32 ≤ pages) × (pages ≤ 1048576)
IsWithin (a_text text) = ⊤
