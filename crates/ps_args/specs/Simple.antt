-- What `clap` reads of the words behind the volume, by a simple command of options and of words of its own.
use Rattle.std.specs.Prelude.{ℕ, true, List, [], ◌∷◌, Option, Some, None, codes, unwrap_or}
use Rattle.clap.specs.Words.{App, Kinds, Row, Rule, all_of, fault_of, first_of, matches_of, new_app, new_rule, with_rule}
use Rattle.clap.specs.declared.builder.action.ArgAction.TheVariants.{Append}
use Rattle.ps_args.specs.Words.{RunOf, area_given, pages_alone, run_with, turns_given}

-- the simple command of this name: all words that it is given are its own, and it has no help
abbrev pub bare : List ℕ → App
bare name = record (new_app name) { top = record (new_app name).top { no_binary_name = true; disable_help_flag = true } }

-- an option `--name VALUE`
abbrev pub an_option : List ℕ → Rule
an_option name = record (new_rule name) { long = Some name }

-- one word and more that are no option
abbrev pub some_words : List ℕ → Rule
some_words name = record (new_rule name) { action = Some Append; required = true }

-- `[--area KIB] [--turns N] [--input FILE] FILE..`
abbrev pub of_run : App
of_run = with_rule (with_rule (with_rule (with_rule (bare (codes "run")) (an_option (codes "area"))) (an_option (codes "turns"))) (an_option (codes "input"))) (some_words (codes "file"))

-- `PAGES`
abbrev pub of_format : App
of_format = with_rule (bare (codes "format")) (some_words (codes "pages"))

-- what `clap` reads, where its rule takes the words: no kind of fault comes
abbrev pub without_fault : Kinds → List Row → Option (List Row)
without_fault [] rows = Some rows
without_fault (kind ∷ kinds) rows = None

abbrev pub read_by : App → List (List ℕ) → Option (List Row)
read_by command words = without_fault (fault_of command words) (matches_of command words)

-- the run, and the pages, of what it read
abbrev pub run_read : List Row → Option RunOf
run_read rows =
    run_with (area_given (first_of (codes "area") rows)) (turns_given (first_of (codes "turns") rows)) (first_of (codes "input") rows) (unwrap_or (all_of (codes "file") rows) [])

abbrev pub pages_read : List Row → Option ℕ
pages_read rows = pages_alone (unwrap_or (all_of (codes "pages") rows) [])
