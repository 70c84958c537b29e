-- Which words are a command: the table of commands.
use Rattle.std.specs.Prelude.{ℕ, ◌^◌, Bool, true, not, ◌&&◌, ◌||◌, List, [], ◌∷◌, length, map, Option, Some, None, option_map, option_and_then, String, string_bytes, nat_eq, nat_le, codes, if◌then◌else◌}
use Rattle.std.specs.declared.alloc.Global.{Global}
use Rattle.std.specs.List.{list_all}
use Rattle.std.specs.Char.{is_ascii_digit}
use Rattle.std.specs.Str.{bytes_eq}
use Rattle.ps_scan.specs.Class.{decimal}
use Rattle.ps_args.specs.Given.{Given, given, nothing_given, value_of}
use Rattle.ps_args.specs.declared.help.TheConstants.{FORMAT_HELP, HELP, RUN_HELP, VERSION}

abbrev pub words_of : List (String Global) → List (List ℕ)
words_of words = map (λ word. string_bytes word) words

-- ---- a run

-- a run: the KiB that its area has, the turns that each program may take, the name of its input, where it has one, that of its first text, and those of
-- the texts behind it
pub record RunOf : Type 0 where
  pub area : ℕ
  pub turns : ℕ
  pub input : Option (List ℕ)
  pub file : List ℕ
  pub further : List (List ℕ)

-- 1 to so many digits, and a value from the least to the most
abbrev pub number_of : ℕ → ℕ → ℕ → List ℕ → Option ℕ
number_of longest least most digits =
    if (nat_le 1 (length digits) && nat_le (length digits) longest) && (list_all is_ascii_digit digits && (nat_le least (decimal digits) && nat_le (decimal digits) most))
    then Some (decimal digits) else None

-- 1 to 6 digits, from 1 to 262,144 KiB
abbrev pub area_of : List ℕ → Option ℕ
area_of digits = number_of 6 1 262144 digits

-- 1 to 13 digits, at most 1,000,000,000,000
abbrev pub turns_of : List ℕ → Option ℕ
turns_of digits = number_of 13 0 (10 ^ 12) digits

-- where the words don't say
abbrev pub default_area : ℕ
default_area = 16384

abbrev pub default_turns : ℕ
default_turns = 10 ^ 8

abbrev pub area_given : Option (List ℕ) → Option ℕ
area_given None = Some default_area
area_given (Some digits) = area_of digits

abbrev pub turns_given : Option (List ℕ) → Option ℕ
turns_given None = Some default_turns
turns_given (Some digits) = turns_of digits

-- a word that doesn't begin with `-`, as a volume's
abbrev pub is_plain : List ℕ → Bool
is_plain [] = true
is_plain (byte ∷ bytes) = not (nat_eq byte 45)

-- the most texts that a run has
abbrev pub most_files : ℕ
most_files = 64

-- a word that begins with `-` is an option's, but for `-` alone: no name of a text
abbrev pub is_name : List ℕ → Bool
is_name word = is_plain word || bytes_eq word (codes "-")

abbrev pub are_names : Option (List ℕ) → List (List ℕ) → Bool
are_names None files = list_all is_name files
are_names (Some input) files = is_name input && list_all is_name files

abbrev pub run_with : Option ℕ → Option ℕ → Option (List ℕ) → List (List ℕ) → Option RunOf
run_with None turns input files = None
run_with (Some area) None input files = None
run_with (Some area) (Some turns) input [] = None
run_with (Some area) (Some turns) input (file ∷ further) =
    if nat_le (length (file ∷ further)) most_files && are_names input (file ∷ further)
    then Some (record { area = area; turns = turns; input = input; file = file; further = further }) else None

abbrev pub run_given : Given → Option RunOf
run_given so_far = run_with (area_given (value_of (codes "area") so_far)) (turns_given (value_of (codes "turns") so_far)) (value_of (codes "input") so_far) so_far.own

-- behind the volume: `[--area KIB] [--turns N] [--input FILE] FILE..`
abbrev pub run_options : List (List ℕ)
run_options = codes "area" ∷ codes "turns" ∷ codes "input" ∷ []

abbrev pub run_of : List (List ℕ) → Option RunOf
run_of words = option_and_then run_given (given run_options words None nothing_given)

-- ---- a new volume

-- its pages: 1 to 7 digits, from 32 to 1,048,576
abbrev pub pages_of : List ℕ → Option ℕ
pages_of digits = number_of 7 32 1048576 digits

abbrev pub pages_alone : List (List ℕ) → Option ℕ
pages_alone [] = None
pages_alone (digits ∷ []) = pages_of digits
pages_alone (digits ∷ word ∷ words) = None

-- behind the volume: `PAGES`
abbrev pub pages_given : List (List ℕ) → Option ℕ
pages_given words = option_and_then (λ so_far. pages_alone so_far.own) (given [] words None nothing_given)

-- ---- the table of commands

-- what words ask for: a run, a new volume of so many pages, or a text that tells of the program
pub data CommandOf : Type 0 where
  a_run : (run : RunOf) → CommandOf
  a_volume : (pages : ℕ) → CommandOf
  a_text : (text : List ℕ) → CommandOf

-- the commands that there are: the one of this name, of the words behind the volume
abbrev pub command_named : List ℕ → List (List ℕ) → Option CommandOf
command_named name words =
    if bytes_eq name (codes "run") then option_map a_run (run_of words)
    else (if bytes_eq name (codes "format") then option_map a_volume (pages_given words) else None)

-- what the program tells of the command of this name
abbrev pub help_of : List ℕ → Option CommandOf
help_of name =
    if bytes_eq name (codes "run") then Some (a_text RUN_HELP.now)
    else (if bytes_eq name (codes "format") then Some (a_text FORMAT_HELP.now) else None)

-- a word alone asks for a text: `--help`, `help` or `--version`
abbrev pub text_named : List ℕ → Option CommandOf
text_named word =
    if bytes_eq word (codes "--help") then Some (a_text HELP.now)
    else (if bytes_eq word (codes "help") then Some (a_text HELP.now)
    else (if bytes_eq word (codes "--version") then Some (a_text VERSION.now) else None))

-- a command with `--help` behind it alone, in the place of the volume
abbrev pub help_behind : List ℕ → List ℕ → List (List ℕ) → Option CommandOf
help_behind name word [] = if bytes_eq word (codes "--help") then help_of name else None
help_behind name word (further ∷ words) = None

-- the command, its volume, and the words behind
abbrev pub command_of : List (List ℕ) → Option CommandOf
command_of [] = None
command_of (word ∷ []) = text_named word
command_of (name ∷ volume ∷ words) = if is_plain volume then command_named name words else help_behind name volume words
