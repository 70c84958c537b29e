-- The report lines of what ends a command but for the ends of a program.
use Rattle.std.specs.Prelude.{ℕ, List, ◌++◌, codes, decimal}
use Rattle.ps_base.specs.Limits.{most_text_bytes}
use Rattle.ps_base.specs.declared.line.Line.{Line}

abbrev pub usage_line : List ℕ
usage_line = codes "usage: psalgol COMMAND VOLUME WORDS\n"

abbrev pub memory_line : List ℕ
memory_line = codes "out of memory\n"

abbrev pub unreadable_line : List ℕ → List ℕ
unreadable_line file = codes "cannot read " ++ (file ++ codes "\n")

abbrev pub too_long_line : List ℕ → ℕ → List ℕ
too_long_line file length = file ++ (codes ": " ++ (decimal length ++ (codes " bytes, at most " ++ (decimal most_text_bytes ++ codes "\n"))))

-- the stage that found the fault is `scan`, `parse` or `check`
abbrev pub fault_line : List ℕ → List ℕ → ℕ → Line → List ℕ
fault_line file stage number line = file ++ (codes ": " ++ (stage ++ (codes " " ++ (decimal number ++ (codes " at line " ++ (decimal line.0 ++ codes "\n"))))))

-- the next word of the area and the words of the object that is made next are together more than its size
abbrev pub area_full_line : ℕ → ℕ → ℕ → List ℕ
area_full_line top wanted size = codes "area full: " ++ (decimal top ++ (codes " + " ++ (decimal wanted ++ (codes " > " ++ (decimal size ++ codes " words\n")))))

-- the used words of the volume and the words of the object that is stored next are together more than it can have
abbrev pub volume_full_line : ℕ → ℕ → ℕ → List ℕ
volume_full_line used wanted capacity =
    codes "volume full: " ++ (decimal used ++ (codes " + " ++ (decimal wanted ++ (codes " > " ++ (decimal capacity ++ codes " words\n")))))

abbrev pub device_line : List ℕ
device_line = codes "device fault\n"

-- how many bytes the file has, and its byte 0
abbrev pub not_a_volume_line : ℕ → ℕ → List ℕ
not_a_volume_line size gate = codes "not a volume: " ++ (decimal size ++ (codes " bytes, gate " ++ (decimal gate ++ codes "\n")))

-- the place of the number that failed its test, the number, and its bound
abbrev pub damaged_line : ℕ → ℕ → ℕ → List ℕ
damaged_line at found wanted = codes "damaged at " ++ (decimal at ++ (codes ": found " ++ (decimal found ++ (codes ", wanted " ++ (decimal wanted ++ codes "\n")))))

abbrev pub already_line : List ℕ
already_line = codes "already a volume\n"
