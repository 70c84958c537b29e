-- References, and the words that spell them.
use Rattle.std.specs.Prelude.{ℕ, ◌+◌, ◌-◌, ◌^◌, ◌<◌, ◌≤◌, Option, Some, None, ◌==◌, nat_lt, if◌then◌else◌}
use Rattle.obj_layout.specs.declared.reference.Reference.{Reference}
use Rattle.obj_layout.specs.declared.reference.Reference.TheVariants.{Nil, Pid, Local}

-- a reference that the layout allows
abbrev pub IsReference : Reference → Type 0
IsReference Nil = Unit {0}
IsReference (Pid pid) = (1 ≤ pid) × (pid < 2 ^ 63)
IsReference (Local at) = (1 ≤ at) × (at < 2 ^ 32)

-- the word that spells a reference: a PID below a set top bit, or an index
abbrev pub reference_word : Reference → ℕ
reference_word Nil = 0
reference_word (Pid pid) = 2 ^ 63 + pid
reference_word (Local at) = at

-- the reference that a word spells
abbrev pub reference_in : ℕ → Option Reference
reference_in word =
    if word == 0 then Some Nil else
    if nat_lt word (2 ^ 32) then Some (Local word) else
    if nat_lt word (2 ^ 63) then None else Some (Pid (word - 2 ^ 63))
