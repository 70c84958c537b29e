-- The words that ints and bools are stored as.
use Rattle.std.specs.Prelude.{ℕ, ◌-◌, ◌^◌, ◌==◌, ℤ, pos, negsuc, Bool, true, false, nat_lt, if◌then◌else◌, Option, Some, None}
use Rattle.heap_texts.specs.obj_layout.Stored.{Damage, damage}
use Rattle.heap_texts.specs.text_forms.declared.forms.Form.{Form}
use Rattle.heap_texts.specs.text_forms.declared.forms.Form.TheVariants.{Number, Flag, Reference}

-- an int in two's complement of 64 bits
unfoldable pub int_word : ℤ → ℕ
int_word (pos n) = n
int_word (negsuc n) = 2 ^ 64 - 1 - n

-- the int that a word stands for, where it does for one
unfoldable pub int_in : ℕ → Option ℤ
int_in word =
    if nat_lt word (2 ^ 31) then Some (pos word) else
    if nat_lt word (2 ^ 64 - 2 ^ 31) then None else Some (negsuc (2 ^ 64 - 1 - word))

abbrev pub flag_word : Bool → ℕ
flag_word true = 1
flag_word false = 0

-- the bool that a word stands for, where it does for one
unfoldable pub flag_in : ℕ → Option Bool
flag_in word = if word == 0 then Some false else (if word == 1 then Some true else None)

abbrev pub unless : {A : Type 0} → Option A → Option Damage → Option Damage
unless (Some a) damaged = None
unless None damaged = damaged

-- Why a word isn't of a form: an int's is below 2^31, or at least 2^64 - 2^31; a bool's is below 2.
unfoldable pub word_damage : Form → ℕ → Option Damage
word_damage Number word = unless (int_in word) (damage word (2 ^ 31))
word_damage Flag word = unless (flag_in word) (damage word 2)
word_damage Reference word = None
