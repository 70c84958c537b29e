-- Lines of an input.
use Rattle.std.proofs.Common.{◌≡◌, refl, true, false, []}
use Rattle.std.specs.Prelude.{codes, replicate}
use Rattle.ps_base.specs.declared.trap.Trap.TheVariants as trap
use Rattle.ps_heap.specs.Texts.{Yields, Fails, line_of, behind_line, line_read, is_at_end}

-- a line ends before its newline, which is passed over with it
first_line : line_read (codes "ab\nc") ≡ Yields (codes "ab")
unfolding line_read line_of
first_line = refl

line_behind : behind_line (codes "ab\nc") ≡ codes "c"
unfolding behind_line
line_behind = refl

-- the last line may have no newline; an input that is at its end has no line
last_line : line_read (codes "c") ≡ Yields (codes "c")
unfolding line_read line_of
last_line = refl

no_line : line_read [] ≡ Fails trap.NoInput
unfolding line_read
no_line = refl

one_byte_is_left : is_at_end (codes "c") ≡ false
one_byte_is_left = refl

nothing_is_left : is_at_end [] ≡ true
nothing_is_left = refl

-- a line that is longer than a string may be
long_line : line_read (replicate 65536 42) ≡ Fails trap.TooLong
unfolding line_read line_of
long_line = refl

longest_line : line_read (replicate 65535 42) ≡ Yields (replicate 65535 42)
unfolding line_read line_of
longest_line = refl
