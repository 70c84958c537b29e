-- What is written so far is that of the bytes so far.
use Rattle.std.proofs.Common.{◌≡◌, ◌++◌, take}
use Rattle.std.specs.Prelude.{flat_map}
use Rattle.ps_layout.specs.Spellings.{escaped_byte}
use Rattle.ps_lexemes.proofs.writer.write_escaped.Given as goal

abbrev pub invariant-loop-byte : goal.invariant-loop-byte
invariant-loop-byte l = l.text.items ≡ l.initial.text.items ++ flat_map escaped_byte (take l.byte-index l.bytes)
