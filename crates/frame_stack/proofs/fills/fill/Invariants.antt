use Rattle.std.proofs.Common.{◌≡◌, ◌+◌, ◌++◌, replicate, vec_len, vec_capacity}
use Rattle.frame_stack.proofs.fills.fill.Given as goal

-- so many blanks were put
abbrev pub invariant-loop : goal.invariant-loop
invariant-loop g l = record {
  items : l.words.items ≡ l.initial.words.items ++ replicate l.counter l.blank;
  long : vec_len l.words ≡ vec_len l.initial.words + l.counter;
  room : vec_capacity l.words ≡ vec_capacity l.initial.words;
}
