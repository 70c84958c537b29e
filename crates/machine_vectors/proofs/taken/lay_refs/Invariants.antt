-- What the words before the next one name was laid out.
use Rattle.std.proofs.Common.{◌≡◌, map, take, vec_capacity}
use Rattle.machine_vectors.specs.inside.Taking.{named}
use Rattle.machine_vectors.proofs.taken.lay_refs.Given as goal

abbrev pub invariant-loop-word : goal.invariant-loop-word
invariant-loop-word l = record {
  laid : l.values.items ≡ map named (take l.word-index l.words);
  room : vec_capacity l.values ≡ vec_capacity l.initial.values;
}
