use Rattle.std.proofs.Common.{◌≡◌, true, false}
use Rattle.obj_store.specs.Words.{IsPut, Differs}
use Rattle.obj_store.proofs.words.put_words.Given as goal

-- the words so far were put, and one of them changed where it is said
abbrev pub invariant-loop-index : goal.invariant-loop-index
invariant-loop-index l = record {
  put : IsPut l.fn.first l.low l.index l.fn.at l.fn.from l.fn.page l.page;
  same : l.changes ≡ false → l.page ≡ l.fn.page;
  differs : l.changes ≡ true → Differs l.fn.first l.low l.index l.fn.at l.fn.from l.fn.page;
}
