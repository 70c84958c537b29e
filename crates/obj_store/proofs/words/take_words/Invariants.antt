use Rattle.obj_store.specs.Words.{IsRead}
use Rattle.obj_store.proofs.words.take_words.Given as goal

-- the words so far were read
abbrev pub invariant-loop-index : goal.invariant-loop-index
invariant-loop-index l = IsRead l.fn.page l.fn.first l.low l.index l.fn.at l.fn.into l.into
