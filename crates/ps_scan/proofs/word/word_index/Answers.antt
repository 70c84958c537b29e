use Rattle.std.proofs.Common.{refl}
use Rattle.ps_scan.specs.Names.{reserved_words, word_place}
use Rattle.ps_scan.proofs.Named.{found_is, found_within}
use Rattle.ps_scan.proofs.word.word_index.Goals as goal

pub returns-clause-place : goal.returns-clause-place
returns-clause-place c = found_is reserved_words c.args.name.now c.find_name.result (word_place c.args.name.now) refl (rw c.words.ensures.names at c.find_name.ensures.found) (rw c.words.ensures.names at c.find_name.ensures.only) refl

pub returns-clause-small : goal.returns-clause-small
returns-clause-small c = found_within reserved_words c.args.name.now c.find_name.result (rw c.words.ensures.names at c.find_name.ensures.found)
