use Rattle.std.proofs.Common.{ℕ}
use Rattle.ps_args.specs.Simple.{of_format, pages_read, read_by}
use Rattle.ps_args.specs.Words.{pages_given, words_of}
use Rattle.ps_args.specs.Reading.{rows_in}
use Rattle.ps_args.proofs.GivenReads.{are_utf8, pages_are}
use Rattle.ps_args.proofs.ReadLemmas.{made_of_none, made_of_read}
use Rattle.ps_args.proofs.words.read_pages.Goals as goal

pub returns-in-Ok-clause-pages : goal.returns-in-Ok-clause-pages
returns-in-Ok-clause-pages c =
    let words = words_of c.args.words.now in
    made_of_read (λ (pages : ℕ). pages) pages_read (pages_given words) (read_by of_format words) (pages_are words (are_utf8 c.args.words.now)) (rows_in c.in-Ok.matches) c.pages_read.result
    c.in-Ok.ensures c.pages_read.ensures.pages

pub returns-in-Err-clause-pages : goal.returns-in-Err-clause-pages
returns-in-Err-clause-pages c =
    let words = words_of c.args.words.now in
    made_of_none {A = ℕ} (λ (pages : ℕ). pages) pages_read (pages_given words) (read_by of_format words) (pages_are words (are_utf8 c.args.words.now)) c.in-Err.fault c.in-Err.ensures
