use Rattle.ps_args.specs.Simple.{of_run, read_by, run_read}
use Rattle.ps_args.specs.Words.{run_of, words_of}
use Rattle.ps_args.specs.Reading.{rows_in, run_in}
use Rattle.ps_args.proofs.GivenReads.{are_utf8, run_is}
use Rattle.ps_args.proofs.ReadLemmas.{made_of_none, made_of_read}
use Rattle.ps_args.proofs.words.read_run.Goals as goal

pub returns-in-Ok-clause-run : goal.returns-in-Ok-clause-run
returns-in-Ok-clause-run c =
    let words = words_of c.args.words.now in
    made_of_read run_in run_read (run_of words) (read_by of_run words) (run_is words (are_utf8 c.args.words.now)) (rows_in c.in-Ok.matches) c.run_read.result c.in-Ok.ensures c.run_read.ensures.run

pub returns-in-Err-clause-run : goal.returns-in-Err-clause-run
returns-in-Err-clause-run c =
    let words = words_of c.args.words.now in
    made_of_none run_in run_read (run_of words) (read_by of_run words) (run_is words (are_utf8 c.args.words.now)) c.in-Err.fault c.in-Err.ensures
