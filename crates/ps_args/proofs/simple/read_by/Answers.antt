use Rattle.clap.proofs.WalkLemmas.{both}
use Rattle.clap.specs.Words.{app_of, is_simple}
use Rattle.clap.specs.Faults.{is_free_app}
use Rattle.clap.specs.Words.{built}
use Rattle.ps_args.specs.Words.{words_of}
use Rattle.ps_args.specs.Reading.{rows_in}
use Rattle.ps_args.proofs.ReadLemmas.{read_failed, read_whole}
use Rattle.ps_args.proofs.simple.read_by.Goals as goal

pub returns-in-Ok : goal.returns-in-Ok
returns-in-Ok c =
    let command = app_of c.args.command in
    read_whole command (words_of c.args.words.now) (rows_in c.in-Ok.matches) (c.in-Ok.ensures.kinds c.requires)
    (c.in-Ok.ensures.matches (both (is_simple command) (is_free_app (built command)) c.requires).0).0

pub returns-in-Err : goal.returns-in-Err
returns-in-Err c =
    read_failed (app_of c.args.command) (words_of c.args.words.now) c.in-Err.error c.cause.result (c.in-Err.ensures.kinds c.requires) c.cause.ensures.refused
