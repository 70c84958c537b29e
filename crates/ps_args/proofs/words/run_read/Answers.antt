use Rattle.std.proofs.Common.{◌≡◌, ◌∙◌, ap, codes, [], subst, unwrap_or}
use Rattle.clap.specs.Words.{first_of, found_of}
use Rattle.clap.proofs.WalkLemmas.{raw_values-rows}
use Rattle.ps_args.specs.Words.{area_given, run_with, turns_given}
use Rattle.ps_args.specs.Reading.{ReadsAs, rows_in, run_in}
use Rattle.ps_args.proofs.words.run_read.Goals as goal

pub returns-in-Some-clause-run : goal.returns-in-Some-clause-run
returns-in-Some-clause-run c =
    let rows = rows_in c.args.matches.now in
    let area_is : c.read_area-area.result ≡ area_given (first_of (codes "area") rows) = c.read_area-area.ensures.area ∙ ap area_given c.value.ensures in
    let turns_is : c.read_turns-turns.result ≡ turns_given (first_of (codes "turns") rows) = c.read_turns-turns.ensures ∙ ap turns_given c.value-2.ensures in
    let files_are = c.in-Some.ensures ∙ raw_values-rows (found_of c.args.matches.now) (codes "file") in
    subst (λ asked. ReadsAs run_in asked c.run_with.result)
    (λ i. run_with (area_is i) (turns_is i) (c.value-input.ensures i) (unwrap_or (files_are i) [])) c.run_with.ensures.run

pub returns-in-None-clause-run : goal.returns-in-None-clause-run
returns-in-None-clause-run c =
    let rows = rows_in c.args.matches.now in
    let area_is : c.read_area-area.result ≡ area_given (first_of (codes "area") rows) = c.read_area-area.ensures.area ∙ ap area_given c.value.ensures in
    let turns_is : c.read_turns-turns.result ≡ turns_given (first_of (codes "turns") rows) = c.read_turns-turns.ensures ∙ ap turns_given c.value-2.ensures in
    let files_are = c.in-None.ensures ∙ raw_values-rows (found_of c.args.matches.now) (codes "file") in
    subst (λ asked. ReadsAs run_in asked c.run_with-in-None.result)
    (λ i. run_with (area_is i) (turns_is i) (c.value-input.ensures i) (unwrap_or (files_are i) [])) c.run_with-in-None.ensures.run
