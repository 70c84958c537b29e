use Rattle.std.proofs.Common.{◌∙◌, ℕ, ap, codes, [], subst, unwrap_or}
use Rattle.clap.specs.Words.{found_of}
use Rattle.clap.proofs.WalkLemmas.{raw_values-rows}
use Rattle.ps_args.specs.Words.{pages_alone}
use Rattle.ps_args.specs.Reading.{ReadsAs}
use Rattle.ps_args.proofs.words.pages_read.Goals as goal

pub returns-in-Some-clause-pages : goal.returns-in-Some-clause-pages
returns-in-Some-clause-pages c =
    let words_are = c.in-Some.ensures ∙ raw_values-rows (found_of c.args.matches.now) (codes "pages") in
    subst (λ asked. ReadsAs (λ (pages : ℕ). pages) asked c.pages_alone.result) (ap (λ words. pages_alone (unwrap_or words [])) words_are) c.pages_alone.ensures.pages

pub returns-in-None-clause-pages : goal.returns-in-None-clause-pages
returns-in-None-clause-pages c =
    let words_are = c.in-None.ensures ∙ raw_values-rows (found_of c.args.matches.now) (codes "pages") in
    subst (λ asked. ReadsAs (λ (pages : ℕ). pages) asked c.pages_alone-in-None.result) (ap (λ words. pages_alone (unwrap_or words [])) words_are) c.pages_alone-in-None.ensures.pages
