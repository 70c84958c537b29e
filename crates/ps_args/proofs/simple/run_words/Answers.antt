use Rattle.std.proofs.Common.{ap₂, codes, ◌≡◌, ◌∙◌}
use Rattle.std.proofs.lemmas.Result.{IfOk-weaker}
use Rattle.clap.specs.Words.{app_of, with_rule}
use Rattle.ps_args.specs.Simple.{an_option, bare}
use Rattle.ps_args.proofs.simple.run_words.Goals as goal

pub returns : goal.returns
returns c =
    let one_is : app_of c.in_ok-arg.field-0 ≡ with_rule (bare (codes "run")) (an_option (codes "area")) =
    c.in_ok-arg.ensures.shape c.option-area.ensures.local ∙ ap₂ with_rule c.bare_command.ensures c.option-area.ensures.rule in
    let two_is = c.in_ok-arg-2.ensures.shape c.option-turns.ensures.local ∙ ap₂ with_rule one_is c.option-turns.ensures.rule in
    let three_is = c.in_ok-arg-3.ensures.shape c.option-input.ensures.local ∙ ap₂ with_rule two_is c.option-input.ensures.rule in
    IfOk-weaker c.arg-4.result _ _ (λ command added. added.shape c.some_words-files.ensures.local ∙ ap₂ with_rule three_is c.some_words-files.ensures.rule) c.arg-4.ensures
