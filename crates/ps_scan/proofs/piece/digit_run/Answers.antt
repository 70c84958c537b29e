use Rattle.std.proofs.Common.{◌∙◌, ap, take}
use Rattle.std.specs.Char.{is_ascii_digit}
use Rattle.ps_scan.proofs.Runs.{run_passes}
use Rattle.ps_scan.proofs.piece.digit_run.Goals as goal

pub returns-clause-digits : goal.returns-clause-digits
returns-clause-digits c =
    run_passes is_ascii_digit c.args.rest.now _ (c.split_at.ensures.front ∙ ap (λ n. take n c.args.rest.now) c.digits_length.ensures.length)
