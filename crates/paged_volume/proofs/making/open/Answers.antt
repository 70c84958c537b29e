use Rattle.std.proofs.Common.{ℕ, [], ◌∷◌, List, ◌∙◌, ap, subst, sym, arith}
use Rattle.std.proofs.lemmas.Result.{on_ok_weaker}
use Rattle.ps_port.proofs.of_ps_outside.Moments.{along_then, along_weaker, along_now}
use Rattle.ps_port.specs.Disk.{written}
use Rattle.ps_port.specs.DiskLaws.{written_torn}
use Rattle.ps_port.proofs.Torn.{byte_written}
use Rattle.volume_parts.specs.Layout.{gate}
use Rattle.paged_volume.specs.Making.{IsNew}
use Rattle.paged_volume.proofs.New.{new_torn}
use Rattle.paged_volume.proofs.making.open.Goals as goal

pub returns-in_err-write_at-clause-any_moment : goal.returns-in_err-write_at-clause-any_moment
returns-in_err-write_at-clause-any_moment g c =
    along_weaker c.write_at.ensures.images (λ image after. new_torn c.args.pages after.from image (c.requires.begun after.from after.was).is_new after.by)

pub returns-clause-any_moment : goal.returns-clause-any_moment
returns-clause-any_moment g c =
    let torn = along_weaker c.write_at.ensures.images (λ image after. new_torn c.args.pages after.from image (c.requires.begun after.from after.was).is_new after.by) in
    along_then torn c.sync.ensures.images (along_now torn)

pub returns-clause-made : goal.returns-clause-made
returns-clause-made g c = on_ok_weaker c.sync.result (λ durable bytes now.
    let o = g.H.Host.outside in
    let after = c.in_ok-write_at.ensures.contents bytes (c.sync.ensures.contents.no_other bytes now) in
    let begun = c.requires.begun after.from (g.met.H.Host.is_image c.args.host.now after.from after.was) in
    let is = new_torn c.args.pages after.from (written 0 (1 ∷ []) after.from) begun.is_new (written_torn 0 (1 ∷ []) after.from) in (
      subst (λ (xs : List ℕ). IsNew c.args.pages xs) (sym after.by) is,
      ap gate after.by ∙ byte_written 0 1 after.from (omega arith),
    )) c.sync.ensures.durable
