use Rattle.std.proofs.Common.{ℕ, List, drop, ◌∙◌, ap, arith, length-drop}
use Rattle.std.proofs.lemmas.List.{take_all}
use Rattle.ps_port.specs.Disk.{written}
use Rattle.std.proofs.lemmas.Result.{on_ok_weaker}
use Rattle.ps_port.proofs.of_ps_outside.Moments.{along_then, along_weaker, along_now}
use Rattle.volume_parts.proofs.Gate.{shut_stays}
use Rattle.paged_volume.proofs.New.{begun_by}
use Rattle.paged_volume.proofs.making.fill.Goals as goal

pub returns-in_err-blank_pages-clause-any_moment : goal.returns-in_err-blank_pages-clause-any_moment
returns-in_err-blank_pages-clause-any_moment g c =
    along_then (along_weaker c.write_at.ensures.images (λ image after. shut_stays 1 _ after.from image (omega arith) (c.requires.shut after.from after.was) after.by)) c.blank_pages.ensures.any_moment (λ image shut. shut)

pub returns-clause-any_moment : goal.returns-clause-any_moment
returns-clause-any_moment g c =
    let filled = along_then (along_weaker c.write_at.ensures.images (λ image after. shut_stays 1 _ after.from image (omega arith) (c.requires.shut after.from after.was) after.by)) c.blank_pages.ensures.any_moment (λ image shut. shut) in
    along_then filled c.sync.ensures.images (along_now filled)

pub returns-clause-begun : goal.returns-clause-begun
returns-clause-begun g c = on_ok_weaker c.sync.result (λ durable image now.
    let zeroed = c.in_ok-blank_pages.ensures.zeroed image (c.sync.ensures.contents.no_other image (durable image now)) in
    let after = c.in_ok-write_at.ensures.contents zeroed.from zeroed.was in
    let by = after.by in
    begun_by c.args.pages c.front-front.result after.from zeroed.from image (c.requires.shut after.from (g.met.H.Host.is_image c.args.host.now after.from after.was)) c.front-front.ensures.stand c.front-front.ensures.size
    (by ∙ ap (λ (xs : List ℕ). written 1 xs after.from) (take_all 24575 (drop 1 c.front-front.result) (omega (arith, length-drop 1 c.front-front.result, c.front-front.ensures.size)))) zeroed.by) c.sync.ensures.durable
