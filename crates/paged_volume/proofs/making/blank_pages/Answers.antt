use Rattle.std.proofs.Common.{ℕ, replicate, ◌∙◌, refl, arith}
use Rattle.ps_port.proofs.of_ps_outside.Moments.{along_then, along_now}
use Rattle.volume_parts.proofs.Gate.{shut_stays}
use Rattle.paged_volume.proofs.Naming.{zero_at}
use Rattle.paged_volume.proofs.New.{blank_more}
use Rattle.paged_volume.proofs.making.blank_pages.Goals as goal

pub loop-number-preserved : goal.loop-number-preserved
loop-number-preserved g c =
    let inv = c.loop-number.invariant in
    let call = c.write_page.ensures.call in
    let number = c.loop-number.number in
    let low = c.loop-number.auto.number in
    record {
      shut = along_then inv.shut c.write_page.ensures.images (λ image after. shut_stays _ _ after.from image (omega arith) (along_now inv.shut after.from after.was) after.by);
      zeroed = λ bytes now.
          let after = c.in-Ok.ensures.wrote bytes now in
          let was = inv.zeroed after.from after.was in
          record {
            from = was.from;
            was = was.was;
            by = blank_more number (replicate {A = ℕ} 4096 0) was.from after.from bytes low refl (zero_at 4096) was.by after.by;
          };
      told = along_then inv.told call.told (along_now inv.told);
      counts = let one = inv.counts in let two = call.counts in omega arith;
      output = call.output ∙ inv.output;
    }
