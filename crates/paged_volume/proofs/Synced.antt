-- A write that was synced.
use Rattle.std.proofs.Common.{ℕ, List}
use Rattle.std.specs.Prelude.{Result, OnOk}
use Rattle.std.proofs.lemmas.Result.{on_ok_weaker}
use Rattle.ps_port.specs.ps_outside.Outside.{Outside, After, SameContents}
use Rattle.ps_port.specs.Disk.{Written, written}
use Rattle.volume_parts.specs.Calls.{StaysHeld}

module _ {E : Type 0} (result : Result (Unit {0}) E) (a b c : Outside (List ℕ)) (at : ℕ) (from : List ℕ) (same : SameContents b c) where
  pub written_durable : ((bytes : List ℕ) → a.contents bytes → a.images a.clock bytes) → ((bytes : List ℕ) → b.contents bytes → After a.contents (Written at from) bytes) →
      OnOk result ((bytes : List ℕ) → c.images c.clock bytes → c.contents bytes) → OnOk result ((image : List ℕ) → c.images c.clock image → After (a.images a.clock) (Written at from) image)
  written_durable is_image contents durable = on_ok_weaker result (λ durable image now.
      let after = contents image (same.no_other image (durable image now)) in
      record { from = after.from; was = is_image after.from after.was; by = after.by }) durable

  pub written_stays : ((bytes : List ℕ) → a.contents bytes → b.contents (written at from bytes)) → OnOk result ((bytes : List ℕ) → c.images c.clock bytes → c.contents bytes) → OnOk result (StaysHeld a c)
  written_stays put durable = on_ok_weaker result (λ durable x now. (_, same.kept _ (put x now))) durable
