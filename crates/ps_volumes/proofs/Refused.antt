-- What is left where there is no volume, and where one is made.
use Rattle.std.proofs.Common.{◌≡◌, ℕ, List, arith}
use Rattle.std.specs.Prelude.{Ok, Err}
use Rattle.ps_port.specs.ps_outside.Outside.{Outside, Leaves, TellsNothing}
use Rattle.obj_store.specs.paged_volume.Attaching.{IsRefused}
use Rattle.obj_store.specs.volume_parts.Layout.{gate as gate_of}
use Rattle.obj_store.specs.paged_volume.Making.{IsMaking, IsNew}
use Rattle.obj_store.specs.volume_parts.Making.{IsNone, IsCause}
use Rattle.obj_store.specs.paged_volume.Opening.{ShutsAt, OpensAt}
use Rattle.obj_store.specs.volume_parts.declared.open_fault.OpenFault.{OpenFault}
use Rattle.obj_store.specs.volume_parts.declared.format_fault.FormatFault.TheVariants.{Device, AlreadyVolume}
use Rattle.ps_reports.specs.declared.report.Report.{Report}
use Rattle.ps_reports.specs.declared.report.Report.TheVariants as reports
use Rattle.ps_volumes.specs.Attaching.{IsUnattached, report_for}
use Rattle.ps_volumes.specs.Making.{Makes, IsMade}
use Rattle.ps_volumes.specs.Making as making
use Rattle.ps_volumes.proofs.Settled.{held_kept}

pub unattached_by : (old new : Outside (List ℕ)) (cause : OpenFault) (report : Report) → IsRefused old new cause → report ≡ report_for cause → IsUnattached old new report
unattached_by old new cause report is report_is = record {
  cause = cause;
  why = record { device = is.refusal.device; found = is.refusal.found };
  report_is = report_is;
  told = is.looks.told;
  calm = is.looks.output;
  calls = let few = is.looks.calls in omega arith;
  keeps = held_kept old new (record { images = is.looks.images; contents = λ bytes at. is.looks.same.no_other bytes at });
}

module _ (pages : ℕ) (old new : Outside (List ℕ)) (any_moment : Leaves old new (IsMaking old pages)) (gate : ShutsAt pages old new) (told : TellsNothing old new)
    (calm : new.output_faults ≡ old.output_faults) where
  pub made_by : OpensAt pages old new → ((bytes : List ℕ) → old.contents bytes → IsNone bytes) → ((bytes : List ℕ) → new.contents bytes → IsNew pages bytes × (gate_of bytes ≡ 1))
      → ((image : List ℕ) → new.images new.clock image → new.contents image) → (done : Unit {0}) → Makes pages old new (Ok done)
  made_by opened none contents durable done = record {
    any_moment = any_moment;
    gate = gate;
    told = told;
    calm = calm;
    due = making.made none (record { opened = opened; contents = contents; durable = durable });
  }

  pub failed_by : IsCause old new Device → Makes pages old new (Err reports.Device)
  failed_by rose = record { any_moment = any_moment; gate = gate; told = told; calm = calm; due = making.failed rose }

  pub left_by : (g : ℕ) → IsCause old new (AlreadyVolume g) → Makes pages old new (Err reports.AlreadyAVolume)
  left_by g cause = record {
    any_moment = any_moment;
    gate = gate;
    told = told;
    calm = calm;
    due = making.there_is_one
        (λ bytes at. let is = cause.2 bytes at in record { long = is.0; opened = is.2 })
        (record { images = cause.0; contents = λ bytes at. cause.1.no_other bytes at });
  }
