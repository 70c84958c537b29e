use Rattle.std.proofs.Common.{◌≡◌, Option, Some, refl, sym, subst}
use Rattle.std.specs.Prelude.{IsSome, OnOk}
use Rattle.std.proofs.lemmas.Result.{on_ok_weaker}
use Rattle.volume_parts.specs.Holding.{Held}
use Rattle.paged_volume.specs.Staging.{page_of}
use Rattle.paged_volume.specs.declared.pinned.Pinned.{Pinned as PinHeld}
use Rattle.obj_store.specs.declared.source.Source.{Source}
use Rattle.obj_store.specs.Spaces.{shown}
use Rattle.obj_store.specs.Viewing.{IsSource}
use Rattle.obj_store.proofs.ReadLaws.{pinned_read}
use Rattle.obj_store.proofs.KeptLaws.{kept_looks}
use Rattle.obj_store.proofs.TestLaws.{on_ok_of}
use Rattle.obj_store.proofs.reading.read_shown.Goals as goal

pub returns-in-Staged-clause-read : goal.returns-in-Staged-clause-read
returns-in-Staged-clause-read g c =
    let v = c.args.volume.now in
    subst (λ (s : Source). OnOk c.read_kept.result ((held : Held) → (shown s v.table (g.H.Host.outside v.host)).contents (Some held) → c.read_kept.new.into ≡ page_of c.args.page held))
    (sym c.in-Staged.is) c.read_kept.ensures.read

pub read_pinned-requires-clause-pin : goal.read_pinned-requires-clause-pin
read_pinned-requires-clause-pin g c =
    let held = subst (λ (s : Source). IsSource c.args.volume.now.table s) c.in-Pinned.is c.requires.source in
    subst (λ (o : Option PinHeld). IsSome o) (sym held) refl

pub returns-in-Pinned-clause-read : goal.returns-in-Pinned-clause-read
returns-in-Pinned-clause-read g c =
    let v = c.args.volume.now in
    let o = g.H.Host.outside v.host in
    let held = subst (λ (s : Source). IsSource v.table s) c.in-Pinned.is c.requires.source in
    subst (λ (s : Source). OnOk c.read_pinned.result ((held : Held) → (shown s v.table o).contents (Some held) → c.read_pinned.new.into ≡ page_of c.args.page held)) (sym c.in-Pinned.is)
    (on_ok_weaker c.read_pinned.result (pinned_read v.table o c.in-Pinned.pin c.in-Pinned.note c.args.page c.read_pinned.new.into held) c.read_pinned.ensures.read)

pub returns-in-Pinned-clause-kept : goal.returns-in-Pinned-clause-kept
returns-in-Pinned-clause-kept g c =
    let v = c.args.volume.now in
    let w = c.read_pinned.new.self in
    let o = g.H.Host.outside in
    on_ok_of c.read_pinned.result (kept_looks c.args.kept.now.places.items v.table w.table (o v.host) (o w.host) c.read_pinned.ensures.same c.read_pinned.ensures.looks.same c.requires.kept)
