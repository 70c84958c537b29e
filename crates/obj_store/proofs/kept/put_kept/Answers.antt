use Rattle.std.proofs.Common.{List, Option, sym, subst}
use Rattle.obj_store.specs.declared.kept.KeptPage.{KeptPage}
use Rattle.obj_store.specs.Kept.{AreHeld}
use Rattle.obj_store.proofs.KeptLaws.{kept_put}
use Rattle.obj_store.proofs.LackLaws.{put_fault}
use Rattle.obj_store.proofs.kept.put_kept.Goals as goal

pub returns-in-Ok-clause-kept : goal.returns-in-Ok-clause-kept
returns-in-Ok-clause-kept g c =
    let o = g.H.Host.outside in
    let v = c.args.volume.now in
    let z = c.put_page.new.self in
    subst (λ (places : List (Option KeptPage)). AreHeld places z.table (o z.host)) (sym c.keep.ensures)
    (kept_put c.args.kept.now.places.items v.table z.table (o v.host) (o z.host) c.args.page c.args.from.now c.requires.page c.requires.size c.put_page.ensures.committed c.in-Ok.ensures.put c.requires.kept)

pub returns-in-Err-clause-fault : goal.returns-in-Err-clause-fault
returns-in-Err-clause-fault g c =
    let v = c.args.volume.now in
    let z = c.put_page.new.self in
    put_fault g.H.Host.outside v.host z.host v.live z.live v.table z.table c.args.page c.in-Err.fault c.requires.alive.is_table c.in-Err.ensures.fault

pub returns-in-Ok-clause-pins : goal.returns-in-Ok-clause-pins
returns-in-Ok-clause-pins g c = record { pins = c.put_page.ensures.pins; lists = c.put_page.ensures.lists.1; committed = c.put_page.ensures.lists.0 }

pub returns-in-Err-clause-pins : goal.returns-in-Err-clause-pins
returns-in-Err-clause-pins g c = record { pins = c.put_page.ensures.pins; lists = c.put_page.ensures.lists.1; committed = c.put_page.ensures.lists.0 }
