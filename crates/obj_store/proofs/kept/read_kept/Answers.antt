use Rattle.std.proofs.Common.{List, Option, sym, subst}
use Rattle.obj_store.specs.declared.kept.KeptPage.{KeptPage}
use Rattle.obj_store.specs.Kept.{AreHeld}
use Rattle.obj_store.proofs.KeptLaws.{kept_there, kept_read, kept_looks}
use Rattle.obj_store.proofs.kept.read_kept.Goals as goal

pub returns-then-copy-clause-read : goal.returns-then-copy-clause-read
returns-then-copy-clause-read g c = λ held now.
    let v = c.args.volume.now in
    kept_there c.args.kept.now.places.items v.table (g.H.Host.outside v.host) c.args.page c.copy.new.into (c.copy.ensures.found c.if-copy.true) c.requires.kept held now

pub returns-in-Ok-clause-kept : goal.returns-in-Ok-clause-kept
returns-in-Ok-clause-kept g c =
    let o = g.H.Host.outside in
    let v = c.args.volume.now in
    let w = c.read_page.new.self in
    kept_looks c.keep.new.self.places.items v.table w.table (o v.host) (o w.host) c.read_page.ensures.same c.read_page.ensures.looks.same
    (subst (λ (places : List (Option KeptPage)). AreHeld places v.table (o v.host)) (sym c.keep.ensures)
    (kept_read c.args.kept.now.places.items v.table (o v.host) c.args.page c.read_page.new.into c.requires.page c.requires.kept c.in-Ok.ensures.read))
