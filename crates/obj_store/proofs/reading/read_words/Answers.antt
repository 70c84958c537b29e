use Rattle.std.proofs.Common.{◌∙◌, ◌+◌, ◌-◌, ◌/◌, ◌^◌, ◌<◌, length, sym, subst, arith, Some}
use Rattle.volume_parts.proofs.Looking.{looks_then}
use Rattle.paged_volume.specs.declared.table.Table.{Table}
use Rattle.obj_store.specs.Viewing.{IsSource}
use Rattle.obj_store.specs.StoreLaws.{words_low}
use Rattle.obj_store.proofs.ReadLaws.{shown_kept, more_read}
use Rattle.obj_store.proofs.reading.read_words.Goals as goal

pub overflow_cast-first : goal.overflow_cast-first
overflow_cast-first g c =
    let few = words_low c.args.volume.now.table.committed c.requires.alive.is_table.fit in
    let within = c.requires.within in
    omega arith

pub overflow_add-at : goal.overflow_add-at
overflow_add-at g c =
    let few = words_low c.args.volume.now.table.committed c.requires.alive.is_table.fit in
    let within = c.requires.within in
    omega arith

pub logical_pages-last-requires : goal.logical_pages-last-requires
logical_pages-last-requires g c =
    let few = words_low c.args.volume.now.table.committed c.requires.alive.is_table.fit in
    let within = c.requires.within in
    let fits : c.args.at + length c.args.into.now + 511 < 2 ^ 64 = omega arith in
    fits

pub overflow_cast-last : goal.overflow_cast-last
overflow_cast-last g c =
    let few = words_low c.args.volume.now.table.committed c.requires.alive.is_table.fit in
    let within = c.requires.within in
    omega (arith, c.logical_pages-last.ensures)

pub read_part-requires-clause-source : goal.read_part-requires-clause-source
read_part-requires-clause-source g c = subst (λ (t : Table). IsSource t c.args.source) (sym c.loop-page.invariant.same) c.requires.source

pub loop-page-preserved : goal.loop-page-preserved
loop-page-preserved g c =
    let o = g.H.Host.outside in
    let v = c.args.volume.now in
    let w = c.loop-page.volume in
    let inv = c.loop-page.invariant in
    let is = c.read_part.ensures in
    record {
      read = λ held now. more_read c.loop-page.page c.args.at held c.args.into.now c.loop-page.into c.read_part.new.into inv.size (inv.read held now)
          (c.in_ok-read_part.ensures.read held (shown_kept c.args.source v.table w.table (o v.host) (o w.host) inv.same inv.looks.same (Some held) now));
      size = is.size ∙ inv.size;
      looks = looks_then (o v.host) (o w.host) (o c.read_part.new.volume.host) (c.loop-page.page - c.args.at / 512) 1 _ inv.looks is.looks (let low = c.loop-page.auto.page in omega arith);
      same = is.same ∙ inv.same;
      kept = c.in_ok-read_part.ensures.kept;
      alive = c.in_ok-read_part.ensures.alive;
    }
