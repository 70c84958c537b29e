use Rattle.std.proofs.Common.{arith}
use Rattle.heap_places.specs.swizzle.Text.{text_at}
use Rattle.heap_places.proofs.PlaceLaws.{stands_then}
use Rattle.heap_ops.proofs.ClassLaws.{stands-kept}
use Rattle.heap_ops.proofs.FieldLaws.{reached, row-there, index-fits, sets-value, near-kept, opens-stands}
use Rattle.heap_ops.proofs.structures.set_field.Goals as goal

pub overflow_add-located : goal.overflow_add-located
overflow_add-located g c =
    let r = reached c.args.sw.now c.open_structure.new.sw (g.V.Vault.outside c.args.vault.now) (g.V.Vault.outside c.open_structure.new.vault) c.args.object
    c.in-Ok.at (text_at c.args.sw.now c.args.class) c.args.located.rows c.in-Ok.ensures.opened c.requires.held in
    omega (
      arith,
      index-fits c.args.sw.now c.open_structure.new.sw c.in-Ok.at (text_at c.args.sw.now c.args.class) c.args.located c.sound.ensures r
          c.requires.field,
    )

pub write_place-requires-clause-place : goal.write_place-requires-clause-place
write_place-requires-clause-place g c =
    let r = reached c.args.sw.now c.open_structure.new.sw (g.V.Vault.outside c.args.vault.now) (g.V.Vault.outside c.open_structure.new.vault) c.args.object
    c.in-Ok.at (text_at c.args.sw.now c.args.class) c.args.located.rows c.in-Ok.ensures.opened c.requires.held in
    row-there c.args.sw.now c.open_structure.new.sw c.in-Ok.at (text_at c.args.sw.now c.args.class) c.args.located c.args.to r c.requires.field c.requires.fits

pub write_place-requires-clause-near : goal.write_place-requires-clause-near
write_place-requires-clause-near g c = near-kept c.args.sw.now c.open_structure.new.sw c.args.to c.in-Ok.ensures.opened.reads.keeps c.requires.near

pub returns-clause-set : goal.returns-clause-set
returns-clause-set g c =
    sets-value c.args.sw.now c.open_structure.new.sw c.write_place.new.sw (g.V.Vault.outside c.args.vault.now) (g.V.Vault.outside c.open_structure.new.vault)
    c.args.object c.in-Ok.at (text_at c.args.sw.now c.args.class) c.args.located c.args.to c.sound.ensures c.in-Ok.ensures.opened c.write_place.ensures.written

pub returns-clause-stands : goal.returns-clause-stands
returns-clause-stands g c =
    stands_then c.args.sw.now c.open_structure.new.sw c.write_place.new.sw
    (stands-kept c.args.sw.now c.open_structure.new.sw c.in-Ok.ensures.opened.reads.keeps) c.write_place.ensures.stands

pub returns-in-Err-clause-stands : goal.returns-in-Err-clause-stands
returns-in-Err-clause-stands g c =
    opens-stands c.args.sw.now c.open_structure.new.sw (g.V.Vault.outside c.args.vault.now) (g.V.Vault.outside c.open_structure.new.vault) c.args.object
    (text_at c.args.sw.now c.args.class) c.args.located.rows c.in-Err.fault c.in-Err.ensures.opened
