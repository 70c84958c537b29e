use Rattle.std.proofs.Common.{arith}
use Rattle.heap_places.specs.swizzle.Text.{text_at}
use Rattle.heap_ops.proofs.FieldLaws.{reached, place-there, index-fits, gets-value, gets-fault}
use Rattle.heap_ops.proofs.structures.get_field.Goals as goal

pub overflow_add-place : goal.overflow_add-place
overflow_add-place g c =
    let r = reached c.args.sw.now c.open_structure.new.sw (g.V.Vault.outside c.args.vault.now) (g.V.Vault.outside c.open_structure.new.vault) c.args.object
    c.in-Ok.at (text_at c.args.sw.now c.args.class) c.args.located.rows c.in-Ok.ensures.opened c.requires.held in
    omega (
      arith,
      index-fits c.args.sw.now c.open_structure.new.sw c.in-Ok.at (text_at c.args.sw.now c.args.class) c.args.located c.sound.ensures r
          c.requires.field,
    )

pub read_place-requires-clause-place : goal.read_place-requires-clause-place
read_place-requires-clause-place g c =
    let r = reached c.args.sw.now c.open_structure.new.sw (g.V.Vault.outside c.args.vault.now) (g.V.Vault.outside c.open_structure.new.vault) c.args.object
    c.in-Ok.at (text_at c.args.sw.now c.args.class) c.args.located.rows c.in-Ok.ensures.opened c.requires.held in
    place-there c.args.sw.now c.open_structure.new.sw c.in-Ok.at (text_at c.args.sw.now c.args.class) c.args.located r c.requires.field

pub returns-in-Ok-read_place-clause-got : goal.returns-in-Ok-read_place-clause-got
returns-in-Ok-read_place-clause-got g c =
    gets-value c.args.sw.now c.open_structure.new.sw c.read_place.new.sw (g.V.Vault.outside c.args.vault.now) (g.V.Vault.outside c.open_structure.new.vault)
    (g.V.Vault.outside c.read_place.new.vault)
    c.args.object c.in-Ok.at (text_at c.args.sw.now c.args.class) c.args.located c.in-Ok-read_place.value c.in-Ok.ensures.opened c.requires.held
    c.in-Ok-read_place.ensures.read

pub returns-in-Err-read_place-clause-got : goal.returns-in-Err-read_place-clause-got
returns-in-Err-read_place-clause-got g c =
    gets-fault c.args.sw.now c.open_structure.new.sw c.read_place.new.sw (g.V.Vault.outside c.args.vault.now) (g.V.Vault.outside c.open_structure.new.vault)
    (g.V.Vault.outside c.read_place.new.vault)
    c.args.object c.in-Ok.at (text_at c.args.sw.now c.args.class) c.args.located c.in-Err-read_place.fault c.sound.ensures c.in-Ok.ensures.opened
    c.requires.held c.in-Err-read_place.ensures.read
