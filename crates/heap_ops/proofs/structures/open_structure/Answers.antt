use Rattle.heap_ops.proofs.FieldLaws.{opens-damaged}
use Rattle.heap_ops.proofs.structures.open_structure.Goals as goal

pub returns-in-Err-test_shape-clause-opened : goal.returns-in-Err-test_shape-clause-opened
returns-in-Err-test_shape-clause-opened g c =
    opens-damaged c.args.sw.now c.is_of_class.new.sw (g.V.Vault.outside c.args.vault.now) (g.V.Vault.outside c.is_of_class.new.vault) c.args.object
    c.in-Some.at _ c.args.rows c.in-Ok-true.field-0 c.in-Err-test_shape.fault c.in-Some.is c.requires.held c.in-Ok-true.field-0-test
    c.in-Ok-true.ensures.told c.in-Err-test_shape.ensures
