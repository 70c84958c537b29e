use Rattle.std.proofs.Common.{◌∙◌, None, sym, ap}
use Rattle.obj_layout.specs.Stored.{Space, length_in, length_there}
use Rattle.obj_layout.proofs.HeaderLaws.{length_spelled}
use Rattle.memory_vault.proofs.HeldLaws.{held-length}
use Rattle.memory_vault.proofs.memory.MemoryVaultVault.length.Goals as goal

pub returns-clause-told : goal.returns-clause-told
returns-clause-told c = λ words h.
    held-length c.args.self.now c.args.pid words None c.in_ok-header.header h c.in_ok-header.ensures.tested ∙ sym c.length_of.ensures

pub returns-clause-stands : goal.returns-clause-stands
returns-clause-stands c = λ space told.
    let tested = c.in_ok-header.ensures.tested in
    ap (λ (s : Space). length_there c.args.pid s) (sym told.is) ∙ ap length_in tested.spelled ∙ length_spelled c.in_ok-header.header tested.fields ∙ sym c.length_of.ensures
