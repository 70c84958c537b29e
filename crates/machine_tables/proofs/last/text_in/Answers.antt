use Rattle.std.proofs.Common.{sym, subst}
use Rattle.machine_core.specs.joint_ops.World.{DenotesIn}
use Rattle.machine_tables.proofs.Lasts.{ref-local, text-nowhere, text-there}
use Rattle.machine_tables.proofs.last.text_in.Goals as goal

pub returns-in-Text-clause-is : goal.returns-in-Text-clause-is
returns-in-Text-clause-is g c v names conf h =
    let m = c.args.m.now in
    let out = g.V.Vault.outside v in
    let value = conf.locals.refs c.args.slot in
    let d : DenotesIn m.objects out names c.object-last.result value =
    subst (λ to. DenotesIn m.objects out names to value) (sym c.object-last.ensures) (ref-local out m names conf h c.args.slot c.word.result c.requires.slot c.word.ensures) in
    text-there out m names value c.object-last.result c.sort_of.result c.in-Text.is c.sort_of.ensures.kind d (c.sort_of.ensures.value v names value d)

pub returns-in_default-clause-is : goal.returns-in_default-clause-is
returns-in_default-clause-is g c v names conf h =
    let m = c.args.m.now in
    let out = g.V.Vault.outside v in
    let value = conf.locals.refs c.args.slot in
    let d : DenotesIn m.objects out names c.object-last.result value =
    subst (λ to. DenotesIn m.objects out names to value) (sym c.object-last.ensures) (ref-local out m names conf h c.args.slot c.word.result c.requires.slot c.word.ensures) in
    text-nowhere out m names value c.sort_of.result c.in_default.not-Text (c.sort_of.ensures.value v names value d)
