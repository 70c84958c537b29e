use Rattle.std.proofs.Common.{◌∙◌}
use Rattle.joint_ops.proofs.of_swizzle.ReadingLaws.{leaves-then}
use Rattle.scopes.proofs.of_heap_ops.ClassLaws.{stands-kept}
use Rattle.scopes.proofs.of_heap_ops.VectorLaws.{near-kept}
use Rattle.scopes.proofs.NameLaws.{so-kept}
use Rattle.joint_procedures.proofs.KeptLaws.{no-row, out-carries, sets-kept, set-leaves, set-fails, puts-kept, stand-then}
use Rattle.joint_procedures.proofs.scope.set_kept.Goals as goal

pub returns-in-Err-clause-set : goal.returns-in-Err-clause-set
returns-in-Err-clause-set g c of names within v world d int for =
    no-row c.args.sw.now c.scope_out.new.sw (g.V.Vault.outside c.args.vault.now) (g.V.Vault.outside c.scope_out.new.vault) of within c.args.up c.args.name
    c.args.to c.in-Err.fault (c.in-Err.ensures.out of names within world d)

pub set_kept-set-requires-clause-so : goal.set_kept-set-requires-clause-so
set_kept-set-requires-clause-so g c =
    so-kept c.args.sw.now c.scope_out.new.sw c.args.layouts.now.entries.items c.in-Ok.ensures.keeps c.requires.so

pub set_kept-set-requires-clause-near : goal.set_kept-set-requires-clause-near
set_kept-set-requires-clause-near g c = near-kept c.args.sw.now c.scope_out.new.sw c.args.to c.in-Ok.ensures.keeps c.requires.near

pub returns-clause-set : goal.returns-clause-set
returns-clause-set g c of names within v world d int for =
    let start = g.V.Vault.outside c.args.vault.now in
    let before = g.V.Vault.outside c.scope_out.new.vault in
    let out = c.in-Ok.ensures.out of names within world d in
    sets-kept c.args.sw.now c.scope_out.new.sw c.set_kept-set.new.sw start before (g.V.Vault.outside c.set_kept-set.new.vault) of names within
    c.args.up c.in-Ok.at c.args.name c.sound.ensures c.sound-2.ensures
    (g.met.V.Vault.one c.scope_out.new.vault) (g.met.V.Vault.one c.set_kept-set.new.vault) c.in-Ok.ensures.keeps c.in-Ok.ensures.leaves
    out c.args.to v c.set_kept-set.result int
    (out-carries c.args.sw.now c.scope_out.new.sw start before of names within c.args.up c.in-Ok.at c.args.to v out for) c.set_kept-set.ensures.set

pub returns-clause-leaves : goal.returns-clause-leaves
returns-clause-leaves g c =
    let before = g.V.Vault.outside c.scope_out.new.vault in
    let after = g.V.Vault.outside c.set_kept-set.new.vault in
    leaves-then (g.V.Vault.outside c.args.vault.now) before after c.in-Ok.ensures.leaves
    (set-leaves c.scope_out.new.sw c.set_kept-set.new.sw before after c.in-Ok.at c.args.name c.args.to c.set_kept-set.result c.set_kept-set.ensures.set)

pub returns-clause-fails : goal.returns-clause-fails
returns-clause-fails g c =
    set-fails c.scope_out.new.sw c.set_kept-set.new.sw (g.V.Vault.outside c.args.vault.now) (g.V.Vault.outside c.scope_out.new.vault)
    (g.V.Vault.outside c.set_kept-set.new.vault) c.in-Ok.at c.args.name c.args.to c.set_kept-set.result c.in-Ok.ensures.leaves c.set_kept-set.ensures.set

pub returns-clause-stands : goal.returns-clause-stands
returns-clause-stands g c =
    stand-then c.args.sw.now c.scope_out.new.sw c.set_kept-set.new.sw
    (stands-kept c.args.sw.now c.scope_out.new.sw c.in-Ok.ensures.keeps) c.set_kept-set.result c.set_kept-set.ensures.stands

pub returns-clause-numbers : goal.returns-clause-numbers
returns-clause-numbers g c =
    let first = c.in-Ok.ensures.numbers in
    let second = c.set_kept-set.ensures.numbers in
    (second.0 ∙ first.0, second.1 ∙ first.1, second.2 ∙ first.2, second.3 ∙ first.3)

pub returns-clause-does : goal.returns-clause-does
returns-clause-does g c =
    puts-kept c.args.sw.now c.scope_out.new.sw c.set_kept-set.new.sw (g.V.Vault.outside c.scope_out.new.vault)
    (g.V.Vault.outside c.set_kept-set.new.vault) c.in-Ok.at c.args.name c.args.to c.set_kept-set.result c.in-Ok.ensures.held c.in-Ok.ensures.keeps
    c.set_kept-set.ensures.set
