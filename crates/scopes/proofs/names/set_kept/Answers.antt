use Rattle.std.proofs.Common.{ℕ, inl, sym, subst, ◌∙◌}
use Rattle.closures.specs.swizzle.Joint.{shown_at}
use Rattle.closures.specs.heap_places.Places.{HasRow}
use Rattle.heap_ops.proofs.VectorLaws.{near-kept, near-fitted}
use Rattle.scopes.proofs.NameLaws.{index-fits, row-there, refuses, so-written}
use Rattle.scopes.proofs.names.set_kept.Goals as goal

pub returns-in-Err-clause-set : goal.returns-in-Err-clause-set
returns-in-Err-clause-set g c = (c.in-Err.ensures.opened.0, inl (c.in-Err.ensures.opened.1))

pub index-requires : goal.index-requires
index-requires g c =
    index-fits c.args.sw.now c.open_name.new.sw (g.V.Vault.outside c.args.vault.now) (g.V.Vault.outside c.open_name.new.vault) c.args.scope
    c.args.name
    c.in-Ok.located c.sound.ensures c.requires.held c.in-Ok.ensures.opened

pub write_place-requires-clause-place : goal.write_place-requires-clause-place
write_place-requires-clause-place g c =
    subst (λ (k : ℕ). HasRow (shown_at c.open_name.new.sw c.args.scope) k c.in-Some.stored) (sym c.index.ensures)
    (row-there c.args.sw.now c.open_name.new.sw (g.V.Vault.outside c.args.vault.now) (g.V.Vault.outside c.open_name.new.vault) c.args.scope
    c.args.name
    c.in-Ok.located c.args.to c.in-Some.stored c.requires.held c.in-Ok.ensures.opened (sym c.fit.ensures ∙ c.in-Some.is))

pub write_place-requires-clause-near : goal.write_place-requires-clause-near
write_place-requires-clause-near g c =
    near-fitted c.open_name.new.sw c.in-Ok.located.place.form c.args.to c.in-Some.stored (sym c.fit.ensures ∙ c.in-Some.is)
    (near-kept c.args.sw.now c.open_name.new.sw c.args.to c.in-Ok.ensures.opened.reads.keeps c.requires.near)

pub returns-in-Some-clause-so : goal.returns-in-Some-clause-so
returns-in-Some-clause-so g c =
    so-written c.args.sw.now c.open_name.new.sw c.write_place.new.sw (g.V.Vault.outside c.args.vault.now) (g.V.Vault.outside c.open_name.new.vault)
    c.args.scope c.args.name c.index.result c.in-Ok.located c.in-Some.stored c.open_name.new.layouts.entries.items c.requires.held
    c.in-Ok.ensures.opened c.in-Ok.ensures.so c.write_place.ensures.written

pub returns-in-None-clause-set : goal.returns-in-None-clause-set
returns-in-None-clause-set g c =
    refuses c.args.sw.now c.open_name.new.sw (g.V.Vault.outside c.args.vault.now) (g.V.Vault.outside c.open_name.new.vault) c.args.scope c.args.name
    c.in-Ok.located c.args.to c.misfitting.result c.requires.held c.in-Ok.ensures.opened (sym c.fit.ensures ∙ c.in-None.is) c.misfitting.ensures
