use Rattle.std.proofs.Common.{ℕ, inl, sym, subst}
use Rattle.closures.specs.swizzle.Joint.{shown_at}
use Rattle.closures.specs.heap_places.Places.{HasPlace, ReadsPlace}
use Rattle.scopes.proofs.NameLaws.{index-fits, place-there, gets, so-read}
use Rattle.scopes.proofs.names.get_kept.Goals as goal

pub returns-in-Err-clause-got : goal.returns-in-Err-clause-got
returns-in-Err-clause-got g c = (c.in-Err.ensures.opened.0, inl (c.in-Err.ensures.opened.1))

pub index-requires : goal.index-requires
index-requires g c =
    index-fits c.args.sw.now c.open_name.new.sw (g.V.Vault.outside c.args.vault.now) (g.V.Vault.outside c.open_name.new.vault) c.args.scope
    c.args.name
    c.in-Ok.located c.sound.ensures c.requires.held c.in-Ok.ensures.opened

pub read_place-requires-clause-place : goal.read_place-requires-clause-place
read_place-requires-clause-place g c =
    subst (λ (k : ℕ). HasPlace (shown_at c.open_name.new.sw c.args.scope) c.in-Ok.located.place.form k) (sym c.index.ensures)
    (place-there c.args.sw.now c.open_name.new.sw (g.V.Vault.outside c.args.vault.now) (g.V.Vault.outside c.open_name.new.vault) c.args.scope
    c.args.name
    c.in-Ok.located c.requires.held c.in-Ok.ensures.opened)

pub returns-clause-got : goal.returns-clause-got
returns-clause-got g c =
    let a = g.V.Vault.outside c.args.vault.now in
    let b = g.V.Vault.outside c.open_name.new.vault in
    let d = g.V.Vault.outside c.read_place.new.vault in
    gets c.args.sw.now c.open_name.new.sw c.read_place.new.sw a b d c.args.scope c.args.name c.in-Ok.located c.read_place.result c.sound.ensures
    c.requires.held c.in-Ok.ensures.opened
    (subst (λ (k : ℕ). ReadsPlace c.open_name.new.sw c.read_place.new.sw b d c.args.scope c.in-Ok.located.place.form k c.read_place.result)
    c.index.ensures c.read_place.ensures.read)

pub returns-clause-so : goal.returns-clause-so
returns-clause-so g c =
    so-read c.open_name.new.sw c.read_place.new.sw (g.V.Vault.outside c.open_name.new.vault) (g.V.Vault.outside c.read_place.new.vault) c.args.scope
    c.index.result c.in-Ok.located.place.form c.read_place.result c.open_name.new.layouts.entries.items c.read_place.ensures.read c.in-Ok.ensures.so
