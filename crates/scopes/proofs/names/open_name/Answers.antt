use Rattle.std.proofs.Common.{ℕ, ◌+◌, ◌≡◌, Option, None, sym, ap, subst, ◌∙◌}
use Rattle.closures.specs.obj_layout.Stored.{Damage}
use Rattle.closures.specs.obj_layout.declared.kind.Kind.TheVariants.{Scope}
use Rattle.closures.specs.swizzle.Joint.{shown_at}
use Rattle.closures.specs.heap_places.Shapes.{shape_damage}
use Rattle.closures.specs.heap_places.Places.{NamesDamage}
use Rattle.scopes.specs.Names.{scope_damage}
use Rattle.scopes.proofs.NameLaws.{so-kept, opens, opens-other, opens-none, opens-misshapen}
use Rattle.scopes.proofs.names.open_name.Goals as goal

pub returns-then-not-is_kind-clause-opened : goal.returns-then-not-is_kind-clause-opened
returns-then-not-is_kind-clause-opened g c =
    opens-other c.args.sw.now (g.V.Vault.outside c.args.vault.now) c.args.scope c.args.name c.other_kind.result
    (sym c.is_kind.ensures ∙ c.if-not-is_kind.true) c.other_kind.ensures

pub locate-requires-clause-so : goal.locate-requires-clause-so
locate-requires-clause-so g c =
    so-kept c.args.sw.now c.first_text.new.sw c.args.layouts.now.entries.items c.in-Ok.ensures.touched.reads.keeps c.requires.so

pub returns-in_default-clause-opened : goal.returns-in_default-clause-opened
returns-in_default-clause-opened g c =
    opens-none c.args.sw.now c.first_text.new.sw (g.V.Vault.outside c.args.vault.now) (g.V.Vault.outside c.first_text.new.vault) c.args.scope
    c.in-Ok.text
    c.args.name c.no_name.result c.requires.held (sym c.is_kind.ensures ∙ c.if-not-is_kind.false) c.in-Ok.ensures.touched
    (sym c.locate.ensures.place ∙ c.in_default.is) c.no_name.ensures

pub returns-in-Ok-test_shape-clause-opened : goal.returns-in-Ok-test_shape-clause-opened
returns-in-Ok-test_shape-clause-opened g c =
    let it = shown_at c.first_text.new.sw c.args.scope in
    let shape : scope_damage it c.in-Some.located.rows ≡ None =
    ap (λ (n : ℕ). shape_damage it Scope (2 + n) (1 + c.in-Some.located.rows.nums)) (sym c.from-refs.ensures)
    ∙ ap (λ (n : ℕ). shape_damage it Scope (2 + c.from-refs.result) (1 + n)) (sym c.from-nums.ensures) ∙ c.in-Ok-test_shape.ensures in
    opens c.args.sw.now c.first_text.new.sw (g.V.Vault.outside c.args.vault.now) (g.V.Vault.outside c.first_text.new.vault) c.args.scope c.in-Ok.text
    c.args.name c.in-Some.located c.requires.held (sym c.is_kind.ensures ∙ c.if-not-is_kind.false) c.in-Ok.ensures.touched
    (sym c.locate.ensures.place ∙ c.in-Some.is) shape

pub returns-in-Err-test_shape-clause-opened : goal.returns-in-Err-test_shape-clause-opened
returns-in-Err-test_shape-clause-opened g c =
    let it = shown_at c.first_text.new.sw c.args.scope in
    let shape : shape_damage it Scope (2 + c.from-refs.result) (1 + c.from-nums.result) ≡ scope_damage it c.in-Some.located.rows =
    ap (λ (n : ℕ). shape_damage it Scope (2 + n) (1 + c.from-nums.result)) c.from-refs.ensures
    ∙ ap (λ (n : ℕ). shape_damage it Scope (2 + c.in-Some.located.rows.refs) (1 + n)) c.from-nums.ensures in
    opens-misshapen c.args.sw.now c.first_text.new.sw (g.V.Vault.outside c.args.vault.now) (g.V.Vault.outside c.first_text.new.vault) c.args.scope
    c.in-Ok.text
    c.args.name c.in-Some.located c.in-Err-test_shape.fault c.requires.held (sym c.is_kind.ensures ∙ c.if-not-is_kind.false) c.in-Ok.ensures.touched
    (sym c.locate.ensures.place ∙ c.in-Some.is)
    (subst (λ (d : Option Damage). NamesDamage c.first_text.new.sw c.args.scope d c.in-Err-test_shape.fault) shape c.in-Err-test_shape.ensures)
