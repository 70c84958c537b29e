use Rattle.std.proofs.Common.{sym, subst, ◌∙◌, Option, ℕ, Some}
use Rattle.heap_meaning.specs.obj_layout.declared.kind.Kind.TheVariants.{Structure}
use Rattle.heap_meaning.specs.swizzle.Heap.{header_at}
use Rattle.heap_meaning.specs.swizzle.Text.{text_at}
use Rattle.heap_meaning.specs.heap_ops.Structures.{SetsField}
use Rattle.heap_meaning.proofs.of_heap_places.TouchedLaws.{kinds-same, kinds-differ}
use Rattle.joint_ops.specs.World.{DenotesIn}
use Rattle.joint_ops.proofs.SeenLaws.{text-denoted}
use Rattle.joint_ops.proofs.GainLaws.{nothing-done}
use Rattle.joint_ops.proofs.FormLaws.{form-fits}
use Rattle.joint_ops.proofs.PutLaws.{writes-field, wrong-put, nil-put, sets-breaks, sets-leaves, sets-none, sets-other}
use Rattle.joint_ops.proofs.structures.set_field.Goals as goal

pub set_field-set-requires-clause-fits : goal.set_field-set-requires-clause-fits
set_field-set-requires-clause-fits g c = form-fits c.args.located.place.form c.args.to c.requires.form

pub returns-in_default-clause-set : goal.returns-in_default-clause-set
returns-in_default-clause-set g c of names text n o v world dc d is for =
    let outside = g.V.Vault.outside c.args.vault.now in (
      nil-put c.args.sw.now outside of names text n o v (subst (λ (x : Option ℕ). DenotesIn c.args.sw.now outside names x o) c.in_default.is d),
      nothing-done c.args.sw.now outside of names c.sound.ensures world,
    )

pub returns-then-not-is_kind-clause-set : goal.returns-then-not-is_kind-clause-set
returns-then-not-is_kind-clause-set g c of names text n o v world dc d is for =
    let at = c.in-Some.at in
    let outside = g.V.Vault.outside c.args.vault.now in
    let mine = subst (λ (x : Option ℕ). DenotesIn c.args.sw.now outside names x o) c.in-Some.is d in
    let ne = kinds-differ (header_at c.args.sw.now at).kind Structure (sym c.is_kind.ensures ∙ c.if-not-is_kind.true) in (
      wrong-put c.args.sw.now outside of names at text n o v c.sound.ensures world ne mine,
      nothing-done c.args.sw.now outside of names c.sound.ensures world,
    )

pub returns-clause-set : goal.returns-clause-set
returns-clause-set g c of names text n o v world dc d is for =
    let at = c.in-Some.at in
    let old = c.args.sw.now in
    let before = g.V.Vault.outside c.args.vault.now in
    let after = g.V.Vault.outside c.set_field-set.new.vault in
    let mine = subst (λ (x : Option ℕ). DenotesIn old before names x o) c.in-Some.is d in
    let kind = kinds-same (header_at old at).kind Structure (sym c.is_kind.ensures ∙ c.if-not-is_kind.false) in
    writes-field old c.set_field-set.new.sw before after of names c.sound.ensures c.sound-2.ensures world
    (g.met.V.Vault.one c.args.vault.now) (g.met.V.Vault.one c.set_field-set.new.vault)
    at (text_at old c.args.class) text n o c.args.located c.args.to v c.set_field-set.result
    (text-denoted old before names c.args.class text c.sound.ensures dc).bytes_are kind mine is c.requires.form for c.set_field-set.ensures.set

pub returns-in_default-clause-does : goal.returns-in_default-clause-does
returns-in_default-clause-does g c =
    sets-none c.args.sw.now (g.V.Vault.outside c.args.vault.now) c.args.object (text_at c.args.sw.now c.args.class) c.args.located c.args.to c.in_default.is

pub returns-then-not-is_kind-clause-does : goal.returns-then-not-is_kind-clause-does
returns-then-not-is_kind-clause-does g c =
    sets-other c.args.sw.now (g.V.Vault.outside c.args.vault.now) c.args.object c.in-Some.at (text_at c.args.sw.now c.args.class) c.args.located c.args.to c.in-Some.is
    (kinds-differ (header_at c.args.sw.now c.in-Some.at).kind Structure (sym c.is_kind.ensures ∙ c.if-not-is_kind.true))

pub returns-clause-does : goal.returns-clause-does
returns-clause-does g c =
    subst (λ (x : Option ℕ). SetsField c.args.sw.now c.set_field-set.new.sw (g.V.Vault.outside c.args.vault.now) (g.V.Vault.outside c.set_field-set.new.vault)
    x (text_at c.args.sw.now c.args.class) c.args.located c.args.to c.set_field-set.result) (sym c.in-Some.is) c.set_field-set.ensures.set

pub returns-clause-leaves : goal.returns-clause-leaves
returns-clause-leaves g c =
    sets-leaves c.args.sw.now c.set_field-set.new.sw (g.V.Vault.outside c.args.vault.now) (g.V.Vault.outside c.set_field-set.new.vault) (Some c.in-Some.at)
    (text_at c.args.sw.now c.args.class) c.args.located c.args.to c.set_field-set.result c.set_field-set.ensures.set

pub returns-clause-fails : goal.returns-clause-fails
returns-clause-fails g c =
    sets-breaks c.args.sw.now c.set_field-set.new.sw (g.V.Vault.outside c.args.vault.now) (g.V.Vault.outside c.set_field-set.new.vault) (Some c.in-Some.at)
    (text_at c.args.sw.now c.args.class) c.args.located c.args.to c.set_field-set.result c.set_field-set.ensures.set
