use Rattle.std.proofs.Common.{sym, subst, refl, ◌∙◌, Option, ℕ, Some}
use Rattle.heap_meaning.specs.obj_layout.declared.kind.Kind.TheVariants.{Structure}
use Rattle.heap_meaning.specs.swizzle.Heap.{header_at}
use Rattle.heap_meaning.specs.swizzle.Text.{text_at}
use Rattle.heap_meaning.proofs.of_heap_places.TouchedLaws.{kinds-same, kinds-differ}
use Rattle.joint_ops.specs.World.{DenotesIn}
use Rattle.joint_ops.proofs.SeenLaws.{text-denoted}
use Rattle.joint_ops.proofs.GrowthLaws.{same-keeps}
use Rattle.joint_ops.proofs.GainLaws.{nothing-done}
use Rattle.joint_ops.proofs.FieldLaws.{answers-field, wrong-class, nil-field, gets-breaks, gets-leaves, gets-near, gets-keeps}
use Rattle.joint_ops.proofs.structures.get_field.Goals as goal

pub returns-in_default-clause-got : goal.returns-in_default-clause-got
returns-in_default-clause-got g c of names text n o world dc d is =
    let outside = g.V.Vault.outside c.args.vault.now in (
      nil-field c.args.sw.now outside of names text n o (subst (λ (x : Option ℕ). DenotesIn c.args.sw.now outside names x o) c.in_default.is d),
      nothing-done c.args.sw.now outside of names c.sound.ensures world,
    )

pub returns-then-not-is_kind-clause-got : goal.returns-then-not-is_kind-clause-got
returns-then-not-is_kind-clause-got g c of names text n o world dc d is =
    let at = c.in-Some.at in
    let outside = g.V.Vault.outside c.args.vault.now in
    let mine = subst (λ (x : Option ℕ). DenotesIn c.args.sw.now outside names x o) c.in-Some.is d in
    let ne = kinds-differ (header_at c.args.sw.now at).kind Structure (sym c.is_kind.ensures ∙ c.if-not-is_kind.true) in (
      wrong-class c.args.sw.now outside of names at text n o c.sound.ensures world ne mine,
      nothing-done c.args.sw.now outside of names c.sound.ensures world,
    )

pub returns-clause-got : goal.returns-clause-got
returns-clause-got g c of names text n o world dc d is =
    let at = c.in-Some.at in
    let old = c.args.sw.now in
    let before = g.V.Vault.outside c.args.vault.now in
    let after = g.V.Vault.outside c.get_field-got.new.vault in
    let mine = subst (λ (x : Option ℕ). DenotesIn old before names x o) c.in-Some.is d in
    let kind = kinds-same (header_at old at).kind Structure (sym c.is_kind.ensures ∙ c.if-not-is_kind.false) in
    answers-field old c.get_field-got.new.sw before after of names c.sound.ensures c.sound-2.ensures world
    (g.met.V.Vault.one c.args.vault.now) (g.met.V.Vault.one c.get_field-got.new.vault)
    at (text_at old c.args.class) text n o c.args.located c.get_field-got.result
    (text-denoted old before names c.args.class text c.sound.ensures dc).bytes_are kind mine is c.get_field-got.ensures.got

pub returns-clause-leaves : goal.returns-clause-leaves
returns-clause-leaves g c =
    gets-leaves c.args.sw.now c.get_field-got.new.sw (g.V.Vault.outside c.args.vault.now) (g.V.Vault.outside c.get_field-got.new.vault) (Some c.in-Some.at)
    (text_at c.args.sw.now c.args.class) c.args.located c.get_field-got.result c.get_field-got.ensures.got

pub returns-clause-fails : goal.returns-clause-fails
returns-clause-fails g c =
    gets-breaks c.args.sw.now c.get_field-got.new.sw (g.V.Vault.outside c.args.vault.now) (g.V.Vault.outside c.get_field-got.new.vault) (Some c.in-Some.at)
    (text_at c.args.sw.now c.args.class) c.args.located c.get_field-got.result c.get_field-got.ensures.got

pub returns-clause-near : goal.returns-clause-near
returns-clause-near g c =
    gets-near c.args.sw.now c.get_field-got.new.sw (g.V.Vault.outside c.args.vault.now) (g.V.Vault.outside c.get_field-got.new.vault) (Some c.in-Some.at)
    (text_at c.args.sw.now c.args.class) c.args.located c.get_field-got.result c.get_field-got.ensures.got

pub returns-clause-keeps : goal.returns-clause-keeps
returns-clause-keeps g c =
    gets-keeps c.args.sw.now c.get_field-got.new.sw (g.V.Vault.outside c.args.vault.now) (g.V.Vault.outside c.get_field-got.new.vault) (Some c.in-Some.at)
    (text_at c.args.sw.now c.args.class) c.args.located c.get_field-got.result c.get_field-got.ensures.got

pub returns-in_default-clause-keeps : goal.returns-in_default-clause-keeps
returns-in_default-clause-keeps g c = same-keeps c.args.sw.now c.args.sw.now refl

pub returns-then-not-is_kind-clause-keeps : goal.returns-then-not-is_kind-clause-keeps
returns-then-not-is_kind-clause-keeps g c = same-keeps c.args.sw.now c.args.sw.now refl
