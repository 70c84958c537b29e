use Rattle.std.proofs.Common.{sym, subst, refl, ◌∙◌, Option, ℕ}
use Rattle.heap_meaning.specs.obj_layout.declared.kind.Kind.TheVariants.{Structure}
use Rattle.heap_meaning.specs.swizzle.Heap.{header_at}
use Rattle.heap_meaning.specs.swizzle.Text.{text_at}
use Rattle.heap_meaning.proofs.of_heap_places.TouchedLaws.{kinds-same, kinds-differ}
use Rattle.heap_meaning.specs.ps_heap.Objects.{is_class}
use Rattle.joint_ops.specs.World.{DenotesIn}
use Rattle.joint_ops.proofs.GrowthLaws.{same-keeps}
use Rattle.joint_ops.proofs.SeenLaws.{text-denoted}
use Rattle.joint_ops.proofs.GainLaws.{nothing-done}
use Rattle.joint_ops.proofs.ClassLaws.{answers-class, breaks-class, class-keeps, none-value, other-value}
use Rattle.joint_ops.proofs.structures.is_class.Goals as goal

pub returns-in_default-clause-got : goal.returns-in_default-clause-got
returns-in_default-clause-got g c of names text o world dc d =
    let outside = g.V.Vault.outside c.args.vault.now in (
      is_class of o text,
      refl,
      sym (none-value c.args.sw.now outside of names o text (subst (λ (x : Option ℕ). DenotesIn c.args.sw.now outside names x o) c.in_default.is d)),
      nothing-done c.args.sw.now outside of names c.sound.ensures world,
    )

pub returns-then-not-is_kind-clause-got : goal.returns-then-not-is_kind-clause-got
returns-then-not-is_kind-clause-got g c of names text o world dc d =
    let at = c.in-Some.at in
    let outside = g.V.Vault.outside c.args.vault.now in
    let mine = subst (λ (x : Option ℕ). DenotesIn c.args.sw.now outside names x o) c.in-Some.is d in
    let ne = kinds-differ (header_at c.args.sw.now at).kind Structure (sym c.is_kind.ensures ∙ c.if-not-is_kind.true) in (
      is_class of o text,
      refl,
      sym (other-value c.args.sw.now outside of names at o text c.sound.ensures world mine ne),
      nothing-done c.args.sw.now outside of names c.sound.ensures world,
    )

pub returns-in-Ok-clause-got : goal.returns-in-Ok-clause-got
returns-in-Ok-clause-got g c of names text o world dc d =
    let at = c.in-Some.at in
    let old = c.args.sw.now in
    let new = c.is_class-got.new.sw in
    let before = g.V.Vault.outside c.args.vault.now in
    let after = g.V.Vault.outside c.is_class-got.new.vault in
    let mine = subst (λ (x : Option ℕ). DenotesIn old before names x o) c.in-Some.is d in
    let kind = kinds-same (header_at old at).kind Structure (sym c.is_kind.ensures ∙ c.if-not-is_kind.false) in
    answers-class old new before after of names c.sound.ensures c.sound-2.ensures world
    (g.met.V.Vault.one c.args.vault.now) (g.met.V.Vault.one c.is_class-got.new.vault)
    at (text_at old c.args.class) text o c.in-Ok.is' (text-denoted old before names c.args.class text c.sound.ensures dc).bytes_are kind mine
    c.in-Ok.ensures.told

pub returns-in-Err-clause-got : goal.returns-in-Err-clause-got
returns-in-Err-clause-got g c of names text o world dc d =
    let at = c.in-Some.at in
    let old = c.args.sw.now in
    let new = c.is_class-got.new.sw in
    let before = g.V.Vault.outside c.args.vault.now in
    let after = g.V.Vault.outside c.is_class-got.new.vault in
    let mine = subst (λ (x : Option ℕ). DenotesIn old before names x o) c.in-Some.is d in
    let kind = kinds-same (header_at old at).kind Structure (sym c.is_kind.ensures ∙ c.if-not-is_kind.false) in
    breaks-class old new before after of names c.sound.ensures c.sound-2.ensures world
    (g.met.V.Vault.one c.args.vault.now) (g.met.V.Vault.one c.is_class-got.new.vault)
    at (text_at old c.args.class) text o c.in-Err.fault kind mine c.in-Err.ensures.told

pub returns-in_default-clause-keeps : goal.returns-in_default-clause-keeps
returns-in_default-clause-keeps g c = same-keeps c.args.sw.now c.args.sw.now refl

pub returns-then-not-is_kind-clause-keeps : goal.returns-then-not-is_kind-clause-keeps
returns-then-not-is_kind-clause-keeps g c = same-keeps c.args.sw.now c.args.sw.now refl

pub returns-in-Ok-clause-keeps : goal.returns-in-Ok-clause-keeps
returns-in-Ok-clause-keeps g c =
    class-keeps c.args.sw.now c.is_class-got.new.sw (g.V.Vault.outside c.args.vault.now) (g.V.Vault.outside c.is_class-got.new.vault) c.in-Some.at
    (text_at c.args.sw.now c.args.class) c.in-Ok.is' c.in-Ok.ensures.told
