use Rattle.std.proofs.Common.{inl, inr, ◌≡◌, ℕ, sym, ap, subst, ◌∙◌, Some, None, false, nat_eq, if◌then◌else◌, Bool}
use Rattle.heap_places.specs.obj_layout.Kind.{kind_number}
use Rattle.heap_places.specs.obj_layout.Stored.{damage}
use Rattle.heap_places.specs.obj_layout.declared.header.Header.{Header}
use Rattle.heap_places.specs.obj_layout.declared.vault.VaultFault.TheVariants.{Damaged}
use Rattle.heap_places.specs.obj_layout.declared.kind.Kind.TheVariants.{Vector}
use Rattle.heap_places.specs.swizzle.declared.fault.SwizzleFault.TheVariants.{Vault}
use Rattle.heap_places.specs.swizzle.Heap.{header_at}
use Rattle.heap_places.specs.swizzle.Joint.{Shown, shown_at}
use Rattle.heap_places.specs.swizzle.Text.{text_at}
use Rattle.heap_places.specs.swizzle.Touch.{Denotes}
use Rattle.heap_places.specs.Shapes.{slot_of}
use Rattle.heap_places.proofs.of_swizzle.ReadingLaws.{leaves-none}
use Rattle.heap_places.specs.text_forms.Forms.{element_of}
use Rattle.heap_places.proofs.PlaceLaws.{names-damage, fails-damage}
use Rattle.heap_places.proofs.TouchedLaws.{kinds-same}
use Rattle.heap_ops.specs.Vectors.{vector_damage, IsShaped, kind_damage}
use Rattle.heap_ops.proofs.VectorLaws.{read-vector, same-shown, text-of}
use Rattle.heap_ops.proofs.ClassLaws.{pid-kept}
use Rattle.heap_ops.proofs.shape.read_shape.Goals as goal

pub returns-then-not-is_kind-clause-read : goal.returns-then-not-is_kind-clause-read
returns-then-not-is_kind-clause-read g c =
    let it = shown_at c.args.sw.now c.args.vector in
    let number : c.from.result ≡ kind_number it.kind = c.from.ensures ∙ c.number-number.ensures ∙ ap (λ (h : Header). kind_number h.kind) c.header.ensures.value in
    let other : nat_eq (kind_number it.kind) 3 ≡ false = sym c.is_kind.ensures ∙ c.if-not-is_kind.true in (
      fails-damage (g.V.Vault.outside c.args.vault.now) (g.V.Vault.outside c.args.vault.now) _ _ _ c.damaged.result (leaves-none (g.V.Vault.outside c.args.vault.now)) c.damaged.ensures,
      inl (names-damage c.args.sw.now c.args.vector (kind_damage it) c.from.result 3 c.damaged.result
          (ap (λ (b : Bool). if b then None else damage (kind_number it.kind) 3) other ∙ ap (λ (n : ℕ). damage n 3) (sym number)) c.damaged.ensures),
    )

pub returns-in-Ok-find_shape-clause-read : goal.returns-in-Ok-find_shape-clause-read
returns-in-Ok-find_shape-clause-read g c =
    let old = c.args.sw.now in
    let new = c.first_text.new.sw in
    let a = g.V.Vault.outside c.args.vault.now in
    let b = g.V.Vault.outside c.first_text.new.vault in
    let first = c.in-Ok.ensures.touched in
    let same = same-shown old new a b c.args.vector c.in-Ok.text c.requires.held first in
    let form : c.element_form-form.result ≡ element_of (text_at new c.in-Ok.text) = c.element_form-form.ensures ∙ ap element_of c.text.ensures.value in
    let found = subst (λ (it : Shown). IsShaped it c.in-Ok-find_shape.shape) same c.in-Ok-find_shape.ensures.0 in
    let of : c.in-Ok-find_shape.shape.form ≡ element_of (text_at new c.in-Ok.text) = c.in-Ok-find_shape.ensures.1 ∙ form in
    let kind = kinds-same (shown_at old c.args.vector).kind Vector (sym c.is_kind.ensures ∙ c.if-not-is_kind.false) in
    (text_at new c.in-Ok.text, read-vector old new a b c.args.vector c.in-Ok.text kind first (ap (vector_damage (shown_at old c.args.vector)) (sym of) ∙ found.sound), found, of)

pub returns-in-Err-find_shape-clause-read : goal.returns-in-Err-find_shape-clause-read
returns-in-Err-find_shape-clause-read g c =
    let old = c.args.sw.now in
    let new = c.first_text.new.sw in
    let a = g.V.Vault.outside c.args.vault.now in
    let b = g.V.Vault.outside c.first_text.new.vault in
    let first = c.in-Ok.ensures.touched in
    let same = same-shown old new a b c.args.vector c.in-Ok.text c.requires.held first in
    let form : c.element_form-form.result ≡ element_of (text_at new c.in-Ok.text) = c.element_form-form.ensures ∙ ap element_of c.text.ensures.value in
    let kind = kinds-same (shown_at old c.args.vector).kind Vector (sym c.is_kind.ensures ∙ c.if-not-is_kind.false) in
    let pid : (header_at new c.args.vector).pid ≡ (header_at old c.args.vector).pid = pid-kept old new c.args.vector first.reads.keeps c.requires.held in
    let damaged = ap (λ (it : Shown). vector_damage it (element_of (text_at new c.in-Ok.text))) (sym same) ∙ ap (vector_damage (shown_at new c.args.vector)) (sym form) ∙ c.in-Err-find_shape.ensures in (
      fails-damage a b _ _ _ c.damaged-in-Err-find_shape.result first.reads.outside c.damaged-in-Err-find_shape.ensures,
      inr (inr (
        kind,
        first.reads.keeps,
        first.reads.grows,
        (
          text_at new c.in-Ok.text,
          text-of old new a b c.args.vector c.in-Ok.text first,
          names-damage old c.args.vector (vector_damage (shown_at old c.args.vector) (element_of (text_at new c.in-Ok.text))) c.in-Err-find_shape.misfit.found c.in-Err-find_shape.misfit.wanted c.damaged-in-Err-find_shape.result damaged
              (c.damaged-in-Err-find_shape.ensures ∙ ap (λ (p : ℕ). Vault (Damaged p c.in-Err-find_shape.misfit.found c.in-Err-find_shape.misfit.wanted)) pid),
        ),
      )),
    )

pub returns-in-Ok-find_shape-clause-typed : goal.returns-in-Ok-find_shape-clause-typed
returns-in-Ok-find_shape-clause-typed g c =
    let old = c.args.sw.now in
    let new = c.first_text.new.sw in
    let a = g.V.Vault.outside c.args.vault.now in
    let b = g.V.Vault.outside c.first_text.new.vault in
    let first = c.in-Ok.ensures.touched in
    let same = same-shown old new a b c.args.vector c.in-Ok.text c.requires.held first in
    record {
      text = c.in-Ok.text;
      denotes = subst (λ (it : Shown). Denotes new (Some c.in-Ok.text) (slot_of it 0)) (sym same) first.denotes;
      kind = first.kind;
      tells = c.in-Ok-find_shape.ensures.1 ∙ c.element_form-form.ensures ∙ ap element_of c.text.ensures.value;
    }
