-- Entries of fields that are so.
use Rattle.std.proofs.Common.{inl, inr, ◌≡◌, ℕ, zero, suc, ◌<◌, ◌≤◌, ◌⊎◌, List, [], ◌∷◌, length, set, replicate, get_or, take, ◌++◌, sym, ap, ◌∙◌, arith, subst}
use Rattle.joint_ops.specs.obj_layout.declared.kind.Kind.TheVariants.{Text}
use Rattle.joint_ops.specs.obj_layout.declared.reference.Reference.TheVariants.{Local}
use Rattle.joint_ops.specs.swizzle.Heap.{Heap, IsHeld, header_at, ref_at}
use Rattle.joint_ops.specs.swizzle.Joint.{Shown, shown_at, name_of}
use Rattle.joint_ops.specs.swizzle.Reading.{TextsStay}
use Rattle.joint_ops.specs.text_forms.Forms.{forms_of, located_in}
use Rattle.joint_ops.specs.heap_places.Shapes.{slot_of, shown_text}
use Rattle.joint_ops.specs.proc_values.Loaded.{CodeStays}
use Rattle.joint_ops.proofs.of_heap_places.PlaceLaws.{slot-name}
use Rattle.joint_ops.proofs.SeenLaws.{shown-bytes}
use Rattle.objects.specs.declared.known_fields.KnownField.{KnownField}
use Rattle.objects.specs.Fields.{IsConstantText, IsSo, AreSo, IsKnown}

-- texts stay where they and code do
pub texts-stay : (old new : Heap) → CodeStays old new → TextsStay old new
texts-stay old new k at held is =
    let s = k at held (inl is) in
    let kinds : (header_at new at).kind ≡ Text = ap (λ (it : Shown). it.kind) s.shown_as ∙ is in
    record {
      held = s.held;
      kind = kinds;
      bytes = shown-bytes new at kinds ∙ ap (λ (it : Shown). shown_text it) s.shown_as ∙ sym (shown-bytes old at is);
    }

module _ (old new : Heap) (k : CodeStays old new) where
  pub constant-stays : (code constant at : ℕ) → IsConstantText old code constant at → IsConstantText new code constant at
  constant-stays code constant at is =
      let s = k code is.code_held (inr is.code_kind) in
      let n = k at (is.denotes.0) (inl is.kind) in
      record {
        code_held = s.held;
        code_kind = ap (λ (it : Shown). it.kind) s.shown_as ∙ is.code_kind;
        below = subst (λ (r : ℕ). constant < r) (sym s.refs) is.below;
        denotes = (n.held, n.name ∙ is.denotes.1 ∙ sym (ap (λ (it : Shown). slot_of it constant) s.shown_as));
        kind = ap (λ (it : Shown). it.kind) n.shown_as ∙ is.kind;
      }

  so-stays : (known : KnownField) → IsSo old known → IsSo new known
  so-stays known so =
      let t = texts-stay old new k known.text so.held so.kind in
      let n = texts-stay old new k so.named (so.constant.denotes.0) so.constant.kind in
      record {
        named = so.named;
        constant = constant-stays known.code known.constant so.named so.constant;
        held = t.held;
        kind = t.kind;
        same = t.bytes ∙ so.same ∙ sym n.bytes;
        place = ap (λ (bytes : List ℕ). located_in (forms_of bytes) known.field) t.bytes ∙ so.place;
      }

  stays : (known : KnownField) → (known.text ≡ 0) ⊎ IsSo old known → (known.text ≡ 0) ⊎ IsSo new known
  stays known (inl none) = inl none
  stays known (inr so) = inr (so-stays known so)

  pub all-stay : (entries : List KnownField) → AreSo old entries → AreSo new entries
  all-stay [] so = tt
  all-stay (known ∷ rest) so = (stays known so.0, all-stay rest so.1)

module _ (here : Heap) where
  none-so : (n : ℕ) (known : KnownField) → known.text ≡ 0 → AreSo here (replicate n known)
  none-so zero known none = tt
  none-so (suc n) known none = (inl none, none-so n known none)

  pub put-so : (entries : List KnownField) (index : ℕ) (known : KnownField) → AreSo here entries → IsSo here known
      → AreSo here (set entries index known)
  put-so [] index known so is = tt
  put-so (k ∷ ks) zero known so is = (inr is, so.1)
  put-so (k ∷ ks) (suc index) known so is = (so.0, put-so ks index known so.1 is)

  said : (entries : List KnownField) (index : ℕ) (known : KnownField) → AreSo here entries → index < length entries
      → known ≡ get_or entries index known → (known.text ≡ 0) ⊎ IsSo here known
  said [] index known so below e = absurd (omega arith)
  said (k ∷ ks) zero known so below e = subst (λ (x : KnownField). (x.text ≡ 0) ⊎ IsSo here x) (sym e) so.0
  said (k ∷ ks) (suc index) known so below e = said ks index known so.1 (omega (arith, below)) e

  pub found-so : (entries : List KnownField) (index code constant field text : ℕ) (known : KnownField) → AreSo here entries → index < length entries
      → known ≡ get_or entries index known → 1 ≤ text → known.text ≡ text → known.code ≡ code → known.constant ≡ constant → known.field ≡ field
      → IsKnown here code constant field text known
  found-so entries index code constant field text known so below found some is of same number = elim (said entries index known so below found) [
    | inl none ↦ absurd (omega (arith, none, is, some))
    | inr fact ↦ record { text_is = is; code_is = of; constant_is = same; field_is = number; so = fact }
  ]

  -- entries that were put after none
  pub fresh-so : (items before : List KnownField) (n : ℕ) (known : KnownField) → before ≡ [] → known.text ≡ 0 → items ≡ take 128 before ++ replicate n known
      → AreSo here items
  fresh-so items before n known empty none is =
      let all : items ≡ replicate n known = is ∙ ap (λ (x : List KnownField). take 128 x ++ replicate n known) empty in
      subst (AreSo here) (sym all) (none-so n known none)

  pub cleared-so : (items : List KnownField) (n : ℕ) (known : KnownField) → known.text ≡ 0 → items ≡ replicate n known → AreSo here items
  cleared-so items n known none is = subst (AreSo here) (sym is) (none-so n known none)

  -- a text to which a slot of a code object refers
  pub slot-text : (code constant at : ℕ) → IsHeld here at → ref_at here code constant ≡ Local at → slot_of (shown_at here code) constant ≡ name_of here (Local at)
  slot-text code constant at held is = slot-name here code constant ∙ ap (name_of here) is
