-- Entries of classes by which structures are made, and what they tell.
use Rattle.std.proofs.Common.{inl, inr, ◌≡◌, ℕ, zero, suc, ◌<◌, ◌⊎◌, List, [], ◌∷◌, length, set, replicate, get_or, take, ◌++◌, sym, ap, ◌∙◌, arith, subst}
use Rattle.std.proofs.lemmas.List.{get_or_default}
use Rattle.joint_ops.specs.swizzle.Heap.{Heap}
use Rattle.joint_ops.specs.text_forms.Forms.{forms_of}
use Rattle.joint_ops.specs.proc_values.Loaded.{CodeStays}
use Rattle.structure_rows.specs.Marks.{TellRows}
use Rattle.objects.specs.declared.class_rows.ClassRows.{ClassRows}
use Rattle.objects.specs.declared.known_makes.KnownMake.{KnownMake}
use Rattle.objects.specs.Makes.{HasRows, IsMadeBy, AreSo}
use Rattle.objects.proofs.FieldEntries.{texts-stay, constant-stays}

-- what an entry says is so, or it says nothing
abbrev Says : Heap → KnownMake → Type 0
Says here known = (known.class.text ≡ 0) ⊎ IsMadeBy here known.code known.constant known.class

module _ (old new : Heap) (k : CodeStays old new) where
  pub rows-stay : (class : ClassRows) → HasRows old class → HasRows new class
  rows-stay class so =
      let t = texts-stay old new k class.text so.held so.kind in
      record {
        held = t.held;
        kind = t.kind;
        tells = subst (λ (bytes : List ℕ). TellRows class.fields (forms_of bytes)) (sym t.bytes) so.tells;
      }

  so-stays : (code constant : ℕ) (class : ClassRows) → IsMadeBy old code constant class → IsMadeBy new code constant class
  so-stays code constant class so =
      let t = texts-stay old new k class.text so.rows.held so.rows.kind in
      let n = texts-stay old new k so.named (so.is.denotes.0) so.is.kind in
      record {
        rows = rows-stay class so.rows;
        named = so.named;
        is = constant-stays old new k code constant so.named so.is;
        same = t.bytes ∙ so.same ∙ sym n.bytes;
      }

  stays : (known : KnownMake) → Says old known → Says new known
  stays known (inl none) = inl none
  stays known (inr so) = inr (so-stays known.code known.constant known.class so)

  pub makes-stay : (entries : List KnownMake) → AreSo old entries → AreSo new entries
  makes-stay [] so = tt
  makes-stay (known ∷ rest) so = (stays known so.0, makes-stay rest so.1)

module _ (here : Heap) where
  none-so : (n : ℕ) (known : KnownMake) → known.class.text ≡ 0 → AreSo here (replicate n known)
  none-so zero known none = tt
  none-so (suc n) known none = (inl none, none-so n known none)

  pub put-so : (entries : List KnownMake) (index : ℕ) (known : KnownMake) → AreSo here entries → IsMadeBy here known.code known.constant known.class
      → AreSo here (set entries index known)
  put-so [] index known so is = tt
  put-so (k ∷ ks) zero known so is = (inr is, so.1)
  put-so (k ∷ ks) (suc index) known so is = (so.0, put-so ks index known so.1 is)

  said : (entries : List KnownMake) (index : ℕ) (known : KnownMake) → AreSo here entries → index < length entries
      → known ≡ get_or entries index known → Says here known
  said [] index known so below e = absurd (omega arith)
  said (k ∷ ks) zero known so below e = subst (Says here) (sym e) so.0
  said (k ∷ ks) (suc index) known so below e = said ks index known so.1 (omega (arith, below)) e

  the-make : (entries : List KnownMake) (index : ℕ) (known : KnownMake) → AreSo here entries → index < length entries
      → known ≡ get_or entries index known → (known.class.text ≡ 0 → ⊥) → IsMadeBy here known.code known.constant known.class
  the-make entries index known so below found some = elim (said entries index known so below found) [
    | inl none ↦ absurd (some none)
    | inr is ↦ is
  ]

  pub found-so : (entries : List KnownMake) (index code constant : ℕ) (known : KnownMake) → AreSo here entries → index < length entries
      → known ≡ get_or entries index known → (known.class.text ≡ 0 → ⊥) → known.code ≡ code → known.constant ≡ constant
      → IsMadeBy here code constant known.class
  found-so entries index code constant known so below found some of is =
      subst (λ (c : ℕ). IsMadeBy here c constant known.class) of
      (subst (λ (k : ℕ). IsMadeBy here known.code k known.class) is (the-make entries index known so below found some))

  -- one of the entries
  pub listed-so : (entries items : List KnownMake) (index : ℕ) (usual : KnownMake) → AreSo here entries → items ≡ entries → index < length items
      → ((get_or items index usual).class.text ≡ 0 → ⊥) → HasRows here (get_or items index usual).class
  listed-so entries items index usual so same below some =
      let inside : index < length entries = subst (λ (xs : List KnownMake). index < length xs) same below in
      (the-make entries index (get_or items index usual) so inside
      (ap (λ (xs : List KnownMake). get_or xs index usual) same ∙ get_or_default entries index usual (get_or items index usual) inside) some).rows

  -- entries that were put after none
  pub fresh-so : (items before : List KnownMake) (n : ℕ) (known : KnownMake) → before ≡ [] → known.class.text ≡ 0
      → items ≡ take 64 before ++ replicate n known → AreSo here items
  fresh-so items before n known empty none is =
      let all : items ≡ replicate n known = is ∙ ap (λ (x : List KnownMake). take 64 x ++ replicate n known) empty in
      subst (AreSo here) (sym all) (none-so n known none)

  pub cleared-so : (items : List KnownMake) (n : ℕ) (known : KnownMake) → known.class.text ≡ 0 → items ≡ replicate n known → AreSo here items
  cleared-so items n known none is = subst (AreSo here) (sym is) (none-so n known none)
