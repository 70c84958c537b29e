-- The text that an object refers to first, touched.
use Rattle.std.proofs.Common.{sym, take, drop, ◌*◌, inl, inr, ◌≡◌, ◌≢◌, ℕ, true, false, nat_eq, Option, Some, None, refl, ap, ◌∙◌, arith, subst}
use Rattle.std.specs.Prelude.{Ok, Err}
use Rattle.std.proofs.lemmas.List.{get_or_past}
use Rattle.heap_texts.specs.ps_outside.Outside.{Outside}
use Rattle.heap_texts.specs.obj_area.Words.{bytes_of}
use Rattle.heap_texts.specs.obj_layout.Stored.{Space}
use Rattle.heap_texts.specs.obj_layout.Kind.{kind_number}
use Rattle.heap_texts.specs.obj_layout.declared.kind.Kind.{Kind}
use Rattle.heap_texts.specs.obj_layout.declared.kind.Kind.TheVariants.{Text}
use Rattle.heap_texts.specs.obj_layout.declared.reference.Reference.{Reference}
use Rattle.heap_texts.specs.obj_layout.declared.reference.Reference.TheVariants.{Nil, Pid, Local}
use Rattle.heap_texts.specs.obj_layout.declared.vault.VaultFault.TheVariants.{Damaged}
use Rattle.heap_texts.proofs.of_obj_layout.HeaderLaws.{kind_number-injective}
use Rattle.heap_texts.specs.swizzle.declared.fault.SwizzleFault.{SwizzleFault}
use Rattle.heap_texts.specs.swizzle.declared.fault.SwizzleFault.TheVariants.{Vault}
use Rattle.heap_texts.specs.swizzle.Objects.{words_before}
use Rattle.heap_texts.specs.swizzle.Heap.{Heap, IsHeap, IsHeld, top_of, header_at, ref_at}
use Rattle.heap_texts.specs.swizzle.Joint.{shown_at, name_of}
use Rattle.heap_texts.specs.swizzle.Changes.{Touched}
use Rattle.heap_texts.specs.swizzle.Text.{text_at}
use Rattle.heap_texts.specs.swizzle.Touch.{Denotes, Keeps, Only, IsNear, IsTouchCall}
use Rattle.heap_texts.specs.swizzle.Reading.{joint}
use Rattle.heap_texts.proofs.of_swizzle.NameLaws.{shown-counts, name-not_nil}
use Rattle.heap_texts.proofs.of_swizzle.ReadingLaws.{leaves-none, leaves-touch}
use Rattle.heap_places.specs.Shapes.{slot_of, IsText}
use Rattle.heap_places.specs.Places.{FirstText, TouchesText}
use Rattle.heap_places.proofs.PlaceLaws.{slot-name, reads-slot, denotes-slot, fails-damage}

-- kinds go by their numbers
pub kinds-same : (k l : Kind) → nat_eq (kind_number k) (kind_number l) ≡ true → k ≡ l
kinds-same k l e = kind_number-injective k l (grind arith)

pub kinds-differ : (k l : Kind) → nat_eq (kind_number k) (kind_number l) ≡ false → k ≢ l
kinds-differ k l e same = let n : kind_number k ≡ kind_number l = ap kind_number same in grind arith

-- it refers to none
pub text-none : (heap : Heap) (outside : Outside Space) (at : ℕ) (fault : SwizzleFault) → IsHeap heap → IsHeld heap at → (header_at heap at).refs ≡ 0
    → fault ≡ Vault (Damaged (header_at heap at).pid 0 1)
    → TouchesText heap heap outside outside at (Err fault)
text-none heap outside at fault h held none named = (
  fails-damage outside outside (header_at heap at).pid 0 1 fault (leaves-none outside) named,
  inl (inl (get_or_past (shown_at heap at).refs 0 Nil (omega (arith, (shown-counts heap at h held).0, none)), named)),
)

-- it refers to a text
pub text-there : (old new : Heap) (a b : Outside Space) (at text : ℕ) (to : Option ℕ) → to ≡ Some text → Denotes new to (name_of old (ref_at old at 0))
    → Keeps old new → Touched (joint old a) (joint new b) (name_of old (ref_at old at 0))
    → (IsNear old (name_of old (ref_at old at 0)) → top_of new ≡ top_of old) → Only old new (name_of old (ref_at old at 0)) → IsTouchCall old new a b (Ok to)
    → nat_eq (kind_number (header_at new text).kind) 1 ≡ true → FirstText old new a b at text
text-there old new a b at text to is denotes keeps touched near only call kind =
    let seen : Denotes new (Some text) (name_of old (ref_at old at 0)) = subst (λ (t : Option ℕ). Denotes new t (name_of old (ref_at old at 0))) is denotes in
    record {
      held = seen.0;
      kind = kinds-same (header_at new text).kind Text kind;
      denotes = denotes-slot old new at 0 (Some text) seen;
      reads = reads-slot old new a b at 0 to keeps touched near only call;
    }

-- it refers to what is no text
pub text-other : (old new : Heap) (a b : Outside Space) (at other number : ℕ) (to : Option ℕ) (fault : SwizzleFault) → to ≡ Some other
    → Denotes new to (name_of old (ref_at old at 0)) → Keeps old new → Touched (joint old a) (joint new b) (name_of old (ref_at old at 0))
    → IsTouchCall old new a b (Ok to) → nat_eq (kind_number (header_at new other).kind) 1 ≡ false → number ≡ kind_number (header_at new other).kind
    → fault ≡ Vault (Damaged (header_at new other).pid number 1)
    → TouchesText old new a b at (Err fault)
text-other old new a b at other number to fault some denotes keeps touched call kind is named =
    let seen : Denotes new (Some other) (name_of old (ref_at old at 0)) = subst (λ (t : Option ℕ). Denotes new t (name_of old (ref_at old at 0))) some
    denotes in
    let all = named ∙ ap (λ (n : ℕ). Vault (Damaged (header_at new other).pid n 1)) is in (
      fails-damage a b (header_at new other).pid number 1 fault (leaves-touch old new a b (Ok to) call) named,
      inl (inr (other, denotes-slot old new at 0 (Some other) seen, kinds-differ (header_at new other).kind Text kind, keeps, touched.grows, all)),
    )

ref-nil : (heap : Heap) (r : Reference) → name_of heap r ≡ Nil → r ≡ Nil
ref-nil heap Nil e = refl
ref-nil heap (Pid pid) e = absurd (cc)
ref-nil heap (Local at) e = absurd (name-not_nil heap at e)

-- it refers to nil
pub text-nil : (old new : Heap) (a b : Outside Space) (at : ℕ) (to : Option ℕ) (fault : SwizzleFault) → to ≡ None
    → Denotes new to (name_of old (ref_at old at 0)) → IsTouchCall old new a b (Ok to)
    → (ref_at old at 0 ≡ Nil → new ≡ old) → fault ≡ Vault (Damaged (header_at new at).pid 0 1) → TouchesText old new a b at (Err fault)
text-nil old new a b at to fault none denotes call still named =
    let seen : name_of old (ref_at old at 0) ≡ Nil = subst (λ (t : Option ℕ). Denotes new t (name_of old (ref_at old at 0))) none denotes in
    let same = still (ref-nil old (ref_at old at 0) seen) in
    let all = named ∙ ap (λ (h : Heap). Vault (Damaged (header_at h at).pid 0 1)) same in
    (fails-damage a b (header_at new at).pid 0 1 fault (leaves-touch old new a b (Ok to) call) named, inl (inl (slot-name old at 0 ∙ seen, all)))

-- The text that was touched is one in the map of all objects.

bytes-shown : (heap : Heap) (text : ℕ) → (header_at heap text).kind ≡ Text
    → take (header_at heap text).bytes (drop 8 (bytes_of (shown_at heap text).nums)) ≡ text_at heap text
bytes-shown heap text kind = ap (λ (k : Kind). take (header_at heap text).bytes (drop (8 * words_before k) (bytes_of (shown_at heap text).nums))) (sym kind)

pub text-seen : (old new : Heap) (a b : Outside Space) (at text : ℕ) → FirstText old new a b at text
    → IsText (joint new b) (slot_of (shown_at old at) 0) (text_at new text)
text-seen old new a b at text f = record {
  it = shown_at new text;
  there = inl (record { at = text; held = f.held; name_is = sym f.denotes.1; shown_is = refl });
  kind = f.kind;
  bytes_are = bytes-shown new text f.kind;
}
