-- The way out, from scope to scope.
use Rattle.std.proofs.Common.{inl, inr, ◌≡◌, ◌≢◌, ℕ, ◌+◌, ◌<◌, ◌≤◌, List, [], ◌∷◌, ◌++◌, length, length-append, Bool, true, false, nat_eq, Option, Some, None, refl, sym, ap, ◌∙◌, arith, get_or}
use Rattle.std.specs.Prelude.{Result, Ok, Err, IfOk, IfErr, OnOk, unwrap_or}
use Rattle.std.proofs.lemmas.Bool.{cases_lt}
use Rattle.std.proofs.lemmas.Bool.Decides.{nat_tests}
use Rattle.std.proofs.lemmas.Grind.{common_steps}
use Rattle.closures.specs.ps_outside.Outside.{Outside, SameContents}
use Rattle.closures.specs.obj_layout.Kind.{kind_number}
use Rattle.closures.specs.obj_layout.Stored.{Space, damage}
use Rattle.closures.specs.obj_layout.declared.reference.Reference.{Reference}
use Rattle.closures.specs.obj_layout.declared.reference.Reference.TheVariants.{Nil, Local}
use Rattle.closures.specs.obj_layout.declared.vault.VaultFault.TheVariants.{Damaged}
use Rattle.closures.specs.swizzle.declared.fault.SwizzleFault.{SwizzleFault}
use Rattle.closures.specs.swizzle.declared.fault.SwizzleFault.TheVariants.{AreaFull, Vault}
use Rattle.closures.specs.swizzle.Heap.{Heap, IsHeap, IsHeld, nothing, top_of, header_at, ref_at}
use Rattle.closures.specs.swizzle.Objects.{Object}
use Rattle.closures.specs.swizzle.Joint.{Shown, shown_at, name_at, name_of}
use Rattle.closures.specs.swizzle.Changes.{Within, Touched}
use Rattle.closures.specs.swizzle.Touch.{Denotes, Keeps, Only, IsNear, IsTouchCall, IsTouchFault}
use Rattle.closures.specs.swizzle.Reading.{joint, Reads}
use Rattle.closures.proofs.of_swizzle.DamageLaws.{passes-same, reports-same}
use Rattle.closures.proofs.of_swizzle.NameLaws.{shown-counts, name-not_nil}
use Rattle.closures.proofs.of_swizzle.ReadingLaws.{reads-none, reads-then, leaves-then, fails-touch, fails-then}
use Rattle.closures.specs.heap_places.Shapes.{slot_of}
use Rattle.closures.specs.heap_places.Places.{NamesDamage, FailsFetch}
use Rattle.closures.proofs.of_heap_places.PlaceLaws.{slot-name, refs_below, reads-slot, denotes-slot, names-damage, fails-damage}
use Rattle.heap_ops.proofs.ClassLaws.{pid-kept, same-before}
use Rattle.heap_ops.proofs.FieldLaws.{fetch-fault}
use Rattle.scopes.specs.Way.{way_damage, HasParent, TellsParent, IsParent, LeadsOver, end_of, LeadsOut, GoesOut}

-- What is wrong with an object on the way.

way-kind : (it : Shown) → nat_eq (kind_number it.kind) 4 ≡ false → way_damage it ≡ damage (kind_number it.kind) 4
unfolding way_damage
way-kind it other = grind (arith, nat_tests, common_steps)

way-refs : (it : Shown) → nat_eq (kind_number it.kind) 4 ≡ true → length it.refs < 2 → way_damage it ≡ damage (length it.refs) 2
unfolding way_damage
way-refs it same short = grind (arith, nat_tests, common_steps)

way-none : (it : Shown) → nat_eq (kind_number it.kind) 4 ≡ true → 2 ≤ length it.refs → way_damage it ≡ None
unfolding way_damage
way-none it same long = grind (arith, nat_tests, common_steps)

way-other : (it : Shown) → way_damage it ≡ None → nat_eq (kind_number it.kind) 4 ≢ false
way-other it none other = let no = sym (way-kind it other) ∙ none in cc

way-two : (it : Shown) → way_damage it ≡ None → nat_eq (kind_number it.kind) 4 ≡ true → 2 ≤ length it.refs
way-two it none same = elim (cases_lt (length it.refs) 2) [
  | inl short ↦ let no = sym (way-refs it same short) ∙ none in absurd (cc)
  | inr long ↦ long
]

two-slots : (it : Shown) → way_damage it ≡ None → 2 ≤ length it.refs
two-slots it none = of (nat_eq (kind_number it.kind) 4) refl
  where
    of : (b : Bool) → nat_eq (kind_number it.kind) 4 ≡ b → 2 ≤ length it.refs
    of true same = way-two it none same
    of false other = absurd (way-other it none other)

pub kind-damaged : (heap : Heap) (at : ℕ) (fault : SwizzleFault) → nat_eq (kind_number (header_at heap at).kind) 4 ≡ false
    → fault ≡ Vault (Damaged (header_at heap at).pid (kind_number (header_at heap at).kind) 4)
    → NamesDamage heap at (way_damage (shown_at heap at)) fault
kind-damaged heap at fault other named =
    names-damage heap at (way_damage (shown_at heap at)) (kind_number (header_at heap at).kind) 4 fault (way-kind (shown_at heap at) other) named

pub refs-damaged : (heap : Heap) (at found : ℕ) (fault : SwizzleFault) → IsHeap heap → IsHeld heap at
    → nat_eq (kind_number (header_at heap at).kind) 4 ≡ true → found ≡ (header_at heap at).refs → found < 2
    → fault ≡ Vault (Damaged (header_at heap at).pid found 2) → NamesDamage heap at (way_damage (shown_at heap at)) fault
refs-damaged heap at found fault h held same is short named =
    let count : length (shown_at heap at).refs ≡ found = (shown-counts heap at h held).0 ∙ sym is in
    names-damage heap at (way_damage (shown_at heap at)) found 2 fault
    (way-refs (shown_at heap at) same (omega (arith, count, short)) ∙ ap (λ (n : ℕ). damage n 2) count) named

pub not-damaged : (heap : Heap) (at found : ℕ) → IsHeap heap → IsHeld heap at → nat_eq (kind_number (header_at heap at).kind) 4 ≡ true
    → found ≡ (header_at heap at).refs → 2 ≤ found → way_damage (shown_at heap at) ≡ None
not-damaged heap at found h held same is long =
    way-none (shown_at heap at) same (omega (arith, (shown-counts heap at h held).0, is, long))

-- The parent of a scope.

pub parent-near : (heap : Heap) (at parent : ℕ) → IsHeap heap → IsHeld heap at → ref_at heap at 1 ≡ Local parent
    → Denotes heap (Some parent) (slot_of (shown_at heap at) 1)
parent-near heap at parent h held is = (
  h.inside at held.object held.is 1 parent (sym (ap (λ (o : Option Object). get_or (unwrap_or o nothing).refs 1 Nil) held.is) ∙ is),
  sym (slot-name heap at 1 ∙ ap (name_of heap) is),
)

pub parent-below : (heap : Heap) (at : ℕ) → IsHeap heap → IsHeld heap at → way_damage (shown_at heap at) ≡ None → 1 < (header_at heap at).refs
parent-below heap at h held none = refs_below heap at 1 h held (omega (arith, two-slots (shown_at heap at) none))

pub tells : (old new : Heap) (a b : Outside Space) (at : ℕ) (r : Result (Option ℕ) SwizzleFault) → way_damage (shown_at old at) ≡ None
    → IfOk r (λ to. Denotes new to (name_of old (ref_at old at 1))) → OnOk r (Keeps old new)
    → OnOk r (Touched (joint old a) (joint new b) (name_of old (ref_at old at 1)))
    → (IsNear old (name_of old (ref_at old at 1)) → top_of new ≡ top_of old) → OnOk r (Only old new (name_of old (ref_at old at 1)))
    → IsTouchCall old new a b r → IfErr r (IsTouchFault old a (ref_at old at 1)) → TellsParent old new a b at r
tells old new a b at (Ok to) sound target keeps touched near only call fault = record {
  sound = sound;
  denotes = denotes-slot old new at 1 to target;
  reads = reads-slot old new a b at 1 to keeps touched near only call;
}
tells old new a b at (Err f) sound target keeps touched near only call fault = (fails-touch old new a b f call, inr (sound, fault))

-- The way, gone further.

led-grows : (seen now : Reference → Shown → Type 0) (name : Reference) (parents : List Reference) → Within seen now → LeadsOver seen name parents
    → LeadsOver now name parents
led-grows seen now name [] grows way = tt
led-grows seen now name (parent ∷ parents) grows way = (
  record { it = way.0.it; there = grows name way.0.it way.0.there; sound = way.0.sound; parent_is = way.0.parent_is; some = way.0.some },
  led-grows seen now parent parents grows way.1,
)

led-more : (seen : Reference → Shown → Type 0) (name : Reference) (parents : List Reference) (next : Reference) → LeadsOver seen name parents
    → IsParent seen (end_of name parents) next → LeadsOver seen name (parents ++ next ∷ [])
led-more seen name [] next way step = (step, tt)
led-more seen name (parent ∷ parents) next way step = (way.0, led-more seen parent parents next way.1 step)

end-more : (name : Reference) (parents : List Reference) (next : Reference) → end_of name (parents ++ next ∷ []) ≡ next
end-more name [] next = refl
end-more name (parent ∷ parents) next = end-more parent parents next

pub led-further : (old mid new : Heap) (a b c : Outside Space) (scope up at parent : ℕ) → LeadsOut old mid a b scope up at
    → HasParent mid new b c at (Some parent) → LeadsOut old new a c scope (up + 1) parent
led-further old mid new a b c scope up at parent l p =
    let next = slot_of (shown_at mid at) 1 in
    let step : IsParent (joint mid b) (end_of (name_at old scope) l.parents) next = record {
      it = shown_at mid at;
      there = inl (record { at = at; held = l.denotes.0; name_is = sym l.denotes.1; shown_is = refl });
      sound = p.sound;
      parent_is = refl;
      some = λ nil. name-not_nil new parent (p.denotes.1 ∙ nil);
    } in
    record {
      parents = l.parents ++ next ∷ [];
      levels = omega (arith, length-append l.parents (next ∷ []), l.levels);
      way = led-grows (joint mid b) (joint new c) (name_at old scope) (l.parents ++ next ∷ []) p.reads.grows
          (led-more (joint mid b) (name_at old scope) l.parents next l.way step);
      denotes = (p.denotes.0, p.denotes.1 ∙ sym (end-more (name_at old scope) l.parents next));
      reads = reads-then old mid new a b c l.parents (next ∷ []) l.reads p.reads;
    }

-- It ends early.

-- what was read on the way is seen of what the vault held before
led-seen : (old mid : Heap) (a b : Outside Space) (names : List Reference) → Reads old mid a b names → Within (joint old a) (joint mid a)
led-seen old mid a b names reads name it seen = same-before mid a b reads.outside.contents name it (reads.grows name it seen)

pub ends-nil : (old mid new : Heap) (a b c : Outside Space) (scope up gone at : ℕ) (fault : SwizzleFault) → IsHeap mid → gone < up
    → LeadsOut old mid a b scope gone at → HasParent mid new b c at None → fault ≡ Vault (Damaged (header_at new at).pid 0 1)
    → GoesOut old new a c scope up (Err fault)
ends-nil old mid new a b c scope up gone at fault h less l p named =
    let all = named ∙ ap (λ (n : ℕ). Vault (Damaged n 0 1)) (pid-kept mid new at p.reads.keeps l.denotes.0) in (
      fails-damage a c _ _ _ fault (leaves-then a b c l.reads.outside p.reads.outside) named,
      record {
        mid = mid;
        heap = h;
        keeps = l.reads.keeps;
        grows = led-seen old mid a b l.parents l.reads;
        parents = l.parents;
        at = at;
        levels = omega (arith, l.levels, less);
        way = led-grows (joint mid b) (joint mid a) (name_at old scope) l.parents (same-before mid a b l.reads.outside.contents) l.way;
        denotes = l.denotes;
        why = inr (inl (p.sound, p.denotes, names-damage mid at (damage 0 1) 0 1 fault refl all));
      },
    )

fetch-before : (mid : Heap) (a b : Outside Space) (name : Reference) (fault : SwizzleFault) → SameContents a b → FailsFetch mid b name fault
    → FailsFetch mid a name fault
fetch-before mid a b name (AreaFull top wanted size) same f = (
  f.0,
  f.1,
  f.2,
  (
    f.3.0,
    f.3.1,
    f.3.2,
    passes-same a b f.3.0 same f.3.3,
    λ words stored. f.3.4 words (record { space = stored.space; is = same.kept stored.space stored.is; has = stored.has }),
  ),
)
fetch-before mid a b name (Vault refused) same f = (f.0, f.1, f.2, reports-same a b f.0 refused same f.3)

pub ends-fault : (old mid new : Heap) (a b c : Outside Space) (scope up gone at : ℕ) (fault : SwizzleFault) → IsHeap mid → gone < up
    → LeadsOut old mid a b scope gone at → TellsParent mid new b c at (Err fault) → GoesOut old new a c scope up (Err fault)
ends-fault old mid new a b c scope up gone at fault h less l t = (
  fails-then old mid a b c l.parents fault l.reads t.0,
  record {
    mid = mid;
    heap = h;
    keeps = l.reads.keeps;
    grows = led-seen old mid a b l.parents l.reads;
    parents = l.parents;
    at = at;
    levels = omega (arith, l.levels, less);
    way = led-grows (joint mid b) (joint mid a) (name_at old scope) l.parents (same-before mid a b l.reads.outside.contents) l.way;
    denotes = l.denotes;
    why = elim (t.1) [
      | inl damaged ↦ inl damaged
      | inr touch ↦ inr (inr (
        touch.0,
        fetch-before mid a b (slot_of (shown_at mid at) 1) fault l.reads.outside.contents
            (fetch-fault mid mid b b at 1 [] fault h l.denotes.0 refl (reads-none mid b []) touch.1),
      ))
    ];
  },
)
