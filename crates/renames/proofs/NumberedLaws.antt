-- A new PID renames one object.
use Rattle.std.proofs.Common.{zero, suc, inl, inr, ◌⊎◌, ◌≡◌, ◌≢◌, ℕ, ◌+◌, ◌≤◌, List, [], ◌∷◌, map, get_or, refl, sym, ap, ◌∙◌, subst, arith, Option, Some, None, if◌then◌else◌, ◌==◌}
use Rattle.std.proofs.lemmas.Bool.{cases_eq}
use Rattle.heap_meaning.specs.obj_layout.declared.reference.Reference.{Reference}
use Rattle.heap_meaning.specs.obj_layout.declared.reference.Reference.TheVariants.{Nil, Pid, Local}
use Rattle.heap_meaning.specs.swizzle.Objects.{Object, size_of, object_in, find_from, replace_from}
use Rattle.heap_meaning.specs.swizzle.Heap.{Heap, IsHeap, IsHeld, found, object_at, header_at, local_from, local_of, with_object}
use Rattle.heap_meaning.specs.swizzle.Joint.{Shown, shown, name_by, name_at, name_of, shown_at, shown_words, far_of, InArea, InVault, Joint}
use Rattle.heap_meaning.specs.swizzle.Changes.{IsKnown, Same}
use Rattle.heap_meaning.proofs.of_swizzle.ObjectLaws.{here, elsewhere}
use Rattle.heap_meaning.proofs.of_swizzle.HeapLaws.{first_is, behind_is, held-replaced, find-replaced_other}
use Rattle.heap_meaning.proofs.of_swizzle.KeptLaws.{held_is}
use Rattle.heap_meaning.proofs.of_swizzle.NameLaws.{name-pid, name-none, same_shown}
use Rattle.heap_meaning.proofs.of_swizzle.JointLaws.{object-replaced, object-replaced_other}
use Rattle.renames.specs.Renames.{renamed, Before, Renames}
use Rattle.heap_meaning.specs.swizzle.Numbered.{numbered, with_pid}
use Rattle.heap_meaning.proofs.of_swizzle.NumberedLaws.{local-numbered}
use Rattle.renames.specs.Numbered.{renamed_at, SameAway}

held-back : (heap : Heap) (at j : ℕ) (new : Object) → IsHeld heap at → size_of new ≡ size_of (object_at heap at) → IsHeld (with_object heap at new) j → IsHeld heap j
held-back heap at j new held long now =
    elim (cases_eq j at) [
      | inl there ↦ subst (IsHeld heap) (sym there) held
      | inr apart ↦ record { object = now.object; is = sym (find-replaced_other 1 heap.objects at j (object_at heap at) new (held_is heap at held) long apart) ∙ now.is }
    ]

renamed_far : (at pid : ℕ) (refs : List Reference) → map (renamed_at at pid) (map far_of refs) ≡ map far_of refs
renamed_far at pid [] = refl
renamed_far at pid (Nil ∷ rs) = ap (λ (r : List Reference). Nil ∷ r) (renamed_far at pid rs)
renamed_far at pid (Pid p ∷ rs) = ap (λ (r : List Reference). Pid p ∷ r) (renamed_far at pid rs)
renamed_far at pid (Local i ∷ rs) = ap (λ (r : List Reference). Nil ∷ r) (renamed_far at pid rs)

words_renamed : (at pid : ℕ) (words : List ℕ) → shown_words words ≡ renamed (renamed_at at pid) (shown_words words)
words_renamed at pid words = ap (λ (rs : List Reference). record (shown_words words) { refs = rs }) (sym (renamed_far at pid (object_in words).refs))

pub name-numbered : (heap : Heap) (at pid chain j : ℕ) → IsHeap heap → IsHeld heap at → (header_at heap at).pid ≡ 0 → 1 ≤ pid → name_at (with_pid heap at pid chain) j ≡ renamed_at at pid (name_at heap j)
name-numbered heap at pid chain j h held none low =
    let o = object_at heap at in
    let new = numbered o pid chain in
    elim (cases_eq j at) [
      | inl same ↦
          let it : object_at (with_pid heap at pid chain) j ≡ new = ap (object_at (with_pid heap at pid chain)) same ∙ object-replaced heap at new held in
          ap (λ (x : Object). name_by x.header j) it
          ∙ name-pid new.header j low
          ∙ sym (here j at (Pid pid) (Local j) same)
          ∙ ap (renamed_at at pid) (sym (name-none (header_at heap j) j (ap (λ (n : ℕ). (header_at heap n).pid) same ∙ none)))
      | inr apart ↦
          let it = ap (λ (x : Object). name_by x.header j) (object-replaced_other heap at j new held refl apart) in
          it ∙ elim (cases_eq (header_at heap j).pid 0) [
            | inl z ↦ let n = name-none (header_at heap j) j z in n ∙ sym (ap (renamed_at at pid) n ∙ elsewhere j at (Pid pid) (Local j) apart)
            | inr s ↦ let n = name-pid (header_at heap j) j (omega arith) in n ∙ sym (ap (renamed_at at pid) n)
          ]
    ]

names-numbered : (heap : Heap) (at pid chain : ℕ) (refs : List Reference) → IsHeap heap → IsHeld heap at → (header_at heap at).pid ≡ 0 → 1 ≤ pid → map (name_of (with_pid heap at pid chain)) refs ≡ map (renamed_at at pid) (map (name_of heap) refs)
names-numbered heap at pid chain [] h held none low = refl
names-numbered heap at pid chain (Nil ∷ rs) h held none low = ap (λ (r : List Reference). Nil ∷ r) (names-numbered heap at pid chain rs h held none low)
names-numbered heap at pid chain (Pid p ∷ rs) h held none low = ap (λ (r : List Reference). Pid p ∷ r) (names-numbered heap at pid chain rs h held none low)
names-numbered heap at pid chain (Local i ∷ rs) h held none low =
    let one = name-numbered heap at pid chain i h held none low in
    let more = names-numbered heap at pid chain rs h held none low in
    cc

refs_shown : (heap new : Heap) (at pid : ℕ) (a o : Object) → a.header.kind ≡ o.header.kind → a.header.bytes ≡ o.header.bytes → a.nums ≡ o.nums → map (name_of new) a.refs ≡ map (renamed_at at pid) (map (name_of heap) o.refs) → shown (name_of new) a ≡ renamed (renamed_at at pid) (shown (name_of heap) o)
refs_shown heap new at pid a o k y n r = same_shown k y n r

pub shown-numbered : (heap : Heap) (at pid chain j : ℕ) → IsHeap heap → IsHeld heap at → (header_at heap at).pid ≡ 0 → 1 ≤ pid → shown_at (with_pid heap at pid chain) j ≡ renamed (renamed_at at pid) (shown_at heap j)
shown-numbered heap at pid chain j h held none low =
    let o = object_at heap at in
    let now = with_pid heap at pid chain in
    elim (cases_eq j at) [
      | inl same ↦
          let it : object_at now j ≡ numbered o pid chain = ap (object_at now) same ∙ object-replaced heap at (numbered o pid chain) held in
          let was : o ≡ object_at heap j = ap (object_at heap) (sym same) in
          refs_shown heap now at pid (object_at now j) (object_at heap j)
          (ap (λ (x : Object). x.header.kind) it ∙ ap (λ (x : Object). x.header.kind) was)
          (ap (λ (x : Object). x.header.bytes) it ∙ ap (λ (x : Object). x.header.bytes) was)
          (ap (λ (x : Object). x.nums) it ∙ ap (λ (x : Object). x.nums) was)
          (ap (λ (x : Object). map (name_of now) x.refs) it ∙ names-numbered heap at pid chain o.refs h held none low ∙ ap (λ (x : Object). map (renamed_at at pid) (map (name_of heap) x.refs)) was)
      | inr apart ↦
          let it = object-replaced_other heap at j (numbered o pid chain) held refl apart in
          refs_shown heap now at pid (object_at now j) (object_at heap j)
          (ap (λ (x : Object). x.header.kind) it)
          (ap (λ (x : Object). x.header.bytes) it)
          (ap (λ (x : Object). x.nums) it)
          (ap (λ (x : Object). map (name_of now) x.refs) it ∙ names-numbered heap at pid chain (object_at heap j).refs h held none low)
    ]

-- different names get different names
renamed-injective : (at pid : ℕ) (n m : Reference) → n ≢ Pid pid → m ≢ Pid pid → renamed_at at pid n ≡ renamed_at at pid m → n ≡ m
renamed-injective at pid Nil Nil a b e = refl
renamed-injective at pid Nil (Pid q) a b e = e
renamed-injective at pid Nil (Local j) a b e = elim (cases_eq j at) [
  | inl w ↦ let bad : Nil ≡ Pid pid = e ∙ here j at (Pid pid) (Local j) w in absurd (cc)
  | inr w ↦ e ∙ elsewhere j at (Pid pid) (Local j) w
]
renamed-injective at pid (Pid p) Nil a b e = e
renamed-injective at pid (Pid p) (Pid q) a b e = e
renamed-injective at pid (Pid p) (Local j) a b e = elim (cases_eq j at) [
  | inl w ↦ absurd (a (e ∙ here j at (Pid pid) (Local j) w))
  | inr w ↦ e ∙ elsewhere j at (Pid pid) (Local j) w
]
renamed-injective at pid (Local i) Nil a b e = elim (cases_eq i at) [
  | inl w ↦ let bad : Pid pid ≡ Nil = sym (here i at (Pid pid) (Local i) w) ∙ e in absurd (cc)
  | inr w ↦ sym (elsewhere i at (Pid pid) (Local i) w) ∙ e
]
renamed-injective at pid (Local i) (Pid q) a b e = elim (cases_eq i at) [
  | inl w ↦ absurd (b (sym e ∙ here i at (Pid pid) (Local i) w))
  | inr w ↦ sym (elsewhere i at (Pid pid) (Local i) w) ∙ e
]
renamed-injective at pid (Local i) (Local j) a b e = elim (cases_eq i at) [
  | inl w ↦ elim (cases_eq j at) [
    | inl v ↦ ap (λ (k : ℕ). Local k) (w ∙ sym v)
    | inr v ↦ let bad : Pid pid ≡ Local j = sym (here i at (Pid pid) (Local i) w) ∙ e ∙ elsewhere j at (Pid pid) (Local j) v in absurd (cc)
  ]
  | inr w ↦ elim (cases_eq j at) [
    | inl v ↦ let bad : Local i ≡ Pid pid = sym (elsewhere i at (Pid pid) (Local i) w) ∙ e ∙ here j at (Pid pid) (Local j) v in absurd (cc)
    | inr v ↦ sym (elsewhere i at (Pid pid) (Local i) w) ∙ e ∙ elsewhere j at (Pid pid) (Local j) v
  ]
]

renamed-some : (at pid : ℕ) (n : Reference) → renamed_at at pid n ≡ Nil → n ≡ Nil
renamed-some at pid Nil e = e
renamed-some at pid (Pid p) e = e
renamed-some at pid (Local j) e = elim (cases_eq j at) [
  | inl w ↦ let bad : Pid pid ≡ Nil = sym (here j at (Pid pid) (Local j) w) ∙ e in absurd (cc)
  | inr w ↦ sym (elsewhere j at (Pid pid) (Local j) w) ∙ e
]

-- no object had the PID
unknown : (heap : Heap) (holds : ℕ → List ℕ → Type 0) (pid : ℕ) → IsHeap heap → 1 ≤ pid → local_of heap pid ≡ None → ((words : List ℕ) → holds pid words → ⊥) → (it : Shown) → Joint heap holds (Pid pid) it → ⊥
unknown heap holds pid h low away unheld it (inl a) =
    elim (cases_eq (header_at heap a.at).pid 0) [
      | inl z ↦ let bad : Pid pid ≡ Local a.at = a.name_is ∙ name-none (header_at heap a.at) a.at z in absurd (cc)
      | inr s ↦
          let named : Pid pid ≡ Pid (header_at heap a.at).pid = a.name_is ∙ name-pid (header_at heap a.at) a.at (omega arith) in
          let same : pid ≡ (header_at heap a.at).pid = cc in
          let there = h.one a.at (object_at heap a.at) (held_is heap a.at a.held) (omega (arith, low, same)) in
          let bad : None ≡ Some a.at = sym away ∙ (ap (local_of heap) same ∙ there) in
          absurd (cc)
    ]
unknown heap holds pid h low away unheld it (inr v) =
    let same : pid ≡ v.pid = pid_same pid v.pid v.name_is in
    unheld v.words (subst (λ p. holds p v.words) (sym same) v.there)
  where
    pid_same : (a b : ℕ) → Pid a ≡ Pid b → a ≡ b
    pid_same a b e = cc

-- the one map after an object got a PID that no object had
pub joint-numbered : (heap : Heap) (holds : ℕ → List ℕ → Type 0) (at pid chain : ℕ) → IsHeap heap → IsHeld heap at → (header_at heap at).pid ≡ 0 → 1 ≤ pid → local_of heap pid ≡ None → ((words : List ℕ) → holds pid words → ⊥) → ((p : ℕ) (words : List ℕ) → holds p words → 1 ≤ p) → Renames (Joint heap holds) (Joint (with_pid heap at pid chain) holds) (renamed_at at pid)
joint-numbered heap holds at pid chain h held none low away unheld placed =
    let o = object_at heap at in
    let now = with_pid heap at pid chain in
    let is = held_is heap at held in
    let local = λ (p : ℕ) (some : 1 ≤ p). local-numbered 1 heap.objects at pid p o (numbered o pid chain) is refl none refl away some in
    let apart : (n : Reference) → IsKnown (Joint heap holds) n → n ≢ Pid pid =
    λ n k e. unknown heap holds pid h low away unheld k.it (subst (λ m. Joint heap holds m k.it) e k.is) in
    record {
      nil = refl;
      only_nil = renamed-some at pid;
      one = λ a b ka kb e. renamed-injective at pid a b (apart a ka) (apart b kb) e;
      forth = λ n it j. elim j [
        | inl a ↦ inl (record {
          at = a.at;
          held = held-replaced heap at o (numbered o pid chain) a.at is refl a.held;
          name_is = ap (renamed_at at pid) a.name_is ∙ sym (name-numbered heap at pid chain a.at h held none low);
          shown_is = ap (renamed (renamed_at at pid)) a.shown_is ∙ sym (shown-numbered heap at pid chain a.at h held none low);
        })
        | inr v ↦
            let ne : v.pid ≢ pid = λ e. unheld v.words (subst (λ (p : ℕ). holds p v.words) e v.there) in
            inr (record {
              pid = v.pid;
              words = v.words;
              name_is = ap (renamed_at at pid) v.name_is;
              there = v.there;
              away = local v.pid (placed v.pid v.words v.there) ∙ elsewhere v.pid pid (Some at) (local_of heap v.pid) ne ∙ v.away;
              shown_is = ap (renamed (renamed_at at pid)) v.shown_is ∙ sym (words_renamed at pid v.words);
            })
      ];
      back = λ n it j. elim j [
        | inl a ↦
            let was = held-back heap at a.at (numbered o pid chain) held refl a.held in
            record {
              name_before = name_at heap a.at;
              it_before = shown_at heap a.at;
              is = inl (record { at = a.at; held = was; name_is = refl; shown_is = refl });
              name_is = a.name_is ∙ name-numbered heap at pid chain a.at h held none low;
              it_is = a.shown_is ∙ shown-numbered heap at pid chain a.at h held none low;
            }
        | inr v ↦
            let ne : v.pid ≢ pid = λ e. unheld v.words (subst (λ (p : ℕ). holds p v.words) e v.there) in
            record {
              name_before = Pid v.pid;
              it_before = shown_words v.words;
              is = inr (record {
                pid = v.pid;
                words = v.words;
                name_is = refl;
                there = v.there;
                away = sym (elsewhere v.pid pid (Some at) (local_of heap v.pid) ne) ∙ sym (local v.pid (placed v.pid v.words v.there)) ∙ v.away;
                shown_is = refl;
              });
              name_is = v.name_is;
              it_is = v.shown_is ∙ words_renamed at pid v.words;
            }
      ];
    }

-- Words that a vault stores for objects of the area change nothing of what is seen.
pub joint-stored : (heap : Heap) (old new : ℕ → List ℕ → Type 0) → SameAway heap old new → Same (Joint heap old) (Joint heap new)
joint-stored heap old new s = record {
  grows = λ n it j. elim j [
    | inl a ↦ inl (record { at = a.at; held = a.held; name_is = a.name_is; shown_is = a.shown_is })
    | inr v ↦ inr (record { pid = v.pid; words = v.words; name_is = v.name_is; there = s.forth v.pid v.words v.away v.there; away = v.away; shown_is = v.shown_is })
  ];
  no_more = λ n it j. elim j [
    | inl a ↦ inl (record { at = a.at; held = a.held; name_is = a.name_is; shown_is = a.shown_is })
    | inr v ↦ inr (record { pid = v.pid; words = v.words; name_is = v.name_is; there = s.back v.pid v.words v.away v.there; away = v.away; shown_is = v.shown_is })
  ];
}
