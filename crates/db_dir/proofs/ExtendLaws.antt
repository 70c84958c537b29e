-- The references of a directory that are copied into another one, and the three behind them.
use Rattle.std.proofs.Common.{arith, ◌≡◌, ℕ, zero, suc, ◌+◌, ◌*◌, ◌<◌, List, [], ◌∷◌, ◌++◌, length, get_or, replicate, Option, Some, None, refl, sym, ap, ◌∙◌, subst}
use Rattle.std.specs.Prelude.{IfSome, set, take, drop}
use Rattle.std.proofs.lemmas.List.{length-append, length-take, length-drop}
use Rattle.joint_ops.specs.obj_layout.declared.kind.Kind.TheVariants as kind
use Rattle.joint_ops.specs.obj_layout.declared.reference.Reference.{Reference}
use Rattle.joint_ops.specs.obj_layout.declared.reference.Reference.TheVariants.{Nil}
use Rattle.joint_ops.specs.swizzle.Objects.{Object}
use Rattle.joint_ops.specs.swizzle.Heap.{Heap, IsHeap, IsHeld, IsMade, header_at, object_at, ref_at, with_object, with_ref, blank}
use Rattle.joint_ops.proofs.of_swizzle.KeptLaws.{held_is}
use Rattle.joint_ops.proofs.of_swizzle.MadeLaws.{made-held, made-object, made-other, made-replaced}
use Rattle.joint_ops.proofs.of_swizzle.ObjectLaws.{split}
use Rattle.db_dir.specs.Directories.{Counts, directory_of, refs_in}
use Rattle.db_dir.proofs.ShapeLaws.{some-held}

-- an object of the area has as many references as its header says
pub refs-long : (heap : Heap) (at : ℕ) → IsHeap heap → IsHeld heap at → length (object_at heap at).refs ≡ (header_at heap at).refs
refs-long heap at h held = (split 1 heap.objects at (object_at heap at) h.fit (held_is heap at held)).fit.refs

copy-step : (xs ys : List Reference) (k : ℕ) → k < length xs → k < length ys
    → set (take k xs ++ drop k ys) k (get_or xs k Nil) ≡ take (suc k) xs ++ drop (suc k) ys
copy-step [] ys k p q = absurd (omega (arith, p))
copy-step (x ∷ xs) [] k p q = absurd (omega (arith, q))
copy-step (x ∷ xs) (y ∷ ys) zero p q = refl
copy-step (x ∷ xs) (y ∷ ys) (suc k) p q = ap (λ (l : List Reference). x ∷ l) (copy-step xs ys k (omega (arith, p)) (omega (arith, q)))

-- the object with the first references of a list
abbrev pub with_first : Object → List Reference → ℕ → Object
with_first object xs count = record object { refs = take count xs ++ drop count object.refs }

first-long : (xs ys : List Reference) (k n : ℕ) → length (take k xs ++ drop k ys) ≡ n → k < n → k < length ys
first-long xs ys k n e lt = omega (arith, e, length-append (take k xs) (drop k ys), length-take k xs, length-drop k ys)

pub copied-next : (base mid new : Heap) (from to k : ℕ) (object : Object) → IsHeap mid → IsHeld base from → IsHeld mid from → k < (header_at mid from).refs
    → k < (header_at mid to).refs → IsMade base mid to (with_first object (object_at base from).refs k) → new ≡ with_ref mid to k (ref_at mid from k)
    → IsMade base new to (with_first object (object_at base from).refs (k + 1))
copied-next base mid new from to k object h held now below room m is =
    let xs = (object_at base from).refs in
    let last = with_first object xs k in
    let own : object_at mid from ≡ object_at base from = (made-other base mid to last from m held).1 in
    let long : k < length xs = omega (arith, below, refs-long mid from h now, ap (λ (o : Object). length o.refs) own) in
    let refs : length (take k xs ++ drop k object.refs) ≡ (header_at mid to).refs =
    sym (ap (λ (o : Object). length o.refs) (made-object base mid to last m)) ∙ refs-long mid to h (made-held base mid to last m) in
    let within : k < length object.refs = first-long xs object.refs k (header_at mid to).refs refs room in
    let r : ref_at mid from k ≡ get_or xs k Nil = ap (λ (o : Object). get_or o.refs k Nil) own in
    let next : suc k ≡ k + 1 = omega arith in
    let step : set (take k xs ++ drop k object.refs) k (ref_at mid from k) ≡ take (k + 1) xs ++ drop (k + 1) object.refs =
    ap (set (take k xs ++ drop k object.refs) k) r ∙ copy-step xs object.refs k long within
    ∙ ap (λ (n : ℕ). take n xs ++ drop n object.refs) next in
    let put : new ≡ with_object mid to (with_first object xs (k + 1)) =
    is
    ∙ ap (λ (o : Object). with_object mid to (record o { refs = set o.refs k (ref_at mid from k) })) (made-object base mid to last m)
    ∙ ap (λ (rs : List Reference). with_object mid to (record object { refs = rs })) step in
    made-replaced base mid new to last (with_first object xs (k + 1)) m put refl

-- a slot of it was written
pub made-ref : (base mid new : Heap) (at slot : ℕ) (o : Object) (to : Reference) → IsMade base mid at o → new ≡ with_ref mid at slot to
    → IsMade base new at (record o { refs = set o.refs slot to })
made-ref base mid new at slot o to m is =
    made-replaced base mid new at o (record o { refs = set o.refs slot to }) m
    (is ∙ ap (λ (x : Object). with_object mid at (record x { refs = set x.refs slot to })) (made-object base mid at o m)) refl

-- The references of a directory, or of none, in number.
pub old-long : (heap : Heap) (directory : Option ℕ) (count : ℕ) → IsHeap heap → ((at : ℕ) → directory ≡ Some at → IsHeld heap at)
    → Counts heap directory count → length (refs_in heap directory) ≡ 3 * count
old-long heap None count h held c = omega (arith, c)
old-long heap (Some at) count h held c = omega (arith, c.is, refs-long heap at h (held at refl))

-- a directory with three references more, which are nil
abbrev pub grown_directory : List Reference → Object
grown_directory refs = directory_of (refs ++ Nil ∷ Nil ∷ Nil ∷ [])

behind : (xs : List Reference) (n : ℕ) → length xs ≡ n → take n xs ++ drop n (replicate (n + 3) Nil) ≡ xs ++ Nil ∷ Nil ∷ Nil ∷ []
behind [] zero e = refl
behind [] (suc n) e = absurd (cc)
behind (x ∷ xs) zero e = absurd (omega (arith, e))
behind (x ∷ xs) (suc n) e =
    let more : suc n + 3 ≡ suc (n + 3) = omega arith in
    ap (λ (k : ℕ). take (suc n) (x ∷ xs) ++ drop (suc n) (replicate k Nil)) more
    ∙ ap (λ (l : List Reference). x ∷ l) (behind xs n (omega (arith, e)))

pub grown-some : (old new : Heap) (directory : Option ℕ) (from count at : ℕ) → IsHeap old → IsHeld old from → directory ≡ Some from → Counts old directory count
    → IsMade old new at (with_first (blank kind.Directory (3 * count + 3) 1 0) (object_at old from).refs (3 * count))
    → IsMade old new at (grown_directory (refs_in old directory))
grown-some old new None from count at h held some c m = absurd (cc)
grown-some old new (Some d) from count at h held some c m =
    let same : d ≡ from = cc in
    let places : Counts old (Some from) count = subst (λ (n : ℕ). Counts old (Some n) count) same c in
    let xs = (object_at old from).refs in
    let e : length xs ≡ 3 * count = omega (arith, places.is, refs-long old from h held) in
    let long : 3 * count + 3 ≡ length (xs ++ Nil ∷ Nil ∷ Nil ∷ []) = omega (arith, length-append xs (Nil ∷ Nil ∷ Nil ∷ []), e) in
    let is : with_first (blank kind.Directory (3 * count + 3) 1 0) xs (3 * count) ≡ grown_directory xs =
    ap (λ (l : List Reference). record (blank kind.Directory (3 * count + 3) 1 0) { refs = l }) (behind xs (3 * count) e)
    ∙ ap (λ (n : ℕ). record (blank kind.Directory n 1 0) { refs = xs ++ Nil ∷ Nil ∷ Nil ∷ [] }) long in
    subst (λ (n : ℕ). IsMade old new at (grown_directory (refs_in old (Some n)))) (sym same) (subst (IsMade old new at) is m)

-- where it lies, and how many references it has
pub grown-place : (old new : Heap) (directory : Option ℕ) (count at : ℕ) → IsHeap old → IfSome directory (IsHeld old) → Counts old directory count
    → IsMade old new at (grown_directory (refs_in old directory)) → IsHeld new at × ((header_at new at).refs ≡ 3 * count + 3)
grown-place old new directory count at h held c m =
    let xs = refs_in old directory in
    let is : (header_at new at).refs ≡ length (xs ++ Nil ∷ Nil ∷ Nil ∷ []) = ap (λ (o : Object). o.header.refs) (made-object old new at (grown_directory xs) m) in (
      made-held old new at (grown_directory xs) m,
      omega (arith, is, length-append xs (Nil ∷ Nil ∷ Nil ∷ []), old-long old directory count h (some-held old directory held) c),
    )

three-set : (xs : List Reference) (a b c : Reference) (n : ℕ) → length xs ≡ n
    → set (set (set (xs ++ Nil ∷ Nil ∷ Nil ∷ []) n a) (suc n) b) (suc (suc n)) c ≡ xs ++ a ∷ b ∷ c ∷ []
three-set [] a b c zero e = refl
three-set [] a b c (suc n) e = absurd (cc)
three-set (x ∷ xs) a b c zero e = absurd (omega (arith, e))
three-set (x ∷ xs) a b c (suc n) e = ap (λ (l : List Reference). x ∷ l) (three-set xs a b c n (omega (arith, e)))

-- its last three references are written
pub grown-named : (old one two three new : Heap) (directory : Option ℕ) (count at : ℕ) (a b c : Reference) → IsHeap old → IfSome directory (IsHeld old)
    → Counts old directory count → IsMade old one at (grown_directory (refs_in old directory)) → two ≡ with_ref one at (3 * count) a
    → three ≡ with_ref two at (3 * count + 1) b → new ≡ with_ref three at (3 * count + 2) c
    → IsMade old new at (directory_of (refs_in old directory ++ a ∷ b ∷ c ∷ []))
grown-named old one two three new directory count at a b c h held counts m p q r =
    let xs = refs_in old directory in
    let n = 3 * count in
    let start = xs ++ Nil ∷ Nil ∷ Nil ∷ [] in
    let e : length xs ≡ n = old-long old directory count h (some-held old directory held) counts in
    let next : n + 1 ≡ suc n = omega arith in
    let last : n + 2 ≡ suc (suc n) = omega arith in
    let long : length start ≡ length (xs ++ a ∷ b ∷ c ∷ []) = omega (arith, length-append xs (Nil ∷ Nil ∷ Nil ∷ []), length-append xs (a ∷ b ∷ c ∷ [])) in
    let is : set (set (set start n a) (n + 1) b) (n + 2) c ≡ xs ++ a ∷ b ∷ c ∷ [] =
    ap (λ (i : ℕ). set (set (set start n a) i b) (n + 2) c) next
    ∙ ap (λ (i : ℕ). set (set (set start n a) (suc n) b) i c) last
    ∙ three-set xs a b c n e in
    let all : record (grown_directory xs) { refs = set (set (set start n a) (n + 1) b) (n + 2) c } ≡ directory_of (xs ++ a ∷ b ∷ c ∷ []) =
    ap (λ (l : List Reference). record (grown_directory xs) { refs = l }) is
    ∙ ap (λ (k : ℕ). record (blank kind.Directory k 1 0) { refs = xs ++ a ∷ b ∷ c ∷ [] }) long in
    let first = grown_directory xs in
    let second = record first { refs = set start n a } in
    let third = record first { refs = set (set start n a) (n + 1) b } in
    subst (IsMade old new at) all
    (made-ref old three new at (n + 2) third c
    (made-ref old two three at (n + 1) second b
    (made-ref old one two at n first a m p) q) r)
