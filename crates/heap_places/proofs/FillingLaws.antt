-- Values laid one by one into the rows of the object that was made last.
use Rattle.std.proofs.Common.{w32, to_z, of_z, Bool, ◌≡◌, ◌≢◌, ℕ, zero, suc, ◌+◌, ◌-◌, ◌<◌, ◌≤◌, ◌^◌, ℤ, List, [], ◌∷◌, ◌++◌, length, drop, pos, slice_index_or, replicate, set, slice_set, Option, Some, None, refl, sym, ap, ◌∙◌, arith, subst, append_assoc, length-append}
use Rattle.std.specs.Prelude.{Result, Ok, Err, IfOk}
use Rattle.std.proofs.lemmas.Int.{to_z-of_z}
use mir.Val.{SFits}
use Rattle.std.proofs.lemmas.List.{set-append_right, drop_more, drop_all}
use Rattle.heap_texts.specs.obj_layout.declared.kind.Kind.{Kind}
use Rattle.heap_texts.specs.obj_layout.declared.reference.Reference.{Reference}
use Rattle.heap_texts.specs.obj_layout.declared.reference.Reference.TheVariants.{Nil, Local}
use Rattle.heap_texts.specs.text_forms.declared.forms.Rows.{Rows}
use Rattle.heap_texts.specs.swizzle.declared.fault.SwizzleFault.{SwizzleFault}
use Rattle.heap_texts.specs.swizzle.declared.fault.SwizzleFault.TheVariants.{AreaFull}
use Rattle.heap_texts.specs.swizzle.Objects.{Object, IsFit, size_of, size_of_all, replace_from}
use Rattle.heap_texts.specs.swizzle.Heap.{Heap, IsHeap, IsHeld, IsMade, IsFull, Stands, object_at, header_at, top_of, with_object, with_new, with_num, with_ref, reference_to, blank}
use Rattle.heap_texts.specs.swizzle.Joint.{shown_at}
use Rattle.heap_texts.proofs.of_swizzle.ObjectLaws.{here, elsewhere, split}
use Rattle.heap_texts.proofs.of_swizzle.KeptLaws.{held_is}
use Rattle.heap_texts.proofs.of_swizzle.NameLaws.{shown-counts}
use Rattle.heap_texts.proofs.of_swizzle.StandLaws.{stands-new}
use Rattle.heap_texts.proofs.of_swizzle.JointLaws.{held-top, object-top}
use Rattle.heap_texts.specs.Texts.{wanted_of}
use Rattle.heap_places.specs.declared.value.Value.{Value}
use Rattle.heap_places.specs.declared.value.Value.TheVariants.{Num, Flag, Ref}
use Rattle.heap_places.specs.Words.{int_word, flag_word}
use Rattle.heap_places.specs.Places.{IsNear, HasRow, with_value}
use Rattle.heap_places.specs.Filling.{AreNear, Fills, refs_of, words_of, first_words, filled, filled_words}
use Rattle.heap_places.specs.inside.Laying.{HasRows, rows_in, index_in, behind, with_values, laid, roomy}

abbrev pub rows : ℕ → ℕ → Rows
rows refs nums = record { refs = refs; nums = nums }

same_rows : {a b c d : ℕ} → a ≡ b → c ≡ d → rows a c ≡ rows b d
same_rows {a} {b} {c} {d} e f = cc

-- How many values lie in each row.

pub refs-cons : (v : Value) (vs : List Value) → length (refs_of (v ∷ vs)) ≡ length (refs_of (v ∷ [])) + length (refs_of vs)
unfolding refs_of
refs-cons (Num z) vs = omega arith
refs-cons (Flag b) vs = omega arith
refs-cons (Ref to) vs = omega arith

pub words-cons : (v : Value) (vs : List Value) → length (words_of (v ∷ vs)) ≡ length (words_of (v ∷ [])) + length (words_of vs)
unfolding words_of
words-cons (Num z) vs = omega arith
words-cons (Flag b) vs = omega arith
words-cons (Ref to) vs = omega arith

pub rows-length : (vs : List Value) → length (refs_of vs) + length (words_of vs) ≡ length vs
unfolding refs_of words_of
rows-length [] = refl
rows-length (Num z ∷ vs) = omega (arith, rows-length vs)
rows-length (Flag b ∷ vs) = omega (arith, rows-length vs)
rows-length (Ref to ∷ vs) = omega (arith, rows-length vs)

repeated-ref : (n : ℕ) (to : Option ℕ) → (length (refs_of (replicate n (Ref to))) ≡ n) × (length (words_of (replicate n (Ref to))) ≡ 0)
unfolding refs_of words_of
repeated-ref zero to = (refl, refl)
repeated-ref (suc n) to = let more = repeated-ref n to in (ap suc more.0, more.1)

repeated-num : (n : ℕ) (z : ℤ) → (length (refs_of (replicate n (Num z))) ≡ 0) × (length (words_of (replicate n (Num z))) ≡ n)
unfolding refs_of words_of
repeated-num zero z = (refl, refl)
repeated-num (suc n) z = let more = repeated-num n z in (more.0, ap suc more.1)

repeated-flag : (n : ℕ) (b : Bool) → (length (refs_of (replicate n (Flag b))) ≡ 0) × (length (words_of (replicate n (Flag b))) ≡ n)
unfolding refs_of words_of
repeated-flag zero b = (refl, refl)
repeated-flag (suc n) b = let more = repeated-flag n b in (more.0, ap suc more.1)

pub repeated-refs : (n : ℕ) (v : Value) (to : Option ℕ) → v ≡ Ref to → rows n 0 ≡ rows_in (replicate n v)
repeated-refs n v to e =
    let both = repeated-ref n to in
    same_rows (sym both.0) (sym both.1) ∙ ap (λ (w : Value). rows_in (replicate n w)) (sym e)

pub repeated-nums : (n : ℕ) (v : Value) → ((to : Option ℕ) → v ≢ Ref to) → rows 0 n ≡ rows_in (replicate n v)
repeated-nums n (Num z) not = let both = repeated-num n z in same_rows (sym both.0) (sym both.1)
repeated-nums n (Flag b) not = let both = repeated-flag n b in same_rows (sym both.0) (sym both.1)
repeated-nums n (Ref to) not = absurd (not to refl)

-- One value.

fit_at : (heap : Heap) (at : ℕ) → IsHeap heap → IsHeld heap at → IsFit (object_at heap at)
fit_at heap at h held = (split 1 heap.objects at (object_at heap at) h.fit (held_is heap at held)).fit

pub has-ref : (heap : Heap) (at : ℕ) (next : Rows) (v : Value) (to : Option ℕ) → IsHeap heap → IsHeld heap at → HasRows heap at next (v ∷ []) → v ≡ Ref to
    → HasRow (shown_at heap at) next.refs v × (1 + next.refs < 2 ^ 32)
unfolding refs_of
has-ref heap at next v to h held rows e =
    let fields = (fit_at heap at h held).fields in
    let rows_now = subst (λ (w : Value). HasRows heap at next (w ∷ [])) e rows in
    let below : next.refs < (header_at heap at).refs = omega (arith, rows_now.refs) in
    (subst (HasRow (shown_at heap at) next.refs) (sym e) (omega (arith, below, (shown-counts heap at h held).0)), omega (arith, below, fields.refs))

pub has-num : (heap : Heap) (at : ℕ) (next : Rows) (v : Value) → IsHeap heap → IsHeld heap at → HasRows heap at next (v ∷ [])
    → ((to : Option ℕ) → v ≢ Ref to) → HasRow (shown_at heap at) next.nums v × (1 + next.nums < 2 ^ 32)
unfolding words_of
has-num heap at next (Num z) h held rows not = let fields = (fit_at heap at h held).fields in
    (omega (arith, rows.nums, (shown-counts heap at h held).1), omega (arith, rows.nums, fields.nums))
has-num heap at next (Flag b) h held rows not = let fields = (fit_at heap at h held).fields in
    (omega (arith, rows.nums, (shown-counts heap at h held).1), omega (arith, rows.nums, fields.nums))
has-num heap at next (Ref to) h held rows not = absurd (not to refl)

-- A walk over values: what is counted and what is left.

pub record IsCounted (values : List Value) (counted : Rows) (rest : List Value) : Type 0 where
  pub refs : counted.refs + length (refs_of rest) ≡ length (refs_of values)
  pub nums : counted.nums + length (words_of rest) ≡ length (words_of values)

behind-refs : (next : Rows) (v : Value) → (behind next v).refs ≡ next.refs + length (refs_of (v ∷ []))
unfolding refs_of
behind-refs next (Num z) = omega arith
behind-refs next (Flag b) = omega arith
behind-refs next (Ref to) = omega arith

behind-nums : (next : Rows) (v : Value) → (behind next v).nums ≡ next.nums + length (words_of (v ∷ []))
unfolding words_of
behind-nums next (Num z) = omega arith
behind-nums next (Flag b) = omega arith
behind-nums next (Ref to) = omega arith

pub counted-more : (values : List Value) (counted more : Rows) (v : Value) (vs : List Value) → IsCounted values counted (v ∷ vs) → more ≡ behind counted v
    → IsCounted values more vs
counted-more values counted more v vs c e = record {
  refs = omega (arith, c.refs, refs-cons v vs, ap (λ (x : Rows). x.refs) e, behind-refs counted v);
  nums = omega (arith, c.nums, words-cons v vs, ap (λ (x : Rows). x.nums) e, behind-nums counted v);
}

-- there is room in 32 bits to count one more
pub counted-room : (values : List Value) (counted : Rows) (v : Value) (vs : List Value) → length values < 2 ^ 32 → IsCounted values counted (v ∷ vs)
    → (counted.refs + 1 < 2 ^ 32) × (counted.nums + 1 < 2 ^ 32)
counted-room values counted v vs lt c =
    let all = rows-length values in
    let rest = rows-length (v ∷ vs) in
    (omega (arith, lt, c.refs, c.nums, all, rest), omega (arith, lt, c.refs, c.nums, all, rest))

pub counted-all : (values : List Value) (counted : Rows) → IsCounted values counted [] → counted ≡ rows_in values
unfolding refs_of words_of
counted-all values counted c = same_rows {a = counted.refs} {b = length (refs_of values)} {c = counted.nums} {d = length (words_of values)}
    (omega (arith, c.refs)) (omega (arith, c.nums))

abbrev pub no_value : Value
no_value = Num (pos 0)

-- what is left begins with the next value
left : (values : List Value) (i : ℕ) → i < length values → drop i values ≡ slice_index_or values i no_value ∷ drop (i + 1) values
left values i below = drop_more values i no_value below

pub counted-left : (values : List Value) (counted : Rows) (i : ℕ) → i < length values → IsCounted values counted (drop i values)
    → IsCounted values counted (slice_index_or values i no_value ∷ drop (i + 1) values)
counted-left values counted i below c = subst (IsCounted values counted) (left values i below) c

pub counted-end : (values : List Value) (counted : Rows) (i : ℕ) → length values ≤ i → IsCounted values counted (drop i values) → counted ≡ rows_in values
counted-end values counted i end c = counted-all values counted (subst (IsCounted values counted) (drop_all i values end) c)

-- Many values: what a loop keeps, whose target is what all of them make.

pub record IsLaying (target now : Heap) (at : ℕ) (next : Rows) (rest : List Value) : Type 0 where
  pub held : IsHeld now at
  pub rows : HasRows now at next rest
  pub near : AreNear now rest
  pub same : with_values now at next rest ≡ target

near-stands : (old new : Heap) (v : Value) → Stands old new → IsNear old v → IsNear new v
near-stands old new (Num z) s n = n
near-stands old new (Flag b) s n = n
near-stands old new (Ref None) s n = n
near-stands old new (Ref (Some at)) s n = (s at n).held

pub near-all : (old new : Heap) (vs : List Value) → Stands old new → AreNear old vs → AreNear new vs
near-all old new [] s n = n
near-all old new (v ∷ vs) s n = (near-stands old new v s n.0, near-all old new vs s n.1)

pub near-repeated : (heap : Heap) (n : ℕ) (v : Value) → IsNear heap v → AreNear heap (replicate n v)
near-repeated heap zero v near = tt
near-repeated heap (suc n) v near = (near, near-repeated heap n v near)

pub laying-first : (target now : Heap) (at : ℕ) (next : Rows) (v : Value) (vs : List Value) → IsLaying target now at next (v ∷ vs)
    → HasRows now at next (v ∷ []) × IsNear now v
laying-first target now at next v vs l =
    (record { refs = omega (arith, l.rows.refs, refs-cons v vs); nums = omega (arith, l.rows.nums, words-cons v vs) }, l.near.0)

pub laying-more : (target now new : Heap) (at : ℕ) (next more : Rows) (v : Value) (vs : List Value) → IsLaying target now at next (v ∷ vs)
    → new ≡ with_value now at (index_in next v) v → more ≡ behind next v → Stands now new → IsLaying target new at more vs
laying-more target now new at next more v vs l written moved stands =
    let s = stands at l.held in
    let r = ap (λ (x : Rows). x.refs) moved ∙ behind-refs next v in
    let n = ap (λ (x : Rows). x.nums) moved ∙ behind-nums next v in
    record {
      held = s.held;
      rows = record { refs = omega (arith, l.rows.refs, refs-cons v vs, r, s.refs); nums = omega (arith, l.rows.nums, words-cons v vs, n, s.nums) };
      near = near-all now new vs stands l.near.1;
      same = ap (λ (h : Heap). with_values h at more vs) written ∙ ap (λ (x : Rows). with_values (with_value now at (index_in next v) v) at x vs) moved
          ∙ l.same;
    }

pub laying-left : (target now : Heap) (at : ℕ) (next : Rows) (values : List Value) (i : ℕ) → i < length values → IsLaying target now at next (drop i values)
    → IsLaying target now at next (slice_index_or values i no_value ∷ drop (i + 1) values)
laying-left target now at next values i below l = subst (IsLaying target now at next) (left values i below) l

pub laying-end : (target now : Heap) (at : ℕ) (next : Rows) (values : List Value) (i : ℕ) → length values ≤ i → IsLaying target now at next (drop i values)
    → now ≡ target
laying-end target now at next values i end l = (subst (IsLaying target now at next) (drop_all i values end) l).same

-- the same of one value so many times
pub laying-again : (target now : Heap) (at : ℕ) (next : Rows) (v : Value) (count i : ℕ) → i < count → IsLaying target now at next (replicate (count - i) v)
    → IsLaying target now at next (v ∷ replicate (count - (i + 1)) v)
laying-again target now at next v count i below l =
    let one : count - i ≡ suc (count - (i + 1)) = omega (arith, below) in
    subst (λ (n : ℕ). IsLaying target now at next (replicate n v)) one l

pub laying-done : (target now : Heap) (at : ℕ) (next : Rows) (v : Value) (count i : ℕ) → count ≤ i → IsLaying target now at next (replicate (count - i) v)
    → now ≡ target
laying-done target now at next v count i end l =
    let none : count - i ≡ 0 = omega (arith, end) in
    (subst (λ (n : ℕ). IsLaying target now at next (replicate n v)) none l).same

-- The object that was made last is changed.

replace-top : (at : ℕ) (os : List Object) (new o : Object) → replace_from at (os ++ new ∷ []) (at + size_of_all os) o ≡ os ++ o ∷ []
replace-top at [] new o = here (at + 0) at (o ∷ []) (new ∷ []) (omega arith)
replace-top at (p ∷ os) new o =
    let place : at + size_of_all (p ∷ os) ≡ at + size_of p + size_of_all os = omega arith in
    elsewhere (at + size_of_all (p ∷ os)) at (o ∷ (os ++ new ∷ [])) (p ∷ replace_from (at + size_of p) (os ++ new ∷ []) (at + size_of_all (p ∷ os)) o)
    (λ (q : at + size_of_all (p ∷ os) ≡ at). omega arith)
    ∙ ap (λ (n : ℕ). p ∷ replace_from (at + size_of p) (os ++ new ∷ []) n o) place
    ∙ ap (λ (x : List Object). p ∷ x) (replace-top (at + size_of p) os new o)

object-with : (heap : Heap) (new o : Object) → with_object (with_new heap new) (top_of heap) o ≡ with_new heap o
object-with heap new o = ap (λ (x : List Object). record heap { objects = x }) (replace-top 1 heap.objects new o)

num-top : (heap : Heap) (o : Object) (index w : ℕ)
    → with_num (with_new heap o) (top_of heap) index w ≡ with_new heap (record o { nums = slice_set o.nums index w })
num-top heap o index w =
    ap (λ (x : Object). with_object (with_new heap o) (top_of heap) (record x { nums = slice_set x.nums index w })) (object-top heap o)
    ∙ object-with heap o (record o { nums = slice_set o.nums index w })

ref-top : (heap : Heap) (o : Object) (slot : ℕ) (to : Reference)
    → with_ref (with_new heap o) (top_of heap) slot to ≡ with_new heap (record o { refs = set o.refs slot to })
ref-top heap o slot to =
    ap (λ (x : Object). with_object (with_new heap o) (top_of heap) (record x { refs = set x.refs slot to })) (object-top heap o)
    ∙ object-with heap o (record o { refs = set o.refs slot to })

set-next : {X : Type 0} (front back : List X) (i : ℕ) (old new : X) → i ≡ length front → set (front ++ old ∷ back) i new ≡ (front ++ new ∷ []) ++ back
set-next {X} front back i old new e =
    let place : i - length front ≡ 0 = omega arith in
    set-append_right front (old ∷ back) (length front) i new refl (omega arith)
    ∙ ap (λ (j : ℕ). front ++ set (old ∷ back) j new) place
    ∙ sym (append_assoc front (new ∷ []) back)

num-step : (heap : Heap) (kind : Kind) (r n index w more : ℕ) (rs : List Reference) (ns : List ℕ) → index ≡ length ns
    → with_num (with_new heap (laid kind r n rs (ns ++ replicate (suc more) 0))) (top_of heap) index w
    ≡ with_new heap (laid kind r n rs ((ns ++ w ∷ []) ++ replicate more 0))
num-step heap kind r n index w more rs ns e =
    num-top heap (laid kind r n rs (ns ++ replicate (suc more) 0)) index w
    ∙ ap (λ (x : List ℕ). with_new heap (laid kind r n rs x)) (set-next ns (replicate more 0) index 0 w e)

ref-step : (heap : Heap) (kind : Kind) (r n slot more : ℕ) (to : Reference) (rs : List Reference) (ns : List ℕ) → slot ≡ length rs
    → with_ref (with_new heap (laid kind r n (rs ++ replicate (suc more) Nil) ns)) (top_of heap) slot to
    ≡ with_new heap (laid kind r n ((rs ++ to ∷ []) ++ replicate more Nil) ns)
ref-step heap kind r n slot more to rs ns e =
    ref-top heap (laid kind r n (rs ++ replicate (suc more) Nil) ns) slot to
    ∙ ap (λ (x : List Reference). with_new heap (laid kind r n x ns)) (set-next rs (replicate more Nil) slot Nil to e)

-- all values are laid
laid-all : (heap : Heap) (kind : Kind) (r n : ℕ) (next : Rows) (rs : List Reference) (ns : List ℕ) (vs : List Value) → next.refs ≡ length rs
    → next.nums ≡ length ns
    → with_values (with_new heap (laid kind r n (rs ++ replicate (length (refs_of vs)) Nil) (ns ++ replicate (length (words_of vs)) 0))) (top_of heap) next vs
    ≡ with_new heap (laid kind r n (rs ++ refs_of vs) (ns ++ words_of vs))
unfolding refs_of words_of
laid-all heap kind r n next rs ns [] e f = refl
laid-all heap kind r n next rs ns (Num z ∷ vs) e f =
    ap (λ (h : Heap). with_values h (top_of heap) (behind next (Num z)) vs)
    (num-step heap kind r n next.nums (int_word z) (length (words_of vs)) (rs ++ replicate (length (refs_of vs)) Nil) ns f)
    ∙ laid-all heap kind r n (behind next (Num z)) rs (ns ++ int_word z ∷ []) vs e (omega (arith, f, length-append ns (int_word z ∷ [])))
    ∙ ap (λ (x : List ℕ). with_new heap (laid kind r n (rs ++ refs_of vs) x)) (append_assoc ns (int_word z ∷ []) (words_of vs))
laid-all heap kind r n next rs ns (Flag b ∷ vs) e f =
    ap (λ (h : Heap). with_values h (top_of heap) (behind next (Flag b)) vs)
    (num-step heap kind r n next.nums (flag_word b) (length (words_of vs)) (rs ++ replicate (length (refs_of vs)) Nil) ns f)
    ∙ laid-all heap kind r n (behind next (Flag b)) rs (ns ++ flag_word b ∷ []) vs e (omega (arith, f, length-append ns (flag_word b ∷ [])))
    ∙ ap (λ (x : List ℕ). with_new heap (laid kind r n (rs ++ refs_of vs) x)) (append_assoc ns (flag_word b ∷ []) (words_of vs))
laid-all heap kind r n next rs ns (Ref to ∷ vs) e f =
    ap (λ (h : Heap). with_values h (top_of heap) (behind next (Ref to)) vs)
    (ref-step heap kind r n next.refs (length (refs_of vs)) (reference_to to) rs (ns ++ replicate (length (words_of vs)) 0) e)
    ∙ laid-all heap kind r n (behind next (Ref to)) (rs ++ reference_to to ∷ []) ns vs (omega (arith, e, length-append rs (reference_to to ∷ []))) f
    ∙ ap (λ (x : List Reference). with_new heap (laid kind r n x (ns ++ words_of vs))) (append_assoc rs (reference_to to ∷ []) (refs_of vs))

-- The object that was made.

pub roomy-held : (old mid : Heap) (at : ℕ) (o : Object) → IsMade old mid at o → IsHeld mid at × (object_at mid at ≡ o)
roomy-held old mid at o made =
    let held : IsHeld mid at = subst (λ (h : Heap). IsHeld h at) (sym made.made) (subst (IsHeld (with_new old o)) (sym made.place) (held-top old o)) in
    (held, ap (λ (h : Heap). object_at h at) made.made ∙ ap (object_at (with_new old o)) made.place ∙ object-top old o)

pub made-ref : (old mid new : Heap) (at slot : ℕ) (o : Object) (to : Reference) → IsMade old mid at o → new ≡ with_ref mid at slot to
    → IsMade old new at (record o { refs = set o.refs slot to })
made-ref old mid new at slot o to made e = record {
  room = made.room;
  place = made.place;
  made = e ∙ ap (λ (h : Heap). with_ref h at slot to) made.made ∙ ap (λ (n : ℕ). with_ref (with_new old o) n slot to) made.place ∙ ref-top old o slot to;
}

pub made-num : (old mid new : Heap) (at index w : ℕ) (o : Object) → IsMade old mid at o → new ≡ with_num mid at index w
    → IsMade old new at (record o { nums = slice_set o.nums index w })
made-num old mid new at index w o made e = record {
  room = made.room;
  place = made.place;
  made = e ∙ ap (λ (h : Heap). with_num h at index w) made.made ∙ ap (λ (n : ℕ). with_num (with_new old o) n index w) made.place ∙ num-top old o index w;
}

-- the blank object with its text
text-laid : (kind : Kind) (text r n : ℕ) (low : Option ℤ) (rows : Rows) → r ≡ 1 + rows.refs → n ≡ length (first_words low) + rows.nums
    → record (blank kind r n 0) { refs = set (replicate r Nil) 0 (Local text) }
    ≡ laid kind (1 + rows.refs) (length (first_words low) + rows.nums) (Local text ∷ replicate rows.refs Nil)
    (replicate (length (first_words low) + rows.nums) 0)
text-laid kind text r n low rows e f =
    let next : r ≡ suc rows.refs = omega (arith, e) in
    ap (λ (x : ℕ). laid kind r n (set (replicate x Nil) 0 (Local text)) (replicate n 0)) next
    ∙ ap (λ (x : ℕ). laid kind x n (Local text ∷ replicate rows.refs Nil) (replicate n 0)) e
    ∙ ap (λ (x : ℕ). laid kind (1 + rows.refs) x (Local text ∷ replicate rows.refs Nil) (replicate x 0)) f

roomy-none : (old mid new : Heap) (at text r n : ℕ) (kind : Kind) (low : Option ℤ) (rows : Rows) → low ≡ None → r ≡ 1 + rows.refs
    → n ≡ length (first_words low) + rows.nums
    → IsMade old mid at (blank kind r n 0) → new ≡ with_ref mid at 0 (Local text) → IsMade old new at (roomy kind text low rows)
roomy-none old mid new at text r n kind low rows none e f made written =
    let next : 1 + rows.nums ≡ suc rows.nums = omega arith in
    let it = subst (λ (o : Object). IsMade old new at o) (text-laid kind text r n low rows e f)
    (made-ref old mid new at 0 (blank kind r n 0) (Local text) made written) in
    let now = subst (λ (l : Option ℤ). IsMade old new at (laid kind (1 + rows.refs) (length (first_words l) + rows.nums)
    (Local text ∷ replicate rows.refs Nil) (replicate (length (first_words l) + rows.nums) 0))) none it in
    subst (λ (l : Option ℤ). IsMade old new at (roomy kind text l rows)) (sym none)
    (subst (λ (x : ℕ). IsMade old new at (laid kind (1 + rows.refs) (1 + rows.nums) (Local text ∷ replicate rows.refs Nil) (replicate x 0))) next now)

pub roomy-some : (old mid ref new : Heap) (at text r n w : ℕ) (kind : Kind) (low : Option ℤ) (z : ℤ) (rows : Rows) → low ≡ Some z → r ≡ 1 + rows.refs
    → n ≡ length (first_words low) + rows.nums
    → IsMade old mid at (blank kind r n 0) → ref ≡ with_ref mid at 0 (Local text) → new ≡ with_num ref at 1 w → w ≡ int_word (to_z w32 (of_z w32 z))
    → SFits w32 z → IsMade old new at (roomy kind text low rows)
roomy-some old mid ref new at text r n w kind low z rows some e f made written more word fits =
    let same : w ≡ int_word z = word ∙ ap int_word (to_z-of_z w32 z fits) in
    let next : 2 + rows.nums ≡ suc (suc rows.nums) = omega arith in
    let it = subst (λ (o : Object). IsMade old ref at o) (text-laid kind text r n low rows e f)
    (made-ref old mid ref at 0 (blank kind r n 0) (Local text) made written) in
    let now = subst (λ (l : Option ℤ). IsMade old ref at (laid kind (1 + rows.refs) (length (first_words l) + rows.nums)
    (Local text ∷ replicate rows.refs Nil) (replicate (length (first_words l) + rows.nums) 0))) some it in
    let plain = subst (λ (x : ℕ). IsMade old ref at (laid kind (1 + rows.refs) (2 + rows.nums) (Local text ∷ replicate rows.refs Nil) (replicate x 0))) next
    now in
    let numbered = made-num old ref new at 1 w (laid kind (1 + rows.refs) (2 + rows.nums) (Local text ∷ replicate rows.refs Nil)
    (replicate (suc (suc rows.nums)) 0)) plain more in
    let worded = subst (λ (x : ℕ). IsMade old new at (laid kind (1 + rows.refs) (2 + rows.nums) (Local text ∷ replicate rows.refs Nil)
    (0 ∷ x ∷ replicate rows.nums 0))) same numbered in
    subst (λ (l : Option ℤ). IsMade old new at (roomy kind text l rows)) (sym some) worded

none-is : (low : Option ℤ) → ((z : ℤ) → low ≢ Some z) → low ≡ None
none-is None not = refl
none-is (Some z) not = absurd (not z refl)

pub roomy-no_low : (old mid new : Heap) (at text r n : ℕ) (kind : Kind) (low : Option ℤ) (rows : Rows) → ((z : ℤ) → low ≢ Some z) → r ≡ 1 + rows.refs
    → n ≡ length (first_words low) + rows.nums
    → IsMade old mid at (blank kind r n 0) → new ≡ with_ref mid at 0 (Local text) → IsMade old new at (roomy kind text low rows)
roomy-no_low old mid new at text r n kind low rows not e f made written = roomy-none old mid new at text r n kind low rows (none-is low not) e f made written

-- its number words, where it has a lower bound
pub low-below : (old mid ref : Heap) (at r n : ℕ) (kind : Kind) (low : Option ℤ) (z : ℤ) (rows : Rows) (to : Reference) → low ≡ Some z
    → n ≡ length (first_words low) + rows.nums
    → IsMade old mid at (blank kind r n 0) → ref ≡ with_ref mid at 0 to → 1 < (header_at ref at).nums
low-below old mid ref at r n kind low z rows to some f made written =
    let o = (roomy-held old ref at _ (made-ref old mid ref at 0 (blank kind r n 0) to made written)).1 in
    omega (arith, ap (λ (x : Object). x.header.nums) o, f, ap (λ (l : Option ℤ). length (first_words l)) some)

-- its places are free for all values
pub roomy-rows : (old mid : Heap) (at text : ℕ) (kind : Kind) (low : Option ℤ) (first counted : Rows) (values : List Value) → first.refs ≡ 1
    → first.nums ≡ length (first_words low) → counted ≡ rows_in values
    → IsMade old mid at (roomy kind text low counted) → HasRows mid at first values
roomy-rows old mid at text kind low first counted values e f is made =
    let o = (roomy-held old mid at (roomy kind text low counted) made).1 in
    let refs = ap (λ (x : Object). x.header.refs) o in
    let nums = ap (λ (x : Object). x.header.nums) o in
    record {
      refs = omega (arith, e, refs, ap (λ (x : Rows). x.refs) is);
      nums = omega (arith, f, nums, ap (λ (x : Rows). x.nums) is);
    }

-- all values were laid into it
pub filled-made : (old mid new : Heap) (at text : ℕ) (kind : Kind) (low : Option ℤ) (first counted : Rows) (values : List Value) → first.refs ≡ 1
    → first.nums ≡ length (first_words low) → counted ≡ rows_in values
    → IsMade old mid at (roomy kind text low counted) → new ≡ with_values mid at first values → IsMade old new at (filled kind text low values)
unfolding filled
filled-made old mid new at text kind low first counted values e f is made laying =
    let it = subst (λ (x : Rows). IsMade old mid at (roomy kind text low x)) is made in
    record {
      room = it.room;
      place = it.place;
      made =
          laying
          ∙ ap (λ (h : Heap). with_values h at first values) it.made
          ∙ ap (λ (n : ℕ). with_values (with_new old (roomy kind text low (rows_in values))) n first values) it.place
          ∙ laid-all old kind (1 + length (refs_of values)) (length (first_words low) + length (words_of values)) first (Local text ∷ []) (first_words low)
          values e f;
    }

-- There was no room.

few : (low : Option ℤ) → length (first_words low) ≤ 2
few None = omega arith
few (Some z) = omega arith

same_wanted : (low : Option ℤ) (values : List Value) → filled_words low values ≡ 5 + length (first_words low) + length values
unfolding filled_words
same_wanted low values = omega (arith, rows-length values)

pub full-roomy : (old new : Heap) (text : ℕ) (kind : Kind) (low : Option ℤ) (counted : Rows) (values : List Value) (fault : SwizzleFault)
    → counted ≡ rows_in values → length values < 2 ^ 26
    → IsFull old new (size_of (roomy kind text low counted)) fault → IsFull old new (wanted_of (filled_words low values)) fault
full-roomy old new text kind low counted values fault is lt full =
    let size : size_of (roomy kind text low counted) ≡ wanted_of (filled_words low values) =
    omega (arith, ap (λ (x : Rows). x.refs) is, ap (λ (x : Rows). x.nums) is, few low, same_wanted low values, rows-length values, lt) in
    subst (λ (n : ℕ). IsFull old new n fault) size full

pub full-many : (heap : Heap) (top wanted size : ℕ) (low : Option ℤ) (values : List Value) → IsHeap heap → heap.size ≤ length values → top ≡ top_of heap
    → size ≡ heap.size
    → wanted ≡ wanted_of (5 + length (first_words low) + length values) → IsFull heap heap (wanted_of (filled_words low values)) (AreaFull top wanted size)
full-many heap top wanted size low values h many e f is =
    let same : wanted ≡ wanted_of (filled_words low values) = is ∙ ap wanted_of (sym (same_wanted low values)) in
    record {
      full = omega (arith, h.small, many, is, same);
      fault_is = ap (λ (n : ℕ). AreaFull n wanted size) e ∙ ap (λ (n : ℕ). AreaFull (top_of heap) n size) same
          ∙ ap (AreaFull (top_of heap) (wanted_of (filled_words low values))) f;
      stays = refl;
    }

-- they are few where they are below the size of an area
pub few-rows : (heap : Heap) (counted : Rows) (values : List Value) (size : ℕ) → IsHeap heap → length values < size → size ≡ heap.size
    → counted ≡ rows_in values → (counted.refs + counted.nums < 2 ^ 26) × (length values < 2 ^ 26)
few-rows heap counted values size h lt e is =
    (omega (arith, h.small, lt, e, rows-length values, ap (λ (x : Rows). x.refs) is, ap (λ (x : Rows). x.nums) is), omega (arith, h.small, lt, e))

-- No object is lost.

pub made-stands : (old new : Heap) (at : ℕ) (o : Object) → IsMade old new at o → Stands old new
made-stands old new at o made = stands-new old new o made.made

-- what was filled lies in the area
pub fills-held : (old new : Heap) (kind : Kind) (text : ℕ) (low : Option ℤ) (values : List Value) (r : Result ℕ SwizzleFault)
    → Fills old new kind text low values r → IfOk r (IsHeld new)
fills-held old new kind text low values (Ok at) made = (roomy-held old new at (filled kind text low values) made).0
fills-held old new kind text low values (Err fault) full = tt
