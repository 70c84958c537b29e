use Rattle.std.proofs.Common.{◌≡◌, ◌+◌, ◌-◌, ◌<◌, ◌∙◌, ◌++◌, ◌∷◌, [], List, ℕ, ap, sym, arith, take, drop, set, map, get_or, length, length-drop, append_assoc, refl, subst}
use Rattle.std.proofs.lemmas.List.{take_more, take_more_set, length-map, get_or-map, take_all, drop_all, append-nil, length-take-le}
use Rattle.obj_layout.specs.declared.header.Header.{Header}
use Rattle.obj_layout.specs.declared.reference.Reference.TheVariants.{Nil}
use Rattle.obj_layout.specs.Header.{header_words}
use Rattle.obj_layout.specs.Reference.{reference_word}
use Rattle.swizzle.specs.Objects.{object_words}
use Rattle.swizzle.specs.Heap.{Heap, header_at, object_at, ref_at}
use Rattle.swizzle.specs.Joint.{name_of}
use Rattle.swizzle.specs.Image.{far_object}
use Rattle.swizzle.proofs.KeptLaws.{lies_in}
use Rattle.swizzle.proofs.ImageLaws.{lies-nums, refs-long}
use Rattle.swizzle.proofs.swizzle.Swizzle.image.Goals as goal

-- one more word
step : (heap : Heap) (at i : ℕ) (into : List ℕ) (w : ℕ) → take (4 + i) into ≡ header_words (far_object heap at).header ++ take i (map reference_word (far_object heap at).refs) → 4 + i < length into → i < length (object_at heap at).refs → w ≡ reference_word (name_of heap (ref_at heap at i)) → take (4 + (i + 1)) (set into (4 + i) w) ≡ header_words (far_object heap at).header ++ take (i + 1) (map reference_word (far_object heap at).refs)
step heap at i into w inv below slot is =
    let refs = (object_at heap at).refs in
    let words = map reference_word (map (name_of heap) refs) in
    let head = header_words (far_object heap at).header in
    let long : length words ≡ length refs = length-map (map (name_of heap) refs) reference_word ∙ length-map refs (name_of heap) in
    let one : get_or words i 0 ≡ w = get_or-map reference_word (map (name_of heap) refs) i Nil 0 (omega (arith, length-map refs (name_of heap))) ∙ ap reference_word (get_or-map (name_of heap) refs i Nil Nil slot) ∙ sym is in
    ap (λ (n : ℕ). take n (set into (4 + i) w)) (omega arith)
    ∙ take_more_set into (4 + i) w below
    ∙ ap (λ (r : List ℕ). r ++ w ∷ []) inv
    ∙ append_assoc head (take i words) (w ∷ [])
    ∙ ap (λ (r : List ℕ). head ++ r) (ap (λ (x : ℕ). take i words ++ x ∷ []) (sym one) ∙ sym (take_more words i 0 (omega arith)))

-- the whole
whole : (heap : Heap) (at k n : ℕ) (into nums : List ℕ) → k ≡ 4 + (object_at heap at).header.refs → n ≡ length into - k → length (object_at heap at).refs ≡ (object_at heap at).header.refs → take (4 + (object_at heap at).header.refs) into ≡ header_words (far_object heap at).header ++ take (object_at heap at).header.refs (map reference_word (far_object heap at).refs) → nums ≡ (object_at heap at).nums → take k into ++ (nums ++ drop n (drop k into)) ≡ object_words (far_object heap at)
whole heap at k n into nums ek en long inv is =
    let o = object_at heap at in
    let words = map reference_word (map (name_of heap) o.refs) in
    let head = header_words (far_object heap at).header in
    let all : take o.header.refs words ≡ words = take_all o.header.refs words (omega (arith, length-map (map (name_of heap) o.refs) reference_word, length-map o.refs (name_of heap))) in
    let behind : drop n (drop k into) ≡ [] = drop_all n (drop k into) (omega (arith, length-drop k into)) in
    ap (λ (r : List ℕ). take k into ++ (nums ++ r)) behind
    ∙ ap (λ (r : List ℕ). take k into ++ r) (append-nil nums ∙ is)
    ∙ ap (λ (r : List ℕ). r ++ o.nums) (ap (λ (m : ℕ). take m into) ek ∙ inv ∙ ap (λ (r : List ℕ). head ++ r) all)
    ∙ append_assoc head words o.nums

pub loop-slot-preserved : goal.loop-slot-preserved
loop-slot-preserved c =
    let now = c.args.self.now in
    let refs : c.header-header.result.refs ≡ (header_at now c.args.object).refs = ap (λ (h : Header). h.refs) c.header-header.ensures.value in
    let long = refs-long now c.args.object c.sound.ensures c.requires.held in
    step now c.args.object c.loop-slot.slot c.loop-slot.into c.far_word.result c.loop-slot.invariant (omega (arith, c.loop-slot.auto.into, c.requires.long, c.loop-slot-test.true)) (omega (arith, c.loop-slot-test.true)) c.far_word.ensures

pub overflow_add-object : goal.overflow_add-object
overflow_add-object c =
    let l = lies_in c.self.inside _ c.args.object c.self.view_is c.self.invariant c.requires.held in
    omega (arith, l.to, l.small)

pub overflow_add-object-2 : goal.overflow_add-object-2
overflow_add-object-2 c =
    let l = lies_in c.self.inside _ c.args.object c.self.view_is c.self.invariant c.requires.held in
    let refs = ap (λ (h : Header). h.refs) c.header-header.ensures.value in
    omega (arith, l.to, l.small, refs)

pub read_words-requires : goal.read_words-requires
read_words-requires c =
    let l = lies_in c.self.inside _ c.args.object c.self.view_is c.self.invariant c.requires.held in
    let refs : c.header-header.result.refs ≡ (header_at c.args.self.now c.args.object).refs = ap (λ (h : Header). h.refs) c.header-header.ensures.value in
    let k = 4 + c.header-header.result.refs in
    let count : length (take (length c.loop-slot.into - k) (drop k c.loop-slot.into)) ≡ length c.loop-slot.into - k = length-take-le (length c.loop-slot.into - k) (drop k c.loop-slot.into) (omega (arith, length-drop k c.loop-slot.into)) in
    record { placed = omega arith; below = omega (arith, l.to, count, refs, c.loop-slot.auto.into, c.requires.long) }

pub returns : goal.returns
returns c =
    let now = c.args.self.now in
    let o = object_at now c.args.object in
    let l = lies_in c.self.inside _ c.args.object c.self.view_is c.self.invariant c.requires.held in
    let refs : c.header-header.result.refs ≡ o.header.refs = ap (λ (h : Header). h.refs) c.header-header.ensures.value in
    let long = refs-long now c.args.object c.sound.ensures c.requires.held in
    let k = 4 + c.header-header.result.refs in
    let n = length c.loop-slot.into - k in
    let count : length (take n (drop k c.loop-slot.into)) ≡ o.header.nums = length-take-le n (drop k c.loop-slot.into) (omega (arith, length-drop k c.loop-slot.into)) ∙ omega (arith, refs, c.loop-slot.auto.into, c.requires.long) in
    let end : c.loop-slot.slot ≡ o.header.refs = omega (arith, c.loop-slot-test.false, c.loop-slot.auto.slot-end, refs) in
    let inv = subst (λ (i : ℕ). take (4 + i) c.loop-slot.into ≡ header_words (far_object now c.args.object).header ++ take i (map reference_word (far_object now c.args.object).refs)) end c.loop-slot.invariant in
    let nums : c.read_words.new.into ≡ o.nums =
    c.read_words.ensures
    ∙ ap (λ (m : ℕ). take m (drop (c.args.object + 4 + c.header-header.result.refs - 1) c.self.inside.area.words)) count
    ∙ lies-nums c.self.inside.area.words now c.args.object (c.args.object + 4 + c.header-header.result.refs) l (omega (arith, refs)) in
    whole now c.args.object k n c.loop-slot.into c.read_words.new.into (omega (arith, refs)) refl long inv nums
