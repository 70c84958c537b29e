-- The image of an object that came from a vault is what the vault has.
use Rattle.std.proofs.Common.{◌≡◌, ℕ, zero, suc, ◌+◌, ◌<◌, ◌^◌, List, [], ◌∷◌, ◌++◌, length, map, get_or, refl, sym, ap, ◌∙◌, subst, arith, Some, None}
use Rattle.std.specs.Prelude.{take, drop, ◌-◌}
use Rattle.std.specs.List.{AllByRecursion}
use Rattle.std.proofs.lemmas.List.{length-map, take-append-drop, length-take-le, length-drop}
use Rattle.joint_ops.specs.ps_outside.Outside.{Outside}
use Rattle.joint_ops.specs.obj_layout.Stored.{Space, Holds}
use Rattle.joint_ops.specs.obj_layout.Objects.{Contents, HasContents, counts}
use Rattle.swizzle.proofs.ObjectLaws.{split}
use Rattle.swizzle.proofs.KeptLaws.{held_is}
use Rattle.joint_ops.proofs.of_heap_meaning.of_obj_layout.StoredLaws.{HasObject-object}
use Rattle.joint_ops.proofs.of_heap_meaning.of_obj_layout.ObjectLaws.{Cuts-lies}
use Rattle.joint_ops.specs.World.{IsStored}
use Rattle.reach_commit.specs.commit_images.Stored.{IsWhole}
use Rattle.joint_ops.specs.obj_area.Words.{AreWords}
use Rattle.joint_ops.specs.obj_layout.Header.{header_words}
use Rattle.joint_ops.specs.obj_layout.declared.kind.Kind.{Kind}
use Rattle.joint_ops.specs.obj_layout.declared.header.Header.{Header}
use Rattle.joint_ops.specs.obj_layout.declared.reference.Reference.{Reference}
use Rattle.joint_ops.specs.obj_layout.declared.reference.Reference.TheVariants.{Nil, Pid, Local}
use Rattle.joint_ops.specs.swizzle.Objects.{Object, object_words, object_in, header_in, reference_at}
use Rattle.joint_ops.specs.swizzle.Fetched.{IsFar, near, near_header}
use Rattle.joint_ops.specs.swizzle.Image.{far_object, far_header_of}
use Rattle.joint_ops.specs.swizzle.Heap.{Heap, IsHeap, IsHeld, header_at, object_at, fresh_heap}
use Rattle.joint_ops.specs.swizzle.Joint.{Shown, shown, name_of, far_of, shown_at, shown_words}
use Rattle.swizzle.proofs.FetchedLaws.{Near, near_words, far_header, header-spelled}
use Rattle.swizzle.proofs.ImageLaws.{refs-long}
use Rattle.reach_commit.specs.commit_images.Images.{image_of}
use Rattle.joint_ops.specs.Seeing.{IsClean}

-- references of which none is into the area are their own names
plain-names : (heap : Heap) (rs : List Reference) → ((slot to : ℕ) → get_or rs slot Nil ≡ Local to → ⊥) → map (name_of heap) rs ≡ rs
plain-names heap [] none = refl
plain-names heap (Nil ∷ rs) none = ap (λ (r : List Reference). Nil ∷ r) (plain-names heap rs (λ slot. none (suc slot)))
plain-names heap (Pid p ∷ rs) none = ap (λ (r : List Reference). Pid p ∷ r) (plain-names heap rs (λ slot. none (suc slot)))
plain-names heap (Local x ∷ rs) none = absurd (none 0 x refl)

abbrev header_by : Kind → ℕ → ℕ → ℕ → Header
header_by k r n b = record { kind = k; flags = 0; refs = r; nums = n; bytes = b; pid = 0; chain = 0 }

header-same : (k l : Kind) (r s n m b c : ℕ) → k ≡ l → r ≡ s → n ≡ m → b ≡ c → header_by k r n b ≡ header_by l s m c
header-same k l r s n m b c e f g h = ap (λ x. header_by x r n b) e ∙ (ap (λ x. header_by l x n b) f ∙ (ap (λ x. header_by l s x b) g ∙ ap (λ x. header_by l s m x) h))

abbrev object_by : Header → List Reference → List ℕ → Object
object_by h rs ns = record { header = h; refs = rs; nums = ns }

object-same : (a b : Object) → a.header ≡ b.header → a.refs ≡ b.refs → a.nums ≡ b.nums → a ≡ b
object-same a b e f g = ap (λ (h : Header). object_by h a.refs a.nums) e ∙ (ap (λ (rs : List Reference). object_by b.header rs a.nums) f ∙ ap (λ (ns : List ℕ). object_by b.header b.refs ns) g)

abbrev cleared : Header → Header
cleared h = record h { flags = 0; pid = 0; chain = 0 }

clean-header : (h : Header) → h.flags ≡ 0 → h.pid ≡ 0 → h.chain ≡ 0 → cleared h ≡ h
clean-header h f p c =
    ap (λ x. record h { flags = x; pid = 0; chain = 0 }) (sym f) ∙ (ap (λ x. record h { pid = x; chain = 0 }) (sym p) ∙ ap (λ x. record h { chain = x }) (sym c))

pub came-image : (heap : Heap) (x : ℕ) (words : List ℕ) (header : Header) → IsHeap heap → IsHeld heap x → IsFar words header → AreWords words → IsClean header → shown_at heap x ≡ shown_words words
    → image_of heap x ≡ words
unfolding image_of
came-image heap x words header sound held far fit clean shows =
    let n = near_words words header 0 0 far fit in
    let o = object_at heap x in
    let it = near 0 0 words in
    let good = n.fit (omega arith) (omega arith) in
    let same : shown_at heap x ≡ shown (name_of heap) it = shows ∙ n.shown_as heap in
    let none : (slot to : ℕ) → get_or it.refs slot Nil ≡ Local to → ⊥ = λ slot to e.
    let h = n.inside (fresh_heap 1) slot to e in let bad : None ≡ Some h.object = h.is in absurd (cc) in
    let plain = plain-names heap it.refs none in
    let refs : map (name_of heap) o.refs ≡ it.refs = ap (λ (s : Shown). s.refs) same ∙ plain in
    let nums : o.nums ≡ it.nums = ap (λ (s : Shown). s.nums) same in
    let kinds : o.header.kind ≡ it.header.kind = ap (λ (s : Shown). s.kind) same in
    let bytes : o.header.bytes ≡ it.header.bytes = ap (λ (s : Shown). s.bytes) same in
    let count : o.header.refs ≡ it.header.refs = sym (refs-long heap x sound held) ∙ (sym (length-map o.refs (name_of heap)) ∙ (ap length refs ∙ good.refs)) in
    let counts : o.header.nums ≡ it.header.nums = sym (nums-long heap x sound held) ∙ (ap length nums ∙ good.nums) in
    let head : far_header_of o.header ≡ cleared it.header = header-same o.header.kind it.header.kind o.header.refs it.header.refs o.header.nums it.header.nums o.header.bytes it.header.bytes kinds count counts bytes in
    let clear : cleared it.header ≡ it.header = ap cleared n.header_is ∙ sym n.header_is in
    let objects : far_object heap x ≡ it = object-same (far_object heap x) it (head ∙ clear) refs nums in
    let is_clean : near_header 0 0 header ≡ header = clean-header header clean.flags clean.pid clean.chain in
    ap object_words objects
    ∙ (n.words_are
    ∙ (ap (λ (h : Header). header_words h ++ drop 4 words) is_clean
    ∙ (ap (λ (w : List ℕ). w ++ drop 4 words) (sym far.spelled)
    ∙ take-append-drop 4 words)))
  where
    nums-long : (heap : Heap) (at : ℕ) → IsHeap heap → IsHeld heap at → length (object_at heap at).nums ≡ (header_at heap at).nums
    nums-long heap at h held = (Rattle.swizzle.proofs.ObjectLaws.split 1 heap.objects at (object_at heap at) h.fit (Rattle.swizzle.proofs.KeptLaws.held_is heap at held)).fit.nums

-- objects that show the same have the same image
pub far-same : (old new : Heap) (x : ℕ) → (header_at new x).kind ≡ (header_at old x).kind → (header_at new x).refs ≡ (header_at old x).refs → (header_at new x).nums ≡ (header_at old x).nums
    → (header_at new x).bytes ≡ (header_at old x).bytes → map (name_of new) (object_at new x).refs ≡ map (name_of old) (object_at old x).refs → (object_at new x).nums ≡ (object_at old x).nums
    → far_object new x ≡ far_object old x
far-same old new x k r n b refs nums =
    object-same (far_object new x) (far_object old x)
    (header-same (header_at new x).kind (header_at old x).kind (header_at new x).refs (header_at old x).refs (header_at new x).nums (header_at old x).nums (header_at new x).bytes (header_at old x).bytes k r n b)
    refs nums

-- The counts of an object are those of its kind.

pub contents-same : (h i : Header) (c : Contents) → i.kind ≡ h.kind → i.refs ≡ h.refs → i.nums ≡ h.nums → i.bytes ≡ h.bytes → HasContents h c → HasContents i c
contents-same h i c k r n b w = record {
  kind = k ∙ w.kind;
  counted = ap (λ x. counts x i.nums i.bytes) r ∙ (ap (λ x. counts h.refs x i.bytes) n ∙ (ap (λ x. counts h.refs h.nums x) b ∙ w.counted));
  allowed = w.allowed;
}

-- what is shown of an object of a vault has as many references and number words as its header says
pub far-counts : (words : List ℕ) (header : Header) → IsFar words header → (length (shown_words words).refs ≡ header.refs) × (length (shown_words words).nums ≡ header.nums)
unfolding object_in
far-counts words header f =
    let h = far_header words header f in
    let r : (header_in words).refs ≡ header.refs = ap (λ (g : Header). g.refs) h in
    let n : (header_in words).nums ≡ header.nums = ap (λ (g : Header). g.nums) h in
    let long = f.long in (
      length-map (object_in words).refs far_of ∙ (length-map (take (header_in words).refs (drop 4 words)) reference_at ∙ (length-take-le (header_in words).refs (drop 4 words) (let d = length-drop 4 words in omega (arith, d, long, r)) ∙ r)),
      length-take-le (header_in words).nums (drop (4 + (header_in words).refs) words) (let d = length-drop (4 + (header_in words).refs) words in omega (arith, d, long, r, n)) ∙ n,
    )

pub came-whole : (heap : Heap) (outside : Outside Space) (x : ℕ) (words : List ℕ) → IsHeap heap → IsHeld heap x → IsStored outside (header_at heap x).pid words → shown_at heap x ≡ shown_words words
    → IsWhole heap x
unfolding object_in
came-whole heap outside x words sound held s shows =
    let o = object_at heap x in
    let is = HasObject-object s.there.space (header_at heap x).pid words s.there.has in
    let spelled : header_in words ≡ is.header = header-spelled words is.header is.fields (sym is.spelled) in
    let far = far_header words s.header s.far in
    let kinds : (header_at heap x).kind ≡ is.header.kind = ap (λ (i : Shown). i.kind) shows ∙ ap (λ (h : Header). h.kind) spelled in
    let bytes : (header_at heap x).bytes ≡ is.header.bytes = ap (λ (i : Shown). i.bytes) shows ∙ ap (λ (h : Header). h.bytes) spelled in
    let n = Rattle.swizzle.proofs.FetchedLaws.far_header words s.header s.far in
    let counts_of_shown = far-counts words s.header s.far in
    let refs : (header_at heap x).refs ≡ is.header.refs =
    sym (refs-long heap x sound held) ∙ (sym (length-map (object_at heap x).refs (name_of heap)) ∙ (ap (λ (i : Shown). length i.refs) shows ∙ (counts_of_shown.0 ∙ ap (λ (h : Header). h.refs) (sym far ∙ spelled)))) in
    let nums : (header_at heap x).nums ≡ is.header.nums =
    sym (split 1 heap.objects x o sound.fit (held_is heap x held)).fit.nums ∙ (ap (λ (i : Shown). length i.nums) shows ∙ (counts_of_shown.1 ∙ ap (λ (h : Header). h.nums) (sym far ∙ spelled))) in
    record { contents = is.contents; counts = contents-same is.header (header_at heap x) is.contents kinds refs nums bytes is.holds }

-- Words of an object are words of the space.

words-take : (n : ℕ) (ws : List ℕ) → AreWords ws → AreWords (take n ws)
words-take zero ws h k = omega arith
words-take (suc n) [] h k = omega arith
words-take (suc n) (w ∷ ws) h zero = h 0
words-take (suc n) (w ∷ ws) h (suc k) = words-take n ws (λ j. h (suc j)) k

words-drop : (n : ℕ) (ws : List ℕ) → AreWords ws → AreWords (drop n ws)
words-drop zero ws h k = h k
words-drop (suc n) [] h k = omega arith
words-drop (suc n) (w ∷ ws) h k = words-drop n ws (λ j. h (suc j)) k

pub all-words : (ws : List ℕ) → AllByRecursion (λ word. word < 2 ^ 64) ws → AreWords ws
all-words [] a k = omega arith
all-words (w ∷ ws) a zero = a.0
all-words (w ∷ ws) a (suc k) = all-words ws a.1 k

pub held-words : (outside : Outside Space) (pid : ℕ) (words : List ℕ) → ((space : Space) → outside.contents space → AreWords space.words) → Holds outside pid words → AreWords words
held-words outside pid words wide h =
    let lies = Cuts-lies 1 (drop 1 h.space.words) h.has.objects (record { pid = pid; words = words }) h.has.cut.1 h.has.among in
    subst AreWords lies.there (words-take (length words) (drop (pid - 1) (drop 1 h.space.words)) (words-drop (pid - 1) (drop 1 h.space.words) (words-drop 1 h.space.words (wide h.space h.is))))
