-- Each header has one spelling.
use Rattle.std.proofs.Common.{◌≡◌, ℕ, ◌+◌, ◌*◌, ◌/◌, ◌%◌, ◌^◌, ◌<◌, ◌≤◌, List, Some, None, slice_index, refl, sym, ap, ◌∙◌, arith}
use Rattle.std.proofs.lemmas.Grind.{common_steps}
use Rattle.obj_layout.specs.declared.kind.Kind.{Kind}
use Rattle.obj_layout.specs.declared.kind.Kind.TheVariants.{Text, Structure, Vector, Scope, Closure, Code, Table, Node, Directory}
use Rattle.obj_layout.specs.declared.header.Header.{Header}
use Rattle.obj_layout.specs.Kind.{kind_number, kind_numbered}
use Rattle.obj_layout.specs.Header.{HasFitFields, HasFitLengths, header_words, header_fault, fault_of, length_fault, object_length}
use Rattle.obj_layout.specs.Stored.{length_in}

-- a kind is what its number stands for
pub kind_numbered-kind_number : (kind : Kind) → kind_numbered (kind_number kind) ≡ Some kind
kind_numbered-kind_number Text = refl
kind_numbered-kind_number Structure = refl
kind_numbered-kind_number Vector = refl
kind_numbered-kind_number Scope = refl
kind_numbered-kind_number Closure = refl
kind_numbered-kind_number Code = refl
kind_numbered-kind_number Table = refl
kind_numbered-kind_number Node = refl
kind_numbered-kind_number Directory = refl

pub kind_number-lt : (kind : Kind) → kind_number kind < 2 ^ 8
kind_number-lt Text = omega arith
kind_number-lt Structure = omega arith
kind_number-lt Vector = omega arith
kind_number-lt Scope = omega arith
kind_number-lt Closure = omega arith
kind_number-lt Code = omega arith
kind_number-lt Table = omega arith
kind_number-lt Node = omega arith
kind_number-lt Directory = omega arith

pub kind_number-injective : (k l : Kind) → kind_number k ≡ kind_number l → k ≡ l
kind_number-injective k l e =
    let both : Some k ≡ Some l = sym (kind_numbered-kind_number k) ∙ ap kind_numbered e ∙ kind_numbered-kind_number l in
    cc

-- a header by its fields
abbrev header : Kind → ℕ → ℕ → ℕ → ℕ → ℕ → ℕ → Header
header kind flags refs nums bytes pid chain =
    record { kind = kind; flags = flags; refs = refs; nums = nums; bytes = bytes; pid = pid; chain = chain }

same_header : (k l : Kind) (f g r s n m b c p q x y : ℕ) → k ≡ l → f ≡ g → r ≡ s → n ≡ m → b ≡ c → p ≡ q → x ≡ y
    → header k f r n b p x ≡ header l g s m c q y
same_header k l f g r s n m b c p q x y ek ef er en eb ep ex = cc

-- two headers with one spelling are one
pub header_words-injective : (h g : Header) → HasFitFields h → HasFitFields g → header_words h ≡ header_words g → h ≡ g
header_words-injective h g fh fg e =
    let first : kind_number h.kind + 2 ^ 8 * h.flags + 2 ^ 32 * h.refs ≡ kind_number g.kind + 2 ^ 8 * g.flags + 2 ^ 32 * g.refs = ap (λ (ws : List ℕ). slice_index ws 0) e in
    let third : h.nums + 2 ^ 32 * h.bytes ≡ g.nums + 2 ^ 32 * g.bytes = ap (λ (ws : List ℕ). slice_index ws 2) e in
    let bound_h = kind_number-lt h.kind in
    let bound_g = kind_number-lt g.kind in
    same_header h.kind g.kind h.flags g.flags h.refs g.refs h.nums g.nums h.bytes g.bytes h.pid g.pid h.chain g.chain
    (kind_number-injective h.kind g.kind (omega arith))
    (omega arith)
    (omega arith)
    (omega arith)
    (omega arith)
    (ap (λ (ws : List ℕ). slice_index ws 1) e)
    (ap (λ (ws : List ℕ). slice_index ws 3) e)

length_fault-none : (refs nums bytes : ℕ) → bytes ≤ 8 * nums → 4 + refs + nums ≤ 2 ^ 31 → length_fault refs nums bytes ≡ None
length_fault-none refs nums bytes b w = grind (arith, common_steps)

fault_of-kind : (kind : Kind) (refs nums bytes : ℕ) → fault_of (kind_number kind) 0 refs nums bytes ≡ length_fault refs nums bytes
fault_of-kind Text refs nums bytes = refl
fault_of-kind Structure refs nums bytes = refl
fault_of-kind Vector refs nums bytes = refl
fault_of-kind Scope refs nums bytes = refl
fault_of-kind Closure refs nums bytes = refl
fault_of-kind Code refs nums bytes = refl
fault_of-kind Table refs nums bytes = refl
fault_of-kind Node refs nums bytes = refl
fault_of-kind Directory refs nums bytes = refl

same_fault : {a b c d e p q r s t : ℕ} → a ≡ p → b ≡ q → c ≡ r → d ≡ s → e ≡ t → fault_of a b c d e ≡ fault_of p q r s t
same_fault {a} {b} {c} {d} {e} {p} {q} {r} {s} {t} ea eb ec ed ee =
    ap (λ (x : ℕ). fault_of x b c d e) ea
    ∙ ap (λ (x : ℕ). fault_of p x c d e) eb
    ∙ ap (λ (x : ℕ). fault_of p q x d e) ec
    ∙ ap (λ (x : ℕ). fault_of p q r x e) ed
    ∙ ap (λ (x : ℕ). fault_of p q r s x) ee

-- the parts of a first word
low_byte : (k f r : ℕ) → k < 2 ^ 8 → (k + 2 ^ 8 * f + 2 ^ 32 * r) % 2 ^ 8 ≡ k
low_byte k f r h = omega arith

spare_bits : (k f r : ℕ) → k < 2 ^ 8 → f < 2 ^ 8 → (k + 2 ^ 8 * f + 2 ^ 32 * r) / 2 ^ 16 % 2 ^ 16 ≡ 0
spare_bits k f r h l = omega arith

high_half : (k f r : ℕ) → k < 2 ^ 8 → f < 2 ^ 8 → (k + 2 ^ 8 * f + 2 ^ 32 * r) / 2 ^ 32 ≡ r
high_half k f r h l = omega arith

-- what was written is read without a fault
pub header_fault-header_words : (h : Header) → HasFitFields h → HasFitLengths h → header_fault (header_words h) ≡ None
header_fault-header_words h fields lengths =
    let bound = kind_number-lt h.kind in
    let number = low_byte (kind_number h.kind) h.flags h.refs bound in
    let spare = spare_bits (kind_number h.kind) h.flags h.refs bound fields.flags in
    let refs = high_half (kind_number h.kind) h.flags h.refs bound fields.flags in
    let nums : (h.nums + 2 ^ 32 * h.bytes) % 2 ^ 32 ≡ h.nums = omega (arith, fields.nums) in
    let bytes : (h.nums + 2 ^ 32 * h.bytes) / 2 ^ 32 ≡ h.bytes = omega (arith, fields.nums) in
    same_fault number spare refs nums bytes ∙ fault_of-kind h.kind h.refs h.nums h.bytes ∙ length_fault-none h.refs h.nums h.bytes lengths.bytes lengths.words

-- the words of a header tell its object's length
pub length_spelled : (header : Header) → HasFitFields header → length_in (header_words header) ≡ object_length header
length_spelled header fields = let kind = kind_number-lt header.kind in omega (arith, fields.flags, fields.nums, kind)
