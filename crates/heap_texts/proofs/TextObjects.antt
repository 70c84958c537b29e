-- The object of a text: what it is made of, and that its bytes are those of the text.
use Rattle.std.proofs.Common.{Result, Ok, Err, IfOk, subst, ◌≡◌, ℕ, zero, suc, ◌+◌, ◌-◌, ◌*◌, ◌<◌, ◌≤◌, ◌^◌, List, [], ◌∷◌, ◌++◌, length, drop, replicate, refl, sym, ap, ◌∙◌, arith}
use Rattle.std.proofs.lemmas.List.{append-nil, drop_all, drop-replicate, length-replicate, take-replicate}
use Rattle.swizzle.specs.obj_area.Area.{words_spanned}
use Rattle.swizzle.specs.obj_area.Words.{bytes_of, words_of, overwritten, AreBytes}
use Rattle.swizzle.proofs.of_obj_area.WordLaws.{bytes_of-words_in, overwritten-inside, words_in-zeros, words_of-append, words_of-zeros, words_of-nil}
use Rattle.swizzle.specs.obj_layout.declared.kind.Kind.TheVariants.{Text}
use Rattle.swizzle.specs.obj_layout.declared.header.Header.{Header}
use Rattle.swizzle.specs.Objects.{Object, IsFit, size_of}
use Rattle.swizzle.specs.Heap.{Heap, IsMade}
use Rattle.swizzle.specs.Reading.{TextsStay}
use Rattle.swizzle.specs.declared.fault.SwizzleFault.{SwizzleFault}
use Rattle.swizzle.specs.Text.{text_at, text_of}
use Rattle.swizzle.proofs.KeptLaws.{IsFit-blank}
use Rattle.swizzle.proofs.MadeLaws.{made-held, made-object, texts-made}
use Rattle.swizzle.proofs.TextLaws.{IsFit-text, length-text, text-written}
use Rattle.heap_texts.specs.Texts.{GivesText, HoldsText, MakesText, StillTexts, blank_text, text_nums, text_object}
use Rattle.heap_texts.specs.declared.fault.OpFault.{OpFault}
use Rattle.heap_texts.specs.declared.fault.OpFault.TheVariants.{Swizzle, Trap}
use Rattle.ps_heap.specs.Texts.{Attempt, Yields, Fails}

-- its header and its size

pub header_of-text_object : (bytes : List ℕ)
    → (text_object bytes).header ≡ record { kind = Text; flags = 0; refs = 0; nums = text_nums (length bytes); bytes = length bytes; pid = 0; chain = 0 }
unfolding text_object
header_of-text_object bytes = refl

pub refs_of-text_object : (bytes : List ℕ) → (text_object bytes).refs ≡ []
unfolding text_object
refs_of-text_object bytes = refl

pub size_of-text_object : (bytes : List ℕ) → size_of (text_object bytes) ≡ 4 + text_nums (length bytes)
unfolding text_object
size_of-text_object bytes = refl

-- it may lie in an area

pub IsFit-blank_text : (n : ℕ) → n < 2 ^ 32 → IsFit (blank_text n)
IsFit-blank_text n h =
    IsFit-blank Text 0 (text_nums n) n (omega arith) (omega arith) h (omega arith) (record { bytes = omega arith; words = omega arith }) (omega arith)

pub IsFit-text_object : (bytes : List ℕ) → AreBytes bytes → length bytes < 2 ^ 32 → IsFit (text_object bytes)
unfolding text_object
IsFit-text_object bytes good h = IsFit-text (blank_text (length bytes)) 0 bytes (IsFit-blank_text (length bytes) h) good

-- its bytes are those of the text

whole : (old new : List ℕ) → length old ≡ length new → overwritten old 0 new ≡ new
whole old new e =
    overwritten-inside old 0 new (omega arith) ∙ ap (λ (r : List ℕ). new ++ r) (drop_all (0 + length new) old (omega arith)) ∙ append-nil new

pub text_of-text_object : (bytes : List ℕ) → AreBytes bytes → length bytes < 2 ^ 32 → text_of (text_object bytes) ≡ bytes
unfolding text_object
text_of-text_object bytes good h =
    let o = blank_text (length bytes) in
    let fit = IsFit-blank_text (length bytes) h in
    text-written o 0 bytes fit good (omega arith) ∙ whole (text_of o) bytes (length-text o fit)

-- its number words: 0 for its home, and the bytes with zeros after them to the end of the last word

zeros_are_bytes : (n : ℕ) → AreBytes (replicate n 0)
zeros_are_bytes zero k = omega arith
zeros_are_bytes (suc n) zero = omega arith
zeros_are_bytes (suc n) (suc k) = zeros_are_bytes n k

bytes_of-zeros : (n : ℕ) → bytes_of (replicate n 0) ≡ replicate (8 * n) 0
bytes_of-zeros n =
    ap bytes_of (sym (words_in-zeros n)) ∙ bytes_of-words_in n (replicate (8 * n) 0) (length-replicate (8 * n) 0) (zeros_are_bytes (8 * n))

over_zeros : (n place : ℕ) (bytes : List ℕ) → place + length bytes ≤ n
    → overwritten (replicate n 0) place bytes ≡ replicate place 0 ++ (bytes ++ replicate (n - place - length bytes) 0)
over_zeros n place bytes h =
    let zeros : List ℕ = replicate n 0 in
    let end = place + length bytes in
    let rest : n - end ≡ n - place - length bytes = omega arith in
    let behind : drop end zeros ≡ replicate (n - place - length bytes) 0 = drop-replicate end n 0 ∙ ap (λ (k : ℕ). replicate k 0) rest in
    overwritten-inside zeros place bytes (omega (arith, length-replicate {A = ℕ} n 0)) ∙ around (take-replicate place n 0 (omega arith)) behind
  where
    around : {a b c d : List ℕ} → a ≡ b → c ≡ d → a ++ (bytes ++ c) ≡ b ++ (bytes ++ d)
    around {a} {b} {c} {d} e f = cc

pub nums_of-text_object : (bytes : List ℕ)
    → (text_object bytes).nums ≡ 0 ∷ words_of (bytes ++ replicate (8 * words_spanned (length bytes) - length bytes) 0)
unfolding text_object
nums_of-text_object bytes =
    let n = length bytes in
    let k = text_nums n in
    let rest : 8 * k - 8 - n ≡ 8 * words_spanned n - n = omega arith in
    let padded = bytes ++ replicate (8 * words_spanned n - n) 0 in
    ap (λ (b : List ℕ). words_of (overwritten b 8 bytes)) (bytes_of-zeros k)
    ∙ ap words_of (over_zeros (8 * k) 8 bytes (omega arith))
    ∙ ap (λ (r : ℕ). words_of (replicate 8 0 ++ (bytes ++ replicate r 0))) rest
    ∙ words_of-append (replicate 8 0) padded (omega (arith, length-replicate {A = ℕ} 8 0))
    ∙ ap (λ (r : List ℕ). r ++ words_of padded) (words_of-zeros [] 1 refl ∙ ap (λ (r : List ℕ). r ++ 0 ∷ []) words_of-nil)

-- A text that was made is there.

pub holds-made : (old new : Heap) (at : ℕ) (bytes : List ℕ) → IsMade old new at (text_object bytes) → HoldsText new at
holds-made old new at bytes made = record {
  held = made-held old new at (text_object bytes) made;
  kind = ap (λ (o : Object). o.header.kind) (made-object old new at (text_object bytes) made) ∙ ap (λ (h : Header). h.kind) (header_of-text_object bytes);
}

pub text_at-made : (old new : Heap) (at : ℕ) (bytes : List ℕ) → IsMade old new at (text_object bytes) → AreBytes bytes → length bytes < 2 ^ 32
    → text_at new at ≡ bytes
text_at-made old new at bytes made good h = ap text_of (made-object old new at (text_object bytes) made) ∙ text_of-text_object bytes good h

-- What an operation gave is a text, and whatever it did, the texts of before stay.

pub holds-given : (old new : Heap) (attempt : Attempt (List ℕ)) (at : ℕ) → GivesText old new attempt (Ok at) → HoldsText new at
holds-given old new (Yields bytes) at made = holds-made old new at bytes made
holds-given old new (Fails trap) at failed = let never = failed.0 in absurd (cc)

texts-same : (old new : Heap) → new ≡ old → TextsStay old new
texts-same old new e = subst (TextsStay old) (sym e) (λ at held is. record { held = held; kind = is; bytes = refl })

pub texts-given : (old new : Heap) (attempt : Attempt (List ℕ)) (result : Result ℕ OpFault) → GivesText old new attempt result → TextsStay old new
texts-given old new (Yields bytes) (Ok at) made = texts-made old new at (text_object bytes) made
texts-given old new (Yields bytes) (Err (Swizzle fault)) full = texts-same old new full.stays
texts-given old new (Yields bytes) (Err (Trap trap)) never = absurd never
texts-given old new (Fails trap) result failed = texts-same old new failed.1

pub texts-made_text : (old new : Heap) (bytes : List ℕ) (result : Result ℕ SwizzleFault) → MakesText old new bytes result → TextsStay old new
texts-made_text old new bytes (Ok at) made = texts-made old new at (text_object bytes) made
texts-made_text old new bytes (Err fault) full = texts-same old new full.stays

-- The same, without the bytes.

pub there-made : (old new : Heap) (bytes : List ℕ) (result : Result ℕ SwizzleFault) → MakesText old new bytes result → IfOk result (HoldsText new)
there-made old new bytes (Ok at) made = holds-made old new at bytes made
there-made old new bytes (Err fault) full = tt

pub there-given : (old new : Heap) (attempt : Attempt (List ℕ)) (result : Result ℕ OpFault) → GivesText old new attempt result → IfOk result (HoldsText new)
there-given old new attempt (Ok at) given = holds-given old new attempt at given
there-given old new attempt (Err fault) given = tt

still : (old new : Heap) → TextsStay old new → StillTexts old new
still old new stay at there = let text = stay at there.held there.kind in record { held = text.held; kind = text.kind }

pub still-made : (old new : Heap) (bytes : List ℕ) (result : Result ℕ SwizzleFault) → MakesText old new bytes result → StillTexts old new
still-made old new bytes result made = still old new (texts-made_text old new bytes result made)

pub still-given : (old new : Heap) (attempt : Attempt (List ℕ)) (result : Result ℕ OpFault) → GivesText old new attempt result → StillTexts old new
still-given old new attempt result given = still old new (texts-given old new attempt result given)
