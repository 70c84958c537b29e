-- What was written into a new object is there.
use Rattle.std.proofs.Common.{◌≡◌, ℕ, zero, suc, ◌+◌, ◌*◌, ◌<◌, ◌≤◌, ◌^◌, List, [], ◌∷◌, ◌++◌, length, take, drop, replicate, slice_index, refl, sym, ap, ◌∙◌, arith}
use Rattle.std.proofs.lemmas.List.{length-replicate, length-take-le, take_at, drop_at}
use Rattle.ps_base.specs.declared.code_unit.Frame.{Frame}
use Rattle.heap_texts.specs.obj_area.Area.{words_spanned}
use Rattle.heap_texts.specs.obj_area.Words.{bytes_of, words_of, AreWords, AreBytes, overwritten}
use Rattle.heap_texts.specs.obj_area.inside.Bytes.{AreWhole}
use Rattle.heap_texts.proofs.of_obj_area.WordLaws.{overwritten-inside, bytes_of-append, length-bytes_of, words_of-append, words_of-bytes_of, bytes_of-words_of}
use Rattle.heap_texts.proofs.of_obj_area.AreaLaws.{length-overwritten, AreBytes-bytes_of, AreBelow-overwritten}
use Rattle.heap_texts.specs.obj_layout.declared.kind.Kind.TheVariants.{Code}
use Rattle.heap_texts.specs.obj_layout.declared.reference.Reference.{Reference}
use Rattle.heap_texts.specs.swizzle.Objects.{Object}
use Rattle.heap_texts.specs.swizzle.Heap.{blank}
use Rattle.heap_texts.specs.swizzle.Text.{first_byte, text_of, with_bytes_at}
use Rattle.heap_texts.specs.Texts.{blank_text, text_nums, text_object}
use Rattle.proc_values.specs.Units.{code_nums, code_object, frame_word}
use Rattle.proc_values.specs.Loaded.{IsFitFrame}

-- the bytes of an object that all of its bytes were written of
pub text-new : (o : Object) (bytes : List ℕ) → AreBytes bytes → o.header.bytes ≡ length bytes → first_byte o + length bytes ≤ 8 * length o.nums
    → text_of (with_bytes_at o 0 bytes) ≡ bytes
text-new o bytes good long room =
    let b = bytes_of o.nums in
    let first = first_byte o in
    let over = overwritten b (first + 0) bytes in
    let lb = length-bytes_of o.nums in
    let lo = length-overwritten b (first + 0) bytes in
    let place : first + 0 ≡ first = omega arith in
    let front : length (take first b) ≡ first = length-take-le first b (omega arith) in
    let behind = drop (first + length bytes) b in
    let back : bytes_of (words_of over) ≡ over = bytes_of-words_of over (omega arith)
    (AreBelow-overwritten 256 b (first + 0) bytes (omega arith) (AreBytes-bytes_of o.nums) good) in
    let spread : over ≡ take first b ++ (bytes ++ behind) = ap (λ (n : ℕ). overwritten b n bytes) place ∙ overwritten-inside b first bytes (omega arith) in
    ap (λ (r : List ℕ). take o.header.bytes (drop first r)) (back ∙ spread)
    ∙ ap (take o.header.bytes) (drop_at (take first b) (bytes ++ behind) first front)
    ∙ take_at bytes behind o.header.bytes (sym long)

pub text-of_text : (bytes : List ℕ) → AreBytes bytes → text_of (text_object bytes) ≡ bytes
unfolding text_object
text-of_text bytes good =
    let n = text_nums (length bytes) in
    text-new (blank_text (length bytes)) bytes good refl (omega (arith, length-replicate {A = ℕ} n 0))

-- Code.

pub text-of_code : (code : List ℕ) (frame : Frame) (places : List Reference) → AreBytes code → text_of (code_object code frame places) ≡ code
unfolding code_object
text-of_code code frame places good =
    let n = words_spanned (length code) in
    let o = record (blank Code (length places) (code_nums (length code)) (length code)) { refs = places; nums = 0 ∷ frame_word frame ∷ replicate n 0 } in
    text-new o code good refl (omega (arith, length-replicate {A = ℕ} n 0))

word_small : (frame : Frame) → IsFitFrame frame → frame_word frame < 2 ^ 64
unfolding frame_word
word_small frame fit = omega (arith, fit.nums, fit.refs, fit.num_params, fit.ref_params)

two_words : (word k : ℕ) → word < 2 ^ 64 → slice_index (0 ∷ word ∷ []) k < 2 ^ 64
two_words word zero h = omega arith
two_words word (suc zero) h = h
two_words word (suc (suc k)) h = omega arith

-- the words before the bytes stay
front-stays : (a body bytes : List ℕ) (place : ℕ) → AreWords a → place ≡ 8 * length a → place + length bytes ≤ 8 * length (a ++ body)
    → words_of (overwritten (bytes_of (a ++ body)) place bytes) ≡ a ++ words_of (bytes ++ drop (place + length bytes) (bytes_of (a ++ body)))
front-stays a body bytes place good e room =
    let b = bytes_of (a ++ body) in
    let la = length-bytes_of a in
    let lb = length-bytes_of (a ++ body) in
    let rest = bytes ++ drop (place + length bytes) b in
    let front : take place b ≡ bytes_of a = ap (take place) (bytes_of-append a body) ∙ take_at (bytes_of a) (bytes_of body) place (omega arith) in
    let whole : AreWhole (bytes_of a) = omega arith in
    ap words_of (overwritten-inside b place bytes (omega arith) ∙ ap (λ (r : List ℕ). r ++ rest) front)
    ∙ words_of-append (bytes_of a) rest whole
    ∙ ap (λ (r : List ℕ). r ++ words_of rest) (words_of-bytes_of a good)

pub frame-of_code : (code : List ℕ) (frame : Frame) (places : List Reference) → IsFitFrame frame
    → slice_index (code_object code frame places).nums 1 ≡ frame_word frame
unfolding code_object
frame-of_code code frame places fit =
    let word = frame_word frame in
    let body : List ℕ = replicate (words_spanned (length code)) 0 in
    ap (λ (r : List ℕ). slice_index r 1) (front-stays (0 ∷ word ∷ []) body code 16 (λ k. two_words word k (word_small frame fit)) (omega arith)
    (omega (arith, length-replicate {A = ℕ} (words_spanned (length code)) 0)))
