-- The space of what is held: the words whose spelling stands at the start of the held bytes.
use Rattle.std.proofs.Common.{◌≡◌, ℕ, ◌*◌, ◌%◌, ◌^◌, ◌<◌, sym, ◌∙◌, ap, arith, Some}
use Rattle.std.proofs.Common.{List, ◌++◌, length, length-append, drop, slice_index}
use Rattle.std.specs.Option.{option_map}
use Rattle.std.proofs.lemmas.List.{get_or_append_left}
use Rattle.std.proofs.lemmas.List.FromFn.{length-map-range_with_len, get_or-map-range_with_len}
use Rattle.std.proofs.lemmas.Grind.{same_number_lists}
use Rattle.heap_meaning.specs.obj_area.Words as words
use Rattle.heap_meaning.specs.obj_area.Words.{first_word, bytes_of, AreWords}
use Rattle.heap_meaning.proofs.of_obj_area.WordLaws as area
use Rattle.heap_meaning.proofs.of_obj_area.WordLaws.{length-bytes_of}
use Rattle.ps_volumes.specs.volume_parts.Holding.{Held}
use Rattle.ps_volumes.specs.paged_volume.Standing.{held_in}
use Rattle.ps_volumes.specs.volume_parts.declared.note.Note.{Note}
use Rattle.ps_volumes.specs.obj_store.Spaces.{word_at, words_of, space_of}
use Rattle.volume_meaning.specs.Space.{holding, space_in}
use Rattle.space_meaning.specs.Space.{spaced}

-- the word with an index below the spelled ones is one of them
spelled-at : (ws behind : List ℕ) → AreWords ws → (k : ℕ) → k < length ws → word_at (bytes_of ws ++ behind) k ≡ slice_index ws k
unfolding word_at first_word
spelled-at ws behind are k below =
    let long = length-bytes_of ws in
    let all = length-append (bytes_of ws) behind in
    let split = area.words_of-append (bytes_of ws) behind (omega arith) ∙ ap (λ (ns : List ℕ). ns ++ words.words_of behind) (area.words_of-bytes_of ws are) in
    let number : first_word (drop (8 * k) (bytes_of ws ++ behind)) ≡ slice_index ws k =
    sym (area.slice_index-words_of k (bytes_of ws ++ behind) (omega arith)) ∙ ap (λ (ns : List ℕ). slice_index ns k) split
    ∙ get_or_append_left ws (words.words_of behind) 0 k below in
    let low = are k in
    ap (λ (n : ℕ). n % 2 ^ 64) number ∙ omega arith

spelled-front : (ws behind : List ℕ) → AreWords ws → words_of (length ws) (bytes_of ws ++ behind) ≡ ws
unfolding words_of
spelled-front ws behind are =
    let long : length (words_of (length ws) (bytes_of ws ++ behind)) ≡ length ws = length-map-range_with_len (word_at (bytes_of ws ++ behind)) 0 (length ws) in
    same_number_lists (words_of (length ws) (bytes_of ws ++ behind)) ws long (λ k lt.
    let below : k < length ws = omega arith in
    get_or-map-range_with_len (word_at (bytes_of ws ++ behind)) 0 (length ws) k k 0 below (omega arith) ∙ spelled-at ws behind are k below)

pub space-held : (image : List ℕ) (note : Note) (ws behind : List ℕ) → AreWords ws → note.used ≡ length ws
    → held_in image ≡ Some (holding note (bytes_of ws ++ behind)) → space_in image ≡ Some (spaced ws note.directory)
unfolding space_in
space-held image note ws behind are used held =
    ap (option_map (λ (h : Held). space_of h.note.used h)) held
    ∙ ap (λ (words : List ℕ). Some (spaced words note.directory)) (ap (λ (n : ℕ). words_of n (bytes_of ws ++ behind)) used ∙ spelled-front ws behind are)
