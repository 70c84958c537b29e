-- What a vault in memory holds is what its words are.
use Rattle.std.proofs.Common.{◌≡◌, ℕ, ◌+◌, ◌-◌, ◌++◌, List, length, take, drop, Option, sym, ap, ◌∙◌, subst, arith}
use Rattle.std.proofs.lemmas.List.{take-append-le, take-append-drop, drop-drop}
use Rattle.obj_layout.specs.declared.header.Header.{Header}
use Rattle.obj_layout.specs.Header.{header_words, object_length}
use Rattle.obj_layout.specs.Objects.{Placed}
use Rattle.obj_layout.specs.Stored.{Space, Holds, HasObject}
use Rattle.obj_layout.proofs.HeaderLaws.{header_words-injective}
use Rattle.obj_layout.proofs.ObjectLaws.{Cuts-lies, object-long}
use Rattle.obj_layout.proofs.StoredLaws.{HasObject-object}
use Rattle.memory_vault.specs.Memory.{Memory, outside_of}
use Rattle.memory_vault.specs.Tested.{IsTested}

-- an object of a space has the words that stand at its PID
stands : (space : Space) (pid : ℕ) (words : List ℕ) → HasObject space pid words → take (length words) (drop pid space.words) ≡ words
stands space pid words h =
    let placed : Placed = record { pid = pid; words = words } in
    let lies = Cuts-lies 1 (drop 1 space.words) h.objects placed h.cut.1 h.among in
    let place : pid ≡ 1 + (pid - 1) = omega (arith, lies.from) in
    ap (λ (n : ℕ). take (length words) (drop n space.words)) place ∙ ap (take (length words)) (sym (drop-drop (pid - 1) 1 space.words)) ∙ lies.there

-- and the header that stands there tells its length
as_long : (space : Space) (pid : ℕ) (words : List ℕ) (wanted : Option ℕ) (header : Header) → HasObject space pid words → IsTested space.words pid wanted header
    → length words ≡ object_length header
as_long space pid words wanted header h tested =
    let object = HasObject-object space pid words h in
    let here = drop pid space.words in
    let rest = drop (length words) here in
    let whole : here ≡ words ++ rest = sym (take-append-drop (length words) here) ∙ ap (λ (r : List ℕ). r ++ rest) (stands space pid words h) in
    let front : take 4 here ≡ take 4 words = ap (take 4) whole ∙ take-append-le 4 words rest (object-long words object) in
    let same : header_words object.header ≡ header_words header = object.spelled ∙ sym front ∙ tested.spelled in
    object.long ∙ ap object_length (header_words-injective object.header header object.fields tested.fields same)

pub held-length : (memory : Memory) (pid : ℕ) (words : List ℕ) (wanted : Option ℕ) (header : Header) → Holds (outside_of memory) pid words
    → IsTested memory.space.words pid wanted header → length words ≡ object_length header
held-length memory pid words wanted header h tested =
    as_long memory.space pid words wanted header (subst (λ (s : Space). HasObject s pid words) (sym h.is.is) h.has) tested

pub held-words : (memory : Memory) (pid : ℕ) (words : List ℕ) → Holds (outside_of memory) pid words → words ≡ take (length words) (drop pid memory.space.words)
held-words memory pid words h = sym (stands memory.space pid words (subst (λ (s : Space). HasObject s pid words) (sym h.is.is) h.has))
