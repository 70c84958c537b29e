-- The objects of a space are where their PIDs say.
use Rattle.std.proofs.Common.{◌≡◌, ℕ, ◌+◌, ◌-◌, ◌++◌, List, length, take, drop, sym, ap, ◌∙◌, arith, Option}
use Rattle.std.proofs.lemmas.List.{take-append-le, take-append-drop, drop-drop}
use Rattle.obj_layout.specs.ps_outside.Outside.{Outside}
use Rattle.obj_layout.specs.declared.header.Header.{Header}
use Rattle.obj_layout.specs.Header.{HasFitFields, header_words, object_length}
use Rattle.obj_layout.specs.Objects.{Placed}
use Rattle.obj_layout.specs.Stored.{Space, Holds, HasObject}
use Rattle.obj_layout.proofs.HeaderLaws.{header_words-injective}
use Rattle.obj_layout.proofs.ObjectLaws.{Cuts-lies, object-long}
use Rattle.obj_layout.proofs.StoredLaws.{HasObject-object}
use Rattle.obj_store.specs.Tested.{IsObjectHeader}

-- an object of a space has the words that stand at its PID
stands : (space : Space) (pid : ℕ) (words : List ℕ) → HasObject space pid words → take (length words) (drop pid space.words) ≡ words
stands space pid words h =
    let placed : Placed = record { pid = pid; words = words } in
    let lies = Cuts-lies 1 (drop 1 space.words) h.objects placed h.cut.1 h.among in
    let place : pid ≡ 1 + (pid - 1) = omega (arith, lies.from) in
    ap (λ (n : ℕ). take (length words) (drop n space.words)) place ∙ ap (take (length words)) (sym (drop-drop (pid - 1) 1 space.words)) ∙ lies.there

-- and the header that stands there tells its length
pub held_length : (outside : Outside Space) (pid : ℕ) (wanted : Option ℕ) (header : Header) (words : List ℕ) → Holds outside pid words → HasFitFields header →
    IsObjectHeader outside pid wanted header → length words ≡ object_length header
held_length outside pid wanted header words h fields is =
    let object = HasObject-object h.space pid words h.has in
    let here = drop pid h.space.words in
    let rest = drop (length words) here in
    let whole : here ≡ words ++ rest = sym (take-append-drop (length words) here) ∙ ap (λ (r : List ℕ). r ++ rest) (stands h.space pid words h.has) in
    let front : take 4 here ≡ take 4 words = ap (take 4) whole ∙ take-append-le 4 words rest (object-long words object) in
    let same : header_words object.header ≡ header_words header = object.spelled ∙ sym front ∙ is.spelled h.space h.is in
    object.long ∙ ap object_length (header_words-injective object.header header object.fields fields same)

-- words that were read at its PID, as many as it has, are the object
pub held_words : (outside : Outside Space) (pid count : ℕ) (read words : List ℕ) → Holds outside pid words → length words ≡ count →
    ((space : Space) → outside.contents space → take count (drop pid space.words) ≡ read) → words ≡ read
held_words outside pid count read words h long is =
    sym (stands h.space pid words h.has) ∙ ap (λ (n : ℕ). take n (drop pid h.space.words)) long ∙ is h.space h.is
