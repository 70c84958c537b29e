-- What objects that are appended or written over make of a space.
use Rattle.std.proofs.Common.{◌≡◌, ◌⊎◌, inl, inr, ℕ, ◌+◌, ◌<◌, ◌≤◌, List, ◌++◌, length, get_or, take, drop, sym, ◌∙◌, ap, subst, arith, length-append, length-take, length-drop, []}
use Rattle.std.proofs.lemmas.Grind.{same_number_lists}
use Rattle.std.proofs.lemmas.List.{append_assoc, get_or-append_right, get_or_append_left}
use Rattle.obj_layout.specs.ps_outside.Outside.{Outside}
use Rattle.ps_port.specs.Disk.{written}
use Rattle.ps_port.specs.DiskLaws.{written_elsewhere, length-written}
use Rattle.volume_parts.specs.Holding.{Held}
use Rattle.paged_volume.specs.Standing.{seen}
use Rattle.paged_volume.specs.declared.table.Table.{Table}
use Rattle.volume_parts.proofs.Gate.{written_inside}
use Rattle.obj_layout.specs.Stored.{Space, appended, overwritten, with_words}
use Rattle.obj_layout.specs.Storing.{Becomes}
use Rattle.obj_store.specs.Spaces.{word_at, words_of, space_of, IsInOrder, spaces}
use Rattle.obj_store.specs.Words.{HoldsPut}
use Rattle.obj_store.specs.Staging.{Turns}
use Rattle.obj_store.specs.StoreLaws.{length_words}
use Rattle.obj_store.proofs.SpaceLaws.{word_of, stood, told_of}

either : (m n : ℕ) → (m < n) ⊎ (n ≤ m)
either m n = grind arith

-- a step of what is held is one of the space
pub becomes_of : (used next : ℕ) (p q : Table) (a b : Outside (List ℕ)) (step : Held → Held → Type 0) (f : Space → Space) → Turns (seen p a) (seen q b) step →
    IsInOrder used p.committed → IsInOrder next q.committed → ((x y : Held) → step x y → f (space_of used x) ≡ space_of next y) → Becomes (spaces used p a) (spaces next q b) f
becomes_of used next p q a b step f turns order order_next joins = record {
  told = λ space told.
      let is = stood used p a space told in
      let after = turns.forth is.held is.now in
      subst (λ (x : Space). (spaces next q b).contents x) (sym (joins is.held after.0 after.2) ∙ ap f is.is) (told_of next q b after.0 order_next after.1);
  no_other = λ after told.
      let is = stood next q b after told in
      let before = turns.back is.held is.now in
      (space_of used before.0, told_of used p a before.0 order before.1, joins before.0 is.held before.2 ∙ is.is);
}

pub joins_append : (used : ℕ) (put : List ℕ) (x y : Held) → HoldsPut used (used + length put) used put x y → appended put (space_of used x) ≡ space_of (used + length put) y
joins_append used put x y is = λ i. record { words = words i; directory = sym (ap (λ n. n.directory) is.note) i; file = [] }
  where
    by : (k : ℕ) → k < used + length put → (k < used) ⊎ (used ≤ k) → get_or (words_of used x.bytes ++ put) k 0 ≡ word_at y.bytes k
    by k lt (inl low) =
        get_or_append_left (words_of used x.bytes) put 0 k (omega (arith, length_words used x.bytes)) ∙ word_of used x.bytes k low ∙ sym (is.elsewhere k (inl low))
    by k lt (inr high) = get_or-append_right (words_of used x.bytes) put used k 0 (length_words used x.bytes) high ∙ sym (is.here k high lt)

    words : words_of used x.bytes ++ put ≡ words_of (used + length put) y.bytes
    words =
        same_number_lists (words_of used x.bytes ++ put) (words_of (used + length put) y.bytes)
        (omega (arith, length-append (words_of used x.bytes) put, length_words used x.bytes, length_words (used + length put) y.bytes))
        (λ k lt.
        let all : k < used + length put = omega (arith, length-append (words_of used x.bytes) put, length_words used x.bytes) in
        by k all (either k used) ∙ sym (word_of (used + length put) y.bytes k all))

pub joins_overwrite : (used pid : ℕ) (put : List ℕ) (x y : Held) → pid + length put ≤ used → HoldsPut pid (pid + length put) pid put x y → overwritten pid put (space_of used x) ≡ space_of used y
joins_overwrite used pid put x y within is = λ i. record { words = words i; directory = sym (ap (λ n. n.directory) is.note) i; file = [] }
  where
    long : length (words_of used x.bytes) ≡ used
    long = length_words used x.bytes

    by : (k : ℕ) → k < used → (k < pid) ⊎ (pid ≤ k) → (k < pid + length put) ⊎ (pid + length put ≤ k) → get_or (written pid put (words_of used x.bytes)) k 0 ≡ word_at y.bytes k
    by k lt (inl low) other =
        written_elsewhere pid put (words_of used x.bytes) k (omega (arith, long)) (inl low) ∙ word_of used x.bytes k lt ∙ sym (is.elsewhere k (inl low))
    by k lt (inr here) (inr behind) =
        written_elsewhere pid put (words_of used x.bytes) k (omega (arith, long)) (inr behind) ∙ word_of used x.bytes k lt ∙ sym (is.elsewhere k (inr behind))
    by k lt (inr here) (inl inside) = written_inside pid put (words_of used x.bytes) k (omega (arith, long)) here inside ∙ sym (is.here k here inside)

    size : length (written pid put (words_of used x.bytes)) ≡ used
    size =
        omega (arith, length-written pid put (words_of used x.bytes), length-take pid (words_of used x.bytes), length-drop (pid + length put) (words_of used x.bytes), long, within)

    words : with_words (words_of used x.bytes) pid put ≡ words_of used y.bytes
    words =
        sym (append_assoc (take pid (words_of used x.bytes)) put (drop (pid + length put) (words_of used x.bytes)))
        ∙ same_number_lists (written pid put (words_of used x.bytes)) (words_of used y.bytes) (size ∙ sym (length_words used y.bytes))
        (λ k lt.
        let all : k < used = omega (arith, size) in
        by k all (either k pid) (either k (pid + length put)) ∙ sym (word_of used y.bytes k all))
