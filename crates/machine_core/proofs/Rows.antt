-- Rows of numbers: what is pushed above the locals, and what is read and written.
use Rattle.std.proofs.Common.{◌≡◌, ℕ, ◌+◌, ◌-◌, ◌<◌, ◌≤◌, ℤ, List, [], ◌∷◌, ◌++◌, length, drop, get_or, set, Bool, true, false, refl, sym, ap, ◌∙◌, arith, length-append, length-drop}
use Rattle.std.specs.Prelude.{reverse, nat_eq, if◌then◌else◌}
use Rattle.std.proofs.lemmas.List.{reverse-append, drop-append-le, get_or_append_left, get_or-set_same, get_or-set_other, length-set, drop-set-lt, length-reverse, drop_all}
use Rattle.std.proofs.lemmas.Bool.{eqb-true, eqb-false}
use Rattle.ps_stepping.specs.ps_meaning.Meaning.{with_local}
use Rattle.machine_core.specs.Holding.{IsRow}

-- the words that are pushed, the top first
pub pushed_more : {W : Type 0} (size : ℕ) (words : List W) (w : W) → size ≤ length words → reverse (drop size (words ++ w ∷ [])) ≡ w ∷ reverse (drop size words)
pushed_more {W} size words w room = ap (λ (xs : List W). reverse xs) (drop-append-le size words (w ∷ []) room) ∙ reverse-append (drop size words) (w ∷ [])

module _ (size : ℕ) where
  -- one more is pushed
  pub row_push : (words : List ℤ) (w : ℤ) (pushed : List ℤ) (locals : ℕ → ℤ) → IsRow words size pushed locals → IsRow (words ++ w ∷ []) size (w ∷ pushed) locals
  row_push words w pushed locals row = record {
    room = let room = row.room in omega (arith, length-append words (w ∷ []));
    pushed_are = ap (λ (vs : List ℤ). w ∷ vs) row.pushed_are ∙ sym (pushed_more size words w row.room);
    locals_are = λ slot d below. row.locals_are slot d below ∙ sym (get_or_append_left words (w ∷ []) d slot (let room = row.room in omega arith));
  }

  -- the top is popped
  pub row_pop : (words rest : List ℤ) (w : ℤ) (pushed : List ℤ) (locals : ℕ → ℤ) → IsRow words size pushed locals → words ≡ rest ++ w ∷ [] → size ≤ length rest
      → (below : List ℤ) × (pushed ≡ w ∷ below) × IsRow rest size below locals
  row_pop words rest w pushed locals row split room = (
    reverse (drop size rest),
    row.pushed_are ∙ ap (λ (xs : List ℤ). reverse (drop size xs)) split ∙ pushed_more size rest w room,
    record {
      room = room;
      pushed_are = refl;
      locals_are = λ slot d low. row.locals_are slot d low ∙ ap (λ (xs : List ℤ). get_or xs slot d) split ∙ get_or_append_left rest (w ∷ []) d slot (omega arith);
    },
  )

  -- the two on top are popped
  pub row_pop_two : (words low : List ℤ) (a b : ℤ) (pushed : List ℤ) (locals : ℕ → ℤ) → IsRow words size pushed locals → words ≡ (low ++ a ∷ []) ++ b ∷ [] → size ≤ length low
      → (rest : List ℤ) × (pushed ≡ b ∷ a ∷ rest) × IsRow low size rest locals
  row_pop_two words low a b pushed locals row split room =
      let top = row_pop words (low ++ a ∷ []) b pushed locals row split (omega (arith, room, length-append low (a ∷ []))) in
      let next = row_pop (low ++ a ∷ []) low a top.0 locals top.2 refl room in
      (next.0, top.1 ∙ ap (λ (vs : List ℤ). b ∷ vs) next.1, next.2)

  -- nothing is pushed
  pub row_none : (words : List ℤ) (pushed : List ℤ) (locals : ℕ → ℤ) → IsRow words size pushed locals → length words ≤ size → pushed ≡ []
  row_none words pushed locals row low = row.pushed_are ∙ ap (λ (xs : List ℤ). reverse xs) (drop_all size words low)

  pub row_length : (words : List ℤ) (pushed : List ℤ) (locals : ℕ → ℤ) → IsRow words size pushed locals → size + length pushed ≡ length words
  row_length words pushed locals row =
      let long : length pushed ≡ length words - size = ap length row.pushed_are ∙ length-reverse (drop size words) ∙ length-drop size words in
      let room = row.room in
      omega (arith, long)

  -- a local is written
  pub row_set : (words : List ℤ) (w : ℤ) (slot : ℕ) (pushed : List ℤ) (locals : ℕ → ℤ) → IsRow words size pushed locals → slot < size → IsRow (set words slot w) size pushed (with_local locals slot w)
  row_set words w slot pushed locals row low = record {
    room = let room = row.room in omega (arith, length-set words slot w);
    pushed_are = row.pushed_are ∙ ap (λ (xs : List ℤ). reverse xs) (sym (drop-set-lt size words slot w low));
    locals_are = λ s d below.
        let written : (b : Bool) → nat_eq s slot ≡ b → (if b then w else locals s) ≡ get_or (set words slot w) s d =
        λ b. elim b as (λ b. nat_eq s slot ≡ b → (if b then w else locals s) ≡ get_or (set words slot w) s d) [
          | true ↦ (λ e. sym (ap (λ (i : ℕ). get_or (set words slot w) i d) (eqb-true s slot e) ∙ get_or-set_same words slot w d (let room = row.room in omega arith)))
          | false ↦ (λ e. row.locals_are s d below ∙ sym (get_or-set_other words slot s w d (eqb-false s slot e)))
        ] in
        written (nat_eq s slot) refl;
  }
