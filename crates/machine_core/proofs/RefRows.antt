-- Rows of references: each word denotes a value.
use Rattle.std.proofs.Common.{◌≡◌, ℕ, suc, ◌+◌, ◌-◌, ◌<◌, ◌≤◌, List, [], ◌∷◌, ◌++◌, length, drop, get_or, set, Bool, true, false, refl, sym, ap, ◌∙◌, subst, arith, length-append, length-drop, Option}
use Rattle.std.specs.Prelude.{reverse, nat_eq, if◌then◌else◌}
use Rattle.std.proofs.lemmas.List.{get_or_append_left, get_or-set_same, get_or-set_other, length-set, drop-set-lt, length-reverse, drop_all}
use Rattle.std.proofs.lemmas.Bool.{eqb-true, eqb-false}
use Rattle.joint_ops.specs.ps_outside.Outside.{Outside}
use Rattle.joint_ops.specs.obj_layout.Stored.{Space}
use Rattle.joint_ops.specs.obj_layout.declared.reference.Reference.{Reference}
use Rattle.joint_ops.specs.swizzle.Heap as area
use Rattle.ps_stepping.specs.ps_heap.Values.{Value}
use Rattle.ps_stepping.specs.ps_meaning.Meaning.{with_local}
use Rattle.joint_ops.specs.World.{DenotesIn}
use Rattle.machine_core.specs.Holding.{IsRefRow, AreDenoted, object_in}
use Rattle.machine_core.proofs.Rows.{pushed_more}

module _ (here : area.Heap) (outside : Outside Space) (names : List Reference) where
  pub denoted_length : (words : List ℕ) (vs : List Value) → AreDenoted here outside names words vs → length vs ≡ length words
  denoted_length [] [] d = refl
  denoted_length (w ∷ ws) (v ∷ vs) d = ap suc (denoted_length ws vs d.1)
  denoted_length [] (v ∷ vs) d = absurd d
  denoted_length (w ∷ ws) [] d = absurd d

  -- the first of these words
  pub first_denoted : (w : ℕ) (ws : List ℕ) (vs : List Value) → AreDenoted here outside names (w ∷ ws) vs → (v : Value) × (rest : List Value) × (vs ≡ v ∷ rest) × DenotesIn here outside names (object_in w) v × AreDenoted here outside names ws rest
  first_denoted w ws [] d = absurd d
  first_denoted w ws (v ∷ vs) d = (v, vs, refl, d.0, d.1)

  none_denoted : (vs : List Value) → AreDenoted here outside names [] vs → vs ≡ []
  none_denoted [] d = refl
  none_denoted (v ∷ vs) d = absurd d

  module _ (size : ℕ) where
    -- one more is pushed
    pub ref_push : (words : List ℕ) (w : ℕ) (v : Value) (pushed : List Value) (locals : ℕ → Value) → IsRefRow here outside names words size pushed locals → DenotesIn here outside names (object_in w) v
        → IsRefRow here outside names (words ++ w ∷ []) size (v ∷ pushed) locals
    ref_push words w v pushed locals row d = record {
      room = let room = row.room in omega (arith, length-append words (w ∷ []));
      pushed_are = subst (λ (xs : List ℕ). AreDenoted here outside names xs (v ∷ pushed)) (sym (pushed_more size words w row.room)) (d, row.pushed_are);
      locals_are = λ slot e below. subst (λ (x : ℕ). DenotesIn here outside names (object_in x) (locals slot)) (sym (get_or_append_left words (w ∷ []) e slot (let room = row.room in omega arith))) (row.locals_are slot e below);
    }

    -- the top is popped
    pub ref_pop : (words rest : List ℕ) (w : ℕ) (pushed : List Value) (locals : ℕ → Value) → IsRefRow here outside names words size pushed locals → words ≡ rest ++ w ∷ [] → size ≤ length rest
        → (v : Value) × (below : List Value) × (pushed ≡ v ∷ below) × DenotesIn here outside names (object_in w) v × IsRefRow here outside names rest size below locals
    ref_pop words rest w pushed locals row split room =
        let all = subst (λ (xs : List ℕ). AreDenoted here outside names xs pushed) (ap (λ (xs : List ℕ). reverse (drop size xs)) split ∙ pushed_more size rest w room) row.pushed_are in
        let top = first_denoted w (reverse (drop size rest)) pushed all in (
          top.0,
          top.1,
          top.2,
          top.3,
          record {
            room = room;
            pushed_are = top.4;
            locals_are = λ slot e low. subst (λ (x : ℕ). DenotesIn here outside names (object_in x) (locals slot)) (ap (λ (xs : List ℕ). get_or xs slot e) split ∙ get_or_append_left rest (w ∷ []) e slot (omega arith)) (row.locals_are slot e low);
          },
        )

    -- nothing is pushed
    pub ref_none : (words : List ℕ) (pushed : List Value) (locals : ℕ → Value) → IsRefRow here outside names words size pushed locals → length words ≤ size → pushed ≡ []
    ref_none words pushed locals row low = none_denoted pushed (subst (λ (xs : List ℕ). AreDenoted here outside names xs pushed) (ap (λ (xs : List ℕ). reverse xs) (drop_all size words low)) row.pushed_are)

    pub ref_length : (words : List ℕ) (pushed : List Value) (locals : ℕ → Value) → IsRefRow here outside names words size pushed locals → size + length pushed ≡ length words
    ref_length words pushed locals row =
        let long : length pushed ≡ length words - size = denoted_length (reverse (drop size words)) pushed row.pushed_are ∙ length-reverse (drop size words) ∙ length-drop size words in
        let room = row.room in
        omega (arith, long)

    -- a local is written
    pub ref_set : (words : List ℕ) (w : ℕ) (v : Value) (slot : ℕ) (pushed : List Value) (locals : ℕ → Value) → IsRefRow here outside names words size pushed locals → DenotesIn here outside names (object_in w) v → slot < size
        → IsRefRow here outside names (set words slot w) size pushed (with_local locals slot v)
    ref_set words w v slot pushed locals row denoted low = record {
      room = let room = row.room in omega (arith, length-set words slot w);
      pushed_are = subst (λ (xs : List ℕ). AreDenoted here outside names (reverse xs) pushed) (sym (drop-set-lt size words slot w low)) row.pushed_are;
      locals_are = λ s e below.
          let written : (b : Bool) → nat_eq s slot ≡ b → DenotesIn here outside names (object_in (get_or (set words slot w) s e)) (if b then v else locals s) =
          λ b. elim b as (λ b. nat_eq s slot ≡ b → DenotesIn here outside names (object_in (get_or (set words slot w) s e)) (if b then v else locals s)) [
            | true ↦ (λ is. subst (λ (x : ℕ). DenotesIn here outside names (object_in x) v) (sym (ap (λ (i : ℕ). get_or (set words slot w) i e) (eqb-true s slot is) ∙ get_or-set_same words slot w e (let room = row.room in omega arith))) denoted)
            | false ↦ (λ is. subst (λ (x : ℕ). DenotesIn here outside names (object_in x) (locals s)) (sym (get_or-set_other words slot s w e (eqb-false s slot is))) (row.locals_are s e below))
          ] in
          written (nat_eq s slot) refl;
    }

  -- what they denote is denoted over another area and vault too
  module _ (now : area.Heap) (after : Outside Space) (more : List Reference)
      (keep : (to : Option ℕ) (v : Value) → DenotesIn here outside names to v → DenotesIn now after more to v) where
    denoted_more : (words : List ℕ) (vs : List Value) → AreDenoted here outside names words vs → AreDenoted now after more words vs
    denoted_more [] [] d = tt
    denoted_more (w ∷ ws) (v ∷ vs) d = (keep (object_in w) v d.0, denoted_more ws vs d.1)
    denoted_more [] (v ∷ vs) d = absurd d
    denoted_more (w ∷ ws) [] d = absurd d

    pub row_more : (words : List ℕ) (size : ℕ) (pushed : List Value) (locals : ℕ → Value) → IsRefRow here outside names words size pushed locals
        → IsRefRow now after more words size pushed locals
    row_more words size pushed locals row = record {
      room = row.room;
      pushed_are = denoted_more (reverse (drop size words)) pushed row.pushed_are;
      locals_are = λ slot d below. keep (object_in (get_or words slot d)) (locals slot) (row.locals_are slot d below);
    }
