-- The greatest PID, as objects are replaced and come.
use Rattle.std.proofs.Common.{inl, inr, ◌≡◌, ℕ, ◌+◌, ◌<◌, ◌≤◌, List, [], ◌∷◌, ◌++◌, sym, ap, ◌∙◌, arith, Some, max}
use Rattle.std.proofs.lemmas.Bool.{cases_eq, cases_lt}
use Rattle.swizzle.specs.Objects.{Object, size_of, size_of_all, find_from, replace_from}
use Rattle.swizzle.specs.Greatest.{HasPid, IsGreatest}
use Rattle.swizzle.proofs.HeapLaws.{find-replaced, find-replaced_other, find-append, find-append_cases, find-new, same_object}

-- that of no objects
pub greatest-none : (pid : ℕ) → pid ≡ 0 → IsGreatest [] pid
greatest-none pid is = record { all = λ at object found. absurd (cc); some = inl is }

-- There is one above 0.
greatest-has : (os : List Object) (greatest : ℕ) → IsGreatest os greatest → 0 < greatest → HasPid os greatest
greatest-has os greatest g some =
    elim (g.some) [
      | inl none ↦ absurd (omega (arith, some, none))
      | inr it ↦ it
    ]

-- One object in the place of another, with no lesser PID: the greatest is the greater of what it was and of the new one.
pub greatest-raised : (os : List Object) (at : ℕ) (o new : Object) (greatest now : ℕ) → IsGreatest os greatest → find_from 1 os at ≡ Some o → size_of new ≡ size_of o → o.header.pid ≤ new.header.pid → now ≡ max greatest new.header.pid
    → IsGreatest (replace_from 1 os at new) now
greatest-raised os at o new greatest now g is long raised most =
    let objects = replace_from 1 os at new in
    let there : find_from 1 objects at ≡ Some new = find-replaced 1 os at o new is in
    record {
      all = λ x object found.
          elim (cases_eq x at) [
            | inl e ↦ let same = ap (λ (p : Object). p.header.pid) (same_object (find_from 1 objects at) object new (ap (find_from 1 objects) (sym e) ∙ found) there) in omega (arith, same, most)
            | inr ne ↦ let below = g.all x object (sym (find-replaced_other 1 os at x o new is long ne) ∙ found) in omega (arith, below, most)
          ];
      some =
          elim (cases_lt new.header.pid greatest) [
            | inl stays ↦
                let had = greatest-has os greatest g (omega (arith, stays)) in
                elim (cases_eq had.at at) [
                  | inl e ↦
                      let same = ap (λ (p : Object). p.header.pid) (same_object (find_from 1 os at) had.object o (ap (find_from 1 os) (sym e) ∙ had.is) is) in
                      absurd (omega (arith, same, had.pid_is, raised, stays))
                  | inr ne ↦ inr (record { at = had.at; object = had.object; is = find-replaced_other 1 os at had.at o new is long ne ∙ had.is; pid_is = omega (arith, had.pid_is, most, stays) })
                ]
            | inr rises ↦ inr (record { at = at; object = new; is = there; pid_is = omega (arith, most, rises) })
          ];
    }

-- it stays where the PID of each object does
pub greatest-replaced : (os : List Object) (at : ℕ) (o new : Object) (greatest : ℕ) → IsGreatest os greatest → find_from 1 os at ≡ Some o → size_of new ≡ size_of o → new.header.pid ≡ o.header.pid → IsGreatest (replace_from 1 os at new) greatest
greatest-replaced os at o new greatest g is long pid =
    let below = g.all at o is in
    greatest-raised os at o new greatest greatest g is long (omega (arith, pid)) (omega (arith, below, pid))

-- One more object at the end: the greatest is the greater of what it was and of the new one's.
pub greatest-laid : (os : List Object) (o : Object) (greatest now : ℕ) → IsGreatest os greatest → now ≡ max greatest o.header.pid → IsGreatest (os ++ o ∷ []) now
greatest-laid os o greatest now g most = record {
  all = λ x object found.
      elim (find-append_cases 1 os o x object found) [
        | inl was ↦ let below = g.all x object was in omega (arith, below, most)
        | inr new ↦ let same = ap (λ (p : Object). p.header.pid) new.1 in omega (arith, same, most)
      ];
  some =
      elim (cases_lt o.header.pid greatest) [
        | inl stays ↦
            let had = greatest-has os greatest g (omega (arith, stays)) in
            inr (record { at = had.at; object = had.object; is = find-append 1 os o had.at had.object had.is; pid_is = omega (arith, had.pid_is, most, stays) })
        | inr rises ↦ inr (record { at = 1 + size_of_all os; object = o; is = find-new 1 os o; pid_is = omega (arith, most, rises) })
      ];
}

-- it stays where the object that comes has no PID
pub greatest-new : (os : List Object) (o : Object) (greatest : ℕ) → IsGreatest os greatest → o.header.pid ≡ 0 → IsGreatest (os ++ o ∷ []) greatest
greatest-new os o greatest g none = greatest-laid os o greatest greatest g (omega (arith, none))
