-- Where each open database is one of the directory, the next one isn't open for writing.
use Rattle.std.proofs.Common.{ℕ, suc, ◌≤◌, List, [], ◌∷◌, length, inl, inr, sym, subst, arith}
use Rattle.std.specs.List.{AllByRecursion}
use Rattle.std.proofs.lemmas.Bool.{cases_Bool}
use Rattle.reaching.specs.Reaching.{IsIn, is_in}
use Rattle.reaching.proofs.Lists.{then_is, else_is}
use Rattle.ps_heap.specs.Databases.{Mode, Reading, Writing, Opening, with_writing, numbers_for_writing, each_once, open_for_writing}
use Rattle.ps_heap.specs.Held.{Held}
use Rattle.database_steps.specs.Databases.{IsNumber, AreNamed}

in_rest : (x count number : ℕ) (mode : Mode) (rest : List ℕ) → number ≤ count → (IsIn x rest → x ≤ count) → IsIn x (with_writing mode number rest) → x ≤ count
in_rest x count number Reading rest within h is = h is
in_rest x count number Writing rest within h (inl e) = subst (λ n. n ≤ count) (sym e) within
in_rest x count number Writing rest within h (inr is) = h is

in_directory : (x count : ℕ) (openings : List Opening) → AllByRecursion (λ opening. IsNumber count opening.number) openings →
    IsIn x (numbers_for_writing openings) → x ≤ count
in_directory x count [] named is = elim is [ ]
in_directory x count (opening ∷ more) named is =
    in_rest x count opening.number opening.mode (numbers_for_writing more) named.0.last (λ later. in_directory x count more named.1 later) is

in_once : (x : ℕ) (before ns : List ℕ) → IsIn x (each_once before ns) → IsIn x ns
unfolding each_once
in_once x before [] is = is
in_once x before (n ∷ ns) is =
    elim (cases_Bool (is_in n before)) [
      | inl there ↦ inr (in_once x before ns (subst (IsIn x) (then_is (is_in n before) (each_once before ns) (n ∷ each_once (n ∷ before) ns) there) is))
      | inr new ↦
          elim (subst (IsIn x) (else_is (is_in n before) (each_once before ns) (n ∷ each_once (n ∷ before) ns) new) is) [
            | inl e ↦ inl e
            | inr later ↦ inr (in_once x (n ∷ before) ns later)
          ]
    ]

too_great : (n : ℕ) → suc n ≤ n → ⊥
too_great n le = omega (arith, le)

pub none_next : (h : Held) → AreNamed h → IsIn (suc (length h.directory)) (open_for_writing h.openings) → ⊥
none_next h named is =
    too_great (length h.directory)
    (in_directory (suc (length h.directory)) (length h.directory) h.openings named (in_once (suc (length h.directory)) [] (numbers_for_writing h.openings) is))
