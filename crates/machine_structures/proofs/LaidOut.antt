-- The fields of a class that were laid out, and those that are left.
use Rattle.std.proofs.Common.{◌≡◌, ℕ, ◌+◌, ◌≤◌, ℤ, true, false, List, [], ◌∷◌, ◌++◌, length, drop, sym, ap, ◌∙◌, subst, arith, append_assoc, append-nil, length-append}
use Rattle.std.proofs.lemmas.List.{drop_all}
use Rattle.machine_core.specs.text_forms.declared.forms.Form.{Form}
use Rattle.machine_core.specs.text_forms.declared.forms.Form.TheVariants as form
use Rattle.machine_core.specs.text_forms.declared.forms.Rows.{Rows}
use Rattle.machine_core.specs.text_forms.Forms.{forms_of, forms_from, form_here, one_more, rows_of}
use Rattle.machine_core.specs.text_forms.Steps.{behind_first, is_field}
use Rattle.machine_core.proofs.of_text_forms.Passing.{a_field, forms-first, no_field}
use Rattle.machine_core.specs.heap_places.declared.value.Value as code
use Rattle.machine_structures.specs.inside.Making.{AreLaid, IsNext, LaysOne}

-- What is left of both rows, and of the fields.
pub record IsLaidOut (text rest : List ℕ) (nums : List ℤ) (refs : List ℕ) (passed : Rows) (items : List code.Value) : Type 0 where
  pub laid : (ks : List code.Value) → AreLaid (forms_from true rest) (drop passed.nums nums) (drop passed.refs refs) ks
      → AreLaid (forms_of text) nums refs (items ++ ks)
  pub nums_left : passed.nums + (rows_of (forms_from true rest)).nums ≡ length nums
  pub refs_left : passed.refs + (rows_of (forms_from true rest)).refs ≡ length refs
  pub count : length items ≡ passed.nums + passed.refs

-- with one field more there is one place more in its row
next-there : (f : Form) (rows passed : Rows) (nums : List ℤ) (refs : List ℕ) → passed.nums + (one_more f rows).nums ≡ length nums
    → passed.refs + (one_more f rows).refs ≡ length refs → IsNext f nums refs passed
next-there form.Number rows passed nums refs n r = (omega (arith, n), omega (arith, r))
next-there form.Flag rows passed nums refs n r = (omega (arith, n), omega (arith, r))
next-there form.Reference rows passed nums refs n r = (omega (arith, n), omega (arith, r))

nums-behind : (f : Form) (rows passed : Rows) (all : ℕ) → passed.nums + (one_more f rows).nums ≡ all → (one_more f passed).nums + rows.nums ≡ all
nums-behind form.Number rows passed all n = omega (arith, n)
nums-behind form.Flag rows passed all n = omega (arith, n)
nums-behind form.Reference rows passed all n = n

refs-behind : (f : Form) (rows passed : Rows) (all : ℕ) → passed.refs + (one_more f rows).refs ≡ all → (one_more f passed).refs + rows.refs ≡ all
refs-behind form.Number rows passed all r = r
refs-behind form.Flag rows passed all r = r
refs-behind form.Reference rows passed all r = omega (arith, r)

more-passed : (f : Form) (passed : Rows) → (one_more f passed).nums + (one_more f passed).refs ≡ passed.nums + passed.refs + 1
more-passed form.Number passed = omega arith
more-passed form.Flag passed = omega arith
more-passed form.Reference passed = omega arith

pub none-laid : (text rest : List ℕ) (nums : List ℤ) (refs : List ℕ) (items : List code.Value) → rest ≡ behind_first 40 text → items ≡ []
    → (rows_of (forms_of text)).nums ≡ length nums → (rows_of (forms_of text)).refs ≡ length refs
    → IsLaidOut text rest nums refs (record { refs = 0; nums = 0 }) items
none-laid text rest nums refs items is none n r =
    let same : forms_from true rest ≡ forms_of text = ap (forms_from true) is ∙ sym (forms-first text) in
    record {
      laid = λ ks are.
          subst (λ (xs : List code.Value). AreLaid (forms_of text) nums refs (xs ++ ks)) (sym none)
          (subst (λ (fs : List Form). AreLaid fs nums refs ks) same are);
      nums_left = omega (arith, n, ap (λ (fs : List Form). (rows_of fs).nums) same);
      refs_left = omega (arith, r, ap (λ (fs : List Form). (rows_of fs).refs) same);
      count = ap length none;
    }

module _ (text rest : List ℕ) (nums : List ℤ) (refs : List ℕ) (passed : Rows) (items : List code.Value) (so : IsLaidOut text rest nums refs passed items) where
  module _ (field : is_field rest ≡ true) where
    abbrev f : Form
    f = form_here rest

    abbrev others : List Form
    others = forms_from true (behind_first 59 rest)

    split-rows : rows_of (forms_from true rest) ≡ one_more f (rows_of others)
    unfolding rows_of
    split-rows = ap rows_of (a_field rest field)

    pub next-field : IsNext f nums refs passed
    next-field =
        next-there f (rows_of others) passed nums refs (subst (λ (r : Rows). passed.nums + r.nums ≡ length nums) split-rows so.nums_left)
        (subst (λ (r : Rows). passed.refs + r.refs ≡ length refs) split-rows so.refs_left)

    pub one-laid : (further : List ℕ) (new : List code.Value) (more : Rows) → further ≡ behind_first 59 rest → LaysOne f nums refs passed items new more
        → IsLaidOut text further nums refs more new
    one-laid further new more is one =
        let same : forms_from true further ≡ others = ap (forms_from true) is in
        record {
          laid = λ ks are.
              let mine = one.laid others ks (subst (λ (fs : List Form). AreLaid fs (drop more.nums nums) (drop more.refs refs) ks) same are) in
              let whole = so.laid (one.value ∷ ks) (subst (λ (fs : List Form). AreLaid fs (drop passed.nums nums) (drop passed.refs refs) (one.value ∷ ks))
              (sym (a_field rest field)) mine) in
              subst (λ (xs : List code.Value). AreLaid (forms_of text) nums refs xs)
              (sym (ap (λ (xs : List code.Value). xs ++ ks) one.items_are ∙ append_assoc items (one.value ∷ []) ks)) whole;
          nums_left =
              ap (λ (r : Rows). r.nums + (rows_of (forms_from true further)).nums) one.more_is
              ∙ ap (λ (fs : List Form). (one_more f passed).nums + (rows_of fs).nums) same
              ∙ nums-behind f (rows_of others) passed (length nums) (subst (λ (r : Rows). passed.nums + r.nums ≡ length nums) split-rows so.nums_left);
          refs_left =
              ap (λ (r : Rows). r.refs + (rows_of (forms_from true further)).refs) one.more_is
              ∙ ap (λ (fs : List Form). (one_more f passed).refs + (rows_of fs).refs) same
              ∙ refs-behind f (rows_of others) passed (length refs) (subst (λ (r : Rows). passed.refs + r.refs ≡ length refs) split-rows so.refs_left);
          count =
              let long : length new ≡ length items + 1 = ap length one.items_are ∙ length-append items (one.value ∷ []) in
              let all : more.nums + more.refs ≡ passed.nums + passed.refs + 1 = ap (λ (r : Rows). r.nums + r.refs) one.more_is ∙ more-passed f passed in
              let count = so.count in
              omega (arith, long, all, count);
        }

  pub all-laid : is_field rest ≡ false → AreLaid (forms_of text) nums refs items
  unfolding rows_of
  all-laid none =
      let empty = no_field rest none in
      let nums_none : (rows_of (forms_from true rest)).nums ≡ 0 = ap (λ (fs : List Form). (rows_of fs).nums) empty in
      let refs_none : (rows_of (forms_from true rest)).refs ≡ 0 = ap (λ (fs : List Form). (rows_of fs).refs) empty in
      let n : length nums ≤ passed.nums = (let left = so.nums_left in omega (arith, left, nums_none)) in
      let r : length refs ≤ passed.refs = (let left = so.refs_left in omega (arith, left, refs_none)) in
      let whole = so.laid []
      (subst (λ (fs : List Form). AreLaid fs (drop passed.nums nums) (drop passed.refs refs) []) (sym empty)
      (subst (λ (zs : List ℤ). AreLaid [] zs (drop passed.refs refs) []) (sym (drop_all passed.nums nums n))
      (subst (λ (ws : List ℕ). AreLaid [] [] ws []) (sym (drop_all passed.refs refs r)) tt))) in
      subst (λ (xs : List code.Value). AreLaid (forms_of text) nums refs xs) (append-nil items) whole
