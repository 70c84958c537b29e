-- The values of the fields of a class, as they are popped from the tops of both stacks.
use Rattle.std.proofs.Common.{◌≡◌, suc, ◌<◌, ℤ, List, [], ◌∷◌, ◌++◌, length, Some, refl, sym, ap, ◌∙◌, subst, arith, append_assoc}
use Rattle.std.specs.Prelude.{reverse}
use Rattle.std.proofs.lemmas.List.{reverse-append}
use Rattle.machine_core.specs.text_forms.declared.forms.Form.{Form}
use Rattle.machine_core.specs.text_forms.declared.forms.Form.TheVariants as form
use Rattle.machine_core.specs.text_forms.declared.forms.Rows.{Rows}
use Rattle.machine_core.specs.text_forms.Forms.{rows_of, one_more}
use Rattle.machine_core.proofs.of_text_forms.Places.{rows_of-last}
use Rattle.machine_core.specs.ps_heap.Objects.{kept_as}
use Rattle.machine_core.specs.ps_heap.Values.{Value, Num}
use Rattle.machine_core.specs.ps_stepping.Config.{Config}
use Rattle.machine_core.specs.ps_stepping.Steps.{Step, Stuck, pop_num_of, pop_ref_of}
use Rattle.machine_core.specs.ps_stepping.Objects.{pop_fields}

-- the values of fields of these forms, of the two rows
abbrev pub means : List Form → List ℤ → List Value → List Value
means (form.Reference ∷ fs) zs (v ∷ vs) = v ∷ means fs zs vs
means (form.Number ∷ fs) (z ∷ zs) vs = kept_as (Some form.Number) (Num z) ∷ means fs zs vs
means (form.Flag ∷ fs) (z ∷ zs) vs = kept_as (Some form.Flag) (Num z) ∷ means fs zs vs
means _ zs vs = []

-- Some fields are popped, and then others.

append-refs : (refs : List Value) (xs ys : List Form) (acc : List Value) (c : Config) (next : List Value → Config → Step)
    → ((v : Value) (rest : List Value) → pop_fields (xs ++ ys) (v ∷ acc) (record c { refs = rest }) next
    ≡ pop_fields xs (v ∷ acc) (record c { refs = rest }) (λ us d. pop_fields ys us d next))
    → pop_ref_of refs c (λ v d. pop_fields (xs ++ ys) (v ∷ acc) d next) ≡ pop_ref_of refs c (λ v d. pop_fields xs (v ∷ acc) d (λ us e. pop_fields ys us e next))
append-refs [] xs ys acc c next again = refl
append-refs (v ∷ refs) xs ys acc c next again = again v refs

append-nums : (nums : List ℤ) (f : Form) (xs ys : List Form) (acc : List Value) (c : Config) (next : List Value → Config → Step)
    → ((v : Value) (rest : List ℤ) → pop_fields (xs ++ ys) (v ∷ acc) (record c { nums = rest }) next
    ≡ pop_fields xs (v ∷ acc) (record c { nums = rest }) (λ us d. pop_fields ys us d next))
    → pop_num_of nums c (λ z d. pop_fields (xs ++ ys) (kept_as (Some f) (Num z) ∷ acc) d next)
    ≡ pop_num_of nums c (λ z d. pop_fields xs (kept_as (Some f) (Num z) ∷ acc) d (λ us e. pop_fields ys us e next))
append-nums [] f xs ys acc c next again = refl
append-nums (z ∷ nums) f xs ys acc c next again = again (kept_as (Some f) (Num z)) nums

pops-append : (xs ys : List Form) (acc : List Value) (c : Config) (next : List Value → Config → Step)
    → pop_fields (xs ++ ys) acc c next ≡ pop_fields xs acc c (λ us d. pop_fields ys us d next)
pops-append [] ys acc c next = refl
pops-append (form.Reference ∷ xs) ys acc c next =
    append-refs c.refs xs ys acc c next (λ v rest. pops-append xs ys (v ∷ acc) (record c { refs = rest }) next)
pops-append (form.Number ∷ xs) ys acc c next =
    append-nums c.nums form.Number xs ys acc c next (λ v rest. pops-append xs ys (v ∷ acc) (record c { nums = rest }) next)
pops-append (form.Flag ∷ xs) ys acc c next =
    append-nums c.nums form.Flag xs ys acc c next (λ v rest. pops-append xs ys (v ∷ acc) (record c { nums = rest }) next)

-- the first field is popped last
pops-last : (f : Form) (fs : List Form) (acc : List Value) (c : Config) (next : List Value → Config → Step)
    → pop_fields (reverse (f ∷ fs)) acc c next ≡ pop_fields (reverse fs) acc c (λ us d. pop_fields (f ∷ []) us d next)
pops-last f fs acc c next =
    ap (λ (gs : List Form). pop_fields gs acc c next) (reverse-append (f ∷ []) fs) ∙ pops-append (reverse fs) (f ∷ []) acc c next

-- Where both rows lie on top, they are what is popped.

rev-cons : {A : Type 0} (x : A) (xs rest : List A) → reverse (x ∷ xs) ++ rest ≡ reverse xs ++ x ∷ rest
rev-cons {A} x xs rest = ap (λ (l : List A). l ++ rest) (reverse-append (x ∷ []) xs) ∙ append_assoc (reverse xs) (x ∷ []) rest

abbrev topped : Config → List ℤ → List Value → Config
topped c nums refs = record c { nums = nums; refs = refs }

pub pops-rows : (fs : List Form) (zs : List ℤ) (vs : List Value) (nums : List ℤ) (refs acc : List Value) (c : Config) (next : List Value → Config → Step)
    → (rows_of fs).nums ≡ length zs → (rows_of fs).refs ≡ length vs
    → pop_fields (reverse fs) acc (topped c (reverse zs ++ nums) (reverse vs ++ refs)) next ≡ next (means fs zs vs ++ acc) (topped c nums refs)
unfolding rows_of
pops-rows [] [] [] nums refs acc c next n r = refl
pops-rows [] (z ∷ zs) vs nums refs acc c next n r = absurd (omega (arith, n))
pops-rows [] [] (v ∷ vs) nums refs acc c next n r = absurd (omega (arith, r))
pops-rows (form.Reference ∷ fs) zs (v ∷ vs) nums refs acc c next n r =
    pops-last form.Reference fs acc (topped c (reverse zs ++ nums) (reverse (v ∷ vs) ++ refs)) next
    ∙ ap (λ (l : List Value). pop_fields (reverse fs) acc (topped c (reverse zs ++ nums) l) (λ us d. pop_fields (form.Reference ∷ []) us d next))
    (rev-cons v vs refs)
    ∙ pops-rows fs zs vs nums (v ∷ refs) acc c (λ us d. pop_fields (form.Reference ∷ []) us d next) n (omega (arith, r))
pops-rows (form.Reference ∷ fs) zs [] nums refs acc c next n r = absurd (omega (arith, r))
pops-rows (form.Number ∷ fs) (z ∷ zs) vs nums refs acc c next n r =
    pops-last form.Number fs acc (topped c (reverse (z ∷ zs) ++ nums) (reverse vs ++ refs)) next
    ∙ ap (λ (l : List ℤ). pop_fields (reverse fs) acc (topped c l (reverse vs ++ refs)) (λ us d. pop_fields (form.Number ∷ []) us d next)) (rev-cons z zs nums)
    ∙ pops-rows fs zs vs (z ∷ nums) refs acc c (λ us d. pop_fields (form.Number ∷ []) us d next) (omega (arith, n)) r
pops-rows (form.Number ∷ fs) [] vs nums refs acc c next n r = absurd (omega (arith, n))
pops-rows (form.Flag ∷ fs) (z ∷ zs) vs nums refs acc c next n r =
    pops-last form.Flag fs acc (topped c (reverse (z ∷ zs) ++ nums) (reverse vs ++ refs)) next
    ∙ ap (λ (l : List ℤ). pop_fields (reverse fs) acc (topped c l (reverse vs ++ refs)) (λ us d. pop_fields (form.Flag ∷ []) us d next)) (rev-cons z zs nums)
    ∙ pops-rows fs zs vs (z ∷ nums) refs acc c (λ us d. pop_fields (form.Flag ∷ []) us d next) (omega (arith, n)) r
pops-rows (form.Flag ∷ fs) [] vs nums refs acc c next n r = absurd (omega (arith, n))

-- Too few numbers, or too few references.

few-at-nums : (nums : List ℤ) (f : Form) (fs : List Form) (acc : List Value) (c : Config) (next : List Value → Config → Step)
    → ((v : Value) (rest : List ℤ) → suc (length rest) ≡ length nums → pop_fields fs (v ∷ acc) (record c { nums = rest }) next ≡ Stuck)
    → pop_num_of nums c (λ z d. pop_fields fs (kept_as (Some f) (Num z) ∷ acc) d next) ≡ Stuck
few-at-nums [] f fs acc c next again = refl
few-at-nums (z ∷ nums) f fs acc c next again = again (kept_as (Some f) (Num z)) nums refl

few-at-refs : (refs : List Value) (fs : List Form) (acc : List Value) (c : Config) (next : List Value → Config → Step)
    → ((v : Value) (rest : List Value) → suc (length rest) ≡ length refs → pop_fields fs (v ∷ acc) (record c { refs = rest }) next ≡ Stuck)
    → pop_ref_of refs c (λ v d. pop_fields fs (v ∷ acc) d next) ≡ Stuck
few-at-refs [] fs acc c next again = refl
few-at-refs (v ∷ refs) fs acc c next again = again v refs refl

few-nums : (fs : List Form) (acc : List Value) (c : Config) (next : List Value → Config → Step) → length c.nums < (rows_of fs).nums
    → pop_fields fs acc c next ≡ Stuck
unfolding rows_of
few-nums [] acc c next few = absurd (omega (arith, few))
few-nums (form.Reference ∷ fs) acc c next few =
    few-at-refs c.refs fs acc c next (λ v rest same. few-nums fs (v ∷ acc) (record c { refs = rest }) next few)
few-nums (form.Number ∷ fs) acc c next few =
    few-at-nums c.nums form.Number fs acc c next (λ v rest same. few-nums fs (v ∷ acc) (record c { nums = rest }) next (omega (arith, few, same)))
few-nums (form.Flag ∷ fs) acc c next few =
    few-at-nums c.nums form.Flag fs acc c next (λ v rest same. few-nums fs (v ∷ acc) (record c { nums = rest }) next (omega (arith, few, same)))

few-refs : (fs : List Form) (acc : List Value) (c : Config) (next : List Value → Config → Step) → length c.refs < (rows_of fs).refs
    → pop_fields fs acc c next ≡ Stuck
unfolding rows_of
few-refs [] acc c next few = absurd (omega (arith, few))
few-refs (form.Reference ∷ fs) acc c next few =
    few-at-refs c.refs fs acc c next (λ v rest same. few-refs fs (v ∷ acc) (record c { refs = rest }) next (omega (arith, few, same)))
few-refs (form.Number ∷ fs) acc c next few =
    few-at-nums c.nums form.Number fs acc c next (λ v rest same. few-refs fs (v ∷ acc) (record c { nums = rest }) next few)
few-refs (form.Flag ∷ fs) acc c next few =
    few-at-nums c.nums form.Flag fs acc c next (λ v rest same. few-refs fs (v ∷ acc) (record c { nums = rest }) next few)

rows-reverse : (fs : List Form) → rows_of (reverse fs) ≡ rows_of fs
unfolding rows_of
rows-reverse [] = refl
rows-reverse (f ∷ fs) = ap rows_of (reverse-append (f ∷ []) fs) ∙ rows_of-last (reverse fs) f ∙ ap (one_more f) (rows-reverse fs)

pub too-few-nums : (fs : List Form) (c : Config) (next : List Value → Config → Step) → length c.nums < (rows_of fs).nums
    → pop_fields (reverse fs) [] c next ≡ Stuck
too-few-nums fs c next few = few-nums (reverse fs) [] c next (subst (λ (r : Rows). length c.nums < r.nums) (sym (rows-reverse fs)) few)

pub too-few-refs : (fs : List Form) (c : Config) (next : List Value → Config → Step) → length c.refs < (rows_of fs).refs
    → pop_fields (reverse fs) [] c next ≡ Stuck
too-few-refs fs c next few = few-refs (reverse fs) [] c next (subst (λ (r : Rows). length c.refs < r.refs) (sym (rows-reverse fs)) few)
