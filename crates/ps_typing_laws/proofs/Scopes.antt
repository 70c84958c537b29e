-- Where a numbered name stands: in a scope around, or in a local.
use Rattle.std.proofs.Common.{◌≡◌, ℕ, ◌+◌, ◌≤◌, ◌<◌, Bool, true, false, List, [], ◌∷◌, ◌++◌, ◌⊎◌, inl, inr, arith, refl, sym, ap, ◌∙◌, subst}
use Rattle.std.specs.Prelude.{Some, None, if◌then◌else◌, nat_eq, map, length}
use Rattle.std.proofs.lemmas.Bool.{eqb-true, eq-eqb}
use Rattle.ps_typing.specs.ps_base.TyView.{TyView}
use Rattle.ps_typing.specs.ps_program.declared.place.Place.TheVariants.{Plain, Kept}
use Rattle.ps_typing.specs.ps_type_text.Texts.{Field}
use Rattle.ps_typing.specs.Mentions.{is_among, common}
use Rattle.ps_typing.specs.Placing.{Locals, position, next_position, local_of, found_at, is_number, with_name, field_at, scope_text}
use Rattle.ps_typing.specs.WellTyped.{At, Free, IsOfType, next_slot, behind_one, Opens, unscoped, scoped}

pub by_test : {A : Type 0} (P : A → Type 0) (b : Bool) (x y : A) → (b ≡ true → P x) → (b ≡ false → P y) → P (if b then x else y)
by_test P true x y on_true on_false = on_true refl
by_test P false x y on_true on_false = on_false refl

pub differ : (a b : ℕ) → (a ≡ b → ⊥) → nat_eq a b ≡ false
differ a b h = from (nat_eq a b) refl
  where
    from : (x : Bool) → nat_eq a b ≡ x → nat_eq a b ≡ false
    from true e = absurd (h (eqb-true a b e))
    from false e = e

-- the free slots of each stack
abbrev pub free_of : Locals → Free
free_of l = record { nums = l.nums; refs = l.refs }

-- all these numbers are below this one, or from it on
abbrev pub AllBelow : ℕ → List ℕ → Type 0
AllBelow n [] = Unit {0}
AllBelow n (k ∷ ks) = (k < n) × AllBelow n ks

abbrev pub AllFrom : ℕ → List ℕ → Type 0
AllFrom n [] = Unit {0}
AllFrom n (k ∷ ks) = (n ≤ k) × AllFrom n ks

pub below_more : (n m : ℕ) (ks : List ℕ) → n ≤ m → AllBelow n ks → AllBelow m ks
below_more n m [] h below = tt
below_more n m (k ∷ ks) h below = let b = below.0 in (omega arith, below_more n m ks h below.1)

pub below_one : (n k : ℕ) (ks : List ℕ) → k < n → AllBelow n ks → AllBelow n (ks ++ k ∷ [])
below_one n k [] h below = (h, tt)
below_one n k (j ∷ ks) h below = (below.0, below_one n k ks h below.1)

pub from_less : (n m : ℕ) (ks : List ℕ) → n ≤ m → AllFrom m ks → AllFrom n ks
from_less n m [] h from = tt
from_less n m (k ∷ ks) h from = let f = from.0 in (omega arith, from_less n m ks h from.1)

pub common_from : (n : ℕ) (ks kept : List ℕ) → AllFrom n ks → AllFrom n (common ks kept)
common_from n [] kept h = tt
common_from n (k ∷ ks) kept h = by_test (AllFrom n) (is_among kept k) (k ∷ common ks kept) (common ks kept) (λ is. (h.0, common_from n ks kept h.1))
    (λ isnt. common_from n ks kept h.1)

pub if_true : {A : Type 0} (b : Bool) (x y : A) → b ≡ true → (if b then x else y) ≡ x
if_true true x y h = refl
if_true false x y h = absurd cc

pub if_false : {A : Type 0} (b : Bool) (x y : A) → b ≡ false → (if b then x else y) ≡ y
if_false true x y h = absurd cc
if_false false x y h = refl

-- the position of a name
position_none : (j k : ℕ) (ks : List ℕ) → nat_eq j k ≡ false → position ks k ≡ None → position (j ∷ ks) k ≡ None
position_none j k ks differs none = if_false (nat_eq j k) (Some 0) (next_position (position ks k)) differs ∙ ap next_position none

position_next : (j k i : ℕ) (ks : List ℕ) → nat_eq j k ≡ false → position ks k ≡ Some i → position (j ∷ ks) k ≡ Some (i + 1)
position_next j k i ks differs some = if_false (nat_eq j k) (Some 0) (next_position (position ks k)) differs ∙ ap next_position some

position_here : (j k : ℕ) (ks : List ℕ) → nat_eq j k ≡ true → position (j ∷ ks) k ≡ Some 0
position_here j k ks same = if_true (nat_eq j k) (Some 0) (next_position (position ks k)) same

pub position_fresh : (n k : ℕ) (ks : List ℕ) → AllFrom n ks → k < n → position ks k ≡ None
position_fresh n k [] h below = refl
position_fresh n k (j ∷ ks) h below = let f = h.0 in position_none j k ks (differ j k (λ e. absurd (omega arith))) (position_fresh n k ks h.1 below)

pub position_done : (k : ℕ) (done due : List ℕ) → AllBelow k done → position (done ++ k ∷ due) k ≡ Some (length done)
position_done k [] due h = position_here k k due (eq-eqb k k refl)
position_done k (j ∷ done) due h = let f = h.0 in position_next j k (length done) (done ++ k ∷ due) (differ j k (λ e. absurd (omega arith)))
    (position_done k done due h.1) ∙ ap Some (omega arith)

-- a name that isn't kept is in no scope
pub position_common : (k : ℕ) (ks kept : List ℕ) → is_among kept k ≡ false → position (common ks kept) k ≡ None
position_common k [] kept h = refl
position_common k (j ∷ ks) kept h =
    by_test (λ (l : List ℕ). position l k ≡ None) (is_among kept j) (j ∷ common ks kept) (common ks kept)
    (λ is. position_none j k (common ks kept) (differ j k
    (λ e. absurd (let same : is_among kept k ≡ true = subst (λ (n : ℕ). is_among kept n ≡ true) e is in cc))) (position_common k ks kept h))
    (λ isnt. position_common k ks kept h)

-- A kept name of this type is in the innermost of these scopes that has it: which names each keeps, and what of them is
-- declared so far.
abbrev pub KeptIn : List (List ℕ) → List (List Field) → ℕ → TyView → Type 0
KeptIn [] fields k ty = ⊥
KeptIn (ks ∷ scopes) [] k ty = ⊥
KeptIn (ks ∷ scopes) (fs ∷ fields) k ty = ((i : ℕ) × (position ks k ≡ Some i) × At (IsOfType ty) fs i) ⊎ ((position ks k ≡ None) × KeptIn scopes fields k ty)

abbrev pub Outside : List (List ℕ) → ℕ → Type 0
Outside [] k = Unit {0}
Outside (ks ∷ scopes) k = (position ks k ≡ None) × Outside scopes k

pub found_here : (of : List (ℕ × ℕ)) (k up i : ℕ) (ks : List ℕ) (scopes : List (List ℕ)) → position ks k ≡ Some i → found_at of k up (ks ∷ scopes) ≡ Kept up i
found_here of k up i ks scopes e = rw (e, found_at) refl

pub found_further : (of : List (ℕ × ℕ)) (k up : ℕ) (ks : List ℕ) (scopes : List (List ℕ)) → position ks k ≡ None →
    found_at of k up (ks ∷ scopes) ≡ found_at of k (up + 1) scopes
found_further of k up ks scopes e = rw (e, found_at) refl

-- a field of this type, so many scopes further out
abbrev pub IsKept : TyView → List (List Field) → ℕ → ℕ → Type 0
IsKept ty fields up i = At (λ (scope : List Field). At (IsOfType ty) scope i) fields up

pub kept_found : (of : List (ℕ × ℕ)) (k u : ℕ) (ty : TyView) (scopes : List (List ℕ)) (fields : List (List Field)) → KeptIn scopes fields k ty →
    (up i : ℕ) × (found_at of k u scopes ≡ Kept (u + up) i) × IsKept ty fields up i
kept_found of k u ty [] fields h = absurd h
kept_found of k u ty (ks ∷ scopes) [] h = absurd h
kept_found of k u ty (ks ∷ scopes) (fs ∷ fields) (inl (i, e, at)) =
    (0, i, found_here of k u i ks scopes e ∙ ap (λ (n : ℕ). Kept n i) (omega arith), inl (refl, at))
kept_found of k u ty (ks ∷ scopes) (fs ∷ fields) (inr (none, h)) =
    let r = kept_found of k (u + 1) ty scopes fields h in
    let e : u + 1 + r.0 ≡ u + (r.0 + 1) = omega arith in
    (r.0 + 1, r.1, found_further of k u ks scopes none ∙ r.2 ∙ ap (λ (n : ℕ). Kept n r.1) e, inr (r.0, refl, r.3))

pub outside_found : (of : List (ℕ × ℕ)) (k u : ℕ) (scopes : List (List ℕ)) → Outside scopes k → found_at of k u scopes ≡ Plain (local_of of k)
outside_found of k u [] h = refl
outside_found of k u (ks ∷ scopes) h = found_further of k u ks scopes h.0 ∙ outside_found of k (u + 1) scopes h.1

-- a scope more where a block keeps names
abbrev pub opened : List ℕ → List (List ℕ) → List (List ℕ)
opened [] scopes = scopes
opened (k ∷ ks) scopes = (k ∷ ks) ∷ scopes

abbrev pub opened_with : List ℕ → List Field → List (List Field) → List (List Field)
opened_with [] fs fields = fields
opened_with (k ∷ ks) fs fields = fs ∷ fields

pub opened_some : (done due : List ℕ) (k : ℕ) (scopes : List (List ℕ)) → opened (done ++ k ∷ due) scopes ≡ (done ++ k ∷ due) ∷ scopes
opened_some [] due k scopes = refl
opened_some (j ∷ done) due k scopes = refl

pub opened_with_some : (done due : List ℕ) (k : ℕ) (fs : List Field) (fields : List (List Field)) → opened_with (done ++ k ∷ due) fs fields ≡ fs ∷ fields
opened_with_some [] due k fs fields = refl
opened_with_some (j ∷ done) due k fs fields = refl

pub kept_opened : (ks : List ℕ) (scopes : List (List ℕ)) (fields : List (List Field)) (k : ℕ) (ty : TyView) → position ks k ≡ None →
    KeptIn scopes fields k ty → KeptIn (opened ks scopes) (opened_with ks [] fields) k ty
kept_opened [] scopes fields k ty none h = h
kept_opened (j ∷ ks) scopes fields k ty none h = inr (none, h)

pub outside_opened : (ks : List ℕ) (scopes : List (List ℕ)) (k : ℕ) → position ks k ≡ None → Outside scopes k → Outside (opened ks scopes) k
outside_opened [] scopes k none h = h
outside_opened (j ∷ ks) scopes k none h = (none, h)

at_more : {A : Type 0} (P : A → Type 0) (xs ys : List A) (i : ℕ) → At P xs i → At P (xs ++ ys) i
at_more P [] ys i h = absurd h
at_more P (x ∷ xs) ys i (inl h) = inl h
at_more P (x ∷ xs) ys i (inr h) = inr (h.0, h.1, at_more P xs ys h.0 h.2)

pub at_last : {A : Type 0} (P : A → Type 0) (xs : List A) (x : A) → P x → At P (xs ++ x ∷ []) (length xs)
at_last P [] x h = inl (refl, h)
at_last P (y ∷ xs) x h = inr (length xs, omega arith, at_last P xs x h)

-- with a name more that is declared
pub kept_more : (ks : List ℕ) (fs more : List Field) (scopes : List (List ℕ)) (fields : List (List Field)) (k : ℕ) (ty : TyView) →
    KeptIn (ks ∷ scopes) (fs ∷ fields) k ty → KeptIn (ks ∷ scopes) ((fs ++ more) ∷ fields) k ty
kept_more ks fs more scopes fields k ty (inl (i, e, at)) = inl (i, e, at_more (IsOfType ty) fs more i at)
kept_more ks fs more scopes fields k ty (inr h) = inr h

pub opens : (names : List Field) (ks : List ℕ) (around : List (List Field)) →
    Opens (scope_text names ks) around (opened_with ks [] around) (opened_with ks (map (field_at names) ks) around)
opens names [] around = unscoped
opens names (k ∷ ks) around = scoped

-- a local more
pub local_here : (k : ℕ) (ty : TyView) (l : Locals) → local_of (with_name k ty l).of k ≡ next_slot ty (free_of l)
local_here k ty l =
    by_test (λ (m : Locals). local_of m.of k ≡ (if is_number ty then l.nums else l.refs)) (is_number ty)
    (record l { nums = l.nums + 1; of = (k, l.nums) ∷ l.of }) (record l { refs = l.refs + 1; of = (k, l.refs) ∷ l.of })
    (λ is. if_true (nat_eq k k) l.nums _ (eq-eqb k k refl) ∙ sym (if_true (is_number ty) l.nums l.refs is))
    (λ isnt. if_true (nat_eq k k) l.refs _ (eq-eqb k k refl) ∙ sym (if_false (is_number ty) l.nums l.refs isnt))

pub local_other : (k j : ℕ) (ty : TyView) (l : Locals) → (k ≡ j → ⊥) → local_of (with_name k ty l).of j ≡ local_of l.of j
local_other k j ty l h =
    by_test (λ (m : Locals). local_of m.of j ≡ local_of l.of j) (is_number ty) (record l { nums = l.nums + 1; of = (k, l.nums) ∷ l.of })
    (record l { refs = l.refs + 1; of = (k, l.refs) ∷ l.of })
    (λ is. if_false (nat_eq k j) l.nums _ (differ k j h))
    (λ isnt. if_false (nat_eq k j) l.refs _ (differ k j h))

pub free_more : (k : ℕ) (ty : TyView) (l : Locals) → free_of (with_name k ty l) ≡ behind_one ty (free_of l)
free_more k ty l =
    by_test (λ (m : Locals). free_of m ≡ behind_one ty (free_of l)) (is_number ty) (record l { nums = l.nums + 1; of = (k, l.nums) ∷ l.of })
    (record l { refs = l.refs + 1; of = (k, l.refs) ∷ l.of })
    (λ is. sym (if_true (is_number ty) (record (free_of l) { nums = l.nums + 1 }) (record (free_of l) { refs = l.refs + 1 }) is))
    (λ isnt. sym (if_false (is_number ty) (record (free_of l) { nums = l.nums + 1 }) (record (free_of l) { refs = l.refs + 1 }) isnt))
