-- Each kept place names a name of its type in the scopes round it, whose texts have names of a text.
use Rattle.std.proofs.Common.{◌≡◌, ℕ, ◌+◌, List, [], ◌∷◌, map, inl, inr, arith, refl, sym, ap, ◌∙◌, subst}
use Rattle.std.specs.Prelude.{zero, suc, Option, Some, None, nat_eq, codes}
use Rattle.std.proofs.lemmas.Bool.{eqb-true}
use Rattle.ps_base.specs.TyView.{TyView}
use Rattle.ps_program.specs.declared.place.Place.{Place}
use Rattle.ps_program.specs.declared.place.Place.TheVariants.{Plain, Kept}
use Rattle.ps_typing_laws.specs.ps_type_text.Texts.{Field, class_text, IsName, is_name_byte}
use Rattle.ps_typing_laws.specs.ps_typing.Placing.{position, next_position, found_at, field_at}
use Rattle.ps_typing_laws.specs.ps_typing.WellTyped.{At, IsOfType}
use Rattle.ps_typing_laws.proofs.Numbered.{HasType}
use Rattle.ps_typing_laws.proofs.Scopes.{by_test, found_here, found_further}
use Rattle.ps_fit_laws.specs.ps_soundness.Running.{IsPlace, IsScopeText}
use Rattle.ps_fit_laws.proofs.ByCheck.{AllNamed}

-- the names of scopes that keep the names with these numbers
abbrev pub wholes_of : List Field → List (List ℕ) → List (List Field)
wholes_of names scopes = map (λ (ks : List ℕ). map (field_at names) ks) scopes

by_option : {A P : Type 0} (o : Option A) → ((a : A) → o ≡ Some a → P) → (o ≡ None → P) → P
by_option (Some a) on_some on_none = on_some a refl
by_option None on_some on_none = on_none refl

one_before : (o : Option ℕ) (i : ℕ) → next_position o ≡ Some i → (before : ℕ) × (o ≡ Some before) × (i ≡ before + 1)
one_before None i e = absurd cc
one_before (Some before) i e = let same : i ≡ before + 1 = cc in (before, refl, same)

-- a name at its position in a scope
at_position : (names : List Field) (k : ℕ) (ty : TyView) (ks : List ℕ) (i : ℕ) → HasType names k ty → position ks k ≡ Some i →
    At (IsOfType ty) (map (field_at names) ks) i
at_position names k ty [] i is e = absurd cc
at_position names k ty (j ∷ ks) i is e =
    by_test (λ (o : Option ℕ). o ≡ Some i → At (IsOfType ty) (map (field_at names) (j ∷ ks)) i) (nat_eq j k) (Some 0) (next_position (position ks k))
    (λ same here. let first : i ≡ 0 = cc in inl (first, ap (λ (n : ℕ). (field_at names n).ty) (eqb-true j k same) ∙ is))
    (λ differs there. let h = one_before (position ks k) i there in inr (h.0, h.2, at_position names k ty ks h.0 is h.1)) e

-- a place that is found from so many scopes further in
abbrev Stands : List (List Field) → ℕ → Place → TyView → Type 0
Stands wholes up (Plain slot) ty = Unit {0}
Stands wholes up (Kept out i) ty = (further : ℕ) × (out ≡ up + further) × At (λ (whole : List Field). At (IsOfType ty) whole i) wholes further

one_further : (whole : List Field) (wholes : List (List Field)) (up : ℕ) (place : Place) (ty : TyView) → Stands wholes (up + 1) place ty →
    Stands (whole ∷ wholes) up place ty
one_further whole wholes up (Plain slot) ty h = tt
one_further whole wholes up (Kept out i) ty (further, e, is) = (further + 1, omega arith, inr (further, refl, is))

stands : (names : List Field) (of : List (ℕ × ℕ)) (k : ℕ) (ty : TyView) (up : ℕ) (scopes : List (List ℕ)) → HasType names k ty →
    Stands (wholes_of names scopes) up (found_at of k up scopes) ty
stands names of k ty up [] is = tt
stands names of k ty up (ks ∷ scopes) is =
    let wholes = wholes_of names (ks ∷ scopes) in
    by_option (position ks k)
    (λ i e. subst (λ (p : Place). Stands wholes up p ty) (sym (found_here of k up i ks scopes e))
    (0, omega arith, inl (refl, at_position names k ty ks i is e)))
    (λ e. subst (λ (p : Place). Stands wholes up p ty) (sym (found_further of k up ks scopes e))
    (one_further (map (field_at names) ks) (wholes_of names scopes) up (found_at of k (up + 1) scopes) ty (stands names of k ty (up + 1) scopes is)))

is_place : (wholes : List (List Field)) (place : Place) (ty : TyView) → Stands wholes 0 place ty → IsPlace (Some wholes) place ty
is_place wholes (Plain slot) ty h = tt
is_place wholes (Kept out i) ty (further, e, is) =
    let same : further ≡ out = omega arith in
    subst (λ (n : ℕ). At (λ (whole : List Field). At (IsOfType ty) whole i) wholes n) same is

pub has_place : (names : List Field) (of : List (ℕ × ℕ)) (k : ℕ) (ty : TyView) (scopes : List (List ℕ)) → HasType names k ty →
    IsPlace (Some (wholes_of names scopes)) (found_at of k 0 scopes) ty
has_place names of k ty scopes is = is_place (wholes_of names scopes) (found_at of k 0 scopes) ty (stands names of k ty 0 scopes is)

-- the text of a scope
field_named : (names : List Field) (k : ℕ) → AllNamed names → IsName (field_at names k).name
field_named [] k h = tt
field_named (first ∷ rest) zero h = h.0
field_named (first ∷ rest) (suc k) h = field_named rest k h.1

pub all_named : (names : List Field) (ks : List ℕ) → AllNamed names → AllNamed (map (field_at names) ks)
all_named names [] h = tt
all_named names (k ∷ ks) h = (field_named names k h, all_named names ks h)

pub scope_name : IsName (codes "scope")
unfolding is_name_byte
scope_name = (refl, (refl, (refl, (refl, (refl, tt)))))

abbrev pub is_scope : (names : List Field) (k : ℕ) (ks : List ℕ) → AllNamed names →
    IsScopeText (class_text (codes "scope") (map (field_at names) (k ∷ ks)))
is_scope names k ks h = record {
  fields = map (field_at names) (k ∷ ks);
  named = record { class = scope_name; each = all_named names (k ∷ ks) h };
  text_is = refl;
}
