-- One parameter or field more after those that were put.
use Rattle.std.proofs.Common.{◌≡◌, ℕ, zero, suc, ◌+◌, ◌<◌, List, [], ◌∷◌, ◌++◌, length, take, slice_index_or, Result, Ok, Err, OnOk, refl, sym, ap, ◌∙◌, append_assoc, append-nil, arith}
use Rattle.std.specs.Prelude.{codes}
use Rattle.std.proofs.lemmas.List.{take_more}
use Rattle.ps_base.specs.declared.ty.Ty.{Ty}
use Rattle.ps_base.specs.declared.ty.Ty.TheVariants as code
use Rattle.ps_base.specs.TyView.{TyView, TyViews, none, more, and_type, ty_view, ty_views}
use Rattle.ps_base.proofs.TyLemmas.{ty_views-append}
use Rattle.ps_type_text.specs.Texts.{type_text, result_text, parameters_text, further_text, Field, field_text, fields_text, further_fields}
use Rattle.ps_type_text.specs.inside.Putting.{comma_at, semicolon_at}
use Rattle.ps_type_text.specs.Members.{field_of, fields_of}
use Rattle.ps_type_text.specs.declared.classes.Member.{Member}
use Rattle.std.proofs.lemmas.List.{map-append}

abbrev comma_behind : TyViews → List ℕ
comma_behind none = []
comma_behind (more p ps) = 44 ∷ []

further_one : (ps : TyViews) (t : TyView) → further_text (and_type ps t) ≡ further_text ps ++ (44 ∷ type_text t)
further_one none t = ap (λ l. 44 ∷ l) (append-nil (type_text t))
further_one (more p ps) t = ap (λ l. 44 ∷ (type_text p ++ l)) (further_one ps t) ∙ ap (λ l. 44 ∷ l) (sym (append_assoc (type_text p) (further_text ps) (44 ∷ type_text t)))

parameters_one : (ps : TyViews) (t : TyView) → parameters_text (and_type ps t) ≡ parameters_text ps ++ (comma_behind ps ++ type_text t)
parameters_one none t = append-nil (type_text t)
parameters_one (more p ps) t = ap (λ l. type_text p ++ l) (further_one ps t) ∙ sym (append_assoc (type_text p) (further_text ps) (44 ∷ type_text t))

comma : (place : ℕ) (types : List Ty) → place < length types → comma_behind (ty_views (take place types)) ≡ comma_at place
comma zero types inside = refl
comma (suc n) [] inside = absurd (omega arith)
comma (suc n) (t ∷ types) inside = grind arith

pub one_parameter : (place : ℕ) (d : Ty) (types : List Ty) (old before middle after : List ℕ) → place < length types → before ≡ old ++ parameters_text (ty_views (take place types)) → middle ≡ before ++ comma_at place → after ≡ middle ++ type_text (ty_view (slice_index_or types place d)) → after ≡ old ++ parameters_text (ty_views (take (place + 1) types))
one_parameter place d types old before middle after inside b m a =
    let t = ty_view (slice_index_or types place d) in
    let ps = ty_views (take place types) in
    let whole : parameters_text (ty_views (take (place + 1) types)) ≡ parameters_text ps ++ (comma_at place ++ type_text t) =
    ap (λ l. parameters_text (ty_views l)) (take_more types place d inside)
    ∙ ap parameters_text (ty_views-append (take place types) (slice_index_or types place d))
    ∙ parameters_one ps t
    ∙ ap (λ c. parameters_text ps ++ (c ++ type_text t)) (comma place types inside) in
    a ∙ ap (λ l. l ++ type_text t) m ∙ append_assoc before (comma_at place) (type_text t)
    ∙ ap (λ l. l ++ (comma_at place ++ type_text t)) b
    ∙ append_assoc old (parameters_text ps) (comma_at place ++ type_text t)
    ∙ ap (λ l. old ++ l) (sym whole)

-- what is put after what was put before is put after what stood there at first
pub behind : {E : Type 0} (r : Result (Unit {0}) E)
    (old before after text : List ℕ) {rest here : List ℕ}
    → before ++ rest ≡ old ++ text → rest ≡ here → OnOk r (after ≡ before ++ here) → OnOk r (after ≡ old ++ text)
behind (Ok done) old before after text so is put = put ∙ ap (λ l. before ++ l) (sym is) ∙ so
behind (Err fault) old before after text so is put = put

pub given : (gives : Ty) {E : Type 0} (r : Result (Unit {0}) E) (old after : List ℕ) {before : List ℕ}
    → (gives ≡ code.Void → ⊥) → before ≡ old ++ codes "->" → OnOk r (after ≡ before ++ type_text (ty_view gives))
    → OnOk r (after ≡ old ++ result_text (ty_view gives) (type_text (ty_view gives)))
given code.Void r old after not_void arrow put = absurd (not_void refl)
given gives (Ok done) old after not_void arrow put =
    put ∙ ap (λ l. l ++ type_text (ty_view gives)) arrow ∙ append_assoc old (codes "->") (type_text (ty_view gives))
given gives (Err fault) old after not_void arrow put = put

abbrev semicolon_behind : List Field → List ℕ
semicolon_behind [] = []
semicolon_behind (f ∷ fields) = 59 ∷ []

further_field : (fields : List Field) (f : Field) → further_fields (fields ++ f ∷ []) ≡ further_fields fields ++ (59 ∷ field_text f)
further_field [] f = ap (λ l. 59 ∷ l) (append-nil (field_text f))
further_field (g ∷ fields) f = ap (λ l. 59 ∷ (field_text g ++ l)) (further_field fields f) ∙ ap (λ l. 59 ∷ l) (sym (append_assoc (field_text g) (further_fields fields) (59 ∷ field_text f)))

fields_one : (fields : List Field) (f : Field) → fields_text (fields ++ f ∷ []) ≡ fields_text fields ++ (semicolon_behind fields ++ field_text f)
fields_one [] f = append-nil (field_text f)
fields_one (g ∷ fields) f = ap (λ l. field_text g ++ l) (further_field fields f) ∙ sym (append_assoc (field_text g) (further_fields fields) (59 ∷ field_text f))

semicolon : (place : ℕ) (members : List Member) → place < length members → semicolon_behind (fields_of (take place members)) ≡ semicolon_at place
semicolon zero members inside = refl
semicolon (suc n) [] inside = absurd (omega arith)
semicolon (suc n) (m ∷ members) inside = grind arith

pub one_field : (place : ℕ) (d : Member) (members : List Member) (old before middle after : List ℕ) → place < length members → before ≡ old ++ fields_text (fields_of (take place members)) → middle ≡ before ++ semicolon_at place → after ≡ middle ++ field_text (field_of (slice_index_or members place d)) → after ≡ old ++ fields_text (fields_of (take (place + 1) members))
one_field place d members old before middle after inside b m a =
    let f = field_of (slice_index_or members place d) in
    let fs = fields_of (take place members) in
    let whole : fields_text (fields_of (take (place + 1) members)) ≡ fields_text fs ++ (semicolon_at place ++ field_text f) =
    ap (λ l. fields_text (fields_of l)) (take_more members place d inside)
    ∙ ap fields_text (map-append field_of (take place members) (slice_index_or members place d ∷ []))
    ∙ fields_one fs f
    ∙ ap (λ c. fields_text fs ++ (c ++ field_text f)) (semicolon place members inside) in
    a ∙ ap (λ l. l ++ field_text f) m ∙ append_assoc before (semicolon_at place) (field_text f)
    ∙ ap (λ l. l ++ (semicolon_at place ++ field_text f)) b
    ∙ append_assoc old (fields_text fs) (semicolon_at place ++ field_text f)
    ∙ ap (λ l. old ++ l) (sym whole)
