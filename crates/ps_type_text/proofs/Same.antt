-- Lists of types are the same where they have as many types, and the same ones at each place.
use Rattle.std.proofs.Common.{◌≡◌, ℕ, zero, suc, ◌+◌, ◌<◌, Bool, false, List, [], ◌∷◌, length, take, slice_index_or, IsTrue, refl, sym, ap, ◌∙◌, subst, arith}
use Rattle.std.proofs.lemmas.List.{take_more}
use Rattle.std.specs.declared.alloc.Global.{Global}
use Rattle.std.specs.declared.rc.Rc.{Rc}
use Rattle.ps_base.specs.declared.ty.Ty.{Ty, Ty-F, out-Ty, roll-Ty, roll-out-Ty}
use Rattle.ps_base.specs.declared.ty.Ty.TheOpen as parts_of
use Rattle.ps_base.specs.declared.ty.Ty.TheVariants as code
use Rattle.ps_base.specs.declared.ty.Ty.TheVariants.{rolls-Int, rolls-Bool, rolls-Str, rolls-Pntr, rolls-Void, rolls-Vector, rolls-Proc}
use Rattle.ps_base.specs.declared.ty.Signature.{Signature}
use Rattle.ps_base.specs.TyView.{TyView, TyViews, none, more, and_type, ty_view, ty_views}
use Rattle.ps_base.specs.TyView as ty
use Rattle.ps_base.proofs.TyLemmas.{ty_views-append}

pub never : IsTrue false → ⊥
never h = cc

-- a type of which a variant is seen is of that variant
abbrev pub IsOf : TyView → Ty → Type 0
IsOf ty.Int t = t ≡ code.Int
IsOf ty.Bool t = t ≡ code.Bool
IsOf ty.Str t = t ≡ code.Str
IsOf ty.Pntr t = t ≡ code.Pntr
IsOf ty.Void t = t ≡ code.Void
IsOf (ty.Vector element) t = (x : Rc Ty Global) × (t ≡ code.Vector x)
IsOf (ty.Proc parameters gives) t = (x : Rc Signature Global) × (t ≡ code.Proc x)

of_made : (t made : Ty) → t ≡ made → IsOf (ty_view made) made → IsOf (ty_view t) t
of_made t made is of = subst (λ (u : Ty). IsOf (ty_view u) u) (sym is) of

of_parts : (parts : Ty-F Ty Signature) → IsOf (ty_view (roll-Ty parts)) (roll-Ty parts)
of_parts parts_of.Int = of_made _ code.Int rolls-Int refl
of_parts parts_of.Bool = of_made _ code.Bool rolls-Bool refl
of_parts parts_of.Str = of_made _ code.Str rolls-Str refl
of_parts parts_of.Pntr = of_made _ code.Pntr rolls-Pntr refl
of_parts parts_of.Void = of_made _ code.Void rolls-Void refl
of_parts (parts_of.Vector x) = of_made _ (code.Vector x) (rolls-Vector x) (x, refl)
of_parts (parts_of.Proc x) = of_made _ (code.Proc x) (rolls-Proc x) (x, refl)

is_of_seen : (t : Ty) → IsOf (ty_view t) t
is_of_seen t = subst (λ (u : Ty). IsOf (ty_view u) u) (roll-out-Ty t) (of_parts (out-Ty t))

-- what is told of what is left of two types is told of the types
pub as_left : {r : Bool} {x y a b : TyView} → (x ≡ y → a ≡ b) × (a ≡ b → x ≡ y) → (IsTrue r → x ≡ y) × (x ≡ y → IsTrue r)
    → (IsTrue r → a ≡ b) × (a ≡ b → IsTrue r)
as_left so told = (λ yes. so.0 (told.0 yes), λ e. told.1 (so.1 e))

pub differ : {a b seen left : TyView} (right : Ty) → (left ≡ ty_view right → a ≡ b) × (a ≡ b → left ≡ ty_view right) → left ≡ seen → (IsOf seen right → ⊥)
    → (IsTrue false → a ≡ b) × (a ≡ b → IsTrue false)
differ right so is other =
    as_left so (λ yes. absurd (never yes), λ e. absurd (other (subst (λ (v : TyView). IsOf v right) (sym e ∙ is) (is_of_seen right))))

abbrev count_of : TyViews → ℕ
count_of none = 0
count_of (more t ts) = suc (count_of ts)

counted : (types : List Ty) → count_of (ty_views types) ≡ length types
counted [] = refl
counted (t ∷ types) = ap suc (counted types)

pub lengths_differ : (a b : List Ty) → (length a ≡ length b → ⊥) → ty_views a ≡ ty_views b → ⊥
lengths_differ a b differ same = differ (sym (counted a) ∙ ap count_of same ∙ counted b)

type_at : TyViews → ℕ → TyView
type_at none i = ty.Void
type_at (more t ts) zero = t
type_at (more t ts) (suc i) = type_at ts i

found_at : (types : List Ty) (i : ℕ) (d : Ty) → i < length types → type_at (ty_views types) i ≡ ty_view (slice_index_or types i d)
unfolding type_at
found_at [] i d inside = absurd (omega arith)
found_at (t ∷ types) zero d inside = refl
found_at (t ∷ types) (suc i) d inside = found_at types i d (omega arith)

pub places_differ : (a b : List Ty) (i : ℕ) (d e : Ty) → i < length a → length a ≡ length b → (ty_view (slice_index_or a i d) ≡ ty_view (slice_index_or b i e) → ⊥) → ty_views a ≡ ty_views b → ⊥
places_differ a b i d e inside lengths differ same =
    differ (sym (found_at a i d inside) ∙ ap (λ ts. type_at ts i) same ∙ found_at b i e (omega (arith, lengths)))

pub one_same : (a b : List Ty) (i : ℕ) (d e : Ty) → i < length a → length a ≡ length b → ty_views (take i a) ≡ ty_views (take i b) → ty_view (slice_index_or a i d) ≡ ty_view (slice_index_or b i e) → ty_views (take (i + 1) a) ≡ ty_views (take (i + 1) b)
one_same a b i d e inside lengths before here =
    ap ty_views (take_more a i d inside) ∙ ty_views-append (take i a) (slice_index_or a i d)
    ∙ ap (λ ts. and_type ts (ty_view (slice_index_or a i d))) before ∙ ap (and_type (ty_views (take i b))) here
    ∙ sym (ap ty_views (take_more b i e (omega (arith, lengths))) ∙ ty_views-append (take i b) (slice_index_or b i e))
