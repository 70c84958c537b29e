-- A program that the rules give is well typed.
use Rattle.std.proofs.Common.{◌≡◌, ℕ, ◌+◌, List, [], ◌∷◌, inl, inr, arith, refl, subst}
use Rattle.std.specs.Prelude.{Option, Some, None, codes}
use Rattle.ps_typing.specs.ps_base.TyView as types
use Rattle.ps_typing.specs.ps_base.declared.line.Line.{Line}
use Rattle.ps_typing.specs.ps_tree.Phrase.{Phrase}
use Rattle.ps_typing.specs.ps_program.Node.{Node, BodyNode, body}
use Rattle.ps_typing.specs.Names.{plain, scan, Meaning, local, class, library, Declared, FieldOf, lookup, lookup_field}
use Rattle.ps_typing.specs.Library.{library_names, procedures, error_fields}
use Rattle.ps_typing.specs.Mentions.{Seen, mentions, declarations, kept_of}
use Rattle.ps_typing.specs.Placed.{placed_program, no_locals, then_give, ◌>>=◌}
use Rattle.ps_typing.specs.Checking.{Outcome, Gives, Refuses}
use Rattle.ps_typing.specs.Fault.{Fault}
use Rattle.ps_typing.specs.Program.{Typed, measured, first_complex, bodies, verdict_of, check_program, end_line}
use Rattle.ps_typing.specs.Items.{LetsAreItems}
use Rattle.ps_typing.specs.WellTyped.{Some_is, Env, IsClass, IsField, IsWellTyped}
use Rattle.ps_typing.specs.WellTyped as typed
use Rattle.ps_typing_laws.proofs.Numbered.{Numbered}
use Rattle.ps_typing_laws.proofs.ByCheck.{same_extends, IsMeaning, Known, Sound, IsOf, of_type, sound, lookup_more, lookup_field_more}
use Rattle.ps_typing_laws.proofs.Covered.{IsSeen, Within, Covered}
use Rattle.ps_typing_laws.proofs.ByPlacing.{Sync, place}

-- no name of the library is a local
abbrev IsOutside : Meaning → Type 0
IsOutside (local number ty variable) = ⊥
IsOutside (class text tys) = IsClass text tys
IsOutside (library procedure) = Unit {0}

abbrev AllOutside : List Declared → Type 0
AllOutside [] = Unit {0}
AllOutside (d ∷ ds) = IsOutside d.meaning × AllOutside ds

outside : (ds : List Declared) (name : List ℕ) (meaning : Meaning) → AllOutside ds → lookup ds name ≡ Some meaning → IsOutside meaning
outside [] name meaning h e = absurd cc
outside (d ∷ ds) name meaning h e = lookup_more IsOutside d ds name meaning h.0 (outside ds name meaning h.1) e

means : (name : List ℕ) (meaning : Meaning) → IsOutside meaning → lookup procedures name ≡ Some meaning → IsMeaning [] 0 meaning
means name (local number ty variable) h e = absurd h
means name (class text tys) h e = h
means name (library (plain code params gives)) h e = (name, e)
means name (library (scan text)) h e = tt

all_outside : AllOutside procedures
all_outside = (tt, (tt, (tt, (tt, (tt, (tt, (tt, (tt, (tt, (tt, (tt, (tt, (tt, (tt, (tt, ((codes "error.record", error_fields, refl, refl), tt))))))))))))))))

abbrev AllFields : List FieldOf → Type 0
AllFields [] = Unit {0}
AllFields (f ∷ fs) = IsField f.class f.index f.ty × AllFields fs

field_found : (fs : List FieldOf) (name : List ℕ) (found : FieldOf) → AllFields fs → lookup_field fs name ≡ Some found →
    IsField found.class found.index found.ty
field_found [] name found h e = absurd cc
field_found (f ∷ fs) name found h e = lookup_field_more f fs name found h.0 (field_found fs name found h.1) e

all_fields : AllFields library_names.fields_around
all_fields = (
  (codes "error.record", error_fields, refl, inl (refl, refl)),
  (
    (codes "error.record", error_fields, refl, inr (0, refl, inl (refl, refl))),
    ((codes "error.record", error_fields, refl, inr (1, refl, inr (0, refl, inl (refl, refl)))), tt),
  ),
)

pub library_known : Known [] 0 library_names
library_known = record {
  means = λ name meaning e. means name meaning (outside procedures name meaning all_outside e) e;
  fields = λ name found e. field_found library_names.fields_around name found all_fields e;
}

-- before anything is declared
nothing_declared : (names : List _) (tree : Node) →
    Sync names (kept_of (mentions tree) (declarations tree)) (mentions tree) (declarations tree) refl [] 0 0 [] no_locals (record { locals = []; scopes = [] })
nothing_declared names tree = record {
  below = λ k d ty is. absurd is;
  shallow = λ k d ty is. absurd is;
  known = λ k d ty is. absurd is;
  in_scope = λ k d ty is yes_kept. absurd is;
  in_local = λ k d ty is isnt own. absurd is;
  only = λ k isnt. tt;
}

itself_within : (found : List Seen) → Within found 0 found
itself_within found = λ name literals is. let e : literals ≡ literals + 0 = omega arith in subst (λ (n : ℕ). Some_is (IsSeen name n) found) e is

whole_covered : (tree : Node) → Covered (mentions tree) (declarations tree) 0 tree
whole_covered tree = record { mentions_are = itself_within (mentions tree); declarations_are = itself_within (declarations tree) }

body_typed : (names : List _) (tree : Node) (m : ℕ) (line : Line) → Numbered names [] 0 0 tree types.Void m →
    IsWellTyped (placed_program names (body [] types.Void tree None line))
unfolding then_give ◌>>=◌
body_typed names tree m line t =
    let f = place names (kept_of (mentions tree) (declarations tree)) (mentions tree) (declarations tree) refl t [] no_locals
    (record { locals = []; scopes = [] }) (nothing_declared names tree) (whole_covered tree) in
    (refl, refl, typed.of_params typed.unscoped typed.no_more refl f.is_typed)

given_typed : (o : Outcome Node) (program : BodyNode) → Sound (IsOf types.Void) library_names o → verdict_of o ≡ Typed program → IsWellTyped program
given_typed (Gives tree ty names) program h is =
    let whole : BodyNode = placed_program names.all (body [] types.Void tree None (record { 0 = 1 })) in
    let numbered = h.fine.typed names.all [] 0 (same_extends names.all) library_known in
    subst IsWellTyped (same_program whole program (first_complex (bodies whole)) is) (body_typed names.all tree _ (record { 0 = 1 }) numbered)
  where
    same_program : (whole program : BodyNode) (complex : Option Fault) → measured whole complex ≡ Typed program → whole ≡ program
    same_program whole program None is = cc
    same_program whole program (Some fault) is = absurd cc
given_typed (Refuses fault) program h is = absurd cc

pub program_typed : (tree : Phrase) (program : BodyNode) → LetsAreItems tree → check_program tree ≡ Typed program → IsWellTyped program
program_typed tree program lets is = given_typed _ program (of_type types.Void (end_line tree) _ (sound library_names tree lets)) is
