-- The program that a tree is fits, where the leaves of the tree do.
use Rattle.std.proofs.Common.{◌≡◌, ℕ, Bool, true, false, ◌&&◌, List, [], ◌∷◌, inl, inr, refl, subst}
use Rattle.std.specs.Prelude.{Option, Some, None, codes}
use Rattle.ps_leaf_laws.specs.ps_base.TyView.{TyView}
use Rattle.ps_leaf_laws.specs.ps_base.TyView as types
use Rattle.ps_leaf_laws.specs.ps_tree.Phrase.{Phrase}
use Rattle.ps_leaf_laws.specs.ps_program.Node.{Node, BodyNode, body}
use Rattle.ps_leaf_laws.specs.ps_type_text.Texts.{IsName, IsNamed, is_name_byte}
use Rattle.ps_leaf_laws.specs.ps_typing.Names.{Meaning, class, Declared, FieldOf, lookup, lookup_field}
use Rattle.ps_leaf_laws.specs.ps_typing.Library.{library_names, procedures, error_fields, error_class, three}
use Rattle.ps_leaf_laws.specs.ps_typing.Placed.{placed_program}
use Rattle.ps_leaf_laws.specs.ps_typing.Checking.{Outcome, Gives, Refuses, check}
use Rattle.ps_leaf_laws.specs.ps_typing.Fault.{Fault}
use Rattle.ps_leaf_laws.specs.ps_typing.Program.{Typed, measured, first_complex, bodies, verdict_of, check_program, end_line}
use Rattle.ps_leaf_laws.specs.ps_typing.WellTyped.{At, IsOfType}
use Rattle.ps_leaf_laws.specs.ps_soundness.Running.{IsClassText, HasField}
use Rattle.ps_leaf_laws.specs.Leaves.{LeavesFit}
use Rattle.ps_fit_laws.specs.Fitting.{Fits, FitsBody}
use Rattle.ps_fit_laws.proofs.PlacedFits.{program_fits}
use Rattle.ps_fit_laws.proofs.ByCheck.{IsMeaning, IsField, Known, Sound, lookup_more, lookup_field_more, passed, sound}

-- names by a test of their bytes
abbrev are_name_bytes : List ℕ → Bool
are_name_bytes [] = true
are_name_bytes (byte ∷ bytes) = is_name_byte byte && are_name_bytes bytes

both_true : (a b : Bool) → (a && b) ≡ true → (a ≡ true) × (b ≡ true)
both_true true b e = (refl, e)
both_true false b e = absurd cc

by_bytes : (bytes : List ℕ) → are_name_bytes bytes ≡ true → IsName bytes
by_bytes [] e = tt
by_bytes (byte ∷ bytes) e = let h = both_true (is_name_byte byte) (are_name_bytes bytes) e in (h.0, by_bytes bytes h.1)

-- the class of the library
error_named : IsNamed (codes "error.record") error_fields
unfolding is_name_byte
error_named = record {
  class = by_bytes (codes "error.record") refl;
  each = (
    by_bytes (codes "error.context") refl,
    (by_bytes (codes "error.fault") refl, (by_bytes (codes "error.explain") refl, tt)),
  );
}

error_is_class : IsClassText error_class
error_is_class = record { name = codes "error.record"; fields = error_fields; named = error_named; text_is = refl; valued = (tt, (tt, (tt, tt))) }

abbrev AllMeanings : List Declared → Type 0
AllMeanings [] = Unit {0}
AllMeanings (d ∷ ds) = IsMeaning d.meaning × AllMeanings ds

meaning_found : (ds : List Declared) (name : List ℕ) (meaning : Meaning) → AllMeanings ds → lookup ds name ≡ Some meaning → IsMeaning meaning
meaning_found [] name meaning h e = absurd cc
meaning_found (d ∷ ds) name meaning h e = lookup_more IsMeaning d ds name meaning h.0 (meaning_found ds name meaning h.1) e

error_has_types : IsMeaning (class error_class (three types.Str types.Str types.Str))
unfolding error_is_class
error_has_types = record { class = error_is_class; types_are = refl }

all_meanings : AllMeanings procedures
all_meanings = (tt, (tt, (tt, (tt, (tt, (tt, (tt, (tt, (tt, (tt, (tt, (tt, (tt, (tt, (tt, (error_has_types, tt))))))))))))))))

abbrev AllFields : List FieldOf → Type 0
AllFields [] = Unit {0}
AllFields (f ∷ fs) = IsField f × AllFields fs

field_found : (fs : List FieldOf) (name : List ℕ) (found : FieldOf) → AllFields fs → lookup_field fs name ≡ Some found → IsField found
field_found [] name found h e = absurd cc
field_found (f ∷ fs) name found h e = lookup_field_more f fs name found h.0 (field_found fs name found h.1) e

error_field_at : (index : ℕ) → At (IsOfType types.Str) error_fields index → HasField error_class index types.Str
unfolding error_is_class
error_field_at index h = record { class = error_is_class; at = h }

all_fields : AllFields library_names.fields_around
all_fields = (
  error_field_at 0 (inl (refl, refl)),
  (error_field_at 1 (inr (0, refl, inl (refl, refl))), (error_field_at 2 (inr (1, refl, inr (0, refl, inl (refl, refl)))), tt)),
)

pub library_known : Known library_names
library_known = record {
  means = λ name meaning e. meaning_found procedures name meaning all_meanings e;
  fields = λ name found e. field_found library_names.fields_around name found all_fields e;
  named = tt;
}

given_fits : (o : Outcome Node) (program : BodyNode) → Sound Fits o → verdict_of o ≡ Typed program → FitsBody program
given_fits (Gives tree ty names) program h is =
    let whole : BodyNode = placed_program names.all (body [] types.Void tree None (record { 0 = 1 })) in
    subst FitsBody (same_program whole program (first_complex (bodies whole)) is)
    (program_fits names.all (body [] types.Void tree None (record { 0 = 1 })) ((tt, tt), h.fine.fits))
  where
    same_program : (whole program : BodyNode) (complex : Option Fault) → measured whole complex ≡ Typed program → whole ≡ program
    same_program whole program None is = cc
    same_program whole program (Some fault) is = absurd cc
given_fits (Refuses fault) program h is = absurd cc

pub typed_fits : (tree : Phrase) (program : BodyNode) → LeavesFit tree → check_program tree ≡ Typed program → FitsBody program
typed_fits tree program leaves is =
    given_fits _ program (passed _ types.Void (end_line tree) (check library_names tree) (sound library_names tree leaves library_known)) is
