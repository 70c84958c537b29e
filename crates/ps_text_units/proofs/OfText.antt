-- Each typed text of no more than the bytes that are read has one unit.
use Rattle.std.proofs.Common.{◌≡◌, ℕ, pos, ◌+◌, ◌*◌, ◌<◌, ◌≤◌, Bool, true, false, List, [], ◌∷◌, length, Option, Some, None, refl, subst, cond, arith, length-append}
use Rattle.std.specs.Prelude.{◌^◌, take, nat_lt, if◌then◌else◌, ◌==◌}
use Rattle.std.specs.List.{All, AllByRecursion}
use Rattle.std.proofs.lemmas.List.{length-take}
use Rattle.std.proofs.lemmas.List.Sums.{count_by-le-length}
use Rattle.std.proofs.lemmas.List.Elements.{All-nil, All-cons, All-head, All-tail, All-append, All-get_or}
use Rattle.std.proofs.lemmas.Option.{slice_get_within, get_or_from_slice_get}
use Rattle.ps_unit_laws.specs.ps_base.Limits.{most_slots, most_text_bytes}
use Rattle.ps_unit_laws.specs.ps_base.CodeUnit.{UnitView}
use Rattle.ps_unit_laws.specs.ps_base.TyView as types
use Rattle.ps_leaf_laws.specs.ps_scan.declared.token.Token.{Token}
use Rattle.ps_leaf_laws.specs.ps_scan.Tokens.{HasTokens, IsToken, int_value, newlines, line_number}
use Rattle.ps_leaf_laws.proofs.of_ps_scan.Scanning.{all_tokens, all_in_order}
use Rattle.ps_leaf_laws.specs.ps_symbols.declared.kind.Kind.{Kind}
use Rattle.ps_leaf_laws.specs.ps_symbols.declared.kind.Kind.TheVariants as kind
use Rattle.ps_leaf_laws.specs.ps_symbols.declared.symbol.Symbol.{Symbol}
use Rattle.ps_leaf_laws.specs.ps_symbols.Symbols.{breaks, semicolon_behind, symbol, between, symbols_behind, symbols}
use Rattle.ps_leaf_laws.proofs.of_ps_symbols.SymbolLemmas.{tokens_fit}
use Rattle.ps_leaf_laws.specs.ps_tree.Phrase.{Phrase}
use Rattle.ps_leaf_laws.specs.ps_parse.Program.{ReadsAs}
use Rattle.ps_unit_laws.specs.ps_program.Node.{Node, BodyNode, body}
use Rattle.ps_unit_laws.specs.ps_program.Slots.{slot_count}
use Rattle.ps_unit_laws.specs.ps_typing.Names.{Meaning, Declared, FieldOf, lookup, lookup_field}
use Rattle.ps_unit_laws.specs.ps_typing.Library.{library_names, procedures}
use Rattle.ps_unit_laws.specs.ps_typing.Placed.{placed_program}
use Rattle.ps_unit_laws.specs.ps_typing.Checking.{Outcome, Gives, Refuses, check}
use Rattle.ps_unit_laws.specs.ps_typing.Fault.{Fault, TooComplex}
use Rattle.ps_unit_laws.specs.ps_typing.Program.{Typed, measured, first_complex, bodies, verdict_of, end_line, line_of_body}
use Rattle.ps_unit_laws.specs.ps_typing.WellTyped.{IsBody, IsWellTyped}
use Rattle.ps_text_laws.proofs.LetsRead.{lets_are_items}
use Rattle.ps_unit_laws.proofs.of_ps_typing_laws.OfProgram.{program_typed}
use Rattle.ps_leaf_laws.proofs.Leaves.{FitsAs, symbols_fit}
use Rattle.ps_unit_laws.specs.ps_gen.Units.{unit_of}
use Rattle.ps_unit_laws.specs.OneUnit.{IsUnitOf, IsWithinLimits}
use Rattle.ps_unit_laws.proofs.Units.{has_unit, one_unit}
use Rattle.ps_text_units.specs.Texts.{IsTypedAs}
use Rattle.ps_text_units.proofs.Weights.{over, over_small, int_small, weigh, mass, mass_body}
use Rattle.ps_text_units.proofs.Costs.{IntLight, AreLight, program_costs}
use Rattle.ps_text_units.proofs.Checked.{IsMeaning, IsField, Known, Sound, lookup_more, lookup_field_more, passed, sound, is_few}
use Rattle.ps_text_units.proofs.PlacedMass.{program_small}
use Rattle.ps_text_units.proofs.Bytes.{IsLight, light_fields, light_bytes, bodies_light}

-- The symbols of a text.

few_newlines : (n : ℕ) (text : List ℕ) → newlines (take n text) ≤ length text
unfolding newlines
few_newlines n text =
    let a = count_by-le-length (λ byte. byte == 10) (take n text) in let b = length-take n text in omega arith

line_small : (text : List ℕ) (token : Token) → length text ≤ most_text_bytes → IsToken text token → over token.line.0 ≡ 0
line_small text token short is =
    let a = few_newlines token.from text in
    let l = is.line in
    let same : token.line.0 ≡ line_number text token.from = cc in
    over_small token.line.0 (omega arith)

abbrev LineIsSmall : Symbol → Type 0
LineIsSmall s = over s.token.line.0 ≡ 0

abbrev LastIsSmall : Option Token → Type 0
LastIsSmall None = Unit {0}
LastIsSmall (Some token) = over token.line.0 ≡ 0

between_small : (last : Option Token) (number : ℕ) (token : Token) → LastIsSmall last → All LineIsSmall (between last number token)
between_small None number token h = All-nil LineIsSmall
between_small (Some last) number token h =
    elim (breaks last token) as (λ here. All LineIsSmall (cond here (symbol number (semicolon_behind last) ∷ []) [])) [
      | true ↦ All-cons LineIsSmall (symbol number (semicolon_behind last)) [] h (All-nil LineIsSmall)
      | false ↦ All-nil LineIsSmall
    ]

lines_small : (text : List ℕ) (last : Option Token) (number : ℕ) (tokens : List Token) → length text ≤ most_text_bytes → LastIsSmall last →
    All (IsToken text) tokens → All LineIsSmall (symbols_behind last number tokens)
unfolding symbols_behind
lines_small text last number [] short h all = All-nil LineIsSmall
lines_small text last number (token ∷ tokens) short h all =
    let here = line_small text token short (All-head (IsToken text) token tokens all) in
    All-append LineIsSmall (between last number token) (symbol number token ∷ symbols_behind (Some token) (number + 1) tokens)
    (between_small last number token h)
    (All-cons LineIsSmall (symbol number token) (symbols_behind (Some token) (number + 1) tokens) here
    (lines_small text (Some token) (number + 1) tokens short here (All-tail (IsToken text) token tokens all)))

int_light : (text : List ℕ) (k : Kind) (token : Token) → FitsAs text k token → IntLight text k token
int_light text kind.Int token h = int_small (pos (int_value text token)) h
int_light text other token h = tt

symbols_light : (text : List ℕ) (tokens : List Token) → length text ≤ most_text_bytes → HasTokens text tokens → AreLight text (symbols tokens)
symbols_light text tokens short scans = λ place symbol here. (
  subst LineIsSmall (get_or_from_slice_get (symbols tokens) place symbol symbol here)
      (All-get_or LineIsSmall (symbols tokens) place symbol (slice_get_within (symbols tokens) place symbol here)
      (lines_small text None 0 tokens short tt (all_tokens scans))),
  int_light text symbol.kind symbol.token (symbols_fit scans place symbol here),
)

one_between : (last : Option Token) (number : ℕ) (token : Token) → length (between last number token) ≤ 1
one_between None number token = omega arith
one_between (Some last) number token =
    elim (breaks last token) as (λ here. length (cond here (symbol number (semicolon_behind last) ∷ []) []) ≤ 1) [ true ↦ omega arith | false ↦ omega arith ]

few_symbols : (last : Option Token) (number : ℕ) (tokens : List Token) → length (symbols_behind last number tokens) ≤ 2 * length tokens
unfolding symbols_behind
few_symbols last number [] = omega arith
few_symbols last number (token ∷ tokens) =
    let a = one_between last number token in
    let b = few_symbols (Some token) (number + 1) tokens in
    let e = length-append (between last number token) (symbol number token ∷ symbols_behind (Some token) (number + 1) tokens) in omega arith

few_tokens : (text : List ℕ) (tokens : List Token) → HasTokens text tokens → length tokens ≤ length text
few_tokens text tokens scans = let h = tokens_fit text 0 tokens (all_tokens scans) (all_in_order scans) (omega arith) in omega arith

text_weighs : (text : List ℕ) (tokens : List Token) (tree : Phrase) → length text ≤ most_text_bytes → HasTokens text tokens → ReadsAs text tokens tree →
    weigh tree ≤ 2 ^ 26
text_weighs text tokens tree short scans reads =
    let a = program_costs text (symbols_light text tokens short scans) reads.program in
    let b = few_symbols None 0 tokens in
    let c = few_tokens text tokens scans in omega arith

-- The library.

abbrev AllMeanings : List Declared → Type 0
AllMeanings [] = Unit {0}
AllMeanings (d ∷ ds) = IsMeaning d.meaning × AllMeanings ds

meaning_found : (ds : List Declared) (name : List ℕ) (meaning : Meaning) → AllMeanings ds → lookup ds name ≡ Some meaning → IsMeaning meaning
meaning_found [] name meaning h e = absurd cc
meaning_found (d ∷ ds) name meaning h e = lookup_more IsMeaning d ds name meaning h.0 (meaning_found ds name meaning h.1) e

abbrev AllFields : List FieldOf → Type 0
AllFields [] = Unit {0}
AllFields (f ∷ fs) = IsField f × AllFields fs

field_found : (fs : List FieldOf) (name : List ℕ) (found : FieldOf) → AllFields fs → lookup_field fs name ≡ Some found → IsField found
field_found [] name found h e = absurd cc
field_found (f ∷ fs) name found h e = lookup_field_more f fs name found h.0 (field_found fs name found h.1) e

few : (n : ℕ) → n < 16 → over n ≡ 0
few n h = over_small n (omega arith)

all_meanings : AllMeanings procedures
all_meanings = (
  few 0 (omega arith),
  (
    few 1 (omega arith),
    (few 2 (omega arith), (few 3 (omega arith), (few 4 (omega arith), (few 5 (omega arith), (few 6 (omega arith), (few 7 (omega arith), (few 8 (omega arith), (few 9 (omega arith), (few 10 (omega arith), (few 11 (omega arith), (few 12 (omega arith), (tt, (tt, (tt, tt)))))))))))))),
  ),
)

all_fields : AllFields library_names.fields_around
all_fields = (few 0 (omega arith), (few 1 (omega arith), (few 2 (omega arith), tt)))

library_known : Known library_names
library_known = record {
  means = λ name meaning e. meaning_found procedures name meaning all_meanings e;
  fields = λ name found e. field_found library_names.fields_around name found all_fields e;
}

-- The program.

record Small (program : BodyNode) : Type 0 where
  pub light : IsLight program
  pub none_complex : first_complex (bodies program) ≡ None

given_small : (o : Outcome Node) (program : BodyNode) → Sound mass (2 ^ 26) o → verdict_of o ≡ Typed program → Small program
given_small (Gives tree ty names) program h is =
    let plain : BodyNode = body [] types.Void tree None (record { 0 = 1 }) in
    let whole : BodyNode = placed_program names.all plain in
    let tree_small = h.fine.small in
    let placed = program_small names.all plain (omega arith) in
    by_complex whole (omega arith) (first_complex (bodies whole)) refl is
  where
    by_complex : (whole : BodyNode) → mass_body whole ≤ 2 ^ 26 → (complex : Option Fault) → first_complex (bodies whole) ≡ complex →
        measured whole complex ≡ Typed program → Small program
    by_complex whole small None e is =
        let same : whole ≡ program = cc in subst Small same (record { light = small; none_complex = e })
    by_complex whole small (Some fault) e is = absurd cc
given_small (Refuses fault) program h is = absurd cc

sound_more : {n m : ℕ} (o : Outcome Node) → n ≤ m → Sound mass n o → Sound mass m o
sound_more (Gives tree ty names) le h =
    let small = h.fine.small in record { fine = record { small = omega arith; known = h.fine.known } }
sound_more (Refuses fault) le h = record { fine = tt }

program_is_small : (text : List ℕ) (program : BodyNode) → length text ≤ most_text_bytes → IsTypedAs text program → Small program
program_is_small text program short is =
    let light = text_weighs text is.tokens is.phrase short is.scanned is.read in
    given_small _ program
    (passed _ types.Void (end_line is.phrase) (check library_names is.phrase)
    (sound_more _ light (sound library_names is.phrase (omega arith) library_known))) is.typed

-- the slots of each body, where none is too complex
few_slots : (all : List BodyNode) → first_complex all ≡ None → AllByRecursion (λ of. slot_count of ≤ most_slots) all
few_slots [] e = tt
few_slots (b ∷ bs) e = by_test (nat_lt most_slots (slot_count b)) refl (λ none. few_slots bs none) e
  where
    by_test : (test : Bool) → nat_lt most_slots (slot_count b) ≡ test →
        (first_complex bs ≡ None → AllByRecursion (λ of. slot_count of ≤ most_slots) bs) →
        (if test then Some (TooComplex (line_of_body b) (slot_count b)) else first_complex bs) ≡ None →
        (slot_count b ≤ most_slots) × AllByRecursion (λ of. slot_count of ≤ most_slots) bs
    by_test true t rest e = absurd cc
    by_test false t rest e = (is_few most_slots (slot_count b) t, rest e)

all_within : (all : List BodyNode) → AllByRecursion IsLight all → AllByRecursion (λ of. slot_count of ≤ most_slots) all →
    AllByRecursion IsWithinLimits all
all_within [] h k = tt
all_within (of ∷ rest) h k = (record { slots = k.0; fields = light_fields of h.0; bytes = light_bytes of h.0 }, all_within rest h.1 k.1)

pub within : (text : List ℕ) (program : BodyNode) → length text ≤ most_text_bytes → IsTypedAs text program →
    AllByRecursion IsWithinLimits (bodies program)
within text program short is =
    let h = program_is_small text program short is in
    all_within (bodies program) (bodies_light program h.light) (few_slots (bodies program) h.none_complex)

inside_none : (program : BodyNode) → IsWellTyped program → IsBody [] program
inside_none (body params gives tree scope line) h = h.2

pub has : (text : List ℕ) (program : BodyNode) → length text ≤ most_text_bytes → IsTypedAs text program → IsUnitOf program (unit_of program)
has text program short is =
    let typed = program_typed is.phrase program (lets_are_items text is.tokens is.phrase is.read) is.typed in
    has_unit [] program (inside_none program typed) (within text program short is)

pub one : (text : List ℕ) (program : BodyNode) (made : UnitView) → length text ≤ most_text_bytes → IsTypedAs text program → IsUnitOf program made →
    made ≡ unit_of program
one text program made short is unit = one_unit program made (unit_of program) unit (has text program short is)
