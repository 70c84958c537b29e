-- A simple command of options `--name VALUE` and of words of its own, as `clap` builds it: what it finds, and what its uses leave.
use Rattle.std.proofs.Common.{◌≡◌, ◌∙◌, ◌||◌, ℕ, Bool, cond, true, false, refl, sym, ap, subst, List, [], ◌∷◌, ◌++◌, map, length, drop, Option, Some, None, true≢false, ap₂}
use Rattle.std.specs.Prelude.{⊤, find, fold, is_some, nat_eq, slice_get, unwrap_or, option_and_then, option_map}
use Rattle.std.specs.Option.{option_map_or}
use Rattle.std.specs.Char.{encode_utf8}
use Rattle.std.specs.Str.{IsUtf8, bytes_eq, chars, encode_utf8_all}
use Rattle.std.proofs.lemmas.Bool.{eqb-true}
use Rattle.std.proofs.lemmas.Str.{encodes-chars}
use Rattle.clap.specs.Lexer.{short_of, short_of_rest}
use Rattle.std.proofs.lemmas.Slice.Eq.{bytes_eq-Decides}
use Rattle.clap.specs.Facts.{explicit_source}
use Rattle.clap.specs.Walk.{Held, Row, Rule, Text, all_of, arg_by_index, arg_by_long, arg_by_short, first_of, has_row, reading_by, stronger, used, with_default, with_values, without}
use Rattle.clap.specs.Simple.{filled, with_index}
use Rattle.clap.specs.Takes.{is_given}
use Rattle.clap.specs.Faults.{bundle_fault, bundle_step_fault, defaults_fault, flags_fault, short_fault, use_fault}
use Rattle.clap.specs.declared.builder.value_parser.Reading.{Reading}
use Rattle.clap.specs.declared.parser.matches.ValueSource.{ValueSource}
use Rattle.clap.specs.declared.parser.matches.ValueSource.TheVariants.{CommandLine, DefaultValue}
use Rattle.clap.specs.declared.error.kind.ErrorKind.TheVariants.{ArgumentConflict, UnknownArgument}
use Rattle.ps_args.specs.Simple.{an_option, some_words}

abbrev pub opt : Text → Rule
opt name = with_index 1 (filled (an_option name))

abbrev pub pos : Text → Rule
pos own = with_index 1 (filled (some_words own))

abbrev pub rules_for : List Text → Text → List Rule
rules_for names own = map opt names ++ pos own ∷ []

abbrev pub AreUtf8 : List Text → Type 0
AreUtf8 [] = ⊤
AreUtf8 (word ∷ words) = IsUtf8 word × AreUtf8 words

-- ---- what is found

pub by_long : (names : List Text) (own name : Text) → arg_by_long (rules_for names own) name ≡ option_map opt (find (λ n. bytes_eq n name) names)
by_long [] own name = refl
by_long (n ∷ ns) own name = go (bytes_eq n name) (by_long ns own name)
  where
    go : (b : Bool) → arg_by_long (rules_for ns own) name ≡ option_map opt (find (λ m. bytes_eq m name) ns)
        → cond (b || false) (Some (opt n)) (arg_by_long (rules_for ns own) name) ≡ option_map opt (cond b (Some n) (find (λ m. bytes_eq m name) ns))
    go true e = refl
    go false e = e

pub by_short : (names : List Text) (own : Text) (x : ℕ) → arg_by_short (rules_for names own) x ≡ None
by_short [] own x = refl
by_short (n ∷ ns) own x = by_short ns own x

pub by_index : (names : List Text) (own : Text) → arg_by_index (rules_for names own) 1 ≡ Some (pos own)
by_index [] own = refl
by_index (n ∷ ns) own = by_index ns own

-- ---- what is seen of the rows: of an argument its values, and whether it was given

abbrev seen_in : Option Row → Option (List Text × Bool)
seen_in row = option_map (λ r. (r.values, explicit_source r.source)) row

abbrev pub seen : Text → List Row → Option (List Text × Bool)
seen id rows = seen_in (find (λ r. bytes_eq r.id id) rows)

pub has_row_seen : (id : Text) (rows : List Row) → has_row id rows ≡ is_some (seen id rows)
has_row_seen id [] = refl
has_row_seen id (r ∷ rs) = go (bytes_eq r.id id) (has_row_seen id rs)
  where
    go : (b : Bool) → has_row id rs ≡ is_some (seen id rs) → (b || has_row id rs) ≡ is_some (seen_in (cond b (Some r) (find (λ x. bytes_eq x.id id) rs)))
    go true e = refl
    go false e = e

pub all_seen : (id : Text) (rows : List Row) → all_of id rows ≡ option_map (λ s. s.0) (seen id rows)
all_seen id rows = go (find (λ r. bytes_eq r.id id) rows)
  where
    go : (o : Option Row) → option_map (λ r. r.values) o ≡ option_map (λ s. s.0) (seen_in o)
    go None = refl
    go (Some r) = refl

pub first_seen : (id : Text) (rows : List Row) → first_of id rows ≡ option_and_then (λ s. slice_get s.0 0) (seen id rows)
first_seen id rows = go (find (λ r. bytes_eq r.id id) rows)
  where
    go : (o : Option Row) → option_and_then (λ r. slice_get r.values 0) o ≡ option_and_then (λ s. slice_get s.0 0) (seen_in o)
    go None = refl
    go (Some r) = refl

pub given_seen : (id : Text) (rows : List Row) → is_given id rows ≡ option_map_or (λ s. s.1) (seen id rows) false
given_seen id rows = go (find (λ r. bytes_eq r.id id) rows)
  where
    go : (o : Option Row) → option_map_or (λ r. explicit_source r.source) o false ≡ option_map_or (λ s. s.1) (seen_in o) false
    go None = refl
    go (Some r) = refl

pub without_none : (id : Text) (rows : List Row) → has_row id rows ≡ false → without id rows ≡ rows
without_none id [] none = refl
without_none id (r ∷ rs) none = go (bytes_eq r.id id) none (without_none id rs)
  where
    go : (b : Bool) → (b || has_row id rs) ≡ false → (has_row id rs ≡ false → without id rs ≡ rs) → cond b ([] ++ rs) (r ∷ without id rs) ≡ r ∷ rs
    go true e next = absurd (true≢false e)
    go false e next = ap (λ xs. r ∷ xs) (next e)

explicit : (o : Option ValueSource) → explicit_source (Some (stronger o CommandLine)) ≡ true
explicit None = refl
explicit (Some DefaultValue) = refl
explicit (Some CommandLine) = refl

-- values of an argument: they stand behind those that it had
pub seen_same : (id : Text) (how : Reading) (values : List Text) (rows : List Row)
    → seen id (with_values id how CommandLine values rows) ≡ Some (unwrap_or (option_map (λ s. s.0) (seen id rows)) [] ++ values, true)
seen_same id how values [] = own_id
  where
    own_id : seen_in (cond (bytes_eq id id) (Some (record { id = id; values = values; count = None; source = Some CommandLine; reading = how })) None) ≡ Some (values, true)
    own_id = ap (λ (b : Bool). seen_in (cond b (Some (record { id = id; values = values; count = None; source = Some CommandLine; reading = how })) None)) ((bytes_eq-Decides id id).1 refl)
seen_same id how values (r ∷ rs) = go (bytes_eq r.id id) refl (seen_same id how values rs)
  where
    go : (b : Bool) → bytes_eq r.id id ≡ b → seen id (with_values id how CommandLine values rs) ≡ Some (unwrap_or (option_map (λ s. s.0) (seen id rs)) [] ++ values, true)
        → seen id (cond b (record r { values = r.values ++ values; source = Some (stronger r.source CommandLine) } ∷ [] ++ rs) (r ∷ with_values id how CommandLine values rs))
        ≡ Some (unwrap_or (option_map (λ s. s.0) (seen_in (cond b (Some r) (find (λ x. bytes_eq x.id id) rs)))) [] ++ values, true)
    go true is e =
        ap (λ (b : Bool). seen_in (cond b (Some (record r { values = r.values ++ values; source = Some (stronger r.source CommandLine) })) (find (λ x. bytes_eq x.id id) rs))) is
        ∙ ap (λ (b : Bool). Some (r.values ++ values, b)) (explicit r.source)
    go false is e = ap (λ (b : Bool). seen_in (cond b (Some r) (find (λ x. bytes_eq x.id id) (with_values id how CommandLine values rs)))) is ∙ e

-- and those of the others stay
pub seen_other : (id other : Text) (how : Reading) (values : List Text) (rows : List Row) → bytes_eq id other ≡ false
    → seen other (with_values id how CommandLine values rows) ≡ seen other rows
seen_other id other how values [] apart = ap (λ (b : Bool). seen_in (cond b (Some (record { id = id; values = values; count = None; source = Some CommandLine; reading = how })) None)) apart
seen_other id other how values (r ∷ rs) apart = go (bytes_eq r.id id) refl (seen_other id other how values rs apart)
  where
    not_this : bytes_eq r.id id ≡ true → bytes_eq r.id other ≡ false
    not_this is = subst (λ (x : Text). bytes_eq x other ≡ false) (sym ((bytes_eq-Decides r.id id).0 is)) apart

    step : (b : Bool) (xs ys : List Row) → seen other xs ≡ seen other ys
        → seen_in (cond b (Some r) (find (λ x. bytes_eq x.id other) xs)) ≡ seen_in (cond b (Some r) (find (λ x. bytes_eq x.id other) ys))
    step true xs ys e = refl
    step false xs ys e = e

    go : (b : Bool) → bytes_eq r.id id ≡ b → seen other (with_values id how CommandLine values rs) ≡ seen other rs
        → seen other (cond b (record r { values = r.values ++ values; source = Some (stronger r.source CommandLine) } ∷ [] ++ rs) (r ∷ with_values id how CommandLine values rs)) ≡ seen other (r ∷ rs)
    go true is e =
        ap (λ (b : Bool). seen_in (cond b (Some (record r { values = r.values ++ values; source = Some (stronger r.source CommandLine) })) (find (λ x. bytes_eq x.id other) rs))) (not_this is)
        ∙ sym (ap (λ (b : Bool). seen_in (cond b (Some r) (find (λ x. bytes_eq x.id other) rs))) (not_this is))
    go false is e = step (bytes_eq r.id other) _ _ e

-- ---- a use of an option, and one of a word of the command's own

pub option_once : (name value : Text) (rows : List Row) → has_row name rows ≡ false → used (opt name) (value ∷ []) rows ≡ with_values name (reading_by (opt name)) CommandLine (value ∷ []) rows
option_once name value rows none = ap (with_values name (reading_by (opt name)) CommandLine (value ∷ [])) (without_none name rows none)

pub option_fits : (name value : Text) (rows : List Row) → has_row name rows ≡ false → use_fault false (opt name) (value ∷ []) rows ≡ []
option_fits name value rows none = rw none refl

pub option_again : (name value : Text) (rows : List Row) → has_row name rows ≡ true → use_fault false (opt name) (value ∷ []) rows ≡ ArgumentConflict ∷ []
option_again name value rows one = rw one refl

-- ---- no default

abbrev has_none : Rule → List Row → Type 0
has_none a rows = with_default rows a ≡ rows

kept : (b : Bool) (rows : List Row) → cond b rows rows ≡ rows
kept true rows = refl
kept false rows = refl

pub no_defaults : (names : List Text) (own : Text) (rows : List Row) → fold with_default rows (rules_for names own) ≡ rows
no_defaults [] own rows = kept (has_row own rows) rows
no_defaults (n ∷ ns) own rows = ap (λ (rs : List Row). fold with_default rs (rules_for ns own)) (kept (has_row n rows) rows) ∙ no_defaults ns own rows

or_true : (b : Bool) → (b || true) ≡ true
or_true true = refl
or_true false = refl

pub no_default_fault : (names : List Text) (own : Text) (rows : List Row) → defaults_fault rows (rules_for names own) ≡ []
unfolding defaults_fault
no_default_fault [] own rows = rw (or_true (has_row own rows)) refl
no_default_fault (n ∷ ns) own rows = rw (or_true (has_row n rows)) (ap (λ (rs : List Row). defaults_fault rs (rules_for ns own)) (kept (has_row n rows) rows) ∙ no_default_fault ns own rows)

-- ---- a short option, which the command hasn't

-- what `short_of` gives stands behind `-`
record IsShort (word flags : Text) : Type 0 where
  first : ℕ
  rest : Text
  flags_are : flags ≡ first ∷ rest
  word_is : word ≡ 45 ∷ first ∷ rest

is_short : (word flags : Text) → short_of word ≡ Some flags → IsShort word flags
is_short [] flags is = absurd (cc)
is_short (x ∷ r) flags is = go (nat_eq x 45) refl is
  where
    behind : (t : Text) → x ≡ 45 → short_of_rest t ≡ Some flags → IsShort (x ∷ t) flags
    behind [] same e = absurd (cc)
    behind (y ∷ ys) same e = last (nat_eq y 45) e
      where
        last : (b : Bool) → cond b None (Some (y ∷ ys)) ≡ Some flags → IsShort (x ∷ y ∷ ys) flags
        last true e = absurd (cc)
        last false e = record { first = y; rest = ys; flags_are = cc; word_is = ap (λ (k : ℕ). k ∷ y ∷ ys) same }

    go : (b : Bool) → nat_eq x 45 ≡ b → option_and_then short_of_rest (cond b (Some r) None) ≡ Some flags → IsShort (x ∷ r) flags
    go true same e = behind r (eqb-true x 45 same) e
    go false other e = absurd (cc)

-- bytes of a character stand there
first_char : (y : ℕ) (ys : Text) → IsUtf8 (45 ∷ y ∷ ys) → (ch : ℕ) × (slice_get (chars (y ∷ ys)) 0 ≡ Some ch)
unfolding chars encode_utf8
first_char y ys utf8 = go (chars (y ∷ ys)) refl
  where
    go : (cs : Text) → chars (y ∷ ys) ≡ cs → (ch : ℕ) × (slice_get cs 0 ≡ Some ch)
    go [] none =
        let whole : encode_utf8_all (45 ∷ chars (y ∷ ys)) ≡ 45 ∷ y ∷ ys = encodes-chars (45 ∷ y ∷ ys) utf8 in
        let short : encode_utf8_all (45 ∷ []) ≡ 45 ∷ y ∷ ys = ap (λ (t : Text). encode_utf8_all (45 ∷ t)) (sym none) ∙ whole in
        absurd (cc)
    go (ch ∷ cs) is = (ch, refl)

refused : (names : List Text) (own : Text) (h : Held) (y : ℕ) (ys : Text) → IsUtf8 (45 ∷ y ∷ ys) → h.skip ≡ 0 → bundle_fault (rules_for names own) false (y ∷ ys) h ≡ UnknownArgument ∷ []
unfolding flags_fault
refused names own h y ys utf8 skip =
    let first = first_char y ys utf8 in
    ap₂ (λ (o : Option ℕ) (k : ℕ). bundle_step_fault (rules_for names own) false o (y ∷ ys) k (record h { skip = 0 }) (flags_fault (rules_for names own) false (length ys))) first.1 skip
    ∙ ap (λ (o : Option Rule). short_fault (rules_for names own) false o (drop (length (encode_utf8 first.0)) (y ∷ ys)) (record h { skip = 0 })
    (flags_fault (rules_for names own) false (length ys) (drop (length (encode_utf8 first.0)) (y ∷ ys)) 0)) (by_short names own first.0)

pub short_refused : (names : List Text) (own : Text) (h : Held) (word flags : Text) → IsUtf8 word → short_of word ≡ Some flags → h.skip ≡ 0
    → bundle_fault (rules_for names own) false flags h ≡ UnknownArgument ∷ []
short_refused names own h word flags utf8 short skip =
    let is = is_short word flags short in
    subst (λ (t : Text). bundle_fault (rules_for names own) false t h ≡ UnknownArgument ∷ []) (sym is.flags_are)
    (refused names own h is.first is.rest (subst IsUtf8 is.word_is utf8) skip)
