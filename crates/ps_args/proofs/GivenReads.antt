-- What `clap` reads of the words behind the volume is what is given of them: of a run, and of a new volume.
use Rattle.std.proofs.Common.{◌≡◌, ◌∙◌, ℕ, Bool, cond, true, false, refl, sym, ap, ap₂, subst, List, [], ◌∷◌, Option, Some, None}
use Rattle.std.specs.Prelude.{String, codes, find, fold, is_some, option_map, option_and_then, slice_get, unwrap_or}
use Rattle.std.specs.declared.alloc.Global.{Global}
use Rattle.std.specs.Str.{bytes_eq}
use Rattle.std.proofs.lemmas.Str.{IsUtf8-string_bytes}
use Rattle.clap.specs.Kinds.{Kinds}
use Rattle.clap.specs.Walk.{Row, Text, all_of, first_of, nothing_held, walk_from, walked}
use Rattle.clap.specs.Simple.{App, entered}
use Rattle.clap.specs.Faults.{built_fault, entered_fault, level_fault}
use Rattle.clap.specs.Words.{matches_of}
use Rattle.ps_args.specs.Given.{Given, given, nothing_given, value_of}
use Rattle.ps_args.specs.Words.{area_given, pages_alone, pages_given, run_given, run_of, run_options, run_with, turns_given, words_of}
use Rattle.ps_args.specs.Simple.{of_format, of_run, pages_read, read_by, run_read, without_fault}
use Rattle.ps_args.proofs.ClapRules.{AreUtf8, all_seen, first_seen, rules_for}
use Rattle.ps_args.proofs.GivenLemmas.{Agrees, IsName, Shows, missing, own_seen, pair, shape_for, total}
use Rattle.ps_args.proofs.GivenWalk.{read_as_given}

pub are_utf8 : (words : List (String Global)) → AreUtf8 (words_of words)
are_utf8 [] = tt
are_utf8 (word ∷ words) = (IsUtf8-string_bytes word, are_utf8 words)

module _ (name : Text) (names : List Text) (own : Text) where
  abbrev app : App
  app = record { top = shape_for name names own; subs = [] }

  none_entered : (o : Option (Text × List Text)) → entered app o ≡ None
  none_entered None = refl
  none_entered (Some p) = refl

  no_fault_below : (o : Option (Text × List Text)) → entered_fault app o ≡ []
  no_fault_below None = refl
  no_fault_below (Some p) = refl

  fault_total : (words : List Text) → built_fault app nothing_held words ≡ total name names own (walk_from nothing_held) words
  fault_total words =
      ap₂ (λ (e : Option (Text × List Row)) (f : Kinds). level_fault (shape_for name names own) [] nothing_held words (is_some e) f)
      (none_entered (fold (walked (rules_for names own) []) (walk_from nothing_held) words).stopped) (no_fault_below (fold (walked (rules_for names own) []) (walk_from nothing_held) words).stopped)

  -- what is made of the rows is what is made of what was given
  same_made : {A : Type 0} (of_rows : List Row → Option A) (of_given : Given → Option A) → ((g : Given) → g.own ≡ [] → of_given g ≡ None)
      → ((rows : List Row) (g : Given) → Shows name names own rows g → of_rows rows ≡ of_given g)
      → (o : Option Given) (kinds : Kinds) (rows : List Row) → Agrees name names own o kinds rows → option_and_then of_rows (without_fault kinds rows) ≡ option_and_then of_given o
  same_made of_rows of_given empty full None kinds rows fails = ap (λ (ks : Kinds). option_and_then of_rows (without_fault ks rows)) fails.are
  same_made of_rows of_given empty full (Some g) kinds rows agrees = go g.own refl
    where
      go : (words : List Text) → g.own ≡ words → option_and_then of_rows (without_fault kinds rows) ≡ of_given g
      go [] none = ap (λ (ks : Kinds). option_and_then of_rows (without_fault ks rows)) (agrees.1 ∙ ap missing none) ∙ sym (empty g none)
      go (word ∷ words) some = ap (λ (ks : Kinds). option_and_then of_rows (without_fault ks rows)) (agrees.1 ∙ ap missing some) ∙ full rows g agrees.0

  own_shown : (rows : List Row) (g : Given) → Shows name names own rows g → unwrap_or (all_of own rows) [] ≡ g.own
  own_shown rows g shows = ap (λ (o : Option (List Text)). unwrap_or o []) (all_seen own rows ∙ ap (option_map (λ (s : List Text × Bool). s.0)) shows.words) ∙ go g.own
    where
      go : (words : List Text) → unwrap_or (option_map (λ (s : List Text × Bool). s.0) (own_seen words)) [] ≡ words
      go [] = refl
      go (word ∷ words) = refl

  option_shown : (n : Text) → IsName name names own n → (rows : List Row) (g : Given) → Shows name names own rows g → first_of n rows ≡ value_of n g
  option_shown n is rows g shows = first_seen n rows ∙ ap (option_and_then (λ (s : List Text × Bool). slice_get s.0 0)) (shows.options n is) ∙ go (value_of n g)
    where
      go : (o : Option Text) → option_and_then (λ (s : List Text × Bool). slice_get s.0 0) (option_map pair o) ≡ o
      go None = refl
      go (Some v) = refl

-- ---- a run

abbrev Name : Text → Type 0
Name = IsName (codes "run") run_options (codes "file")

area_is : Name (codes "area")
area_is = record { by_id = refl; own_apart = refl; apart = refl }

turns_is : Name (codes "turns")
turns_is = record { by_id = refl; own_apart = refl; apart = refl }

input_is : Name (codes "input")
input_is = record { by_id = refl; own_apart = refl; apart = refl }

known : (x n : Text) → find (λ k. bytes_eq k x) run_options ≡ Some n → Name n
known x n is = go (bytes_eq (codes "area") x) (bytes_eq (codes "turns") x) (bytes_eq (codes "input") x) is
  where
    unwrap : (a b : Text) → Some a ≡ Some b → a ≡ b
    unwrap a b e = cc

    go : (a b d : Bool) → cond a (Some (codes "area")) (cond b (Some (codes "turns")) (cond d (Some (codes "input")) None)) ≡ Some n → Name n
    go true b d e = subst Name (unwrap (codes "area") n e) area_is
    go false true d e = subst Name (unwrap (codes "turns") n e) turns_is
    go false false true e = subst Name (unwrap (codes "input") n e) input_is
    go false false false e = absurd (cc)

no_run : (area turns : Option ℕ) (input : Option Text) → run_with area turns input [] ≡ None
no_run None turns input = refl
no_run (Some area) None input = refl
no_run (Some area) (Some turns) input = refl

pub run_is : (words : List Text) → AreUtf8 words → option_and_then run_read (read_by of_run words) ≡ run_of words
run_is words utf8 =
    ap (λ (ks : Kinds). option_and_then run_read (without_fault ks (matches_of of_run words))) (fault_total (codes "run") run_options (codes "file") words)
    ∙ same_made (codes "run") run_options (codes "file") run_read run_given
    (λ g none. ap (run_with (area_given (value_of (codes "area") g)) (turns_given (value_of (codes "turns") g)) (value_of (codes "input") g)) none
    ∙ no_run (area_given (value_of (codes "area") g)) (turns_given (value_of (codes "turns") g)) (value_of (codes "input") g))
    (λ rows g shows. λ i. run_with (area_given (option_shown (codes "run") run_options (codes "file") (codes "area") area_is rows g shows i))
    (turns_given (option_shown (codes "run") run_options (codes "file") (codes "turns") turns_is rows g shows i)) (option_shown (codes "run") run_options (codes "file") (codes "input") input_is rows g shows i)
    (own_shown (codes "run") run_options (codes "file") rows g shows i))
    (given run_options words None nothing_given) (total (codes "run") run_options (codes "file") (walk_from nothing_held) words) (matches_of of_run words)
    (read_as_given (codes "run") run_options (codes "file") refl known words utf8)

-- ---- a new volume

pub pages_are : (words : List Text) → AreUtf8 words → option_and_then pages_read (read_by of_format words) ≡ pages_given words
pages_are words utf8 =
    ap (λ (ks : Kinds). option_and_then pages_read (without_fault ks (matches_of of_format words))) (fault_total (codes "format") [] (codes "pages") words)
    ∙ same_made (codes "format") [] (codes "pages") pages_read (λ g. pages_alone g.own) (λ g none. ap pages_alone none)
    (λ rows g shows. ap pages_alone (own_shown (codes "format") [] (codes "pages") rows g shows))
    (given [] words None nothing_given) (total (codes "format") [] (codes "pages") (walk_from nothing_held) words) (matches_of of_format words)
    (read_as_given (codes "format") [] (codes "pages") refl (λ x n is. absurd (cc)) words utf8)
