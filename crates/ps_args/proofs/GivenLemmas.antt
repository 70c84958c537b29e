-- What `clap` reads of the words behind the volume, by a simple command of options and of words of its own, is what `given` says.
use Rattle.std.proofs.Common.{◌≡◌, ◌∙◌, ◌&&◌, ◌||◌, Bool, cond, true, false, refl, sym, ap, ap₂, subst, List, [], ◌∷◌, ◌++◌, Option, Some, None, append-nil, append_assoc}
use Rattle.std.specs.Prelude.{find, fold, is_some, not, unwrap_or, option_map}
use Rattle.std.specs.List.{list_any}
use Rattle.std.specs.Option.{option_map_or}
use Rattle.std.specs.Str.{bytes_eq}
use Rattle.std.proofs.lemmas.Slice.Eq.{bytes_eq-Decides}
use Rattle.clap.specs.Lexer.{long_of, short_of}
use Rattle.clap.specs.Walk.{Held, Row, Rule, Step, Text, Waiting, Walk, idle, option, positional, trailing, value, after_flag, after_step, arg_by_id, arg_by_long, finished, has_row, is_pending, long_met, long_or_other, plain_word, positional_held, pushed, reading_by, settled, short_or_plain, subcommand_met, subcommand_or_other, to_positional, used, used_by_id, walked, with_values, word_met}
use Rattle.clap.specs.Simple.{Shape, new_shape}
use Rattle.clap.specs.Takes.{is_given}
use Rattle.clap.specs.Faults.{bundle_fault, check_fault, defaults_fault, flag_word_fault, long_fault, other_fault, positional_fault, settle_fault, step_fault, stray_fault, turn_fault, use_fault, walk_fault, word_fault}
use Rattle.clap.specs.Kinds.{Kinds, or_else}
use Rattle.clap.specs.declared.error.kind.ErrorKind.{ErrorKind}
use Rattle.clap.specs.declared.error.kind.ErrorKind.TheVariants.{MissingRequiredArgument}
use Rattle.clap.specs.declared.parser.matches.ValueSource.TheVariants.{CommandLine}
use Rattle.clap.proofs.WalkLemmas.{walked_is}
use Rattle.ps_args.specs.Given.{Given, dashes, value_of, with_words}
use Rattle.ps_args.proofs.ClapRules.{by_index, given_seen, has_row_seen, no_default_fault, no_defaults, opt, option_once, pos, rules_for, seen, seen_other, seen_same}

abbrev pub shape_for : Text → List Text → Text → Shape
shape_for name names own = record (new_shape name) { rules = rules_for names own; no_binary_name = true; disable_help_flag = true; disable_help_subcommand = true; is_built = true }

abbrev pub stands_at : Held → Waiting → Bool → Walk
stands_at h waiting is_trailing = record { held = h; waiting = waiting; position = 1; is_trailing = is_trailing; stopped = None }

no_sub : (waiting : Waiting) (word : Text) → subcommand_met [] waiting word ≡ None
no_sub idle word = refl
no_sub (option id) word = refl
no_sub positional word = refl

and_false : (b : Bool) → (b && false) ≡ false
and_false true = refl
and_false false = refl

or_false : (b : Bool) → (b || false) ≡ b
or_false true = refl
or_false false = refl

abbrev pub own_seen : List Text → Option (List Text × Bool)
own_seen [] = None
own_seen (word ∷ words) = Some (word ∷ words, true)

-- the value of an option, as it is seen
abbrev pub pair : Text → List Text × Bool
pair v = (v ∷ [], true)

own_more : (words : List Text) (word : Text) → Some (unwrap_or (option_map (λ s. s.0) (own_seen words)) [] ++ word ∷ [], true) ≡ own_seen (words ++ word ∷ [])
own_more [] word = refl
own_more (w ∷ ws) word = refl

-- at least one word of its own is wanted
abbrev pub missing : List Text → Kinds
missing [] = MissingRequiredArgument ∷ []
missing (word ∷ words) = []

-- some kind of fault comes
pub record Fails (kinds : Kinds) : Type 0 where
  pub kind : ErrorKind
  pub kinds_left : Kinds
  pub are : kinds ≡ kind ∷ kinds_left

module _ (name : Text) (names : List Text) (own : Text) where
  abbrev s : Shape
  s = shape_for name names own

  abbrev c : List Rule
  c = rules_for names own

  pub record IsName (n : Text) : Type 0 where
    pub by_id : arg_by_id c n ≡ Some (opt n)
    pub own_apart : bytes_eq own n ≡ false
    pub apart : bytes_eq n own ≡ false

  -- the rows show what was given
  pub record Shows (rows : List Row) (g : Given) : Type 0 where
    pub options : (n : Text) → IsName n → seen n rows ≡ option_map pair (value_of n g)
    pub words : seen own rows ≡ own_seen g.own

  -- and so do those of the walk, with what waits to be used
  pub record Stands (h : Held) (g : Given) : Type 0 where
    pub calm : settle_fault c false h ≡ []
    pub skip : h.skip ≡ 0
    pub shows : Shows (settled c h).rows g

  -- the walk waits for no value of an option
  abbrev pub IsCalm : Waiting → Type 0
  IsCalm waiting = (word : Text) (h : Held) → plain_word c waiting word h ≡ (h, value)

  abbrev end_fault : Held → Kinds
  end_fault h = or_else (settle_fault c false h) (or_else (defaults_fault (settled c h).rows c) (check_fault s (finished c h) false))

  abbrev pub total : Walk → List Text → Kinds
  total w words = or_else (walk_fault s [] w words) (end_fault (fold (walked c []) w words).held)

  abbrev pub found : Walk → List Text → List Row
  found w words = finished c (fold (walked c []) w words).held

  abbrev pub Agrees : Option Given → Kinds → List Row → Type 0
  Agrees None kinds rows = Fails kinds
  Agrees (Some g) kinds rows = Shows rows g × (kinds ≡ missing g.own)

  abbrev pub AgreesAt : Option Given → Walk → List Text → Type 0
  AgreesAt o w words = Agrees o (total w words) (found w words)

  -- ---- one word

  pub turn_fails : (w : Walk) (word : Text) (words : List Text) → Fails (turn_fault s [] w word) → Fails (total w (word ∷ words))
  unfolding walk_fault
  turn_fails w word words fails = record {
    kind = fails.kind;
    kinds_left = _;
    are = ap (λ (t : Kinds). or_else (or_else t (walk_fault s [] (walked c [] w word) words)) (end_fault (fold (walked c []) (walked c [] w word) words).held)) fails.are;
  }

  pub turn_goes : (w after : Walk) (word : Text) (words : List Text) (o : Option Given) → turn_fault s [] w word ≡ [] → walked c [] w word ≡ after → AgreesAt o after words → AgreesAt o w (word ∷ words)
  unfolding walk_fault
  turn_goes w after word words o none is agrees =
      subst (λ (t : Kinds). Agrees o (or_else (or_else t (walk_fault s [] (walked c [] w word) words)) (end_fault (fold (walked c []) (walked c [] w word) words).held)) (found (walked c [] w word) words)) (sym none)
      (subst (λ (x : Walk). AgreesAt o x words) (sym is) agrees)

  pub at_end : (w : Walk) (o : Option Given) → Agrees o (end_fault w.held) (finished c w.held) → AgreesAt o w []
  unfolding walk_fault
  at_end w o agrees = agrees

  module _ (h : Held) (waiting : Waiting) (word : Text) where
    pub walked_by : (after : Held) (step : Step) → word_met c [] false waiting 1 word h ≡ (after, step) → walked c [] (stands_at h waiting false) word ≡ after_step c word (stands_at h waiting false) after step
    walked_by after step met = sym (walked_is c [] (stands_at h waiting false) word after step (sym met))

    pub fault_by : (kinds : Kinds) (after : Held) (step : Step) → word_fault s [] false waiting word h ≡ kinds → word_met c [] false waiting 1 word h ≡ (after, step)
        → turn_fault s [] (stands_at h waiting false) word ≡ or_else kinds (step_fault s 1 after step)
    fault_by kinds after step fault met = ap₂ (λ (ks : Kinds) (m : Held × Step). or_else ks (step_fault s 1 m.0 m.1)) fault met

    pub first_fails : Fails (word_fault s [] false waiting word h) → Fails (turn_fault s [] (stands_at h waiting false) word)
    first_fails fails = record {
      kind = fails.kind;
      kinds_left = _;
      are = ap (λ (ks : Kinds). or_else ks (step_fault s 1 (word_met c [] false waiting 1 word h).0 (word_met c [] false waiting 1 word h).1)) fails.are;
    }

    -- the word `--`
    module _ (is : bytes_eq word dashes ≡ true) where
      pub dashes_met : word_met c [] false waiting 1 word h ≡ (h, trailing 1)
      dashes_met = ap (λ (o : Option Text). subcommand_or_other c o waiting 1 word h) (no_sub waiting word)
          ∙ ap (λ (b : Bool). cond b (h, trailing 1) (long_or_other c waiting word (long_of word) h)) is

      pub dashes_fault : word_fault s [] false waiting word h ≡ []
      dashes_fault = ap (λ (o : Option Text). other_fault s o word h) (no_sub waiting word) ∙ ap (λ (b : Bool). cond b [] (flag_word_fault c false (long_of word) word h)) is

      pub dashes_go : (words : List Text) (o : Option Given) → AgreesAt o (stands_at h waiting true) words → AgreesAt o (stands_at h waiting false) (word ∷ words)
      dashes_go words o agrees = turn_goes (stands_at h waiting false) (stands_at h waiting true) word words o (fault_by [] h (trailing 1) dashes_fault dashes_met) (walked_by h (trailing 1) dashes_met) agrees

    module _ (other : bytes_eq word dashes ≡ false) where
      other_met : word_met c [] false waiting 1 word h ≡ long_or_other c waiting word (long_of word) h
      other_met = ap (λ (o : Option Text). subcommand_or_other c o waiting 1 word h) (no_sub waiting word)
          ∙ ap (λ (b : Bool). cond b (h, trailing 1) (long_or_other c waiting word (long_of word) h)) other

      other_is : word_fault s [] false waiting word h ≡ flag_word_fault c false (long_of word) word h
      other_is = ap (λ (o : Option Text). other_fault s o word h) (no_sub waiting word) ∙ ap (λ (b : Bool). cond b [] (flag_word_fault c false (long_of word) word h)) other

      -- a word `--name` or `--name=value`
      module _ (n : Text) (v : Option Text) (long : long_of word ≡ Some (n, v)) (o : Option Rule) (by : arg_by_long c n ≡ o) where
        pub long_is_met : word_met c [] false waiting 1 word h ≡ after_flag c waiting word (long_met c o v h).0 (long_met c o v h).1
        long_is_met = other_met ∙ ap (λ (x : Option (Text × Option Text)). long_or_other c waiting word x h) long
            ∙ ap (λ (x : Option Rule). after_flag c waiting word (long_met c x v h).0 (long_met c x v h).1) by

        pub long_fault_is : word_fault s [] false waiting word h ≡ long_fault c false o v h
        long_fault_is = other_is ∙ ap (λ (x : Option (Text × Option Text)). flag_word_fault c false x word h) long ∙ ap (λ (x : Option Rule). long_fault c false x v h) by

      module _ (no_long : long_of word ≡ None) where
        pub short_fault_is : (flags : Text) → short_of word ≡ Some flags → word_fault s [] false waiting word h ≡ bundle_fault c false flags h
        short_fault_is flags short = other_is ∙ ap (λ (x : Option (Text × Option Text)). flag_word_fault c false x word h) no_long
            ∙ ap (λ (x : Option Text). option_map_or (λ fs. bundle_fault c false fs h) x []) short

        module _ (no_short : short_of word ≡ None) where
          pub plain_met : word_met c [] false waiting 1 word h ≡ plain_word c waiting word h
          plain_met = other_met ∙ ap (λ (x : Option (Text × Option Text)). long_or_other c waiting word x h) no_long
              ∙ ap (λ (x : Option Text). short_or_plain c waiting word x h) no_short

          pub plain_fault : word_fault s [] false waiting word h ≡ []
          plain_fault = other_is ∙ ap (λ (x : Option (Text × Option Text)). flag_word_fault c false x word h) no_long
              ∙ ap (λ (x : Option Text). option_map_or (λ fs. bundle_fault c false fs h) x []) no_short

  -- ---- a word of its own

  own_held : (h : Held) (word : Text) → positional_held c (pos own) word h ≡ pushed own word (settled c h)
  own_held h word = ap (λ (b : Bool). pushed own word (cond b h (settled c h))) (and_false (is_pending (pos own) h.pending))

  pub own_step : (h : Held) → step_fault s 1 h value ≡ settle_fault c false h
  own_step h = ap (λ (o : Option Rule). option_map_or (λ a. positional_fault c false a h) o (stray_fault s)) (by_index names own)
      ∙ ap (λ (b : Bool). cond b [] (settle_fault c false h)) (and_false (is_pending (pos own) h.pending))

  pub own_walk : (h : Held) (waiting : Waiting) (is_trailing : Bool) (word : Text)
      → after_step c word (stands_at h waiting is_trailing) h value ≡ stands_at (pushed own word (settled c h)) positional (is_trailing || false)
  own_walk h waiting is_trailing word = ap (λ (o : Option Rule). to_positional c o word (stands_at h waiting is_trailing) h) (by_index names own)
      ∙ ap (λ (x : Held). stands_at x positional (is_trailing || false)) (own_held h word)

  own_shows : (rows : List Row) (g : Given) (word : Text) → Shows rows g → Shows (used (pos own) (word ∷ []) rows) (with_words (word ∷ []) g)
  own_shows rows g word shows = record {
    options = λ n is. seen_other own n (reading_by (pos own)) (word ∷ []) rows is.own_apart ∙ shows.options n is;
    words = seen_same own (reading_by (pos own)) (word ∷ []) rows ∙ ap (λ (o : Option (List Text × Bool)). Some (unwrap_or (option_map (λ s. s.0) o) [] ++ word ∷ [], true)) shows.words ∙ own_more g.own word;
  }

  -- ---- an option

  pub has_none : (rows : List Row) (g : Given) (n : Text) → IsName n → Shows rows g → (o : Option Text) → value_of n g ≡ o → has_row n rows ≡ is_some o
  has_none rows g n is shows o e = has_row_seen n rows ∙ ap is_some (shows.options n is ∙ ap (option_map pair) e) ∙ some_is o
    where
      some_is : (o : Option Text) → is_some (option_map pair o) ≡ is_some o
      some_is None = refl
      some_is (Some v) = refl

  pub option_shows : (rows : List Row) (g : Given) (n v : Text) → IsName n → value_of n g ≡ None → Shows rows g → Shows (used (opt n) (v ∷ []) rows) (record g { options = (n, v) ∷ g.options })
  option_shows rows g n v is none shows = subst (λ (rs : List Row). Shows rs (record g { options = (n, v) ∷ g.options })) (sym (option_once n v rows (has_none rows g n is shows None none))) (record {
    options = λ m is_m. go m is_m (bytes_eq n m) refl;
    words = seen_other n own (reading_by (opt n)) (v ∷ []) rows is.apart ∙ shows.words;
  })
    where
      go : (m : Text) → IsName m → (b : Bool) → bytes_eq n m ≡ b
          → seen m (with_values n (reading_by (opt n)) CommandLine (v ∷ []) rows) ≡ option_map pair (option_map (λ (o : Text × Text). o.1) (cond b (Some (n, v)) (find (λ o. bytes_eq o.0 m) g.options)))
      go m is_m true e = subst (λ (x : Text). seen x (with_values n (reading_by (opt n)) CommandLine (v ∷ []) rows) ≡ Some (v ∷ [], true)) ((bytes_eq-Decides n m).0 e)
          (seen_same n (reading_by (opt n)) (v ∷ []) rows ∙ ap (λ (o : Option (List Text × Bool)). Some (unwrap_or (option_map (λ s. s.0) o) [] ++ v ∷ [], true)) (shows.options n is ∙ ap (option_map pair) none))
      go m is_m false e = seen_other n m (reading_by (opt n)) (v ∷ []) rows e ∙ shows.options m is_m

  -- ---- the end

  required_is : (ns : List Text) (rows : List Row) → list_any (λ (a : Rule). a.required && not (is_given a.id rows)) (rules_for ns own) ≡ not (is_given own rows)
  required_is [] rows = or_false (not (is_given own rows))
  required_is (n ∷ ns) rows = required_is ns rows

  is_missing : (words : List Text) → cond (not (option_map_or (λ (s : List Text × Bool). s.1) (own_seen words) false)) (MissingRequiredArgument ∷ []) [] ≡ missing words
  is_missing [] = refl
  is_missing (word ∷ words) = refl

  checked : (rows : List Row) (g : Given) → Shows rows g → check_fault s rows false ≡ missing g.own
  checked rows g shows = ap (λ (b : Bool). cond b (MissingRequiredArgument ∷ []) []) (required_is names rows)
      ∙ ap (λ (o : Bool). cond (not o) (MissingRequiredArgument ∷ []) []) (given_seen own rows)
      ∙ ap (λ (o : Option (List Text × Bool)). cond (not (option_map_or (λ s. s.1) o false)) (MissingRequiredArgument ∷ []) []) shows.words ∙ is_missing g.own

  pub ends : (h : Held) (g : Given) → Stands h g → Agrees (Some g) (end_fault h) (finished c h)
  ends h g st = (
    subst (λ (rows : List Row). Shows rows g) (sym (no_defaults names own (settled c h).rows)) st.shows,
    ap (λ (k : Kinds). or_else k (or_else (defaults_fault (settled c h).rows c) (check_fault s (finished c h) false))) st.calm
        ∙ ap (λ (k : Kinds). or_else k (check_fault s (finished c h) false)) (no_default_fault names own (settled c h).rows)
        ∙ ap (λ (rows : List Row). check_fault s rows false) (no_defaults names own (settled c h).rows) ∙ checked (settled c h).rows g st.shows,
  )

  pub end_fails : (w : Walk) → Fails (settle_fault c false w.held) → Fails (total w [])
  unfolding walk_fault
  end_fails w fails = record { kind = fails.kind; kinds_left = _; are = ap (λ (k : Kinds). or_else k (or_else (defaults_fault (settled c w.held).rows c) (check_fault s (finished c w.held) false))) fails.are }

  -- ---- behind `--`

  module _ (own_id : arg_by_id c own ≡ Some (pos own)) where
    pub own_stands : (h : Held) (g : Given) (word : Text) → Stands h g → Stands (pushed own word (settled c h)) (with_words (word ∷ []) g)
    own_stands h g word st = record {
      calm = ap (λ (o : Option Rule). option_map_or (λ a. use_fault false a (word ∷ []) (settled c h).rows) o []) own_id;
      skip = st.skip;
      shows = subst (λ (rows : List Row). Shows rows (with_words (word ∷ []) g)) (sym (ap (λ (o : Option Rule). used_by_id o (word ∷ []) (settled c h).rows) own_id)) (own_shows (settled c h).rows g word st.shows);
    }

    pub behind : (words : List Text) (h : Held) (g : Given) (waiting : Waiting) → Stands h g → AgreesAt (Some (with_words words g)) (stands_at h waiting true) words
    behind [] h g waiting st = at_end (stands_at h waiting true) (Some (with_words [] g))
        (subst (λ (x : List Text). Agrees (Some (record g { own = x })) (end_fault h) (finished c h)) (sym (append-nil g.own)) (ends h g st))
    behind (word ∷ words) h g waiting st =
        turn_goes (stands_at h waiting true) (stands_at (pushed own word (settled c h)) positional true) word words (Some (with_words (word ∷ words) g)) (own_step h ∙ st.calm)
        (sym (walked_is c [] (stands_at h waiting true) word h value refl) ∙ own_walk h waiting true word)
        (subst (λ (x : List Text). AgreesAt (Some (record g { own = x })) (stands_at (pushed own word (settled c h)) positional true) words) (append_assoc g.own (word ∷ []) words)
        (behind words (pushed own word (settled c h)) (with_words (word ∷ []) g) positional (own_stands h g word st)))

  pub doomed_behind : (words : List Text) (h : Held) (waiting : Waiting) → Fails (settle_fault c false h) → Fails (total (stands_at h waiting true) words)
  doomed_behind [] h waiting fails = end_fails (stands_at h waiting true) fails
  doomed_behind (word ∷ words) h waiting fails = turn_fails (stands_at h waiting true) word words (record { kind = fails.kind; kinds_left = fails.kinds_left; are = own_step h ∙ fails.are })
