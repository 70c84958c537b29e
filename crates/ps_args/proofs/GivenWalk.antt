-- The walk of `clap` over all words behind the volume: it takes them where `given` says what is given, and shows that.
use Rattle.std.proofs.Common.{◌≡◌, ◌∙◌, ◌||◌, Bool, cond, true, false, refl, sym, ap, subst, List, [], ◌∷◌, Option, Some, None, true≢false}
use Rattle.std.specs.Prelude.{find, is_some, nat_lt, option_map, option_and_then}
use Rattle.std.specs.Option.{option_map_or}
use Rattle.std.specs.Str.{IsUtf8, bytes_eq}
use Rattle.std.proofs.lemmas.Slice.Eq.{bytes_eq-Decides}
use Rattle.clap.specs.Lexer.{long_of, short_of}
use Rattle.clap.specs.Walk.{Held, Row, Rule, Text, Waiting, idle, option, positional, next, trailing, value, arg_by_id, arg_by_long, nothing_held, option_word, plain_word, pushed, settled, used, used_by_id, walk_from, word_met}
use Rattle.clap.specs.Faults.{long_fault, settle_fault, use_fault}
use Rattle.clap.specs.Kinds.{Kinds, or_else}
use Rattle.clap.specs.declared.error.kind.ErrorKind.TheVariants.{ArgumentConflict, InvalidValue, UnknownArgument}
use Rattle.ps_args.specs.Given.{Given, dashes, given, nothing_given, option_given, own_given, value_of, with_option, with_words, word_given}
use Rattle.ps_args.proofs.ClapRules.{AreUtf8, by_long, opt, option_again, option_fits, pos, rules_for, short_refused}
use Rattle.ps_args.proofs.GivenLemmas.{Fails, stands_at, Agrees, AgreesAt, IsCalm, IsName, Shows, Stands, at_end, behind, dashes_fault, dashes_go, dashes_met, doomed_behind, end_fails, ends, fault_by, first_fails, found, has_none, long_fault_is, long_is_met, option_shows, own_stands, own_step, own_walk, plain_fault, plain_met, short_fault_is, total, turn_fails, turn_goes, walked_by}

module _ (name : Text) (names : List Text) (own : Text) where
  abbrev c : List Rule
  c = rules_for names own

  -- ---- an option whose value is missing, or that is given twice

  long_fails : (h : Held) (o : Option Text) (v : Option Text) → Fails (settle_fault c false h) → Fails (long_fault c false (option_map opt o) v h)
  long_fails h None v fails = record { kind = UnknownArgument; kinds_left = []; are = refl }
  long_fails h (Some n) (Some v) fails = record { kind = fails.kind; kinds_left = _; are = ap (λ (k : Kinds). or_else k (use_fault false (opt n) (v ∷ []) (settled c h).rows)) fails.are }
  long_fails h (Some n) None fails = fails

  -- a word that is a flag, where what waits fails
  module _ (h : Held) (waiting : Waiting) (word : Text) (words : List Text) (utf8 : IsUtf8 word) (skip : h.skip ≡ 0) where
    short_goes_wrong : (flags : Text) → bytes_eq word dashes ≡ false → long_of word ≡ None → short_of word ≡ Some flags → Fails (total name names own (stands_at h waiting false) (word ∷ words))
    short_goes_wrong flags other no_long short =
        turn_fails name names own (stands_at h waiting false) word words
        (first_fails name names own h waiting word (record { kind = UnknownArgument; kinds_left = []; are = short_fault_is name names own h waiting word other no_long flags short ∙ short_refused names own h word flags utf8 short skip }))

    flag_fails : Fails (settle_fault c false h) → (b : Bool) (l : Option (Text × Option Text)) (f : Option Text) → bytes_eq word dashes ≡ b → long_of word ≡ l → short_of word ≡ f
        → (b || (is_some l || is_some f)) ≡ true → Fails (total name names own (stands_at h waiting false) (word ∷ words))
    flag_fails fails true l f is long short flag = turn_goes name names own (stands_at h waiting false) (stands_at h waiting true) word words None
        (fault_by name names own h waiting word [] h (trailing 1) (dashes_fault name names own h waiting word is) (dashes_met name names own h waiting word is)) (walked_by name names own h waiting word h (trailing 1) (dashes_met name names own h waiting word is))
        (doomed_behind name names own words h waiting fails)
    flag_fails fails false (Some (n, v)) f other long short flag =
        let failing = long_fails h (find (λ m. bytes_eq m n) names) v fails in
        turn_fails name names own (stands_at h waiting false) word words (first_fails name names own h waiting word (record {
          kind = failing.kind;
          kinds_left = failing.kinds_left;
          are = long_fault_is name names own h waiting word other n v long (option_map opt (find (λ m. bytes_eq m n) names)) (by_long names own n) ∙ failing.are;
        }))
    flag_fails fails false None (Some flags) other long short flag = short_goes_wrong flags other long short
    flag_fails fails false None None other long short flag = absurd (true≢false (sym flag))

    -- and any word
    word_fails : IsCalm name names own waiting → Fails (settle_fault c false h) → (b : Bool) (l : Option (Text × Option Text)) (f : Option Text) → bytes_eq word dashes ≡ b → long_of word ≡ l → short_of word ≡ f
        → Fails (total name names own (stands_at h waiting false) (word ∷ words))
    word_fails calm fails true l f is long short = flag_fails fails true l f is long short refl
    word_fails calm fails false (Some o) f other long short = flag_fails fails false (Some o) f other long short refl
    word_fails calm fails false None (Some flags) other long short = short_goes_wrong flags other long short
    word_fails calm fails false None None other long short = turn_fails name names own (stands_at h waiting false) word words (record {
      kind = fails.kind;
      kinds_left = fails.kinds_left;
      are = fault_by name names own h waiting word [] h value (plain_fault name names own h waiting word other long short) (plain_met name names own h waiting word other long short ∙ calm word h) ∙ own_step name names own h ∙ fails.are;
    })

  doomed : (words : List Text) (h : Held) (waiting : Waiting) → AreUtf8 words → IsCalm name names own waiting → h.skip ≡ 0 → Fails (settle_fault c false h) → Fails (total name names own (stands_at h waiting false) words)
  doomed [] h waiting utf8 calm skip fails = end_fails name names own (stands_at h waiting false) fails
  doomed (word ∷ words) h waiting utf8 calm skip fails = word_fails h waiting word words utf8.0 skip calm fails (bytes_eq word dashes) (long_of word) (short_of word) refl refl refl

  -- ---- all words

  module _ (own_id : arg_by_id c own ≡ Some (pos own)) (known : (x n : Text) → find (λ k. bytes_eq k x) names ≡ Some n → IsName name names own n) where
    -- where the walk waits for nothing, and where it waits for the value of an option
    abbrev Both : List Text → Type 0
    Both words = ((h : Held) (g : Given) (waiting : Waiting) → IsCalm name names own waiting → Stands name names own h g → AgreesAt name names own (given names words None g) (stands_at h waiting false) words)
        × ((h : Held) (g : Given) (n : Text) → IsName name names own n → h.pending ≡ Some (n, []) → h.skip ≡ 0 → Shows name names own h.rows g → AgreesAt name names own (given names words (Some n) g) (stands_at h (option n) false) words)

    waits_fails : (h : Held) (n : Text) → IsName name names own n → h.pending ≡ Some (n, []) → Fails (settle_fault c false h)
    waits_fails h n is waits = record {
      kind = InvalidValue;
      kinds_left = [];
      are = ap (λ (p : Option (Text × List Text)). option_map_or (λ q. option_map_or (λ a. use_fault false a q.1 h.rows) (arg_by_id c q.0) []) p []) waits
          ∙ ap (λ (o : Option Rule). option_map_or (λ a. use_fault false a [] h.rows) o []) is.by_id;
    }

    module _ (word : Text) (words : List Text) (utf8 : IsUtf8 word) (more : AreUtf8 words) (both : Both words) where
      -- the walk waits for nothing
      module _ (h : Held) (g : Given) (waiting : Waiting) (calm : IsCalm name names own waiting) (st : Stands name names own h g) where
        abbrev Here : Option Given → Type 0
        Here o = AgreesAt name names own o (stands_at h waiting false) (word ∷ words)

        module _ (other : bytes_eq word dashes ≡ false) (x : Text) where
          with_value : (n v : Text) → IsName name names own n → long_of word ≡ Some (x, Some v) → arg_by_long c x ≡ Some (opt n) → (o : Option Text) → value_of n g ≡ o
              → Here (option_and_then (given names words None) (cond (is_some o) None (Some (record g { options = (n, v) ∷ g.options }))))
          with_value n v is long by None none =
              let after : Held = record h { rows = used (opt n) (v ∷ []) (settled c h).rows; pending = None } in
              let met : word_met c [] false waiting 1 word h ≡ (after, next idle) = long_is_met name names own h waiting word other x (Some v) long (Some (opt n)) by in
              turn_goes name names own (stands_at h waiting false) (stands_at after idle false) word words (given names words None (record g { options = (n, v) ∷ g.options }))
              (fault_by name names own h waiting word [] after (next idle) (long_fault_is name names own h waiting word other x (Some v) long (Some (opt n)) by
              ∙ ap (λ (k : Kinds). or_else k (use_fault false (opt n) (v ∷ []) (settled c h).rows)) st.calm
              ∙ option_fits n v (settled c h).rows (has_none name names own (settled c h).rows g n is st.shows None none)) met)
              (walked_by name names own h waiting word after (next idle) met)
              (both.0 after (record g { options = (n, v) ∷ g.options }) idle (λ w k. refl) (record { calm = refl; skip = st.skip; shows = option_shows name names own (settled c h).rows g n v is none st.shows }))
          with_value n v is long by (Some y) some = turn_fails name names own (stands_at h waiting false) word words (first_fails name names own h waiting word (record {
            kind = ArgumentConflict;
            kinds_left = [];
            are = long_fault_is name names own h waiting word other x (Some v) long (Some (opt n)) by
                ∙ ap (λ (k : Kinds). or_else k (use_fault false (opt n) (v ∷ []) (settled c h).rows)) st.calm
                ∙ option_again n v (settled c h).rows (has_none name names own (settled c h).rows g n is st.shows (Some y) some);
          }))

          without_value : (n : Text) → IsName name names own n → long_of word ≡ Some (x, None) → arg_by_long c x ≡ Some (opt n) → Here (given names words (Some n) g)
          without_value n is long by =
              let after : Held = record (settled c h) { pending = Some (n, []) } in
              let met : word_met c [] false waiting 1 word h ≡ (after, next (option n)) = long_is_met name names own h waiting word other x None long (Some (opt n)) by in
              turn_goes name names own (stands_at h waiting false) (stands_at after (option n) false) word words (given names words (Some n) g)
              (fault_by name names own h waiting word [] after (next (option n)) (long_fault_is name names own h waiting word other x None long (Some (opt n)) by ∙ st.calm) met)
              (walked_by name names own h waiting word after (next (option n)) met) (both.1 after g n is refl st.skip st.shows)

          long_agrees : (v f : Option Text) → long_of word ≡ Some (x, v) → find (λ k. bytes_eq k x) names ≡ f → Here (option_given (option_map (λ n. (n, v)) f) g (given names words))
          long_agrees v None long none = turn_fails name names own (stands_at h waiting false) word words (first_fails name names own h waiting word (record {
            kind = UnknownArgument;
            kinds_left = [];
            are = long_fault_is name names own h waiting word other x v long None (by_long names own x ∙ ap (option_map opt) none);
          }))
          long_agrees (Some v) (Some n) long is = with_value n v (known x n is) long (by_long names own x ∙ ap (option_map opt) is) (value_of n g) refl
          long_agrees None (Some n) long is = without_value n (known x n is) long (by_long names own x ∙ ap (option_map opt) is)

        own_agrees : bytes_eq word dashes ≡ false → long_of word ≡ None → (f : Option Text) → short_of word ≡ f → Here (own_given f word g (given names words))
        own_agrees other no_long (Some flags) short = short_goes_wrong h waiting word words utf8 st.skip flags other no_long short
        own_agrees other no_long None no_short =
            let met : word_met c [] false waiting 1 word h ≡ (h, value) = plain_met name names own h waiting word other no_long no_short ∙ calm word h in
            turn_goes name names own (stands_at h waiting false) (stands_at (pushed own word (settled c h)) positional false) word words (given names words None (with_words (word ∷ []) g))
            (fault_by name names own h waiting word [] h value (plain_fault name names own h waiting word other no_long no_short) met ∙ own_step name names own h ∙ st.calm) (walked_by name names own h waiting word h value met ∙ own_walk name names own h waiting false word)
            (both.0 (pushed own word (settled c h)) (with_words (word ∷ []) g) positional (λ w k. refl) (own_stands name names own own_id h g word st))

        other_agrees : bytes_eq word dashes ≡ false → (l : Option (Text × Option Text)) → long_of word ≡ l → Here (word_given names l word g (given names words))
        other_agrees other (Some (x, v)) long = long_agrees other x v (find (λ k. bytes_eq k x) names) long refl
        other_agrees other None no_long = own_agrees other no_long (short_of word) refl

        word_agrees : (b : Bool) → bytes_eq word dashes ≡ b → Here (cond b (Some (with_words words g)) (word_given names (long_of word) word g (given names words)))
        word_agrees true is = dashes_go name names own h waiting word is words (Some (with_words words g)) (behind name names own own_id words h g waiting st)
        word_agrees false other = other_agrees other (long_of word) refl

      -- it waits for a value
      module _ (h : Held) (g : Given) (n : Text) (is : IsName name names own n) (waits : h.pending ≡ Some (n, [])) (skip : h.skip ≡ 0) (shows : Shows name names own h.rows g) where
        abbrev taken : Held
        taken = record h { pending = Some (n, word ∷ []) }

        value_met : plain_word c (option n) word h ≡ (taken, next idle)
        value_met = ap (λ (o : Option Rule). ((option_word o n word h).0, next (option_word o n word h).1)) is.by_id
            ∙ ap (λ (p : Option (Text × List Text)). ((option_word (Some (opt n)) n word (record h { pending = p })).0, next (option_word (Some (opt n)) n word (record h { pending = p })).1)) waits
            ∙ ap (λ (b : Bool). (taken, next (cond (nat_lt (cond b 1 0) 1) (option n) idle))) ((bytes_eq-Decides n n).1 refl)

        taken_agrees : bytes_eq word dashes ≡ false → long_of word ≡ None → short_of word ≡ None → (o : Option Text) → value_of n g ≡ o
            → AgreesAt name names own (option_and_then (given names words None) (cond (is_some o) None (Some (record g { options = (n, word) ∷ g.options })))) (stands_at h (option n) false) (word ∷ words)
        taken_agrees other no_long no_short o e = turn_goes name names own (stands_at h (option n) false) (stands_at taken idle false) word words _
            (fault_by name names own h (option n) word [] taken (next idle) (plain_fault name names own h (option n) word other no_long no_short) met) (walked_by name names own h (option n) word taken (next idle) met) (go o e)
          where
            met : word_met c [] false (option n) 1 word h ≡ (taken, next idle)
            met = plain_met name names own h (option n) word other no_long no_short ∙ value_met

            used_is : settle_fault c false taken ≡ use_fault false (opt n) (word ∷ []) h.rows
            used_is = ap (λ (r : Option Rule). option_map_or (λ a. use_fault false a (word ∷ []) h.rows) r []) is.by_id

            go : (o : Option Text) → value_of n g ≡ o → AgreesAt name names own (option_and_then (given names words None) (cond (is_some o) None (Some (record g { options = (n, word) ∷ g.options })))) (stands_at taken idle false) words
            go None none = both.0 taken (record g { options = (n, word) ∷ g.options }) idle (λ w k. refl) (record {
              calm = used_is ∙ option_fits n word h.rows (has_none name names own h.rows g n is shows None none);
              skip = skip;
              shows = subst (λ (rows : List Row). Shows name names own rows (record g { options = (n, word) ∷ g.options })) (sym (ap (λ (r : Option Rule). used_by_id r (word ∷ []) h.rows) is.by_id))
                  (option_shows name names own h.rows g n word is none shows);
            })
            go (Some y) some = doomed words taken idle more (λ w k. refl) skip (record { kind = ArgumentConflict; kinds_left = []; are = used_is ∙ option_again n word h.rows (has_none name names own h.rows g n is shows (Some y) some) })

        value_agrees : (b : Bool) (l : Option (Text × Option Text)) (f : Option Text) → bytes_eq word dashes ≡ b → long_of word ≡ l → short_of word ≡ f
            → AgreesAt name names own (cond (b || (is_some l || is_some f)) None (option_and_then (given names words None) (with_option n word g))) (stands_at h (option n) false) (word ∷ words)
        value_agrees true l f dash long short = flag_fails h (option n) word words utf8 skip (waits_fails h n is waits) true l f dash long short refl
        value_agrees false (Some l) f dash long short = flag_fails h (option n) word words utf8 skip (waits_fails h n is waits) false (Some l) f dash long short refl
        value_agrees false None (Some f) dash long short = flag_fails h (option n) word words utf8 skip (waits_fails h n is waits) false None (Some f) dash long short refl
        value_agrees false None None dash long short = taken_agrees dash long short (value_of n g) refl

    both_of : (words : List Text) → AreUtf8 words → Both words
    both_of [] utf8 = (
      λ h g waiting calm st. at_end name names own (stands_at h waiting false) (Some g) (ends name names own h g st),
      λ h g n is waits skip shows. end_fails name names own (stands_at h (option n) false) (waits_fails h n is waits),
    )
    both_of (word ∷ words) utf8 = (
      λ h g waiting calm st. word_agrees word words utf8.0 utf8.1 (both_of words utf8.1) h g waiting calm st (bytes_eq word dashes) refl,
      λ h g n is waits skip shows. value_agrees word words utf8.0 utf8.1 (both_of words utf8.1) h g n is waits skip shows (bytes_eq word dashes) (long_of word) (short_of word) refl refl refl,
    )

    -- `clap` takes the words and shows what is given of them, or refuses them
    pub read_as_given : (words : List Text) → AreUtf8 words → Agrees name names own (given names words None nothing_given) (total name names own (walk_from nothing_held) words) (found name names own (walk_from nothing_held) words)
    read_as_given words utf8 =
        (both_of words utf8).0 nothing_held nothing_given idle (λ w k. refl) (record { calm = refl; skip = refl; shows = record { options = λ n is. refl; words = refl } })
