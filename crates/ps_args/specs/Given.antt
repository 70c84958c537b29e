-- The words behind the volume, one by one: each is an option, the value of the option before it, or a word of its own.
use Rattle.std.specs.Prelude.{ℕ, Bool, ◌||◌, List, [], ◌∷◌, ◌++◌, Option, Some, None, find, is_some, option_map, option_and_then, codes, if◌then◌else◌}
use Rattle.std.specs.Str.{bytes_eq}
use Rattle.clap.specs.Lexer.{long_of, short_of}

-- what was given so far: the options with their values, and the words that are none
pub record Given : Type 0 where
  pub options : List (List ℕ × List ℕ)
  pub own : List (List ℕ)

abbrev pub nothing_given : Given
nothing_given = record { options = []; own = [] }

abbrev pub value_of : List ℕ → Given → Option (List ℕ)
value_of name given = option_map (λ o. o.1) (find (λ o. bytes_eq o.0 name) given.options)

-- one more option: none is given twice
abbrev pub with_option : List ℕ → List ℕ → Given → Option Given
with_option name value given = if is_some (value_of name given) then None else Some (record given { options = (name, value) ∷ given.options })

abbrev pub with_words : List (List ℕ) → Given → Given
with_words words given = record given { own = given.own ++ words }

-- the word behind which no word is an option
abbrev pub dashes : List ℕ
dashes = codes "--"

-- a word that begins with `-`, with more behind it
abbrev pub is_flag : List ℕ → Bool
is_flag word = bytes_eq word dashes || (is_some (long_of word) || is_some (short_of word))

-- `--name` or `--name=value`, where that is one of the options: its name, and the value where it stands in the word
abbrev pub option_named : List (List ℕ) → List ℕ × Option (List ℕ) → Option (List ℕ × Option (List ℕ))
option_named names (name, value) = option_map (λ own. (own, value)) (find (λ own. bytes_eq own name) names)

-- an option without a value in the word takes the next word
abbrev pub option_given : Option (List ℕ × Option (List ℕ)) → Given → (Option (List ℕ) → Given → Option Given) → Option Given
option_given None so_far next = None
option_given (Some (name, Some value)) so_far next = option_and_then (next None) (with_option name value so_far)
option_given (Some (name, None)) so_far next = next (Some name) so_far

-- no short option is there
abbrev pub own_given : Option (List ℕ) → List ℕ → Given → (Option (List ℕ) → Given → Option Given) → Option Given
own_given (Some flags) word so_far next = None
own_given None word so_far next = next None (with_words (word ∷ []) so_far)

abbrev pub word_given : List (List ℕ) → Option (List ℕ × Option (List ℕ)) → List ℕ → Given → (Option (List ℕ) → Given → Option Given) → Option Given
word_given names (Some option) word so_far next = option_given (option_named names option) so_far next
word_given names None word so_far next = own_given (short_of word) word so_far next

-- what is given in all, with these options, where the value of the option `waiting` is the next word
abbrev pub given : List (List ℕ) → List (List ℕ) → Option (List ℕ) → Given → Option Given
given names [] None so_far = Some so_far
given names [] (Some name) so_far = None
given names (word ∷ words) (Some name) so_far =
    if is_flag word then None else option_and_then (given names words None) (with_option name word so_far)
given names (word ∷ words) None so_far =
    if bytes_eq word dashes then Some (with_words words so_far) else word_given names (long_of word) word so_far (given names words)
