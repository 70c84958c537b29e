-- What `clap` read, or why it read nothing.
use Rattle.std.proofs.Common.{◌≡◌, ◌≢◌, inl, inr, refl, sym, ap, ◌∙◌, subst, List, [], ◌∷◌, Option, Some, None}
use Rattle.std.specs.Prelude.{Result, Err, option_and_then}
use Rattle.clap.specs.Words.{App, HasKind, IsAmong, Kinds, Row, Text, fault_of, kind_of, matches_of}
use Rattle.clap.specs.declared.error.Error.{Error}
use Rattle.clap.specs.declared.error.kind.ErrorKind.{ErrorKind}
use Rattle.clap.specs.declared.error.kind.ErrorKind.TheVariants.{OutOfMemory}
use Rattle.ps_args.specs.Simple.{read_by, without_fault}
use Rattle.ps_args.specs.Reading.{ReadsAs, rows_in}
use Rattle.ps_args.specs.declared.words.ArgsFault.{ArgsFault}
use Rattle.ps_args.specs.declared.words.ArgsFault.TheVariants.{Usage, Memory}

-- no fault comes, so these entries were read
pub read_whole : (command : App) (words : List Text) (rows : List Row) → fault_of command words ≡ [] → rows ≡ matches_of command words → read_by command words ≡ Some rows
read_whole command words rows none is = ap (λ (ks : Kinds). without_fault ks (matches_of command words)) none ∙ ap Some (sym is)

-- one comes, so nothing is read
none_among : (kind : ErrorKind) (kinds : Kinds) (rows : List Row) → IsAmong kind kinds → without_fault kinds rows ≡ None
none_among kind [] rows is = absurd is
none_among kind (k ∷ ks) rows is = refl

pub read_failed : (command : App) (words : List Text) (error : Error) (fault : ArgsFault) → HasKind (fault_of command words) error → (fault ≡ Usage → kind_of error ≢ OutOfMemory)
    → ReadsAs rows_in (read_by command words) (Err fault)
read_failed command words error Memory has other = tt
read_failed command words error Usage (inl memory) other = absurd (other refl memory)
read_failed command words error Usage (inr among) other = none_among (kind_of error) (fault_of command words) (matches_of command words) among

-- what is made of the entries that were read
module _ {A B : Type 0} (sense : A → B) (of_rows : List Row → Option B) (asked : Option B) (read : Option (List Row)) (is : option_and_then of_rows read ≡ asked) where
  pub made_of_read : (rows : List Row) (made : Result A ArgsFault) → read ≡ Some rows → ReadsAs sense (of_rows rows) made → ReadsAs sense asked made
  made_of_read rows made whole reads = subst (λ (a : Option B). ReadsAs sense a made) (sym (ap (option_and_then of_rows) whole) ∙ is) reads

  pub made_of_none : (fault : ArgsFault) → ReadsAs rows_in read (Err fault) → ReadsAs sense asked (Err fault)
  made_of_none Memory reads = tt
  made_of_none Usage none = sym is ∙ ap (option_and_then of_rows) none
