-- What a put of a host tells, in the words of the store.
use Rattle.std.proofs.Common.{◌≡◌, ℕ, List}
use Rattle.std.specs.Prelude.{Result, Ok}
use Rattle.ps_port.specs.Telling.{TellsAll}
use Rattle.obj_layout.specs.ps_outside.Outside.{Outside, TellsPrefix, ToldAll, IsPutCall}
use Rattle.obj_layout.specs.Storing.{Puts}
use Rattle.no_store.specs.NoObjects.{outside_of}
use Rattle.no_store.proofs.HoldingLaws.{images-left}

module _ (a b : Outside (List ℕ)) (bytes : List ℕ) where
  -- all of it was told
  pub puts-all : {T U E : Type 0} (done : T) (r : Result U E) → TellsPrefix a b bytes → ToldAll a b bytes → b.output_faults ≡ a.output_faults → IsPutCall a b r →
      Puts {T = T} (outside_of a) (outside_of b) bytes (Ok done)
  puts-all done r front all calm call = record {
    told = front;
    all = all;
    images = images-left a b call.images;
    contents = record { kept = λ x is. is; no_other = λ x is. is };
    counts = call.counts;
    calm = calm;
    device = λ i. 0;
    cause = λ e. absurd (cc);
    other = λ e. cc;
    calls = λ i. 0;
  }

  -- and back
  pub all-put : {T : Type 0} (done : T) → Puts {T = T} (outside_of a) (outside_of b) bytes (Ok done) → TellsAll a b bytes
  all-put done is = record { front = is.told; all = is.all; calm = is.calm }
