-- How what is output in parts is told as a whole.
use Rattle.std.proofs.Common.{Bor, zero, suc, ◌+◌, ◌<◌, ◌≡◌, ℕ, ◌≤◌, ◌⊎◌, List, [], ◌∷◌, ◌++◌, length, drop, get_or, refl, sym, ◌∙◌, ap, subst, append_assoc, arith, ⊎_elim}
use Rattle.std.specs.Prelude.{Result, Ok, Err, IsErr, OnOk}
use Rattle.std.proofs.lemmas.List.{append-nil}
use Rattle.ps_outside.specs.Outside.{Outside, IsPrefix, Adds, AddsPrefix, TellsPrefix, ToldAll, IsPutCall, Rose}
use Rattle.ps_outside.proofs.Moments.{along_none, along_then, along_now}
use Rattle.ps_port.specs.declared.host.HostFailed.{HostFailed}
use Rattle.ps_port.specs.Telling.{joined, TellsAll, FailsAfter, TellsOrFails, LeavesDevice}

either : (m n : ℕ) → (m ≤ n) ⊎ (n ≤ m)
either m n = grind arith

-- a prefix of some of the whole is a prefix of the whole
front_more : (front some rest : List ℕ) → IsPrefix front some → IsPrefix front (some ++ rest)
front_more front some rest is = record { rest = is.rest ++ rest; whole_is = ap (λ (xs : List ℕ). xs ++ rest) is.whole_is ∙ append_assoc front is.rest rest }

-- after some, a prefix of the rest makes a prefix of the whole
front_behind : (done front rest : List ℕ) → IsPrefix front rest → IsPrefix (done ++ front) (done ++ rest)
front_behind done front rest is = record { rest = is.rest; whole_is = ap (λ (xs : List ℕ). done ++ xs) is.whole_is ∙ sym (append_assoc done front is.rest) }

-- what was output more, in two steps
adds_then : (told_first told_next : List ℕ → Type 0) (xs ys bytes : List ℕ) → ((b : List ℕ) → told_next b → Adds told_first xs b) → Adds told_next ys bytes → Adds told_first (xs ++ ys) bytes
adds_then told_first told_next xs ys bytes step last =
    let one = step last.before last.was_told in
    record { before = one.before; was_told = one.was_told; bytes_are = last.bytes_are ∙ ap (λ (b : List ℕ). b ++ ys) one.bytes_are ∙ append_assoc one.before xs ys }

-- a prefix of the first part is output at a moment, also of the whole
adds_front_more : (told_before : List ℕ → Type 0) (some rest bytes : List ℕ) → AddsPrefix told_before some bytes → AddsPrefix told_before (some ++ rest) bytes
adds_front_more told_before some rest bytes is = record { front = is.front; is_front = front_more is.front some rest is.is_front; adds = is.adds }

-- a prefix of the second part is output after all of the first
adds_front_then : (told_first told_next : List ℕ → Type 0) (xs ys bytes : List ℕ) → ((b : List ℕ) → told_next b → Adds told_first xs b) → AddsPrefix told_next ys bytes → AddsPrefix told_first (xs ++ ys) bytes
adds_front_then told_first told_next xs ys bytes step is = record {
  front = xs ++ is.front;
  is_front = front_behind xs is.front ys is.is_front;
  adds = adds_then told_first told_next xs is.front bytes step is.adds;
}

-- nothing more
adds_nil : (told_before : List ℕ → Type 0) (bytes : List ℕ) → told_before bytes → Adds told_before [] bytes
adds_nil told_before bytes was = record { before = bytes; was_told = was; bytes_are = sym (append-nil bytes) }

adds_front_nil : (told_before : List ℕ → Type 0) (whole bytes : List ℕ) → told_before bytes → AddsPrefix told_before whole bytes
adds_front_nil told_before whole bytes was = record { front = []; is_front = record { rest = whole; whole_is = refl }; adds = adds_nil told_before bytes was }

module _ {X : Type 0} where
  -- where no call was made, nothing was output, which is a prefix of anything
  pub front_of_none : (a : Outside X) (whole : List ℕ) → TellsPrefix a a whole
  front_of_none a whole = record {
    later = omega arith;
    kept = λ m bytes past is. is;
    no_other = λ m bytes past is. is;
    each = λ m bytes from until is. adds_front_nil (a.told a.clock) whole bytes (let now : m ≡ a.clock = omega arith in subst (λ (t : ℕ). a.told t bytes) now is);
  }

  -- a prefix of the first part is a prefix of the whole
  front_of_more : (a b : Outside X) (xs ys : List ℕ) → TellsPrefix a b xs → TellsPrefix a b (xs ++ ys)
  front_of_more a b xs ys is = record {
    later = is.later;
    kept = is.kept;
    no_other = is.no_other;
    each = λ m bytes from until at. adds_front_more (a.told a.clock) xs ys bytes (is.each m bytes from until at);
  }

  -- all of the first part, and then a prefix of the second
  front_then : (a b c : Outside X) (xs ys : List ℕ) → TellsPrefix a b xs → ToldAll a b xs → TellsPrefix b c ys → TellsPrefix a c (xs ++ ys)
  front_then a b c xs ys first all next = record {
    later = let one = first.later in let two = next.later in omega arith;
    kept = λ m bytes past is. next.kept m bytes (let one = first.later in omega arith) (first.kept m bytes past is);
    no_other = λ m bytes past is. first.no_other m bytes past (next.no_other m bytes (let one = first.later in omega arith) is);
    each = λ m bytes from until is. ⊎_elim
        (λ early. adds_front_more (a.told a.clock) xs ys bytes (first.each m bytes from early (next.no_other m bytes early is)))
        (λ late. adds_front_then (a.told a.clock) (b.told b.clock) xs ys bytes all (next.each m bytes late until is))
        (either m b.clock);
  }

  -- the device over two calls
  pub device_none : (a : Outside X) → LeavesDevice a a
  device_none a = record { images = along_none a.clock a.images; contents = record { kept = λ x is. is; no_other = λ x is. is }; faults = refl; calls = refl }

  pub device_then : (a b c : Outside X) → LeavesDevice a b → LeavesDevice b c → LeavesDevice a c
  device_then a b c first next = record {
    images = along_then first.images next.images (λ x is. along_now first.images x is);
    contents = record {
      kept = λ x is. next.contents.kept x (first.contents.kept x is);
      no_other = λ x is. first.contents.no_other x (next.contents.no_other x is);
    };
    faults = next.faults ∙ first.faults;
    calls = next.calls ∙ first.calls;
  }

  pub device_put : {T E : Type 0} (a b : Outside X) (r : Result T E) → IsPutCall a b r → LeavesDevice a b
  device_put a b r call = record { images = call.images; contents = call.contents; faults = call.device; calls = call.calls }

  pub all_none : (a : Outside X) → TellsAll a a []
  all_none a = record { front = front_of_none a []; all = λ bytes is. adds_nil (a.told a.clock) bytes is; calm = refl }

  -- all of the first part, and then all of the second
  pub all_then : (a b c : Outside X) (xs ys : List ℕ) → TellsAll a b xs → TellsAll b c ys → TellsAll a c (xs ++ ys)
  all_then a b c xs ys is next = record {
    front = front_then a b c xs ys is.front is.all next.front;
    all = λ bytes at. adds_then (a.told a.clock) (b.told b.clock) xs ys bytes is.all (next.all bytes at);
    calm = next.calm ∙ is.calm;
  }

  -- all of the first part was output, and the output failed in the second
  pub fails_then : (a b c : Outside X) (xs ys : List ℕ) → TellsAll a b xs → FailsAfter b c ys → FailsAfter a c (xs ++ ys)
  fails_then a b c xs ys is next = record {
    front = front_then a b c xs ys is.front is.all next.front;
    counts = subst (λ (n : ℕ). n ≤ c.output_faults) is.calm next.counts;
    rose = subst (λ (n : ℕ). Rose n c.output_faults) is.calm next.rose;
  }

  -- the output failed in the first part of a whole
  pub fails_more : (a b : Outside X) (xs ys : List ℕ) → FailsAfter a b xs → FailsAfter a b (xs ++ ys)
  fails_more a b xs ys is = record { front = front_of_more a b xs ys is.front; counts = is.counts; rose = is.rose }

  -- what a call of `put` returns
  pub put_tells : (a b : Outside X) (bytes : List ℕ) (r : Result Unit HostFailed) → TellsPrefix a b bytes → OnOk r (ToldAll a b bytes) →
      OnOk r (b.output_faults ≡ a.output_faults) → IsPutCall a b r → TellsOrFails a b bytes r
  put_tells a b bytes (Ok x) cut all calm call = record { front = cut; all = all; calm = calm }
  put_tells a b bytes (Err e) cut all calm call = record { front = cut; counts = call.counts; rose = call.cause }

  -- a failure that is handed on
  pub failed : {A : Type 0} (a b : Outside X) (whole : List ℕ) (r : Result A HostFailed) → IsErr r → FailsAfter a b whole → TellsOrFails a b whole r
  failed a b whole (Ok x) is fails = absurd (cc)
  failed a b whole (Err e) is fails = fails

  -- Some of the whole has been output since the first moment, and the rest is still to be output: what stays true
  -- over any run of calls that output the whole in parts.
  pub record SoFar (first now : Outside X) (whole rest : List ℕ) : Type 0 where
    pub done : List ℕ
    pub whole_is : whole ≡ done ++ rest
    pub tells : TellsAll first now done
    pub device : LeavesDevice first now

  pub so_far_none : (a : Outside X) (whole : List ℕ) → SoFar a a whole whole
  so_far_none a whole = record { done = []; whole_is = refl; tells = all_none a; device = device_none a }

  -- These bytes, the next of the rest, were told too, and this is left.
  pub so_far_more : (a b c : Outside X) (whole rest bytes left : List ℕ) → SoFar a b whole rest → TellsAll b c bytes → LeavesDevice b c → rest ≡ bytes ++ left → SoFar a c whole left
  so_far_more a b c whole rest bytes left so next device split = record {
    done = so.done ++ bytes;
    whole_is = so.whole_is ∙ ap (λ (xs : List ℕ). so.done ++ xs) split ∙ sym (append_assoc so.done bytes left);
    tells = all_then a b c so.done bytes so.tells next;
    device = device_then a b c so.device device;
  }

  -- The output failed in the next of the rest: then it failed in the whole.
  pub so_far_fails : (a b c : Outside X) (whole rest bytes left : List ℕ) → SoFar a b whole rest → FailsAfter b c bytes → rest ≡ bytes ++ left → FailsAfter a c whole
  so_far_fails a b c whole rest bytes left so next split =
      subst (λ (xs : List ℕ). FailsAfter a c xs) (sym (so.whole_is ∙ ap (λ (xs : List ℕ). so.done ++ xs) split))
      (fails_then a b c so.done (bytes ++ left) so.tells (fails_more b c bytes left next))

  -- Where no rest is left, the whole was output.
  pub so_far_all : (a b : Outside X) (whole rest : List ℕ) → SoFar a b whole rest → rest ≡ [] → TellsAll a b whole
  so_far_all a b whole rest so empty =
      subst (λ (xs : List ℕ). TellsAll a b xs) (sym (so.whole_is ∙ ap (λ (xs : List ℕ). so.done ++ xs) empty ∙ append-nil so.done)) so.tells

joined-drop : (parts : List (Bor (List ℕ))) (i : ℕ) (d : Bor (List ℕ)) → i < length parts → joined (drop i parts) ≡ (get_or parts i d).now ++ joined (drop (suc i) parts)
joined-drop [] i d below = absurd (omega arith)
joined-drop (part ∷ parts) zero d below = refl
joined-drop (part ∷ parts) (suc i) d below = joined-drop parts i d (omega arith)

-- of the pieces from one on: that piece, and those after it
pub joined-next : (parts : List (Bor (List ℕ))) (i : ℕ) (d : Bor (List ℕ)) → i < length parts → joined (drop i parts) ≡ (get_or parts i d).now ++ joined (drop (i + 1) parts)
joined-next parts i d below =
    let next : suc i ≡ i + 1 = omega arith in
    joined-drop parts i d below ∙ ap (λ (n : ℕ). (get_or parts i d).now ++ joined (drop n parts)) next
