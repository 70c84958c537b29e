-- What is output, and what is pending, one call after another.
use Rattle.std.proofs.Common.{◌≡◌, ℕ, ◌≤◌, ℤ, List, [], ◌++◌, length, replicate, Option, Some, None, refl, sym, ap, ◌∙◌, subst, append_assoc, arith}
use Rattle.std.specs.Prelude.{Result, Ok, Err}
use Rattle.std.proofs.lemmas.List.{append-nil}
use Rattle.ps_port.specs.ps_outside.Outside.{Outside, Adds, AddsPrefix, SameContents, Rose}
use Rattle.ps_port.proofs.of_ps_outside.Moments.{along_none, along_then, along_now, along_weaker}
use Rattle.vault_output.specs.obj_layout.declared.vault.VaultFault.{VaultFault}
use Rattle.vault_output.specs.obj_layout.declared.vault.VaultFault.TheVariants.{Output}
use Rattle.vault_output.specs.obj_layout.Stored.{Space}
use Rattle.vault_output.specs.obj_layout.Storing.{Puts}
use Rattle.machine_core.specs.swizzle.Reading.{LeavesOutside}
use Rattle.vault_output.specs.Sending.{Sends}
use Rattle.vault_output.proofs.SendingLaws.{sends-more}
use Rattle.machine_core.specs.ps_meaning.Meaning.{in_places}
use Rattle.machine_run.specs.inside.Blanks.{blanks_of}
use Rattle.machine_run.specs.Ran.{LeavesAll, TellsFirst, TellsAll, TellsBut, FailsAfter}

pub placed-is : (width : Option ℤ) (text : List ℕ) → replicate (blanks_of width (length text)) 32 ++ text ≡ in_places width text
placed-is None text = refl
placed-is (Some width) text = refl

-- one part of what is pending was written
pub sends-part : (a b c : Outside Space) (due owed whole part rest left : List ℕ) → Sends {T = Unit {0}} a b due (owed ++ whole) (Ok tt) → whole ≡ part ++ rest
    → Sends {T = Unit {0}} b c (owed ++ part) left (Ok tt) → Sends {T = Unit {0}} a c due (left ++ rest) (Ok tt)
sends-part a b c due owed whole part rest left first is next =
    sends-more a b c due (owed ++ whole) next.sent (next.rest ++ rest) (left ++ rest) (Ok tt) first
    (ap (λ (xs : List ℕ). owed ++ xs) is ∙ sym (append_assoc owed part rest) ∙ ap (λ (xs : List ℕ). xs ++ rest) next.due_is ∙ append_assoc next.sent next.rest rest)
    next.puts (ap (λ (xs : List ℕ). xs ++ rest) next.owes) tt

-- or the output failed in it
pub fails-part : (a b c : Outside Space) (due owed whole part rest left : List ℕ) (fault : VaultFault) → Sends {T = Unit {0}} a b due (owed ++ whole) (Ok tt)
    → whole ≡ part ++ rest → Sends {T = Unit {0}} b c (owed ++ part) left (Err fault) → Sends {T = Unit {0}} a c due left (Err fault)
fails-part a b c due owed whole part rest left fault first is next =
    sends-more a b c due (owed ++ whole) next.sent (next.rest ++ rest) left (Err fault) first
    (ap (λ (xs : List ℕ). owed ++ xs) is ∙ sym (append_assoc owed part rest) ∙ ap (λ (xs : List ℕ). xs ++ rest) next.due_is ∙ append_assoc next.sent next.rest rest)
    next.puts tt next.lets_go

-- nothing more than some that had been output
adds_none : (told : List ℕ → Type 0) (bytes : List ℕ) → told bytes → Adds told [] bytes
adds_none told bytes was = record { before = bytes; was_told = was; bytes_are = sym (append-nil bytes) }

front_none : (told : List ℕ → Type 0) (bytes : List ℕ) → told bytes → AddsPrefix told [] bytes
front_none told bytes was = record { front = []; is_front = record { rest = []; whole_is = refl }; adds = adds_none told bytes was }

adds_then : (first next : List ℕ → Type 0) (xs ys bytes : List ℕ) → ((b : List ℕ) → next b → Adds first xs b) → Adds next ys bytes → Adds first (xs ++ ys) bytes
adds_then first next xs ys bytes step last =
    let one = step last.before last.was_told in
    record {
      before = one.before;
      was_told = one.was_told;
      bytes_are = last.bytes_are ∙ ap (λ (b : List ℕ). b ++ ys) one.bytes_are ∙ append_assoc one.before xs ys;
    }

front_more : (told : List ℕ → Type 0) (some rest bytes : List ℕ) → AddsPrefix told some bytes → AddsPrefix told (some ++ rest) bytes
front_more told some rest bytes is = record {
  front = is.front;
  is_front = record {
    rest = is.is_front.rest ++ rest;
    whole_is = ap (λ (xs : List ℕ). xs ++ rest) is.is_front.whole_is ∙ append_assoc is.front is.is_front.rest rest;
  };
  adds = is.adds;
}

front_then : (first next : List ℕ → Type 0) (xs ys bytes : List ℕ) → ((b : List ℕ) → next b → Adds first xs b) → AddsPrefix next ys bytes → AddsPrefix first (xs ++ ys) bytes
front_then first next xs ys bytes step is = record {
  front = xs ++ is.front;
  is_front = record {
    rest = is.is_front.rest;
    whole_is = ap (λ (zs : List ℕ). xs ++ zs) is.is_front.whole_is ∙ sym (append_assoc xs is.front is.is_front.rest);
  };
  adds = adds_then first next xs is.front bytes step is.adds;
}

rose_from : (a b c : ℕ) → a ≤ b → Rose b c → Rose a c
rose_from a b c le rose = grind arith

same_then : (a b c : Outside Space) → SameContents a b → SameContents b c → SameContents a c
same_then a b c first next = record { kept = λ x is. next.kept x (first.kept x is); no_other = λ x is. first.no_other x (next.no_other x is) }

-- A prefix of the first part, and then of the second where all of the first was output.
pub first-more : (a b : Outside Space) (xs ys : List ℕ) → TellsFirst a b xs → TellsFirst a b (xs ++ ys)
first-more a b xs ys is = record {
  told = along_weaker is.told (λ (bytes : List ℕ) at. front_more (a.told a.clock) xs ys bytes at);
  leaves = is.leaves;
}

pub leaves-then : (a b c : Outside Space) → LeavesAll a b → LeavesAll b c → LeavesAll a c
leaves-then a b c first next = record {
  images = along_then first.images next.images (λ x at. along_now first.images x at);
  contents = same_then a b c first.contents next.contents;
  device = let one = first.device in let two = next.device in omega (arith, one, two);
  output = let one = first.output in let two = next.output in omega (arith, one, two);
}

pub leaves-none : (a : Outside Space) → LeavesAll a a
leaves-none a = record {
  images = along_none a.clock a.images;
  contents = record { kept = λ x is. is; no_other = λ x is. is };
  device = omega arith;
  output = omega arith;
}

-- a call that outputs nothing
pub leaves-quiet : (a b : Outside Space) → LeavesOutside a b → LeavesAll a b
leaves-quiet a b is = record {
  images = is.images;
  contents = is.contents;
  device = is.counts;
  output = let same = is.output in omega (arith, same);
}

pub leaves-puts : {T : Type 0} (a b : Outside Space) (xs : List ℕ) (r : Result T VaultFault) → Puts a b xs r → LeavesAll a b
leaves-puts a b xs r is = record {
  images = is.images;
  contents = is.contents;
  device = let same = is.device in omega (arith, same);
  output = is.counts;
}

pub leaves-sends : {T : Type 0} (a b : Outside Space) (due left : List ℕ) (r : Result T VaultFault) → Sends a b due left r → LeavesAll a b
leaves-sends a b due left r is = leaves-puts a b is.sent r is.puts

pub first-then : (a b c : Outside Space) (xs ys : List ℕ) → TellsAll a b xs → TellsFirst b c ys → TellsFirst a c (xs ++ ys)
first-then a b c xs ys is next =
    let first = is.first in
    record {
      told = along_then
          (along_weaker first.told (λ (bytes : List ℕ) at. front_more (a.told a.clock) xs ys bytes at))
          (along_weaker next.told (λ (bytes : List ℕ) at. front_then (a.told a.clock) (b.told b.clock) xs ys bytes is.all at))
          (λ (bytes : List ℕ) at. at);
      leaves = leaves-then a b c first.leaves next.leaves;
    }

pub all-then : (a b c : Outside Space) (xs ys : List ℕ) → TellsAll a b xs → TellsAll b c ys → TellsAll a c (xs ++ ys)
all-then a b c xs ys is next = record {
  first = first-then a b c xs ys is next.first;
  all = λ bytes at. adds_then (a.told a.clock) (b.told b.clock) xs ys bytes is.all (next.all bytes at);
  calm = next.calm ∙ is.calm;
}

pub fails-then : (a b c : Outside Space) (xs ys : List ℕ) → TellsAll a b xs → FailsAfter b c ys → FailsAfter a c (xs ++ ys)
fails-then a b c xs ys is next = record {
  first = first-then a b c xs ys is next.first;
  rose = subst (λ (n : ℕ). Rose n c.output_faults) is.calm next.rose;
}

pub fails-more : (a b : Outside Space) (xs ys : List ℕ) → FailsAfter a b xs → FailsAfter a b (xs ++ ys)
fails-more a b xs ys is = record { first = first-more a b xs ys is.first; rose = is.rose }

-- Of one call.
pub all-none : (a : Outside Space) → TellsAll a a []
all-none a = record {
  first = record {
    told = along_weaker (along_none a.clock a.told) (λ (bytes : List ℕ) was. front_none (a.told a.clock) bytes was);
    leaves = leaves-none a;
  };
  all = λ bytes was. adds_none (a.told a.clock) bytes was;
  calm = refl;
}

pub all-leaves : (a b : Outside Space) → LeavesOutside a b → TellsAll a b []
all-leaves a b is = record {
  first = record {
    told = along_weaker is.told (λ (bytes : List ℕ) was. front_none (a.told a.clock) bytes was);
    leaves = leaves-quiet a b is;
  };
  all = λ bytes was. adds_none (a.told a.clock) bytes (along_now is.told bytes was);
  calm = is.output;
}

first-puts : {T : Type 0} (a b : Outside Space) (xs : List ℕ) (r : Result T VaultFault) → Puts a b xs r → TellsFirst a b xs
first-puts a b xs r is = record { told = is.told; leaves = leaves-puts a b xs r is }

pub all-puts : {T : Type 0} (a b : Outside Space) (xs : List ℕ) (done : T) → Puts a b xs (Ok done) → TellsAll a b xs
all-puts a b xs done is = record { first = first-puts a b xs (Ok done) is; all = is.all; calm = is.calm }

pub fails-puts : {T : Type 0} (a b : Outside Space) (xs : List ℕ) (fault : VaultFault) → fault ≡ Output → Puts {T = T} a b xs (Err fault) → FailsAfter a b xs
fails-puts {T = T} a b xs fault output is = record {
  first = first-puts a b xs (Err fault) is;
  rose = is.cause (ap (λ (f : VaultFault). Err f) output);
}

-- What is pending.
pub but-leaves : (a b : Outside Space) (owed : List ℕ) → LeavesOutside a b → TellsBut a b owed owed
but-leaves a b owed is = record { sent = []; due_is = refl; tells = all-leaves a b is }

-- nothing was output
pub but-none : (outside : Outside Space) (owed : List ℕ) → TellsBut outside outside owed owed
but-none outside owed = record { sent = []; due_is = refl; tells = all-none outside }

pub but-sends : {T : Type 0} (a b : Outside Space) (due left : List ℕ) (done : T) → Sends a b due left (Ok done) → TellsBut a b due left
but-sends a b due left done is = record {
  sent = is.sent;
  due_is = is.due_is ∙ ap (λ (xs : List ℕ). is.sent ++ xs) (sym is.owes);
  tells = all-puts a b is.sent done is.puts;
}

pub fails-sends : {T : Type 0} (a b : Outside Space) (due left : List ℕ) (fault : VaultFault) → fault ≡ Output → Sends {T = T} a b due left (Err fault) → FailsAfter a b due
fails-sends a b due left fault output is =
    subst (λ (xs : List ℕ). FailsAfter a b xs) (sym is.due_is) (fails-more a b is.sent is.rest (fails-puts a b is.sent fault output is.puts))

-- all that is pending was put
pub but-puts : {T : Type 0} (a b : Outside Space) (owed left : List ℕ) (done : T) → Puts a b owed (Ok done) → left ≡ [] → TellsBut a b owed left
but-puts a b owed left done is none = record {
  sent = owed;
  due_is = sym (append-nil owed) ∙ ap (λ (xs : List ℕ). owed ++ xs) (sym none);
  tells = all-puts a b owed done is;
}

-- after it
but_split : (due sent owed more : List ℕ) → due ≡ sent ++ owed → due ++ more ≡ sent ++ (owed ++ more)
but_split due sent owed more is = ap (λ (xs : List ℕ). xs ++ more) is ∙ append_assoc sent owed more

pub but-then : (a b c : Outside Space) (due owed more left : List ℕ) → TellsBut a b due owed → TellsBut b c (owed ++ more) left → TellsBut a c (due ++ more) left
but-then a b c due owed more left first next = record {
  sent = first.sent ++ next.sent;
  due_is =
      but_split due first.sent owed more first.due_is
      ∙ ap (λ (xs : List ℕ). first.sent ++ xs) next.due_is
      ∙ sym (append_assoc first.sent next.sent left);
  tells = all-then a b c first.sent next.sent first.tells next.tells;
}

pub but-all : (a b c : Outside Space) (due owed more : List ℕ) → TellsBut a b due owed → TellsAll b c (owed ++ more) → TellsAll a c (due ++ more)
but-all a b c due owed more first next =
    subst (λ (xs : List ℕ). TellsAll a c xs) (sym (but_split due first.sent owed more first.due_is)) (all-then a b c first.sent (owed ++ more) first.tells next)

pub but-fails : (a b c : Outside Space) (due owed more : List ℕ) → TellsBut a b due owed → FailsAfter b c (owed ++ more) → FailsAfter a c (due ++ more)
but-fails a b c due owed more first next =
    subst (λ (xs : List ℕ). FailsAfter a c xs) (sym (but_split due first.sent owed more first.due_is)) (fails-then a b c first.sent (owed ++ more) first.tells next)

pub but-first : (a b c : Outside Space) (due owed : List ℕ) → TellsBut a b due owed → TellsFirst b c owed → TellsFirst a c due
but-first a b c due owed first next = subst (λ (xs : List ℕ). TellsFirst a c xs) (sym first.due_is) (first-then a b c first.sent owed first.tells next)

-- A call that outputs nothing comes before.
pub leaves-but : (a b c : Outside Space) (due left : List ℕ) → LeavesOutside a b → TellsBut b c due left → TellsBut a c due left
leaves-but a b c due left quiet next = record { sent = next.sent; due_is = next.due_is; tells = all-then a b c [] next.sent (all-leaves a b quiet) next.tells }

pub leaves-fails : (a b c : Outside Space) (due : List ℕ) → LeavesOutside a b → FailsAfter b c due → FailsAfter a c due
leaves-fails a b c due quiet next = fails-then a b c [] due (all-leaves a b quiet) next
