-- Puts and writes, one after another.
use Rattle.std.proofs.Common.{◌≡◌, ℕ, ◌+◌, ◌<◌, ◌≤◌, List, [], ◌++◌, take, drop, refl, sym, ◌∙◌, ap, subst, append_assoc, arith}
use Rattle.std.specs.Prelude.{Result, Ok, Err, OnOk, OnErr, IfErr, ◌≢◌, replicate}
use Rattle.std.proofs.lemmas.List.{append-nil, take-append-drop, replicate-append-replicate}
use Rattle.obj_layout.specs.ps_outside.Outside.{Outside, Adds, AddsPrefix, TellsPrefix, ToldAll, SameContents, Rose}
use Rattle.obj_layout.proofs.of_ps_outside.Moments.{along_none, along_then, along_now, along_weaker}
use Rattle.obj_layout.specs.declared.vault.VaultFault.{VaultFault}
use Rattle.obj_layout.specs.declared.vault.VaultFault.TheVariants.{Device, Output, Full, NoPages, Damaged}
use Rattle.obj_layout.specs.Stored.{Space}
use Rattle.obj_layout.specs.Storing.{Puts, NeverFull, NeverLacksPages, NeverDamaged}
use Rattle.vault_output.specs.Sending.{Sends, left_of}

-- nothing more than some that had been output
none_more : (told : List ℕ → Type 0) (bytes : List ℕ) → told bytes → Adds told [] bytes
none_more told bytes was = record { before = bytes; was_told = was; bytes_are = sym (append-nil bytes) }

-- more was output, in two steps
adds_then : (first next : List ℕ → Type 0) (xs ys bytes : List ℕ) → ((b : List ℕ) → next b → Adds first xs b) → Adds next ys bytes
    → Adds first (xs ++ ys) bytes
adds_then first next xs ys bytes step last =
    let one = step last.before last.was_told in
    record {
      before = one.before;
      was_told = one.was_told;
      bytes_are = last.bytes_are ∙ ap (λ (b : List ℕ). b ++ ys) one.bytes_are ∙ append_assoc one.before xs ys;
    }

-- a prefix of the first part is one of the whole
front_more : (told : List ℕ → Type 0) (some rest bytes : List ℕ) → AddsPrefix told some bytes → AddsPrefix told (some ++ rest) bytes
front_more told some rest bytes is = record {
  front = is.front;
  is_front = record {
    rest = is.is_front.rest ++ rest;
    whole_is = ap (λ (xs : List ℕ). xs ++ rest) is.is_front.whole_is ∙ append_assoc is.front is.is_front.rest rest;
  };
  adds = is.adds;
}

-- a prefix of the second part is output after all of the first
front_then : (first next : List ℕ → Type 0) (xs ys bytes : List ℕ) → ((b : List ℕ) → next b → Adds first xs b) → AddsPrefix next ys bytes
    → AddsPrefix first (xs ++ ys) bytes
front_then first next xs ys bytes step is = record {
  front = xs ++ is.front;
  is_front = record {
    rest = is.is_front.rest;
    whole_is = ap (λ (zs : List ℕ). xs ++ zs) is.is_front.whole_is ∙ sym (append_assoc xs is.front is.is_front.rest);
  };
  adds = adds_then first next xs is.front bytes step is.adds;
}

-- where no call was made, nothing was put
pub puts-none : (outside : Outside Space) → Puts {T = Unit {0}} outside outside [] (Ok tt)
puts-none outside = record {
  told = along_weaker (along_none outside.clock outside.told) (λ (bytes : List ℕ) was. record {
    front = [];
    is_front = record { rest = []; whole_is = refl };
    adds = none_more (outside.told outside.clock) bytes was;
  });
  all = λ bytes was. none_more (outside.told outside.clock) bytes was;
  images = along_none outside.clock outside.images;
  contents = record { kept = λ x is. is; no_other = λ x is. is };
  counts = omega arith;
  calm = refl;
  device = refl;
  cause = λ e. absurd (cc);
  other = λ e. cc;
  calls = refl;
}

-- a count that rose rose from a lower one too
rose_from : (a b c : ℕ) → a ≤ b → Rose b c → Rose a c
rose_from a b c le rose = grind arith

same_then : {X : Type 0} (a b c : Outside X) → SameContents a b → SameContents b c → SameContents a c
same_then a b c first next = record { kept = λ x is. next.kept x (first.kept x is); no_other = λ x is. first.no_other x (next.no_other x is) }

-- all of the first part, and then a prefix of the second
tells_then : {X : Type 0} (a b c : Outside X) (xs ys : List ℕ) → TellsPrefix a b xs → ToldAll a b xs → TellsPrefix b c ys → TellsPrefix a c (xs ++ ys)
tells_then a b c xs ys first all next =
    along_then
    (along_weaker first (λ (bytes : List ℕ) is. front_more (a.told a.clock) xs ys bytes is))
    (along_weaker next (λ (bytes : List ℕ) is. front_then (a.told a.clock) (b.told b.clock) xs ys bytes all is))
    (λ (bytes : List ℕ) is. is)

-- and then all of it, where that was answered
told_then : {T X : Type 0} (a b c : Outside X) (xs ys : List ℕ) (result : Result T VaultFault) → ToldAll a b xs → OnOk result (ToldAll b c ys)
    → OnOk result (ToldAll a c (xs ++ ys))
told_then a b c xs ys (Ok x) all next = λ bytes is. adds_then (a.told a.clock) (b.told b.clock) xs ys bytes all (next bytes is)
told_then a b c xs ys (Err fault) all next = next

-- no fault was counted, where it was answered
calm_then : {T : Type 0} (a b c : ℕ) (result : Result T VaultFault) → b ≡ a → OnOk result (c ≡ b) → OnOk result (c ≡ a)
calm_then a b c (Ok x) first next = next ∙ first
calm_then a b c (Err fault) first next = next

-- a put after one that was answered
pub puts-then : {S T : Type 0} (a b c : Outside Space) (xs ys : List ℕ) (done : S) (result : Result T VaultFault)
    → Puts a b xs (Ok done) → Puts b c ys result → Puts a c (xs ++ ys) result
puts-then a b c xs ys done result first next = record {
  told = tells_then a b c xs ys first.told first.all next.told;
  all = told_then a b c xs ys result first.all next.all;
  images = along_then first.images next.images (λ x is. along_now first.images x is);
  contents = same_then a b c first.contents next.contents;
  counts = omega (arith, first.counts, next.counts);
  calm = calm_then a.output_faults b.output_faults c.output_faults result first.calm next.calm;
  device = next.device ∙ first.device;
  cause = λ e. rose_from a.output_faults b.output_faults c.output_faults first.counts (next.cause e);
  other = next.other;
  calls = next.calls ∙ first.calls;
}

-- what is pending was put, and this is due still
pub sends-more : {T : Type 0} (a b c : Outside Space) (due owed sent rest left : List ℕ) (result : Result T VaultFault)
    → Sends {T = Unit {0}} a b due owed (Ok tt) → owed ≡ sent ++ rest → Puts b c sent result → OnOk result (left ≡ rest) → OnErr result (left ≡ [])
    → Sends a c due left result
sends-more a b c due owed sent rest left result first owed_is next owes lets_go = record {
  sent = first.sent ++ sent;
  rest = rest;
  due_is =
      first.due_is ∙ ap (λ (xs : List ℕ). first.sent ++ xs) (sym first.owes ∙ owed_is) ∙ sym (append_assoc first.sent sent rest);
  puts = puts-then a b c first.sent sent tt result first.puts next;
  owes = owes;
  lets_go = lets_go;
}

-- more is due after
pub sends-behind : (a b : Outside Space) (due owed more : List ℕ) → Sends {T = Unit {0}} a b due owed (Ok tt)
    → Sends {T = Unit {0}} a b (due ++ more) (owed ++ more) (Ok tt)
sends-behind a b due owed more is = record {
  sent = is.sent;
  rest = is.rest ++ more;
  due_is = ap (λ (xs : List ℕ). xs ++ more) is.due_is ∙ append_assoc is.sent is.rest more;
  puts = is.puts;
  owes = ap (λ (xs : List ℕ). xs ++ more) is.owes;
  lets_go = tt;
}

-- a write after a write
pub sends-then : {T : Type 0} (a b c : Outside Space) (due owed more left : List ℕ) (result : Result T VaultFault)
    → Sends {T = Unit {0}} a b due owed (Ok tt) → Sends b c (owed ++ more) left result → Sends a c (due ++ more) left result
sends-then a b c due owed more left result first next =
    sends-more a b c (due ++ more) (owed ++ more) next.sent next.rest left result
    (sends-behind a b due owed more first) next.due_is next.puts next.owes next.lets_go

-- a flush after a write
pub flush-then : {T : Type 0} (a b c : Outside Space) (due owed : List ℕ) (result : Result T VaultFault)
    → Sends {T = Unit {0}} a b due owed (Ok tt) → Puts b c owed result → Puts a c due result
flush-then a b c due owed result first next =
    let whole : first.sent ++ owed ≡ due = ap (λ (xs : List ℕ). first.sent ++ xs) first.owes ∙ sym first.due_is in
    subst (λ (xs : List ℕ). Puts a c xs result) whole (puts-then a b c first.sent owed tt result first.puts next)

-- what is output is a prefix of what is due
pub sends-front : {T : Type 0} (a b : Outside Space) (due owed : List ℕ) (result : Result T VaultFault) → Sends a b due owed result → TellsPrefix a b due
sends-front a b due owed result is =
    along_weaker is.puts.told (λ (bytes : List ℕ) at.
    subst (λ (xs : List ℕ). AddsPrefix (a.told a.clock) xs bytes) (sym is.due_is) (front_more (a.told a.clock) is.sent is.rest bytes at))

-- what is output and what is pending are all that is due
pub sends-all : (a b : Outside Space) (due owed bytes : List ℕ) → Sends {T = Unit {0}} a b due owed (Ok tt) → b.told b.clock bytes
    → Adds (a.told a.clock) due (bytes ++ owed)
sends-all a b due owed bytes is told =
    let one = is.puts.all bytes told in
    record {
      before = one.before;
      was_told = one.was_told;
      bytes_are =
          ap (λ (xs : List ℕ). xs ++ owed) one.bytes_are
          ∙ append_assoc one.before is.sent owed
          ∙ ap (λ (xs : List ℕ). one.before ++ (is.sent ++ xs)) is.owes
          ∙ ap (λ (xs : List ℕ). one.before ++ xs) (sym is.due_is);
    }

-- an output's fault is the only one
pub only-output : {T : Type 0} (result : Result T VaultFault) → result ≢ Err Device → NeverFull result → NeverLacksPages result → NeverDamaged result
    → IfErr result (λ fault. fault ≡ Output)
only-output (Ok x) device full pages damaged = tt
only-output (Err Device) device full pages damaged = absurd (device refl)
only-output (Err Output) device full pages damaged = refl
only-output (Err (Full used wanted capacity)) device full pages damaged = absurd (full used wanted capacity refl)
only-output (Err (NoPages held wanted all)) device full pages damaged = absurd (pages held wanted all refl)
only-output (Err (Damaged at found wanted)) device full pages damaged = absurd (damaged at found wanted refl)

-- bytes that are kept are pending, and none was sent
pub sends-kept : (outside : Outside Space) (due owed : List ℕ) → owed ≡ due → Sends {T = Unit {0}} outside outside due owed (Ok tt)
sends-kept outside due owed is = record { sent = []; rest = due; due_is = refl; puts = puts-none outside; owes = is; lets_go = tt }

-- a prefix of what is left was kept
pub kept-front : (owed rest front back kept : List ℕ) (n : ℕ) → front ≡ take n rest → back ≡ drop n rest → kept ≡ owed ++ front
    → owed ++ rest ≡ kept ++ back
kept-front owed rest front back kept n is_front is_back is_kept =
    rw (is_kept, is_front, is_back)
    (ap (λ (xs : List ℕ). owed ++ xs) (sym (take-append-drop n rest)) ∙ sym (append_assoc owed (take n rest) (drop n rest)))

-- one piece more was sent
pub left-piece : (owed rest room back now : ℕ) → room + owed ≡ 65536 → room < rest → back + room ≡ rest → now ≡ 0
    → left_of (now + back) ≡ left_of (owed + rest)
left-piece owed rest room back now full more is none = omega arith

-- some of the spaces that are left were kept
pub filled-front : (owed kept : List ℕ) (rest some left : ℕ) → rest ≡ some + left → kept ≡ owed ++ replicate some 32
    → owed ++ replicate rest 32 ≡ kept ++ replicate left 32
filled-front owed kept rest some left is is_kept =
    rw (is_kept, is)
    (ap (λ (xs : List ℕ). owed ++ xs) (sym (replicate-append-replicate some left 32))
    ∙ sym (append_assoc owed (replicate some 32) (replicate left 32)))
