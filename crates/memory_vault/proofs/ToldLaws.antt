-- What a vault in memory tells.
use Rattle.std.proofs.Common.{◌≡◌, ℕ, ◌-◌, ◌≤◌, List, ◌++◌, length, take, drop, Ok, refl, sym, ap, ◌∙◌, subst, arith, length-append}
use Rattle.std.proofs.lemmas.List.{take-append-le, take-append-drop, take_all}
use Rattle.std.proofs.Math.Seq.{take-append-add}
use Rattle.obj_layout.specs.ps_outside.Outside.{AddsPrefix, TellsPrefix, ToldAll}
use Rattle.obj_layout.specs.Storing.{Puts}
use Rattle.memory_vault.specs.Memory.{Memory, HadTold, outside_of}

abbrev more : Memory → List ℕ → Memory
more memory bytes = record memory { told = memory.told ++ bytes }

-- at each moment of a put a prefix of its bytes was output
put_front : (old : Memory) (bytes : List ℕ) (m : ℕ) (told : List ℕ) → length old.told ≤ m → HadTold (more old bytes) m told
    → AddsPrefix (HadTold old (length old.told)) bytes told
put_front old bytes m told from is =
    let count = m - length old.told in
    record {
      front = take count bytes;
      is_front = record { rest = drop count bytes; whole_is = sym (take-append-drop count bytes) };
      adds = record {
        before = old.told;
        was_told = sym (take_all _ old.told (omega arith));
        bytes_are = is ∙ ap (λ (n : ℕ). take n (old.told ++ bytes)) (omega arith) ∙ take-append-add old.told bytes count;
      };
    }

tells_front : (old : Memory) (bytes : List ℕ) → TellsPrefix (outside_of old) (outside_of (more old bytes)) bytes
tells_front old bytes = record {
  later = omega (arith, length-append old.told bytes);
  kept = λ m told past is. is ∙ sym (take-append-le m old.told bytes past);
  no_other = λ m told past is. is ∙ take-append-le m old.told bytes past;
  each = λ m told from until is. put_front old bytes m told from is;
}

told_all : (old : Memory) (bytes : List ℕ) → ToldAll (outside_of old) (outside_of (more old bytes)) bytes
told_all old bytes = λ told is. record {
  before = old.told;
  was_told = sym (take_all _ old.told (omega arith));
  bytes_are = is ∙ take_all _ (old.told ++ bytes) (omega arith);
}

-- what a put outputs that is answered
pub puts : (old new : Memory) (bytes : List ℕ) → new ≡ more old bytes → Puts {T = Unit {0}} (outside_of old) (outside_of new) bytes (Ok tt)
puts old new bytes is = subst (λ (m : Memory). Puts {T = Unit {0}} (outside_of old) (outside_of m) bytes (Ok tt)) (sym is) (record {
  told = tells_front old bytes;
  all = told_all old bytes;
  images = record {
    later = omega (arith, length-append old.told bytes);
    kept = λ m x past is. is;
    no_other = λ m x past is. is;
    each = λ m x from until is. is;
  };
  contents = record { kept = λ x is. record { is = is.is; sound = is.sound }; no_other = λ x is. record { is = is.is; sound = is.sound } };
  counts = omega arith;
  calm = refl;
  device = refl;
  cause = λ e. absurd (cc);
  other = λ e. cc;
  calls = refl;
})
