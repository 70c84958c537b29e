-- A scan yields a number of calls: each key that is found is of its kind, and what is under it is a structure or a table.
use Rattle.std.proofs.Common.{◌≡◌, ℕ, zero, suc, ◌+◌, ◌^◌, ◌<◌, ◌≤◌, pos, Bool, true, false, List, [], ◌∷◌, Option, Some, None, refl, arith, lt-ltb}
use Rattle.std.proofs.lemmas.Bool.{eqb-false}
use Rattle.std.specs.Prelude.{nat_eq, if◌then◌else◌}
use Rattle.ps_meaning.specs.ps_base.TyView.{TyView}
use Rattle.ps_meaning.specs.ps_base.TyView as types
use Rattle.ps_meaning.specs.ps_base.declared.line.Line.{Line}
use Rattle.ps_meaning.specs.ps_program.declared.place.Place.TheVariants.{Plain}
use Rattle.ps_meaning.specs.ps_typing.Library.{caller, two}
use Rattle.ps_heap.specs.Operators.{is_int}
use Rattle.ps_heap.specs.Ends.{OutOfTurns}
use Rattle.ps_heap.specs.Values.{Value, Num, Text, flag_of}
use Rattle.ps_heap.specs.Tables.{Key, string_key, int_key}
use Rattle.ps_heap.specs.Objects.{Heap}
use Rattle.ps_heap.specs.Scans.{Found, most_scan_calls, next_key, shown_key, scan_arguments}
use Rattle.ps_meaning.specs.Meaning.{Meaning, choose, stop, set}
use Rattle.ps_meaning.specs.Loops.{Scanning, set_last, scan_call, scan_next, scan_turns, begin_scan}
use Rattle.ps_soundness.specs.Over.{IsOf}
use Rattle.ps_soundness.specs.Shapes.{Grows}
use Rattle.ps_soundness.proofs.Notion.{Kind, Notion}
use Rattle.ps_soundness.proofs.Growing.{grows_not, grows_then, of_kept, pointed_kept}
use Rattle.ps_soundness.proofs.Calling.{ValuesOf}
use Rattle.ps_soundness.proofs.Tables.{IsKeyOf, MayBeFound, next_key_typed}
use Rattle.ps_soundness.proofs.Combining.{Sound, sound_then, sound_give, sound_stop, sound_choose, sound_attempt, sound_with_heap, sound_touch, sound_turn}

abbrev pub key_type : Bool → TyView
key_type strings = if strings then types.Str else types.Int

-- a value in a local from one on, of either row, leaves what is known, from each heap on
abbrev pub SparesAll : (notion : Notion) → notion.Standing → TyView → ℕ → Type 0
SparesAll notion known ty from = (at : ℕ) → from ≤ at → (heap : Heap) (v : Value) → Sound notion heap known known types.Void (set (Plain at) ty v)

-- so does one in one of three locals
abbrev pub SparesThree : (notion : Notion) → notion.Standing → TyView → ℕ → Type 0
SparesThree notion known ty from = (at : ℕ) → from ≤ at → at < from + 3 → (heap : Heap) (v : Value) → Sound notion heap known known types.Void (set (Plain at) ty v)

pub arguments_are : (kind : Kind) (strings : Bool) (heap : Heap) (found : Found) → MayBeFound strings heap (Some found) →
    ValuesOf kind heap (two (key_type strings) types.Pntr) (scan_arguments found)
arguments_are kind strings heap found h = (of strings found.key h.0, (h.1, tt))
  where
    of : (strings : Bool) (key : Key) → IsKeyOf strings key → IsOf kind.asked heap (key_type strings) (shown_key key)
    of true (string_key bytes) k = k
    of true (int_key z) k = absurd k
    of false (int_key z) k = k
    of false (string_key bytes) k = absurd k

count_is_int : (count : ℕ) → count < 2 ^ 31 → is_int (pos count) ≡ true
count_is_int count low = lt-ltb count (2 ^ 31) low

pub found_kept : (strings : Bool) (heap new : Heap) → Grows heap new → (found : Found) → MayBeFound strings heap (Some found) → MayBeFound strings new (Some found)
found_kept strings heap new g found h = (h.0, pointed_kept heap new g found.object h.1)

sound_else : (notion : Notion) {heap : Heap} {first last : notion.Standing} {ty : TyView} {m n : Meaning} (b : Bool) → Sound notion heap first last ty m →
    (b ≡ false → Sound notion heap first last ty n) → Sound notion heap first last ty (choose b m n)
unfolding choose
sound_else notion true h k = h
sound_else notion false h k = k refl

-- the procedure of a scan, called with a key and a value from each heap on
abbrev pub CallsAnswer : (notion : Notion) → notion.Standing → Scanning → Heap → Type 0
CallsAnswer notion known scan from =
    (heap : Heap) (args : List Value) → Grows from heap → ValuesOf notion.kind heap (two (key_type scan.strings) types.Pntr) args →
    Sound notion heap known known types.Bool (scan.call args)

module _ (notion : Notion) (known : notion.Standing) (scan : Scanning) (texts : SparesThree notion known types.Str scan.refs) (ints : SparesThree notion known types.Int scan.nums)
    (from : Heap) (calls : CallsAnswer notion known scan from) where
  last_set : (heap : Heap) (key : Key) → Sound notion heap known known types.Void (set_last scan key)
  last_set heap (string_key bytes) = texts (scan.refs + 2) (omega arith) (omega arith) heap (Text bytes)
  last_set heap (int_key z) = ints (scan.nums + 1) (omega arith) (omega arith) heap (Num z)

  called : (heap : Heap) (count : ℕ) (again : Key → Meaning) (found : Found) → Grows from heap → suc count < 2 ^ 31 → MayBeFound scan.strings heap (Some found) →
      ((key : Key) (new : Heap) → Grows from new → Sound notion new known known types.Int (again key)) → Sound notion heap known known types.Int (scan_call scan count again found)
  unfolding scan_call
  called heap count again found g low h goes_on =
      sound_then notion (last_set heap found.key) (λ h1 u1 g1 is1.
      sound_then notion (ints (scan.nums + 2) (omega arith) (omega arith) h1 (Num (pos 1))) (λ h2 u2 g2 is2.
      let to2 = grows_then heap h1 h2 g1 g2 in
      let from2 = grows_then from heap h2 g to2 in
      sound_then notion (calls h2 (scan_arguments found) from2 (arguments_are notion.kind scan.strings h2 found (found_kept scan.strings heap h2 to2 found h)))
      (λ h3 more g3 is3. sound_then notion (ints scan.nums (omega arith) (omega arith) h3 (Num (pos (suc count)))) (λ h4 u4 g4 is4.
      let from4 = grows_then from h3 h4 (grows_then from h2 h3 from2 g3) g4 in
      sound_choose notion (flag_of more)
      (sound_then notion (sound_turn notion) (λ h5 t g5 is5. goes_on found.key h5 (grows_then from h4 h5 from4 g5)))
      (sound_give notion (Num (pos (suc count))) (count_is_int (suc count) low))))))

  next_sound : (heap : Heap) (count : ℕ) (again : Key → Meaning) (found : Option Found) → Grows from heap → count < 2 ^ 31 → MayBeFound scan.strings heap found →
      ((key : Key) (new : Heap) → suc count < 2 ^ 31 → Grows from new → Sound notion new known known types.Int (again key)) →
      Sound notion heap known known types.Int (scan_next scan count again found)
  unfolding scan_next
  next_sound heap count again None g low h goes_on = sound_give notion (Num (pos count)) (count_is_int count low)
  next_sound heap count again (Some found) g low h goes_on =
      sound_then notion (sound_touch notion (found.object ∷ [])) (λ h1 u g1 is.
      sound_else notion (nat_eq count most_scan_calls) (sound_stop notion _)
      (λ e. let low_next : suc count < 2 ^ 31 = omega (arith, low, eqb-false count most_scan_calls e) in
      called h1 count again found (grows_then from heap h1 g g1) low_next (found_kept scan.strings heap h1 g1 found h) (λ key new k. goes_on key new low_next k)))

  pub turns_sound : (n : ℕ) (heap : Heap) (last : Option Key) (count : ℕ) → Grows from heap → count < 2 ^ 31 → Sound notion heap known known types.Int (scan_turns n scan last count)
  unfolding scan_turns
  turns_sound zero heap last count g low =
      sound_with_heap notion (λ now k typed. sound_attempt notion (MayBeFound scan.strings now) scan.line (next_key scan.strings now scan.table last)
      (next_key_typed notion.kind scan.strings now scan.table last typed)
      (λ found h. next_sound now count (λ key. stop OutOfTurns) found (grows_then from heap now g k) low h (λ key new more l. sound_stop notion OutOfTurns)))
  turns_sound (suc n) heap last count g low =
      sound_with_heap notion (λ now k typed. sound_attempt notion (MayBeFound scan.strings now) scan.line (next_key scan.strings now scan.table last)
      (next_key_typed notion.kind scan.strings now scan.table last typed)
      (λ found h. next_sound now count (λ key. scan_turns n scan (Some key) (suc count)) found (grows_then from heap now g k) low h
      (λ key new more l. turns_sound n new (Some key) (suc count) l more)))

-- the locals of a scan lie in free slots
pub scan_sound : (notion : Notion) {heap : Heap} {known : notion.Standing} (n : ℕ) (line : Line) (strings : Bool) (refs nums : ℕ) {a f : Meaning} (call : Value → List Value → Meaning) →
    SparesThree notion known types.Pntr refs → SparesThree notion known types.Int nums → SparesThree notion known types.Str refs →
    SparesThree notion known (caller (key_type strings)) refs →
    ((new : Heap) → Sound notion new known known types.Pntr a) → ((new : Heap) → Sound notion new known known (caller (key_type strings)) f) →
    ((from : Heap) (procedure : Value) → IsOf notion.kind.asked from (caller (key_type strings)) procedure → (heap : Heap) (args : List Value) → Grows from heap →
    ValuesOf notion.kind heap (two (key_type strings) types.Pntr) args → Sound notion heap known known types.Bool (call procedure args)) →
    Sound notion heap known known types.Int
    (begin_scan strings refs nums a f (λ table procedure. scan_turns n (record { line = line; strings = strings; refs = refs; nums = nums; table = table; call = call procedure }) None 0))
unfolding begin_scan
scan_sound notion {heap = heap} {known = known} n line strings refs nums call pntrs ints texts procedures ha hf answers =
    sound_then notion (ha heap) (λ h1 table g1 is1. sound_then notion (pntrs refs (omega arith) (omega arith) h1 table) (λ h2 u2 g2 is2.
    sound_then notion (hf h2) (λ h3 procedure g3 is3. sound_then notion (procedures (refs + 1) (omega arith) (omega arith) h3 procedure) (λ h4 u4 g4 is4.
    sound_then notion (ints nums (omega arith) (omega arith) h4 (Num (pos 0))) (λ h5 u5 g5 is5. sound_then notion (ints (nums + 1) (omega arith) (omega arith) h5 (Num (pos 0))) (λ h6 u6 g6 is6.
    sound_then notion (ints (nums + 2) (omega arith) (omega arith) h6 (Num (pos 0))) (λ h7 u7 g7 is7.
    let later3 = grows_then h3 h4 h7 g4 (grows_then h4 h5 h7 g5 (grows_then h5 h6 h7 g6 g7)) in
    turns_sound notion known (record { line = line; strings = strings; refs = refs; nums = nums; table = table; call = call procedure }) texts ints h7
    (λ now args more are. answers h7 procedure (of_kept notion.kind h3 h7 later3 (caller (key_type strings)) procedure is3) now args more are)
    n h7 None 0 (grows_not h7) (omega arith))))))))
