-- What a run holds after the directory became known, and after a database was created or opened.
use Rattle.std.proofs.Common.{true, false, inl, inr, ◌⊎◌, ◌≡◌, ◌≢◌, ℕ, zero, suc, ◌+◌, ◌<◌, List, [], ◌∷◌, ◌++◌, length, map, refl, sym, ap, ◌∙◌, subst, arith, Option, Some, None, nat_eq, length-append}
use Rattle.std.proofs.lemmas.Bool.{cases_Bool, cases_eq, eq-eqb, ne_eqb, eqb-true, true≢false}
use Rattle.std.proofs.lemmas.List.{get_or-append-add, get_or_append_left, map-append}
use Rattle.joint_ops.specs.ps_outside.Outside.{Outside}
use Rattle.joint_ops.specs.obj_layout.Stored.{Space}
use Rattle.joint_ops.specs.obj_layout.declared.reference.Reference.{Reference}
use Rattle.joint_ops.specs.swizzle.Heap as area
use Rattle.joint_ops.specs.World.{seen}
use Rattle.joint_ops.specs.heap_meaning.Paired.{paired}
use Rattle.joint_ops.specs.ps_heap.Databases.{Directory, Database, database_at, database_from, Opening, Mode, Reading, Writing, with_writing, numbers_for_writing, each_once, open_for_writing}
use Rattle.joint_ops.specs.ps_heap.Held.{Held}
use Rattle.joint_ops.specs.ps_heap.Calls.{directory_known}
use Rattle.db_dir.specs.Directories.{IsDirectoryAt}
use Rattle.reaching.specs.Reaching.{IsIn, is_in}
use Rattle.reaching.proofs.Lists.{then_is, else_is, in-is_in, not-is_in, in-append, in-front, in-behind}
use Rattle.commit_walk.specs.Homes.{source_at}
use Rattle.commit_walk.specs.declared.homes.Source.{Source}
use Rattle.reach_commit.specs.Becoming.{AreNewRoots, IsNewRoot}
use Rattle.joint_held.specs.Held.{IsOf, HasRoot, IsSource, HoldsRun}
use Rattle.joint_held.specs.Opening.{with_database, with_opening, and_source, CreatesDatabase}

-- Numbers of openings.

once-new : (before ns : List ℕ) (n : ℕ) → is_in n before ≡ false → (IsIn n (each_once before ns) → ⊥) → each_once before (ns ++ n ∷ []) ≡ each_once before ns ++ n ∷ []
unfolding each_once
once-new before [] n away none = else_is (is_in n before) (each_once before []) (n ∷ each_once (n ∷ before) []) away
once-new before (m ∷ ns) n away none =
    elim (cases_Bool (is_in m before)) [
      | inl there ↦
          then_is (is_in m before) (each_once before (ns ++ n ∷ [])) (m ∷ each_once (m ∷ before) (ns ++ n ∷ [])) there
          ∙ (once-new before ns n away (λ l. none (subst (IsIn n) (sym (then_is (is_in m before) (each_once before ns) (m ∷ each_once (m ∷ before) ns) there)) l))
          ∙ ap (λ (l : List ℕ). l ++ n ∷ []) (sym (then_is (is_in m before) (each_once before ns) (m ∷ each_once (m ∷ before) ns) there)))
      | inr new_is ↦
          let is = else_is (is_in m before) (each_once before ns) (m ∷ each_once (m ∷ before) ns) new_is in
          let apart : n ≢ m = λ e. none (subst (IsIn n) (sym is) (inl e)) in
          let more : is_in n (m ∷ before) ≡ false = not-is_in n (m ∷ before) (λ l. elim l [ inl e ↦ apart e | inr k ↦ true≢false (sym (in-is_in n before k) ∙ away) ]) in
          else_is (is_in m before) (each_once before (ns ++ n ∷ [])) (m ∷ each_once (m ∷ before) (ns ++ n ∷ [])) new_is
          ∙ (ap (λ (l : List ℕ). m ∷ l) (once-new (m ∷ before) ns n more (λ l. none (subst (IsIn n) (sym is) (inr l))))
          ∙ ap (λ (l : List ℕ). l ++ n ∷ []) (sym is))
    ]

once-again : (before ns : List ℕ) (n : ℕ) → IsIn n before ⊎ IsIn n (each_once before ns) → each_once before (ns ++ n ∷ []) ≡ each_once before ns
unfolding each_once
once-again before [] n (inl l) = then_is (is_in n before) (each_once before []) (n ∷ each_once (n ∷ before) []) (in-is_in n before l)
once-again before [] n (inr l) = absurd l
once-again before (m ∷ ns) n seen =
    elim (cases_Bool (is_in m before)) [
      | inl there ↦
          let is = then_is (is_in m before) (each_once before ns) (m ∷ each_once (m ∷ before) ns) there in
          then_is (is_in m before) (each_once before (ns ++ n ∷ [])) (m ∷ each_once (m ∷ before) (ns ++ n ∷ [])) there
          ∙ (once-again before ns n (elim seen [ inl l ↦ inl l | inr l ↦ inr (subst (IsIn n) is l) ]) ∙ sym is)
      | inr new_is ↦
          let is = else_is (is_in m before) (each_once before ns) (m ∷ each_once (m ∷ before) ns) new_is in
          let now : IsIn n (m ∷ before) ⊎ IsIn n (each_once (m ∷ before) ns) =
          elim seen [ inl l ↦ inl (inr l) | inr l ↦ (elim (subst (IsIn n) is l) [ inl e ↦ inl (inl e) | inr k ↦ inr k ]) ] in
          else_is (is_in m before) (each_once before (ns ++ n ∷ [])) (m ∷ each_once (m ∷ before) (ns ++ n ∷ [])) new_is
          ∙ (ap (λ (l : List ℕ). m ∷ l) (once-again (m ∷ before) ns n now) ∙ sym is)
    ]

mode-more : (mode : Mode) (n number : ℕ) (xs : List ℕ) → with_writing mode n (xs ++ number ∷ []) ≡ with_writing mode n xs ++ number ∷ []
mode-more Reading n number xs = refl
mode-more Writing n number xs = refl

numbers-more : (os : List Opening) (number : ℕ) → numbers_for_writing (os ++ record { number = number; mode = Writing } ∷ []) ≡ numbers_for_writing os ++ number ∷ []
numbers-more [] number = refl
numbers-more (o ∷ os) number = ap (with_writing o.mode o.number) (numbers-more os number) ∙ mode-more o.mode o.number number (numbers_for_writing os)

numbers-read : (os : List Opening) (number : ℕ) → numbers_for_writing (os ++ record { number = number; mode = Reading } ∷ []) ≡ numbers_for_writing os
numbers-read [] number = refl
numbers-read (o ∷ os) number = ap (with_writing o.mode o.number) (numbers-read os number)

open-more : (os : List Opening) (number : ℕ) → (IsIn number (open_for_writing os) → ⊥) → open_for_writing (os ++ record { number = number; mode = Writing } ∷ []) ≡ open_for_writing os ++ number ∷ []
open-more os number none = ap (each_once []) (numbers-more os number) ∙ once-new [] (numbers_for_writing os) number (not-is_in number [] (λ l. l)) none

open-again : (os : List Opening) (number : ℕ) → IsIn number (open_for_writing os) → open_for_writing (os ++ record { number = number; mode = Writing } ∷ []) ≡ open_for_writing os
open-again os number l = ap (each_once []) (numbers-more os number) ∙ once-again [] (numbers_for_writing os) number (inr l)

open-read : (os : List Opening) (number : ℕ) → open_for_writing (os ++ record { number = number; mode = Reading } ∷ []) ≡ open_for_writing os
open-read os number = ap (each_once []) (numbers-read os number)

-- The databases of a directory with one more.

from-front : (ds : Directory) (more d : Database) (from number : ℕ) → database_from from ds number ≡ Some d → database_from from (ds ++ more ∷ []) number ≡ Some d
unfolding database_from
from-front [] more d from number e = let bad : None ≡ Some d = e in absurd (cc)
from-front (c ∷ ds) more d from number e =
    elim (cases_Bool (nat_eq from number)) [
      | inl same ↦ then_is (nat_eq from number) (Some c) (database_from (suc from) (ds ++ more ∷ []) number) same ∙ (sym (then_is (nat_eq from number) (Some c) (database_from (suc from) ds number) same) ∙ e)
      | inr apart ↦
          else_is (nat_eq from number) (Some c) (database_from (suc from) (ds ++ more ∷ []) number) apart
          ∙ from-front ds more d (suc from) number (sym (else_is (nat_eq from number) (Some c) (database_from (suc from) ds number) apart) ∙ e)
    ]

from-last : (ds : Directory) (more : Database) (from : ℕ) → database_from from (ds ++ more ∷ []) (from + length ds) ≡ Some more
unfolding database_from
from-last [] more from = then_is (nat_eq from (from + 0)) (Some more) (database_from (suc from) [] (from + 0)) (eq-eqb from (from + 0) (omega arith))
from-last (d ∷ ds) more from =
    let step : from + suc (length ds) ≡ suc from + length ds = omega arith in
    else_is (nat_eq from (from + suc (length ds))) (Some d) (database_from (suc from) (ds ++ more ∷ []) (from + suc (length ds))) (ne_eqb from (from + suc (length ds)) (λ e. omega (arith, e)))
    ∙ (ap (database_from (suc from) (ds ++ more ∷ [])) step ∙ from-last ds more (suc from))

from-cases : (ds : Directory) (more d : Database) (from number : ℕ) → database_from from (ds ++ more ∷ []) number ≡ Some d → (database_from from ds number ≡ Some d) ⊎ (number ≡ from + length ds)
unfolding database_from
from-cases [] more d from number e =
    elim (cases_Bool (nat_eq from number)) [
      | inl same ↦ let is = eqb-true from number same in inr (omega (arith, is))
      | inr apart ↦ let bad : None ≡ Some d = sym (else_is (nat_eq from number) (Some more) (database_from (suc from) [] number) apart) ∙ e in absurd (cc)
    ]
from-cases (c ∷ ds) more d from number e =
    elim (cases_Bool (nat_eq from number)) [
      | inl same ↦ inl (then_is (nat_eq from number) (Some c) (database_from (suc from) ds number) same ∙ (sym (then_is (nat_eq from number) (Some c) (database_from (suc from) (ds ++ more ∷ []) number) same) ∙ e))
      | inr apart ↦
          elim (from-cases ds more d (suc from) number (sym (else_is (nat_eq from number) (Some c) (database_from (suc from) (ds ++ more ∷ []) number) apart) ∙ e)) [
            | inl was ↦ inl (else_is (nat_eq from number) (Some c) (database_from (suc from) ds number) apart ∙ was)
            | inr last ↦ inr (omega (arith, last))
          ]
    ]

-- Sources with one more.

left-source : (writing : List Source) (number : ℕ) (root : Option ℕ) (place : ℕ) → place < length writing → source_at (and_source writing number root) place ≡ source_at writing place
left-source writing number root place lt = get_or_append_left writing (record { number = number; root = root } ∷ []) (record { number = 0; root = None }) place lt

last-source : (writing : List Source) (number : ℕ) (root : Option ℕ) → source_at (and_source writing number root) (length writing) ≡ record { number = number; root = root }
last-source writing number root =
    let same : length writing ≡ length writing + 0 = omega arith in
    ap (source_at (and_source writing number root)) same ∙ get_or-append-add writing (record { number = number; root = root } ∷ []) 0 (record { number = 0; root = None })

place-or : (writing : List Source) (number : ℕ) (root : Option ℕ) (place : ℕ) → place < length (and_source writing number root) → (place < length writing) ⊎ (place ≡ length writing)
place-or writing number root place lt =
    let long = length-append writing (record { number = number; root = root } ∷ []) in
    elim (cases_eq place (length writing)) [ inl e ↦ inr e | inr ne ↦ inl (omega (arith, lt, long, ne)) ]

number-among : (writing : List Source) (place : ℕ) → place < length writing → IsIn (source_at writing place).number (map (λ s. s.number) writing)
number-among [] place lt = omega (arith, lt)
number-among (s ∷ ss) zero lt = inl refl
number-among (s ∷ ss) (suc place) lt = inr (number-among ss place (omega (arith, lt)))

module _ (here : area.Heap) (outside : Outside Space) (names : List Reference) (writing : List Source) (h : Held) where
  -- The directory is known.
  pub known-run : (directory now : Option ℕ) → IsDirectoryAt here (seen here outside) (paired names) now h.directory → HoldsRun here outside names writing directory h
      → HoldsRun here outside names writing now (directory_known h)
  known-run directory now d run = record {
    store = run.store;
    world = run.world;
    homes = run.homes;
    homed = run.homed;
    assigned = run.assigned;
    trees = run.trees;
    current = run.current;
    sources = record {
      numbers = run.sources.numbers;
      each = λ place lt. record {
        made = λ at e. let m = (run.sources.each place lt).made at e in (m.0, record { database = m.1.database; is = m.1.is; root = m.1.root });
        other = (run.sources.each place lt).other;
      };
      made = run.sources.made;
      roots = run.sources.roots;
      others = run.sources.others;
    };
    asked = λ e. d;
    unasked = λ e. absurd (true≢false e);
  }

  module _ (directory : Option ℕ) (run : HoldsRun here outside names writing directory h) where
    source-number : (place : ℕ) → place < length writing → IsIn (source_at writing place).number (open_for_writing h.openings)
    source-number place lt = subst (IsIn (source_at writing place).number) run.sources.numbers (number-among writing place lt)

    old-root : (k : Held) → ((number : ℕ) (d : Database) → database_at h.directory number ≡ Some d → database_at k.directory number ≡ Some d) → (number at : ℕ) → HasRoot here names h number at → HasRoot here names k number at
    old-root k same number at r = record { database = r.database; is = same number r.database r.is; root = r.root }

    -- A database is opened that is open for writing already, or for reading.
    pub same-run : (number : ℕ) (mode : Mode) → open_for_writing (h.openings ++ record { number = number; mode = mode } ∷ []) ≡ open_for_writing h.openings → h.asked ≡ true
        → HoldsRun here outside names writing directory (with_opening number mode h)
    same-run number mode same asked = record {
      store = run.store;
      world = run.world;
      homes = run.homes;
      homed = run.homed;
      assigned = run.assigned;
      trees = run.trees;
      current = run.current;
      sources = record {
        numbers = run.sources.numbers ∙ sym same;
        each = λ place lt. record {
          made = λ at e. let m = (run.sources.each place lt).made at e in (m.0, old-root (with_opening number mode h) (λ n d e. e) (source_at writing place).number at m.1);
          other = (run.sources.each place lt).other;
        };
        made = λ n l. subst (IsIn n) (sym same) (run.sources.made n l);
        roots = run.sources.roots;
        others = run.sources.others;
      };
      asked = run.asked;
      unasked = λ e. absurd (true≢false (sym asked ∙ e));
    }

    pub read-run : (number : ℕ) → h.asked ≡ true → HoldsRun here outside names writing directory (with_opening number Reading h)
    read-run number asked = same-run number Reading (open-read h.openings number) asked

    pub again-run : (number : ℕ) → IsIn number (open_for_writing h.openings) → h.asked ≡ true → HoldsRun here outside names writing directory (with_opening number Writing h)
    again-run number l asked = same-run number Writing (open-again h.openings number l) asked

    new-roots : (number : ℕ) (root : Option ℕ) → ((at : ℕ) → root ≡ Some at → IsNewRoot here (and_source writing number root) (length writing) at)
        → ((place : ℕ) → place < length writing → (at : ℕ) → root ≡ Some at → (source_at writing place).root ≢ Some at) → AreNewRoots here (and_source writing number root)
    new-roots number root last apart place at lt e = elim (place-or writing number root place lt) [
      | inr last_is ↦
          let is = ap (source_at (and_source writing number root)) last_is ∙ last-source writing number root in
          subst (λ p. IsNewRoot here (and_source writing number root) p at) (sym last_is) (last at (sym (ap (λ (s : Source). s.root) is) ∙ e))
      | inl low ↦
          let is = left-source writing number root place low in
          let r = run.sources.roots place at low (sym (ap (λ (s : Source). s.root) is) ∙ e) in
          record {
            held = r.held;
            unstored = r.unstored;
            kind = r.kind;
            only = λ p lt_p e_p. elim (place-or writing number root p lt_p) [
              | inl low_p ↦ r.only p low_p (sym (ap (λ (s : Source). s.root) (left-source writing number root p low_p)) ∙ e_p)
              | inr last_p ↦
                  let is_p = ap (source_at (and_source writing number root)) last_p ∙ last-source writing number root in
                  absurd (apart place low at (sym (ap (λ (s : Source). s.root) is_p) ∙ e_p) (sym (ap (λ (s : Source). s.root) is) ∙ e))
            ];
          }
    ]

    -- A database is opened for writing that wasn't open so.
    pub opened-run : (number : ℕ) → (IsIn number (open_for_writing h.openings) → ⊥) → h.asked ≡ true → HoldsRun here outside names (and_source writing number None) directory (with_opening number Writing h)
    opened-run number fresh asked = record {
      store = run.store;
      world = run.world;
      homes = run.homes;
      homed = run.homed;
      assigned = run.assigned;
      trees = run.trees;
      current = run.current;
      sources = record {
        numbers = map-append (λ (s : Source). s.number) writing (record { number = number; root = None } ∷ []) ∙ (ap (λ (l : List ℕ). l ++ number ∷ []) run.sources.numbers ∙ sym (open-more h.openings number fresh));
        each = λ place lt. elim (place-or writing number None place lt) [
          | inl low ↦ subst (IsSource here names (with_opening number Writing h)) (sym (left-source writing number None place low)) (record {
            made = λ at e. let m = (run.sources.each place low).made at e in (m.0, old-root (with_opening number Writing h) (λ n d e. e) (source_at writing place).number at m.1);
            other = (run.sources.each place low).other;
          })
          | inr last ↦ subst (IsSource here names (with_opening number Writing h)) (sym (ap (source_at (and_source writing number None)) last ∙ last-source writing number None)) (record {
            made = λ at e. let bad : None ≡ Some at = e in absurd (cc);
            other = λ e l. fresh (run.sources.made number l);
          })
        ];
        made = λ n l. subst (IsIn n) (sym (open-more h.openings number fresh)) (in-front n (open_for_writing h.openings) (number ∷ []) (run.sources.made n l));
        roots = new-roots number None (λ at e. let bad : None ≡ Some at = e in absurd (cc)) (λ place lt at e f. let bad : None ≡ Some at = e in absurd (cc));
        others = run.sources.others;
      };
      asked = run.asked;
      unasked = λ e. absurd (true≢false (sym asked ∙ e));
    }

    -- A database is created.
    module _ (now : Option ℕ) (d : Database) (at : ℕ) (c : CreatesDatabase here outside names writing now h d at) where
      abbrev Number : ℕ
      Number = suc (length h.directory)

      at-front : (number : ℕ) (e : Database) → database_at h.directory number ≡ Some e → database_at (h.directory ++ d ∷ []) number ≡ Some e
      unfolding database_at
      at-front number e is = from-front h.directory d e 1 number is

      at-last : database_at (h.directory ++ d ∷ []) Number ≡ Some d
      unfolding database_at
      at-last = let same : Number ≡ 1 + length h.directory = omega arith in ap (database_from 1 (h.directory ++ d ∷ [])) same ∙ from-last h.directory d 1

      at-cases : (number : ℕ) (e : Database) → database_at (h.directory ++ d ∷ []) number ≡ Some e → (database_at h.directory number ≡ Some e) ⊎ (number ≡ Number)
      unfolding database_at
      at-cases number e is = elim (from-cases h.directory d e 1 number is) [ inl was ↦ inl was | inr last ↦ inr (omega (arith, last)) ]

      pub created-run : HoldsRun here outside names (and_source writing Number (Some at)) now (with_database d h)
      created-run = record {
        store = run.store;
        world = run.world;
        homes = run.homes;
        homed = run.homed;
        assigned = run.assigned;
        trees = run.trees;
        current = run.current;
        sources = record {
          numbers = map-append (λ (s : Source). s.number) writing (record { number = Number; root = Some at } ∷ []) ∙ (ap (λ (l : List ℕ). l ++ Number ∷ []) run.sources.numbers ∙ sym (open-more h.openings Number c.fresh));
          each = λ place lt. elim (place-or writing Number (Some at) place lt) [
            | inl low ↦ subst (IsSource here names (with_database d h)) (sym (left-source writing Number (Some at) place low)) (record {
              made = λ x e.
                  let m = (run.sources.each place low).made x e in
                  (in-front (source_at writing place).number h.created (Number ∷ []) m.0, old-root (with_database d h) at-front (source_at writing place).number x m.1);
              other = λ e l. elim (in-append (source_at writing place).number h.created (Number ∷ []) l) [
                | inl was ↦ (run.sources.each place low).other e was
                | inr new_is ↦ elim new_is [ inl same ↦ c.fresh (subst (λ n. IsIn n (open_for_writing h.openings)) same (source-number place low)) | inr none ↦ none ]
              ];
            })
            | inr last ↦ subst (IsSource here names (with_database d h)) (sym (ap (source_at (and_source writing Number (Some at))) last ∙ last-source writing Number (Some at))) (record {
              made = λ x e.
                  let same : at ≡ x = some_same at x e in
                  (in-behind Number h.created (Number ∷ []) (inl refl), record { database = d; is = at-last; root = subst (λ y. IsOf here names y d.root) same c.root });
              other = λ e l. let bad : Some at ≡ None = e in absurd (cc);
            })
          ];
          made = λ n l. subst (IsIn n) (sym (open-more h.openings Number c.fresh)) (elim (in-append n h.created (Number ∷ []) l) [
            | inl was ↦ in-front n (open_for_writing h.openings) (Number ∷ []) (run.sources.made n was)
            | inr new_is ↦ in-behind n (open_for_writing h.openings) (Number ∷ []) new_is
          ]);
          roots = new-roots Number (Some at)
              (λ x e.
              let same : at ≡ x = some_same at x e in
              subst (IsNewRoot here (and_source writing Number (Some at)) (length writing)) same (record {
                held = c.root.held;
                unstored = c.unstored;
                kind = c.table;
                only = λ p lt e_p. elim (place-or writing Number (Some at) p lt) [
                  | inr last ↦ last
                  | inl low ↦ absurd (c.only p low (sym (ap (λ (s : Source). s.root) (left-source writing Number (Some at) p low)) ∙ e_p))
                ];
              }))
              (λ place lt x e f. c.only place lt (f ∙ sym e));
          others = λ number e is away. elim (at-cases number e is) [
            | inl was ↦ run.sources.others number e was (λ l. away (in-front number h.created (Number ∷ []) l))
            | inr last ↦ absurd (away (in-behind number h.created (Number ∷ []) (inl last)))
          ];
        };
        asked = λ e. c.named;
        unasked = λ e. absurd (true≢false (sym c.asked ∙ e));
      }
        where
          some_same : (a b : ℕ) → Some a ≡ Some b → a ≡ b
          some_same a b e = cc
