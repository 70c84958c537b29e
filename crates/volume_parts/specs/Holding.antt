-- What stands in a volume.
use Rattle.std.specs.Prelude.{ℕ, ◌+◌, ◌*◌, ◌%◌, ◌^◌, List, take}
use Rattle.volume_parts.specs.Layout.{number_at, pages_of_words}
use Rattle.volume_parts.specs.declared.note.Note.{Note}

-- what its root page says, and the bytes of its logical pages, one page after the other
pub record Held : Type 0 where
  pub note : Note
  pub bytes : List ℕ

abbrev pub note_at : ℕ → List ℕ → Note
note_at root image = record { commits = number_at root 8 image; used = number_at (root + 8) 8 image; directory = number_at (root + 16) 8 image }

-- what is committed with so many used words and this directory, of what is held
abbrev pub next_note : ℕ → ℕ → Note → Note
next_note used directory note = record { commits = (note.commits + 1) % 2 ^ 64; used = used; directory = directory }

abbrev pub saved : ℕ → ℕ → Held → Held
saved used directory held = record { note = next_note used directory held.note; bytes = take (4096 * pages_of_words used) held.bytes }
