-- The limits of the language and of its programs, each by its value. A definition that has a limit cites it from here.
use Rattle.std.specs.Prelude.{ℕ}

-- the bytes of each text that a command reads, as a source text and an input
abbrev pub most_text_bytes : ℕ
most_text_bytes = 1048576

-- the bytes of a name in a text
abbrev pub most_name_bytes : ℕ
most_name_bytes = 64

-- the bytes of a string, and so of a line that is read
abbrev pub most_string_bytes : ℕ
most_string_bytes = 65535

-- the width of an item of a `write`
abbrev pub most_width : ℕ
most_width = 65535

-- the clauses and types of a text inside one another
abbrev pub most_nested : ℕ
most_nested = 100

-- the fields of a structure
abbrev pub most_fields : ℕ
most_fields = 64

-- the parameters of a procedure
abbrev pub most_parameters : ℕ
most_parameters = 64

-- the slots of a body
abbrev pub most_slots : ℕ
most_slots = 512

-- the calls inside one another
abbrev pub most_calls : ℕ
most_calls = 2000

-- the elements of a vector
abbrev pub most_elements : ℕ
most_elements = 1048576

-- the databases of a volume
abbrev pub most_databases : ℕ
most_databases = 256

-- the bytes of the name of a database
abbrev pub most_database_name_bytes : ℕ
most_database_name_bytes = 64

-- the bytes of the password of a database
abbrev pub most_password_bytes : ℕ
most_password_bytes = 64
