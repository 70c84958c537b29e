-- Databases: the directory that names them, how they are opened, and why a call is refused.
use Rattle.std.specs.Prelude.{ℕ, suc, ◌+◌, ◌*◌, Bool, true, false, ◌||◌, nat_eq, nat_lt, if◌then◌else◌, codes, List, [], ◌∷◌, length, Option, Some, None}
use Rattle.ps_base.specs.Limits.{most_databases, most_database_name_bytes, most_password_bytes}
use Rattle.ps_heap.specs.Texts.{is_same_text}
use Rattle.ps_heap.specs.Weights.{text_weight}
use Rattle.reaching.specs.Reaching.{is_in}

-- the root is a table, by its id
pub record Database : Type 0 where
  pub name : List ℕ
  pub password : List ℕ
  pub root : ℕ

-- The databases in the order in which they were made. A database's number is its place in the directory, from 1.
abbrev pub Directory : Type 0
Directory = List Database

pub record Numbered : Type 0 where
  pub number : ℕ
  pub database : Database

abbrev pub named_from : ℕ → Directory → List ℕ → Option Numbered
named_from n [] name = None
named_from n (d ∷ ds) name = if is_same_text d.name name then Some (record { number = n; database = d }) else named_from (suc n) ds name

-- the database of this name
abbrev pub named : Directory → List ℕ → Option Numbered
named directory name = named_from 1 directory name

unfoldable pub database_from : ℕ → Directory → ℕ → Option Database
database_from n [] number = None
database_from n (d ∷ ds) number = if nat_eq n number then Some d else database_from (suc n) ds number

-- the database of this number
unfoldable pub database_at : Directory → ℕ → Option Database
database_at directory number = database_from 1 directory number

abbrev pub root_of : Option Database → List ℕ
root_of None = []
root_of (Some d) = d.root ∷ []

unfoldable pub every_root : Directory → List ℕ
every_root [] = []
every_root (d ∷ ds) = d.root ∷ every_root ds

-- a directory of so many databases, and one with the names and passwords in it
abbrev pub directory_weight : ℕ → ℕ
directory_weight count = 40 + 24 * count

abbrev pub names_weight : Directory → ℕ
names_weight [] = 0
names_weight (d ∷ ds) = text_weight d.name + text_weight d.password + names_weight ds

abbrev pub full_directory_weight : Directory → ℕ
full_directory_weight directory = directory_weight (length directory) + names_weight directory

-- Opening. A database that was opened for reading may be opened for writing later, and is open for writing from then on.

pub data Mode : Type 0 where
  Reading Writing : Mode

pub record Opening : Type 0 where
  pub number : ℕ
  pub mode : Mode

abbrev pub with_writing : Mode → ℕ → List ℕ → List ℕ
with_writing Reading number numbers = numbers
with_writing Writing number numbers = number ∷ numbers

abbrev pub numbers_for_writing : List Opening → List ℕ
numbers_for_writing [] = []
numbers_for_writing (opening ∷ more) = with_writing opening.mode opening.number (numbers_for_writing more)

unfoldable pub each_once : List ℕ → List ℕ → List ℕ
each_once before [] = []
each_once before (n ∷ ns) = if is_in n before then each_once before ns else n ∷ each_once (n ∷ before) ns

-- the databases open for writing, in the order in which they became so
abbrev pub open_for_writing : List Opening → List ℕ
open_for_writing openings = each_once [] (numbers_for_writing openings)

abbrev pub is_named_in : ℕ → List Opening → Bool
is_named_in number [] = false
is_named_in number (opening ∷ more) = if nat_eq number opening.number then true else is_named_in number more

-- how a database is open, where it is
abbrev pub mode_of : List Opening → ℕ → Option Mode
mode_of openings number =
    if is_in number (numbers_for_writing openings) then Some Writing else
    if is_named_in number openings then Some Reading else None

-- Why a call of the library answers an error record.
pub data Fault : Type 0 where
  BadName BadPassword Exists TooMany NoSuchDatabase WrongPassword BadMode NotWritable BusyWriter StaleStart : Fault

abbrev pub fault_text : Fault → List ℕ
fault_text BadName = codes "bad name"
fault_text BadPassword = codes "bad password"
fault_text Exists = codes "exists"
fault_text TooMany = codes "too many"
fault_text NoSuchDatabase = codes "no such database"
fault_text WrongPassword = codes "password"
fault_text BadMode = codes "bad mode"
fault_text NotWritable = codes "not writable"
fault_text BusyWriter = codes "busy"
fault_text StaleStart = codes "stale"

abbrev pub explain_text : Fault → List ℕ
explain_text BadName = codes "a name has 1 to 64 bytes"
explain_text BadPassword = codes "a password has at most 64 bytes"
explain_text Exists = codes "a database has this name"
explain_text TooMany = codes "a volume holds 256 databases"
explain_text NoSuchDatabase = codes "no database has this name"
explain_text WrongPassword = codes "the password differs"
explain_text BadMode = codes "the mode is read or write"
explain_text NotWritable = codes "an assigned object's home is not open for writing"
explain_text BusyWriter = codes "another session is writing"
explain_text StaleStart = codes "the volume changed since this session began"

-- Creating: the tests in their order.
abbrev pub is_there : {A : Type 0} → Option A → Bool
is_there None = false
is_there (Some a) = true

unfoldable pub create_fault : Directory → List ℕ → List ℕ → Option Fault
create_fault directory name password =
    if nat_eq (length name) 0 || nat_lt most_database_name_bytes (length name) then Some BadName else
    if nat_lt most_password_bytes (length password) then Some BadPassword else
    if is_there (named directory name) then Some Exists else
    if nat_eq (length directory) most_databases then Some TooMany else None

-- Opening: the tests in their order.
abbrev pub mode_named : List ℕ → Option Mode
mode_named text = if is_same_text text (codes "read") then Some Reading else if is_same_text text (codes "write") then Some Writing else None

pub data Admission : Type 0 where
  Admits : (to : Numbered) (mode : Mode) → Admission
  Refuses : (fault : Fault) → Admission

abbrev pub admitted_as : Numbered → Option Mode → Admission
admitted_as d None = Refuses BadMode
admitted_as d (Some mode) = Admits d mode

abbrev pub admitted_to : Option Numbered → List ℕ → List ℕ → Admission
admitted_to None password mode = Refuses NoSuchDatabase
admitted_to (Some d) password mode = if is_same_text d.database.password password then admitted_as d (mode_named mode) else Refuses WrongPassword

unfoldable pub admission : Directory → List ℕ → List ℕ → List ℕ → Admission
admission directory name password mode = admitted_to (named directory name) password mode
