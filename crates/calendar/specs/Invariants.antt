-- What an accepted Calendar file is: its blocks, its lists, and the bytes of an appointment.
-- Assumes nothing.
use Rattle.std.specs.Prelude.{Ok, ℕ, ◌<◌, ◌≤◌, ◌+◌, ◌≡◌, List, length, true}
use Rattle.prelude.specs.Bytes.{byte, word}
use Rattle.calendar.specs.Reader.{most_bytes, calendar_identified, count_of, table_end, day_at, offset_at, block_at, list_end, table_from, days_from}
use Rattle.calendar.specs.Lists.{size_at, next_at, list_walk_from, places_in_list, verdict_in}
use Rattle.calendar.specs.Shown.{places_on}
use Rattle.calendar.specs.File.{last_block}

-- the bytes from a place up to a zero
pub record ZeroLast (f : List ℕ) (from last : ℕ) : Type 0 where
  pub order : from ≤ last
  pub inside : last < length f
  pub ends : byte f last ≡ 0

-- a list that ends at e, in a file of no more bytes than are allowed
pub record ListIn (f : List ℕ) (e : ℕ) : Type 0 where
  pub inside : e ≤ length f
  pub size : length f ≤ most_bytes

-- what the block of the descriptor at p is
pub record BlockAt (f : List ℕ) (p : ℕ) : Type 0 where
  pub low_bits : offset_at f p ≤ last_block
  pub behind : table_end f ≤ block_at f p
  pub words : block_at f p + 10 ≤ length f
  pub zero : word f (block_at f p) ≡ 0
  pub day : word f (block_at f p + 2) ≡ day_at f p
  pub one : word f (block_at f p + 4) ≡ 1
  pub whole : list_end f (block_at f p) ≤ length f

-- what an accepted file is
pub record AcceptedFile (f : List ℕ) (n : ℕ) : Type 0 where
  pub size : length f ≤ most_bytes
  pub named : calendar_identified f ≡ true
  pub count : n ≡ count_of f
  pub whole : table_end f ≤ length f
  pub rises : table_from (count_of f) f 64 0 ≡ Ok tt
  pub days : days_from (count_of f) f 64 ≡ Ok tt

-- a table of n descriptors that lies in the file
pub record WholeTable (f : List ℕ) (n : ℕ) : Type 0 where
  pub count : n ≡ count_of f
  pub whole : table_end f ≤ length f
  pub size : length f ≤ most_bytes

-- a descriptor's place in the table, which ends at e
pub record InTable (f : List ℕ) (e p : ℕ) : Type 0 where
  pub ends : e ≡ table_end f
  pub inside : p + 12 ≤ e
  pub whole : e ≤ length f
  pub size : length f ≤ most_bytes

-- an appointment whose bytes lie in the file
pub record AppointmentIn (f : List ℕ) (at : ℕ) : Type 0 where
  pub size : 5 ≤ size_at f at
  pub inside : next_at f at ≤ length f

-- a list from a place to its end e without refusal
pub record FineList (f : List ℕ) (e from : ℕ) : Type 0 where
  pub list : ListIn f e
  pub fine : verdict_in (list_walk_from f e 0 from) ≡ Ok tt

-- the list of a day
pub record ListOn (f : List ℕ) (d from e : ℕ) : Type 0 where
  pub list : FineList f e from
  pub places : places_on f d ≡ places_in_list (list_walk_from f e 0 from)
