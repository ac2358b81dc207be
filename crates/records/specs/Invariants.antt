-- What a date has to be to be written.
-- Assumes nothing.
use Rattle.std.specs.Prelude.{◌≤◌, ◌<◌}
use Rattle.days.specs.declared.types.Date.{Date}

-- a real date as three bytes
pub record ThreeBytes (d : Date) : Type 0 where
  pub from : 1900 ≤ d.year
  pub upto : d.year < 2156
  pub month : d.month < 256
  pub day : d.day < 256
