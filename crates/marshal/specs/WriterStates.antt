-- The writing state across C, as it goes in and comes back.
-- Assumes nothing.
use Rattle.std.specs.Prelude.{Err, Result, Ok}
use Rattle.writer.specs.declared.types.Writer.{Writer}
use Rattle.marshal.specs.declared.writer_states.WriterOut.{WriterOut}
use Rattle.writer.specs.declared.types.WriteRefusal.{WriteRefusal}

-- done: number 0; refused: the number, place 0, and the state as it came
unfoldable pub writer_out : Result Writer WriteRefusal → WriterOut
writer_out (Ok w) = record { number = 0; place = 0; used = w.used; closed = w.closed }
writer_out (Err e) = record { number = e.refusal.number; place = e.refusal.place; used = e.writer.used; closed = e.writer.closed }

-- number and place are not read
abbrev pub writer_in : WriterOut → Writer
writer_in w = record { used = w.used; closed = w.closed }
