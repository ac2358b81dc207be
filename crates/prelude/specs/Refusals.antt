-- Document 01, "The numbers given on refusal", and the requests' numbers: each under a name, in the papers' order.
-- Assumes nothing.
use Rattle.std.specs.Prelude.{ℕ}
use Rattle.prelude.specs.declared.refusals.Fault.{Fault}
use Rattle.prelude.specs.declared.refusals.Refusal.{Refusal}

-- 1: book over 65,535 bytes
abbrev pub book_too_long : ℕ
book_too_long = 1

-- 2: first five bytes missing or different
abbrev pub not_a_book : ℕ
not_a_book = 2

-- 3: settings missing or out of range
abbrev pub bad_settings : ℕ
bad_settings = 3

-- 4: fewer than three head bytes, or body past the file's end
abbrev pub cut_short : ℕ
cut_short = 4

-- 5: type not 1..6 or 50, or type 50 with L not 0
abbrev pub unknown_type : ℕ
unknown_type = 5

-- 6: L below the fixed bytes, text over 27, or fixed + text + note over L
abbrev pub bad_length : ℕ
bad_length = 6

-- 7: a field outside its range
abbrev pub bad_field : ℕ
bad_field = 7

-- 8: text or note against its rule
abbrev pub bad_text : ℕ
bad_text = 8

-- 9: bytes after the end record, more than 127 or not all 1Ah (R-1)
abbrev pub after_end : ℕ
after_end = 9

-- 10: no record, line, descriptor or appointment of that number
abbrev pub no_such_number : ℕ
no_such_number = 10

-- 11: day, date or span handed over outside its range
abbrev pub out_of_range : ℕ
out_of_range = 11

-- 12: lent buffer shorter than the file or list to be written
abbrev pub no_room : ℕ
no_room = 12

-- 13: a day's block would start at block 32,768 or later
abbrev pub too_many_blocks : ℕ
too_many_blocks = 13

-- 14: writing state not opened or already closed
abbrev pub not_open : ℕ
not_open = 14

-- 20: Calendar file over 2,228,224 bytes
abbrev pub calendar_too_long : ℕ
calendar_too_long = 20

-- 21: under 64 bytes or wrong eight bytes
abbrev pub not_a_calendar : ℕ
not_a_calendar = 21

-- 22: table past the end, day over 43,829, or days not strictly rising
abbrev pub bad_table : ℕ
bad_table = 22

-- 23: offset with its high bit set or inside head or table; block past the end; block's day, 0 or 1 wrong
abbrev pub bad_block : ℕ
bad_block = 23

-- 24: an appointment against its rule
abbrev pub bad_appointment : ℕ
bad_appointment = 24

-- 30 to 33 are R-2's, in its words; their places are numbers of entries and records, from 0

-- 30: array sizes
abbrev pub bad_arrays : ℕ
bad_arrays = 30

-- 31: an entry that is cut short, breaks the rise of dates, has 65,535 before the last, or is last without it
abbrev pub bad_day_table : ℕ
bad_day_table = 31

-- 32: a head that is bad or an earlier entry's; a next out of range or not named back
abbrev pub bad_chain : ℕ
bad_chain = 32

-- 33: a reached record with a kind over 2, an appointment minute over 1,439, or out of order
abbrev pub bad_chain_order : ℕ
bad_chain_order = 33

-- 43 and 44 are R-9's

-- 43: the first entry of a list of cancelled days that breaks its rules or is a record's seventeenth; its place is the entry's number, from 0
abbrev pub bad_cancelled : ℕ
bad_cancelled = 43

-- 44: add is told of cancelled days
abbrev pub has_cancelled : ℕ
has_cancelled = 44

-- the number of each
abbrev pub number_of : Fault → ℕ
number_of Fault.BookTooLong = book_too_long
number_of Fault.NotABook = not_a_book
number_of Fault.BadSettings = bad_settings
number_of Fault.CutShort = cut_short
number_of Fault.UnknownType = unknown_type
number_of Fault.BadLength = bad_length
number_of Fault.BadField = bad_field
number_of Fault.BadText = bad_text
number_of Fault.AfterEnd = after_end
number_of Fault.NoSuchNumber = no_such_number
number_of Fault.OutOfRange = out_of_range
number_of Fault.NoRoom = no_room
number_of Fault.TooManyBlocks = too_many_blocks
number_of Fault.NotOpen = not_open
number_of Fault.CalendarTooLong = calendar_too_long
number_of Fault.NotACalendar = not_a_calendar
number_of Fault.BadTable = bad_table
number_of Fault.BadBlock = bad_block
number_of Fault.BadAppointment = bad_appointment
number_of Fault.BadArrays = bad_arrays
number_of Fault.BadDayTable = bad_day_table
number_of Fault.BadChain = bad_chain
number_of Fault.BadChainOrder = bad_chain_order
number_of Fault.BadCancelled = bad_cancelled
number_of Fault.HasCancelled = has_cancelled

-- the refusal of that number at that place
abbrev pub refusal_at : ℕ → ℕ → Refusal
refusal_at n p = record { number = n; place = p }

-- the refusal of that number where no file byte is meant
abbrev pub refusal : ℕ → Refusal
refusal n = refusal_at n 0
