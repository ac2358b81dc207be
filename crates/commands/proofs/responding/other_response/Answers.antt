-- `other_response` meets its contract: the book decides.
use Rattle.std.proofs.Common.{sym, ◌∙◌}
use Rattle.commands.specs.Responses.{other_response}
use Rattle.commands.proofs.responding.other_response.Goals as goal

pub returns-in-Ok : goal.returns-in-Ok
unfolding other_response
returns-in-Ok c = record { next = rw (sym c.read_book.ensures ∙ c.in-Ok.is) c.put_refusal.ensures.next; put = rw (sym c.read_book.ensures ∙ c.in-Ok.is) c.put_refusal.ensures.put; within = c.put_refusal.ensures.within }

pub returns-in-Err : goal.returns-in-Err
unfolding other_response
returns-in-Err c = record { next = rw (sym c.read_book.ensures ∙ c.in-Err.is) c.put_refusal-in-Err.ensures.next; put = rw (sym c.read_book.ensures ∙ c.in-Err.is) c.put_refusal-in-Err.ensures.put; within = c.put_refusal-in-Err.ensures.within }
