-- `respond` meets its contract: each command by its own equation, in the program's room.
use Rattle.commands.specs.Responses.{response}
use Rattle.commands.proofs.responding.respond.Goals as goal

pub returns-in-Page : goal.returns-in-Page
unfolding response
returns-in-Page c = record { next = rw c.in-Page.is (rw c.requires at c.page_response.ensures.next); put = rw c.in-Page.is (rw c.requires at c.page_response.ensures.put); within = c.page_response.ensures.within }

pub returns-in-Export : goal.returns-in-Export
unfolding response
returns-in-Export c = record { next = rw c.in-Export.is (rw c.requires at c.export_response.ensures.next); put = rw c.in-Export.is (rw c.requires at c.export_response.ensures.put); within = c.export_response.ensures.within }

pub returns-in-Unknown : goal.returns-in-Unknown
unfolding response
returns-in-Unknown c = record { next = rw c.in-Unknown.is c.other_response.ensures.next; put = rw c.in-Unknown.is c.other_response.ensures.put; within = c.other_response.ensures.within }
