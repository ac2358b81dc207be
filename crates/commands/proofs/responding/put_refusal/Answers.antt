-- `put_refusal` meets its contract: number, space, place and 0Ah, one behind the other.
-- what is left to write
use Rattle.std.proofs.Common.{[], arith, length, ◌++◌, ◌+◌, ◌∷◌, ◌≤◌}
use Rattle.prelude.proofs.Laws.Grown.{Grown, grown_start, grown-space, grown-last-fits, grown-more, grown-last}
use Rattle.digits.specs.Digits.{decimal}
use Rattle.printing.specs.Printed.{newline, space as blank}
use Rattle.commands.specs.Responses.{refusal_text}
use Rattle.commands.proofs.Laws.Responses.{length-refusal}
use Rattle.commands.proofs.responding.put_refusal.Goals as goal

pub put_decimal-a-requires : goal.put_decimal-a-requires
unfolding refusal_text
put_decimal-a-requires c = grown-space (decimal _) _ ((let g0 : (Grown c.args.out.now 0 (refusal_text c.args.e) c.args.out.now 0 (decimal c.args.e.number ++ (blank ∷ (decimal c.args.e.place ++ (newline ∷ []))))) = grown_start ((let room : 0 + length (refusal_text c.args.e) ≤ length c.args.out.now = let l = length-refusal c.args.e (omega arith) (omega arith) in omega arith in room)) in g0))

pub put_byte-b-requires : goal.put_byte-b-requires
unfolding refusal_text
put_byte-b-requires c = grown-space (blank ∷ []) _ ((let g1 : (Grown c.args.out.now 0 (refusal_text c.args.e) c.put_decimal-a.new.out c.put_decimal-a.result (blank ∷ (decimal c.args.e.place ++ (newline ∷ [])))) = grown-more _ ((let g0 : (Grown c.args.out.now 0 (refusal_text c.args.e) c.args.out.now 0 (decimal c.args.e.number ++ (blank ∷ (decimal c.args.e.place ++ (newline ∷ []))))) = grown_start ((let room : 0 + length (refusal_text c.args.e) ≤ length c.args.out.now = let l = length-refusal c.args.e (omega arith) (omega arith) in omega arith in room)) in g0)) c.put_decimal-a.ensures.next c.put_decimal-a.ensures.put in g1))

pub put_decimal-c-requires : goal.put_decimal-c-requires
unfolding refusal_text
put_decimal-c-requires c = grown-space (decimal _) _ ((let g2 : (Grown c.args.out.now 0 (refusal_text c.args.e) c.put_byte-b.new.out c.put_byte-b.result (decimal c.args.e.place ++ (newline ∷ []))) = grown-more (blank ∷ []) ((let g1 : (Grown c.args.out.now 0 (refusal_text c.args.e) c.put_decimal-a.new.out c.put_decimal-a.result (blank ∷ (decimal c.args.e.place ++ (newline ∷ [])))) = grown-more _ ((let g0 : (Grown c.args.out.now 0 (refusal_text c.args.e) c.args.out.now 0 (decimal c.args.e.number ++ (blank ∷ (decimal c.args.e.place ++ (newline ∷ []))))) = grown_start ((let room : 0 + length (refusal_text c.args.e) ≤ length c.args.out.now = let l = length-refusal c.args.e (omega arith) (omega arith) in omega arith in room)) in g0)) c.put_decimal-a.ensures.next c.put_decimal-a.ensures.put in g1)) c.put_byte-b.ensures.next c.put_byte-b.ensures.put in g2))

pub put_byte-requires : goal.put_byte-requires
unfolding refusal_text
put_byte-requires c = grown-last-fits ((let g3 : (Grown c.args.out.now 0 (refusal_text c.args.e) c.put_decimal-c.new.out c.put_decimal-c.result (newline ∷ [])) = grown-more _ ((let g2 : (Grown c.args.out.now 0 (refusal_text c.args.e) c.put_byte-b.new.out c.put_byte-b.result (decimal c.args.e.place ++ (newline ∷ []))) = grown-more (blank ∷ []) ((let g1 : (Grown c.args.out.now 0 (refusal_text c.args.e) c.put_decimal-a.new.out c.put_decimal-a.result (blank ∷ (decimal c.args.e.place ++ (newline ∷ [])))) = grown-more _ ((let g0 : (Grown c.args.out.now 0 (refusal_text c.args.e) c.args.out.now 0 (decimal c.args.e.number ++ (blank ∷ (decimal c.args.e.place ++ (newline ∷ []))))) = grown_start ((let room : 0 + length (refusal_text c.args.e) ≤ length c.args.out.now = let l = length-refusal c.args.e (omega arith) (omega arith) in omega arith in room)) in g0)) c.put_decimal-a.ensures.next c.put_decimal-a.ensures.put in g1)) c.put_byte-b.ensures.next c.put_byte-b.ensures.put in g2)) c.put_decimal-c.ensures.next c.put_decimal-c.ensures.put in g3))

pub returns : goal.returns
unfolding refusal_text
returns c =
    let f = grown-last _ ((let g3 : (Grown c.args.out.now 0 (refusal_text c.args.e) c.put_decimal-c.new.out c.put_decimal-c.result (newline ∷ [])) = grown-more _ ((let g2 : (Grown c.args.out.now 0 (refusal_text c.args.e) c.put_byte-b.new.out c.put_byte-b.result (decimal c.args.e.place ++ (newline ∷ []))) = grown-more (blank ∷ []) ((let g1 : (Grown c.args.out.now 0 (refusal_text c.args.e) c.put_decimal-a.new.out c.put_decimal-a.result (blank ∷ (decimal c.args.e.place ++ (newline ∷ [])))) = grown-more _ ((let g0 : (Grown c.args.out.now 0 (refusal_text c.args.e) c.args.out.now 0 (decimal c.args.e.number ++ (blank ∷ (decimal c.args.e.place ++ (newline ∷ []))))) = grown_start ((let room : 0 + length (refusal_text c.args.e) ≤ length c.args.out.now = let l = length-refusal c.args.e (omega arith) (omega arith) in omega arith in room)) in g0)) c.put_decimal-a.ensures.next c.put_decimal-a.ensures.put in g1)) c.put_byte-b.ensures.next c.put_byte-b.ensures.put in g2)) c.put_decimal-c.ensures.next c.put_decimal-c.ensures.put in g3)) c.put_byte.ensures.next c.put_byte.ensures.put in
    let m = (let room : 0 + length (refusal_text c.args.e) ≤ length c.args.out.now = let l = length-refusal c.args.e (omega arith) (omega arith) in omega arith in room) in
    record { next = omega arith; put = f.1; within = omega arith }
