-- Each stage is reached where those before it are fine, and the first that is not is the answer.
use Rattle.std.proofs.Common.{◌≡◌, ◌+◌, ◌-◌, arith, rules}
use Rattle.std.proofs.lemmas.Result.{err_from_is_err_and}
use Rattle.chains.specs.Chains.{links_verdict, order_verdict}
use Rattle.chains.proofs.Laws.Linked.{judged_linked}
use Rattle.chains.proofs.Laws.Marks.{heads_in}
use Rattle.chains.proofs.Laws.Stages.{stop-entries, stop-heads, stop-links, chains-judged-order}
use Rattle.chains.proofs.Laws.Theorem.{chains-end}
use Rattle.chains.proofs.checking.judge.Goals as goal

pub returns-in_err-judge : goal.returns-in_err-judge
returns-in_err-judge c =
    let p = err_from_is_err_and c.from_residual.result c.from_residual.ensures.1 in
    rw (p.1, p.2) (stop-entries _ _ _ _ _ _ c.args.table.now.counted c.judge.ensures c.in_err-judge.was)

pub returns-in_err-judge_heads : goal.returns-in_err-judge_heads
returns-in_err-judge_heads c =
    let e : c.args.table.now.days ≡ c.args.table.now.days + 1 - 1 = omega arith in
    let p = err_from_is_err_and c.from_residual-in_err-judge_heads.result c.from_residual-in_err-judge_heads.ensures.1 in
    rw (p.1, p.2) (stop-heads _ _ _ _ _ _ c.args.table.now.counted c.judge.ensures c.in_ok-judge.was (rw e at c.judge_heads.ensures) c.in_err-judge_heads.was)

pub judge_in_turn-requires : goal.judge_in_turn-requires
judge_in_turn-requires c = λ i l. (λ κs p b r k. omega arith, λ κs p b r h k. omega (arith, h.ensures, heads_in _ _ _ c.judge_heads.ensures c.in_ok-judge_heads.was i l))

pub returns-in_err-judge_in_turn : goal.returns-in_err-judge_in_turn
returns-in_err-judge_in_turn c =
    let e : c.args.table.now.days ≡ c.args.table.now.days + 1 - 1 = omega arith in
    let p = err_from_is_err_and c.from_residual-in_err-judge_in_turn.result c.from_residual-in_err-judge_in_turn.ensures.1 in
    let links = c.judge_in_turn.ensures (links_verdict c.args.table.now.bytes.now c.args.records.now.previous.now c.args.records.now.next.now) (λ i v l e. search rules) in
    rw (p.1, p.2) (stop-links _ _ _ _ _ _ c.args.table.now.counted c.judge.ensures c.in_ok-judge.was (rw e at c.judge_heads.ensures) c.in_ok-judge_heads.was (rw e at links) c.in_err-judge_in_turn.was)

pub judge_in_turn-requires-2 : goal.judge_in_turn-requires-2
judge_in_turn-requires-2 c = λ i l. (
  λ κs p b r k. omega arith,
  λ κs p b r h k.
      let r = c.args.records.now in
      let links = c.judge_in_turn.ensures (links_verdict c.args.table.now.bytes.now r.previous.now r.next.now) (λ i v l e. search rules) in
      let linked = judged_linked c.args.table.now.bytes.now _ _ _ _ _ (omega arith) r.sizes c.judge_heads.ensures c.in_ok-judge_heads.was links c.in_ok-judge_in_turn.was in
      rw h.ensures (chains-end _ _ _ linked i (omega arith)),
)

pub returns : goal.returns
returns c =
    let e : c.args.table.now.days ≡ c.args.table.now.days + 1 - 1 = omega arith in
    let r = c.args.records.now in
    let links = c.judge_in_turn.ensures (links_verdict c.args.table.now.bytes.now r.previous.now r.next.now) (λ i v l e. search rules) in
    let order = c.judge_in_turn-2.ensures (order_verdict c.args.table.now.bytes.now r.next.now r.kinds.now r.minutes.now) (λ i v l e. search rules) in
    chains-judged-order _ _ _ _ _ _ c.args.table.now.counted c.judge.ensures c.in_ok-judge.was (rw e at c.judge_heads.ensures) c.in_ok-judge_heads.was (rw e at links) c.in_ok-judge_in_turn.was (rw e at order)
