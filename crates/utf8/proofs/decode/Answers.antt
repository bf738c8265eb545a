-- `utf8::decode` meets its contract: each return is in one row of `front`, whose bytes the calls of `peek` gave.
use native.Mathlib.Omega.{arith}
use Rattle.utf8.proofs.Fronts.{one_decoded, trailing_decoded, two_decoded, three_decoded, four_decoded, none_decoded}
use Rattle.utf8.proofs.decode.Goals as goal

pub returns-then-lead-lt128 : goal.returns-then-lead-lt128
returns-then-lead-lt128 c = one_decoded c.args.text.now c.peek-lead.ensures (omega arith)

pub returns-then-lead-lt192 : goal.returns-then-lead-lt192
returns-then-lead-lt192 c = trailing_decoded c.args.text.now c.peek-lead.ensures (omega arith) (omega arith)

pub returns-then-lead-lt224 : goal.returns-then-lead-lt224
returns-then-lead-lt224 c = two_decoded c.args.text.now c.peek-lead.ensures c.peek-two.ensures _ c.extend.ensures c.shortest.ensures (omega arith) (omega arith)

pub returns-then-lead-lt240 : goal.returns-then-lead-lt240
returns-then-lead-lt240 c = three_decoded c.args.text.now c.peek-lead.ensures c.peek-two.ensures c.peek-three.ensures _ c.extend-then-lead-lt240.ensures c.extend-then-lead-lt240-2.ensures c.shortest-then-lead-lt240.ensures (omega arith) (omega arith)

pub returns-then-lead-lt248 : goal.returns-then-lead-lt248
returns-then-lead-lt248 c = four_decoded c.args.text.now c.peek-lead.ensures c.peek-two.ensures c.peek-three.ensures _ c.peek-four.ensures c.extend-then-lead-lt248.ensures c.extend-then-lead-lt248-2.ensures c.extend-then-lead-lt248-3.ensures c.shortest-then-lead-lt248.ensures (omega arith) (omega arith)

pub returns : goal.returns
returns c = none_decoded c.args.text.now c.peek-lead.ensures (omega arith)
