-- Each lane holds the setting and its input word whole, so it holds the circuit's bits at them.
use Rattle.std.proofs.Common.{◌≡◌, ◌≤◌, true, length, take, is_ok, ◌∙◌, arith}
use Rattle.std.proofs.lemmas.List.{length-set, length-take-le}
use Rattle.circuit.specs.View.{drawn}
use Rattle.value.specs.declared.word.Word.{Word}
use Rattle.value.specs.Kinds.{word_ops, word_lane}
use Rattle.value.specs.Words.{word_laws}
use Rattle.value.proofs.Exact.{front_lanes, words_right}
use Rattle.value.proofs.Outcomes.{goes_well}
use Rattle.matching.specs.Blocks.{lane_word}
use Rattle.matching.proofs.Runs.{front_more}
use Rattle.matching.proofs.lanes.run.Goals as goal

pub loop-r-preserved : goal.loop-r-preserved
loop-r-preserved c =
    let held = front_more c.loop-r.row-items c.loop-r.r c.from.result (λ j. c.args.setting) (omega arith) c.loop-r.invariant.1 (λ j h. c.from.ensures j h ∙ c.bit_of.ensures) in
    (omega (arith, length-set {A = Word}), held)

pub loop-i-preserved : goal.loop-i-preserved
loop-i-preserved c =
    let held = front_more c.loop-i.input-items c.loop-i.i c.input_lanes.result (lane_word c.args.block) (omega arith) c.loop-i.invariant.1 c.input_lanes.ensures in
    (omega (arith, length-set {A = Word}), held)

pub returns : goal.returns
returns c =
    let s = drawn c.args.circuit.now in
    let setting = c.args.setting in
    let block = c.args.block in
    let m = c.rows-m.result in
    let n = c.from-n.result in
    let rows = c.loop-r.row-items in
    let inputs = c.loop-i.input-items in
    let in_rows : m ≤ length rows = omega arith in
    let in_inputs : n ≤ length inputs = omega arith in
    let well : is_ok c.evaluate.result ≡ true =
    goes_well word_ops s (take m rows) (take n inputs) _ c.evaluate.new.nets c.evaluate.result c.evaluate.ensures.exact (omega arith)
    (omega (arith, length-take-le m rows in_rows)) (omega (arith, length-take-le n inputs in_inputs)) in
    words_right s (take m rows) (take n inputs) c.evaluate.new.nets (c.evaluate.ensures.lanes 64 word_lane word_laws well) (λ j. setting) (lane_word block)
    (front_lanes rows m (λ j. setting) (λ i j d l h. c.loop-r.invariant.1 i j d (omega arith) h) in_rows)
    (front_lanes inputs n (lane_word block) (λ i j d l h. c.loop-i.invariant.1 i j d (omega arith) h) in_inputs)
