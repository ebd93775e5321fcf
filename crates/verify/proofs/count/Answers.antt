-- There are at most 2^16 input words, so those that differ can be counted: they are as many as are in the list of them, and so
-- as many as are below the number of words.
use Rattle.std.proofs.Common.{◌≡◌, ◌-◌, ◌^◌, ◌≤◌, not, length, sym, refl, ap, ◌∙◌, inl, arith, pow_mono}
use Rattle.std.specs.List.{range_with_len}
use Rattle.std.proofs.lemmas.Iterator.Consumers.{YieldsList-from_first, count_from_yields_List}
use Rattle.std.proofs.lemmas.List.Filters.{length-filter_both}
use Rattle.std.proofs.lemmas.List.FromFn.{length-range_with_len}
use Rattle.circuit.specs.View.{drawn}
use Rattle.matching.specs.Differing.{differs, words_left, differing_from}
use Rattle.verify.proofs.Below.{differing_below_all}
use Rattle.verify.proofs.count.Goals as goal

pub count-requires-clause-fits : goal.count-requires-clause-fits
count-requires-clause-fits c =
    let p = c.args.pair.now in
    let t = drawn p.target in
    let differ = differs t (drawn p.specification) c.args.setting in
    let all : length (words_left c.in_ok-differences.field-0) ≡ length (differing_from t (drawn p.specification) c.args.setting 0) = ap length c.in_ok-differences.ensures.1 in
    let few : 2 ^ t.inputs ≤ 2 ^ 16 = pow_mono {i = t.inputs} {j = 16} p.target.few.1 in
    inl (omega (arith, all, few, length-filter_both differ (λ w. not (differ w)) (λ w. refl) (range_with_len 0 (2 ^ t.inputs - 0)), length-range_with_len 0 (2 ^ t.inputs - 0)))

pub returns : goal.returns
returns c =
    let p = c.args.pair.now in
    let t = drawn p.target in
    let s = drawn p.specification in
    let listed : c.count.result ≡ length (differing_from t s c.args.setting 0) =
    count_from_yields_List _ _ c.count.ensures.ran (YieldsList-from_first (λ x. x) words_left _ c.in_ok-differences.ensures.1) in
    (c.in_ok-differences.ensures.0, listed ∙ sym (differing_below_all t s c.args.setting), listed)
