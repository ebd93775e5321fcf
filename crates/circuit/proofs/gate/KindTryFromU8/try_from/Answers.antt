use Rattle.std.proofs.Common.{rules, tests, sym, ap, ◌∙◌, eqb}
use Rattle.std.specs.Option.{ok_or}
use Rattle.std.proofs.lemmas.Iterator.Adapters.{option_map_id}
use Rattle.std.proofs.lemmas.Iterator.{YieldsList-from_slice}
use Rattle.std.proofs.lemmas.Iterator.Consumers.{YieldsList-from_copied}
use Rattle.std.proofs.lemmas.Iterator.Search.{find_from_yields_List}
use Rattle.refusal.specs.declared.refusal.Refusal.TheVariants.{Letter}
use Rattle.circuit.specs.Kinds.{letter_of, all_kinds}
use Rattle.circuit.proofs.gate.KindTryFromU8.try_from.Goals as goal

pub returns : goal.returns
returns c =
    let found = find_from_yields_List (λ k. eqb (letter_of k) c.args.letter) _ _ c.find.result c.find.ensures.ran
    (YieldsList-from_copied (YieldsList-from_slice all_kinds cc)) (λ x b q k. search (rules, tests)) in
    c.ok_or.ensures.value ∙ ap (λ o. ok_or o Letter) (sym (option_map_id c.find.result) ∙ found)
