use Rattle.std.proofs.Common.{◌-◌, length, refl, ap, ◌∙◌, arith}
use Rattle.std.proofs.lemmas.List.{length-append}
use Rattle.circuit.specs.View.{drawn}
use Rattle.sheet_format.specs.Rows.{rows}
use Rattle.sheet.specs.Written.{laid}
use Rattle.sheet.proofs.Laid.{laid_more, laid_within}
use Rattle.sheet.proofs.write.PairInRows.put.Goals as goal

pub returns : goal.returns
returns c =
    let target = rows (drawn c.args.self.now.target) in
    let specification = rows (drawn c.args.self.now.specification) in
    let n = c.sheet_length.result in
    let both = length-append target specification in
    laid_within c.put.new.into c.put-2.new.into specification n (length c.put.new.into - n) c.put-2.ensures refl
    (omega (arith, c.sheet_length.ensures.value, c.put.auto.into))
    ∙ ap (λ b. laid b n specification) c.put.ensures
    ∙ laid_more c.args.into.now 0 n target specification (omega arith) (omega (arith, c.sheet_length.ensures.value))
