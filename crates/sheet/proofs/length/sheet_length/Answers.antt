use Rattle.std.proofs.Common.{◌+◌, ◌*◌, sym, ap, ◌∙◌}
use Rattle.sheet.proofs.Sheets.{length_is}
use Rattle.sheet.proofs.length.sheet_length.Goals as goal

pub returns-clause-value : goal.returns-clause-value
returns-clause-value c =
    let t = c.args.circuit.now in
    ap (λ g. 32 * (1 + g + c.len-2.result)) c.len.ensures ∙ ap (λ q. 32 * (1 + t.gates.len + q)) c.len-2.ensures ∙ sym (length_is t)
