use Rattle.std.proofs.Common.{sym, refl, ap, ◌∙◌, arith}
use Rattle.std.proofs.lemmas.List.{take_all}
use Rattle.sheet.specs.Written.{laid, texts}
use Rattle.sheet.proofs.Laid.{laid_none, rows_turn}
use Rattle.sheet.proofs.write.put_rows.Goals as goal

pub loop-i-init : goal.loop-i-init
loop-i-init g c = (λ text h. (sym (laid_none c.args.into.now 0 (omega arith)), refl), refl)

pub loop-i-preserved : goal.loop-i-preserved
loop-i-preserved g c =
    let i = c.loop-i.i in (
      λ text h.
          rows_turn text c.args.into.now c.loop-i.into _ i c.args.items.now c.index-items-i.result c.row_of.result c.put_row.ensures c.requires.room
          c.loop-i-test.true c.index-items-i.is (omega arith) (h i _ c.row_of.result c.loop-i-test.true c.row_of.ensures) (c.loop-i.invariant.0 text h),
      omega (arith, c.put_row.auto.into, c.loop-i.invariant.1),
    )

pub returns : goal.returns
returns g c =
    λ text h. (c.loop-i.invariant.0 text h).0 ∙ ap (λ xs. laid c.args.into.now 0 (texts text 0 xs)) (take_all c.loop-i.i c.args.items.now c.loop-i-test.false)
