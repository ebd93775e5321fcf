-- Round trips: what is read without a fault are the rows of one circuit alone, since the rows of any circuit are read as it.
use Rattle.std.proofs.Common.{◌≡◌, ℕ, ◌*◌, ◌%◌, List, [], ◌++◌, length, drop, None, sym, refl, ap, ◌∙◌, subst, arith}
use Rattle.std.proofs.lemmas.List.{append-nil, drop_at}
use Rattle.refusal.specs.Faults.{moved_to_sheet}
use Rattle.circuit.specs.Gates.{Sheet, Lawful, Plain}
use Rattle.refusal.specs.declared.role.Role.TheVariants.{Alone, Target, Specification}
use Rattle.sheet_format.specs.Rows.{rows, pair_rows, size}
use Rattle.sheet_format.specs.Decoding.{sheet_in, gates_in, outputs_in}
use Rattle.sheet_format.specs.FirstFault.{sheet_fault, pair_fault, after_target, at_sheet}
use Rattle.sheet_format.proofs.Read.{Says, Reads}
use Rattle.sheet_format.specs.Laws.{RowsOf, SheetLaws, PairOf, PairLaws}
use Rattle.sheet_format.proofs.SoundLooks.{both_passed, moved_passed}
use Rattle.sheet_format.proofs.CompleteFields.{or_none}
use Rattle.sheet_format.proofs.CompleteRows.{length_rows}
use Rattle.sheet_format.proofs.Sound.{sound, gates_length, outputs_length}
use Rattle.sheet_format.proofs.Complete.{complete}

-- a circuit's rows, with nothing after them
alone_reads : (s : Sheet) → Lawful s → Reads Alone s (rows s)
alone_reads s l = subst (Reads Alone s) (append-nil (rows s)) (complete Alone s [] l tt refl)

-- bytes without a fault are the rows of the circuit that they say, and of no other
pub one_circuit : (t : List ℕ) → sheet_fault Alone t ≡ None → RowsOf (sheet_in t) t
one_circuit t e =
    let x = sound Alone t e in
    let w : t ≡ rows (sheet_in t) = x.written ∙ ap (λ r. rows (sheet_in t) ++ r) x.follows ∙ append-nil (rows (sheet_in t)) in
    record { lawful = x.lawful; written = w; alone = λ s' l p. sym (alone_reads s' l).same ∙ ap sheet_in (sym p) }

pub sheet_laws : SheetLaws
sheet_laws = record { read_back = λ t e. (sheet_in t, one_circuit t e); written_well = λ s l. (alone_reads s l).faultless }

rows_of_32 : (n k : ℕ) → n ≡ 32 * k → n % 32 ≡ 0
rows_of_32 n k e = omega arith

-- a target's rows, and the specification's right after them
module _ (x y : Sheet) (lx : Lawful x) (ly : Lawful y) where
  target_reads : Reads Target x (pair_rows x y)
  target_reads = complete Target x (rows y) lx tt (rows_of_32 _ _ (length_rows y))

  size_is : size (gates_in (pair_rows x y)) (outputs_in (pair_rows x y)) ≡ length (rows x)
  size_is =
      let t = pair_rows x y in
      let s = target_reads.same in
      ap (λ g. size g (outputs_in t)) (sym (gates_length t (gates_in t)) ∙ ap (λ z. length z.gates) s)
      ∙ ap (size (length x.gates)) (sym (outputs_length t (gates_in t) (outputs_in t)) ∙ ap (λ z. length z.outputs) s) ∙ sym (length_rows x)

  rest_is : after_target (pair_rows x y) ≡ rows y
  rest_is = ap (λ n. drop n (pair_rows x y)) size_is ∙ drop_at (rows x) (rows y) (length (rows x)) refl

  specification_reads : Plain y → Reads Specification y (after_target (pair_rows x y))
  specification_reads p = subst (Reads Specification y) (append-nil (rows y) ∙ sym rest_is) (complete Specification y [] ly p refl)

-- what two sheets without a fault say
both_say : (t : List ℕ) → Says Target t → Says Specification (after_target t) → PairOf (sheet_in t) (sheet_in (after_target t)) t
both_say t a b = record {
  target_lawful = a.lawful;
  specification_lawful = b.lawful;
  specification_plain = b.suits;
  written =
      a.written
      ∙ ap (λ r. rows (sheet_in t) ++ r)
      (b.written ∙ ap (λ r. rows (sheet_in (after_target t)) ++ r) b.follows ∙ append-nil (rows (sheet_in (after_target t))));
  alone = λ x y lx ly e. (
    sym (target_reads x y lx ly).same ∙ ap sheet_in (sym e),
    sym (alone_reads y ly).same ∙ ap sheet_in (sym (rest_is x y lx ly)) ∙ ap (λ z. sheet_in (after_target z)) (sym e),
  );
}

-- the same of a pair
pub one_pair : (t : List ℕ) → pair_fault t ≡ None → PairOf (sheet_in t) (sheet_in (after_target t)) t
one_pair t e =
    let p = both_passed (at_sheet 1 (sheet_fault Target t)) (at_sheet 2 (sheet_fault Specification (after_target t))) e in
    both_say t (sound Target t (moved_passed (moved_to_sheet 1) (sheet_fault Target t) p.0))
    (sound Specification (after_target t) (moved_passed (moved_to_sheet 2) (sheet_fault Specification (after_target t)) p.1))

pub pair_laws : PairLaws
pair_laws = record {
  read_back = λ t e. (sheet_in t, sheet_in (after_target t), one_pair t e);
  written_well = λ x y lx ly p.
      or_none (ap (at_sheet 1) (target_reads x y lx ly).faultless) (ap (at_sheet 2) (specification_reads x y lx ly p).faultless);
}
