-- What an evaluation that went well has done, and when it goes well.
use Rattle.std.proofs.Common.{◌≡◌, ◌≤◌, Bool, true, false, cond, eqb, ltb, List, ◌++◌, length, drop, is_ok, Ok, Err, Result, sym, refl, ap, ◌∙◌}
use Rattle.std.proofs.lemmas.Bool.{ltb-false, le-ltb, eqb-true, eq-eqb, and_parts, and_from, cond-true, false≢true}
use Rattle.refusal.specs.declared.refusal.Refusal.{Refusal}
use Rattle.refusal.specs.declared.refusal.Refusal.TheVariants.{TooShort, ValueCount}
use Rattle.circuit.specs.Gates.{Sheet, total_rows}
use Rattle.value.specs.Ops.{Ops}
use Rattle.value.specs.Values.{values, net_count}
use Rattle.value.specs.Outcome.{Evaluated, counts_right}

pub record Done {K : Type 0} (ops : Ops K) (s : Sheet) (rows inputs before after : List K) : Type 0 where
  pub room : net_count s ≤ length before
  pub rows_are : length rows ≡ total_rows s.gates
  pub inputs_are : length inputs ≡ s.inputs
  pub filled : after ≡ values ops s rows inputs ++ drop (net_count s) before

abbrev chain : Bool → Bool → Result (Unit {0}) Refusal
chain short right = cond short (Err TooShort) (cond right (Ok tt) (Err ValueCount))

chain_ok : (short right : Bool) → is_ok (chain short right) ≡ true → (short ≡ false) × (right ≡ true)
chain_ok true right e = absurd (false≢true e)
chain_ok false true e = (refl, refl)
chain_ok false false e = absurd (false≢true e)

pub done : {K : Type 0} (ops : Ops K) (s : Sheet) (rows inputs before after : List K) (r : Result (Unit {0}) Refusal)
    → Evaluated ops s rows inputs before after r → is_ok r ≡ true → Done ops s rows inputs before after
done ops s rows inputs before after r e ok =
    let tests = chain_ok (ltb (length before) (net_count s)) (counts_right s rows inputs) (ap is_ok (sym e.answer) ∙ ok) in
    let counts = and_parts (eqb (length rows) (total_rows s.gates)) (eqb (length inputs) s.inputs) tests.1 in
    record {
      room = ltb-false (length before) (net_count s) tests.0;
      rows_are = eqb-true (length rows) (total_rows s.gates) counts.0;
      inputs_are = eqb-true (length inputs) s.inputs counts.1;
      filled = e.filled ∙ cond-true (is_ok r) (values ops s rows inputs ++ drop (net_count s) before) before ok;
    }

tests_pass : {K : Type 0} (s : Sheet) (rows inputs before : List K) → net_count s ≤ length before → length rows ≡ total_rows s.gates → length inputs ≡ s.inputs
    → chain (ltb (length before) (net_count s)) (counts_right s rows inputs) ≡ Ok tt
tests_pass s rows inputs before room all_rows all_inputs =
    let short = le-ltb (length before) (net_count s) room in
    let right = and_from (eqb (length rows) (total_rows s.gates)) (eqb (length inputs) s.inputs) (eq-eqb _ _ all_rows) (eq-eqb _ _ all_inputs) in
    ap (λ t. chain t (counts_right s rows inputs)) short ∙ ap (λ t. chain false t) right

pub went_well : {K : Type 0} (ops : Ops K) (s : Sheet) (rows inputs before after : List K) → Done ops s rows inputs before after → Evaluated ops s rows inputs before after (Ok tt)
went_well ops s rows inputs before after d = record {
  answer = sym (tests_pass s rows inputs before d.room d.rows_are d.inputs_are);
  filled = d.filled;
}

-- with room and as many values as the circuit takes, evaluation goes well
pub goes_well : {K : Type 0} (ops : Ops K) (s : Sheet) (rows inputs before after : List K) (r : Result (Unit {0}) Refusal)
    → Evaluated ops s rows inputs before after r → net_count s ≤ length before → length rows ≡ total_rows s.gates → length inputs ≡ s.inputs → is_ok r ≡ true
goes_well ops s rows inputs before after r e room all_rows all_inputs = ap is_ok (e.answer ∙ tests_pass s rows inputs before room all_rows all_inputs)
