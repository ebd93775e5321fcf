-- A known lane of a net is the bit that every completion gives, and is known where all that is given is: a kind's operations
-- keep both relations, so the nets do.
use Rattle.std.proofs.Common.{◌≡◌, ℕ, ◌-◌, ◌<◌, ◌≤◌, Bool, false, List, ◌++◌, length, get_or, drop, sym, refl, ap, ◌∙◌, subst, arith}
use Rattle.std.proofs.lemmas.List.{get_or_append_left, get_or_default}
use Rattle.circuit.specs.Gates.{Sheet, total_rows}
use Rattle.meaning.specs.Meaning.{bit, net, low_bits, the_nets}
use Rattle.meaning.proofs.Places.{length_nets_from}
use Rattle.value.specs.Ops.{Ops}
use Rattle.value.specs.Lanes.{LaneLaws, Completes, Known}
use Rattle.value.specs.Values.{values, gate_value, net_count}
use Rattle.value.specs.Outcome.{LanesRight}
use Rattle.value.specs.Kinds.{bit_ops, bit_lane, word_ops, word_lane, ternary_ops, ternary_lane}
use Rattle.value.specs.Laws.{RightOver, EvaluationRight}
use Rattle.value.specs.declared.ternary.Ternary.{Ternary}
use Rattle.value.proofs.Outcomes.{Done}
use Rattle.value.specs.Sharpness.{ternary_laws}
use Rattle.value.proofs.Simulation.{Kept, Follows, follows_bits, follows_inputs, follows_at}
use Rattle.value.specs.Words.{bit_laws, word_laws}

module _ {K : Type 0} (ops : Ops K) (lanes : ℕ) (lane : K → ℕ → Ternary) (laws : LaneLaws ops lanes lane) where
  kept_completes : (j : ℕ) → j < lanes → Kept ops (λ x a. Completes (lane x j) a)
  kept_completes j h = record {
    falsity = subst (λ t. Completes t false) (sym (laws.falsity j h)) refl;
    inverse = λ x a p. laws.inverse x j a h p;
    both = λ x y a b p q. laws.both x y j a b h p q;
    either = λ x y a b p q. laws.either x y j a b h p q;
    differ = λ x y a b p q. laws.differ x y j a b h p q;
  }

  kept_known : (j : ℕ) → j < lanes → Kept ops (λ x a. Known (lane x j))
  kept_known j h = record {
    falsity = subst Known (sym (laws.falsity j h)) tt;
    inverse = λ x a p. laws.inverse_known x j h p;
    both = λ x y a b p q. laws.both_known x y j h p q;
    either = λ x y a b p q. laws.either_known x y j h p q;
    differ = λ x y a b p q. laws.differ_known x y j h p q;
  }

-- what the operations keep holds of each net
every_net : {K : Type 0} (ops : Ops K) (R : K → Bool → Type 0) → Kept ops R
    → (s : Sheet) (rows inputs : List K) → length rows ≡ total_rows s.gates → length inputs ≡ s.inputs
    → (setting word : ℕ) → ((i : ℕ) → i < length rows → R (get_or rows i ops.falsity) (bit setting i)) → ((i : ℕ) → i < length inputs → R (get_or inputs i ops.falsity) (bit word i))
    → (k : ℕ) (d : K) → 1 ≤ k → k ≤ net_count s → R (get_or (values ops s rows inputs) (k - 1) d) (net (the_nets s setting word) k)
every_net ops R kept s rows inputs all_rows all_inputs setting word hr hi k d low high =
    let vs = values ops s rows inputs in
    let bs = the_nets s setting word in
    let start : Follows R inputs (low_bits s.inputs word) = subst (λ n. Follows R inputs (low_bits n word)) all_inputs (follows_inputs R ops.falsity inputs word hi) in
    let all : Follows R vs bs = follows_bits ops R kept rows setting hr 0 inputs (low_bits s.inputs word) s.gates start (omega arith) in
    let held : R (get_or vs (k - 1) ops.falsity) (net bs k) = follows_at R ops.falsity false kept.falsity vs bs (k - 1) all in
    let long : k - 1 < length vs = omega (arith, length_nets_from (gate_value ops rows) ops.falsity 0 inputs s.gates) in
    subst (λ x. R x (net bs k)) (get_or_default vs (k - 1) ops.falsity d long) held

pub values_right : {K : Type 0} (ops : Ops K) (lanes : ℕ) (lane : K → ℕ → Ternary) → LaneLaws ops lanes lane
    → (s : Sheet) (rows inputs : List K) → length rows ≡ total_rows s.gates → length inputs ≡ s.inputs → LanesRight lanes lane s rows inputs (values ops s rows inputs)
values_right ops lanes lane laws s rows inputs all_rows all_inputs = record {
  completed = λ j h setting word hr hi.
      every_net ops (λ x a. Completes (lane x j) a) (kept_completes ops lanes lane laws j h) s rows inputs all_rows all_inputs setting word
      (λ i l. hr i ops.falsity l) (λ i l. hi i ops.falsity l);
  known = λ j h hr hi.
      every_net ops (λ x a. Known (lane x j)) (kept_known ops lanes lane laws j h) s rows inputs all_rows all_inputs 0 0
      (λ i l. hr i ops.falsity l) (λ i l. hi i ops.falsity l);
}

-- what is right of the nets' values is right of any list that begins with them
begins_right : {K : Type 0} (lanes : ℕ) (lane : K → ℕ → Ternary) (s : Sheet) (rows inputs xs ys zs : List K)
    → net_count s ≤ length xs → zs ≡ xs ++ ys → LanesRight lanes lane s rows inputs xs → LanesRight lanes lane s rows inputs zs
begins_right {K} lanes lane s rows inputs xs ys zs long begins right =
    let place : (k : ℕ) (d : K) → 1 ≤ k → k ≤ net_count s → get_or xs (k - 1) d ≡ get_or zs (k - 1) d = λ k d low high.
    let within : k - 1 < length xs = omega arith in
    sym (ap (λ l. get_or l (k - 1) d) begins ∙ get_or_append_left xs ys d (k - 1) within) in
    record {
      completed = λ j h setting word hr hi k d low high.
          subst (λ x. Completes (lane x j) (net (the_nets s setting word) k)) (place k d low high) (right.completed j h setting word hr hi k d low high);
      known = λ j h hr hi k d low high. subst (λ x. Known (lane x j)) (place k d low high) (right.known j h hr hi k d low high);
    }

pub lanes_right : {K : Type 0} (ops : Ops K) (lanes : ℕ) (lane : K → ℕ → Ternary) → LaneLaws ops lanes lane
    → (s : Sheet) (rows inputs before after : List K) → Done ops s rows inputs before after → LanesRight lanes lane s rows inputs after
lanes_right ops lanes lane laws s rows inputs before after d =
    begins_right lanes lane s rows inputs (values ops s rows inputs) (drop (net_count s) before) after
    (let m = d.inputs_are in omega (arith, length_nets_from (gate_value ops rows) ops.falsity 0 inputs s.gates)) d.filled
    (values_right ops lanes lane laws s rows inputs d.rows_are d.inputs_are)

right_over : {K : Type 0} (ops : Ops K) (lanes : ℕ) (lane : K → ℕ → Ternary) → LaneLaws ops lanes lane → RightOver ops lanes lane
right_over ops lanes lane laws s lawful rows inputs all_rows all_inputs = values_right ops lanes lane laws s rows inputs all_rows all_inputs

pub evaluation_right : (K : Type 0) → EvaluationRight K
evaluation_right K = record {
  any = right_over;
  bit = right_over bit_ops 1 bit_lane bit_laws;
  word = right_over word_ops 64 word_lane word_laws;
  ternary = right_over ternary_ops 1 ternary_lane ternary_laws;
}
