-- The list made gate by gate holds the values of all nets; and any list that holds them is that one, since each net's value
-- is settled by the word or by nets before it.
use Rattle.std.proofs.Common.{◌≡◌, ℕ, zero, suc, ◌+◌, ◌-◌, ◌<◌, ◌≤◌, Bool, false, List, length, get_or, sym, ap, ◌∙◌, inl, inr, arith}
use Rattle.std.proofs.lemmas.List.{ext_get_or}
use Rattle.std.proofs.lemmas.List.FromFn.{get_or-map-range_with_len, length-map-range_with_len}
use Rattle.std.proofs.lemmas.Bool.{cases_lt}
use Rattle.circuit.specs.Kinds.{nature}
use Rattle.circuit.specs.Gates.{Sheet, Below, kind_of, nets, first_row, gate_at}
use Rattle.meaning.specs.Meaning.{bit, net, gate_means, Holds, low_bits, the_nets}
use Rattle.meaning.specs.Laws.{OneMeaning}
use Rattle.meaning.proofs.Places.{Local, map_agree, length_nets_from, nets_keep, nets_gate}

pub means_local : (setting : ℕ) → Local (gate_means setting)
means_local setting first f h g same = ap ((nature (kind_of g)).function (λ r. bit setting (first + r))) same

pub length_low_bits : (n w : ℕ) → length (low_bits n w) ≡ n
length_low_bits n w = length-map-range_with_len (bit w) 0 n

pub the_nets_hold : (s : Sheet) → Below s.inputs s.gates → (setting word : ℕ) → Holds s setting word (the_nets s setting word)
the_nets_hold s below setting word =
    let start = low_bits s.inputs word in
    let long = length_low_bits s.inputs word in
    record {
      long = omega (arith, length_nets_from (gate_means setting) false 0 start s.gates);
      input = λ k low high.
          nets_keep (gate_means setting) false 0 start s.gates (k - 1) false (omega arith)
          ∙ get_or-map-range_with_len (bit word) 0 s.inputs (k - 1) (k - 1) false (omega arith) (omega arith);
      gate = λ i l.
          let place : s.inputs + i + 1 - 1 ≡ s.inputs + i = omega arith in
          ap (λ m. get_or (the_nets s setting word) m false) place
          ∙ nets_gate (gate_means setting) (means_local setting) false start s.gates s.inputs i false long below l;
    }

-- two lists that hold agree at each net
module _ (s : Sheet) (below : Below s.inputs s.gates) (setting word : ℕ) (xs ys : List Bool) (left : Holds s setting word xs) (right : Holds s setting word ys) where
  agree : (bound k : ℕ) → k < bound → 1 ≤ k → k ≤ s.inputs + length s.gates → net xs k ≡ net ys k
  agree zero k b low high = absurd (omega arith)
  agree (suc bound) k b low high = elim (cases_lt s.inputs k) [
    | inr small ↦ left.input k low small ∙ sym (right.input k low small)
    | inl large ↦
        let i = k - s.inputs - 1 in
        let place : s.inputs + i + 1 ≡ k = omega arith in
        let within : i < length s.gates = omega arith in
        let first = first_row s.gates i in
        let g = gate_at s.gates i in
        let same = map_agree (net xs) (net ys) (s.inputs + i) (nets g) (below i) (λ a lo hi. agree bound a (omega arith) lo (omega arith)) in
        ap (net xs) (sym place) ∙ left.gate i within ∙ means_local setting first (net xs) (net ys) g same ∙ sym (right.gate i within) ∙ ap (net ys) place
  ]

  one_list : xs ≡ ys
  one_list = ext_get_or false xs ys (left.long ∙ sym right.long) (λ i l.
      let size = left.long in
      let place : suc i - 1 ≡ i = omega arith in
      ap (λ m. get_or xs m false) (sym place) ∙ agree (suc (suc i)) (suc i) (omega arith) (omega arith) (omega arith) ∙ ap (λ m. get_or ys m false) place)

pub one_meaning : OneMeaning
one_meaning = record {
  holds = λ s lawful setting word. the_nets_hold s lawful.below setting word;
  alone = λ s lawful setting word values held.
      one_list s lawful.below setting word values (the_nets s setting word) held (the_nets_hold s lawful.below setting word);
}
