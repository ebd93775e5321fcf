-- The first fault of a sheet, look by look, as the reader comes to it; and what a sheet without a fault gives.
use Rattle.std.proofs.Common.{◌≡◌, ℕ, zero, suc, ◌+◌, ◌*◌, ◌-◌, ◌%◌, ◌<◌, ◌≤◌, Bool, true, false, eqb, ltb, List, [], ◌++◌, map, get_or, length, take, drop, Some, None, Ok, Err, vec_items, vec_len, Option, Result, sym, refl, ap, ◌∙◌, subst, arith, MatchResult}
use Rattle.std.proofs.lemmas.Bool.{false_from_ne_true, and_from, lt-ltb, eq-eqb, and_parts, ltb-true, leb-true, eqb-true}
use Rattle.std.proofs.lemmas.Bool.Decides.{nat_tests}
use Rattle.std.proofs.lemmas.List.{length-append, length-map, length-take, length-drop, get_or-map, get_or-take, get_or-drop, take_all, take_rest}
use Rattle.std.proofs.lemmas.List.FromFn.{fill_by_all}
use Rattle.refusal.specs.declared.refusal.Refusal.TheVariants.{Length, RowCount}
use Rattle.refusal.specs.declared.fault.Fault.{Fault}
use Rattle.refusal.specs.Faults.{fault_at, moved_to_row, moved_to_sheet}
use Rattle.circuit.specs.declared.gate.Gate.{Gate}
use Rattle.circuit.specs.declared.circuit.Circuit.{Circuit}
use Rattle.circuit.specs.declared.gate.Gate.TheVariants.{Unary}
use Rattle.circuit.specs.declared.gate.Unary.TheVariants.{Buffer}
use Rattle.circuit.specs.Gates.{Sheet, Lawful, Plain, total_rows}
use Rattle.circuit.specs.View.{drawn}
use Rattle.refusal.specs.declared.role.Role.{Role}
use Rattle.refusal.specs.declared.role.Role.TheVariants.{Alone, Target, Specification}
use Rattle.sheet_format.specs.Rows.{size, rows, pair_rows}
use Rattle.sheet_format.specs.Decoding.{row_at, gate_in, inputs_in, gates_in, outputs_in, gates_read, outputs_read, sheet_in}
use Rattle.sheet_format.specs.FirstFault.{or_else, first_below, at_row, gate_fault, output_fault, whole_rows, header_fault, rows_counted, gates_fault, outputs_fault, sheet_fault, after_target, pair_fault}
use Rattle.sheet_format.specs.Laws.{RowsOf, PairOf}
use Rattle.sheet_format.proofs.Sound.{sound, gates_length, outputs_length}
use Rattle.sheet_format.proofs.RoundTrips.{one_circuit, one_pair, sheet_laws, pair_laws}
use Rattle.sheet_format.proofs.CompleteRows.{length_rows}
use Rattle.sheet.specs.declared.parts.Header.{Header}
use Rattle.sheet.specs.Parts.{Headed, IsRows, gates_fault_in, outputs_fault_in, net_in}
use Rattle.sheet.specs.Answers.{SheetRead}

-- some rows of a text, from row o on
abbrev Part : List ℕ → ℕ → List (List ℕ) → Type 0
Part t o part = (i : ℕ) → i < length part → get_or part i [] ≡ row_at t (o + i)

part_long : (lines : List (List ℕ)) (o n k : ℕ) → k ≡ n → o + n ≤ length lines → length (take k (drop o lines)) ≡ n
part_long lines o n k e h = omega (arith, length-take k (drop o lines), length-drop o lines)

part_is : (t : List ℕ) (lines : List (List ℕ)) (o n k : ℕ) → IsRows t lines → k ≡ n → o + n ≤ length lines → Part t o (take k (drop o lines))
part_is t lines o n k are e h i l =
    let long = part_long lines o n k e h in
    get_or-take k (drop o lines) i [] (omega arith) ∙ get_or-drop o lines i [] ∙ are.each (o + i) (omega arith)

-- looks that answer alike
below_same : (n : ℕ) (f g : ℕ → Option Fault) → ((i : ℕ) → i < n → f i ≡ g i) → first_below n f ≡ first_below n g
below_same zero f g h = refl
below_same (suc n) f g h = λ i. or_else (below_same n f g (λ k l. h k (omega arith)) i) (h n (omega arith) i)

-- what the gates' rows say is what the bytes say
module _ (t : List ℕ) (part : List (List ℕ)) (is : Part t 1 part) where
  gates_front : (k : ℕ) → k ≤ length part → map gate_in (take k part) ≡ gates_read t k
  unfolding gates_read
  gates_front k h =
      fill_by_all (λ i. gate_in (row_at t (1 + i))) (map gate_in (take k part)) k (Unary Buffer 1) (simp (length-map, length-take) (omega arith))
      (λ i l. let few : i < length (take k part) = simp length-take (omega arith) in
      get_or-map gate_in (take k part) i [] (Unary Buffer 1) few ∙ ap gate_in (get_or-take k part i [] l ∙ is i (omega arith)))

  pub gates_same : map gate_in part ≡ gates_read t (length part)
  gates_same = ap (map gate_in) (sym (take_all (length part) part (omega arith))) ∙ gates_front (length part) (omega arith)

  pub gates_fault_same : (role : Role) (n : ℕ) → n ≡ inputs_in t → gates_fault_in role n part ≡ gates_fault role t (length part)
  gates_fault_same role n e =
      below_same (length part) _ _ (λ i l.
      let before = gates_front i (omega arith) in
      λ k. at_row (i + 2) (gate_fault role (e k + i + 1) (total_rows (before k)) (is i l k)))

-- and so for the outputs' rows
module _ (t : List ℕ) (g : ℕ) (part : List (List ℕ)) (is : Part t (1 + g) part) where
  pub outputs_same : map net_in part ≡ outputs_read t g (length part)
  unfolding outputs_read
  outputs_same =
      fill_by_all (λ j. net_in (row_at t (1 + g + j))) (map net_in part) (length part) 0 (length-map part net_in)
      (λ j l. get_or-map net_in part j [] 0 l ∙ ap net_in (is j l))

  pub outputs_fault_same : (n : ℕ) → g ≡ gates_in t → n ≡ inputs_in t + gates_in t → outputs_fault_in g n part ≡ outputs_fault t (length part)
  outputs_fault_same n e f =
      below_same (length part) _ _ (λ j l. λ k. at_row (e k + j + 2) (output_fault (f k) ((is j l ∙ ap (λ x. row_at t (1 + x + j)) e) k)))

-- rows are counted as their bytes are
scaled : (role : Role) (a b : ℕ) → rows_counted role (32 * a) (32 * b) ≡ rows_counted role a b
scaled Alone a b = grind (arith, nat_tests)
scaled Target a b = grind (arith, nat_tests)
scaled Specification a b = grind (arith, nat_tests)

enough : (role : Role) (a b : ℕ) → rows_counted role a b ≡ true → a ≤ b
enough Alone a b e = let same = eqb-true a b e in omega arith
enough Target a b e = leb-true a b e
enough Specification a b e = let same = eqb-true a b e in omega arith

module _ (role : Role) (t : List ℕ) where
  pub no_length : ((0 < length t) × (length t % 32 ≡ 0) → ⊥) → sheet_fault role t ≡ Some (fault_at Length 0)
  unfolding sheet_fault
  no_length h =
      let e : whole_rows t ≡ false = false_from_ne_true (whole_rows t) (λ e. let p = and_parts (ltb 0 (length t)) (eqb (length t % 32) 0) e in h (ltb-true _ _ p.0, eqb-true _ _ p.1)) in
      rw e

  -- the length is right
  module _ (lines : List (List ℕ)) (some : 0 < length lines) (are : IsRows t lines) where
    rows_whole : whole_rows t ≡ true
    rows_whole = let w = are.whole in and_from _ _ (lt-ltb 0 (length t) (omega arith)) (eq-eqb (length t % 32) 0 (omega arith))

    first_is : get_or lines 0 [] ≡ row_at t 0
    first_is = are.each 0 some

    pub no_header : (f : Fault) → header_fault (get_or lines 0 []) ≡ Some f → sheet_fault role t ≡ Some (moved_to_row 1 f)
    unfolding sheet_fault
    no_header f e = rw (rows_whole, ap header_fault (sym first_is) ∙ e)

    -- and so is the header
    module _ (h : Header) (fine : header_fault (get_or lines 0 []) ≡ None) (headed : Headed (get_or lines 0 []) h) where
      well : header_fault (row_at t 0) ≡ None
      well = ap header_fault (sym first_is) ∙ fine

      pub says : Headed (row_at t 0) h
      says = subst (λ r. Headed r h) first_is headed

      counted_is : (b : Bool) → rows_counted role (1 + h.gates + h.outputs) (length lines) ≡ b → rows_counted role (size (gates_in t) (outputs_in t)) (length t) ≡ b
      counted_is b e =
          ap (λ x. rows_counted role (size x (outputs_in t)) (length t)) (sym says.gates_are)
          ∙ ap (λ x. rows_counted role (size h.gates x) (length t)) (sym says.outputs_are)
          ∙ ap (rows_counted role (size h.gates h.outputs)) are.whole ∙ scaled role (1 + h.gates + h.outputs) (length lines) ∙ e

      pub no_count : rows_counted role (1 + h.gates + h.outputs) (length lines) ≡ false → sheet_fault role t ≡ Some (moved_to_row 1 (fault_at RowCount 1))
      unfolding sheet_fault
      no_count e = rw (rows_whole, well, counted_is false e)

      -- and the number of rows; the rows of gates are the k after the first
      module _ (count : rows_counted role (1 + h.gates + h.outputs) (length lines) ≡ true) (k : ℕ) (is_k : k ≡ h.gates) where
        abbrev part : List (List ℕ)
        part = take k (drop 1 lines)

        fit : 1 + h.gates + h.outputs ≤ length lines
        fit = enough role (1 + h.gates + h.outputs) (length lines) count

        long : length part ≡ h.gates
        long = part_long lines 1 h.gates k is_k (omega (arith, fit))

        is : Part t 1 part
        is = part_is t lines 1 h.gates k are is_k (omega (arith, fit))

        gates_at : (o : Option Fault) → gates_fault_in role h.inputs part ≡ o → gates_fault role t (gates_in t) ≡ o
        gates_at o e = ap (gates_fault role t) (sym (long ∙ says.gates_are)) ∙ sym (gates_fault_same t part is role h.inputs says.inputs_are) ∙ e

        pub no_gates : (f : Fault) → gates_fault_in role h.inputs part ≡ Some f → sheet_fault role t ≡ Some f
        unfolding sheet_fault
        no_gates f e = rw (rows_whole, well, counted_is true count, gates_at (Some f) e)

        -- and the gates; the rows of outputs are the m after them
        module _ (gates : gates_fault_in role h.inputs part ≡ None) (m : ℕ) (is_m : m ≡ h.outputs) where
          abbrev last : List (List ℕ)
          last = take m (drop (1 + h.gates) lines)

          end : length last ≡ h.outputs
          end = part_long lines (1 + h.gates) h.outputs m is_m fit

          ends : Part t (1 + h.gates) last
          ends = part_is t lines (1 + h.gates) h.outputs m are is_m fit

          outputs_at : (o : Option Fault) → outputs_fault_in h.gates (h.inputs + h.gates) last ≡ o → outputs_fault t (outputs_in t) ≡ o
          outputs_at o e =
              ap (outputs_fault t) (sym (end ∙ says.outputs_are))
              ∙ sym (outputs_fault_same t h.gates last ends (h.inputs + h.gates) says.gates_are (λ i. says.inputs_are i + says.gates_are i)) ∙ e

          pub no_outputs : (f : Fault) → outputs_fault_in h.gates (h.inputs + h.gates) last ≡ Some f → sheet_fault role t ≡ Some f
          unfolding sheet_fault
          no_outputs f e = rw (rows_whole, well, counted_is true count, gates_at None gates, outputs_at (Some f) e)

          -- what was read is what the bytes say
          pub all_read : (gs : List Gate) (qs : List ℕ) → gs ≡ map gate_in part → qs ≡ map net_in last → outputs_fault_in h.gates (h.inputs + h.gates) last ≡ None
              → (sheet_fault role t ≡ None) × ◌≡◌ {A = Sheet} (record { inputs = h.inputs; gates = gs; outputs = qs }) (sheet_in t)
          unfolding sheet_fault
          all_read gs qs is_gs is_qs e =
              let b : gs ≡ gates_read t (gates_in t) = is_gs ∙ gates_same t part is ∙ ap (gates_read t) (long ∙ says.gates_are) in
              let c : qs ≡ outputs_read t (gates_in t) (outputs_in t) =
              is_qs ∙ outputs_same t h.gates last ends ∙ (λ i. outputs_read t (says.gates_are i) ((end ∙ says.outputs_are) i)) in (
                rw (rows_whole, well, counted_is true count, gates_at None gates, outputs_at None e),
                λ i. record { inputs = says.inputs_are i; gates = b i; outputs = c i },
              )

-- so it is lawful
pub lawful_is : (role : Role) (t : List ℕ) (s : Sheet) → sheet_fault role t ≡ None → s ≡ sheet_in t → Lawful s
lawful_is role t s e p = subst Lawful (sym p) (sound role t e).lawful

none_or_some : {X : Type 0} (o : Option X) (x : X) → o ≡ None → o ≡ Some x → ⊥
none_or_some o x p q = cc

-- so reading a sheet alone answers the one circuit whose rows the bytes are
pub reads_alone : (t : List ℕ) (r : Result Circuit Fault) →
    MatchResult r (λ c. (sheet_fault Alone t ≡ None) × (drawn c ≡ sheet_in t)) (λ f. sheet_fault Alone t ≡ Some f) → SheetRead t r
reads_alone t (Ok c) h = (h.0, subst (λ s. RowsOf s t) (sym h.1) (one_circuit t h.0))
reads_alone t (Err f) h = (h, λ s l e. none_or_some (sheet_fault Alone t) f (ap (sheet_fault Alone) e ∙ sheet_laws.written_well s l) h)

-- a fault of a pair
pub pair_refused : (t : List ℕ) (f : Fault) → pair_fault t ≡ Some f → (x y : Sheet) → Lawful x → Lawful y → Plain y → t ≡ pair_rows x y → ⊥
pair_refused t f h x y lx ly p e = none_or_some (pair_fault t) f (ap pair_fault e ∙ pair_laws.written_well x y lx ly p) h

pub in_target : (t : List ℕ) (f : Fault) → sheet_fault Target t ≡ Some f → pair_fault t ≡ Some (moved_to_sheet 1 f)
in_target t f e = rw e

-- how long a circuit's rows are, by the lengths of its vectors
pub length_is : (c : Circuit) → length (rows (drawn c)) ≡ size (vec_len c.gates) (vec_len c.outputs)
length_is c = length_rows (drawn c) ∙ ap (λ g. size g (length (vec_items c.outputs))) (sym c.gates.ok.0) ∙ ap (size (vec_len c.gates)) (sym c.outputs.ok.0)

front_within : (t a b : List ℕ) → t ≡ a ++ b → length a ≤ length t
front_within t a b e = omega (arith, ap length e, length-append a b)

-- the target is read: where its rows end, and what a fault of the specification is to the pair
module _ (t : List ℕ) (c : Circuit) (e : sheet_fault Target t ≡ None) (is_c : drawn c ≡ sheet_in t) where
  pub target_within : length (rows (drawn c)) ≤ length t
  target_within = front_within t (rows (drawn c)) (after_target t) ((sound Target t e).written ∙ ap (λ s. rows s ++ after_target t) (sym is_c))

  pub after_is : (left : List ℕ) (n : ℕ) → n ≡ length (rows (drawn c)) → left ≡ take (length t - n) (drop n t) → left ≡ after_target t
  after_is left n is_n is_part =
      is_part ∙ take_rest t n
      ∙ ap (λ k. drop k t)
      (is_n ∙ length_rows (drawn c) ∙ ap (λ g. size g (length (vec_items c.outputs))) (ap (λ s. length s.gates) is_c ∙ gates_length t (gates_in t))
      ∙ ap (size (gates_in t)) (ap (λ s. length s.outputs) is_c ∙ outputs_length t (gates_in t) (outputs_in t)))

  pub in_specification : (f : Fault) → sheet_fault Specification (after_target t) ≡ Some f → pair_fault t ≡ Some (moved_to_sheet 2 f)
  in_specification f h = rw (e, h)

  -- both are read
  module _ (d : Circuit) (h : sheet_fault Specification (after_target t) ≡ None) (is_d : drawn d ≡ sheet_in (after_target t)) where
    pub in_neither : pair_fault t ≡ None
    in_neither = rw (e, h)

    pub pair_is : PairOf (drawn c) (drawn d) t
    pair_is = rw (is_c, is_d) (one_pair t in_neither)
