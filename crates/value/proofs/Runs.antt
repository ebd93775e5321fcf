-- The steps of the loop over the gates: a value written behind those before it leaves what is left to give the same answer.
use Rattle.std.proofs.Common.{◌≡◌, ℕ, zero, suc, ◌+◌, ◌^◌, ◌<◌, ◌≤◌, List, [], ◌∷◌, ◌++◌, map, length, get_or, take, drop, set, sym, refl, ap, ◌∙◌, subst, arith}
use borrow.Rule.Slice.PartMut.{put_mid}
use Rattle.std.proofs.lemmas.List.{drop_more, drop_all, take_more, take_more_set, take-append-drop, get_or_default, get_or-take, get_or-drop, drop-drop, drop-set-lt, length-map}
use Rattle.std.proofs.lemmas.Slice.{take-put_mid, drop-put_mid}
use Rattle.circuit.specs.declared.gate.Gate.{Gate}
use Rattle.circuit.specs.declared.gate.Gate.TheVariants.{Unary, Binary, Table}
use Rattle.circuit.specs.declared.gate.Unary.TheVariants.{Buffer}
use Rattle.circuit.specs.Gates.{Net, Below, kind_of, nets as net_list, named, own_rows, total_rows, first_row, gate_at}
use Rattle.circuit.proofs.Rows.{rows_push, rows_front}
use Rattle.meaning.specs.Nets.{at, nets_from}
use Rattle.value.specs.Ops.{Ops}
use Rattle.value.specs.Values.{Within, and_inputs, or_below, rows_from, row_of, kind_value, gate_value}

-- what holds of the nets by place, as they are listed
within_from : (n : ℕ) (ins : List ℕ) → ((j : ℕ) → Net n (get_or ins j 1)) → Within n ins
within_from n [] h = tt
within_from n (a ∷ ins) h = ((h 0).0, (h 0).1, within_from n ins (λ j. h (suc j)))

-- what gate i reads
pub gate_within : (n : ℕ) (gates : List Gate) (i m : ℕ) (d : Gate) → Below n gates → i < length gates → n + i ≡ m → Within m (net_list (get_or gates i d))
gate_within n gates i m d h l e =
    subst (λ k. Within k (net_list (get_or gates i d))) e
    (subst (λ g. Within (n + i) (net_list g)) (get_or_default gates i (Unary Buffer 1) d l) (within_from (n + i) (net_list (gate_at gates i)) (h i)))

-- one gate more: its rows come behind those before it, and all are among the rows of all gates
pub rows_next : (gates : List Gate) (i r : ℕ) (d : Gate) → i < length gates → r ≡ own_rows (get_or gates i d)
    → (first_row gates (i + 1) ≡ first_row gates i + r) × (first_row gates i + r ≤ total_rows gates)
rows_next gates i r d l e =
    let next : first_row gates (i + 1) ≡ first_row gates i + own_rows (get_or gates i d) = ap total_rows (take_more gates i d l) ∙ rows_push (take i gates) (get_or gates i d) in
    (omega arith, omega (arith, rows_front gates (i + 1)))

-- an or of what is alike below n
or_below_same : {K : Type 0} (ops : Ops K) (f h : ℕ → K) (n : ℕ) → ((r : ℕ) → r < n → f r ≡ h r) → or_below ops f n ≡ or_below ops h n
or_below_same ops f h zero same = refl
or_below_same ops f h (suc n) same =
    let before = or_below_same ops f h n (λ r l. same r (omega arith)) in
    let here = same n (omega arith) in
    cc

-- a gate's value rests on the rows of its own alone
value_of_own : {K : Type 0} (ops : Ops K) (rows own : List K) (first : ℕ) (net : ℕ → K) (gate : Gate) → own ≡ take (own_rows gate) (drop first rows)
    → kind_value ops (kind_of gate) (row_of ops own) (map net (net_list gate)) ≡ gate_value ops rows first net gate
value_of_own ops rows own first net (Unary u a) e = refl
value_of_own ops rows own first net (Binary o a b) e = refl
value_of_own ops rows own first net (Table t) e =
    let ins = map net (named t) in
    let each : (r : ℕ) → r < 2 ^ length ins → row_of ops own r ≡ rows_from ops rows first r = λ r l.
    let within : r < 2 ^ length (named t) = rw length-map at l in
    ap (λ xs. get_or xs r ops.falsity) e ∙ get_or-take (2 ^ length (named t)) (drop first rows) r ops.falsity within ∙ get_or-drop first rows r ops.falsity in
    or_below_same ops (λ r. and_inputs ops (row_of ops own r) r ins) (λ r. and_inputs ops (rows_from ops rows first r) r ins) (2 ^ length ins)
    (λ r l. ap (λ x. and_inputs ops x r ins) (each r l))

-- with the value v of gate i, made of the r rows of its own, written at place p, the values and gates that are left give what they gave before
pub run_more : {K : Type 0} (ops : Ops K) (rows left own nets : List K) (p q i r : ℕ) (gates : List Gate) (d : Gate) (v : K) (answer : List K)
    → i < length gates → p < length nets → q ≡ p + 1 → r ≡ own_rows (get_or gates i d)
    → left ≡ drop (first_row gates i) rows → own ≡ take r left
    → v ≡ kind_value ops (kind_of (get_or gates i d)) (row_of ops own) (map (at ops.falsity (take p nets)) (net_list (get_or gates i d)))
    → nets_from (gate_value ops rows) ops.falsity (first_row gates i) (take p nets) (drop i gates) ≡ answer
    → nets_from (gate_value ops rows) ops.falsity (first_row gates (i + 1)) (take q (set nets p v)) (drop (i + 1) gates) ≡ answer
run_more ops rows left own nets p q i r gates d v answer l room e size behind cut given before =
    let value = gate_value ops rows in
    let z = ops.falsity in
    let gate = get_or gates i d in
    let first = first_row gates i in
    let x = value first (at z (take p nets)) gate in
    let mine = value_of_own ops rows own first (at z (take p nets)) gate (cut ∙ ap (λ m. take m left) size ∙ ap (take (own_rows gate)) behind) in
    let front : take q (set nets p v) ≡ take p nets ++ x ∷ [] =
    ap (λ n. take n (set nets p v)) e ∙ take_more_set nets p v room ∙ ap (λ y. take p nets ++ y ∷ []) (given ∙ mine) in
    ap (λ vs. nets_from value z (first_row gates (i + 1)) vs (drop (i + 1) gates)) front
    ∙ ap (λ n. nets_from value z n (take p nets ++ x ∷ []) (drop (i + 1) gates)) (rows_next gates i (own_rows gate) d l refl).0
    ∙ sym (ap (nets_from value z first (take p nets)) (drop_more gates i d l)) ∙ before

-- the rows behind those of gate i
pub left_more : {K : Type 0} (rows left rest : List K) (i r : ℕ) (gates : List Gate) (d : Gate) → i < length gates → r ≡ own_rows (get_or gates i d)
    → left ≡ drop (first_row gates i) rows → rest ≡ drop r left → rest ≡ drop (first_row gates (i + 1)) rows
left_more rows left rest i r gates d l size behind cut =
    cut ∙ ap (drop r) behind ∙ drop-drop r (first_row gates i) rows ∙ ap (λ n. drop n rows) (sym (rows_next gates i r d l size).0)

-- what stands behind place p stays as it was
pub kept_more : {K : Type 0} (nets before : List K) (p q : ℕ) (v : K) → q ≡ p + 1 → drop p nets ≡ drop p before → drop q (set nets p v) ≡ drop q before
kept_more nets before p q v next kept =
    let past : p < q = omega arith in
    drop-set-lt q nets p v past ∙ ap (λ n. drop n nets) next ∙ sym (drop-drop 1 p nets) ∙ ap (drop 1) kept ∙ drop-drop 1 p before ∙ ap (λ n. drop n before) (sym next)

-- the last gate's value written
pub gates_written : {K : Type 0} (value : ℕ → (ℕ → K) → Gate → K) (z : K) (before nets : List K) (first n i : ℕ) (gates : List Gate) → i ≡ length gates
    → nets_from value z first (take (n + i) nets) (drop i gates) ≡ nets_from value z 0 (take n before) gates → drop (n + i) nets ≡ drop (n + i) before
    → nets ≡ nets_from value z 0 (take n before) gates ++ drop (n + length gates) before
gates_written value z before nets first n i gates all run kept =
    let none : drop i gates ≡ [] = drop_all i gates (omega arith) in
    let front : take (n + i) nets ≡ nets_from value z 0 (take n before) gates = sym (ap (nets_from value z first (take (n + i) nets)) none) ∙ run in
    let back : drop (n + i) nets ≡ drop (n + length gates) before = kept ∙ ap (λ k. drop (n + k) before) all in
    sym (take-append-drop (n + i) nets) ∙ ap (λ xs. xs ++ drop (n + i) nets) front ∙ ap (λ xs. nets_from value z 0 (take n before) gates ++ xs) back

-- the inputs' values written first, into the m places from the first on, and then the gates'
pub both_written : {K : Type 0} (value : ℕ → (ℕ → K) → Gate → K) (z : K) (inputs before part after : List K) (n m : ℕ) (gs gates : List Gate)
    → m ≡ n → length inputs ≡ n → part ≡ inputs → gs ≡ gates
    → after ≡ nets_from value z 0 (take n (put_mid 0 m before part)) gs ++ drop (n + length gs) (put_mid 0 m before part)
    → after ≡ nets_from value z 0 inputs gates ++ drop (n + length gates) before
both_written value z inputs before part after n m gs gates whole long copied same written =
    let size = ap length copied in
    let front : take n (put_mid 0 m before part) ≡ inputs = take-put_mid 0 m before part n (omega arith) (omega arith) ∙ copied in
    let back : drop (n + length gates) (put_mid 0 m before part) ≡ drop (n + length gates) before = drop-put_mid 0 m before part (n + length gates) (omega arith) (omega arith) (omega arith) in
    written
    ∙ ap (λ xs. nets_from value z 0 (take n (put_mid 0 m before part)) xs ++ drop (n + length xs) (put_mid 0 m before part)) same
    ∙ ap (λ xs. nets_from value z 0 xs gates ++ drop (n + length gates) (put_mid 0 m before part)) front
    ∙ ap (λ xs. nets_from value z 0 inputs gates ++ xs) back
