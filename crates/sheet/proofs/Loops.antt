-- What the loops of the readers keep, and one turn more.
use Rattle.std.proofs.Common.{◌≡◌, ℕ, zero, suc, ◌+◌, ◌-◌, ◌*◌, ◌/◌, ◌%◌, ◌<◌, ◌≤◌, Bool, true, false, cond, ◌≢◌, List, [], ◌∷◌, ◌++◌, map, length, get_or, take, drop, set, is_some, Some, None, Option, sym, refl, ap, ◌∙◌, subst, add-zero, add-suc, add-one, arith, drop-drop, below_more}
use mir.Val.{bool_byte}
use Rattle.std.specs.Simd.{first_chunks}
use Rattle.std.proofs.lemmas.List.{take_more, map-append, length-set, length-take, length-drop, get_or-set_same, get_or-set_other}
use Rattle.std.proofs.lemmas.List.FromFn.{fill_by_all}
use Rattle.refusal.specs.declared.fault.Fault.{Fault}
use Rattle.refusal.specs.declared.role.Role.{Role}
use Rattle.refusal.specs.Faults.{moved_to_row}
use Rattle.circuit.specs.declared.gate.Gate.{Gate}
use Rattle.circuit.specs.Gates.{own_rows, total_rows}
use Rattle.circuit.proofs.Rows.{rows_push}
use Rattle.layout.specs.declared.shape.Shape.{Shape}
use Rattle.layout.specs.Text.{blank, decoded}
use Rattle.sheet_format.specs.Decoding.{field, fields_of, filled_below, gate_in}
use Rattle.sheet_format.specs.FirstFault.{first_below, at_row, field_fault, fields_fault, gate_fault, output_fault}
use Rattle.sheet.specs.Parts.{IsRows, field_option, options, gates_fault_in, net_in}

-- chunk j of a text
pub chunk_at : (n k : ℕ) (t : List ℕ) (j : ℕ) (d : List ℕ) → j < k → get_or (first_chunks n k t) j d ≡ take n (drop (n * j) t)
chunk_at n zero t j d h = absurd (omega arith)
chunk_at n (suc k) t zero d h = let e : n * 0 ≡ 0 = omega arith in ap (λ i. take n (drop i t)) (sym e)
chunk_at n (suc k) t (suc j) d h =
    let e : n + n * j ≡ n * suc j = grind arith in
    chunk_at n k (drop n t) j d (omega arith) ∙ ap (take n) (drop-drop (n * j) n t ∙ ap (λ i. drop i t) e)

-- a look more, that is passed or that finds the first fault
pub below_passed : (look : ℕ → Option Fault) (i : ℕ) → first_below i look ≡ None → look i ≡ None → first_below (i + 1) look ≡ None
below_passed look i e f = rw (add-one, e) f

pub below_found : (look : ℕ → Option Fault) (i : ℕ) (f : Fault) → first_below i look ≡ None → look i ≡ Some f → first_below (i + 1) look ≡ Some f
below_found look i f e g = rw (add-one, e) g

-- a fault that is found stays the first
pub stays : (look : ℕ → Option Fault) (i : ℕ) (f : Fault) → first_below i look ≡ Some f → (d : ℕ) → first_below (i + d) look ≡ Some f
stays look i f e zero = rw add-zero e
stays look i f e (suc d) = rw (add-suc, stays look i f e d)

-- the first fault of n looks, where the first i are passed and look i finds it
pub found : (look : ℕ → Option Fault) (n i : ℕ) (f : Fault) → i < n → first_below i look ≡ None → look i ≡ Some f → first_below n look ≡ Some f
found look n i f h e g =
    let m : i + 1 + (n - (i + 1)) ≡ n = omega arith in
    subst (λ k. first_below k look ≡ Some f) m (stays look (i + 1) f (below_found look i f e g) (n - (i + 1)))

option_filled : (b : Bool) (n : ℕ) → bool_byte (is_some (cond b None (Some n))) ≡ cond b 0 1
option_filled true n = refl
option_filled false n = refl

pub one_at_most : (b : Bool) → bool_byte b ≤ 1
one_at_most true = omega arith
one_at_most false = omega arith

abbrev field_look : Shape → List ℕ → ℕ → Option Fault
field_look s text j = field_fault s j (filled_below j text) (field j text)

-- the first j fields are read without a fault
pub record Midst (s : Shape) (text : List ℕ) (fields : List (Option ℕ)) (k j : ℕ) : Type 0 where
  pub filled_is : k ≡ filled_below j text
  pub faultless : first_below j (field_look s text) ≡ None
  pub fields_are : (i : ℕ) → i < j → get_or fields i None ≡ field_option (field i text)
  pub six : length fields ≡ 6
  pub few : k ≤ j

-- a field more: v is what it holds, and w is 1 where it is filled
pub turn : (s : Shape) (text : List ℕ) (fields : List (Option ℕ)) (k j w : ℕ) (v : Option ℕ) → Midst s text fields k j → j < 6
    → field_fault s j k (field j text) ≡ None → v ≡ field_option (field j text) → w ≡ bool_byte (is_some v)
    → Midst s text (set fields j v) (k + w) (j + 1)
turn s text fields k j w v m h e is_v is_w =
    let count : w ≡ cond (blank (field j text)) 0 1 =
    is_w ∙ ap (λ o. bool_byte (is_some o)) is_v ∙ option_filled (blank (field j text)) (decoded (field j text)) in
    let one : w ≤ 1 = rw is_w (one_at_most (is_some v)) in
    record {
      filled_is = rw add-one (ap (λ i. i + w) m.filled_is ∙ ap (λ i. filled_below j text + i) count);
      faultless = below_passed (field_look s text) j m.faultless (ap (λ i. field_fault s j i (field j text)) (sym m.filled_is) ∙ e);
      fields_are =
          below_more _ j
          (λ i b. let ne : i ≢ j = omega arith in get_or-set_other fields j i v None ne ∙ m.fields_are i b)
          (let b : j < length fields = omega (arith, m.six) in get_or-set_same fields j v None b ∙ is_v);
      six = length-set fields j v ∙ m.six;
      few = omega (arith, m.few);
    }

-- a field's fault is the first of the row's fields
pub stopped : (s : Shape) (text : List ℕ) (fields : List (Option ℕ)) (k j : ℕ) (f : Fault) → Midst s text fields k j → j < 6
    → field_fault s j k (field j text) ≡ Some f → fields_fault s text ≡ Some f
stopped s text fields k j f m h e =
    found (field_look s text) 6 j f h m.faultless (ap (λ i. field_fault s j i (field j text)) (sym m.filled_is) ∙ e)

-- all six fields
pub six_read : (s : Shape) (text : List ℕ) (fields : List (Option ℕ)) (k j : ℕ) → Midst s text fields k j → j ≡ 6
    → (fields_fault s text ≡ None) × (fields ≡ options text)
six_read s text fields k j m e =
    let whole = subst (Midst s text fields k) e m in
    (whole.faultless, fill_by_all (λ i. field_option (field i text)) fields 6 None whole.six whole.fields_are)

-- the six fields of a row, as the chunks that the reader goes over
module _ (row : List ℕ) (chunks : List (List ℕ)) (long : length row ≡ 32)
    (are : chunks ≡ first_chunks 5 (length (fields_of row) / 5) (fields_of row)) where
  pub six_long : length (fields_of row) / 5 ≡ 6
  six_long = let e : length (fields_of row) ≡ 30 = simp (length-take, length-drop) (omega arith) in rw e

  pub field_chunk : (j : ℕ) → j < 6 → get_or chunks j [] ≡ field j (fields_of row)
  field_chunk j h =
      ap (λ c. get_or c j []) (are ∙ ap (λ n. first_chunks 5 n (fields_of row)) six_long) ∙ chunk_at 5 6 (fields_of row) j [] h

abbrev gate_look : Role → ℕ → List (List ℕ) → ℕ → Option Fault
gate_look role n rows i = at_row (i + 2) (gate_fault role (n + i + 1) (total_rows (map gate_in (take i rows))) (get_or rows i []))

-- the first i gates are read without a fault
pub record Gathered (role : Role) (n : ℕ) (rows : List (List ℕ)) (gates : List Gate) (len cap used i : ℕ) : Type 0 where
  pub gates_are : gates ≡ map gate_in (take i rows)
  pub faultless : first_below i (gate_look role n rows) ≡ None
  pub used_is : used ≡ total_rows gates
  pub few : used ≤ 64
  pub long : len ≡ i
  pub roomy : 200 ≤ cap

-- one more of what the rows say
map_more : {X : Type 0} (read : List ℕ → X) (rows : List (List ℕ)) (i : ℕ) (xs : List X) → i < length rows → xs ≡ map read (take i rows)
    → xs ++ read (get_or rows i []) ∷ [] ≡ map read (take (i + 1) rows)
map_more read rows i xs h e =
    ap (λ ys. ys ++ read (get_or rows i []) ∷ []) e ∙ sym (map-append read (take i rows) (get_or rows i [] ∷ [])) ∙ ap (map read) (sym (take_more rows i [] h))

-- a gate more, of net `own`
module _ (role : Role) (n : ℕ) (rows : List (List ℕ)) (gates : List Gate) (len cap used i own : ℕ) (m : Gathered role n rows gates len cap used i)
    (h : i < length rows) (is_own : own ≡ n + i + 1) where
  abbrev gate_row : List ℕ
  gate_row = get_or rows i []

  look_is : (o : Option Fault) → gate_fault role own used gate_row ≡ o → gate_look role n rows i ≡ at_row (i + 2) o
  look_is o e =
      ap (at_row (i + 2))
      (ap (λ x. gate_fault role x (total_rows (map gate_in (take i rows))) gate_row) (sym is_own)
      ∙ ap (λ x. gate_fault role own x gate_row) (sym (m.used_is ∙ ap total_rows m.gates_are)) ∙ e)

  pub gate_more : (gs : List Gate) (g : Gate) (r c l : ℕ) → gate_fault role own used gate_row ≡ None → g ≡ gate_in gate_row → used + own_rows g ≤ 64
      → r ≡ own_rows g → gs ≡ gates ++ g ∷ [] → l ≡ len + 1 → c ≡ cap → Gathered role n rows gs l c (used + r) (i + 1)
  gate_more gs g r c l e is_g few is_r is_gs is_l is_c = record {
    gates_are = is_gs ∙ ap (λ x. gates ++ x ∷ []) is_g ∙ map_more gate_in rows i gates h m.gates_are;
    faultless = below_passed (gate_look role n rows) i m.faultless (look_is None e);
    used_is = ap (λ x. used + x) is_r ∙ ap (λ x. x + own_rows g) m.used_is ∙ sym (ap total_rows is_gs ∙ rows_push gates g);
    few = omega (arith, few);
    long = omega (arith, m.long);
    roomy = omega (arith, m.roomy);
  }

  pub gate_stopped : (f : Fault) → gate_fault role own used gate_row ≡ Some f → gates_fault_in role n rows ≡ Some (moved_to_row (i + 2) f)
  gate_stopped f e = found (gate_look role n rows) (length rows) i (moved_to_row (i + 2) f) h m.faultless (look_is (Some f) e)

abbrev output_look : ℕ → ℕ → List (List ℕ) → ℕ → Option Fault
output_look g n rows j = at_row (g + j + 2) (output_fault n (get_or rows j []))

-- the first j outputs, below g gates, are read without a fault
pub record Collected (g n : ℕ) (rows : List (List ℕ)) (nets : List ℕ) (len cap j : ℕ) : Type 0 where
  pub nets_are : nets ≡ map net_in (take j rows)
  pub faultless : first_below j (output_look g n rows) ≡ None
  pub long : len ≡ j
  pub roomy : 16 ≤ cap

-- whole chunks of 32 are the rows of a text
pub rows_are : (t : List ℕ) (rows : List (List ℕ)) → rows ≡ first_chunks 32 (length t / 32) t → length rows ≡ length t / 32 → length t % 32 ≡ 0 → IsRows t rows
rows_are t rows are long even = record {
  whole = omega arith;
  each = λ k h. ap (λ r. get_or r k []) are ∙ chunk_at 32 (length t / 32) t k [] (omega arith);
}
