-- What a step comes to: the row holds, or one row more has failed.
use Rattle.std.proofs.Common.{◌≡◌, ℕ, ◌-◌, ◌^◌, ◌<◌, Bool, true, false, List, [], ◌∷◌, ◌++◌, map, if◌then◌else◌, append_assoc, length, take, drop, replicate, sym, refl, ap, ◌∙◌, subst, arith, take_at, take_all}
use borrow.Author.Tests.{both_ways}
use Rattle.std.proofs.lemmas.List.{map-id}
use Rattle.clause.specs.Logic.{Row, Clause, all_hold}
use Rattle.clause.specs.Memory.{head, clauses_of}
use Rattle.clause.specs.declared.literal.Literal.{Literal}
use Rattle.engine.specs.Calls.{Seeks}
use Rattle.engine.specs.View.{owed_in}
use Rattle.engine.specs.View.State.{none}
use Rattle.engine.specs.declared.types.Answer.TheVariants.{More, Unsatisfiable}
use Rattle.counting.specs.Meaning.{state_of}
use Rattle.counting.specs.Rows.{number, some_false, next}
use Rattle.counting.specs.Tried.{Tried}
use Rattle.engine.specs.declared.types.Phase.{Phase}
use Rattle.engine.specs.declared.types.Phase.TheVariants.{Idle, Searching}
use Rattle.counting.proofs.Order.{number_below, number_next, number_last, number_over, number_first, next_length, fails_up_to}

-- before a search there is nothing to keep
pub idle_tried : (row : Row) (cs : List Clause) → Tried Idle row cs
idle_tried row cs r x = let z : ◌≡◌ {A = ℕ} 0 1 = cc x.0 in absurd (omega arith)

-- the first row: none is before it
pub none_before : (row : Row) (n : ℕ) (cs : List Clause) → row ≡ replicate n false → Tried Searching row cs
none_before row n cs e r x = let zero_row = ap number e ∙ number_first n in absurd (omega (arith, x.1.less))

-- a row made anew in a vector that was emptied, where there was room
pub made : (room : Bool) (old new : Row) (len n : ℕ) → room ≡ true → old ≡ [] → len ≡ 0 → new ≡ (if room then take n old ++ replicate (n - len) false else old) → new ≡ replicate n false
made room old new len n r o l e =
    e ∙ ap (λ b. if b then take n old ++ replicate (n - len) false else old) r ∙ ap (λ xs. take n xs ++ replicate (n - len) false) o
    ∙ ap (λ xs. xs ++ replicate (n - len) false) (take_all n [] (omega arith)) ∙ ap (λ k. replicate k false) (omega arith)

-- a clause put last: its head was pushed, and its literals appended, where there was room
pub put_last : (room : Bool) (ws pushed new : List Literal) (c : Clause) (h : Literal) → room ≡ true → h ≡ head (length c) → pushed ≡ ws ++ (h ∷ []) → new ≡ (if room then pushed ++ c else pushed)
    → new ≡ ws ++ (head (length c) ∷ c)
put_last room ws pushed new c h r e p n = n ∙ ap (λ b. if b then pushed ++ c else pushed) r ∙ ap (λ x. x ++ c) (p ∙ ap (λ x. ws ++ (x ∷ [])) e) ∙ append_assoc ws (head (length c) ∷ []) c

-- a memory of literals holds those literals
pub as_held : (row : Row) (words held : List Literal) (t : Bool) → held ≡ words → t ≡ all_hold row (clauses_of (map (λ l. l) held)) → t ≡ all_hold row (clauses_of words)
as_held row words held t e h = h ∙ ap (λ ws. all_hold row (clauses_of ws)) (map-id held ∙ e)

-- a row that was lent as a slice, and counted up there
pub counted : (row lent new : Row) (len : ℕ) → length new ≡ len → new ≡ next lent → lent ≡ row → take len (new ++ drop (length new) row) ≡ next row
counted row lent new len l e same = take_at new (drop (length new) row) len l ∙ e ∙ ap next same

-- the row failed: what comes after it is the next row, or the first again
pub tried_on : (p : Phase) (row row' : Row) (cs : List Clause) → row' ≡ next row → Tried p row cs → false ≡ all_hold row cs → Tried p row' cs
tried_on p row row' cs e tried fails r x = go (some_false row) refl
  where
    same : number row' ≡ number (next row)
    same = ap number e

    long : length row' ≡ length row
    long = ap length e ∙ next_length row

    go : (b : Bool) → some_false row ≡ b → all_hold r cs ≡ false
    go true s =
        let more = number_next row s in
        fails_up_to row cs (λ q b. tried q (x.0, b)) (sym fails) r (x.1.long ∙ long) (omega (arith, same, x.1.less))
    go false s = let zero_row = number_over row s in absurd (omega (arith, same, x.1.less))

-- the row failed, and there is one after it
pub seeks_more : (p : Phase) (row row' : Row) (v : ℕ) (cs : List Clause) → p ≡ Searching → row' ≡ next row → true ≡ some_false row → Seeks v cs (owed_in v (state_of p row)) More (state_of Searching row')
seeks_more p row row' v cs ps e s =
    let more = number_next row (sym s) in
    let same = ap number e in
    let long : length row' ≡ length row = ap length e ∙ next_length row in
    let below : number row' < 2 ^ length row' = number_below row' in
    let powers : 2 ^ length row' ≡ 2 ^ length row = ap (λ k. 2 ^ k) long in
    subst (λ q. Seeks v cs (owed_in v (state_of q row)) More (state_of Searching row')) (sym ps) (2 ^ length row' - number row', refl, omega arith, omega arith)

-- the row failed, and it was the last
pub seeks_none : (p : Phase) (row : Row) (v : ℕ) (cs : List Clause) (debt : ℕ) → p ≡ Searching → length row ≡ v → false ≡ some_false row → Tried p row cs → false ≡ all_hold row cs → Seeks v cs debt Unsatisfiable none
seeks_none p row v cs debt ps l s tried fails = (
  refl,
  λ r m.
      let last = number_last row (sym s) in
      let below = number_below r in
      let same : length r ≡ length row = m.long ∙ sym l in
      let powers : 2 ^ length r ≡ 2 ^ length row = ap (λ k. 2 ^ k) same in
      both_ways (all_hold r cs) (fails_up_to row cs (λ q b. tried q (ps, b)) (sym fails) r same (omega arith)) m.holds,
)
