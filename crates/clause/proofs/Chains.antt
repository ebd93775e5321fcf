-- The definitions of Logic as tests of every element, which an iterator's `any` and `all` make; and the first clause of a memory.
use Rattle.std.proofs.Common.{◌≡◌, ℕ, zero, suc, ◌≤◌, Bool, true, false, cond, ◌||◌, ◌&&◌, min, List, [], ◌∷◌, map, length, take, drop, sym, refl, ap, ◌∙◌, arith, length-drop}
use Rattle.std.specs.List.{list_any, list_all}
use Rattle.std.proofs.lemmas.List.{take-map, drop-map, take_min, drop_min}
use Rattle.clause.specs.Logic.{Row, Clause, literal_holds, clause_holds, all_hold, outside, some_outside}
use Rattle.clause.specs.Memory.{decode, clauses_of}
use Rattle.clause.specs.declared.literal.Literal.{Literal}

or_cond : (a b : Bool) → (a || b) ≡ cond a true b
or_cond true b = refl
or_cond false b = refl

and_cond : (a b : Bool) → (a && b) ≡ cond a b false
and_cond true b = refl
and_cond false b = refl

pub any_outside : (v : ℕ) (c : Clause) → list_any (λ l. outside v l.variable) c ≡ some_outside v c
any_outside v [] = refl
any_outside v (l ∷ c) = or_cond (outside v l.variable) _ ∙ ap (λ b. cond (outside v l.variable) true b) (any_outside v c)

-- a clause of elements that hold literals
pub any_holds : {W : Type 0} (literal : W → Literal) (row : Row) (c : List W) → list_any (λ w. literal_holds row (literal w)) c ≡ clause_holds row (map literal c)
any_holds literal row [] = refl
any_holds literal row (w ∷ c) = or_cond (literal_holds row (literal w)) _ ∙ ap (λ b. cond (literal_holds row (literal w)) true b) (any_holds literal row c)

pub every_holds : (row : Row) (cs : List Clause) → list_all (clause_holds row) cs ≡ all_hold row cs
every_holds row [] = refl
every_holds row (c ∷ cs) = and_cond (clause_holds row c) _ ∙ ap (λ b. cond (clause_holds row c) b false) (every_holds row cs)

-- more room for clauses than there are words changes nothing
decode_enough : (j k : ℕ) (ws : List Literal) → length ws ≤ j → length ws ≤ k → decode j ws ≡ decode k ws
decode_enough zero zero [] g h = refl
decode_enough zero (suc k) [] g h = refl
decode_enough (suc j) zero [] g h = refl
decode_enough (suc j) (suc k) [] g h = refl
decode_enough zero k (w ∷ ws) g h = absurd (omega arith)
decode_enough (suc j) zero (w ∷ ws) g h = absurd (omega arith)
decode_enough (suc j) (suc k) (w ∷ ws) g h =
    let left = length-drop w.variable ws in
    ap (λ x. take w.variable ws ∷ x) (decode_enough j k (drop w.variable ws) (omega arith) (omega arith))

pub first_clause : (w : Literal) (ws : List Literal) → clauses_of (w ∷ ws) ≡ take w.variable ws ∷ clauses_of (drop w.variable ws)
first_clause w ws =
    let left = length-drop w.variable ws in
    ap (λ x. take w.variable ws ∷ x) (decode_enough (length ws) (length (drop w.variable ws)) (drop w.variable ws) (omega arith) (omega arith))

-- the same in a memory of elements that hold literals, where the clause's size is capped by what is left
pub first_held : {W : Type 0} (literal : W → Literal) (words : List W) (h : W) (rest : List W) → words ≡ h ∷ rest
    → (clause later : List W) (size : ℕ) → size ≡ min (literal h).variable (length rest) → clause ≡ take size rest → later ≡ drop size rest
    → clauses_of (map literal words) ≡ map literal clause ∷ clauses_of (map literal later)
first_held literal words h rest e clause later size s c l =
    let n : ℕ = (literal h).variable in
    let front : map literal clause ≡ take n (map literal rest) =
    ap (map literal) (c ∙ ap (λ k. take k rest) s ∙ take_min n rest) ∙ sym (take-map literal n rest) in
    let back : map literal later ≡ drop n (map literal rest) =
    ap (map literal) (l ∙ ap (λ k. drop k rest) s ∙ drop_min n rest) ∙ sym (drop-map literal n rest) in
    ap (λ x. clauses_of (map literal x)) e ∙ first_clause (literal h) (map literal rest)
    ∙ ap (λ x. x ∷ clauses_of (drop n (map literal rest))) (sym front)
    ∙ ap (λ x. map literal clause ∷ clauses_of x) (sym back)
